-- The stream of a lease on a connection that was idle before, once the oldest of all was closed.
use Rattle.std.proofs.Common.{◌≡◌, ℕ, ◌<◌, Bool, true, false, cond, List, [], ◌∷◌, length, filter, slice_set, slice_index_or, Option, Some, None, refl, sym, ap, subst, inl, inr, ◌∙◌, arith}
use Rattle.std.specs.Prelude.{if◌then◌else◌}
use Rattle.std.proofs.lemmas.Bool.Decides.{nat_tests, eqb_tells}
use Rattle.std.proofs.lemmas.List.{get_or-set_same, get_or-set_other}
use Rattle.budget.specs.Limits.{Bounds}
use Rattle.budget.specs.declared.permits.Try.{Try}
use Rattle.budget.specs.declared.permits.Try.TheVariants.{Got, Full, Contended}
use Rattle.conn_log.specs.declared.entry.Want.{Want}
use Rattle.conn_log.specs.declared.entry.Cause.{Cause}
use Rattle.conn_log.specs.declared.entry.Cause.TheVariants.{HostRoom, TotalRoom}
use Rattle.conn_log.specs.declared.entry.Entry.{Entry}
use Rattle.conn_log.specs.declared.entry.Event.TheVariants.{Closed}
use Rattle.conn_log.specs.declared.stamp.Stamp.{Stamp}
use Rattle.conn_log.specs.Connections.{is_idle, idle_connections}
use Rattle.conn_log.specs.Waiting.{waiting}
use Rattle.conn_log.specs.Fit.{suits, newest_fit, oldest}
use Rattle.conn_log.specs.Legal.{LimitAndFirst}
use Rattle.conn_log.proofs.Firsts.{first_among}
use Rattle.conn_log.proofs.Numbers.{is_among-filter}
use Rattle.conn_log.proofs.Steps.{idle_open_unheld}
use Rattle.host_state.specs.Idle.{stream_of}
use Rattle.host_state.specs.Steps.{moment_at, add, picked, cause_of, is_full}
use Rattle.host_state.specs.declared.closing.Closing.TheVariants.{TooOld}
use Rattle.bundle.specs.declared.answers.Got.TheVariants.{Lease as GotLease}
use Rattle.host_state.specs.Calls.{Start, Reply, starts, waits_on, no_room, again, acquired, start_behind, start_on, start_as_told, start_in_place_of}
use Rattle.host_state.specs.Effects.{tidied}
use Rattle.bundle.specs.Lease.{HostShown, Leasing, HasItsStream, KeepsStreams}
use Rattle.bundle.specs.Replies.{IsGot}
use Rattle.cache.specs.AllHosts.{AllHosts, log_at, has_room, with_room, without_oldest, closed_of, oldest_of_all}
use Rattle.bundle.specs.declared.answers.Acquired.{Acquired as AcquiredOf}
use Rattle.bundle.specs.declared.answers.Acquired.TheVariants.{Lease as LeaseOf, Wait as WaitOf}
use Rattle.cache.specs.Pools.{PoolShown, host_in, host_at, IsAcquired, GivesLease}
use Rattle.cache.specs.Turns.{KeepStreams}
use Rattle.cache.proofs.OneHost.{host_changed, other_host}
use Rattle.cache.proofs.OldestStamps.{idles_each, idles_closed}

-- a start on a connection that was idle before
abbrev pub IsReuse : List Entry → Reply → Type 0
IsReuse log reply = (s : Start) → reply ≡ starts s → s.reused ≡ true → is_idle log s.number ≡ true

module _ (settings : LimitAndFirst) (want : Want) (m : ℕ) (log : List Entry) where
  in_place_anew : (cause : Cause) (first : Option ℕ) → IsReuse log (start_in_place_of first cause settings want m log).reply
  in_place_anew cause None s is reused = absurd (cc)
  in_place_anew cause (Some c) s is reused = absurd (cc)

  told_anew : (is_last : Bool) (told : Try) → IsReuse log (start_as_told is_last told settings want m log).reply
  told_anew is_last Got s is reused = absurd (cc)
  told_anew is_last Contended s is reused = absurd (cc)
  told_anew false Full s is reused = absurd (cc)
  told_anew true Full s is reused = in_place_anew TotalRoom (oldest log) s is reused

  by_room : (is_last : Bool) (told : Try) (full : Bool) → IsReuse log (cond full (start_in_place_of (oldest log) HostRoom settings want m log) (start_as_told is_last told settings want m log)).reply
  by_room is_last told true s is reused = in_place_anew HostRoom (oldest log) s is reused
  by_room is_last told false s is reused = told_anew is_last told s is reused

  by_fit : (is_last : Bool) (told : Try) (fit : Option ℕ) → newest_fit log want m ≡ fit → IsReuse log (start_on fit is_last told settings want m log).reply
  by_fit is_last told (Some c) found s is reused =
      let among = first_among _ (filter (suits log want m) (idle_connections log)) c found in
      let idle : is_idle log c ≡ true = grind (arith, nat_tests, among, is_among-filter (suits log want m) c (idle_connections log)) in
      subst (λ (n : ℕ). is_idle log n ≡ true) (number_is is) idle
    where
      number_is : {r : Start} → starts r ≡ starts s → r.number ≡ s.number
      number_is e = ap number_of e
        where
          number_of : Reply → ℕ
          number_of (starts r) = r.number
          number_of _ = 0
  by_fit is_last told None found s is reused = by_room is_last told (is_full settings log) s is reused

pub reused_was_idle : (is_last : Bool) (told : Try) (settings : LimitAndFirst) (log : List Entry) (want : Want) (now : ℕ) → IsReuse log (acquired is_last told settings log want now).reply
reused_was_idle is_last told settings log want now = by_queue (waiting log)
  where
    by_queue : (wants : List Want) → IsReuse log (start_behind wants is_last told settings want (moment_at log now) log).reply
    by_queue [] s is reused =
        let m = moment_at log now in
        let young = tidied want m log in
        (idles_each (cause_of (TooOld want)) m (picked (TooOld want) m log) log s.number (by_fit settings want m young is_last told (newest_fit young want m) refl s is reused)).idle
    by_queue (head ∷ others) s is reused = absurd (cc)

module _ {S : Type 0} where
  pub lease_start : (host : ℕ) (want : Want) (reply : Reply) (lease : Leasing S) → IsGot host want reply (GotLease lease) → reply ≡ starts lease.start
  lease_start host want (starts s) lease is = ap starts (sym is.1)
  lease_start host want (waits_on w) lease is = absurd is
  lease_start host want no_room lease is = absurd is
  lease_start host want again lease is = absurd is

  -- the stream that a lease has of streams that were kept is that of the old ones
  pub stream_kept : (is_last : Bool) (told : Try) (old mid : HostShown S) (want : Want) (now host : ℕ) (lease : Leasing S) → KeepsStreams old mid
      → IsGot host want (acquired is_last told mid.settings mid.log want now).reply (GotLease lease) → HasItsStream mid.streams lease → HasItsStream old.streams lease
  stream_kept is_last told old mid want now host lease keeps got has = by_reuse lease.start.reused refl
    where
      by_reuse : (b : Bool) → lease.start.reused ≡ b → HasItsStream old.streams lease
      by_reuse true is =
          let reply = lease_start host want (acquired is_last told mid.settings mid.log want now).reply lease got in
          let idle = reused_was_idle is_last told mid.settings mid.log want now lease.start reply is in
          let kept = keeps lease.start.number (idle_open_unheld mid.log lease.start.number idle).0 in
          has ∙ ap (λ b. if b then stream_of mid.streams lease.start.number else None) is ∙ kept ∙ ap (λ b. if b then stream_of old.streams lease.start.number else None) (sym is)
      by_reuse false is =
          has ∙ ap (λ b. if b then stream_of mid.streams lease.start.number else None) is ∙ ap (λ b. if b then stream_of old.streams lease.start.number else None) (sym is)

  -- where one host keeps its streams all do
  pub streams_where_one_changes : (before after : PoolShown S) (site : ℕ) (new : HostShown S) → site < length before.hosts → after.hosts ≡ slice_set before.hosts site new → KeepsStreams (host_at before site) new → KeepStreams before after
  streams_where_one_changes before after site new there changed keeps host lt = elim (eqb_tells host site) [
    | inl same ↦ subst (λ (h : ℕ). KeepsStreams (host_at before h) (host_at after h)) (sym same.1) (subst (KeepsStreams (host_at before site)) (sym (ap (λ hosts. host_in hosts site) changed ∙ host_changed before.hosts site new there)) keeps)
    | inr other ↦ subst (KeepsStreams (host_at before host)) (sym (ap (λ hosts. host_in hosts host) changed ∙ other_host before.hosts site host new other.1)) (λ d still. refl)
  ]

  -- the stream of what an acquire gives, once it was left halfway: that of its host before
  pub stream_before : (old mid : HostShown S) (site : ℕ) (reply : Reply) (got : AcquiredOf S) → KeepsStreams old mid → IsReuse mid.log reply → IsAcquired site reply got
      → GivesLease got (HasItsStream mid.streams) → GivesLease got (HasItsStream old.streams)
  stream_before old mid site reply (WaitOf ticket) keeps reuse is has = tt
  stream_before old mid site (waits_on w) (LeaseOf lease) keeps reuse is has = absurd is
  stream_before old mid site no_room (LeaseOf lease) keeps reuse is has = absurd is
  stream_before old mid site again (LeaseOf lease) keeps reuse is has = absurd is
  stream_before old mid site (starts s) (LeaseOf lease) keeps reuse is has = by_reuse lease.start.reused refl
    where
      by_reuse : (b : Bool) → lease.start.reused ≡ b → HasItsStream old.streams lease
      by_reuse true reused =
          let idle = reuse lease.start (ap starts (sym is.1)) reused in
          let kept = keeps lease.start.number (idle_open_unheld mid.log lease.start.number idle).0 in
          has ∙ ap (λ b. if b then stream_of mid.streams lease.start.number else None) reused ∙ kept ∙ ap (λ b. if b then stream_of old.streams lease.start.number else None) (sym reused)
      by_reuse false reused =
          has ∙ ap (λ b. if b then stream_of mid.streams lease.start.number else None) reused ∙ ap (λ b. if b then stream_of old.streams lease.start.number else None) (sym reused)

-- what is idle at a host once room was made was idle there before
pub idle_before_room : (limits : Bounds) (now : ℕ) (all : AllHosts) (site n : ℕ) → site < length all.logs → is_idle (log_at (with_room limits now all) site) n ≡ true → is_idle (log_at all site) n ≡ true
idle_before_room limits now all site n there = by_roominess (has_room limits all)
  where
    by_stamp : (oldest : Option Stamp) → is_idle (log_at (closed_of TotalRoom now oldest all) site) n ≡ true → is_idle (log_at all site) n ≡ true
    by_stamp None idle = idle
    by_stamp (Some s) idle =
        let closed = add (moment_at (log_at all s.host) now) (Closed s.number TotalRoom) (log_at all s.host) in
        elim (eqb_tells site s.host) [
          | inl same ↦
              let here = subst (λ (h : ℕ). h < length all.logs) same.1 there in
              let read = ap (λ (h : ℕ). slice_index_or (slice_set all.logs s.host closed) h []) same.1 ∙ get_or-set_same all.logs s.host closed [] here in
              let was = idles_closed (moment_at (log_at all s.host) now) s.number TotalRoom (log_at all s.host) n (subst (λ (l : List Entry). is_idle l n ≡ true) read idle) in
              subst (λ (h : ℕ). is_idle (log_at all h) n ≡ true) (sym same.1) was.idle
          | inr other ↦ subst (λ (l : List Entry). is_idle l n ≡ true) (get_or-set_other all.logs s.host site closed [] other.1) idle
        ]

    by_roominess : (room : Bool) → is_idle (log_at (if room then all else without_oldest TotalRoom now all) site) n ≡ true → is_idle (log_at all site) n ≡ true
    by_roominess true idle = idle
    by_roominess false idle = by_stamp (oldest_of_all all) idle
