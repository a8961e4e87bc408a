-- What a change of the limit leaves.
use Rattle.std.proofs.Common.{◌≡◌, ℕ, zero, suc, ◌+◌, ◌-◌, ◌<◌, ◌≤◌, Bool, true, false, not, ◌&&◌, List, [], ◌∷◌, length, Option, Some, None, is_some, refl, sym, ap, subst, ◌∙◌, arith}
use Rattle.std.specs.Prelude.{nat_lt, min, if◌then◌else◌}
use Rattle.std.proofs.lemmas.Bool.Decides.{nat_tests}
use Rattle.conn_log.specs.declared.entry.Want.{Want}
use Rattle.conn_log.specs.declared.entry.Cause.TheVariants.{HostRoom}
use Rattle.conn_log.specs.declared.entry.Event.TheVariants.{Limit}
use Rattle.conn_log.specs.declared.entry.Entry.{Entry}
use Rattle.conn_log.specs.Connections.{is_among, opened, is_closed, is_idle, open_connections}
use Rattle.conn_log.specs.Waiting.{waiting}
use Rattle.conn_log.specs.Legal.{LimitAndFirst}
use Rattle.conn_log.specs.Sound.{IsSound}
use Rattle.conn_log.proofs.Steps.{is_open_is, is_idle_is}
use Rattle.host_state.specs.declared.closing.Closing.TheVariants.{Above}
use Rattle.host_state.specs.Steps.{add, moment_at, picked, without_picked}
use Rattle.host_state.specs.Idle.{stream_of}
use Rattle.host_state.specs.State.{HostState, KeepsOpen}
use Rattle.bundle.specs.declared.grant.Grant.{Grant}
use Rattle.host_state.specs.Calls.{open_for, open_for_head, open_for_first, after_limit, kept_limit as limit_kept, limit_refusal, leased_len, starts_due, is_queued, GrowsBy}
use Rattle.host_state.specs.Laws.{IsSoundAndQuiet}
use Rattle.host_state.specs.Bookings.{AreBooked}
use Rattle.bundle.specs.Grants.{grant_streams, GrantsKept, with_first, with_limit}
use Rattle.host_state.proofs.Growth.{grows_limit}
use Rattle.host_state.proofs.Soundness.{closes_above, picked_above, kept_new_limit}
use Rattle.host_state.proofs.Transfers.{told}
use Rattle.bundle.proofs.Granting.{Grants, grants_nothing, grants_then}
use Rattle.bundle.proofs.TurnLogs.{told_closed, told_first, waits_told, booked_same, grants_first, with_first_streams}

-- so many were closed as were open above the limit
pub closed_above : (settings : LimitAndFirst) (log changed : List Entry) (most now moment closed : ℕ) → IsSound settings log → leased_len log ≤ most → moment ≡ moment_at log now → changed ≡ add moment (Limit most) (without_picked (Above most) moment log) → length (open_connections log) ≡ length (open_connections changed) + closed → closed ≡ length (open_connections log) - most
closed_above settings log changed most now moment closed sound leased same_moment is fewer =
    let young = without_picked (Above most) (moment_at log now) log in
    let as_many : length (open_connections changed) ≡ length (open_connections young) = ap (λ l. length (open_connections l)) (is ∙ ap (λ k. add k (Limit most) (without_picked (Above most) k log)) same_moment) in
    omega (arith, fewer, as_many, (closes_above settings log most now sound).open_fewer, picked_above log most (moment_at log now) leased)

-- fewer are open than before where some were closed
pub freed_above : (before base after most given closed : ℕ) → before ≡ base + closed → closed ≡ before - most → given ≤ most - before → after ≡ base + given → nat_lt 0 closed ≡ nat_lt after before
freed_above before base after most given closed fewer above room more = grind (arith, nat_tests, fewer, above, room, more)

-- the host has room where one more may start
pub room_left : (queued : Bool) (waiting_len most open_len given : ℕ) → given < (if queued then 0 else min waiting_len (most - open_len)) → open_len < most
room_left true waiting_len most open_len given fewer = absurd (omega (arith, fewer))
room_left false waiting_len most open_len given fewer = omega (arith, fewer)

-- what is opened for those that wait is new
closed_first : (settings : LimitAndFirst) (moment n : ℕ) (log : List Entry) (d : ℕ) → is_closed (open_for_first n settings moment log) d ≡ is_closed log d
closed_first settings moment zero log d = refl
closed_first settings moment (suc n) log d = closed_first settings moment n (open_for_head settings moment log) d ∙ by_queue (waiting log)
  where
    by_queue : (wants : List Want) → is_closed (open_for settings moment log wants) d ≡ is_closed log d
    by_queue [] = refl
    by_queue (head ∷ others) = refl

-- streams of a host whose log tells which it has
module _ {S : Type 0} (old changed new : HostState S) (settings : LimitAndFirst) (moment n : ℕ) where
  pub limit_streams : ((c : ℕ) → is_some (stream_of old.streams c) ≡ is_idle old.log c) → ((c : ℕ) → is_some (stream_of changed.streams c) ≡ is_idle changed.log c) → opened changed.log ≡ opened old.log → KeepsOpen old changed → new.log ≡ open_for_first n settings moment changed.log → new.streams ≡ changed.streams → KeepsOpen old new
  limit_streams had has same keeps is same_streams d still = ap (λ streams. stream_of streams d) same_streams ∙ by_opened (is_among d (opened changed.log)) refl
    where
      not_closed : (a b : Bool) → (a && not b) ≡ true → b ≡ false
      not_closed true true never = absurd (cc)
      not_closed true false is = refl
      not_closed false b never = absurd (cc)

      nothing : (x y : Option S) → is_some x ≡ false → is_some y ≡ false → x ≡ y
      nothing None None e f = refl
      nothing (Some s) y e f = absurd (cc)
      nothing None (Some s) e f = absurd (cc)

      open_end : is_closed changed.log d ≡ false
      open_end = sym (closed_first settings moment n changed.log d) ∙ ap (λ l. is_closed l d) (sym is) ∙ not_closed (is_among d (opened new.log)) (is_closed new.log d) (sym (is_open_is new.log d) ∙ still)

      idle_not : (log : List Entry) → is_among d (opened log) ≡ false → is_idle log d ≡ false
      idle_not log out = grind (arith, is_idle_is log d, is_open_is log d, out)

      by_opened : (b : Bool) → is_among d (opened changed.log) ≡ b → stream_of changed.streams d ≡ stream_of old.streams d
      by_opened true there = keeps d (grind (arith, is_open_is changed.log d, there, open_end))
      by_opened false out = nothing (stream_of changed.streams d) (stream_of old.streams d) (has d ∙ idle_not changed.log out) (had d ∙ idle_not old.log (ap (is_among d) (sym same) ∙ out))

-- what a change of the limit leaves
pub record AfterLimit {S : Type 0} (settings : LimitAndFirst) (log after : List Entry) (grants granted : List (Grant S)) (booked : List ℕ) : Type 0 where
  pub settled : IsSoundAndQuiet settings after
  pub same : Grants log grants after granted
  pub halfway : AreBooked after booked
  pub streams : (d : ℕ) → stream_of (grant_streams granted) d ≡ stream_of (grant_streams grants) d
  pub grew : GrowsBy log after

module _ {S : Type 0} (settings : LimitAndFirst) (log : List Entry) (grants : List (Grant S)) (booked : List ℕ) (limit given now : ℕ) (kept : IsSoundAndQuiet settings log) (grants_kept : GrantsKept log grants) (are : AreBooked log booked) (allowed : limit_refusal limit log ≡ None) (within : given ≤ starts_due (is_queued settings log) (limit_kept limit) log) where
  limit_kept_so : AfterLimit settings log (after_limit (limit_kept limit) given settings log now) grants (with_limit (limit_kept limit) given settings log now grants) booked
  limit_kept_so =
      let most = limit_kept limit in
      let moment = moment_at log now in
      let young = without_picked (Above most) moment log in
      let base = add moment (Limit most) young in
      let after = open_for_first given settings moment base in
      let closed = closes_above settings log most now kept.sound in
      let same_base : (u : ℕ) → told base u ≡ told log u = λ u. told_closed settings log kept.sound HostRoom moment (picked (Above most) moment log) closed.sound closed.held closed.waiting u in
      let sound : (k : ℕ) → k < given → IsSound settings (open_for_first k settings moment base) = λ k fewer. (kept_new_limit settings log limit k now kept allowed (omega (arith, within, fewer))).sound in
      let first = grants_nothing log base grants same_base grants_kept in
      let rest = grants_first settings moment given base sound grants first.kept in
      record {
        settled = kept_new_limit settings log limit given now kept allowed within;
        same = grants_then log grants base grants after (with_first given settings moment base grants) first rest;
        halfway = booked_same log after booked (λ t out. told_first settings moment given base sound t (waits_told log base t (same_base t) ∙ out) ∙ same_base t) are;
        streams = λ d. with_first_streams settings moment given base grants d;
        grew = grows_limit most given settings log now;
      }

  pub limit_keeps : (settings' : LimitAndFirst) (after : List Entry) (granted : List (Grant S)) (most : ℕ) → settings' ≡ settings → most ≡ limit_kept limit → after ≡ after_limit most given settings log now → granted ≡ with_limit most given settings log now grants → AfterLimit settings' log after grants granted booked
  limit_keeps settings' after granted most same_settings same_most is_after is_granted =
      let now_after = is_after ∙ ap (λ n. after_limit n given settings log now) same_most in
      let now_granted = is_granted ∙ ap (λ n. with_limit n given settings log now grants) same_most in
      subst (λ s. AfterLimit s log after grants granted booked) (sym same_settings) (subst (λ l. AfterLimit settings log l grants granted booked) (sym now_after) (subst (λ gs. AfterLimit settings log (after_limit (limit_kept limit) given settings log now) grants gs booked) (sym now_granted) limit_kept_so))
