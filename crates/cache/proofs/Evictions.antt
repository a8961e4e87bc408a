-- What becomes of all hosts where the oldest idle connection of all is closed.
use Rattle.std.proofs.Common.{◌≡◌, ◌⊎◌, ℕ, suc, ◌+◌, ◌<◌, Bool, true, false, not, ◌==◌, ◌&&◌, List, [], ◌∷◌, length, slice_set, slice_index_or, Option, Some, None, is_none, refl, sym, ap, subst, ◌∙◌, inl, inr, arith}
use Rattle.std.specs.Prelude.{if◌then◌else◌}
use Rattle.std.specs.Option.{option_map, option_and_then, IfSome}
use Rattle.std.specs.List.{sum_by}
use Rattle.std.proofs.lemmas.Bool.Decides.{nat_tests, eqb_tells}
use Rattle.std.proofs.lemmas.List.{length-set}
use Rattle.std.proofs.lemmas.List.Sums.{sum_by-cons}
use Rattle.persistence.specs.declared.facts.Facts.{Facts}
use Rattle.budget.specs.Limits.{Bounds}
use Rattle.conn_log.specs.declared.stamp.Stamp.{Stamp}
use Rattle.conn_log.specs.declared.entry.Want.{Want}
use Rattle.conn_log.specs.declared.entry.Cause.{Cause}
use Rattle.conn_log.specs.declared.entry.Event.TheVariants.{Closed}
use Rattle.conn_log.specs.declared.entry.Entry.{Entry}
use Rattle.conn_log.specs.Connections.{idle_connections, is_idle, holder_want, held_number}
use Rattle.conn_log.specs.Waiting.{waiting}
use Rattle.conn_log.specs.Fit.{is_earlier, first_by, is_idle_longer, stamp_of, oldest, oldest_stamp}
use Rattle.conn_log.specs.Legal.{LimitAndFirst, owed, owed_for}
use Rattle.conn_log.specs.Sound.{IsSound, is_of_idle}
use Rattle.conn_log.proofs.Firsts.{first_among}
use Rattle.conn_log.proofs.Holdings.{unless_it_is, number_closed, holder_closed}
use Rattle.conn_log.proofs.Steps.{idle_open_unheld}
use Rattle.host_state.specs.Steps.{moment_at, add}
use Rattle.host_state.specs.Calls.{is_anyone, returned, becomes_idle}
use Rattle.host_state.specs.Effects.{open_len, idle_len, Closes}
use Rattle.host_state.proofs.Soundness.{none_first, held_want}
use Rattle.host_state.proofs.Counts.{evict_closes}
use Rattle.cache.specs.Oldest.{earlier_of, earliest, stamps_from, stamp_at}
use Rattle.cache.specs.AllHosts.{AllHosts, log_at, terms, total, kept, waiting_len, total_waiting, oldest_of_all, closed_of, without_oldest, IsLawful}
use Rattle.cache.proofs.StampOrder.{earliest_own, there_at, length_stamps, stamp_from, own_host}
use Rattle.cache.proofs.Lawfulness.{log_changed, log_other, sum_moved, lawful_unmarked, queued_same}

-- where there is no oldest of all nothing is kept
neither_of : (x y : Option Stamp) → earlier_of x y ≡ None → (x ≡ None) × (y ≡ None)
neither_of None y none = (refl, none)
neither_of (Some x) None none = absurd (cc)
neither_of (Some x) (Some y) none = absurd (either (is_earlier y x) none)
  where
    either : (b : Bool) → (if b then Some y else Some x) ≡ None → ⊥
    either true is = cc
    either false is = cc

no_stamp : (log : List Entry) (host : ℕ) → oldest_stamp log host ≡ None → oldest log ≡ None
no_stamp log host = of_found (oldest log)
  where
    of_found : (found : Option ℕ) → option_map (stamp_of log host) found ≡ None → found ≡ None
    of_found None none = refl
    of_found (Some c) none = absurd (cc)

none_idle : (log : List Entry) → oldest log ≡ None → idle_connections log ≡ []
none_idle log none = none_first (is_idle_longer log) (idle_connections log) none

none_kept_from : (from : ℕ) (logs : List (List Entry)) → earliest (stamps_from from logs) ≡ None → sum_by idle_len logs ≡ 0
none_kept_from from [] none = refl
none_kept_from from (log ∷ logs) none =
    let both = neither_of (oldest_stamp log from) (earliest (stamps_from (suc from) logs)) none in
    let here : idle_len log ≡ 0 = ap length (none_idle log (no_stamp log from both.0)) in
    omega (arith, here, none_kept_from (suc from) logs both.1, sum_by-cons idle_len log logs)

pub none_kept : (all : AllHosts) → oldest_of_all all ≡ None → kept all ≡ 0
none_kept all none = none_kept_from 0 all.logs none

-- the oldest of all is the oldest of its host
pub record IsOldest (all : AllHosts) (stamp : Stamp) : Type 0 where
  pub there : stamp.host < length all.logs
  pub here : oldest (log_at all stamp.host) ≡ Some stamp.number

number_of : (log : List Entry) (host : ℕ) (stamp : Stamp) → oldest_stamp log host ≡ Some stamp → oldest log ≡ Some stamp.number
number_of log host stamp = of_found (oldest log)
  where
    of_found : (found : Option ℕ) → option_map (stamp_of log host) found ≡ Some stamp → found ≡ Some stamp.number
    of_found None is = absurd (cc)
    of_found (Some c) is = ap (option_map (λ (s : Stamp). s.number)) is

pub oldest_is : (all : AllHosts) (stamp : Stamp) → oldest_of_all all ≡ Some stamp → IsOldest all stamp
oldest_is all stamp first =
    let stamps = stamps_from 0 all.logs in
    let at_host : stamp_at stamps stamp.host ≡ Some stamp = earliest_own stamps own stamp first in
    let there : stamp.host < length all.logs = omega (arith, there_at stamps stamp.host stamp at_host, length_stamps 0 all.logs) in
    record {
      there = there;
      here = number_of (log_at all stamp.host) stamp.host stamp (sym (ap (oldest_stamp (log_at all stamp.host)) (zero_more stamp.host)) ∙ sym (stamp_from 0 all.logs stamp.host there) ∙ at_host);
    }
  where
    zero_more : (n : ℕ) → 0 + n ≡ n
    zero_more n = omega arith

    own : (host : ℕ) → host < length (stamps_from 0 all.logs) → IfSome (stamp_at (stamps_from 0 all.logs) host) (λ (s : Stamp). s.host ≡ host)
    own host lt =
        subst (λ (x : Option Stamp). IfSome x (λ (s : Stamp). s.host ≡ host))
        (sym (stamp_from 0 all.logs host (omega (arith, lt, length_stamps 0 all.logs)) ∙ ap (oldest_stamp (log_at all host)) (zero_more host)))
        (own_host (log_at all host) host)

-- a log is as it was, or its oldest was closed
abbrev pub IsLessOldest : Cause → ℕ → List Entry → List Entry → Type 0
IsLessOldest cause now old new = (new ≡ old) ⊎ ((c : ℕ) × (oldest old ≡ Some c) × (new ≡ add (moment_at old now) (Closed c cause) old))

-- one fewer is open, and kept; all else stays
pub record LosesOldest (cause : Cause) (now : ℕ) (limits : Bounds) (all after : AllHosts) : Type 0 where
  pub lawful : IsLawful limits after
  pub one_fewer_open : total after + 1 ≡ total all
  pub one_fewer_kept : kept after + 1 ≡ kept all
  pub as_many_wait : total_waiting after ≡ total_waiting all
  pub queue : after.queue ≡ all.queue
  pub count : length after.logs ≡ length all.logs
  pub each : (host : ℕ) → IsLessOldest cause now (log_at all host) (log_at after host)

module _ (cause : Cause) (fits : is_of_idle cause ≡ true) (limits : Bounds) (now : ℕ) (all : AllHosts) (lawful : IsLawful limits all) where
  loses : (stamp : Stamp) → IsOldest all stamp → LosesOldest cause now limits all (closed_of cause now (Some stamp) all)
  loses stamp first =
      let host = stamp.host in
      let log = log_at all host in
      let new = add (moment_at log now) (Closed stamp.number cause) log in
      let closes : Closes 1 (terms limits) log new = evict_closes (terms limits) log stamp.number cause now (lawful.settled host first.there) first.here fits in
      let opens = sum_moved open_len all.logs host new first.there in
      let idles = sum_moved idle_len all.logs host new first.there in
      let waits = sum_moved waiting_len all.logs host new first.there in
      record {
        lawful = lawful_unmarked limits all lawful host first.there new closes.settled
            (queued_same (terms limits) log new (lawful.settled host first.there) closes.same_wait (λ none. absurd (not_none log stamp.number none first.here)))
            (omega (arith, closes.number_open, lawful.total_within)) (omega (arith, closes.number_idle, lawful.kept_within));
        one_fewer_open = omega (arith, closes.number_open, opens);
        one_fewer_kept = omega (arith, closes.number_idle, idles);
        as_many_wait = omega (arith, ap length closes.same_wait, waits);
        queue = refl;
        count = length-set all.logs host new;
        each = λ other. elim (eqb_tells other host) [
          | inl same ↦ at_host other same.1
          | inr apart ↦ inl (log_other all.logs host other new apart.1)
        ];
      }
    where
      not_none : (log : List Entry) (c : ℕ) → idle_connections log ≡ [] → oldest log ≡ Some c → ⊥
      not_none log c none is = absurd (cc (is, ap (first_by (is_idle_longer log)) none))

      at_host : (other : ℕ) → other ≡ stamp.host → IsLessOldest cause now (log_at all other) (slice_index_or (slice_set all.logs stamp.host (add (moment_at (log_at all stamp.host) now) (Closed stamp.number cause) (log_at all stamp.host))) other [])
      at_host other same =
          let log = log_at all stamp.host in
          subst (λ (i : ℕ). IsLessOldest cause now (log_at all i) (slice_index_or (slice_set all.logs stamp.host (add (moment_at log now) (Closed stamp.number cause) log)) i [])) (sym same)
          (inr (stamp.number, first.here, log_changed all.logs stamp.host (add (moment_at log now) (Closed stamp.number cause) log) first.there))

  pub oldest_lost : 0 < kept all → LosesOldest cause now limits all (without_oldest cause now all)
  oldest_lost some = by_stamp (oldest_of_all all) refl
    where
      by_stamp : (first : Option Stamp) → oldest_of_all all ≡ first → LosesOldest cause now limits all (closed_of cause now first all)
      by_stamp None none = absurd (omega (arith, some, none_kept all none))
      by_stamp (Some stamp) is = loses stamp (oldest_is all stamp is)

-- where there is one its closing leaves lawful hosts
pub record MayLoseOldest (cause : Cause) (now : ℕ) (limits : Bounds) (all after : AllHosts) : Type 0 where
  pub lawful : IsLawful limits after
  pub count : length after.logs ≡ length all.logs
  pub each : (host : ℕ) → IsLessOldest cause now (log_at all host) (log_at after host)

pub loses_none : (cause : Cause) (now : ℕ) (limits : Bounds) (all : AllHosts) → IsLawful limits all → MayLoseOldest cause now limits all all
loses_none cause now limits all lawful = record { lawful = lawful; count = refl; each = λ host. inl refl }

pub loses_one : (cause : Cause) (now : ℕ) (limits : Bounds) (all after : AllHosts) → LosesOldest cause now limits all after → MayLoseOldest cause now limits all after
loses_one cause now limits all after lost = record { lawful = lost.lawful; count = lost.count; each = lost.each }

pub may_lose : (cause : Cause) → is_of_idle cause ≡ true → (limits : Bounds) (now : ℕ) (all : AllHosts) → IsLawful limits all → MayLoseOldest cause now limits all (without_oldest cause now all)
may_lose cause fits limits now all lawful = by_stamp (oldest_of_all all) refl
  where
    by_stamp : (first : Option Stamp) → oldest_of_all all ≡ first → MayLoseOldest cause now limits all (closed_of cause now first all)
    by_stamp None none = loses_none cause now limits all lawful
    by_stamp (Some stamp) is = loses_one cause now limits all (closed_of cause now (Some stamp) all) (loses cause fits limits now all lawful stamp (oldest_is all stamp is))

flipped : (c d : ℕ) → (c == d) ≡ false → (d == c) ≡ false
flipped c d apart = grind (arith, nat_tests, apart)

-- a log that lost its oldest: each transfer holds what it held, and waits as before
module _ (cause : Cause) (now : ℕ) (settings : LimitAndFirst) (old new : List Entry) (sound : IsSound settings old) (less : IsLessOldest cause now old new) where
  apart_from_idle : (transfer c d : ℕ) → held_number old transfer ≡ Some c → is_idle old d ≡ true → (d == c) ≡ false
  apart_from_idle transfer c d held idle = elim (eqb_tells d c) [
    | inl same ↦
        let free : is_none (holder_want old c) ≡ true = subst (λ (n : ℕ). is_none (holder_want old n) ≡ true) same.1 (idle_open_unheld old d idle).1 in
        let wanted = held_want settings old sound transfer c held in
        absurd (cc (free, ap (λ (w : Option Want). is_none w) wanted.1))
    | inr differ ↦ differ.0
  ]

  pub still_held : (transfer : ℕ) → held_number new transfer ≡ held_number old transfer
  still_held transfer = elim less [
    | inl same ↦ ap (λ (log : List Entry). held_number log transfer) same
    | inr closed ↦
        ap (λ (log : List Entry). held_number log transfer) closed.2
        ∙ number_closed (moment_at old now) closed.0 cause old transfer sound.orderly.transfers_once
        ∙ by_held closed.0 (first_among (is_idle_longer old) (idle_connections old) closed.0 closed.1) (held_number old transfer) refl
  ]
    where
      by_held : (d : ℕ) → is_idle old d ≡ true → (held : Option ℕ) → held_number old transfer ≡ held → unless_it_is d held ≡ held
      by_held d idle None is = refl
      by_held d idle (Some c) is = rw (flipped d c (apart_from_idle transfer c d is idle)) refl

  pub still_waits : waiting new ≡ waiting old
  still_waits = elim less [
    | inl same ↦ ap waiting same
    | inr closed ↦ ap waiting closed.2
  ]

  pub still_wanted : (transfer c : ℕ) → held_number old transfer ≡ Some c → holder_want new c ≡ holder_want old c
  still_wanted transfer c held = elim less [
    | inl same ↦ ap (λ (log : List Entry). holder_want log c) same
    | inr closed ↦
        ap (λ (log : List Entry). holder_want log c) closed.2
        ∙ holder_closed (moment_at old now) closed.0 cause old c
        ∙ by_test closed.0 (apart_from_idle transfer c closed.0 held (first_among (is_idle_longer old) (idle_connections old) closed.0 closed.1))
  ]
    where
      by_test : (d : ℕ) → (d == c) ≡ false → (if d == c then None else holder_want old c) ≡ holder_want old c
      by_test d apart = rw apart refl

  pub becomes_idle_still : (transfer c : ℕ) (facts : Facts) (later : ℕ) → held_number old transfer ≡ Some c → becomes_idle new c facts later ≡ becomes_idle old c facts later
  becomes_idle_still transfer c facts later held =
      ap (λ (w : Option Want). is_none (option_and_then (owed_for c facts) w) && not (is_anyone (waiting new))) (still_wanted transfer c held)
      ∙ ap (λ (wants : List Want). is_none (owed (returned old c facts later)) && not (is_anyone wants)) still_waits
