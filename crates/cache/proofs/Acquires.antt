-- All hosts stay lawful as a transfer starts or waits.
use Rattle.std.proofs.Common.{◌≡◌, ℕ, ◌+◌, ◌<◌, ◌≤◌, Bool, true, false, not, ◌==◌, ◌&&◌, ◌||◌, List, [], length, refl, sym, ap, subst, ◌∙◌, arith}
use Rattle.std.specs.Prelude.{if◌then◌else◌, nat_lt}
use Rattle.std.proofs.lemmas.List.{length-set}
use Rattle.budget.specs.Limits.{Bounds}
use Rattle.budget.specs.declared.permits.Try.TheVariants.{Got, Full}
use Rattle.conn_log.specs.declared.entry.Want.{Want}
use Rattle.conn_log.specs.declared.entry.Cause.TheVariants.{TotalRoom}
use Rattle.conn_log.specs.declared.entry.Entry.{Entry}
use Rattle.conn_log.specs.Connections.{idle_connections, holds, held_number}
use Rattle.conn_log.specs.Waiting.{waiting, waits}
use Rattle.conn_log.specs.Fit.{is_idle_longer, is_too_old_in_lane, in_order}
use Rattle.conn_log.specs.Legal.{LimitAndFirst}
use Rattle.std.specs.List.{list_any, filter}
use Rattle.host_state.specs.Steps.{moment_at, close_each, cause_of, picked}
use Rattle.host_state.specs.declared.closing.Closing.TheVariants.{TooOld}
use Rattle.host_state.specs.Calls.{Reply, starts, waits_on, no_room, again, acquired as acquired_at, is_busy}
use Rattle.host_state.specs.Effects.{open_len, idle_len, DoesAs, tidied, asks_for_one, is_got, one_if}
use Rattle.host_state.specs.Laws.{IsSoundAndQuiet}
use Rattle.host_state.proofs.Soundness.{later, neither, free_of, passing_idle, HasClosedIdle, closes_idle, kept_acquired}
use Rattle.host_state.proofs.Counts.{acquire_tidies, acquired_does}
use Rattle.cache.specs.AllHosts.{AllHosts, log_at, terms, total, kept, has_room, without_oldest, IsLawful, IsAtRest}
use Rattle.cache.specs.Calls.{with_tidied, with_room_for, told_of_total, started, acquired, after_acquire}
use Rattle.cache.specs.Laws.{HasNothing}
use Rattle.cache.proofs.Lawfulness.{log_changed, lawful_marked, lawful_unmarked, queued_same}
use Rattle.cache.proofs.Evictions.{MayLoseOldest, may_lose, still_held, still_waits}
use Rattle.cache.proofs.Turns.{room_is, serving_ends_at_rest}

-- a transfer that is not busy has nothing
pub free_where_not_busy : (settings : LimitAndFirst) (log : List Entry) (transfer : ℕ) → IsSoundAndQuiet settings log → is_busy log [] transfer ≡ false → HasNothing log transfer
free_where_not_busy settings log transfer settled idle =
    let not_holding = neither (holds log transfer) (waits log transfer || false) idle in
    record { held = free_of settings log settled.sound transfer not_holding.0; waits_not = (neither (waits log transfer) false not_holding.1).0 }

-- where the same hold and wait it is free as before
pub free_still : (transfer : ℕ) (old new : List Entry) → held_number new transfer ≡ held_number old transfer → waiting new ≡ waiting old → HasNothing old transfer → HasNothing new transfer
free_still transfer old new held same free = record {
  held = held ∙ free.held;
  waits_not = ap (λ (wants : List Want). list_any (λ (want : Want). want.transfer == transfer) wants) same ∙ free.waits_not;
}

-- all hosts as the transfer comes to one of them
pub record IsFreeAt (limits : Bounds) (host transfer : ℕ) (all : AllHosts) : Type 0 where
  pub lawful : IsLawful limits all
  pub there : host < length all.logs
  pub free : HasNothing (log_at all host) transfer

-- where nothing is idle nothing is too old
nothing_tidied : (want : Want) (moment : ℕ) (log : List Entry) → idle_connections log ≡ [] → tidied want moment log ≡ log
nothing_tidied want moment log none =
    ap (λ (numbers : List ℕ). close_each (cause_of (TooOld want)) moment (filter (is_too_old_in_lane log want moment) (in_order (is_idle_longer log) numbers)) log) none

-- what is too old is closed at its host
pub tidied_all : (limits : Bounds) (host : ℕ) (want : Want) (now : ℕ) (all : AllHosts) → IsFreeAt limits host want.transfer all → IsFreeAt limits host want.transfer (with_tidied host want now all)
tidied_all limits host want now all before =
    let log = log_at all host in
    let m = moment_at log now in
    let new = tidied want m log in
    let settled = before.lawful.settled host before.there in
    let closes = acquire_tidies (terms limits) log want now settled in
    let numbers = picked (TooOld want) m log in
    let closed : HasClosedIdle (terms limits) m (length numbers) log new = closes_idle (terms limits) (cause_of (TooOld want)) refl m numbers log settled.sound (later log now) (passing_idle (terms limits) log settled.sound (is_too_old_in_lane log want m)) in
    record {
      lawful = lawful_unmarked limits all before.lawful host before.there new closes.settled
          (queued_same (terms limits) log new settled closes.same_wait (nothing_tidied want m log))
          (omega (arith, closes.number_open, before.lawful.total_within)) (omega (arith, closes.number_idle, before.lawful.kept_within));
      there = omega (arith, before.there, length-set all.logs host new);
      free = subst (λ (l : List Entry). HasNothing l want.transfer) (sym (log_changed all.logs host new before.there)) (free_still want.transfer log new (closed.held want.transfer) closed.waiting before.free);
    }

-- the oldest of all is closed where the total has no room for one that is needed
lost_still_free : (limits : Bounds) (host transfer now : ℕ) (all after : AllHosts) → IsFreeAt limits host transfer all → MayLoseOldest TotalRoom now limits all after → IsFreeAt limits host transfer after
lost_still_free limits host transfer now all after before lost =
    let old = log_at all host in
    let new = log_at after host in
    let sound = (before.lawful.settled host before.there).sound in
    record {
      lawful = lost.lawful;
      there = omega (arith, before.there, lost.count);
      free = free_still transfer old new (still_held TotalRoom now (terms limits) old new sound (lost.each host) transfer) (still_waits TotalRoom now (terms limits) old new sound (lost.each host)) before.free;
    }

pub room_all : (limits : Bounds) (host : ℕ) (want : Want) (now : ℕ) (all : AllHosts) → IsFreeAt limits host want.transfer all → IsFreeAt limits host want.transfer (with_room_for limits host want now all)
room_all limits host want now all before =
    let log = log_at all host in
    by_need (asks_for_one (terms limits) log want (moment_at log now) && not (has_room limits all))
  where
    by_need : (needed : Bool) → IsFreeAt limits host want.transfer (if needed then without_oldest TotalRoom now all else all)
    by_need false = before
    by_need true = lost_still_free limits host want.transfer now all (without_oldest TotalRoom now all) before (may_lose TotalRoom refl limits now all before.lawful)

-- one more is open only where the total had room
one_more_within : (room asked : Bool) (n most : ℕ) → nat_lt n most ≡ room → n ≤ most → n + one_if (asked && is_got (if room then Got else Full)) ≤ most
one_more_within true true n most is within = omega (arith, room_is n most is)
one_more_within true false n most is within = omega (arith, within)
one_more_within false true n most is within = omega (arith, within)
one_more_within false false n most is within = omega (arith, within)

-- what a start or a wait adds to the sums
record Fits (limits : Bounds) (all : AllHosts) (old new : List Entry) : Type 0 where
  open_fits : total all + open_len new ≤ limits.total + open_len old
  idle_fits : kept all + idle_len new ≤ limits.connects + idle_len old

fits_as_told : (limits : Bounds) (all : AllHosts) → IsLawful limits all → (reply : Reply) (asked : Bool) (want : Want) (tidy old new : List Entry) → open_len tidy ≤ open_len old → idle_len tidy ≤ idle_len old
    → DoesAs reply asked (told_of_total limits all) want (terms limits) tidy new → Fits limits all old new
fits_as_told limits all lawful (starts start) asked want tidy old new open_tidy idle_tidy does =
    let within = one_more_within (has_room limits all) asked (total all) limits.total refl lawful.total_within in
    record { open_fits = omega (arith, does.number_open, within, open_tidy); idle_fits = omega (arith, does.number_idle, lawful.kept_within, idle_tidy) }
fits_as_told limits all lawful (waits_on wait) asked want tidy old new open_tidy idle_tidy does =
    record { open_fits = omega (arith, does.0.as_many_open, lawful.total_within, open_tidy); idle_fits = omega (arith, does.0.as_many_idle, lawful.kept_within, idle_tidy) }
fits_as_told limits all lawful no_room asked want tidy old new open_tidy idle_tidy does =
    record { open_fits = omega (arith, ap open_len does.2, lawful.total_within, open_tidy); idle_fits = omega (arith, ap idle_len does.2, lawful.kept_within, idle_tidy) }
fits_as_told limits all lawful again asked want tidy old new open_tidy idle_tidy does =
    record { open_fits = omega (arith, ap open_len does.2, lawful.total_within, open_tidy); idle_fits = omega (arith, ap idle_len does.2, lawful.kept_within, idle_tidy) }

pub started_all : (limits : Bounds) (host : ℕ) (want : Want) (now : ℕ) (all : AllHosts) → IsFreeAt limits host want.transfer all → IsLawful limits (started limits host want now all).all
started_all limits host want now all before =
    let log = log_at all host in
    let settings = terms limits in
    let told = told_of_total limits all in
    let m = moment_at log now in
    let tidy = tidied want m log in
    let outcome = acquired_at true told settings log want now in
    let settled = before.lawful.settled host before.there in
    let after = kept_acquired true told settings log want now settled before.free.held before.free.waits_not in
    let closes = acquire_tidies settings log want now settled in
    let does = acquired_does true told settings log want now settled before.free.held before.free.waits_not in
    let fits = fits_as_told limits all before.lawful outcome.reply (asks_for_one settings tidy want m) want tidy log outcome.log (omega (arith, closes.number_open)) (omega (arith, closes.number_idle)) does in
    lawful_marked limits all before.lawful host before.there outcome.log after fits.open_fits fits.idle_fits

-- from before the call
pub comes_free : (limits : Bounds) (host transfer : ℕ) (all : AllHosts) → IsLawful limits all → host < length all.logs → is_busy (log_at all host) [] transfer ≡ false → IsFreeAt limits host transfer all
comes_free limits host transfer all lawful there idle = record {
  lawful = lawful;
  there = there;
  free = free_where_not_busy (terms limits) (log_at all host) transfer (lawful.settled host there) idle;
}

pub ready_all : (limits : Bounds) (host : ℕ) (want : Want) (now : ℕ) (all : AllHosts) → IsFreeAt limits host want.transfer all → IsFreeAt limits host want.transfer (with_room_for limits host want now (with_tidied host want now all))
ready_all limits host want now all before = room_all limits host want now (with_tidied host want now all) (tidied_all limits host want now all before)

pub acquired_lawful : (limits : Bounds) (host : ℕ) (want : Want) (now : ℕ) (all : AllHosts) → IsFreeAt limits host want.transfer all → IsLawful limits (acquired limits host want now all).all
acquired_lawful limits host want now all before = started_all limits host want now (with_room_for limits host want now (with_tidied host want now all)) (ready_all limits host want now all before)

pub acquire_ends_at_rest : (limits : Bounds) (host : ℕ) (want : Want) (now : ℕ) (all : AllHosts) → IsLawful limits all → host < length all.logs → is_busy (log_at all host) [] want.transfer ≡ false → IsAtRest limits (after_acquire limits host want now all)
acquire_ends_at_rest limits host want now all lawful there idle =
    serving_ends_at_rest limits (acquired limits host want now all).all now (acquired_lawful limits host want now all (comes_free limits host want.transfer all lawful there idle))
