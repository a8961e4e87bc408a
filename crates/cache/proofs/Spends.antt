-- All hosts stay lawful as a lease or a ticket is spent.
use Rattle.std.proofs.Common.{◌≡◌, ℕ, ◌+◌, ◌<◌, ◌≤◌, Bool, true, false, not, ◌&&◌, List, length, Option, Some, None, refl, sym, ap, ◌∙◌, arith}
use Rattle.std.specs.Prelude.{if◌then◌else◌}
use Rattle.persistence.specs.declared.facts.Facts.{Facts}
use Rattle.budget.specs.Limits.{Bounds, AreLimits}
use Rattle.budget.specs.declared.permits.Try.TheVariants.{Got}
use Rattle.conn_log.specs.declared.entry.Cause.TheVariants.{CacheFull}
use Rattle.conn_log.specs.declared.entry.Event.TheVariants.{Left}
use Rattle.conn_log.specs.declared.entry.Entry.{Entry}
use Rattle.conn_log.specs.Connections.{held_number}
use Rattle.conn_log.specs.Waiting.{waits}
use Rattle.host_state.specs.Steps.{moment_at, add}
use Rattle.host_state.specs.Calls.{becomes_idle, after_give_back, after_abandon, close_granted, after_withdraw}
use Rattle.host_state.specs.Effects.{open_len, idle_len, SpendsOne, is_got, one_if}
use Rattle.host_state.specs.Laws.{IsSoundAndQuiet}
use Rattle.host_state.proofs.Soundness.{kept_withdraw}
use Rattle.host_state.proofs.Counts.{given_back_spends, abandon_spends, withdraw_spends, withdraw_leaves}
use Rattle.host_state.proofs.EndsOfUses.{got_is_spent}
use Rattle.cache.specs.AllHosts.{AllHosts, log_at, with_log, terms, kept, can_keep, without_oldest, marked, IsLawful, IsAtRest}
use Rattle.cache.specs.Calls.{with_room_to_keep, given_back, after_giving_back, abandoned, after_abandoning, withdrawn, after_withdrawing}
use Rattle.cache.proofs.Lawfulness.{lawful_marked}
use Rattle.cache.proofs.Evictions.{MayLoseOldest, loses_none, loses_one, oldest_lost, still_held, becomes_idle_still}
use Rattle.cache.proofs.Turns.{room_is, full_is, serving_ends_at_rest}

-- one that is spent leaves the sums within their limits, where one more may be kept if it is
pub spent_lawful : (limits : Bounds) (all : AllHosts) → IsLawful limits all → (host : ℕ) → host < length all.logs → (is_kept : Bool) (new : List Entry) → SpendsOne is_kept (terms limits) (log_at all host) new
    → kept all + one_if is_kept ≤ limits.connects → IsLawful limits (marked limits host (with_log host new all))
spent_lawful limits all lawful host there is_kept new spends room =
    lawful_marked limits all lawful host there new spends.settled (omega (arith, spends.number_open, lawful.total_within)) (omega (arith, spends.number_idle, room))

none_more_kept : (limits : Bounds) (all : AllHosts) → IsLawful limits all → kept all + one_if false ≤ limits.connects
none_more_kept limits all lawful = omega (arith, lawful.kept_within)

-- a connection is given back
pub record HasRoomToKeep (limits : Bounds) (idle : Bool) (now : ℕ) (all after : AllHosts) : Type 0 where
  pub lost : MayLoseOldest CacheFull now limits all after
  pub room : idle ≡ true → kept after < limits.connects

pub keeps_room : (limits : Bounds) (now : ℕ) (all : AllHosts) → AreLimits limits → IsLawful limits all → (idle : Bool) → HasRoomToKeep limits idle now all (if idle && not (can_keep limits all) then without_oldest CacheFull now all else all)
keeps_room limits now all some lawful false = record { lost = loses_none CacheFull now limits all lawful; room = λ never. absurd (cc) }
keeps_room limits now all some lawful true = by_room (can_keep limits all) refl
  where
    by_room : (room : Bool) → can_keep limits all ≡ room → HasRoomToKeep limits true now all (if true && not room then without_oldest CacheFull now all else all)
    by_room true is = record { lost = loses_none CacheFull now limits all lawful; room = λ idle. room_is (kept all) limits.connects is }
    by_room false is =
        let full = full_is (kept all) limits.connects is lawful.kept_within in
        let lost = oldest_lost CacheFull refl limits now all lawful (omega (arith, full, some.some_kept)) in
        record { lost = loses_one CacheFull now limits all (without_oldest CacheFull now all) lost; room = λ idle. omega (arith, lost.one_fewer_kept, full) }

room_for_one : (idle : Bool) (n most : ℕ) → (idle ≡ true → n < most) → n ≤ most → n + one_if (idle && is_got Got) ≤ most
room_for_one true n most room within = omega (arith, room refl)
room_for_one false n most room within = omega (arith, within)

pub given_back_lawful : (limits : Bounds) (host transfer c : ℕ) (facts : Facts) (now : ℕ) (all : AllHosts) → AreLimits limits → IsLawful limits all → host < length all.logs → held_number (log_at all host) transfer ≡ Some c → IsLawful limits (given_back limits host c facts now all)
given_back_lawful limits host transfer c facts now all some lawful there held =
    let settings = terms limits in
    let old = log_at all host in
    let idle = becomes_idle old c facts now in
    let roomy = with_room_to_keep limits host c facts now all in
    let keeps = keeps_room limits now all some lawful idle in
    let log = log_at roomy host in
    let sound = (lawful.settled host there).sound in
    let less = keeps.lost.each host in
    let still = still_held CacheFull now settings old log sound less transfer ∙ held in
    let same : becomes_idle log c facts now ≡ idle = becomes_idle_still CacheFull now settings old log sound less transfer c facts now held in
    let there_still : host < length roomy.logs = omega (arith, there, keeps.lost.count) in
    let settled = keeps.lost.lawful.settled host there_still in
    let new = after_give_back settings log c facts now in
    let spends = given_back_spends false Got settings log new transfer c facts now settled still (got_is_spent false settings log c facts now) in
    let room = room_for_one (becomes_idle log c facts now) (kept roomy) limits.connects (λ is. keeps.room (sym same ∙ is)) keeps.lost.lawful.kept_within in
    spent_lawful limits roomy keeps.lost.lawful host there_still (becomes_idle log c facts now && is_got Got) new spends room

pub give_back_ends_at_rest : (limits : Bounds) (host transfer c : ℕ) (facts : Facts) (now : ℕ) (all : AllHosts) → AreLimits limits → IsLawful limits all → host < length all.logs → held_number (log_at all host) transfer ≡ Some c → IsAtRest limits (after_giving_back limits host c facts now all)
give_back_ends_at_rest limits host transfer c facts now all some lawful there held =
    serving_ends_at_rest limits (given_back limits host c facts now all) now (given_back_lawful limits host transfer c facts now all some lawful there held)

-- a lease is abandoned
pub abandoned_lawful : (limits : Bounds) (host transfer c now : ℕ) (all : AllHosts) → IsLawful limits all → host < length all.logs → held_number (log_at all host) transfer ≡ Some c → IsLawful limits (abandoned limits host c now all)
abandoned_lawful limits host transfer c now all lawful there held =
    let spends = abandon_spends (terms limits) (log_at all host) transfer c now (lawful.settled host there) held in
    spent_lawful limits all lawful host there false (after_abandon (terms limits) (log_at all host) c now) spends (none_more_kept limits all lawful)

pub abandon_ends_at_rest : (limits : Bounds) (host transfer c now : ℕ) (all : AllHosts) → IsLawful limits all → host < length all.logs → held_number (log_at all host) transfer ≡ Some c → IsAtRest limits (after_abandoning limits host c now all)
abandon_ends_at_rest limits host transfer c now all lawful there held = serving_ends_at_rest limits (abandoned limits host c now all) now (abandoned_lawful limits host transfer c now all lawful there held)

-- a ticket is withdrawn, whether its transfer waits, holds, or neither
record Lessens (old new : List Entry) : Type 0 where
  open_less : open_len new ≤ open_len old
  idle_less : idle_len new ≤ idle_len old

withdrawing_lessens : (limits : Bounds) (log : List Entry) (transfer now : ℕ) → IsSoundAndQuiet (terms limits) log → Lessens log (after_withdraw (terms limits) log transfer now)
withdrawing_lessens limits log transfer now settled = by_wait (waits log transfer) refl
  where
    by_held : (held : Option ℕ) → waits log transfer ≡ false → held_number log transfer ≡ held → Lessens log (after_withdraw (terms limits) log transfer now)
    by_held (Some c) gone is =
        let spends = withdraw_spends (terms limits) log transfer c now settled is in
        record { open_less = omega (arith, spends.number_open); idle_less = omega (arith, spends.number_idle) }
    by_held None gone is =
        let same : after_withdraw (terms limits) log transfer now ≡ log =
        ap (λ (w : Bool). if w then add (moment_at log now) (Left transfer) log else close_granted (terms limits) log (held_number log transfer) now) gone
        ∙ ap (λ (held : Option ℕ). close_granted (terms limits) log held now) is in
        record { open_less = omega (arith, ap open_len same); idle_less = omega (arith, ap idle_len same) }

    by_wait : (waiting : Bool) → waits log transfer ≡ waiting → Lessens log (after_withdraw (terms limits) log transfer now)
    by_wait true is =
        let leaves = withdraw_leaves (terms limits) log transfer now settled is in
        record { open_less = omega (arith, leaves.as_many_open); idle_less = omega (arith, leaves.as_many_idle) }
    by_wait false is = by_held (held_number log transfer) is refl

pub withdrawn_lawful : (limits : Bounds) (host transfer now : ℕ) (all : AllHosts) → IsLawful limits all → host < length all.logs → IsLawful limits (withdrawn limits host transfer now all)
withdrawn_lawful limits host transfer now all lawful there =
    let log = log_at all host in
    let new = after_withdraw (terms limits) log transfer now in
    let settled = lawful.settled host there in
    let less = withdrawing_lessens limits log transfer now settled in
    lawful_marked limits all lawful host there new (kept_withdraw (terms limits) log transfer now settled) (omega (arith, less.open_less, lawful.total_within)) (omega (arith, less.idle_less, lawful.kept_within))

pub withdraw_ends_at_rest : (limits : Bounds) (host transfer now : ℕ) (all : AllHosts) → IsLawful limits all → host < length all.logs → IsAtRest limits (after_withdrawing limits host transfer now all)
withdraw_ends_at_rest limits host transfer now all lawful there = serving_ends_at_rest limits (withdrawn limits host transfer now all) now (withdrawn_lawful limits host transfer now all lawful there)
