-- The hosts at which nothing is called are only served.
use Rattle.std.proofs.Common.{◌≡◌, ℕ, ◌<◌, Bool, true, false, not, ◌&&◌, List, [], length, Some, None, refl, sym, subst}
use Rattle.std.specs.Prelude.{if◌then◌else◌}
use Rattle.std.proofs.lemmas.List.{length-map}
use Rattle.std.proofs.Math.ListN.{get_or-map}
use Rattle.persistence.specs.declared.facts.Facts.{Facts}
use Rattle.budget.specs.Limits.{Bounds, AreLimits}
use Rattle.conn_log.specs.declared.entry.Want.{Want}
use Rattle.conn_log.specs.declared.entry.Cause.TheVariants.{TotalRoom, CacheFull}
use Rattle.conn_log.specs.declared.entry.Entry.{Entry}
use Rattle.conn_log.specs.Connections.{held_number}
use Rattle.conn_log.specs.Sound.{IsSound}
use Rattle.host_state.specs.Steps.{moment_at}
use Rattle.host_state.specs.Calls.{becomes_idle, limit_refusal, is_busy}
use Rattle.host_state.specs.Effects.{asks_for_one}
use Rattle.host_state.proofs.Soundness.{closes_pruned}
use Rattle.cache.specs.AllHosts.{AllHosts, log_at, terms, has_room, without_oldest, served, IsLawful}
use Rattle.cache.specs.Calls.{with_tidied, with_room_for, acquired, after_acquire, with_room_to_keep, given_back, after_giving_back, abandoned, after_abandoning, withdrawn, after_withdrawing, pruned_log, pruned, after_prune, limited, after_limit_of}
use Rattle.cache.specs.Laws.{OnlyServed, AllOnlyServed, OthersOnlyServed}
use Rattle.cache.proofs.Evictions.{may_lose}
use Rattle.cache.proofs.Acquires.{comes_free, tidied_all, acquired_lawful}
use Rattle.cache.proofs.Spends.{keeps_room, given_back_lawful, abandoned_lawful, withdrawn_lawful}
use Rattle.cache.proofs.PrunesAndLimits.{pruned_lawful, limited_lawful}
use Rattle.cache.proofs.Servings.{same_served, all_as_they_were, all_served_on, lost_served, serving_only_serves, others_served, others_served_on, others_stay, call_serves}

pub acquire_only_serves : (limits : Bounds) (host : ℕ) (want : Want) (now : ℕ) (all : AllHosts) → IsLawful limits all → host < length all.logs → is_busy (log_at all host) [] want.transfer ≡ false → OthersOnlyServed host all (after_acquire limits host want now all)
acquire_only_serves limits host want now all lawful there idle =
    let before = comes_free limits host want.transfer all lawful there idle in
    let tidy = with_tidied host want now all in
    let roomy = with_room_for limits host want now tidy in
    let later = (acquired limits host want now all).all in
    let ready = tidied_all limits host want now all before in
    let first = others_stay host all _ all.queue in
    let made = others_served host tidy roomy (by_need tidy ready.lawful (asks_for_one (terms limits) (log_at tidy host) want (moment_at (log_at tidy host) now) && not (has_room limits tidy))) in
    let last = others_stay host roomy _ _ in
    call_serves limits host now all later (others_served_on host all tidy later first (others_served_on host tidy roomy later made last)) (acquired_lawful limits host want now all before)
  where
    by_need : (tidy : AllHosts) → IsLawful limits tidy → (needed : Bool) → AllOnlyServed tidy (if needed then without_oldest TotalRoom now tidy else tidy)
    by_need tidy lawful false = all_as_they_were tidy
    by_need tidy lawful true = lost_served TotalRoom now limits tidy (without_oldest TotalRoom now tidy) lawful (may_lose TotalRoom refl limits now tidy lawful)

pub give_back_only_serves : (limits : Bounds) (host transfer c : ℕ) (facts : Facts) (now : ℕ) (all : AllHosts) → AreLimits limits → IsLawful limits all → host < length all.logs → held_number (log_at all host) transfer ≡ Some c → OthersOnlyServed host all (after_giving_back limits host c facts now all)
give_back_only_serves limits host transfer c facts now all some lawful there held =
    let roomy = with_room_to_keep limits host c facts now all in
    let later = given_back limits host c facts now all in
    let keeps = keeps_room limits now all some lawful (becomes_idle (log_at all host) c facts now) in
    let made = others_served host all roomy (lost_served CacheFull now limits all roomy lawful keeps.lost) in
    let last = others_stay host roomy _ _ in
    call_serves limits host now all later (others_served_on host all roomy later made last) (given_back_lawful limits host transfer c facts now all some lawful there held)

pub abandon_only_serves : (limits : Bounds) (host transfer c now : ℕ) (all : AllHosts) → IsLawful limits all → host < length all.logs → held_number (log_at all host) transfer ≡ Some c → OthersOnlyServed host all (after_abandoning limits host c now all)
abandon_only_serves limits host transfer c now all lawful there held = call_serves limits host now all (abandoned limits host c now all) (others_stay host all _ _) (abandoned_lawful limits host transfer c now all lawful there held)

pub withdraw_only_serves : (limits : Bounds) (host transfer now : ℕ) (all : AllHosts) → IsLawful limits all → host < length all.logs → OthersOnlyServed host all (after_withdrawing limits host transfer now all)
withdraw_only_serves limits host transfer now all lawful there = call_serves limits host now all (withdrawn limits host transfer now all) (others_stay host all _ _) (withdrawn_lawful limits host transfer now all lawful there)

pub limit_only_serves : (limits : Bounds) (host n now : ℕ) (all : AllHosts) → IsLawful limits all → host < length all.logs → limit_refusal n (log_at all host) ≡ None → OthersOnlyServed host all (after_limit_of limits host n now all)
limit_only_serves limits host n now all lawful there allowed = call_serves limits host now all (limited limits host n now all) (others_stay host all _ _) (limited_lawful limits host n now all lawful there allowed)

-- a prune starts nobody itself
pruned_served : (limits : Bounds) (now max_age max_life : ℕ) (all : AllHosts) → IsLawful limits all → AllOnlyServed all (pruned now max_age max_life all)
pruned_served limits now max_age max_life all lawful = record {
  count = length-map all.logs (pruned_log now max_age max_life);
  each = λ host there. subst (OnlyServed (log_at all host)) (sym (get_or-map (pruned_log now max_age max_life) all.logs host [])) (one (log_at all host) (lawful.settled host there).sound);
}
  where
    one : (log : List Entry) → IsSound (terms limits) log → OnlyServed log (pruned_log now max_age max_life log)
    one log sound = let closed = closes_pruned (terms limits) log max_age max_life now sound in same_served log (pruned_log now max_age max_life log) closed.waiting closed.held

pub prune_only_serves : (limits : Bounds) (now max_age max_life : ℕ) (all : AllHosts) → IsLawful limits all → AllOnlyServed all (after_prune limits now max_age max_life all)
prune_only_serves limits now max_age max_life all lawful =
    let later = pruned now max_age max_life all in
    all_served_on all later (served limits now later) (pruned_served limits now max_age max_life all lawful) (serving_only_serves limits later now (pruned_lawful limits now max_age max_life all lawful))
