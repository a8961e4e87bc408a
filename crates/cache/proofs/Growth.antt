-- Each call only adds to the logs.
use Rattle.std.proofs.Common.{ℕ, zero, suc, ◌-◌, min, Bool, true, false, not, ◌&&◌, List, [], ◌∷◌, ◌++◌, slice_index_or, slice_set, Option, Some, None, refl, sym, ap, subst, ◌∙◌}
use Rattle.std.specs.Prelude.{if◌then◌else◌}
use Rattle.std.proofs.lemmas.List.{length-map, length-set, append_assoc}
use Rattle.std.proofs.Math.ListN.{get_or-map}
use Rattle.persistence.specs.declared.facts.Facts.{Facts}
use Rattle.budget.specs.Limits.{Bounds}
use Rattle.budget.specs.declared.permits.Try.TheVariants.{Got}
use Rattle.conn_log.specs.declared.stamp.Stamp.{Stamp}
use Rattle.conn_log.specs.declared.entry.Want.{Want}
use Rattle.conn_log.specs.declared.entry.Cause.{Cause}
use Rattle.conn_log.specs.declared.entry.Cause.TheVariants.{TotalRoom, CacheFull}
use Rattle.conn_log.specs.declared.entry.Entry.{Entry}
use Rattle.host_state.specs.Steps.{moment_at}
use Rattle.host_state.specs.declared.closing.Closing.TheVariants.{TooOld}
use Rattle.host_state.specs.Calls.{GrowsBy, becomes_idle, kept_limit, starts_due, is_queued}
use Rattle.host_state.specs.Effects.{asks_for_one}
use Rattle.host_state.proofs.Growth.{grows_same, grows_without, grows_acquired, grows_give_back, grows_abandon, grows_withdraw, grows_turn, grows_evict, grows_prune, grows_limit}
use Rattle.cache.specs.AllHosts.{AllHosts, log_at, terms, total, has_room, can_keep, total_waiting, oldest_of_all, closed_of, without_oldest, after_turn_of, with_room, turn_of_first, may_turn, after_turns, served}
use Rattle.cache.specs.Calls.{with_tidied, with_room_for, told_of_total, acquired, after_acquire, with_room_to_keep, given_back, after_giving_back, abandoned, after_abandoning, withdrawn, after_withdrawing, pruned_log, pruned, after_prune, limited, after_limit_of}
use Rattle.cache.specs.Laws.{Grow}

pub grow_none : (all : AllHosts) → Grow all all
grow_none all = record { count = refl; each = λ host. grows_same (log_at all host) }

grows_on : (first second third : List Entry) → GrowsBy first second → GrowsBy second third → GrowsBy first third
grows_on first second third grew more = (more.0 ++ grew.0, more.1 ∙ ap (λ (log : List Entry). more.0 ++ log) grew.1 ∙ sym (append_assoc more.0 grew.0 first))

pub grow_on : (first second third : AllHosts) → Grow first second → Grow second third → Grow first third
grow_on first second third grew more = record {
  count = more.count ∙ grew.count;
  each = λ host. grows_on (log_at first host) (log_at second host) (log_at third host) (grew.each host) (more.each host);
}

-- one log grows
grows_at : (logs : List (List Entry)) (host : ℕ) (new : List Entry) → GrowsBy (slice_index_or logs host []) new → (other : ℕ) → GrowsBy (slice_index_or logs other []) (slice_index_or (slice_set logs host new) other [])
grows_at [] host new grew other = grows_same []
grows_at (log ∷ logs) zero new grew zero = grew
grows_at (log ∷ logs) zero new grew (suc other) = grows_same (slice_index_or logs other [])
grows_at (log ∷ logs) (suc host) new grew zero = grows_same log
grows_at (log ∷ logs) (suc host) new grew (suc other) = grows_at logs host new grew other

pub grow_at : (all : AllHosts) (host : ℕ) (new : List Entry) (queue : List ℕ) → GrowsBy (log_at all host) new → Grow all record { logs = slice_set all.logs host new; queue = queue }
grow_at all host new queue grew = record { count = length-set all.logs host new; each = grows_at all.logs host new grew }

grow_either : (old : AllHosts) (first : Bool) (one other : AllHosts) → Grow old one → Grow old other → Grow old (if first then one else other)
grow_either old true one other grew also = grew
grow_either old false one other grew also = also

-- the oldest of all is closed
grow_closed : (cause : Cause) (now : ℕ) (all : AllHosts) (first : Option Stamp) → Grow all (closed_of cause now first all)
grow_closed cause now all None = grow_none all
grow_closed cause now all (Some stamp) = let log = log_at all stamp.host in grow_at all stamp.host _ all.queue (grows_evict log stamp.number cause now)

pub grow_without_oldest : (cause : Cause) (now : ℕ) (all : AllHosts) → Grow all (without_oldest cause now all)
grow_without_oldest cause now all = grow_closed cause now all (oldest_of_all all)

-- turns are taken
grow_turn : (queue : List ℕ) (limits : Bounds) (now : ℕ) (all : AllHosts) → Grow all (turn_of_first queue limits now all)
grow_turn [] limits now all = grow_none all
grow_turn (host ∷ others) limits now all =
    let roomy = with_room limits now all in
    let made = grow_either all (has_room limits all) all (without_oldest TotalRoom now all) (grow_none all) (grow_without_oldest TotalRoom now all) in
    grow_on all roomy (after_turn_of host limits now roomy) made (grow_at roomy host _ _ (grows_turn Got (terms limits) (log_at roomy host) now))

grow_turns : (n : ℕ) (limits : Bounds) (now : ℕ) (all : AllHosts) → Grow all (after_turns n limits now all)
grow_turns zero limits now all = grow_none all
grow_turns (suc n) limits now all =
    let next = turn_of_first all.queue limits now all in
    grow_either all (may_turn limits all) (after_turns n limits now next) all (grow_on all next (after_turns n limits now next) (grow_turn all.queue limits now all) (grow_turns n limits now next)) (grow_none all)

pub served_grow : (limits : Bounds) (now : ℕ) (all later : AllHosts) → Grow all later → Grow all (served limits now later)
served_grow limits now all later grew = grow_on all later (served limits now later) grew (grow_turns (total_waiting later) limits now later)

-- each call
pub acquire_grows : (limits : Bounds) (host : ℕ) (want : Want) (now : ℕ) (all : AllHosts) → Grow all (after_acquire limits host want now all)
acquire_grows limits host want now all =
    let tidy = with_tidied host want now all in
    let roomy = with_room_for limits host want now tidy in
    let log = log_at roomy host in
    let tidied = grow_at all host _ all.queue (grows_without (TooOld want) (moment_at (log_at all host) now) (log_at all host)) in
    let asked = asks_for_one (terms limits) (log_at tidy host) want (moment_at (log_at tidy host) now) && not (has_room limits tidy) in
    let made = grow_either tidy asked (without_oldest TotalRoom now tidy) tidy (grow_without_oldest TotalRoom now tidy) (grow_none tidy) in
    let start = grow_at roomy host _ _ (grows_acquired true (told_of_total limits roomy) (terms limits) log want now) in
    served_grow limits now all (acquired limits host want now all).all (grow_on all tidy (acquired limits host want now all).all tidied (grow_on tidy roomy (acquired limits host want now all).all made start))

pub give_back_grows : (limits : Bounds) (host c : ℕ) (facts : Facts) (now : ℕ) (all : AllHosts) → Grow all (after_giving_back limits host c facts now all)
give_back_grows limits host c facts now all =
    let roomy = with_room_to_keep limits host c facts now all in
    let needed = becomes_idle (log_at all host) c facts now && not (can_keep limits all) in
    let made = grow_either all needed (without_oldest CacheFull now all) all (grow_without_oldest CacheFull now all) (grow_none all) in
    served_grow limits now all (given_back limits host c facts now all) (grow_on all roomy (given_back limits host c facts now all) made (grow_at roomy host _ _ (grows_give_back (terms limits) (log_at roomy host) c facts now)))

pub abandon_grows : (limits : Bounds) (host c now : ℕ) (all : AllHosts) → Grow all (after_abandoning limits host c now all)
abandon_grows limits host c now all = served_grow limits now all (abandoned limits host c now all) (grow_at all host _ _ (grows_abandon (terms limits) (log_at all host) c now))

pub withdraw_grows : (limits : Bounds) (host transfer now : ℕ) (all : AllHosts) → Grow all (after_withdrawing limits host transfer now all)
withdraw_grows limits host transfer now all = served_grow limits now all (withdrawn limits host transfer now all) (grow_at all host _ _ (grows_withdraw (terms limits) (log_at all host) transfer now))

pub prune_grows : (limits : Bounds) (now max_age max_life : ℕ) (all : AllHosts) → Grow all (after_prune limits now max_age max_life all)
prune_grows limits now max_age max_life all = served_grow limits now all (pruned now max_age max_life all) (record {
  count = length-map all.logs (pruned_log now max_age max_life);
  each = λ host. subst (GrowsBy (log_at all host)) (sym (get_or-map (pruned_log now max_age max_life) all.logs host [])) (grows_prune (log_at all host) max_age max_life now);
})

pub limit_grows : (limits : Bounds) (host n now : ℕ) (all : AllHosts) → Grow all (after_limit_of limits host n now all)
limit_grows limits host n now all =
    let log = log_at all host in
    let given = min (starts_due (is_queued (terms limits) log) (kept_limit n) log) (limits.total - total all) in
    served_grow limits now all (limited limits host n now all) (grow_at all host _ _ (grows_limit (kept_limit n) given (terms limits) log now))
