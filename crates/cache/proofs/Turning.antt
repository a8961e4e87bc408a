-- Turns, one after the other: what each leaves to those that follow.
use Rattle.std.proofs.Common.{◌≡◌, ℕ, zero, suc, ◌+◌, Bool, true, false, List, [], ◌∷◌, Option, Some, None, refl, sym, ap, subst, ◌∙◌, slice_get, arith}
use Rattle.std.specs.Prelude.{if◌then◌else◌}
use Rattle.budget.specs.Limits.{Bounds}
use Rattle.conn_log.specs.declared.stamp.Stamp.{Stamp}
use Rattle.conn_log.specs.declared.entry.Cause.{Cause}
use Rattle.cache.specs.AllHosts.{AllHosts, may_turn, turn_of_first, after_turn_of, with_room, closed_of, without_oldest, oldest_of_all, after_turns, served, total_waiting}
use Rattle.cache.specs.Pools.{PoolShown, all_hosts, StaysPool, KeepsHosts}
use Rattle.cache.specs.Turns.{KeepsSpent}
use Rattle.cache.specs.PoolCalls.{IsCallAtAll}
use Rattle.cache.proofs.Keeping.{stays_pool, stays_pool_on, keeps_hosts, keeps_hosts_on, still_there}
use Rattle.cache.proofs.PoolCalls.{all_same_as}

-- where a turn is possible it is taken, and one fewer is left
pub turn_taken : (n m : ℕ) (limits : Bounds) (now : ℕ) (all next : AllHosts) → m ≡ suc n → may_turn limits all ≡ true → next ≡ turn_of_first all.queue limits now all
    → after_turns m limits now all ≡ after_turns n limits now next
turn_taken n m limits now all next count may is =
    ap (λ (k : ℕ). after_turns k limits now all) count
    ∙ ap (λ (b : Bool). if b then after_turns n limits now (turn_of_first all.queue limits now all) else all) may
    ∙ ap (λ (a : AllHosts). after_turns n limits now a) (sym is)

-- where none is possible all hosts stay
pub none_taken : (n : ℕ) (limits : Bounds) (now : ℕ) (all : AllHosts) → may_turn limits all ≡ false → after_turns n limits now all ≡ all
none_taken zero limits now all may = refl
none_taken (suc n) limits now all may = ap (λ (b : Bool). if b then after_turns n limits now (turn_of_first all.queue limits now all) else all) may

-- the turn of the first host that is queued
pub first_turn : (order : List ℕ) (host : ℕ) (limits : Bounds) (now : ℕ) (all : AllHosts) → slice_get order 0 ≡ Some host → turn_of_first order limits now all ≡ after_turn_of host limits now (with_room limits now all)
first_turn [] host limits now all first = absurd (cc)
first_turn (x ∷ order) host limits now all first = ap (λ (h : ℕ). after_turn_of h limits now (with_room limits now all)) (first_is first)
  where
    first_is : Some x ≡ Some host → x ≡ host
    first_is e = cc

module _ {S : Type 0} where
  pub keeps_spent : (pool : PoolShown S) → KeepsSpent pool pool
  keeps_spent pool host there t none unclaimed = unclaimed

  pub keeps_spent_on : (x y z : PoolShown S) → StaysPool x y → KeepsHosts x y → KeepsSpent x y → KeepsSpent y z → KeepsSpent x z
  keeps_spent_on x y z stays keeps first next host there t none unclaimed =
      next host (still_there x y host stays there) t ((keeps host there).keeps.tickets t ∙ none) (first host there t none unclaimed)

  -- some turns on from a start, those that are left lead where all of them lead
  pub record IsOnTheWay (now : ℕ) (start pool : PoolShown S) : Type 0 where
    pub stays : StaysPool start pool
    pub keeps : KeepsHosts start pool
    pub spent : KeepsSpent start pool
    pub same_end : after_turns (total_waiting (all_hosts pool)) start.limits now (all_hosts pool) ≡ served start.limits now (all_hosts start)

  pub at_start : (now : ℕ) (start : PoolShown S) → IsOnTheWay now start start
  at_start now start = record { stays = stays_pool start; keeps = keeps_hosts start; spent = keeps_spent start; same_end = refl }

  module _ (now : ℕ) (start pool next : PoolShown S) (way : IsOnTheWay now start pool) where
    pub turned_on : may_turn pool.limits (all_hosts pool) ≡ true → IsCallAtAll (turn_of_first pool.queue pool.limits now (all_hosts pool)) pool next
        → total_waiting (all_hosts next) + 1 ≡ total_waiting (all_hosts pool) → KeepsSpent pool next → IsOnTheWay now start next
    turned_on may turn count spent = record {
      stays = stays_pool_on start pool next way.stays turn.stays;
      keeps = keeps_hosts_on start pool next way.stays way.keeps turn.keeps;
      spent = keeps_spent_on start pool next way.stays way.keeps way.spent spent;
      same_end = sym (turn_taken (total_waiting (all_hosts next)) (total_waiting (all_hosts pool)) start.limits now (all_hosts pool) (all_hosts next)
          (omega (arith, count))
          (ap (λ (l : Bounds). may_turn l (all_hosts pool)) (sym way.stays.limits) ∙ may)
          (turn.all ∙ ap (λ (l : Bounds). turn_of_first pool.queue l now (all_hosts pool)) way.stays.limits)) ∙ way.same_end;
    }

    -- if no turn is possible the end is reached
    pub at_end : may_turn pool.limits (all_hosts pool) ≡ false → next ≡ pool → IsCallAtAll (served start.limits now (all_hosts start)) start next
    at_end may same = subst (IsCallAtAll (served start.limits now (all_hosts start)) start) (sym same) (record {
      all = sym (none_taken (total_waiting (all_hosts pool)) start.limits now (all_hosts pool) (ap (λ (l : Bounds). may_turn l (all_hosts pool)) (sym way.stays.limits) ∙ may)) ∙ way.same_end;
      keeps = way.keeps;
      stays = way.stays;
    })

  -- room is made if the total has none, and the host that is queued first has its turn
  pub turn_done : (x y z : PoolShown S) (host now : ℕ) → slice_get x.queue 0 ≡ Some host → IsCallAtAll (with_room x.limits now (all_hosts x)) x y → IsCallAtAll (after_turn_of host y.limits now (all_hosts y)) y z
      → IsCallAtAll (turn_of_first x.queue x.limits now (all_hosts x)) x z
  turn_done x y z host now is room turn = record {
    all = turn.all ∙ ap (λ (l : Bounds). after_turn_of host l now (all_hosts y)) room.stays.limits ∙ ap (after_turn_of host x.limits now) room.all ∙ sym (first_turn x.queue host x.limits now (all_hosts x) is);
    keeps = keeps_hosts_on x y z room.stays room.keeps turn.keeps;
    stays = stays_pool_on x y z room.stays turn.stays;
  }

  -- nothing is done if nothing is idle
  pub none_closed : (pool next : PoolShown S) (cause : Cause) (now : ℕ) → next ≡ pool → oldest_of_all (all_hosts pool) ≡ None → IsCallAtAll (without_oldest cause now (all_hosts pool)) pool next
  none_closed pool next cause now same none =
      subst (λ (end : AllHosts). IsCallAtAll end pool next) (sym (ap (λ (found : Option Stamp). closed_of cause now found (all_hosts pool)) none)) (all_same_as pool next same)
