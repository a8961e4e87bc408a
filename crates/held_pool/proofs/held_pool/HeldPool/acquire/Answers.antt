-- The slot holds what a transfer got that had nothing.
use Rattle.std.proofs.Common.{subst}
use Rattle.cache_trait.specs.CacheCalls.{GivesBy}
use Rattle.cache.specs.PoolCalls.{DidToPool}
use Rattle.held_pool.specs.Slots.{Puts}
use Rattle.held_pool.specs.Calls.{HeldShown}
use Rattle.held_pool.proofs.DueCalls.{acquired_due}
use Rattle.held_pool.proofs.held_pool.HeldPool.acquire.Goals as goal

pub invariant_of-self-2 : goal.invariant_of-self-2
invariant_of-self-2 c =
    let did = c.in_ok-acquired.ensures in
    acquired_due c.self.inside.pool c.acquire_from.new.pool c.self.inside.slots.places.items c.put-slot.new.self.places.items c.put-slot.result c.args.site c.args.want c.args.now c.in_ok-acquired.acquired
    c.self.invariant (rw (c.got_of-got.ensures.same, c.reserve.ensures.same) at c.put-slot.ensures) did.given did.done did.nothing

pub returns-clause-ok : goal.returns-clause-ok
returns-clause-ok c =
    let did = c.in_ok-acquired.ensures in
    let puts = rw (c.got_of-got.ensures.same, c.reserve.ensures.same) at c.put-slot.ensures in
    record {
      acquired = c.in_ok-acquired.acquired;
      is_for = did.given;
      done = subst (λ (held : HeldShown). GivesBy (DidToPool held.pool c.acquire_from.new.pool) c.args.now c.in_ok-acquired.acquired) c.self.view_is did.done;
      puts = subst (λ (held : HeldShown). Puts held.places c.put-slot.new.self.places.items c.put-slot.result c.in_ok-acquired.acquired) c.self.view_is puts;
      told = c.got_of-got.ensures.told;
    }
