use Rattle.std.proofs.Common.{sym, ap, subst, ◌∙◌}
use Rattle.std.specs.Prelude.{is_some}
use Rattle.cache.specs.AllHosts.{oldest_of_all, without_oldest}
use Rattle.cache.specs.Pools.{PoolShown, all_hosts}
use Rattle.cache.specs.PoolCalls.{IsCallAtAll}
use Rattle.cache.proofs.Closing.{found_at}
use Rattle.cache.proofs.Turning.{none_closed}
use Rattle.cache.proofs.OldestOfAll.{oldest_if_kept}
use Rattle.cache.proofs.hosts.Hosts.close_oldest.Goals as goal

pub returns-in_default-clause-can_make_room : goal.returns-in_default-clause-can_make_room
returns-in_default-clause-can_make_room g c = ap is_some (sym c.in_default.is ∙ c.oldest.ensures.oldest) ∙ oldest_if_kept (all_hosts c.args.self.now)

pub returns-clause-can_make_room : goal.returns-clause-can_make_room
returns-clause-can_make_room g c = ap is_some (sym c.in-Some.is ∙ c.oldest.ensures.oldest) ∙ oldest_if_kept (all_hosts c.args.self.now)

pub close_at-requires-clause-there : goal.close_at-requires-clause-there
close_at-requires-clause-there g c =
    (found_at c.oldest.new.self c.in-Some.stamp (ap (λ (p : PoolShown g.row.S.Denot). oldest_of_all (all_hosts p)) c.oldest.ensures.same ∙ sym c.oldest.ensures.oldest ∙ c.in-Some.is)).there

pub close_at-requires-clause-oldest : goal.close_at-requires-clause-oldest
close_at-requires-clause-oldest g c = ap (λ (p : PoolShown g.row.S.Denot). oldest_of_all (all_hosts p)) c.oldest.ensures.same ∙ sym c.oldest.ensures.oldest ∙ c.in-Some.is

pub returns-in_default-clause-done : goal.returns-in_default-clause-done
returns-in_default-clause-done g c = none_closed c.args.self.now c.oldest.new.self c.args.short c.args.now c.oldest.ensures.same (sym c.oldest.ensures.oldest ∙ c.in_default.is)

pub returns-clause-done : goal.returns-clause-done
returns-clause-done g c =
    subst (λ (p : PoolShown g.row.S.Denot). IsCallAtAll (without_oldest c.args.short c.args.now (all_hosts p)) p c.close_at.new.self) c.oldest.ensures.same c.close_at.ensures.done
