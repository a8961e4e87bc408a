-- The places of the transfers are marked one by one.
use Rattle.std.proofs.Common.{◌∙◌, All, subst}
use Rattle.std.proofs.lemmas.List.{take_all}
use Rattle.crawl.specs.Hosts.{IsInUse}
use Rattle.crawl.proofs.Places.{in_use_after}
use Rattle.crawl.proofs.hosts.Hosts.mark_in_flight.Goals as goal

pub loop-one-preserved : goal.loop-one-preserved
loop-one-preserved c = (
  c.mark_in_use.ensures.table ∙ c.loop-one.invariant.0,
  in_use_after c.loop-one.self.in_use.items c.mark_in_use.new.self.in_use.items c.args.in_flight.now c.loop-one.one-index c.one-item.result c.loop-one-test.true c.one-item.is c.mark_in_use.ensures.in_use c.loop-one.invariant.1,
)

pub returns-clause-all_in_use : goal.returns-clause-all_in_use
returns-clause-all_in_use c = subst (All (IsInUse c.loop-one.self.in_use.items)) (take_all c.loop-one.one-index c.args.in_flight.now c.loop-one-test.false) c.loop-one.invariant.1
