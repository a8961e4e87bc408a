use Rattle.std.proofs.Common.{rules, subst}
use Rattle.std.specs.List.{sum_by}
use Rattle.exchange.specs.Dialling.{failed_turns}
use Rattle.driver.specs.Turns.{TurnedTogether}
use Rattle.driver.proofs.running.run.Goals as goal

pub returns-clause-turns : goal.returns-clause-turns
returns-clause-turns g c =
    let turned : TurnedTogether (sum_by (failed_turns g.D.Dial.shown) c.args.dials.now) c.work_at_once.new.workers.items = subst (λ before. TurnedTogether before c.work_at_once.new.workers.items) c.hire-passes.ensures.turns c.work_at_once.ensures.turns in
    c.collect.ensures.turns c.args.dials.now (search rules) turned
