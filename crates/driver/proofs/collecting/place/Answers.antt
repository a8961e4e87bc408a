use Rattle.std.proofs.Common.{rules}
use Rattle.driver.proofs.Collected.{placed_next}
use Rattle.driver.proofs.collecting.place.Goals as goal

pub loop-number-preserved : goal.loop-number-preserved
loop-number-preserved c = placed_next c.args.own.now c.loop-number.number-index _ c.args.results.now c.loop-number.results c.requires (search rules) c.loop-number.invariant
