use Rattle.std.proofs.Common.{take}
use Rattle.driver.specs.Hiring.{IsPlaced}
use Rattle.driver.proofs.collecting.place.Given as goal

abbrev pub invariant-loop-number : goal.invariant-loop-number
invariant-loop-number l = IsPlaced (take l.number-index l.own) l.fn.results l.results
