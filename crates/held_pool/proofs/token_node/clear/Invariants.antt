use Rattle.std.proofs.Common.{length}
use Rattle.held_pool.specs.TokenNumbers.{numbers_in}
use Rattle.held_pool.proofs.token_node.clear.Given as goal

abbrev pub decreases-loop-number : goal.decreases-loop-number
decreases-loop-number l = length (numbers_in l.rest)
