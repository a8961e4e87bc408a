use Rattle.std.proofs.Common.{length}
use Rattle.cache_tests.proofs.slots.tables.end.Given as goal

abbrev pub decreases-loop-value : goal.decreases-loop-value
decreases-loop-value l = length l.table.places.items
