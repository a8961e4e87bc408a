use Rattle.std.proofs.Common.{take}
use Rattle.crawl.specs.Written.{HasNoTransfer}
use Rattle.crawl.proofs.output.index_of_transfer.Given as goal

abbrev pub invariant-loop-index : goal.invariant-loop-index
invariant-loop-index l = HasNoTransfer l.number (take l.index l.in_flight)
