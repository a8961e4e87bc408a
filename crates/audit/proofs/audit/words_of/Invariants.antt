use Rattle.std.proofs.Common.{length}
use Rattle.streams.specs.Words.{words}
use Rattle.audit.proofs.audit.words_of.Given as goal

abbrev pub decreases-loop-word : goal.decreases-loop-word
decreases-loop-word l = length (words l.rest)
