use Rattle.std.proofs.Common.{◌≡◌, length}
use Rattle.streams.specs.Words.{words}
use Rattle.script_text.specs.Grammar.{no_options, options_of}
use Rattle.script_text.proofs.options.read_options.Given as goal

abbrev pub invariant-loop-name : goal.invariant-loop-name
invariant-loop-name l = options_of l.options (words l.rest) ≡ options_of no_options (words l.line)

abbrev pub decreases-loop-name : goal.decreases-loop-name
decreases-loop-name l = length (words l.rest)
