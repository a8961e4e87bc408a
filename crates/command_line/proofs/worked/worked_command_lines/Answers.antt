use Rattle.std.proofs.Common.{refl}
use Rattle.clap.proofs.OnLiterals.{clap_on_literals}
use Rattle.streams.specs.Words.{number}
use Rattle.command_line.proofs.worked.worked_command_lines.Goals as goal

pub returns-clause-urls : goal.returns-clause-urls
unfolding clap_on_literals number
returns-clause-urls c = (refl, refl, refl, refl)

pub returns-clause-crawl : goal.returns-clause-crawl
unfolding clap_on_literals number
returns-clause-crawl c = (refl, refl, refl, refl, refl)

pub returns-clause-numbers : goal.returns-clause-numbers
unfolding clap_on_literals number
returns-clause-numbers c = (refl, refl, refl, refl)

pub returns-clause-measured : goal.returns-clause-measured
unfolding clap_on_literals number
returns-clause-measured c = (refl, refl, refl, refl, refl)
