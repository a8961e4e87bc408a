use Rattle.std.proofs.Common.{is_some, sym, ap, ◌∙◌}
use mathlib.Core.Bool.{false≢true}
use Rattle.log_judge.proofs.AllowedEvents.{legal_keeps}
use Rattle.log_judge.proofs.laws.rules_are_those_of_legal_logs.Goals as goal

pub returns-clause-broken : goal.returns-clause-broken
returns-clause-broken c settings log e violation breaks legal = absurd (false≢true (ap is_some (sym (legal_keeps settings e log legal) ∙ breaks)))

pub returns-clause-legal : goal.returns-clause-legal
returns-clause-legal c settings log e legal = legal_keeps settings e log legal
