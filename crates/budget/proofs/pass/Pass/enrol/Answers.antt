use Rattle.std.proofs.Common.{sym, ◌∙◌}
use Rattle.budget.proofs.Enrolling.{keeps_seats, none_is_some}
use Rattle.budget.proofs.pass.Pass.enrol.Goals as goal

-- it had none there
pub returns-clause-seats : goal.returns-clause-seats
returns-clause-seats g c =
    keeps_seats c.args.self.now c.self.inside.accounts.items c.args.host _ c.self.view_is c.requires.host (λ table has. none_is_some (sym c.requires.apart ∙ has.1))
