use Rattle.std.proofs.Common.{sym, ap, ◌∙◌}
use Rattle.budget.specs.declared.pass.Account.{Account}
use Rattle.budget.proofs.Enrolling.{keeps_seats, account_read}
use Rattle.budget.proofs.pass.Pass.tell.Goals as goal

pub returns-clause-seats : goal.returns-clause-seats
returns-clause-seats g c =
    let accounts = c.args.self.now in
    let inside = c.self.inside.accounts.items in
    let host = c.args.host in
    let was = c.index_mut-account.result.now in
    let read = account_read accounts inside host was c.self.view_is c.requires.host c.index_mut-account.ensures.value in
    keeps_seats accounts inside host _ c.self.view_is c.requires.host (λ table has. (has.0, ap (λ (a : Account _). a.seat) c.tell.ensures ∙ sym (ap (λ (a : Account _). a.seat) read) ∙ has.1))
