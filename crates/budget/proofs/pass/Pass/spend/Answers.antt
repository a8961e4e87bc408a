use Rattle.std.proofs.Common.{Some, sym, ap, ◌∙◌}
use Rattle.budget.specs.Starts.{Spendings}
use Rattle.budget.specs.declared.pass.Account.{Account}
use Rattle.budget.proofs.Enrolling.{keeps_seats, account_read, same_tally}
use Rattle.budget.proofs.pass.Pass.spend.Goals as goal

pub returns-clause-seats : goal.returns-clause-seats
returns-clause-seats g c =
    let accounts = c.args.self.now in
    let inside = c.self.inside.accounts.items in
    let host = c.args.host in
    let was = c.index_mut-enrolled.result.now in
    let read = account_read accounts inside host was c.self.view_is c.requires.host c.index_mut-enrolled.ensures.value in
    let seat = ap (λ (a : Account _). a.seat) c.tell.ensures ∙ sym (ap (λ (a : Account _). a.seat) read) in
    keeps_seats accounts inside host _ c.self.view_is c.requires.host
    (λ table has. (c.join.new.pass.spent, ap (λ (s : Spendings). Some s) (same_tally c.in-Some.seat c.join.new.pass table has.0 (sym c.in-Some.is ∙ seat ∙ has.1) c.join.ensures)))
