use Rattle.std.proofs.Common.{ℕ, ◌+◌, Option, sym, ap, subst, ◌∙◌, arith}
use Rattle.log_judge.specs.declared.due.Due.{Due}
use Rattle.log_judge.specs.Tables.{IfDue, shown, idle_at}
use Rattle.log_judge.proofs.DueReturns.{idle_open, idle_due}
use Rattle.log_judge.proofs.host.HostMonitor.idle_len.Goals as goal

pub returns-in-Some-clause-count : goal.returns-in-Some-clause-count
returns-in-Some-clause-count c =
    let tables = c.self.inside.tables in
    let due = subst (λ (d : Option Due). IfDue d tables.log) c.in-Some.is c.self.invariant in
    let same = ap (shown tables) (sym c.in-Some.is) ∙ c.self.view_is in
    ap (λ (n : ℕ). n + 1) c.idle_len-count.ensures.count ∙ sym (idle_due _ _ c.in-Some.field-0 c.last_moment-sound.ensures.sound due) ∙ ap idle_at same

pub returns-in-Some-clause-few : goal.returns-in-Some-clause-few
returns-in-Some-clause-few c = omega (arith, idle_open c.args.self.now.log, c.open_len-open.ensures.few)
