use Rattle.std.proofs.Common.{List, ap, ◌∙◌}
use Rattle.conn_log.specs.declared.entry.Want.{Want}
use Rattle.log_judge.specs.Waiters.{is_among_waiters}
use Rattle.log_judge.proofs.WaitersInOrder.{contained}
use Rattle.log_judge.proofs.waiters.Waiters.contains.Goals as goal

pub returns : goal.returns
returns c = c.contains.ensures ∙ contained c.args.transfer c.self.inside.by_transfer.entries c.self.invariant.keyed ∙ ap (λ (wants : List Want). is_among_waiters wants c.args.transfer) c.self.view_is
