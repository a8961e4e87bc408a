use Rattle.std.proofs.Common.{ap, ◌∙◌}
use Rattle.conn_log.specs.Waiting.{without}
use Rattle.log_judge.proofs.WaitersInOrder.{taken_out, keyed_without, once_taken}
use Rattle.log_judge.proofs.waiters.Waiters.take_out.Goals as goal

pub invariant_of-self : goal.invariant_of-self
invariant_of-self c =
    let es = c.self.inside.by_transfer.entries in
    let invariant = c.self.invariant in
    rw c.pop.ensures.entries (record {
      keyed = keyed_without c.args.transfer es invariant.keyed;
      once = once_taken c.args.transfer es invariant.keyed invariant.once;
      cap = invariant.cap;
    })

pub returns : goal.returns
returns c =
    let invariant = c.self.invariant in
    rw c.pop.ensures.entries (taken_out c.args.transfer c.self.inside.by_transfer.entries invariant.keyed invariant.once ∙ ap (without c.args.transfer) c.self.view_is)
