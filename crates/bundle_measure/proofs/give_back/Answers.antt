use Rattle.std.proofs.Common.{rules, sym, subst, ◌∙◌}
use Rattle.budget.specs.Accounts.{IsEnrolledAt}
use Rattle.host_state.specs.Calls.{is_queued}
use Rattle.host_state.specs.Orders.{Lists}
use Rattle.bundle.specs.Seats.{Tables}
use Rattle.bundle_measure.proofs.give_back.Goals as goal

pub invariant_of-host : goal.invariant_of-host
invariant_of-host c =
    let was = c.host.inside.bundle in
    let new = c.give_back-back.new.self in
    let pass = c.give_back-back.new.pass in
    let done = c.give_back-back.ensures in
    record {
      index = done.host.same.host ∙ c.host.invariant.index;
      there = search rules;
      part = search rules;
      lists = subst (λ n. Lists n (is_queued new.settings new.log) c.give_back-back.new.lobby.0) c.host.invariant.index done.lobby.marked.lists;
      enrolled = subst (λ n. IsEnrolledAt pass n new.tables.starts) (sym done.host.same.host) (subst (λ (t : Tables). IsEnrolledAt pass was.host t.starts) (sym done.host.same.tables) (done.pass.seats _ _ c.host.invariant.enrolled));
    }
