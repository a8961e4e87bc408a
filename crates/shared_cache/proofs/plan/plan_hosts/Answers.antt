use Rattle.std.proofs.Common.{◌≡◌, ◌+◌, ℕ, false, List, length, sym, ap, subst, ◌∙◌, rules}
use Rattle.atomic_table.specs.Seated.{TableId}
use Rattle.budget.specs.Marks.{mark_at}
use Rattle.bundle.specs.Lease.{IsNewHost}
use Rattle.shared_cache.specs.Locked.{HostUnder}
use Rattle.shared_cache.specs.Planning.{IsNewAt, AreNewFrom}
use Rattle.shared_cache.proofs.NewHosts.{one_more_new}
use Rattle.shared_cache.proofs.plan.plan_hosts.Goals as goal

pub loop-host-preserved : goal.loop-host-preserved
loop-host-preserved g c =
    let at = c.loop-host in
    let so_far = at.invariant in
    let budget = c.args.budget.now in
    let link = c.args.link.now in
    let under : HostUnder g.row.S.Denot = record { host = c.in_ok-bundle.bundle; seat = c.split-seat.result; mark = c.seat_host-mark.result } in
    let new : IsNewAt budget link at.host under = record {
      host = subst (λ (m : ℕ). IsNewHost m at.host 1 c.in_ok-bundle.bundle) c.requires.most c.in_ok-bundle.ensures.new_host;
      seat_table = c.split-seat.ensures.new.0 ∙ so_far.words;
      seat = c.split-seat.ensures.new.1;
      mark = c.seat_host-mark.ensures.host ∙ ap (λ (t : TableId). mark_at t at.listed.seats false) so_far.marks ∙ ap (λ (n : ℕ). mark_at link n false) so_far.seats;
    } in
    let place : at.host ≡ 0 + length at.planned.items = search rules in
    record {
      new = subst (λ (items : List (HostUnder g.row.S.Denot)). AreNewFrom budget link 0 items) (sym c.push_reserved.ensures.items)
          (one_more_new budget link 0 at.planned.items under so_far.new (subst (λ (p : ℕ). IsNewAt budget link p under) place new));
      number = search rules;
      room = search rules;
      words = search rules;
      share = search rules;
      nothing = search rules;
      marks = search rules;
      none_listed = search rules;
      seats = search rules;
    }
