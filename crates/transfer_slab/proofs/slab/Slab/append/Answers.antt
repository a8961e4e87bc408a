-- One more stands behind all others, so there is one more, and no more than places.
use Rattle.std.proofs.Common.{rules, arith, sym, subst, ℕ, ◌+◌, ◌<◌, ◌≤◌, ◌^◌, length, Some}
use Rattle.std.proofs.lemmas.List.Sums.{sum_by_push}
use Rattle.transfer_slab.specs.Slabs.{one_if_some}
use Rattle.transfer_slab.proofs.Slots.{within}
use Rattle.transfer_slab.proofs.Scheduling.{law_of_push, due_suits}
use Rattle.transfer_slab.proofs.slab.Slab.append.Goals as goal

pub overflow_add-self : goal.overflow_add-self
overflow_add-self g c =
    let most = within c.self.inside.slots.items in
    let few : length c.self.inside.slots.items + 1 < 2 ^ 64 = search rules in
    let counted = c.self.inside.counted in
    omega (arith, most, few, counted)

pub invariant_of-self-inside : goal.invariant_of-self-inside
invariant_of-self-inside g c =
    let slots = c.self.inside.slots.items in
    let joins = c.joins.ensures in
    let counted = c.self.inside.counted in
    let more = sum_by_push one_if_some slots (Some c.args.transfer) in (
      rw c.push_reserved.ensures.items (omega (arith, more, counted)),
      (
        rw c.push_reserved.ensures.items (law_of_push slots c.self.inside.schedule.lists c.joins.new.self.lists c.self.inside.scheduled c.args.place (Some c.args.transfer) joins.list (rw (← c.self.view_is) at c.requires.place) (due_suits c.args.transfer joins.list joins.fits) joins.moves),
        (rw c.push_reserved.ensures.capacity c.self.inside.roomy, (subst (λ (n : ℕ). c.self.inside.room ≤ n) (sym joins.moves.limit) c.self.inside.listed, tt)),
      ),
    )
