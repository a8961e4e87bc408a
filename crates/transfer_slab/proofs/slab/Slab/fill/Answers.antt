-- One more stands where none did, so there is one more, and no more than places.
use Rattle.std.proofs.Common.{rules, arith, sym, subst, ℕ, ◌<◌, ◌≤◌, ◌^◌, length, Some, None}
use Rattle.transfer_slab.proofs.Slots.{one_more_at, one_more_within}
use Rattle.transfer_slab.proofs.Scheduling.{law_of_set, has_room, due_suits}
use Rattle.transfer_slab.proofs.slab.Slab.fill.Goals as goal

pub overflow_add-self : goal.overflow_add-self
overflow_add-self g c =
    let most = one_more_within c.self.inside.slots.items c.args.place c.args.transfer (rw (← c.self.view_is) at c.requires.vacant) in
    let few : length c.self.inside.slots.items < 2 ^ 64 = search rules in
    let counted = c.self.inside.counted in
    omega (arith, most, few, counted)

pub joins-requires : goal.joins-requires
joins-requires g c = has_room c.self.inside.slots.items c.self.inside.schedule.lists c.args.place None c.self.inside.scheduled (rw (← c.self.view_is) at c.requires.vacant)

pub invariant_of-self-inside : goal.invariant_of-self-inside
invariant_of-self-inside g c =
    let slots = c.self.inside.slots.items in
    let joins = c.joins.ensures in
    let more = one_more_at slots c.args.place c.args.transfer (rw (← c.self.view_is) at c.requires.vacant) in
    let counted = c.self.inside.counted in (
      rw c.put.ensures (omega (arith, more, counted)),
      (
        rw c.put.ensures (law_of_set slots c.self.inside.schedule.lists c.joins.new.self.lists c.self.inside.scheduled c.args.place None (Some c.args.transfer) joins.list (rw (← c.self.view_is) at c.requires.vacant) (due_suits c.args.transfer joins.list joins.fits) joins.moves),
        (search rules, (subst (λ (n : ℕ). c.self.inside.room ≤ n) (sym joins.moves.limit) c.self.inside.listed, tt)),
      ),
    )
