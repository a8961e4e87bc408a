-- What was kept of the transfer tells how it ended; its place is free.
use Rattle.std.proofs.Common.{rules, ◌≡◌, refl, sym, subst, ap, ◌∙◌, ℕ, ◌≤◌, arith, length, slice_get, Some, None}
use Rattle.std.proofs.lemmas.Option.{slice_get_read}
use Rattle.exchange.specs.Worlds.{world_of}
use Rattle.transfer_slab.specs.Scheduling.{free_list}
use Rattle.transfer_slab.proofs.Slots.{kept_at, kept_set, closed_is, sum_set}
use Rattle.transfer_slab.proofs.Scheduling.{law_of_set, has_room}
use Rattle.transfer_slab.proofs.slab.Slab.close_at.Goals as goal

pub note_end-requires : goal.note_end-requires
note_end-requires g c =
    let slots = c.self.inside.slots.items in
    let t = c.in_ok-transfer.transfer in
    let there = slice_get_read slots (length slots) c.args.place c.in_ok-slot.slot.now refl c.in_ok-slot.ensures.item.3.0 c.in_ok-slot.ensures.item.1 in
    let lent : c.in_ok-slot.slot.now ≡ Some t = search rules in
    has_room slots c.self.inside.schedule.lists c.args.place (Some t) c.self.inside.scheduled (there ∙ ap Some lent)

pub close-requires : goal.close-requires
close-requires g c =
    let slots = c.self.inside.slots.items in
    let world = world_of g.W.Wire.untouched g.W.Wire.happened (g.K.Clock.tells c.args.clock.now) in
    let t = c.in_ok-transfer.transfer in
    let there = slice_get_read slots (length slots) c.args.place c.in_ok-slot.slot.now refl c.in_ok-slot.ensures.item.3.0 c.in_ok-slot.ensures.item.1 in
    let lent : c.in_ok-slot.slot.now ≡ Some t = search rules in
    let kept = kept_at world (g.C.Cache.home c.args.cache.now) slots c.args.place t (there ∙ ap Some lent) (rw (← c.self.view_is) at c.requires.all_kept) in
    record { owns = kept.owns }

pub invariant_of-self-inside-2 : goal.invariant_of-self-inside-2
invariant_of-self-inside-2 g c =
    let slots = c.self.inside.slots.items in
    let t = c.in_ok-transfer.transfer in
    let there = slice_get_read slots (length slots) c.args.place c.in_ok-slot.slot.now refl c.in_ok-slot.ensures.item.3.0 c.in_ok-slot.ensures.item.1 in
    let lent : c.in_ok-slot.slot.now ≡ Some t = search rules in
    let is : slice_get slots c.args.place ≡ Some (Some t) = there ∙ ap Some lent in
    let gone = c.take.ensures.after in
    let sums = sum_set slots c.args.place (Some t) None is in
    let counted = c.self.inside.counted in (
      rw gone (omega (arith, sums, counted)),
      (
        rw gone (law_of_set slots c.self.inside.schedule.lists c.note_end.new.self.lists c.self.inside.scheduled c.args.place (Some t) None free_list is refl c.note_end.ensures),
        (c.self.inside.roomy, (subst (λ (n : ℕ). c.self.inside.room ≤ n) (sym c.note_end.ensures.limit) c.self.inside.listed, tt)),
      ),
    )

pub returns-clause-closed : goal.returns-clause-closed
returns-clause-closed g c =
    let slots = c.self.inside.slots.items in
    let world = world_of g.W.Wire.untouched g.W.Wire.happened (g.K.Clock.tells c.args.clock.now) in
    let t = c.in_ok-transfer.transfer in
    let there = slice_get_read slots (length slots) c.args.place c.in_ok-slot.slot.now refl c.in_ok-slot.ensures.item.3.0 c.in_ok-slot.ensures.item.1 in
    let lent : c.in_ok-slot.slot.now ≡ Some t = search rules in
    let kept = kept_at world (g.C.Cache.home c.args.cache.now) slots c.args.place t (there ∙ ap Some lent) (rw (← c.self.view_is) at c.requires.all_kept) in
    closed_is world c.close.result.0 t.parts kept.ready c.close.result.1 t.state c.close.ensures.done c.close.ensures.parts kept.told

pub returns-clause-all_kept : goal.returns-clause-all_kept
returns-clause-all_kept g c =
    let kept = rw (← c.self.view_is) at c.requires.all_kept in
    rw (c.close.ensures.stays, c.take.ensures.after) (kept_set (world_of g.W.Wire.untouched g.W.Wire.happened (g.K.Clock.tells c.args.clock.now)) (g.C.Cache.home c.args.cache.now) c.self.inside.slots.items c.args.place None tt kept)

pub returns-clause-closes : goal.returns-clause-closes
returns-clause-closes g c =
    let slots = c.self.inside.slots.items in
    let world = world_of g.W.Wire.untouched g.W.Wire.happened (g.K.Clock.tells c.args.clock.now) in
    let t = c.in_ok-transfer.transfer in
    let there = slice_get_read slots (length slots) c.args.place c.in_ok-slot.slot.now refl c.in_ok-slot.ensures.item.3.0 c.in_ok-slot.ensures.item.1 in
    let lent : c.in_ok-slot.slot.now ≡ Some t = search rules in
    rw (← c.self.view_is) (record {
      transfer = t;
      stood = there ∙ ap Some lent;
      left_is = search rules;
      kept = kept_at world (g.C.Cache.home c.args.cache.now) slots c.args.place t (there ∙ ap Some lent) (rw (← c.self.view_is) at c.requires.all_kept);
      moment = c.now.result;
      told = c.now.ensures;
      cancels = c.close.ensures.cancels;
      closes = c.close.ensures.done;
      parts = c.close.ensures.parts;
      begun = c.close.ensures.begun;
      leaves = c.close.ensures.leaves_dial;
    })
