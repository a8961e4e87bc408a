-- What was polled is kept, and what has ended is told as it ended.
use Rattle.std.proofs.Common.{rules, arith, ◌≡◌, refl, sym, subst, ap, ◌∙◌, inl, ℕ, ◌≤◌, length, slice_get, Some, None}
use Rattle.std.proofs.lemmas.Option.{slice_get_read}
use Rattle.exchange.specs.Transfers.{TransferShown}
use Rattle.exchange.specs.Worlds.{world_of}
use Rattle.exchange.specs.Owning.{IsReady}
use Rattle.exchange.specs.Exchanging.{IsTold, Leaves}
use Rattle.transfer_slab.specs.Slabs.{AreKept}
use Rattle.transfer_slab.specs.Scheduling.{free_list}
use Rattle.transfer_slab.proofs.Slots.{kept_at, kept_set, told_on, kept_with, ended_is, sum_set}
use Rattle.transfer_slab.proofs.Scheduling.{law_of_set, list_suits, has_room}
use Rattle.transfer_slab.proofs.Rounds.{pending_goes_on}
use Rattle.transfer_slab.proofs.slab.Slab.poll_at.Goals as goal

pub returns-then-is_pending-clause-all_kept : goal.returns-then-is_pending-clause-all_kept
returns-then-is_pending-clause-all_kept g c =
    let world = world_of g.W.Wire.untouched g.W.Wire.happened (g.K.Clock.tells c.args.clock.now) in
    let old = c.in_ok-transfer.transfer.now in
    let new = c.poll_told-polled.new.transfer in
    let slots = c.self.inside.slots.items in
    let there = slice_get_read slots (length slots) c.args.place c.in_ok-slot.slot.now refl c.in_ok-slot.ensures.item.3.0 c.in_ok-slot.ensures.item.1 in
    let lent : c.in_ok-slot.slot.now ≡ Some old = search rules in
    let is : slice_get slots c.args.place ≡ Some (Some old) = there ∙ ap Some lent in
    let was = kept_at world (g.C.Cache.home c.args.cache.now) slots c.args.place old is (rw (← c.self.view_is) at c.requires.all_kept) in
    let told = told_on g.C.Cache.did world old.parts new.parts c.args.cache.now c.poll_told-polled.new.cache old.state new.state c.poll_told-polled.ensures.polled.story was.told in
    let kept : AreKept world (g.C.Cache.home c.poll_told-polled.new.cache) slots = rw c.poll_told-polled.ensures.stays (rw (← c.self.view_is) at c.requires.all_kept) in
    kept_with world (g.C.Cache.home c.poll_told-polled.new.cache) slots new (record { owns = c.poll_told-polled.ensures.owns; ready = c.poll_told-polled.ensures.ready; told = told }) kept c.args.place

pub returns-clause-all_kept : goal.returns-clause-all_kept
returns-clause-all_kept g c =
    let gone : c.take.new.self ≡ None = search rules in
    let kept = rw (← c.self.view_is) at c.requires.all_kept in
    rw (c.poll_told-polled.ensures.stays, gone) (kept_set (world_of g.W.Wire.untouched g.W.Wire.happened (g.K.Clock.tells c.args.clock.now)) (g.C.Cache.home c.args.cache.now) c.self.inside.slots.items c.args.place None tt kept)

pub returns-clause-ended : goal.returns-clause-ended
returns-clause-ended g c =
    let world = world_of g.W.Wire.untouched g.W.Wire.happened (g.K.Clock.tells c.args.clock.now) in
    let old = c.in_ok-transfer.transfer.now in
    let new = c.poll_told-polled.new.transfer in
    let slots = c.self.inside.slots.items in
    let there = slice_get_read slots (length slots) c.args.place c.in_ok-slot.slot.now refl c.in_ok-slot.ensures.item.3.0 c.in_ok-slot.ensures.item.1 in
    let lent : c.in_ok-slot.slot.now ≡ Some old = search rules in
    let is : slice_get slots c.args.place ≡ Some (Some old) = there ∙ ap Some lent in
    let was = kept_at world (g.C.Cache.home c.args.cache.now) slots c.args.place old is (rw (← c.self.view_is) at c.requires.all_kept) in
    let told = told_on g.C.Cache.did world old.parts new.parts c.args.cache.now c.poll_told-polled.new.cache old.state new.state c.poll_told-polled.ensures.polled.story was.told in
    let same : c.in-Some.transfer ≡ new = search rules in
    let its : IsTold world c.in-Some.transfer.parts c.in-Some.transfer.state = subst (λ (t : TransferShown _). IsTold world t.parts t.state) (sym same) told in
    let ready : IsReady c.in-Some.transfer.parts = subst (λ (t : TransferShown _). IsReady t.parts) (sym same) c.poll_told-polled.ensures.ready in
    ended_is world c.finish-done.result.0 c.in-Some.transfer.parts c.finish-done.result.1 c.in-Some.transfer.state c.finish-done.ensures.done c.finish-done.ensures.parts ready its

pub returns-then-is_pending-clause-polls : goal.returns-then-is_pending-clause-polls
returns-then-is_pending-clause-polls g c =
    let old = c.in_ok-transfer.transfer.now in
    let new = c.poll_told-polled.new.transfer in
    let slots = c.self.inside.slots.items in
    let there = slice_get_read slots (length slots) c.args.place c.in_ok-slot.slot.now refl c.in_ok-slot.ensures.item.3.0 c.in_ok-slot.ensures.item.1 in
    let lent : c.in_ok-slot.slot.now ≡ Some old = search rules in
    let source = (g.D.Dial.shown c.poll_told-polled.new.dial).source_name in
    let leaves : Leaves g.W.Wire.source_name source c.args.cx.now c.poll_told-polled.new.cx new.waker new.has_yielded new.state = search rules in
    rw (← c.self.view_is) (inl (record {
      transfer = old;
      next = new;
      stood = there ∙ ap Some lent;
      polled = c.poll_told-polled.ensures.polled;
      leaves = (refl, pending_goes_on g.W.Wire.source_name source c.args.cx.now c.poll_told-polled.new.cx new.waker new.has_yielded new.state leaves);
    }))

pub returns-clause-polls : goal.returns-clause-polls
returns-clause-polls g c =
    let old = c.in_ok-transfer.transfer.now in
    let new = c.poll_told-polled.new.transfer in
    let slots = c.self.inside.slots.items in
    let there = slice_get_read slots (length slots) c.args.place c.in_ok-slot.slot.now refl c.in_ok-slot.ensures.item.3.0 c.in_ok-slot.ensures.item.1 in
    let lent : c.in_ok-slot.slot.now ≡ Some old = search rules in
    let same : c.in-Some.transfer ≡ new = search rules in
    let state : new.state ≡ c.in-Some.transfer.state = ap (λ (t : TransferShown _). t.state) (sym same) in
    let parts : c.in-Some.transfer.parts ≡ new.parts = ap (λ (t : TransferShown _). t.parts) same in
    rw (← c.self.view_is) (inl (record {
      transfer = old;
      next = new;
      stood = there ∙ ap Some lent;
      polled = c.poll_told-polled.ensures.polled;
      leaves = (search rules, state ∙ c.finish-done.ensures.done, c.finish-done.ensures.parts ∙ parts, refl);
    }))

pub note_poll-requires : goal.note_poll-requires
note_poll-requires g c =
    let old = c.in_ok-transfer.transfer.now in
    let slots = c.self.inside.slots.items in
    let there = slice_get_read slots (length slots) c.args.place c.in_ok-slot.slot.now refl c.in_ok-slot.ensures.item.3.0 c.in_ok-slot.ensures.item.1 in
    let lent : c.in_ok-slot.slot.now ≡ Some old = search rules in
    has_room slots c.self.inside.schedule.lists c.args.place (Some old) c.self.inside.scheduled (there ∙ ap Some lent)

pub note_end-requires : goal.note_end-requires
note_end-requires g c =
    let old = c.in_ok-transfer.transfer.now in
    let slots = c.self.inside.slots.items in
    let there = slice_get_read slots (length slots) c.args.place c.in_ok-slot.slot.now refl c.in_ok-slot.ensures.item.3.0 c.in_ok-slot.ensures.item.1 in
    let lent : c.in_ok-slot.slot.now ≡ Some old = search rules in
    has_room slots c.self.inside.schedule.lists c.args.place (Some old) c.self.inside.scheduled (there ∙ ap Some lent)

pub invariant_of-self-inside-then-is_pending : goal.invariant_of-self-inside-then-is_pending
invariant_of-self-inside-then-is_pending g c =
    let old = c.in_ok-transfer.transfer.now in
    let new = c.poll_told-polled.new.transfer in
    let slots = c.self.inside.slots.items in
    let there = slice_get_read slots (length slots) c.args.place c.in_ok-slot.slot.now refl c.in_ok-slot.ensures.item.3.0 c.in_ok-slot.ensures.item.1 in
    let lent : c.in_ok-slot.slot.now ≡ Some old = search rules in
    let is : slice_get slots c.args.place ≡ Some (Some old) = there ∙ ap Some lent in
    let noted = c.note_poll.ensures in
    let sums = sum_set slots c.args.place (Some old) (Some new) is in
    let counted = c.self.inside.counted in (
      omega (arith, sums, counted),
      (
        law_of_set slots c.self.inside.schedule.lists c.note_poll.new.self.lists c.self.inside.scheduled c.args.place (Some old) (Some new) noted.list is (list_suits new noted.list noted.fits) noted.moves,
        (search rules, (subst (λ (n : ℕ). c.self.inside.room ≤ n) (sym noted.moves.limit) c.self.inside.listed, tt)),
      ),
    )

pub invariant_of-self-inside-2 : goal.invariant_of-self-inside-2
invariant_of-self-inside-2 g c =
    let old = c.in_ok-transfer.transfer.now in
    let slots = c.self.inside.slots.items in
    let there = slice_get_read slots (length slots) c.args.place c.in_ok-slot.slot.now refl c.in_ok-slot.ensures.item.3.0 c.in_ok-slot.ensures.item.1 in
    let lent : c.in_ok-slot.slot.now ≡ Some old = search rules in
    let is : slice_get slots c.args.place ≡ Some (Some old) = there ∙ ap Some lent in
    let gone : c.take.new.self ≡ None = search rules in
    let sums = sum_set slots c.args.place (Some old) None is in
    let counted = c.self.inside.counted in (
      rw gone (omega (arith, sums, counted)),
      (
        rw gone (law_of_set slots c.self.inside.schedule.lists c.note_end.new.self.lists c.self.inside.scheduled c.args.place (Some old) None free_list is refl c.note_end.ensures),
        (c.self.inside.roomy, (subst (λ (n : ℕ). c.self.inside.room ≤ n) (sym c.note_end.ensures.limit) c.self.inside.listed, tt)),
      ),
    )
