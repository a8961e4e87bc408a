-- What joins is a new transfer, which is kept, and it is one more.
use Rattle.std.proofs.Common.{◌≡◌, refl, inl, inr, ap, ◌∙◌, length, slice_get, Some, None, arith}
use Rattle.exchange.specs.Worlds.{world_of}
use Rattle.transfer_slab.proofs.Slots.{begins_kept, kept_with, kept_behind, one_more_at}
use Rattle.transfer_slab.proofs.Scheduling.{free_is_vacant, taken_if_none_free}
use Rattle.transfer_slab.proofs.slab.Slab.join.Goals as goal

pub fill-requires : goal.fill-requires
fill-requires g c = record { vacant = rw (← c.self.view_is) (free_is_vacant c.self.inside.slots.items c.self.inside.schedule.lists c.in-Some.place c.self.inside.scheduled c.in-Some.ensures.free) }

pub returns-in-Some-clause-all_kept : goal.returns-in-Some-clause-all_kept
returns-in-Some-clause-all_kept g c =
    let world = world_of g.W.Wire.untouched g.W.Wire.happened (g.K.Clock.tells c.args._clock.now) in
    let home = g.C.Cache.home c.args._cache.now in
    let slots = c.args.self.now.slots in
    rw c.fill.ensures.items (kept_with world home slots c.new.result (begins_kept world home c.new.result (rw c.new.ensures.parts c.requires.unused) (c.new.ensures.owns home) c.new.ensures.ready c.new.ensures.asking) c.requires.all_kept c.in-Some.place)

pub returns-in-Some-clause-more : goal.returns-in-Some-clause-more
returns-in-Some-clause-more g c =
    let slots = c.self.inside.slots.items in
    rw (c.fill.ensures.items, ← c.self.view_is) (one_more_at slots c.in-Some.place c.new.result (free_is_vacant slots c.self.inside.schedule.lists c.in-Some.place c.self.inside.scheduled c.in-Some.ensures.free))

pub returns-in-Some-clause-joins : goal.returns-in-Some-clause-joins
returns-in-Some-clause-joins g c =
    let vacant : slice_get c.args.self.now.slots c.in-Some.place ≡ Some None =
    rw (← c.self.view_is) (free_is_vacant c.self.inside.slots.items c.self.inside.schedule.lists c.in-Some.place c.self.inside.scheduled c.in-Some.ensures.free) in
    rw c.fill.ensures.items (record {
      transfer = c.new.result;
      its = c.new.ensures.parts;
      begins = c.new.ensures.asking;
      stands = inl (vacant, refl);
    })

pub returns-in_default-grow-clause-given_back : goal.returns-in_default-grow-clause-given_back
returns-in_default-grow-clause-given_back g c =
    let short = rw (← c.self.view_is) at c.in_default-grow.ensures.past_room in
    let taken = taken_if_none_free c.self.inside.slots.items c.self.inside.schedule.lists c.self.inside.scheduled c.in_default.ensures.none_free in
    (refl, c.grow.ensures.items, rw (← c.self.view_is) (omega (arith, short, taken)))

pub returns-clause-all_kept : goal.returns-clause-all_kept
returns-clause-all_kept g c =
    let world = world_of g.W.Wire.untouched g.W.Wire.happened (g.K.Clock.tells c.args._clock.now) in
    let home = g.C.Cache.home c.args._cache.now in
    let slots = c.args.self.now.slots in
    rw (c.append.ensures.items, c.grow.ensures.items) (kept_behind world home slots c.new-2.result (begins_kept world home c.new-2.result (rw c.new-2.ensures.parts c.requires.unused) (c.new-2.ensures.owns home) c.new-2.ensures.ready c.new-2.ensures.asking) c.requires.all_kept)

pub returns-clause-joins : goal.returns-clause-joins
returns-clause-joins g c =
    rw (c.append.ensures.items, c.grow.ensures.items) (record {
      transfer = c.new-2.result;
      its = c.new-2.ensures.parts;
      begins = c.new-2.ensures.asking;
      stands = inr (c.in-Ok.ensures.place ∙ ap length c.grow.ensures.items, refl);
    })
