-- What was kept of a transfer tells how it ended.
use Rattle.std.proofs.Common.{rules, arith, ◌≡◌, IfSome, Some, None, ap, sym, subst, ◌∙◌, ℕ, ◌≤◌, [], ◌∷◌, ◌++◌, length, sum_by}
use Rattle.std.proofs.lemmas.List.Sums.{sum_by_push}
use Rattle.transfer_slab.specs.Slabs.{one_if_some}
use Rattle.transfer_slab.proofs.Scheduling.{law_of_pop}
use Rattle.std.proofs.lemmas.List.Elements.{All-pop}
use Rattle.exchange.specs.Worlds.{world_of}
use Rattle.transfer_slab.specs.Slabs.{IsKept}
use Rattle.transfer_slab.proofs.Slots.{closed_is, transfers_popped, transfers_left}
use Rattle.transfer_slab.proofs.slab.Slab.close_last.Goals as goal

pub returns-in-Some-slot-clause-closed : goal.returns-in-Some-slot-clause-closed
returns-in-Some-slot-clause-closed g c =
    let world = world_of g.W.Wire.untouched g.W.Wire.happened (g.K.Clock.tells c.args.clock.now) in
    let t = c.in-Some-slot.transfer in
    let pops = All-pop (λ slot. IfSome slot (IsKept world (g.C.Cache.home c.loop-slot.cache))) c.loop-slot.self-inside.slots.items c.pop.new.self.items c.pop.result c.pop.ensures.items c.loop-slot.invariant.kept in
    let kept : IsKept world (g.C.Cache.home c.loop-slot.cache) t = rw (c.in-Some.is, c.in-Some-slot.is) at pops.1 in
    closed_is world c.close.result.0 t.parts kept.ready c.close.result.1 t.state c.close.ensures.done c.close.ensures.parts kept.told

pub returns-in-Some-slot-clause-closes : goal.returns-in-Some-slot-clause-closes
returns-in-Some-slot-clause-closes g c =
    let world = world_of g.W.Wire.untouched g.W.Wire.happened (g.K.Clock.tells c.args.clock.now) in
    let t = c.in-Some-slot.transfer in
    let pops = All-pop (λ slot. IfSome slot (IsKept world (g.C.Cache.home c.loop-slot.cache))) c.loop-slot.self-inside.slots.items c.pop.new.self.items c.pop.result c.pop.ensures.items c.loop-slot.invariant.kept in
    let kept : IsKept world (g.C.Cache.home c.loop-slot.cache) t = rw (c.in-Some.is, c.in-Some-slot.is) at pops.1 in
    let popped = transfers_popped c.loop-slot.self-inside.slots.items c.pop.new.self.items (Some t) (rw (c.in-Some.is, c.in-Some-slot.is) at c.pop.ensures.items) in
    rw (← c.loop-slot.invariant.cache, ← c.loop-slot.invariant.dial) (record {
      transfer = t;
      taken = sym c.loop-slot.invariant.left ∙ popped;
      kept = kept;
      moment = c.now.result;
      told = c.now.ensures;
      cancels = c.close.ensures.cancels;
      closes = c.close.ensures.done;
      parts = c.close.ensures.parts;
      begun = c.close.ensures.begun;
      leaves = c.close.ensures.leaves_dial;
    })

pub loop-slot-preserved : goal.loop-slot-preserved
loop-slot-preserved g c =
    let left = transfers_left c.loop-slot.self-inside.slots.items c.pop.new.self.items (rw (c.in-Some.is, c.in_default-slot.is) at c.pop.ensures.items) in
    let world = world_of g.W.Wire.untouched g.W.Wire.happened (g.K.Clock.tells c.args.clock.now) in
    let pops = All-pop (λ slot. IfSome slot (IsKept world (g.C.Cache.home c.loop-slot.cache))) c.loop-slot.self-inside.slots.items c.pop.new.self.items c.pop.result c.pop.ensures.items c.loop-slot.invariant.kept in
    record {
      kept = pops.0;
      count = search rules;
      left = left ∙ c.loop-slot.invariant.left;
      cache = search rules;
      dial = search rules;
      room = search rules;
    }

pub invariant_of-self-inside : goal.invariant_of-self-inside
invariant_of-self-inside g c =
    let slots = c.loop-slot.self-inside.slots.items in
    let left = c.pop.new.self.items in
    let pops : slots ≡ left ++ (Some c.in-Some-slot.transfer ∷ []) = rw (c.in-Some.is, c.in-Some-slot.is) at c.pop.ensures.items in
    let place : c.len.result ≡ length left = c.len.ensures ∙ c.pop.new.self.ok.0 in
    let sums = ap (sum_by one_if_some) pops ∙ sum_by_push one_if_some left (Some c.in-Some-slot.transfer) in
    let counted = c.loop-slot.self-inside.counted in (
      omega (arith, sums, counted),
      (
        rw c.note_spent.ensures (law_of_pop slots left c.loop-slot.self-inside.schedule.lists c.note_gone.new.self.lists c.len.result (Some c.in-Some-slot.transfer) c.loop-slot.self-inside.scheduled pops place c.note_gone.ensures),
        (subst (λ (n : ℕ). c.loop-slot.self-inside.room ≤ n) (sym c.pop.ensures.capacity) c.loop-slot.self-inside.roomy, (rw c.note_spent.ensures (subst (λ (n : ℕ). c.loop-slot.self-inside.room ≤ n) (sym c.note_gone.ensures.limit) c.loop-slot.self-inside.listed), tt)),
      ),
    )

pub invariant_of-self-inside-in_default-slot : goal.invariant_of-self-inside-in_default-slot
invariant_of-self-inside-in_default-slot g c =
    let slots = c.loop-slot.self-inside.slots.items in
    let left = c.pop.new.self.items in
    let pops : slots ≡ left ++ (None ∷ []) = rw (c.in-Some.is, c.in_default-slot.is) at c.pop.ensures.items in
    let place : c.len.result ≡ length left = c.len.ensures ∙ c.pop.new.self.ok.0 in
    let sums = ap (sum_by one_if_some) pops ∙ sum_by_push one_if_some left None in
    let counted = c.loop-slot.self-inside.counted in (
      omega (arith, sums, counted),
      (
        law_of_pop slots left c.loop-slot.self-inside.schedule.lists c.note_gone.new.self.lists c.len.result None c.loop-slot.self-inside.scheduled pops place c.note_gone.ensures,
        (subst (λ (n : ℕ). c.loop-slot.self-inside.room ≤ n) (sym c.pop.ensures.capacity) c.loop-slot.self-inside.roomy, (subst (λ (n : ℕ). c.loop-slot.self-inside.room ≤ n) (sym c.note_gone.ensures.limit) c.loop-slot.self-inside.listed, tt)),
      ),
    )
