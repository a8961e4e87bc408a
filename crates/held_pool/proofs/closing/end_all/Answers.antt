-- What the last place holds is ended, and what is left is due.
use Rattle.std.proofs.Common.{◌++◌, ◌∷◌, []}
use Rattle.held_pool.specs.Due.{AreDue}
use Rattle.held_pool.proofs.EndedDue.{last_due, left_due, ends_none, ends_more, ends_all}
use Rattle.held_pool.proofs.closing.end_all.Goals as goal

pub loop-held-init : goal.loop-held-init
loop-held-init c = record { due = c.requires; ended = ends_none c.args.pool.now c.args.now c.args.slots.now.places.items }

pub end-requires : goal.end-requires
end-requires c =
    let popped = c.in-Some.ensures.some in
    let left = c.pop.new.self.places.items in
    let due : AreDue c.loop-held.pool (left ++ popped.0 ∷ []) = rw popped.2 at c.loop-held.invariant.due in
    last_due c.loop-held.pool c.loop-held.pool c.args.now left popped.0 due c.in-Some.held popped.1

pub loop-held-preserved : goal.loop-held-preserved
loop-held-preserved c =
    let popped = c.in-Some.ensures.some in
    let left = c.pop.new.self.places.items in
    let due : AreDue c.loop-held.pool (left ++ popped.0 ∷ []) = rw popped.2 at c.loop-held.invariant.due in
    record {
      due = left_due c.loop-held.pool c.end.new.pool c.args.now left popped.0 due c.in-Some.held popped.1 c.end.ensures;
      ended = ends_more c.args.pool.now c.loop-held.pool c.end.new.pool c.args.now c.args.slots.now.places.items c.loop-held.slots.places.items left popped.0 c.loop-held.invariant.ended popped.2 c.in-Some.held popped.1 c.end.ensures;
    }

pub returns-clause-done : goal.returns-clause-done
returns-clause-done c = ends_all c.args.pool.now c.loop-held.pool c.args.now c.args.slots.now.places.items c.loop-held.slots.places.items c.loop-held.invariant.ended c.in_default.ensures.none
