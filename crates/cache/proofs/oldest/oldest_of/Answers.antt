use Rattle.std.proofs.Common.{◌∙◌, refl, sym}
use Rattle.cache.proofs.FirstPlaces.{nothing_read, reads_later, reads_earlier, found_first, found_none}
use Rattle.cache.proofs.oldest.oldest_of.Goals as goal
use Rattle.cache.proofs.oldest.oldest_of.Goals.{then-is_before, else-is_before}

pub loop-place-init : goal.loop-place-init
loop-place-init c = nothing_read c.args.stamps.now

pub loop-place-preserved : goal.loop-place-preserved
loop-place-preserved c = elim c.if-is_before.branch [
  | then-is_before w ↦ rw (w.first-is, w.oldest-is) (reads_earlier _ _ _ _ c.loop-place.invariant _ refl (sym c.is_before.ensures ∙ w.if-is_before.true))
  | else-is_before w ↦ rw (w.first-is, w.oldest-is) (reads_later _ _ _ _ c.loop-place.invariant _ refl (sym c.is_before.ensures ∙ w.if-is_before.false))
]

pub returns-clause-some : goal.returns-clause-some
returns-clause-some c = found_first _ _ c.loop-place-test.false c.loop-place.auto.place-end _ _ c.loop-place.invariant

pub returns-clause-none : goal.returns-clause-none
returns-clause-none c = found_none _ _ c.loop-place-test.false c.loop-place.auto.place-end _ _ c.loop-place.invariant
