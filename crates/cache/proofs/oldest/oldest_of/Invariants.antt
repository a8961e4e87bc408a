use Rattle.cache.proofs.FirstPlaces.{IsRead}
use Rattle.cache.proofs.oldest.oldest_of.Given as goal

abbrev pub invariant-loop-place : goal.invariant-loop-place
invariant-loop-place l = IsRead l.stamps l.place l.first l.oldest
