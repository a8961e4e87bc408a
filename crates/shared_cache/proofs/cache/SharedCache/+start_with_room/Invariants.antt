use Rattle.shared_cache.proofs.cache.SharedCache.+start_with_room.Given as goal

abbrev pub decreases-start_with_room : goal.decreases-start_with_room
decreases-start_with_room g l = l.tries
