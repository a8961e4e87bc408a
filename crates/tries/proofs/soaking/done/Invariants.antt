use Rattle.tries.proofs.soaking.done.Given as goal

-- the cache's names are those of its plan
abbrev pub ghosts-soaked : goal.ghosts-soaked
ghosts-soaked g a = record { names = a.plan }
