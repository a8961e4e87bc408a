use Rattle.measures.proofs.shared.leases_of.Given as goal

-- the cache's names are those of its plan
abbrev pub ghosts-measured : goal.ghosts-measured
ghosts-measured g a = record { names = a.plan }
