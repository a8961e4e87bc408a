use Rattle.tries.proofs.scripts.run.Given as goal

-- the cache's names are those of its plan
abbrev pub ghosts-run_commands : goal.ghosts-run_commands
ghosts-run_commands g a = record { names = a.plan }
