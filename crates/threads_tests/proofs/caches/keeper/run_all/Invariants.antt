use Rattle.threads_tests.proofs.caches.keeper.run_all.Given as goal

abbrev pub ghosts-run_row : goal.ghosts-run_row
ghosts-run_row g a = record { names = a.plan }
