use Rattle.threads_tests.proofs.caches.cuts.drawn_history.Given as goal

abbrev pub ghosts-history : goal.ghosts-history
ghosts-history g a = record { names = a.plan }
