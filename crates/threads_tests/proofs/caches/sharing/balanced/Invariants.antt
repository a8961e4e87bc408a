use Rattle.threads_tests.proofs.caches.sharing.balanced.Given as goal

abbrev pub ghosts-share : goal.ghosts-share
ghosts-share g a = record { names = a.plan }
