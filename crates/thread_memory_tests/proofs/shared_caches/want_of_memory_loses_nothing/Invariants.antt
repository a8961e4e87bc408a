use Rattle.thread_memory_tests.proofs.shared_caches.want_of_memory_loses_nothing.Given as goal

abbrev pub ghosts-whole_life : goal.ghosts-whole_life
ghosts-whole_life g a = record { names = a.plan }
