use Rattle.thread_memory_tests.proofs.shared_caches.want_of_memory_for_good_keeps_each_promise.Given as goal

abbrev pub ghosts-end_all : goal.ghosts-end_all
ghosts-end_all g a = record { names = a.plan }
