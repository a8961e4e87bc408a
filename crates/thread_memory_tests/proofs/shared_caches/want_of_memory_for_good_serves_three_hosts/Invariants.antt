use Rattle.thread_memory_tests.proofs.shared_caches.want_of_memory_for_good_serves_three_hosts.Given as goal

abbrev pub ghosts-serve_all : goal.ghosts-serve_all
ghosts-serve_all g a = record { names = a.plan }
