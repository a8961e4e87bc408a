use Rattle.threads_tests.proofs.caches.example.the_second_request_over_a_shared_cache_reuses_the_connection.Given as goal

abbrev pub ghosts-fetch_twice : goal.ghosts-fetch_twice
ghosts-fetch_twice g a = record { names = a.plan }
