use Rattle.threads_tests.proofs.drivers.many.jobs_of_many_places_have_their_results.Given as goal

abbrev pub ghosts-check_row : goal.ghosts-check_row
ghosts-check_row g a = record { names = a.plan }
