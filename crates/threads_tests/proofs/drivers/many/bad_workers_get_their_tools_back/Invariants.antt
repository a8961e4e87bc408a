use Rattle.threads_tests.proofs.drivers.many.bad_workers_get_their_tools_back.Given as goal

abbrev pub ghosts-check_refused : goal.ghosts-check_refused
ghosts-check_refused g a = record { names = a.plan }
