use Rattle.threads_tests.proofs.drivers.threads.a_failed_turn_ends_all.Given as goal

abbrev pub ghosts-whole_run : goal.ghosts-whole_run
ghosts-whole_run g a = record { names = a.plan }
