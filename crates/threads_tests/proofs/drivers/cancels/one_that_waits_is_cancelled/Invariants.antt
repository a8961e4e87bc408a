use Rattle.threads_tests.proofs.drivers.cancels.one_that_waits_is_cancelled.Given as goal

abbrev pub ghosts-whole_run : goal.ghosts-whole_run
ghosts-whole_run g a = record { names = a.plan }
