use Rattle.threads_tests.proofs.drivers.events.each_log_tells_of_its_jobs.Given as goal

abbrev pub ghosts-whole_run : goal.ghosts-whole_run
ghosts-whole_run g a = record { names = a.plan }
