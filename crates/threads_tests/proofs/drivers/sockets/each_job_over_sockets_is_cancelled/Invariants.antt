use Rattle.threads_tests.proofs.drivers.sockets.each_job_over_sockets_is_cancelled.Given as goal

abbrev pub ghosts-left_by : goal.ghosts-left_by
ghosts-left_by g a = record { names = a.plan }
