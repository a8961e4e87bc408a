use Rattle.threads_tests.proofs.drivers.runs.each_job_has_its_result.Given as goal

abbrev pub ghosts-whole_run : goal.ghosts-whole_run
ghosts-whole_run g a = record { names = a.plan }
