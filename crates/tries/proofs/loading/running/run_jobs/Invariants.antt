use Rattle.tries.proofs.loading.running.run_jobs.Given as goal

abbrev pub ghosts-run_over : goal.ghosts-run_over
ghosts-run_over g a = record { names = a.plan }
