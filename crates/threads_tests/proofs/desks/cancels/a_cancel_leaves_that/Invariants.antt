use Rattle.threads_tests.proofs.desks.cancels.a_cancel_leaves_that.Given as goal

abbrev pub ghosts-run_row : goal.ghosts-run_row
ghosts-run_row g a = record { names = a.plan }
