use Rattle.load_run.proofs.loading.load_many.Given as goal

abbrev pub ghosts-load_over : goal.ghosts-load_over
ghosts-load_over g a = record { names = a.hosts }
