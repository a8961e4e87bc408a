use Rattle.threads_tests.proofs.drivers.threads.there_are_one_to_sixty_four_workers.Given as goal

abbrev pub ghosts-whole_run : goal.ghosts-whole_run
ghosts-whole_run g a = record { names = a.plan }
