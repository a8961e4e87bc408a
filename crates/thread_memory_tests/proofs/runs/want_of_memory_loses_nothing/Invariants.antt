use Rattle.thread_memory_tests.proofs.runs.want_of_memory_loses_nothing.Given as goal

abbrev pub ghosts-whole_run : goal.ghosts-whole_run
ghosts-whole_run g a = record { names = a.plan }
