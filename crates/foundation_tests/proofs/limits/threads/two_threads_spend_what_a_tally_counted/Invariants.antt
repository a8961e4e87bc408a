use Rattle.foundation_tests.proofs.limits.threads.two_threads_spend_what_a_tally_counted.Given as goal

abbrev pub ghosts-spend_by_two : goal.ghosts-spend_by_two
ghosts-spend_by_two g a = record { table = a.tally.table }
