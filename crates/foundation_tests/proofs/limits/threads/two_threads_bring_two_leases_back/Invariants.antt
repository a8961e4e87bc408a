use Rattle.foundation_tests.proofs.limits.threads.two_threads_bring_two_leases_back.Given as goal

abbrev pub ghosts-bring_back_by_two : goal.ghosts-bring_back_by_two
ghosts-bring_back_by_two g a = record { table = a.holders.table }
