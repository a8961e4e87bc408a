use Rattle.foundation_tests.proofs.limits.threads.two_hosts_are_listed_where_they_are_marked.Given as goal

abbrev pub ghosts-come_and_go_by_two : goal.ghosts-come_and_go_by_two
ghosts-come_and_go_by_two g a = record { table = a.seat.table }
