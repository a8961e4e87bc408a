use Rattle.threads_tests.proofs.drivers.orders.one_begins_once_another_has_ended.Given as goal

abbrev pub ghosts-whole_run : goal.ghosts-whole_run
ghosts-whole_run g a = record { names = a.plan }
