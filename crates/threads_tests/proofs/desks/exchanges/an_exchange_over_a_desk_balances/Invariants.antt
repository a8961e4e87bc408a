use Rattle.threads_tests.proofs.desks.exchanges.an_exchange_over_a_desk_balances.Given as goal

abbrev pub ghosts-one_exchange : goal.ghosts-one_exchange
ghosts-one_exchange g a = record { names = a.plan }
