use Rattle.budget.proofs.holders.Holders.split.Given as goal

abbrev pub ghosts-split_pair : goal.ghosts-split_pair
ghosts-split_pair a = record { pair = (a.connection, a.transfer) }
