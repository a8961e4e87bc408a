use Rattle.budget.proofs.holders.Holders.mark.Given as goal

abbrev pub ghosts-mark_pair : goal.ghosts-mark_pair
ghosts-mark_pair a = record { pair = (a.connection, a.transfer) }
