use Rattle.budget.proofs.words.budget.WordBudget.try_open.Given as goal

abbrev pub ghosts-load_total : goal.ghosts-load_total
ghosts-load_total g a = record { limit = a.table.now.shared.key.total }
