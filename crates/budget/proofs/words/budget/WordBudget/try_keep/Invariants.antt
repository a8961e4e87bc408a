use Rattle.budget.proofs.words.budget.WordBudget.try_keep.Given as goal

abbrev pub ghosts-load_kept : goal.ghosts-load_kept
ghosts-load_kept g a = record { limit = a.table.now.shared.key.connects }
