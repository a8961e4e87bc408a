use Rattle.tries.proofs.many.done.Given as goal

abbrev pub ghosts-carried : goal.ghosts-carried
ghosts-carried g a = record { names = a.plan }
