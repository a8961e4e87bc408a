use Rattle.callers.proofs.caches.a_handle_shows_its_pass.Given as goal

abbrev pub ghosts-use_handle : goal.ghosts-use_handle
ghosts-use_handle g a = record { names = a.plan }
