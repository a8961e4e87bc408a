use Rattle.threads_tests.proofs.caches.inspecting.one_looks_while_another_acquires_elsewhere.Given as goal

abbrev pub ghosts-both : goal.ghosts-both
ghosts-both g a = record { names = a.plan }
