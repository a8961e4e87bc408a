use Rattle.threads_tests.proofs.caches.cuts.a_cut_is_refused_where_there_is_no_host.Given as goal

abbrev pub ghosts-refuse_no_host : goal.ghosts-refuse_no_host
ghosts-refuse_no_host g a = record { names = a.plan }
