use Rattle.callers.proofs.caches.a_cache_without_transfers_has_a_report.Given as goal

abbrev pub ghosts-report_nothing : goal.ghosts-report_nothing
ghosts-report_nothing g a = record { names = a.plan }
