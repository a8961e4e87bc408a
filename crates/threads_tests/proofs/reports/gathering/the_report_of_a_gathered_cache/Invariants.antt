use Rattle.threads_tests.proofs.reports.gathering.the_report_of_a_gathered_cache.Given as goal

abbrev pub ghosts-gathered_after_two : goal.ghosts-gathered_after_two
ghosts-gathered_after_two g a = record { names = a.plan }
