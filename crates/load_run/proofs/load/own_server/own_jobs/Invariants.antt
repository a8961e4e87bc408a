use Rattle.std.proofs.Common.{◌≡◌, length}
use Rattle.load_run.specs.LoadJobs.{AreOwnJobs}
use Rattle.load_run.proofs.load.own_server.own_jobs.Given as goal

abbrev pub invariant-loop-number : goal.invariant-loop-number
invariant-loop-number l = record { so_far : AreOwnJobs l.flags l.ports 0 l.jobs.items; count_is : length l.jobs.items ≡ l.number }
