use Rattle.std.proofs.Common.{◌≡◌, drop}
use Rattle.log_judge.specs.AllHosts.{has_room, first_waiting}
use Rattle.log_judge.proofs.monitor.Monitor.first_waiting.Given as goal

-- the hosts looked at are settled
abbrev pub invariant-loop-site : goal.invariant-loop-site
invariant-loop-site l = first_waiting (has_room l.self) l.site (drop l.site l.self.hosts) ≡ first_waiting (has_room l.self) 0 l.self.hosts
