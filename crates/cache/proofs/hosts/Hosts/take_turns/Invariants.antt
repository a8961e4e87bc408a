use Rattle.cache.specs.AllHosts.{total_waiting}
use Rattle.cache.specs.Pools.{all_hosts}
use Rattle.cache.proofs.Turning.{IsOnTheWay}
use Rattle.cache.proofs.hosts.Hosts.take_turns.Given as goal

abbrev pub invariant-loop : goal.invariant-loop
invariant-loop g l = IsOnTheWay l.fn.now l.fn.self l.self

abbrev pub decreases-loop : goal.decreases-loop
decreases-loop g l = total_waiting (all_hosts l.self)
