use Rattle.std.proofs.Common.{◌≡◌, ◌+◌, ◌≤◌, ◌++◌, map, vec_len, vec_capacity}
use Rattle.std.specs.Vec.Iter.{into_iter_len, into_iter_items}
use Rattle.budget.specs.Words.{whole, held_by as held_at}
use Rattle.budget.specs.Permits.{held}
use Rattle.shared_cache.specs.Counting.{host_count, logs_of}
use Rattle.shared_cache.specs.Gathering.{hosts_under, open_at_all, idle_at_all}
use Rattle.shared_cache.proofs.gathering.join_hosts.Given as goal

abbrev pub invariant-loop-host : goal.invariant-loop-host
invariant-loop-host g l =
    (goal.iterator-loop-host g).can_next l.host-iterator × (goal.iterator-loop-host g).is_finite l.host-iterator
    × (l.yielded ++ into_iter_items l.host-iterator ≡ l.fn.hosts.items)
    × (vec_len l.counts + into_iter_len l.host-iterator ≡ vec_len l.fn.hosts)
    × (vec_len l.bundles + into_iter_len l.host-iterator ≡ vec_len l.fn.hosts)
    × (vec_len l.fn.hosts ≤ vec_capacity l.counts)
    × (vec_len l.fn.hosts ≤ vec_capacity l.bundles)
    × (l.gatherer.table ≡ l.budget.table)
    × (l.gatherer.view.share + into_iter_len l.host-iterator ≡ whole)
    × (held_at l.gatherer ≡ held (open_at_all (logs_of (hosts_under l.yielded))) (idle_at_all (logs_of (hosts_under l.yielded))))
    × (l.counts.items ≡ map host_count (logs_of (hosts_under l.yielded)))
    × (l.bundles.items ≡ hosts_under l.yielded)
