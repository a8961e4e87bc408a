use Rattle.std.proofs.Common.{◌≡◌, ◌+◌, ◌≤◌, [], vec_len, vec_capacity}
use Rattle.budget.specs.Words.{whole, held_by as held_at}
use Rattle.budget.specs.Permits.{held}
use Rattle.shared_cache.specs.Planning.{AreNewFrom}
use Rattle.shared_cache.proofs.plan.plan_hosts.Given as goal

abbrev pub invariant-loop-host : goal.invariant-loop-host
invariant-loop-host g l = record {
  new : AreNewFrom l.budget l.link 0 l.planned.items;
  number : vec_len l.planned ≡ l.host;
  room : l.hosts ≤ vec_capacity l.planned;
  words : l.gatherer.table ≡ l.budget.table;
  share : l.gatherer.view.share + l.host ≡ whole;
  nothing : held_at l.gatherer ≡ held 0 0;
  marks : l.listed.table ≡ l.link;
  none_listed : l.listed.hosts ≡ [];
  seats : l.listed.seats ≡ l.host;
}
