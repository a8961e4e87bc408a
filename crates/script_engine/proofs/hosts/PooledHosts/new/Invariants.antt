use Rattle.std.proofs.Common.{◌≡◌, ◌-◌, ◌≤◌, length, replicate}
use Rattle.std.specs.Vec.{vec_capacity}
use Rattle.script_engine.specs.Hosted.{NothingIsKept}
use Rattle.script_engine.proofs.hosts.PooledHosts.new.Given as goal

-- nobody has anything at the sites so far, of which nothing was told, and there is room for all
abbrev pub invariant-loop-alloc : goal.invariant-loop-alloc
invariant-loop-alloc l = record {
  within : length l.told.items ≤ l.sites;
  told : l.told.items ≡ replicate (length l.told.items) 0;
  count : length l.kept.items ≡ length l.told.items;
  nothing : NothingIsKept l.kept.items;
  room : l.sites ≤ vec_capacity l.told;
  room_kept : l.sites ≤ vec_capacity l.kept;
}

abbrev pub decreases-loop-alloc : goal.decreases-loop-alloc
decreases-loop-alloc l = l.sites - length l.told.items
