use Rattle.std.proofs.Common.{suc, ◌-◌, vec_len}
use Rattle.socket.specs.Hosts.{KeepsHosts}
use Rattle.socket.proofs.addresses.Addresses.grow.Given as goal

abbrev pub invariant-loop-alloc : goal.invariant-loop-alloc
invariant-loop-alloc l = KeepsHosts l.fn.self.hosts.items l.self.hosts.items

abbrev pub decreases-loop-alloc : goal.decreases-loop-alloc
decreases-loop-alloc l = suc l.place - vec_len l.self.hosts
