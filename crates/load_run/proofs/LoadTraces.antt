-- Traces of loads: their hosts, and why they are not written whole.
use Rattle.std.proofs.Common.{◌≡◌, ℕ, ◌+◌, List, [], ◌∷◌, ◌++◌, length, inr, arith}
use Rattle.streams.specs.declared.stream_fault.StreamFault.{StreamFault}
use Rattle.streams.specs.declared.stream_fault.StreamFault.TheVariants as kinds
use Rattle.streams.specs.Streams.{PutFails, Stream}
use Rattle.trace_text.specs.HostUses.{AreUsesOf}
use Rattle.trace_text.specs.declared.host_trace.HostTrace.{HostTrace}
use Rattle.load_run.specs.LoadTraces.{AreNewHosts, TraceFails, fault_of}

-- why the bytes were not put is why the trace was not written
pub put-failed : (old new : Stream) (bytes : List ℕ) (kind : StreamFault) → PutFails old new bytes kind → TraceFails bytes old new (fault_of kind)
put-failed old new bytes kinds.Memory fails = inr fails
put-failed old new bytes kinds.Read fails = absurd fails
put-failed old new bytes kinds.Write fails = fails

-- one more host without entries
pub new_hosts_more : (index : ℕ) (hosts : List HostTrace) (host : HostTrace) → AreNewHosts index hosts → host.host ≡ index + length hosts → AreUsesOf [] host.uses → AreNewHosts index (hosts ++ host ∷ [])
new_hosts_more index [] host so_far at unused = (omega (arith, at), unused, tt)
new_hosts_more index (h ∷ hosts) host so_far at unused = (so_far.0, so_far.1, new_hosts_more (index + 1) hosts host so_far.2 (omega (arith, at)) unused)
