use Rattle.std.proofs.Common.{drop}
use Rattle.std.specs.Prelude.{Option}
use Rattle.std.specs.declared.net.socket_addr.SocketAddr.{SocketAddr}
use Rattle.commands.specs.Given.{IsGivenAddress}
use Rattle.commands.proofs.resolved.resolved_of.Given as goal

abbrev pub invariant-loop-given : goal.invariant-loop-given
invariant-loop-given l = (found : Option SocketAddr) → IsGivenAddress l.host l.port (drop l.given-index l.resolved) found → IsGivenAddress l.host l.port l.resolved found
