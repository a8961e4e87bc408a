use Rattle.std.proofs.Common.{◌≡◌, vec_len}
use Rattle.loopback_server.proofs.server.Server.listen.Given as goal

abbrev pub invariant-loop-site : goal.invariant-loop-site
invariant-loop-site g l = vec_len l.ports ≡ l.site
