use Rattle.std.proofs.Common.{◌<◌, IfSome}
use Rattle.shared_cache.proofs.hints.Hints.first.Given as goal

abbrev pub invariant-loop-host : goal.invariant-loop-host
invariant-loop-host l = IfSome l.first (λ hinted. hinted.host < l.self)
