use Rattle.std.proofs.Common.{◌≡◌, take}
use Rattle.bundle.specs.Passes.{spent_with}
use Rattle.shared_cache.proofs.gathering.spent_by_all.Given as goal

abbrev pub invariant-loop-pass : goal.invariant-loop-pass
invariant-loop-pass l = l.spent ≡ spent_with l.host (take l.pass-index l.passes)
