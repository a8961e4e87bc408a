use Rattle.std.proofs.Common.{sym}
use Rattle.shared_cache.proofs.ChangedLimits.{changed_as}
use Rattle.shared_cache.proofs.locked.LockedHost.set_limit.Goals as goal

pub returns-clause-done : goal.returns-clause-done
returns-clause-done g c =
    let host = c.self.inside.bundle in
    let told = c.set_host_limit-changed in
    rw (sym c.self.view_is) (changed_as host.host c.args.now c.args.limit host.log told.result c.args.pass.now told.new.pass told.ensures.tells)
