use Rattle.std.proofs.Common.{string_bytes}
use Rattle.script_engine.proofs.PooledSites.{seen-upkept}
use Rattle.script_engine.proofs.hosts.PooledHosts.upkeep.Goals as goal

pub returns : goal.returns
returns c =
    seen-upkept c.self.inside.pool c.self.inside.kept.items c.self.inside.told.items c.self.invariant c.args.self.now c.self.view_is string_bytes
    c.upkeep-2.result c.upkeep.new.self c.upkeep.result c.upkeep.ensures.same c.upkeep.ensures.none c.upkeep-2.ensures
