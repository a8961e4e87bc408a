use Rattle.std.proofs.Common.{subst}
use Rattle.conn_log.specs.declared.entry.Cause.{Cause}
use Rattle.cache.specs.AllHosts.{without_oldest}
use Rattle.cache.specs.Pools.{all_hosts}
use Rattle.cache.specs.PoolCalls.{IsCallAtAll}
use Rattle.cache.proofs.TwoTries.{kept_later}
use Rattle.cache.proofs.hosts.Hosts.keep_in_place_of_oldest.Goals as goal

pub returns : goal.returns
returns g c =
    let start = c.args.self.now in
    let closed = c.close_oldest.new.self in
    let asked = c.requires in
    let room = subst (λ (cause : Cause). IsCallAtAll (without_oldest cause c.args.now (all_hosts start)) start closed) c.part-lease.ensures.short c.close_oldest.ensures.done in
    kept_later start closed c.try_to_keep.new.self c.args.facts c.args.now room c.args.no_keep c.part-lease.result.0 c.part-lease.ensures.lease asked.here.there asked.known asked.was_open asked.idle asked.kept_full.0 c.in-None.ensures.done
