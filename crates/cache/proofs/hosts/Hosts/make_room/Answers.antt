use Rattle.std.proofs.Common.{◌≡◌, Bool, false, sym, ap, subst, ◌∙◌}
use Rattle.std.specs.Prelude.{if◌then◌else◌}
use Rattle.budget.specs.Plain.{alive_in}
use Rattle.conn_log.specs.declared.entry.Cause.{Cause}
use Rattle.conn_log.specs.declared.entry.Cause.TheVariants.{TotalRoom}
use Rattle.cache.specs.AllHosts.{AllHosts, has_room, without_oldest}
use Rattle.cache.specs.Pools.{PoolShown, all_hosts}
use Rattle.cache.specs.PoolCalls.{IsCallAtAll}
use Rattle.cache.proofs.HostSums.{total_is, no_room_at_limit}
use Rattle.cache.proofs.hosts.Hosts.make_room.Goals as goal

pub returns-clause-done : goal.returns-clause-done
returns-clause-done g c =
    let inside = c.self.inside in
    let all = all_hosts c.args.self.now in
    let at_limit = sym c.is_full.ensures.full ∙ c.if-not-is_full.false in
    let no_room : has_room c.args.self.now.limits all ≡ false =
    ap (λ (p : PoolShown g.row.S.Denot). has_room p.limits (all_hosts p)) (sym c.self.view_is)
    ∙ no_room_at_limit (alive_in inside.budget.hosts) _ inside.budget.limits.total (total_is inside.bundles.items inside.budget c.self.invariant.parts) at_limit in
    let end = ap (λ (cause : Cause). without_oldest cause c.args.now all) c.short_of_total-short.ensures ∙ sym (ap (λ (b : Bool). if b then all else without_oldest TotalRoom c.args.now all) no_room) in
    λ closed. subst (λ (all : AllHosts). IsCallAtAll all c.args.self.now c.close_oldest.new.self) end c.close_oldest.ensures.done
