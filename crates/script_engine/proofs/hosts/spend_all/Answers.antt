use Rattle.std.proofs.Common.{◌<◌, ◌≤◌, length, arith}
use Rattle.script_engine.proofs.Turned.{one-turned, nothing-kept, all-turned}
use Rattle.script_engine.proofs.PooledSites.{due-at}
use Rattle.script_engine.proofs.hosts.spend_all.Goals as goal

pub spend_all-requires-clause-keeps : goal.spend_all-requires-clause-keeps
spend_all-requires-clause-keeps c =
    let turned = c.loop-site.invariant in
    let there : c.loop-site.site < length c.loop-site.kept.items = omega (arith, c.loop-site-test.true, c.hosts-site-end.ensures, turned.count, c.requires.keeps.count) in
    due-at c.loop-site.pool c.loop-site.kept.items turned.due c.loop-site.site c.index_mut.result.now there c.index_mut.ensures.value

pub loop-site-preserved : goal.loop-site-preserved
loop-site-preserved c =
    let turned = c.loop-site.invariant in
    let there : c.loop-site.site < length c.loop-site.kept.items = omega (arith, c.loop-site-test.true, c.hosts-site-end.ensures, turned.count, c.requires.keeps.count) in
    one-turned c.loop-site.site c.args.pool.now c.loop-site.pool c.spend_all.new.pool c.args.kept.now.items c.loop-site.kept.items c.index_mut.result.now c.spend_all.new.self
    turned there c.index_mut.ensures.value c.spend_all.ensures.all c.spend_all.ensures.leases c.spend_all.ensures.tickets c.spend_all.ensures.keeps c.spend_all.ensures.others c.spend_all.ensures.stays

pub returns-clause-ending : goal.returns-clause-ending
returns-clause-ending c =
    let done : length c.args.kept.now.items ≤ c.loop-site.site = omega (arith, c.loop-site-test.false, c.hosts-site-end.ensures, c.requires.keeps.count) in
    all-turned c.args.pool.now c.loop-site.pool c.args.kept.now.items c.loop-site.kept.items c.requires.keeps c.loop-site.site done c.loop-site.invariant
    c.is_at_rest.ensures.at_rest c.is_at_rest.ensures.places

pub returns-clause-nothing : goal.returns-clause-nothing
returns-clause-nothing c =
    let done : length c.args.kept.now.items ≤ c.loop-site.site = omega (arith, c.loop-site-test.false, c.hosts-site-end.ensures, c.requires.keeps.count) in
    nothing-kept c.args.pool.now c.loop-site.pool c.args.kept.now.items c.loop-site.kept.items c.requires.keeps c.loop-site.site done c.loop-site.invariant
