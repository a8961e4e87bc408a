-- One log more is cut.
use Rattle.std.proofs.Common.{◌≡◌, ℕ, ◌<◌, List, length, set, ap, ◌∙◌, arith}
use Rattle.cache.specs.Pools.{PoolShown, cut_at}
use Rattle.held_pool.specs.Calls.{HeldShown}
use Rattle.curlpool_c.proofs.Cuts.{cut_more, untold_more}
use Rattle.curlpool_c.proofs.logs.drop_all.Goals as goal

pub loop-site-preserved : goal.loop-site-preserved
loop-site-preserved c =
    let old = c.args.held.now in
    let site = c.loop-site.site in
    let one = c.in_default.ensures.ok in
    let there : site < length old.pool.hosts = omega (arith, c.loop-site-test.true, c.hosts-site-end.ensures) in
    record {
      cuts = one.cut ∙ ap (λ (held : HeldShown). record held { pool = cut_at site held.pool }) c.loop-site.invariant.cuts ∙ ap (λ (pool : PoolShown ℕ). record old { pool = pool }) (cut_more old.pool site there);
      noted = one.noted ∙ ap (λ (told : List ℕ). set told site 0) c.loop-site.invariant.noted ∙ untold_more c.args.told.now site;
    }
