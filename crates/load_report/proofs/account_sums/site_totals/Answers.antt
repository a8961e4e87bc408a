-- The sums of one site after another are added.
use Rattle.std.proofs.Common.{rules, ◌∙◌, ◌-◌, ◌+◌, ◌∷◌, ◌++◌, [], List, ap, ne_eqb}
use Rattle.shared_cache.specs.declared.gathered.HostCount.{HostCount}
use Rattle.load_report.specs.Accounts.{sums_by_site}
use Rattle.load_report.proofs.SiteSums.{all_sites, one_site}
use Rattle.load_report.proofs.account_sums.site_totals.Goals as goal

pub loop-preserved : goal.loop-preserved
loop-preserved c =
    let sums = c.loop.sums.items in
    let left = c.loop.left.now in
    let others = c.split_at.result.1.now in
    let rest = sums_by_site (c.args.sites - (c.loop.counter + 1)) c.args.each others in
    ap (λ (l : List HostCount). l ++ rest) (c.in_ok-push.ensures.items ∙ ap (λ (t : HostCount). sums ++ t ∷ []) c.totals.ensures)
    ∙ one_site c.args.sites c.loop.counter c.args.each c.min.result left others sums c.split_at.result.0.now c.loop-test.true (search rules) c.split_at.ensures.front c.split_at.ensures.back
    ∙ c.loop.invariant

pub returns : goal.returns
returns c = all_sites c.args.sites c.loop.counter c.args.each c.loop.left.now c.args.hosts.now c.loop.sums.items (ne_eqb _ _ c.if-each-eq1.false) c.loop-test.false c.loop.invariant
