use Rattle.std.proofs.Common.{ap, ◌∙◌}
use Rattle.std.specs.BTreeMap.{keys}
use Rattle.std.proofs.lemmas.Map.Keys.{IsStrictlyIncreasing-from_sorted}
use Rattle.budget.specs.Limits.{Bounds}
use Rattle.cache.specs.Pools.{host_at, all_hosts}
use Rattle.cache.proofs.OneHost.{log_is}
use Rattle.cache.proofs.Keeping.{stays_pool_on, still_there, keeps_others_on}
use Rattle.script_engine.specs.Hosted.{kept_at, merged}
use Rattle.script_engine.specs.Ending.{after_giving_up}
use Rattle.script_engine.proofs.Spending.{sound-at}
use Rattle.script_engine.proofs.Ending.{sorted-merged, each-left, next-gives-up}
use Rattle.script_engine.proofs.site_leases.SiteLeases.spend_all.Goals as goal

pub loop-preserved : goal.loop-preserved
loop-preserved c =
    let start = c.args.pool.now in
    let pool = c.loop.pool in
    let new = c.spend_first.new.pool in
    let site = c.args.site in
    let before = kept_at pool c.loop.self in
    let limits = c.loop.invariant.stays.limits in
    record {
      there = still_there pool new site c.in-Some.ensures.stays c.loop.invariant.there;
      keeps = c.in-Some.ensures.keeps;
      others = keeps_others_on site start pool new c.loop.invariant.stays c.loop.invariant.others c.in-Some.ensures.others;
      stays = stays_pool_on start pool new c.loop.invariant.stays c.in-Some.ensures.stays;
      due = next-gives-up start.limits site before (kept_at new c.spend_first.new.self) c.in-Some.field-0 (merged (keys c.loop.self.leases) (keys c.loop.self.tickets))
          (merged (keys c.spend_first.new.self.leases) (keys c.spend_first.new.self.tickets)) c.in-Some.ensures.first
          (c.in-Some.ensures.all ∙ ap (λ (l : Bounds). after_giving_up l site before c.in-Some.field-0) limits)
          ∙ c.loop.invariant.due;
    }

pub returns-clause-those : goal.returns-clause-those
returns-clause-those c =
    let pool = c.args.pool.now in
    let site = c.args.site in
    let kept = c.args.self.now in
    let those = merged (keys kept.leases) (keys kept.tickets) in
    let sound = sound-at pool site c.requires.there c.is_at_rest.ensures.at_rest c.is_at_rest.ensures.places in
    record {
      ascending = IsStrictlyIncreasing-from_sorted those (sorted-merged (keys kept.leases) (keys kept.tickets) c.requires.keeps.holders);
      each = λ t. each-left (host_at pool site) sound site (all_hosts pool) (log_is pool site) t kept.leases.entries kept.tickets.entries c.requires.keeps.keeps.leases c.requires.keeps.keeps.tickets;
    }
