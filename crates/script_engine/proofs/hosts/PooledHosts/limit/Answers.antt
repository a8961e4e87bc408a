use Rattle.std.proofs.Common.{◌≡◌, ◌⊎◌, ℕ, refl, sym, ◌∙◌, ap, subst, inl, inr, string_bytes, Some, None, Err}
use Rattle.budget.specs.declared.refusal.Refusal.{Refusal}
use Rattle.budget.specs.declared.refusal.Refusal.TheVariants as refusals
use Rattle.host_state.specs.Calls.{limit_refusal}
use Rattle.cache.specs.AllHosts.{AllHosts, log_at}
use Rattle.cache.specs.Pools.{PoolShown, host_at, all_hosts}
use Rattle.cache.specs.PoolCalls.{limit_refusal_at}
use Rattle.cache.proofs.OneHost.{log_is}
use Rattle.cache.proofs.Refusals.{limit_due, owed_in, reason_in}
use Rattle.cache.proofs.PoolCalls.{all_same_as}
use Rattle.script_text.specs.declared.command.Action.TheVariants as actions
use Rattle.script_engine.specs.Meaning.{AtSite, at_site, grown, replied, limit_at, limit_word}
use Rattle.script_engine.specs.Telling.{AllGrowAfter}
use Rattle.script_engine.proofs.Answering.{accepted, gives-answer, gives-grown, limit-refused, limit-changed}
use Rattle.script_engine.proofs.GrowthOfAll.{limited-grow}
use Rattle.script_engine.proofs.PooledSites.{shown, all-due, none-cut, told-before, text-of-growth, seen-host, seen-beside}
use Rattle.script_engine.proofs.hosts.PooledHosts.limit.Goals as goal

-- a refusal for a reason that is not memory
refused-for : (pool new : PoolShown (Unit {0})) (site n moment : ℕ) (here : AtSite) (why : Refusal) (apart : why ≡ refusals.Memory → ⊥) → here.all ≡ all_hosts pool → new ≡ pool
    → (limit_refusal n (host_at pool site).log ≡ Some why) ⊎ (why ≡ refusals.Memory)
    → limit_at pool.limits site n moment here ≡ replied (record here { all = all_hosts new }) (limit_word why)
refused-for pool new site n moment here why apart all same (inl due) =
    limit-refused pool.limits site n moment here why (ap (λ (a : AllHosts). limit_refusal n (log_at a site)) all ∙ ap (limit_refusal n) (log_is pool site) ∙ due)
    ∙ ap (λ (a : AllHosts). replied (record here { all = a }) (limit_word why)) (all ∙ ap (λ (p : PoolShown (Unit {0})). all_hosts p) (sym same))
refused-for pool new site n moment here why apart all same (inr memory) = absurd (apart memory)

pub lines-requires-clause-told : goal.lines-requires-clause-told
lines-requires-clause-told c =
    let old = all_hosts c.self.inside.pool in
    let new = all_hosts c.set_host_limit.new.self in
    let grow : AllGrowAfter 0 old new = subst (AllGrowAfter 0 old) (sym c.in-Ok.ensures.done.all) (limited-grow 0 c.self.inside.pool.limits c.args.site c.args.limit c.args.moment old) in
    told-before 0 old new c.self.inside.told.items c.self.invariant.all_told grow

pub lines-requires-clause-uncut : goal.lines-requires-clause-uncut
lines-requires-clause-uncut c =
    none-cut c.set_host_limit.new.self c.self.inside.kept.items (all-due c.self.inside.pool c.set_host_limit.new.self c.self.inside.kept.items c.self.invariant.due_kept c.in-Ok.ensures.done.keeps c.in-Ok.ensures.done.stays)

pub invariant_of-self : goal.invariant_of-self
invariant_of-self c = record {
  due_kept = all-due c.self.inside.pool c.set_host_limit.new.self c.self.inside.kept.items c.self.invariant.due_kept c.in-Ok.ensures.done.keeps c.in-Ok.ensures.done.stays;
  all_told = c.lines.ensures.told;
}

pub returns-in-Ok : goal.returns-in-Ok
returns-in-Ok c =
    let pool = c.self.inside.pool in
    let new = c.set_host_limit.new.self in
    let site = c.args.site in
    let here = at_site (shown pool c.self.inside.kept.items).hosts site in
    let old = all_hosts pool in
    let grow : AllGrowAfter 0 old (all_hosts new) = subst (AllGrowAfter 0 old) (sym c.in-Ok.ensures.done.all) (limited-grow 0 pool.limits site c.args.limit c.args.moment old) in
    let there = seen-host pool c.self.inside.kept.items c.self.inside.told.items c.self.invariant c.args.self.now c.self.view_is site c.requires.there in
    let only : limit_refusal c.args.limit (host_at pool site).log ≡ None = accepted c.in-Ok.field-0 (limit_refusal c.args.limit (host_at pool site).log) (owed_in (limit_refusal_at pool site c.args.limit) _ _ (limit_due pool site there c.args.limit) c.in-Ok.ensures.due) in
    seen-beside pool c.self.inside.kept.items c.self.inside.told.items c.self.invariant c.args.self.now c.self.view_is string_bytes site (actions.Limit c.args.limit c.args.moment) c.lines.result new c.in-Ok.ensures.done.stays
    (gives-grown string_bytes pool.limits site here (actions.Limit c.args.limit c.args.moment) (record here { all = all_hosts new }) c.lines.result
    (limit-changed pool.limits site c.args.limit c.args.moment here (ap (limit_refusal c.args.limit) (log_is pool site) ∙ only)
    ∙ ap (λ (a : AllHosts). grown here (record here { all = a })) (sym c.in-Ok.ensures.done.all))
    (text-of-growth string_bytes 0 old (all_hosts new) c.self.inside.told.items c.lines.result c.self.invariant.all_told grow c.lines.ensures.text))

pub returns-in-Err-BadLimit : goal.returns-in-Err-BadLimit
returns-in-Err-BadLimit c =
    let pool = c.self.inside.pool in
    let new = c.set_host_limit.new.self in
    let site = c.args.site in
    let here = at_site (shown pool c.self.inside.kept.items).hosts site in
    let there = seen-host pool c.self.inside.kept.items c.self.inside.told.items c.self.invariant c.args.self.now c.self.view_is site c.requires.there in
    let why : (limit_refusal c.args.limit (host_at pool site).log ≡ Some refusals.BadLimit) ⊎ (refusals.BadLimit ≡ refusals.Memory) = reason_in (limit_refusal_at pool site c.args.limit) _ _ (limit_due pool site there c.args.limit) (rw c.in-Err-BadLimit.field-0-is at c.in-Err-BadLimit.ensures.refused.1) in
    seen-beside pool c.self.inside.kept.items c.self.inside.told.items c.self.invariant c.args.self.now c.self.view_is string_bytes site (actions.Limit c.args.limit c.args.moment) c.reply.result new (all_same_as pool new c.in-Err-BadLimit.ensures.refused.0).stays
    (gives-answer string_bytes pool.limits site here (actions.Limit c.args.limit c.args.moment) (record here { all = all_hosts new }) (limit_word refusals.BadLimit) c.reply.result
    (refused-for pool new site c.args.limit c.args.moment here refusals.BadLimit (λ e. cc) refl c.in-Err-BadLimit.ensures.refused.0 why) c.reply.ensures)

pub returns-in-Err-Busy : goal.returns-in-Err-Busy
returns-in-Err-Busy c =
    let pool = c.self.inside.pool in
    let new = c.set_host_limit.new.self in
    let site = c.args.site in
    let held = c.in-Err-Busy.held in
    let here = at_site (shown pool c.self.inside.kept.items).hosts site in
    let there = seen-host pool c.self.inside.kept.items c.self.inside.told.items c.self.invariant c.args.self.now c.self.view_is site c.requires.there in
    let why : (limit_refusal c.args.limit (host_at pool site).log ≡ Some (refusals.Busy held)) ⊎ (refusals.Busy held ≡ refusals.Memory) = reason_in (limit_refusal_at pool site c.args.limit) _ _ (limit_due pool site there c.args.limit) (rw c.in-Err-Busy.field-0-is at c.in-Err-Busy.ensures.refused.1) in
    seen-beside pool c.self.inside.kept.items c.self.inside.told.items c.self.invariant c.args.self.now c.self.view_is string_bytes site (actions.Limit c.args.limit c.args.moment) c.too_many_leased.result new (all_same_as pool new c.in-Err-Busy.ensures.refused.0).stays
    (gives-answer string_bytes pool.limits site here (actions.Limit c.args.limit c.args.moment) (record here { all = all_hosts new }) (limit_word (refusals.Busy held)) c.too_many_leased.result
    (refused-for pool new site c.args.limit c.args.moment here (refusals.Busy held) (λ e. cc) refl c.in-Err-Busy.ensures.refused.0 why) c.too_many_leased.ensures)

pub returns-in-Err : goal.returns-in-Err
returns-in-Err c =
    let pool = c.self.inside.pool in
    let new = c.set_host_limit.new.self in
    let site = c.args.site in
    let here = at_site (shown pool c.self.inside.kept.items).hosts site in
    seen-beside pool c.self.inside.kept.items c.self.inside.told.items c.self.invariant c.args.self.now c.self.view_is string_bytes site (actions.Limit c.args.limit c.args.moment) (Err _) new (all_same_as pool new c.in-Err.ensures.refused.0).stays
    (refl, inl (ap (λ (p : PoolShown (Unit {0})). record here { all = all_hosts p }) c.in-Err.ensures.refused.0))
