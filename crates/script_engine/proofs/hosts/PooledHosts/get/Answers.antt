use Rattle.std.proofs.Common.{◌≡◌, ℕ, refl, sym, ap, ◌∙◌, ◌⊎◌, inl, inr, List, [], Some, string_bytes, IfErr, Result}
use Rattle.budget.specs.declared.refusal.Refusal.{Refusal}
use Rattle.budget.specs.declared.refusal.Refusal.TheVariants as refusals
use Rattle.budget.specs.Limits.{Bounds}
use Rattle.conn_log.specs.declared.entry.Entry.{Entry}
use Rattle.conn_log.specs.declared.entry.Want.{Want}
use Rattle.host_state.specs.Calls.{refusal}
use Rattle.cache.specs.AllHosts.{terms, log_at}
use Rattle.cache.specs.Pools.{host_at}
use Rattle.cache.proofs.OneHost.{log_is}
use Rattle.script_text.specs.Printing.{refused}
use Rattle.script_text.specs.declared.command.Action.TheVariants as actions
use Rattle.script_engine.specs.Meaning.{AtSite, replied, refusal_word, get_at}
use Rattle.script_engine.specs.Hosted.{kept_at}
use Rattle.script_engine.proofs.Answering.{get-refused}
use Rattle.script_engine.proofs.PooledSites.{seen-due, told-before, hosted-after, seen-uncut, seen-gives, seen-grown, seen-replied}
use Rattle.script_engine.proofs.hosts.PooledHosts.get.Goals as goal

-- a refusal for a reason that is not memory
refused-for : (limits : Bounds) (site : ℕ) (want : Want) (moment : ℕ) (log : List Entry) (old new : AtSite) (result : Result (Unit {0}) Refusal) (why reason : Refusal) (apart : why ≡ refusals.Memory → ⊥)
    → log_at old.all site ≡ log → result ≡ Rattle.std.specs.Prelude.Err reason → reason ≡ why
    → IfErr result (λ (r : Refusal). ((refusal (terms limits) log [] want ≡ Some r) × (new ≡ old)) ⊎ (r ≡ refusals.Memory))
    → get_at limits site want moment old ≡ replied new (refused (refusal_word why))
refused-for limits site want moment log old new result why reason apart at is same refused_is = by_case (rw same at (rw is at refused_is))
  where
    by_case : ((refusal (terms limits) log [] want ≡ Some why) × (new ≡ old)) ⊎ (why ≡ refusals.Memory) → get_at limits site want moment old ≡ replied new (refused (refusal_word why))
    by_case (inl due) =
        get-refused limits site want moment old why (ap (λ (l : List Entry). refusal (terms limits) l [] want) at ∙ due.0)
        ∙ ap (λ (here : AtSite). replied here (refused (refusal_word why))) (sym due.1)
    by_case (inr memory) = absurd (apart memory)

pub acquire-begun-requires-clause-keeps : goal.acquire-begun-requires-clause-keeps
acquire-begun-requires-clause-keeps c =
    seen-due c.self.inside.pool c.self.inside.kept.items c.self.inside.told.items c.self.invariant c.args.self.now c.self.view_is c.args.site c.index_mut.result.now c.requires.there c.index_mut.ensures.value

pub lines-text-requires-clause-told : goal.lines-text-requires-clause-told
lines-text-requires-clause-told c =
    told-before c.args.want.transfer (Rattle.cache.specs.Pools.all_hosts c.self.inside.pool) (Rattle.cache.specs.Pools.all_hosts c.acquire-begun.new.pool) c.self.inside.told.items c.self.invariant.all_told c.acquire-begun.ensures.grow

pub lines-text-requires-clause-uncut : goal.lines-text-requires-clause-uncut
lines-text-requires-clause-uncut c =
    seen-uncut c.self.inside.pool c.self.inside.kept.items c.self.inside.told.items c.self.invariant c.args.self.now c.self.view_is c.args.site c.acquire-begun.new.pool c.acquire-begun.new.self
    c.requires.there c.acquire-begun.ensures.others c.acquire-begun.ensures.stays c.acquire-begun.ensures.keeps

pub invariant_of-self : goal.invariant_of-self
invariant_of-self c =
    hosted-after c.self.inside.pool c.self.inside.kept.items c.self.inside.told.items c.self.invariant c.args.self.now c.self.view_is c.args.site c.acquire-begun.new.pool c.acquire-begun.new.self c.lines-text.new.told.items
    c.requires.there c.acquire-begun.ensures.others c.acquire-begun.ensures.stays c.acquire-begun.ensures.keeps c.lines-text.ensures.told

pub returns-in-Ok : goal.returns-in-Ok
returns-in-Ok c =
    seen-grown c.self.inside.pool c.self.inside.kept.items c.self.inside.told.items c.self.invariant c.args.self.now c.self.view_is string_bytes c.args.site (actions.Get c.args.want c.args.moment) c.args.want.transfer
    c.lines-text.result c.acquire-begun.new.pool c.index_mut.result.now c.acquire-begun.new.self c.requires.there c.index_mut.ensures.value c.acquire-begun.ensures.stays
    c.in-Ok.ensures.ok c.acquire-begun.ensures.grow c.lines-text.ensures.text

pub invariant_of-self-in-Err-TransferBusy : goal.invariant_of-self-in-Err-TransferBusy
invariant_of-self-in-Err-TransferBusy c =
    hosted-after c.self.inside.pool c.self.inside.kept.items c.self.inside.told.items c.self.invariant c.args.self.now c.self.view_is c.args.site c.acquire-begun.new.pool c.acquire-begun.new.self c.lines-text.new.told.items
    c.requires.there c.acquire-begun.ensures.others c.acquire-begun.ensures.stays c.acquire-begun.ensures.keeps c.lines-text.ensures.told

pub returns-in-Err-TransferBusy : goal.returns-in-Err-TransferBusy
returns-in-Err-TransferBusy c =
    let pool = c.self.inside.pool in
    let new = c.acquire-begun.new.pool in
    let old_here = kept_at pool c.index_mut.result.now in
    let here = kept_at new c.acquire-begun.new.self in
    seen-replied pool c.self.inside.kept.items c.self.inside.told.items c.self.invariant c.args.self.now c.self.view_is string_bytes c.args.site (actions.Get c.args.want c.args.moment) (refused (refusal_word refusals.TransferBusy))
    c.reply.result new c.index_mut.result.now c.acquire-begun.new.self c.requires.there c.index_mut.ensures.value c.acquire-begun.ensures.stays
    (refused-for pool.limits c.args.site c.args.want c.args.moment (host_at pool c.args.site).log old_here here c.acquire-begun.result refusals.TransferBusy c.in-Err-TransferBusy.field-0 (λ e. cc)
    (log_is pool c.args.site) c.in-Err-TransferBusy.is (rw c.in-Err-TransferBusy.is at c.in-Err-TransferBusy.field-0-is) c.acquire-begun.ensures.refused) c.reply.ensures

pub invariant_of-self-in-Err-Exhausted : goal.invariant_of-self-in-Err-Exhausted
invariant_of-self-in-Err-Exhausted c =
    hosted-after c.self.inside.pool c.self.inside.kept.items c.self.inside.told.items c.self.invariant c.args.self.now c.self.view_is c.args.site c.acquire-begun.new.pool c.acquire-begun.new.self c.lines-text.new.told.items
    c.requires.there c.acquire-begun.ensures.others c.acquire-begun.ensures.stays c.acquire-begun.ensures.keeps c.lines-text.ensures.told

pub returns-in-Err-Exhausted : goal.returns-in-Err-Exhausted
returns-in-Err-Exhausted c =
    let pool = c.self.inside.pool in
    let new = c.acquire-begun.new.pool in
    let old_here = kept_at pool c.index_mut.result.now in
    let here = kept_at new c.acquire-begun.new.self in
    seen-replied pool c.self.inside.kept.items c.self.inside.told.items c.self.invariant c.args.self.now c.self.view_is string_bytes c.args.site (actions.Get c.args.want c.args.moment) (refused (refusal_word refusals.Exhausted))
    c.reply-in-Err-Exhausted.result new c.index_mut.result.now c.acquire-begun.new.self c.requires.there c.index_mut.ensures.value c.acquire-begun.ensures.stays
    (refused-for pool.limits c.args.site c.args.want c.args.moment (host_at pool c.args.site).log old_here here c.acquire-begun.result refusals.Exhausted c.in-Err-Exhausted.field-0 (λ e. cc)
    (log_is pool c.args.site) c.in-Err-Exhausted.is (rw c.in-Err-Exhausted.is at c.in-Err-Exhausted.field-0-is) c.acquire-begun.ensures.refused) c.reply-in-Err-Exhausted.ensures

pub invariant_of-self-2 : goal.invariant_of-self-2
invariant_of-self-2 c =
    hosted-after c.self.inside.pool c.self.inside.kept.items c.self.inside.told.items c.self.invariant c.args.self.now c.self.view_is c.args.site c.acquire-begun.new.pool c.acquire-begun.new.self c.lines-text.new.told.items
    c.requires.there c.acquire-begun.ensures.others c.acquire-begun.ensures.stays c.acquire-begun.ensures.keeps c.lines-text.ensures.told

pub returns : goal.returns
returns c =
    seen-gives c.self.inside.pool c.self.inside.kept.items c.self.inside.told.items c.self.invariant c.args.self.now c.self.view_is string_bytes c.args.site (actions.Get c.args.want c.args.moment)
    _ c.acquire-begun.new.pool c.index_mut.result.now c.acquire-begun.new.self c.requires.there c.index_mut.ensures.value c.acquire-begun.ensures.stays
    (refl, c.in-Err.ensures.untold)
