use Rattle.std.proofs.Common.{◌≡◌, ℕ, Bool, true, false, cond, List, Option, Some, None, refl, sym, ap, subst, ◌∙◌, length, map, string_bytes, Global, Ok, Err}
use Rattle.conn_log.specs.Connections.{is_among, held_number}
use Rattle.cache.specs.AllHosts.{AllHosts, log_at}
use Rattle.cache.specs.Pools.{all_hosts}
use Rattle.script_text.specs.declared.command.Action.TheVariants as actions
use Rattle.script_engine.specs.Meaning.{AtSite, AnswerAt, claim_at, claim_of, stranger}
use Rattle.script_engine.specs.Hosted.{Hosted, GivesAt, kept_at}
use Rattle.script_engine.specs.Telling.{WereTold}
use Rattle.script_engine.proofs.GrowthOfAll.{were-told-host}
use Rattle.script_engine.proofs.PooledSites.{seen-due, hosted-after, seen-uncut, seen-gives}
use Rattle.script_engine.proofs.hosts.PooledHosts.claim.Goals as goal
use Rattle.script_engine.proofs.hosts.PooledHosts.claim.Goals.{in-Ok-1, in-Err-1}

-- a claim changes no log
claim-keeps : (site transfer : ℕ) (here : AtSite) → (claim_at site transfer here).here.all ≡ here.all
unfolding claim_at
claim-keeps site transfer here = by_ticket (is_among transfer here.tickets) (held_number (log_at here.all site) transfer)
  where
    by_ticket : (ticketed : Bool) (held : Option ℕ) → (cond ticketed (claim_of site transfer here held) (stranger here)).here.all ≡ here.all
    by_ticket true None = refl
    by_ticket true (Some c) = refl
    by_ticket false held = refl

pub claim-requires-clause-keeps : goal.claim-requires-clause-keeps
claim-requires-clause-keeps c =
    seen-due c.self.inside.pool c.self.inside.kept.items c.self.inside.told.items c.self.invariant c.args.self.now c.self.view_is c.args.site c.index_mut.result.now c.requires.there c.index_mut.ensures.value

pub lines-untold-requires-clause-told : goal.lines-untold-requires-clause-told
lines-untold-requires-clause-told c =
    let pool = c.self.inside.pool in
    let new = c.claim.new.pool in
    subst (λ (tolds : List ℕ). WereTold tolds (all_hosts new).logs) (sym c.self.invariant.all_told)
    (were-told-host c.args.site pool new c.claim.ensures.stays.count c.claim.ensures.site c.claim.ensures.others)

pub lines-untold-requires-clause-uncut : goal.lines-untold-requires-clause-uncut
lines-untold-requires-clause-uncut c =
    seen-uncut c.self.inside.pool c.self.inside.kept.items c.self.inside.told.items c.self.invariant c.args.self.now c.self.view_is c.args.site c.claim.new.pool c.claim.new.self
    c.requires.there c.claim.ensures.others c.claim.ensures.stays c.claim.ensures.keeps

pub invariant_of-self : goal.invariant_of-self
invariant_of-self c =
    let pool = c.self.inside.pool in
    let new = c.claim.new.pool in
    let all : all_hosts new ≡ all_hosts pool = ap (λ (a : AnswerAt). a.here.all) (sym c.in-Ok.ensures.answer) ∙ claim-keeps c.args.site c.args.transfer (kept_at pool c.index_mut.result.now) in
    hosted-after pool c.self.inside.kept.items c.self.inside.told.items c.self.invariant c.args.self.now c.self.view_is c.args.site new c.claim.new.self c.self.inside.told.items
    c.requires.there c.claim.ensures.others c.claim.ensures.stays c.claim.ensures.keeps (c.self.invariant.all_told ∙ ap (λ (a : AllHosts). map length a.logs) (sym all))

pub invariant_of-self-in-Err : goal.invariant_of-self-in-Err
invariant_of-self-in-Err c =
    hosted-after c.self.inside.pool c.self.inside.kept.items c.self.inside.told.items c.self.invariant c.args.self.now c.self.view_is c.args.site c.claim.new.pool c.claim.new.self c.lines-untold.new.told.items
    c.requires.there c.claim.ensures.others c.claim.ensures.stays c.claim.ensures.keeps c.lines-untold.ensures.told

pub invariant_of-self-in-Err-2 : goal.invariant_of-self-in-Err-2
invariant_of-self-in-Err-2 c =
    hosted-after c.self.inside.pool c.self.inside.kept.items c.self.inside.told.items c.self.invariant c.args.self.now c.self.view_is c.args.site c.claim.new.pool c.claim.new.self c.lines-untold.new.told.items
    c.requires.there c.claim.ensures.others c.claim.ensures.stays c.claim.ensures.keeps c.lines-untold.ensures.told

pub returns-in-Ok : goal.returns-in-Ok
returns-in-Ok c =
    seen-gives c.self.inside.pool c.self.inside.kept.items c.self.inside.told.items c.self.invariant c.args.self.now c.self.view_is string_bytes c.args.site (actions.Claim c.args.transfer)
    (Ok c.in-Ok.text) c.claim.new.pool c.index_mut.result.now c.claim.new.self c.requires.there c.index_mut.ensures.value c.claim.ensures.stays c.in-Ok.ensures.answer

pub returns-in-Err : goal.returns-in-Err
returns-in-Err c =
    let gives =
    seen-gives c.self.inside.pool c.self.inside.kept.items c.self.inside.told.items c.self.invariant c.args.self.now c.self.view_is (string_bytes {Z = Global}) c.args.site (actions.Claim c.args.transfer)
    (Err c.in-Err.kind) c.claim.new.pool c.index_mut.result.now c.claim.new.self c.requires.there c.index_mut.ensures.value c.claim.ensures.stays c.in-Err.ensures.answer in
    elim c.match-untold.branch [
      | in-Ok-1 w ↦ subst (λ (h : Hosted). GivesAt (string_bytes {Z = Global}) c.args.self.now c.args.site (actions.Claim c.args.transfer) (Err c.in-Err.kind) h) (sym w.self-is) gives
      | in-Err-1 w ↦ subst (λ (h : Hosted). GivesAt (string_bytes {Z = Global}) c.args.self.now c.args.site (actions.Claim c.args.transfer) (Err c.in-Err.kind) h) (sym w.self-is) gives
    ]
