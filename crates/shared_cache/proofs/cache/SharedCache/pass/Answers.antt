use Rattle.std.proofs.Common.{◌≡◌, ℕ, length, replicate, None, sym, ap, subst, ◌∙◌, arith, rules}
use Rattle.budget.specs.Accounts.{vacant, account_at}
use Rattle.budget.specs.declared.pass.Account.{Account}
use Rattle.bundle.specs.declared.did.Did.{Did}
use Rattle.shared_cache.specs.Passes.{EnrolsAt}
use Rattle.shared_cache.proofs.NewPasses.{IsEnrolledTo, none_enrolled, one_more_enrolled, all_enrolled, all_new}
use Rattle.shared_cache.proofs.cache.SharedCache.pass.Goals as goal

pub loop-site-init : goal.loop-site-init
loop-site-init g c = none_enrolled g.N.Names.names c.in_ok-pass.pass (c.in_ok-pass.ensures.ok ∙ ap (λ (n : ℕ). replicate n vacant) (c.len.ensures ∙ c.self.invariant.hosts))

pub enrol-requires-clause-apart : goal.enrol-requires-clause-apart
enrol-requires-clause-apart g c =
    let place : c.deref_mut.result.now.host.host ≡ c.loop-site.site = search rules in
    let bare : (account_at c.loop-site.pass c.loop-site.site).seat ≡ None = ap (λ (a : Account Did). a.seat) (c.loop-site.invariant.from c.loop-site.site (omega arith)) in
    subst (λ (host : ℕ). (account_at c.loop-site.pass host).seat ≡ None) (sym place) bare

pub loop-site-preserved : goal.loop-site-preserved
loop-site-preserved g c =
    let enrols : EnrolsAt g.N.Names.names c.loop-site.site c.loop-site.pass c.enrol.new.pass = search rules in
    one_more_enrolled g.N.Names.names c.loop-site.site c.loop-site.pass c.enrol.new.pass c.loop-site.invariant (search rules) enrols

pub returns-clause-ok : goal.returns-clause-ok
returns-clause-ok g c =
    let ends : c.loop-site.site ≡ length g.N.Names.names.hosts = search rules in
    all_enrolled g.N.Names.names c.loop-site.pass (subst (λ (n : ℕ). IsEnrolledTo g.N.Names.names n c.loop-site.pass) ends c.loop-site.invariant)

pub returns-clause-new : goal.returns-clause-new
returns-clause-new g c =
    let ends : c.loop-site.site ≡ length g.N.Names.names.hosts = search rules in
    all_new g.N.Names.names c.loop-site.pass (subst (λ (n : ℕ). IsEnrolledTo g.N.Names.names n c.loop-site.pass) ends c.loop-site.invariant)
