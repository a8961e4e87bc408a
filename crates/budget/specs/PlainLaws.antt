-- Why a host's part of a plain budget keeps the laws of permits.
use Rattle.std.specs.Prelude.{◌≡◌, ℕ, refl}
use Rattle.std.proofs.Common.{sym, ap, ◌∙◌, subst, ◌≢◌}
use Rattle.budget.specs.declared.permits.Try.{Try}
use Rattle.budget.specs.declared.permits.Try.TheVariants.{Got, Full, Contended}
use Rattle.budget.specs.Limits.{Bounds}
use Rattle.budget.specs.Plain.{Plain, TellsOfNumber, TellsOfOpen, TellsOfKept, KeepsOtherHosts, alive_in, kept_in}

pub keeps_from_start : (host : ℕ) (budget : Plain) → KeepsOtherHosts host budget budget
keeps_from_start host budget = record { limits = refl; count = refl; others = λ _ _. refl }

pub keeps_on : {host same : ℕ} {x y z : Plain} → same ≡ host → KeepsOtherHosts host x y → KeepsOtherHosts same y z → KeepsOtherHosts host x z
keeps_on e p q = record {
  limits = q.limits ∙ p.limits;
  count = q.count ∙ p.count;
  others = λ other n. q.others other (subst (λ (h : ℕ). other ≢ h) (sym e) n) ∙ p.others other n;
}

tells_still : (number later limit same : ℕ) (answer : Try) → TellsOfNumber number limit answer → same ≡ limit → later ≡ number → TellsOfNumber later same answer
tells_still number later limit same Got t e f = tt
tells_still number later limit same Full t e f = f ∙ t ∙ sym e
tells_still number later limit same Contended t e f = absurd t

pub open_still : (host : ℕ) (x y : Plain) (answer : Try) → TellsOfOpen x answer → KeepsOtherHosts host x y → alive_in y.hosts ≡ alive_in x.hosts → TellsOfOpen y answer
open_still host x y answer told same e = tells_still (alive_in x.hosts) (alive_in y.hosts) x.limits.total y.limits.total answer told (ap (λ (b : Bounds). b.total) same.limits) e

pub kept_still : (host : ℕ) (x y : Plain) (answer : Try) → TellsOfKept x answer → KeepsOtherHosts host x y → kept_in y.hosts ≡ kept_in x.hosts → TellsOfKept y answer
kept_still host x y answer told same e = tells_still (kept_in x.hosts) (kept_in y.hosts) x.limits.connects y.limits.connects answer told (ap (λ (b : Bounds). b.connects) same.limits) e
