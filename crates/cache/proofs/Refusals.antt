-- Why a call is refused, if it is.
use Rattle.std.proofs.Common.{◌≡◌, ℕ, ◌<◌, ◌≤◌, ◌⊎◌, Bool, true, false, List, [], length, Option, Some, None, Result, Ok, Err, refl, sym, ap, subst, ◌∙◌, inl, inr, arith}
use Rattle.std.specs.Prelude.{nat_lt, if◌then◌else◌, IfSome}
use Rattle.std.proofs.lemmas.Bool.Decides.{nat_tests, leb_tells}
use Rattle.budget.specs.declared.refusal.Refusal.{Refusal}
use Rattle.budget.specs.declared.refusal.Refusal.TheVariants.{Memory}
use Rattle.budget.specs.declared.refusal.Refusal.TheVariants.{BadSite}
use Rattle.conn_log.specs.declared.entry.Want.{Want}
use Rattle.host_state.specs.Calls.{refusal, limit_refusal}
use Rattle.cache.specs.Pools.{PoolShown, host_at}
use Rattle.cache.specs.PoolCalls.{IsReason, acquire_refusal, limit_refusal_at}

-- a call whose due refusals are refused, and that is else refused for memory alone
pub is_reason : (A : Type 0) (due : Option Refusal) (reason : Refusal) → IfSome due (λ (owed : Refusal). ◌≡◌ {A = Result A Refusal} (Err reason) (Err owed)) → (due ≡ Some reason) ⊎ (reason ≡ Memory) → IsReason due reason
is_reason A None reason owes (inl never) = inl never
is_reason A None reason owes (inr memory) = inr (refl, memory)
is_reason A (Some owed) reason owes either = inl cc

module _ {A : Type 0} (site count : ℕ) (own bad : A) where
  -- at a site that exists the refusal of its host is due, and at another that it does not exist
  pub due_there : site < count → (if nat_lt site count then own else bad) ≡ own
  due_there there = ap (λ (b : Bool). if b then own else bad) (is_lt site count there)
    where
      is_lt : (n m : ℕ) → n < m → nat_lt n m ≡ true
      is_lt n m lt = grind (arith, nat_tests, lt)

  pub due_past : count ≤ site → (if nat_lt site count then own else bad) ≡ bad
  due_past past = ap (λ (b : Bool). if b then own else bad) (is_past site count past)
    where
      is_past : (n m : ℕ) → m ≤ n → nat_lt n m ≡ false
      is_past n m le = grind (arith, nat_tests, le)

-- a call that came to an answer was due no refusal
pub none_owed : {A B : Type 0} (due : Option Refusal) (answer : A) (other : B) → IfSome due (λ (owed : Refusal). ◌≡◌ {A = Result A Refusal} (Ok answer) (Err owed)) → IfSome due (λ (owed : Refusal). ◌≡◌ {A = Result B Refusal} (Ok other) (Err owed))
none_owed None answer other owes = tt
none_owed (Some owed) answer other owes = absurd (cc)

-- the refusals of a pool are those of its host
module _ {S : Type 0} (pool : PoolShown S) (site : ℕ) where
  module _ (there : site < length pool.hosts) where
    pub due_at : (want : Want) → acquire_refusal pool site want ≡ (let host = host_at pool site in refusal host.settings host.log [] want)
    due_at want = due_there site (length pool.hosts) (let host = host_at pool site in refusal host.settings host.log [] want) (Some BadSite) there

    pub acquire_due : (want : Want) → (host_at pool site).booked ≡ [] → acquire_refusal pool site want ≡ (let host = host_at pool site in refusal host.settings host.log host.booked want)
    acquire_due want none =
        let host = host_at pool site in
        due_at want ∙ ap (λ (booked : List ℕ). refusal host.settings host.log booked want) (sym none)

    pub limit_due : (limit : ℕ) → limit_refusal_at pool site limit ≡ limit_refusal limit (host_at pool site).log
    limit_due limit = due_there site (length pool.hosts) (limit_refusal limit (host_at pool site).log) (Some BadSite) there

  module _ (past : length pool.hosts ≤ site) where
    pub no_acquire : (want : Want) → acquire_refusal pool site want ≡ Some BadSite
    no_acquire want = due_past site (length pool.hosts) (let host = host_at pool site in refusal host.settings host.log [] want) (Some BadSite) past

-- a pool's hosts answered an acquire, at which nobody's acquire was halfway: so did the pool
module _ {S : Type 0} (start pool : PoolShown S) (is : start ≡ pool) (site : ℕ) (want : Want) (there : site < length start.hosts) (none : (host_at start site).booked ≡ []) where
  abbrev own : Option Refusal
  own = let host = host_at start site in refusal host.settings host.log host.booked want

  same_due : own ≡ acquire_refusal pool site want
  same_due = sym (acquire_due start site there want none) ∙ ap (λ (p : PoolShown S). acquire_refusal p site want) is

  pub still_owed : (P : Refusal → Type 0) → IfSome own P → IfSome (acquire_refusal pool site want) P
  still_owed P owes = subst (λ (due : Option Refusal). IfSome due P) same_due owes

  pub still_none : {A : Type 0} (answer other : A) → IfSome own (λ (owed : Refusal). ◌≡◌ {A = Result A Refusal} (Ok answer) (Err owed)) → IfSome (acquire_refusal pool site want) (λ (owed : Refusal). ◌≡◌ {A = Result A Refusal} (Ok other) (Err owed))
  still_none {A = A} answer other owes = still_owed (λ (owed : Refusal). ◌≡◌ {A = Result A Refusal} (Ok other) (Err owed)) (none_owed own answer other owes)

  pub still_refused : (new : PoolShown S) (reason : Refusal) → (new ≡ start) × IsReason own reason → (new ≡ pool) × IsReason (acquire_refusal pool site want) reason
  still_refused new reason refused = (refused.0 ∙ is, subst (λ (due : Option Refusal). IsReason due reason) same_due refused.1)

-- for those who call a pool: the refusal of a site that exists, and why it was refused
pub owed_in : (due host_due : Option Refusal) (P : Refusal → Type 0) → due ≡ host_due → IfSome due P → IfSome host_due P
owed_in due host_due P same owes = subst (λ (d : Option Refusal). IfSome d P) same owes

pub reason_in : (due host_due : Option Refusal) (reason : Refusal) → due ≡ host_due → IsReason due reason → (host_due ≡ Some reason) ⊎ (reason ≡ Memory)
reason_in due host_due reason same (inl is) = inl (sym same ∙ is)
reason_in due host_due reason same (inr none) = inr none.1

-- an acquire that gives something is of a site that exists
pub site_exists : {S A : Type 0} (pool : PoolShown S) (site : ℕ) (want : Want) (answer : A) → IfSome (acquire_refusal pool site want) (λ (owed : Refusal). ◌≡◌ {A = Result A Refusal} (Ok answer) (Err owed)) → site < length pool.hosts
site_exists {A = A} pool site want answer owes = elim (leb_tells (length pool.hosts) site) [
  | inl past ↦ absurd (never (owed_in (acquire_refusal pool site want) (Some BadSite) (λ (owed : Refusal). ◌≡◌ {A = Result A Refusal} (Ok answer) (Err owed)) (no_acquire pool site past.1 want) owes))
  | inr there ↦ there.1
]
  where
    never : ◌≡◌ {A = Result A Refusal} (Ok answer) (Err BadSite) → ⊥
    never e = cc
