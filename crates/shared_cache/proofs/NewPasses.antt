-- A new pass is enrolled at host after host.
use Rattle.std.proofs.Common.{◌≡◌, ◌≢◌, ℕ, zero, suc, ◌+◌, ◌<◌, ◌≤◌, length, replicate, Some, refl, sym, ap, subst, ◌∙◌, inl, inr, ◌⊎◌, arith, rules}
use Rattle.std.proofs.lemmas.Bool.Decides.{eqb_tells, leb_tells}
use Rattle.std.proofs.lemmas.List.{get_or-set_same, get_or-set_other, length-set, length-replicate}
use Rattle.std.proofs.lemmas.Option.{slice_get_within}
use Rattle.budget.specs.Accounts.{account_at, enrolled, vacant, spent_by}
use Rattle.budget.specs.declared.pass.Account.{Account}
use Rattle.bundle.specs.declared.did.Did.{Did}
use Rattle.bundle.specs.Passes.{Accounts}
use Rattle.bundle.specs.Seats.{Tables}
use Rattle.shared_cache.specs.Names.{CacheNames, HasTables}
use Rattle.shared_cache.specs.Passes.{IsPassOf, IsNewPass, EnrolsAt, new_seat}

abbrev new_account : Tables → Account Did
new_account tables = enrolled (new_seat tables) vacant

-- enrolled at the first hosts, and at no other
pub record IsEnrolledTo (names : CacheNames) (site : ℕ) (pass : Accounts) : Type 0 where
  pub accounts : length pass ≡ length names.hosts
  pub before : (host : ℕ) → host < site → (tables : Tables) × HasTables names host tables × (account_at pass host ≡ new_account tables)
  pub from : (host : ℕ) → site ≤ host → account_at pass host ≡ vacant

still_vacant : (n index : ℕ) → account_at {D = Did} (replicate n vacant) index ≡ vacant
still_vacant zero index = refl
still_vacant (suc n) zero = refl
still_vacant (suc n) (suc index) = still_vacant n index

module _ (names : CacheNames) where
  pub none_enrolled : (pass : Accounts) → pass ≡ replicate (length names.hosts) vacant → IsEnrolledTo names 0 pass
  none_enrolled pass bare = record {
    accounts = ap length bare ∙ length-replicate (length names.hosts) vacant;
    before = λ host lt. absurd (omega (arith, lt));
    from = λ host over. ap (λ (p : Accounts). account_at p host) bare ∙ still_vacant (length names.hosts) host;
  }

  pub one_more_enrolled : (site : ℕ) (pass after : Accounts) → IsEnrolledTo names site pass → site < length names.hosts → EnrolsAt names site pass after → IsEnrolledTo names (site + 1) after
  one_more_enrolled site pass after so_far inside enrols = record {
    accounts = ap length enrols.2 ∙ length-set pass site (enrolled (new_seat enrols.0) (account_at pass site)) ∙ so_far.accounts;
    before = λ host lt. elim (eqb_tells host site) [
      | inl same ↦ subst (λ (h : ℕ). (tables : Tables) × HasTables names h tables × (account_at after h ≡ new_account tables)) (sym same.1) (enrols.0, enrols.1, here)
      | inr apart ↦ let it = so_far.before host (omega (arith, lt, apart.1)) in (it.0, it.1, there host apart.1 ∙ it.2)
    ];
    from = λ host over. there host (λ e. absurd (omega (arith, over, e))) ∙ so_far.from host (omega (arith, over));
  }
    where
      here : account_at after site ≡ new_account enrols.0
      here = ap (λ (p : Accounts). account_at p site) enrols.2
          ∙ get_or-set_same pass site (enrolled (new_seat enrols.0) (account_at pass site)) vacant (omega (arith, inside, so_far.accounts))
          ∙ ap (enrolled (new_seat enrols.0)) (so_far.from site (omega arith))

      there : (host : ℕ) → host ≢ site → account_at after host ≡ account_at pass host
      there host apart = ap (λ (p : Accounts). account_at p host) enrols.2 ∙ get_or-set_other pass site host (enrolled (new_seat enrols.0) (account_at pass site)) vacant apart

  module _ (pass : Accounts) (all : IsEnrolledTo names (length names.hosts) pass) where
    pub all_enrolled : IsPassOf names pass
    all_enrolled = record {
      accounts = all.accounts;
      enrolled = λ host tables at.
          let it = all.before host (slice_get_within names.hosts host tables at) in
          let same : it.0 ≡ tables = let both : Some it.0 ≡ Some tables = sym it.1 ∙ at in search rules in
          (0, ap (λ (a : Account Did). a.seat) it.2 ∙ ap (λ (t : Tables). Some (new_seat t)) same);
    }

    accounts_new : (host : ℕ) → ((tables : Tables) × (account_at pass host ≡ new_account tables)) ⊎ (account_at pass host ≡ vacant)
    accounts_new host = elim (leb_tells (length names.hosts) host) [
      | inl over ↦ inr (all.from host over.1)
      | inr under ↦ let it = all.before host (omega (arith, under.1)) in inl (it.0, it.2)
    ]

    pub all_new : IsNewPass pass
    all_new = record {
      unspent = λ host. elim (accounts_new host) [
        | inl new ↦ ap (λ (a : Account Did). spent_by a.seat) new.1
        | inr bare ↦ ap (λ (a : Account Did). spent_by a.seat) bare
      ];
      untold = λ host. elim (accounts_new host) [
        | inl new ↦ ap (λ (a : Account Did). a.last) new.1
        | inr bare ↦ ap (λ (a : Account Did). a.last) bare
      ];
      no_calls = λ host. elim (accounts_new host) [
        | inl new ↦ ap (λ (a : Account Did). a.calls) new.1
        | inr bare ↦ ap (λ (a : Account Did). a.calls) bare
      ];
    }
