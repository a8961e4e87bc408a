-- Host after host is pruned, and the pass is told so at each.
use Rattle.std.proofs.Common.{◌≡◌, ◌≢◌, ℕ, ◌+◌, ◌*◌, ◌<◌, ◌≤◌, List, [], ◌∷◌, ◌++◌, length, Some, refl, sym, ap, subst, ◌∙◌, inl, inr, arith}
use Rattle.std.specs.Prelude.{sum, slice_index_or}
use Rattle.std.proofs.Math.ListN.{get_or-append}
use Rattle.std.proofs.Math.Seq.{get_or-append_seam}
use Rattle.std.proofs.lemmas.Bool.Decides.{eqb_tells}
use Rattle.std.proofs.lemmas.List.{get_or-set_same, get_or-set_other, length-append}
use Rattle.std.proofs.lemmas.List.Sums.{sum_by-cons, sum_by-append}
use Rattle.budget.specs.Accounts.{account_at, told, vacant}
use Rattle.bundle.specs.declared.did.Did.{Did}
use Rattle.bundle.specs.declared.did.Did.TheVariants.{Pruned}
use Rattle.bundle.specs.Passes.{Accounts, tells}
use Rattle.shared_cache.specs.Names.{CacheNames}
use Rattle.shared_cache.specs.Passes.{IsPassOf, IsPruned, pruned_at}

-- what was closed at each of the first hosts, what the pass was told there, and that it was told nothing elsewhere
pub record ArePrunedTo (names : CacheNames) (now max_age max_life : ℕ) (old : Accounts) (site closed : ℕ) (closings : List ℕ) (new : Accounts) : Type 0 where
  pub number : length closings ≡ site
  pub all : sum closings ≡ closed
  pub few : closed ≤ site * 65535
  pub told_before : (host : ℕ) → host < site → account_at new host ≡ told (pruned_at now max_age max_life closings host) (account_at old host)
  pub untold : (host : ℕ) → site ≤ host → account_at new host ≡ account_at old host
  pub pass_of : IsPassOf names new

module _ (names : CacheNames) (now max_age max_life : ℕ) where
  pub none_pruned : (pass : Accounts) → IsPassOf names pass → ArePrunedTo names now max_age max_life pass 0 0 [] pass
  none_pruned pass is = record {
    number = refl;
    all = refl;
    few = omega arith;
    told_before = λ host before. absurd (omega (arith, before));
    untold = λ host from. refl;
    pass_of = is;
  }

  module _ (old : Accounts) (site closed count : ℕ) (closings : List ℕ) (pass after : Accounts) where
    pub one_more_pruned : ArePrunedTo names now max_age max_life old site closed closings pass → site < length names.hosts → count ≤ 65535
        → after ≡ tells site (Some (Pruned now max_age max_life count)) pass → IsPassOf names after
        → ArePrunedTo names now max_age max_life old (site + 1) (closed + count) (closings ++ count ∷ []) after
    one_more_pruned so_far there few told_is is = record {
      number = omega (arith, length-append closings (count ∷ []), so_far.number);
      all = omega (arith, sums closings, so_far.all);
      few = omega (arith, few, so_far.few);
      told_before = λ host before. elim (eqb_tells host site) [
        | inl same ↦ subst (λ (h : ℕ). account_at after h ≡ told (pruned_at now max_age max_life (closings ++ count ∷ []) h) (account_at old h)) (sym same.1)
            (told_here ∙ ap (told (pruned_at now max_age max_life (closings ++ count ∷ []) site)) (so_far.untold site (omega arith)))
        | inr apart ↦ let earlier : host < site = omega (arith, before, apart.1) in
            told_there host apart.1 ∙ so_far.told_before host earlier
            ∙ ap (λ (n : ℕ). told (record_of n) (account_at old host)) (sym (get_or-append closings (count ∷ []) 0 host (omega (arith, earlier, so_far.number))))
      ];
      untold = λ host from. told_there host (λ e. absurd (omega (arith, from, e))) ∙ so_far.untold host (omega (arith, from));
      pass_of = is;
    }
      where
        sums : (xs : List ℕ) → sum (xs ++ count ∷ []) ≡ sum xs + count
        sums xs = omega (arith, sum_by-append (λ (n : ℕ). n) xs (count ∷ []), sum_by-cons (λ (n : ℕ). n) count [])

        inside : site < length pass
        inside = omega (arith, there, so_far.pass_of.accounts)

        last : slice_index_or (closings ++ count ∷ []) site 0 ≡ count
        last = subst (λ (i : ℕ). slice_index_or (closings ++ count ∷ []) i 0 ≡ count) so_far.number (get_or-append_seam closings count [] 0)

        told_as : after ≡ tells site (Some (pruned_at now max_age max_life (closings ++ count ∷ []) site)) pass
        told_as = told_is ∙ ap (λ (n : ℕ). tells site (Some (Pruned now max_age max_life n)) pass) (sym last)

        told_here : account_at after site ≡ told (pruned_at now max_age max_life (closings ++ count ∷ []) site) (account_at pass site)
        told_here = ap (λ (p : Accounts). account_at p site) told_as ∙ get_or-set_same pass site (told (pruned_at now max_age max_life (closings ++ count ∷ []) site) (account_at pass site)) vacant inside

        told_there : (host : ℕ) → host ≢ site → account_at after host ≡ account_at pass host
        told_there host apart = ap (λ (p : Accounts). account_at p host) told_as ∙ get_or-set_other pass site host (told (pruned_at now max_age max_life (closings ++ count ∷ []) site) (account_at pass site)) vacant apart

        record_of : ℕ → Did
        record_of n = Pruned now max_age max_life n

  -- every host was pruned
  pub all_pruned : (old : Accounts) (closed : ℕ) (closings : List ℕ) (pass : Accounts) → ArePrunedTo names now max_age max_life old (length names.hosts) closed closings pass → IsPruned names now max_age max_life closings old pass
  all_pruned old closed closings pass all = record {
    hosts = all.number;
    told_at = all.told_before;
  }

-- as many as are closed at 1,024 hosts fit 32 bits
pub closings_fit : (hosts site closed count : ℕ) → closed ≤ site * 65535 → site < hosts → hosts ≤ 1024 → count ≤ 65535 → closed + count < 4294967296
closings_fit hosts site closed count so_far inside few more = omega (arith, so_far, inside, few, more)
