-- The sums of sites, one after another.
use Rattle.std.proofs.Common.{◌≡◌, ◌⊎◌, ◌∙◌, ◌-◌, ◌+◌, ◌<◌, ◌≤◌, ℕ, ◌==◌, if◌then◌else◌, Bool, false, suc, min, ap, sym, subst, arith, inl, inr, List, [], ◌∷◌, ◌++◌, append-nil, append_assoc, length, take, drop, take_all}
use Rattle.std.proofs.lemmas.Bool.{cases_lt}
use Rattle.std.proofs.lemmas.List.{drop_all}
use Rattle.shared_cache.specs.declared.gathered.HostCount.{HostCount}
use Rattle.load_report.specs.Accounts.{site_totals, sums_by_site, totals}

-- a cut after the list's end takes the same elements as one at its end
cut_at : (each cut : ℕ) (left : List HostCount) → cut ≡ min (length left) each → (take cut left ≡ take each left) × (drop cut left ≡ drop each left)
cut_at each cut left is = by_cases (cases_lt each (length left))
  where
    by_cases : (each < length left) ⊎ (length left ≤ each) → (take cut left ≡ take each left) × (drop cut left ≡ drop each left)
    by_cases (inl fewer) =
        let same : cut ≡ each = omega (arith, is, fewer) in
        (ap (λ n. take n left) same, ap (λ n. drop n left) same)
    by_cases (inr all) =
        let whole : length left ≤ cut = omega (arith, is, all) in
        (take_all cut left whole ∙ sym (take_all each left all), drop_all cut left whole ∙ sym (drop_all each left all))

-- the sums of the next site, and of those after it
pub one_site : (sites at each cut : ℕ) (left others : List HostCount) (sums : List HostCount) (own : List HostCount) → at < sites → cut ≡ min (length left) each → own ≡ take cut left → others ≡ drop cut left
    → (sums ++ totals own ∷ []) ++ sums_by_site (sites - (at + 1)) each others ≡ sums ++ sums_by_site (sites - at) each left
unfolding sums_by_site
one_site sites at each cut left others sums own below is front back =
    let more = sites - (at + 1) in
    let next : sites - at ≡ suc more = omega (arith, below) in
    let same = cut_at each cut left is in
    append_assoc sums (totals own ∷ []) (sums_by_site more each others)
    ∙ ap (λ (l : List HostCount). sums ++ totals l ∷ sums_by_site more each others) (front ∙ same.0)
    ∙ ap (λ (l : List HostCount). sums ++ totals (take each left) ∷ sums_by_site more each l) (back ∙ same.1)
    ∙ ap (λ (n : ℕ). sums ++ sums_by_site n each left) (sym next)

-- no site is left
pub all_sites : (sites at each : ℕ) (left hosts sums : List HostCount) → (each == 1) ≡ false → sites ≤ at → sums ++ sums_by_site (sites - at) each left ≡ sums_by_site sites each hosts → sums ≡ site_totals sites each hosts
unfolding sums_by_site
all_sites sites at each left hosts sums several past is =
    let none : sites - at ≡ 0 = omega (arith, past) in
    let ended : sums ≡ sums_by_site sites each hosts = sym (append-nil sums) ∙ ap (λ (n : ℕ). sums ++ sums_by_site n each left) (sym none) ∙ is in
    subst (λ (b : Bool). sums ≡ (if b then hosts else sums_by_site sites each hosts)) (sym several) ended
