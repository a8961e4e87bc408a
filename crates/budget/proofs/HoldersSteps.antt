-- Each step of the holders keeps their rule.
use Rattle.std.proofs.Common.{◌≡◌, ◌≢◌, ◌⊎◌, ℕ, suc, ◌+◌, ◌-◌, ◌%◌, ◌^◌, ◌<◌, ◌≤◌, ◌&&◌, Bool, true, false, cond, not, eqb, List, [], ◌∷◌, ◌++◌, length, get_or, set, sym, refl, ap, ◌∙◌, subst, inl, inr, ⊎_elim, arith, length-set}
use Rattle.std.specs.Prelude.{Option, Some, None, IsSome, IfSome, count_by}
use Rattle.std.specs.List.{sum_by}
use Rattle.std.proofs.lemmas.List.Sums.{sum_by_push, sum_by-cons}
use Rattle.std.proofs.lemmas.Bool.Decides.{eqb_tells}
use mathlib.Core.Option.{none, some}
use lib.ListN.{get_elem?}
use Rattle.atomic_table.specs.Table.{Me, step, keeps, Allows, Splits, Joins}
use Rattle.budget.specs.declared.holders.Holding.{Holding}
use Rattle.budget.specs.declared.holders.Holding.TheVariants.{Host, Taking, Lease, Gone}
use Rattle.budget.specs.Pairs.{Pair, is_pair, pair_count, without_pair, count_of, is_host, stands, flags, is_lease_of, IsHeld, KeepsPairs, with_pair, with_lease, with_back, without_back, lease_back, cleared, IsFlagged, MarksPair, ReadsHeld, ClearsPair, host_view}
use Rattle.budget.proofs.Sums.{one_if, sum-set, sum-cut, sum-join, word-set, at-le-sum, only_of_kind}

-- pairs, and how often one stands in a list that changes

pub pair_tells : (p q : Pair) → ((is_pair p q ≡ true) × (p ≡ q)) ⊎ ((is_pair p q ≡ false) × (p ≢ q))
pair_tells p q =
    ⊎_elim
    (λ (t : (eqb p.0 q.0 ≡ true) × (p.0 ≡ q.0)).
    ⊎_elim
    (λ (r : (eqb p.1 q.1 ≡ true) × (p.1 ≡ q.1)). inl ((λ i. t.0 i && r.0 i), (λ i. (t.1 i, r.1 i))))
    (λ (r : (eqb p.1 q.1 ≡ false) × (p.1 ≢ q.1)). inr ((λ i. t.0 i && r.0 i), (λ e. r.1 (ap (λ (z : Pair). z.1) e))))
    (eqb_tells p.1 q.1))
    (λ (t : (eqb p.0 q.0 ≡ false) × (p.0 ≢ q.0)). inr (ap (λ b. b && eqb p.1 q.1) t.0, (λ e. t.1 (ap (λ (z : Pair). z.0) e))))
    (eqb_tells p.0 q.0)

pub own_pair : (p : Pair) → one_if (is_pair p p) ≡ 1
own_pair p =
    ⊎_elim
    (λ (t : (is_pair p p ≡ true) × (p ≡ p)). ap one_if t.0)
    (λ (t : (is_pair p p ≡ false) × (p ≢ p)). absurd (t.1 refl))
    (pair_tells p p)

other_pair : (p q : Pair) → p ≢ q → one_if (is_pair p q) ≡ 0
other_pair p q ne =
    ⊎_elim
    (λ (t : (is_pair p q ≡ true) × (p ≡ q)). absurd (ne t.1))
    (λ (t : (is_pair p q ≡ false) × (p ≢ q)). ap one_if t.0)
    (pair_tells p q)

pub times_cons : (p q : Pair) (pairs : List Pair) → pair_count p (q ∷ pairs) ≡ one_if (is_pair p q) + pair_count p pairs
times_cons p q pairs = sum_by-cons (λ (z : Pair). cond (is_pair p z) 1 0) q pairs

pub times_without : (q p : Pair) (pairs : List Pair) → q ≢ p → pair_count q (without_pair p pairs) ≡ pair_count q pairs
times_without q p [] ne = refl
times_without q p (x ∷ xs) ne =
    let rest = times_without q p xs ne in
    let P : Bool → Type 0 = λ b. pair_count q (cond (not b) (x ∷ without_pair p xs) (without_pair p xs)) ≡ pair_count q (x ∷ xs) in
    ⊎_elim
    (λ (t : (is_pair p x ≡ true) × (p ≡ x)). subst P (sym t.0) (omega (arith, times_cons q x xs, other_pair q x (λ e. ne (e ∙ sym t.1)))))
    (λ (t : (is_pair p x ≡ false) × (p ≢ x)). subst P (sym t.0) (omega (arith, times_cons q x xs, times_cons q x (without_pair p xs))))
    (pair_tells p x)

pub times_without_it : (p : Pair) (pairs : List Pair) → pair_count p (without_pair p pairs) ≡ 0
times_without_it p [] = refl
times_without_it p (x ∷ xs) =
    let rest = times_without_it p xs in
    let P : Bool → Type 0 = λ b. pair_count p (cond (not b) (x ∷ without_pair p xs) (without_pair p xs)) ≡ 0 in
    ⊎_elim
    (λ (t : (is_pair p x ≡ true) × (p ≡ x)). subst P (sym t.0) rest)
    (λ (t : (is_pair p x ≡ false) × (p ≢ x)). subst P (sym t.0) (omega (arith, times_cons p x (without_pair p xs), ap one_if t.0)))
    (pair_tells p x)

pub length_without : (p : Pair) (pairs : List Pair) → length (without_pair p pairs) + pair_count p pairs ≡ length pairs
length_without p [] = refl
length_without p (x ∷ xs) =
    let rest = length_without p xs in
    let P : Bool → Type 0 = λ b. length (cond (not b) (x ∷ without_pair p xs) (without_pair p xs)) + pair_count p (x ∷ xs) ≡ suc (length xs) in
    ⊎_elim
    (λ (t : (is_pair p x ≡ true) × (p ≡ x)). subst P (sym t.0) (omega (arith, times_cons p x xs, ap one_if t.0)))
    (λ (t : (is_pair p x ≡ false) × (p ≢ x)). subst P (sym t.0) (omega (arith, times_cons p x xs, ap one_if t.0)))
    (pair_tells p x)

-- a pair that stands there once is taken out
pub without_one : (q p : Pair) (pairs : List Pair) → pair_count p pairs ≡ 1 → pair_count q (without_pair p pairs) + one_if (is_pair q p) ≡ pair_count q pairs
without_one q p pairs once =
    ⊎_elim
    (λ (t : (is_pair q p ≡ true) × (q ≡ p)).
    subst (λ (z : Pair). pair_count z (without_pair p pairs) + one_if (is_pair z p) ≡ pair_count z pairs) (sym t.1) (omega (arith, times_without_it p pairs, own_pair p)))
    (λ (t : (is_pair q p ≡ false) × (q ≢ p)). omega (arith, times_without q p pairs t.1, ap one_if t.0))
    (pair_tells q p)

-- how much a seat adds to the host's seats, and to the leases of a pair
abbrev hosts : Holding → ℕ
hosts v = one_if (is_host v)

abbrev leases : Pair → Holding → ℕ
leases p v = one_if (is_lease_of p v)

-- the rule, as views change

pub begins : IsHeld (0 ∷ []) (Host [] [] ∷ [])
begins = record { one_word = refl; counts = refl; one_host = refl; flagged = λ p. refl; distinct = λ p. omega arith }

set_view : (words : List ℕ) (views : List Holding) (seat n : ℕ) (v w : Holding) → IsHeld words views → get_elem? views seat ≡ some v
    → n + count_of v ≡ get_or words 0 0 + count_of w → is_host w ≡ is_host v
    → ((p : Pair) → leases p w + flags p v ≡ leases p v + flags p w)
    → ((p : Pair) → sum_by (stands p) views + stands p w ≤ 1 + stands p v)
    → IsHeld (set words 0 n) (set views seat w)
set_view words views seat n v w rule at count host flag room = record {
  one_word = length-set words 0 n ∙ rule.one_word;
  counts = word-set count_of words views seat n v w rule.one_word rule.counts at count;
  one_host = omega (arith, rule.one_host, ap one_if host, sum-set hosts views seat v w at);
  flagged = λ p. omega (arith, rule.flagged p, flag p, sum-set (leases p) views seat v w at, sum-set (flags p) views seat v w at);
  distinct = λ p. omega (arith, room p, sum-set (stands p) views seat v w at);
}

cut_view : (words : List ℕ) (views : List Holding) (seat : ℕ) (v w new : Holding) → IsHeld words views → get_elem? views seat ≡ some v
    → count_of w + count_of new ≡ count_of v → hosts w + hosts new ≡ hosts v
    → ((p : Pair) → leases p w + leases p new + flags p v ≡ leases p v + flags p w + flags p new)
    → ((p : Pair) → stands p w + stands p new ≤ stands p v)
    → IsHeld words (set views seat w ++ new ∷ [])
cut_view words views seat v w new rule at count host flag room =
    let left : List Holding = set views seat w in
    record {
      one_word = rule.one_word;
      counts = rule.counts ∙ sum-cut count_of views seat v w new at count;
      one_host = sym (sum-cut hosts views seat v w new at host) ∙ rule.one_host;
      flagged = λ p. omega (arith, rule.flagged p, flag p, sum-set (leases p) views seat v w at, sum_by_push (leases p) left new, sum-set (flags p) views seat v w at, sum_by_push (flags p) left new);
      distinct = λ p. omega (arith, rule.distinct p, room p, sum-set (stands p) views seat v w at, sum_by_push (stands p) left new);
    }

-- the host has all that is held
host_has : (f : Holding → ℕ) (views : List Holding) (seat : ℕ) (v : Holding) → count_by is_host views ≡ 1 → get_elem? views seat ≡ some v → is_host v ≡ true
    → ((pair : Pair) → f (Lease pair) ≡ 0) → f Gone ≡ 0 → sum_by f views ≡ f v
host_has f views seat v one at host lease gone = only_of_kind is_host f views seat v one at host none_else
  where
    none_else : (u : Holding) → is_host u ≡ false → f u ≡ 0
    none_else (Host granted leased) h = absurd (cc)
    none_else (Taking granted leased pair) h = absurd (cc)
    none_else (Lease pair) h = lease pair
    none_else Gone h = gone

pub marks_pair : (slots seat : ℕ) (me : Me (Unit {0}) Holding) (p : Pair) (granted leased : List Pair) → me.0 ≡ Host granted leased
    → pair_count p granted + pair_count p leased ≡ 0 → length granted + length leased + 1 < 2 ^ 64
    → Allows KeepsPairs slots seat me 0 (λ n. (n + 1) % 2 ^ 64) (MarksPair p (step slots 0 1 0 none) me)
marks_pair slots seat me p granted leased is apart room s rule len at small =
    let n : ℕ = get_or s.words 0 0 in
    let v : Holding = Host granted leased in
    let w : Holding = Host (p ∷ granted) leased in
    let there : get_elem? s.views seat ≡ some v = at ∙ ap some is in
    let all : sum_by count_of s.views ≡ length granted + length leased = host_has count_of s.views seat v rule.one_host there refl (λ _. refl) refl in
    let read : n ≡ length granted + length leased = rule.counts ∙ all in
    let fits : length granted + length leased + 1 < 18446744073709551616 = room in
    let more : n + 1 ≡ (n + 1) % 18446744073709551616 = omega arith in
    let none_yet : sum_by (stands p) s.views ≡ 0 = host_has (stands p) s.views seat v rule.one_host there refl (λ _. refl) refl ∙ apart in
    let free : (q : Pair) → sum_by (stands q) s.views + one_if (is_pair q p) ≤ 1 = λ q.
    ⊎_elim
    (λ (t : (is_pair q p ≡ true) × (q ≡ p)). subst (λ (z : Pair). sum_by (stands z) s.views + one_if (is_pair z p) ≤ 1) (sym t.1) (omega (arith, none_yet, own_pair p)))
    (λ (t : (is_pair q p ≡ false) × (q ≢ p)). omega (arith, rule.distinct q, ap one_if t.0))
    (pair_tells q p) in
    let kept : IsHeld (set s.words 0 (n + 1)) (set s.views seat w) =
    set_view s.words s.views seat (n + 1) v w rule there (omega arith) refl (λ q. refl) (λ q. omega (arith, free q, times_cons q p granted)) in
    (with_pair p me.0, keeps, tt, subst (λ (z : ℕ × Holding). IsHeld (set s.words 0 z.0) (set s.views seat (with_pair p z.1))) (λ i. (more i, sym is i)) kept, (refl, refl))

pub splits_lease : (seat : ℕ) (v : Holding) (p : Pair) (granted leased : List Pair) → v ≡ Host granted leased → pair_count p granted ≡ 1 → Splits KeepsPairs seat v (with_lease p v) (Lease p)
splits_lease seat v p granted leased is once = subst (λ (u : Holding). Splits KeepsPairs seat u (with_lease p u) (Lease p)) (sym is) from_host
  where
    from_host : Splits KeepsPairs seat (Host granted leased) (Host (without_pair p granted) (p ∷ leased)) (Lease p)
    from_host s rule at = cut_view s.words s.views seat (Host granted leased) (Host (without_pair p granted) (p ∷ leased)) (Lease p) rule at
        (omega (arith, length_without p granted))
        refl
        (λ q. omega (arith, times_cons q p leased))
        (λ q. omega (arith, times_cons q p leased, without_one q p granted once))

pub takes_back : (seat : ℕ) (v : Holding) (other : ℕ) (w : Holding) (granted leased : List Pair) (p : Pair) → v ≡ Host granted leased → w ≡ Lease p → Joins KeepsPairs seat v other w (with_back v w) Gone
takes_back seat v other w granted leased p is lease = subst (λ (z : Holding × Holding). Joins KeepsPairs seat z.0 other z.1 (with_back z.0 z.1) Gone) (λ i. (sym is i, sym lease i)) from_host
  where
    from_host : Joins KeepsPairs seat (Host granted leased) other (Lease p) (Taking granted leased p) Gone
    from_host s rule at apart there =
        let before : Holding = Host granted leased in
        let both : Holding = Taking granted leased p in
        let same : (f : Holding → ℕ) → f both + f Gone ≡ f before + f (Lease p) → sum_by f s.views ≡ sum_by f (set (set s.views seat both) other Gone) = λ f. sum-join f s.views seat before other (Lease p) both Gone at there in
        record {
          one_word = rule.one_word;
          counts = rule.counts ∙ same count_of (omega arith);
          one_host = sym (same hosts refl) ∙ rule.one_host;
          flagged = λ q. sym (same (leases q) (omega arith)) ∙ rule.flagged q ∙ same (flags q) (omega arith);
          distinct = λ q. subst (λ (n : ℕ). n ≤ 1) (same (stands q) (omega arith)) (rule.distinct q);
        }

unmoved : (words : List ℕ) (views : List Holding) (seat : ℕ) (v : Holding) → IsHeld words views → get_elem? views seat ≡ some v → IsHeld (set words 0 (get_or words 0 0)) (set views seat v)
unmoved words views seat v rule at = set_view words views seat (get_or words 0 0) v v rule at refl refl (λ p. refl) (λ p. omega (arith, rule.distinct p))

-- what a load tells the host
host_reads : (words : List ℕ) (views : List Holding) (seat : ℕ) (granted leased : List Pair) (back : Option Pair) → IsHeld words views → get_elem? views seat ≡ some (host_view granted leased back)
    → (get_or words 0 0 ≡ count_of (host_view granted leased back)) × IsFlagged (host_view granted leased back)
host_reads words views seat granted leased None rule at =
    let v : Holding = Host granted leased in
    (rule.counts ∙ host_has count_of views seat v rule.one_host at refl (λ _. refl) refl, tt)
host_reads words views seat granted leased (Some p) rule at =
    let v : Holding = Taking granted leased p in
    let part = at-le-sum (leases p) views seat v at in
    let own = own_pair p in
    let flag : sum_by (flags p) views ≡ pair_count p leased = host_has (flags p) views seat v rule.one_host at refl (λ _. refl) refl in
    let all : sum_by (stands p) views ≡ pair_count p granted + pair_count p leased = host_has (stands p) views seat v rule.one_host at refl (λ _. refl) refl in
    (rule.counts ∙ host_has count_of views seat v rule.one_host at refl (λ _. refl) refl, omega (arith, rule.flagged p, rule.distinct p))

pub reads_held : (slots seat : ℕ) (me : Me (Unit {0}) Holding) (granted leased : List Pair) (back : Option Pair) → me.0 ≡ host_view granted leased back
    → Allows KeepsPairs slots seat me 0 (λ n. n) (ReadsHeld (step slots 0 0 0 none) me)
reads_held slots seat me granted leased back is s rule len at small =
    let told = host_reads s.words s.views seat granted leased back rule (at ∙ ap some is) in
    (me.0, keeps, tt, unmoved s.words s.views seat me.0 rule at, (refl, told.0 ∙ ap count_of (sym is), subst IsFlagged (sym is) told.1))

pub clears_pair : (slots seat : ℕ) (me : Me (Unit {0}) Holding) (granted leased : List Pair) (p : Pair) → me.0 ≡ Taking granted leased p → pair_count p leased ≡ 1
    → Allows KeepsPairs slots seat me 0 (λ n. (n + (2 ^ 64 - 1)) % 2 ^ 64) (ClearsPair (step slots 0 1 0 none) me)
clears_pair slots seat me granted leased p is once s rule len at small =
    let n : ℕ = get_or s.words 0 0 in
    let v : Holding = Taking granted leased p in
    let w : Holding = Host granted (without_pair p leased) in
    let there : get_elem? s.views seat ≡ some v = at ∙ ap some is in
    let all : sum_by count_of s.views ≡ length granted + length leased = host_has count_of s.views seat v rule.one_host there refl (λ _. refl) refl in
    let read : n ≡ length granted + length leased = rule.counts ∙ all in
    let short = length_without p leased in
    let fits : n < 18446744073709551616 = small in
    let less : n - 1 ≡ (n + 18446744073709551615) % 18446744073709551616 = omega arith in
    let kept : IsHeld (set s.words 0 (n - 1)) (set s.views seat w) =
    set_view s.words s.views seat (n - 1) v w rule there (omega arith) refl (λ q. omega (arith, without_one q p leased once)) (λ q. omega (arith, rule.distinct q, without_one q p leased once)) in
    (cleared me.0, keeps, tt, subst (λ (z : ℕ × Holding). IsHeld (set s.words 0 z.0) (set s.views seat (cleared z.1))) (λ i. (less i, sym is i)) kept, (refl, refl))

pub hands_out : (seat : ℕ) (v : Holding) (granted leased : List Pair) (p : Pair) → v ≡ Taking granted leased p → Splits KeepsPairs seat v (without_back v) (lease_back v)
hands_out seat v granted leased p is = subst (λ (u : Holding). Splits KeepsPairs seat u (without_back u) (lease_back u)) (sym is) from_host
  where
    from_host : Splits KeepsPairs seat (Taking granted leased p) (Host granted leased) (Lease p)
    from_host s rule at = cut_view s.words s.views seat (Taking granted leased p) (Host granted leased) (Lease p) rule at
        (omega arith)
        refl
        (λ q. omega arith)
        (λ q. omega arith)

-- the same, as the calls ask for it

pub marks_named : (slots seat : ℕ) (me : Me (Unit {0}) Holding) (p q : Pair) (granted leased : List Pair) → p ≡ q → me.0 ≡ Host granted leased
    → pair_count q granted + pair_count q leased ≡ 0 → length granted + length leased + 1 < 2 ^ 64
    → Allows KeepsPairs slots seat me 0 (λ n. (n + 1) % 2 ^ 64) (MarksPair p (step slots 0 1 0 none) me)
marks_named slots seat me p q granted leased named is apart room =
    subst (λ (z : Pair). Allows KeepsPairs slots seat me 0 (λ n. (n + 1) % 2 ^ 64) (MarksPair z (step slots 0 1 0 none) me)) (sym named) (marks_pair slots seat me q granted leased is apart room)

pub splits_named : (seat : ℕ) (v : Holding) (p q : Pair) (granted leased : List Pair) → p ≡ q → v ≡ Host granted leased → pair_count q granted ≡ 1 → Splits KeepsPairs seat v (with_lease p v) (Lease p)
splits_named seat v p q granted leased named is once = subst (λ (z : Pair). Splits KeepsPairs seat v (with_lease z v) (Lease z)) (sym named) (splits_lease seat v q granted leased is once)

pub clears_back : (slots seat : ℕ) (me : Me (Unit {0}) Holding) (granted leased : List Pair) (back : Option Pair) → me.0 ≡ host_view granted leased back → IsSome back → IfSome back (λ p. pair_count p leased ≡ 1)
    → Allows KeepsPairs slots seat me 0 (λ n. (n + (2 ^ 64 - 1)) % 2 ^ 64) (ClearsPair (step slots 0 1 0 none) me)
clears_back slots seat me granted leased None is there flagged = absurd (cc)
clears_back slots seat me granted leased (Some p) is there flagged = clears_pair slots seat me granted leased p is flagged

pub hands_back : (seat : ℕ) (v : Holding) (granted leased : List Pair) (back : Option Pair) → v ≡ host_view granted leased back → IsSome back → Splits KeepsPairs seat v (without_back v) (lease_back v)
hands_back seat v granted leased None is there = absurd (cc)
hands_back seat v granted leased (Some p) is there = hands_out seat v granted leased p is

pub alone : (v : Holding) (granted leased : List Pair) (back : Option Pair) → v ≡ host_view granted leased back → back ≡ None → v ≡ Host granted leased
alone v granted leased back is none_back = is ∙ ap (host_view granted leased) none_back
