-- Each step of a tally keeps its rule.
use Rattle.std.proofs.Common.{◌≡◌, ℕ, ◌+◌, ◌-◌, ◌%◌, ◌^◌, ◌<◌, true, false, List, [], ◌∷◌, ◌++◌, get_or, set, sym, refl, ap, ◌∙◌, subst, arith, length-set}
use mathlib.Core.Option.{none, some}
use lib.ListN.{get_elem?}
use Rattle.atomic_table.specs.Table.{Me, step, keeps, Allows, Splits, Joins}
use Rattle.budget.specs.declared.tally.Standing.{Standing}
use Rattle.budget.specs.declared.tally.Standing.TheVariants.{Host, Lease, Pass, Gone}
use Rattle.budget.specs.Starts.{counted, stands_for, is_host, IsTally, KeepsStarts, started, without_one, with_one, CountsStart, ReadsStarts, ReadsMore}
use Rattle.budget.proofs.Sums.{one_if, sum-set, sum-cut, sum-join, word-set, at-le-sum, only_of_kind}

pub begins : IsTally (0 ∷ []) (Host 0 0 ∷ [])
begins = record { one_word = refl; counts = refl; stood_for = refl; one_host = refl }

-- how much a seat adds to the host's seats
abbrev hosts : Standing → ℕ
hosts v = one_if (is_host v)

-- the word may change as one view does
set_view : (words : List ℕ) (views : List Standing) (seat n : ℕ) (v w : Standing) → IsTally words views → get_elem? views seat ≡ some v
    → n + counted v ≡ get_or words 0 0 + counted w → n + stands_for v ≡ get_or words 0 0 + stands_for w → is_host w ≡ is_host v
    → IsTally (set words 0 n) (set views seat w)
set_view words views seat n v w rule at starts stands host = record {
  one_word = length-set words 0 n ∙ rule.one_word;
  counts = word-set counted words views seat n v w rule.one_word rule.counts at starts;
  stood_for = word-set stands_for words views seat n v w rule.one_word rule.stood_for at stands;
  one_host = omega (arith, rule.one_host, ap one_if host, sum-set hosts views seat v w at);
}

-- one view may be cut in two
cut_view : (words : List ℕ) (views : List Standing) (seat : ℕ) (v w new : Standing) → IsTally words views → get_elem? views seat ≡ some v
    → counted w + counted new ≡ counted v → stands_for w + stands_for new ≡ stands_for v → hosts w + hosts new ≡ hosts v
    → IsTally words (set views seat w ++ new ∷ [])
cut_view words views seat v w new rule at starts stands host = record {
  one_word = rule.one_word;
  counts = rule.counts ∙ sum-cut counted views seat v w new at starts;
  stood_for = rule.stood_for ∙ sum-cut stands_for views seat v w new at stands;
  one_host = sym (sum-cut hosts views seat v w new at host) ∙ rule.one_host;
}

-- two views may be put together
join_views : (words : List ℕ) (views : List Standing) (seat : ℕ) (v : Standing) (other : ℕ) (w both spent : Standing) → IsTally words views → get_elem? views seat ≡ some v
    → get_elem? (set views seat both) other ≡ some w
    → counted both + counted spent ≡ counted v + counted w → stands_for both + stands_for spent ≡ stands_for v + stands_for w → hosts both + hosts spent ≡ hosts v + hosts w
    → IsTally words (set (set views seat both) other spent)
join_views words views seat v other w both spent rule at there starts stands host = record {
  one_word = rule.one_word;
  counts = rule.counts ∙ sum-join counted views seat v other w both spent at there starts;
  stood_for = rule.stood_for ∙ sum-join stands_for views seat v other w both spent at there stands;
  one_host = sym (sum-join hosts views seat v other w both spent at there host) ∙ rule.one_host;
}

-- the host's view has the word
host_counts : (words : List ℕ) (views : List Standing) (seat : ℕ) (v : Standing) → IsTally words views → get_elem? views seat ≡ some v → is_host v ≡ true → get_or words 0 0 ≡ counted v
host_counts words views seat v rule at host = rule.counts ∙ only_of_kind is_host counted views seat v rule.one_host at host none_else
  where
    none_else : (u : Standing) → is_host u ≡ false → counted u ≡ 0
    none_else (Host starts unsplit) h = absurd (cc)
    none_else Lease h = refl
    none_else (Pass spent) h = refl
    none_else Gone h = refl

unmoved : (words : List ℕ) (views : List Standing) (seat : ℕ) (v : Standing) → IsTally words views → get_elem? views seat ≡ some v → IsTally (set words 0 (get_or words 0 0)) (set views seat v)
unmoved words views seat v rule at = set_view words views seat (get_or words 0 0) v v rule at refl refl refl

pub counts_start : (slots seat : ℕ) (me : Me (Unit {0}) Standing) (starts unsplit : ℕ) → me.0 ≡ Host starts unsplit → starts + 1 < 2 ^ 64
    → Allows KeepsStarts slots seat me 0 (λ n. (n + 1) % 2 ^ 64) (CountsStart (step slots 0 1 0 none) me)
counts_start slots seat me starts unsplit is room s rule len at small =
    let n : ℕ = get_or s.words 0 0 in
    let at' : get_elem? s.views seat ≡ some (Host starts unsplit) = at ∙ ap some is in
    let read : n ≡ starts = host_counts s.words s.views seat (Host starts unsplit) rule at' refl in
    let fits : starts + 1 < 18446744073709551616 = room in
    let more : n + 1 ≡ (n + 1) % 18446744073709551616 = omega arith in
    let kept : IsTally (set s.words 0 (n + 1)) (set s.views seat (Host (starts + 1) (unsplit + 1))) =
    set_view s.words s.views seat (n + 1) (Host starts unsplit) (Host (starts + 1) (unsplit + 1)) rule at' (omega arith) (omega arith) refl in
    (started me.0, keeps, tt, subst (λ (z : ℕ × Standing). IsTally (set s.words 0 z.0) (set s.views seat (started z.1))) (λ i. (more i, sym is i)) kept, (refl, refl))

pub reads_starts : (slots seat : ℕ) (me : Me (Unit {0}) Standing) (starts unsplit : ℕ) → me.0 ≡ Host starts unsplit
    → Allows KeepsStarts slots seat me 0 (λ n. n) (ReadsStarts (step slots 0 0 0 none) me)
reads_starts slots seat me starts unsplit is s rule len at small =
    let read = host_counts s.words s.views seat (Host starts unsplit) rule (at ∙ ap some is) refl in
    (me.0, keeps, tt, unmoved s.words s.views seat me.0 rule at, (refl, read ∙ ap counted (sym is)))

pub reads_more : (slots seat : ℕ) (me : Me (Unit {0}) Standing) → Allows KeepsStarts slots seat me 0 (λ n. n) (ReadsMore (step slots 0 0 0 none) me)
reads_more slots seat me s rule len at small =
    let part = at-le-sum stands_for s.views seat me.0 at in
    let whole = rule.stood_for in
    (me.0, keeps, tt, unmoved s.words s.views seat me.0 rule at, (refl, omega arith))

pub splits_start : (seat : ℕ) (v : Standing) (starts unsplit : ℕ) → v ≡ Host starts unsplit → 0 < unsplit → Splits KeepsStarts seat v (without_one v) Lease
splits_start seat v starts unsplit is some_left = subst (λ (u : Standing). Splits KeepsStarts seat u (without_one u) Lease) (sym is) from_host
  where
    from_host : Splits KeepsStarts seat (Host starts unsplit) (Host starts (unsplit - 1)) Lease
    from_host s rule at = cut_view s.words s.views seat (Host starts unsplit) (Host starts (unsplit - 1)) Lease rule at (omega arith) (omega arith) refl

pub seats_pass : (seat : ℕ) (v : Standing) → Splits KeepsStarts seat v v (Pass 0)
seats_pass seat v s rule at = cut_view s.words s.views seat v v (Pass 0) rule at (omega arith) (omega arith) (omega arith)

pub spends_start : (seat : ℕ) (v : Standing) (other : ℕ) (w : Standing) (spent : ℕ) → v ≡ Pass spent → w ≡ Lease → Joins KeepsStarts seat v other w (with_one v) Gone
spends_start seat v other w spent is lease = subst (λ (z : Standing × Standing). Joins KeepsStarts seat z.0 other z.1 (with_one z.0) Gone) (λ i. (sym is i, sym lease i)) from_pass
  where
    from_pass : Joins KeepsStarts seat (Pass spent) other Lease (Pass (spent + 1)) Gone
    from_pass s rule at apart there = join_views s.words s.views seat (Pass spent) other Lease (Pass (spent + 1)) Gone rule at there refl (omega arith) refl
