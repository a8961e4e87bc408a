use Rattle.std.proofs.Common.{◌≡◌, ℕ, ◌+◌, List, ◌++◌, length, drop, take, sym, subst, ◌∙◌, rules}
use Rattle.std.proofs.lemmas.List.{take_at}
use Rattle.load_figures.specs.Tally.{sums, IsKept}
use Rattle.load_figures.proofs.CountLemmas.{kept_added}
use Rattle.load_figures.proofs.histogram.Histogram.add.Goals as goal

-- a list of a Vec's length, written over all of it
kept_written : (len values total : ℕ) (counts items : List ℕ) → IsKept counts values total → len ≡ 7424 → IsKept (take len (counts ++ drop (length counts) items)) values total
kept_written len values total counts items kept is =
    subst (λ (xs : List ℕ). IsKept xs values total) (sym (take_at counts (drop (length counts) items) len (kept.size ∙ sym is))) kept

pub invariant_of-self : goal.invariant_of-self
invariant_of-self c =
    let sums_are : c.add_counts.new.counts ≡ sums c.self.inside.counts.items c.other.inside.counts.items = search rules in
    let values_are : c.in-Some.values ≡ c.self.inside.values + c.other.inside.values = search rules in
    let kept = kept_added c.self.inside.counts.items c.other.inside.counts.items c.self.inside.values c.other.inside.values c.self.inside.total c.other.inside.total c.self.invariant c.other.invariant in
    let size : c.self.inside.counts.len ≡ 7424 = search (rules, c.self.invariant.size) in
    kept_written c.self.inside.counts.len c.in-Some.values (c.self.inside.total + c.other.inside.total) c.add_counts.new.counts c.self.inside.counts.items
    (subst (λ (n : ℕ). IsKept c.add_counts.new.counts n (c.self.inside.total + c.other.inside.total)) (sym values_are)
    (subst (λ (xs : List ℕ). IsKept xs (c.self.inside.values + c.other.inside.values) (c.self.inside.total + c.other.inside.total)) (sym sums_are) kept))
    size
