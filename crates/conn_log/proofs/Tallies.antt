-- Counts of a log's parts.
use Rattle.std.proofs.Common.{◌≡◌, ℕ, ◌+◌, ◌≤◌, List, [], ◌∷◌, ◌++◌, length, refl, ap, ◌∙◌, arith}
use Rattle.conn_log.specs.declared.entry.Event.{Event}
use Rattle.conn_log.specs.declared.entry.Event.TheVariants.{Opened, Leased, Returned, Closed, Waited, Left, Limit}
use Rattle.conn_log.specs.declared.entry.Entry.{Entry}
use Rattle.conn_log.specs.declared.counts.Counts.{Counts}
use Rattle.conn_log.specs.Counts.{counts, counts_after, both_counts, CountsWithin}

-- the same counts where each is the same
same_counts : (x y : Counts) → x.opened ≡ y.opened → x.reused ≡ y.reused → x.closed ≡ y.closed → x.waited ≡ y.waited → x ≡ y
same_counts x y opened reused closed waited i = record { opened = opened i; reused = reused i; closed = closed i; waited = waited i }

-- one more event of the later part
pub counted_later : (event : Event) (x y : Counts) → both_counts x (counts_after event y) ≡ counts_after event (both_counts x y)
counted_later (Opened c want) x y = same_counts _ _ (omega arith) refl refl refl
counted_later (Leased c want) x y = same_counts _ _ refl (omega arith) refl refl
counted_later (Returned c facts) x y = refl
counted_later (Closed c cause) x y = same_counts _ _ refl refl (omega arith) refl
counted_later (Waited want) x y = same_counts _ _ refl refl refl (omega arith)
counted_later (Left transfer) x y = refl
counted_later (Limit n) x y = refl

pub counted_none : (x : Counts) → both_counts x (counts []) ≡ x
counted_none x = same_counts _ _ (omega arith) (omega arith) (omega arith) (omega arith)

pub counts_append : (rest past : List Entry) → both_counts (counts past) (counts rest) ≡ counts (rest ++ past)
counts_append [] past = counted_none (counts past)
counts_append (e ∷ rest) past = counted_later e.event (counts past) (counts rest) ∙ ap (counts_after e.event) (counts_append rest past)

pub looser : {most more : ℕ} {so_far : Counts} → most ≤ more → CountsWithin most so_far → CountsWithin more so_far
looser le within = record {
  opened = omega (arith, within.opened, le);
  reused = omega (arith, within.reused, le);
  closed = omega (arith, within.closed, le);
  waited = omega (arith, within.waited, le);
}

-- one more event counts one at most
one_more : (most : ℕ) (event : Event) (so_far : Counts) → CountsWithin most so_far → CountsWithin (most + 1) (counts_after event so_far)
one_more most (Opened c want) so_far within = record { opened = omega (arith, within.opened); reused = omega (arith, within.reused); closed = omega (arith, within.closed); waited = omega (arith, within.waited) }
one_more most (Leased c want) so_far within = record { opened = omega (arith, within.opened); reused = omega (arith, within.reused); closed = omega (arith, within.closed); waited = omega (arith, within.waited) }
one_more most (Returned c facts) so_far within = looser (omega arith) within
one_more most (Closed c cause) so_far within = record { opened = omega (arith, within.opened); reused = omega (arith, within.reused); closed = omega (arith, within.closed); waited = omega (arith, within.waited) }
one_more most (Waited want) so_far within = record { opened = omega (arith, within.opened); reused = omega (arith, within.reused); closed = omega (arith, within.closed); waited = omega (arith, within.waited) }
one_more most (Left transfer) so_far within = looser (omega arith) within
one_more most (Limit n) so_far within = looser (omega arith) within

-- of each kind there are no more than entries
pub counts_within : (log : List Entry) → CountsWithin (length log) (counts log)
counts_within [] = record { opened = omega arith; reused = omega arith; closed = omega arith; waited = omega arith }
counts_within (e ∷ before) = looser (omega arith) (one_more (length before) e.event (counts before) (counts_within before))
