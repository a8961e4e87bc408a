-- A tournament tree: what stands at its top, and how it is played again.
use Rattle.std.proofs.Common.{◌≡◌, ◌≢◌, ◌⊎◌, ℕ, zero, suc, ◌+◌, ◌-◌, ◌/◌, ◌%◌, ◌<◌, ◌≤◌, true, false, List, length, drop, slice_index_or, slice_set, Option, Some, None, refl, sym, ap, subst, inl, inr, ◌∙◌, length-drop, arith}
use Rattle.std.specs.Option.{IfSome}
use Rattle.std.specs.Prelude.{◌==◌}
use Rattle.std.proofs.lemmas.Bool.Decides.{eqb_tells}
use Rattle.std.proofs.lemmas.List.{get_or_default, get_or-set_same, get_or-set_other, get_or-drop}
use Rattle.conn_log.specs.declared.stamp.Stamp.{Stamp}
use Rattle.cache.specs.Oldest.{earlier_of, is_before, earliest, stamp_at}
use Rattle.cache.specs.Trees.{IsTree}
use Rattle.cache.proofs.NotedStamps.{not_before_itself}
use Rattle.cache.proofs.StampOrder.{not_before_onward, first_before, second_before, earlier_not_before, earliest_before, earliest_is, earliest_own, within}

-- the place above: this one is the left or the right below it
halves : (place : ℕ) → (place ≡ place / 2 + place / 2) ⊎ (place ≡ place / 2 + place / 2 + 1)
halves place = elim (eqb_tells (place % 2) 0) [
  | inl even ↦ inl (omega (arith, even.1))
  | inr odd ↦ inr (omega (arith, odd.1))
]

-- the top
module _ (hosts : ℕ) (nodes : List (Option Stamp)) (tree : IsTree hosts nodes) where
  -- the winner above is no later
  below_winner : (place : ℕ) → 0 < place / 2 → place / 2 < hosts → is_before (stamp_at nodes place) (stamp_at nodes (place / 2)) ≡ false
  below_winner place some there =
      let above = place / 2 in
      let left = stamp_at nodes (above + above) in
      let right = stamp_at nodes (above + above + 1) in
      ap (is_before (stamp_at nodes place)) (tree.won above some there)
      ∙ elim (halves place) [
        | inl even ↦ ap (λ (p : ℕ). is_before (stamp_at nodes p) (earlier_of left right)) even ∙ first_before left right
        | inr odd ↦ ap (λ (p : ℕ). is_before (stamp_at nodes p) (earlier_of left right)) odd ∙ second_before left right
      ]

  below_top : (most place : ℕ) → place ≤ most → 0 < place → place < hosts + hosts → is_before (stamp_at nodes place) (stamp_at nodes 1) ≡ false
  below_top zero place few some there = absurd (omega arith)
  below_top (suc most) place few some there = elim (eqb_tells place 1) [
    | inl same ↦ ap (λ (p : ℕ). is_before (stamp_at nodes p) (stamp_at nodes 1)) same.1 ∙ not_before_itself (stamp_at nodes 1)
    | inr other ↦
        let higher : 0 < place / 2 = omega (arith, other.1) in
        let inner : place / 2 < hosts = omega arith in
        not_before_onward (stamp_at nodes place) (stamp_at nodes (place / 2)) (stamp_at nodes 1) (below_winner place higher inner) (below_top most (place / 2) (omega arith) higher (omega arith))
  ]

  leaf : (host : ℕ) → stamp_at (drop hosts nodes) host ≡ stamp_at nodes (hosts + host)
  leaf host = get_or-drop hosts nodes host None

  -- none is before all leaves
  above_leaves : (left place : ℕ) → hosts + hosts ≤ place + left → 0 < place → place < hosts + hosts → is_before (stamp_at nodes place) (earliest (drop hosts nodes)) ≡ false
  above_leaves zero place all some there = absurd (omega arith)
  above_leaves (suc left) place all some there = elim (within place hosts) [
    | inl inner ↦
        let first = above_leaves left (place + place) (omega arith) (omega arith) (omega arith) in
        let second = above_leaves left (place + place + 1) (omega arith) (omega arith) (omega arith) in
        ap (λ x. is_before x (earliest (drop hosts nodes))) (tree.won place some inner)
        ∙ earlier_not_before (stamp_at nodes (place + place)) (stamp_at nodes (place + place + 1)) (earliest (drop hosts nodes)) first second
    | inr outer ↦
        let here : hosts + (place - hosts) ≡ place = omega arith in
        ap (λ x. is_before x (earliest (drop hosts nodes))) (sym (leaf (place - hosts) ∙ ap (stamp_at nodes) here))
        ∙ earliest_before (drop hosts nodes) (place - hosts)
  ]

  pub top_is_earliest : 0 < hosts → stamp_at nodes 1 ≡ earliest (drop hosts nodes)
  top_is_earliest some =
      let none_before = λ (host : ℕ) (there : host < length (drop hosts nodes)).
      ap (λ x. is_before x (stamp_at nodes 1)) (leaf host) ∙ below_top (hosts + host) (hosts + host) (omega arith) (omega arith) (omega (arith, tree.size, length-drop hosts nodes)) in
      sym (earliest_is (drop hosts nodes) (stamp_at nodes 1) none_before (above_leaves (hosts + hosts) 1 (omega arith) (omega arith) (omega arith)))

  -- and it is noted for its host
  pub earliest_leaf : (stamp : Stamp) → earliest (drop hosts nodes) ≡ Some stamp → stamp_at (drop hosts nodes) stamp.host ≡ Some stamp
  earliest_leaf stamp first = earliest_own (drop hosts nodes) own stamp first
    where
      own : (host : ℕ) → host < length (drop hosts nodes) → IfSome (stamp_at (drop hosts nodes) host) (λ (s : Stamp). s.host ≡ host)
      own host there = subst (λ (x : Option Stamp). IfSome x (λ (s : Stamp). s.host ≡ host)) (sym (leaf host)) (tree.own host (omega (arith, tree.size, length-drop hosts nodes)))

-- each place before the leaves but one has won
pub record HaveWonBut (hosts : ℕ) (nodes : List (Option Stamp)) (one : ℕ) : Type 0 where
  pub won : (place : ℕ) → 0 < place → place < hosts → place ≢ one → stamp_at nodes place ≡ earlier_of (stamp_at nodes (place + place)) (stamp_at nodes (place + place + 1))

-- once one is what its two say, all but the one above it have
pub played_again : (hosts : ℕ) (nodes : List (Option Stamp)) (one : ℕ) (winner : Option Stamp) → HaveWonBut hosts nodes one → 0 < one → one < length nodes → (one < hosts → winner ≡ earlier_of (stamp_at nodes (one + one)) (stamp_at nodes (one + one + 1))) → HaveWonBut hosts (slice_set nodes one winner) (one / 2)
played_again hosts nodes one winner others some there wins = record { won = λ place higher inner apart. at_place place higher inner apart (eqb_tells place one) }
  where
    same : (place : ℕ) → place ≢ one → stamp_at (slice_set nodes one winner) place ≡ stamp_at nodes place
    same place apart = get_or-set_other nodes one place winner None apart

    below : (place : ℕ) → place ≢ one / 2 → earlier_of (stamp_at (slice_set nodes one winner) (place + place)) (stamp_at (slice_set nodes one winner) (place + place + 1)) ≡ earlier_of (stamp_at nodes (place + place)) (stamp_at nodes (place + place + 1))
    below place apart = rw (same (place + place) (λ e. apart (omega (arith, e))), same (place + place + 1) (λ e. apart (omega (arith, e)))) refl

    at_place : (place : ℕ) → 0 < place → place < hosts → place ≢ one / 2 → (((place == one) ≡ true) × (place ≡ one)) ⊎ (((place == one) ≡ false) × (place ≢ one)) → stamp_at (slice_set nodes one winner) place ≡ earlier_of (stamp_at (slice_set nodes one winner) (place + place)) (stamp_at (slice_set nodes one winner) (place + place + 1))
    at_place place higher inner apart (inl here) =
        ap (stamp_at (slice_set nodes one winner)) here.1 ∙ get_or-set_same nodes one winner None there ∙ wins (omega arith)
        ∙ ap (λ (p : ℕ). earlier_of (stamp_at nodes (p + p)) (stamp_at nodes (p + p + 1))) (sym here.1) ∙ sym (below place apart)
    at_place place higher inner apart (inr other) = same place other.1 ∙ others.won place higher inner other.1 ∙ sym (below place apart)

module _ (hosts : ℕ) (nodes : List (Option Stamp)) (tree : IsTree hosts nodes) (shown : List (Option Stamp)) (view : drop hosts nodes ≡ shown) (read : Option Stamp) (is : read ≡ slice_index_or nodes 1 read) (some : 0 < hosts) where
  pub reads_earliest : read ≡ earliest shown
  reads_earliest = is ∙ get_or_default nodes 1 read None (omega (arith, tree.size)) ∙ top_is_earliest hosts nodes tree some ∙ ap earliest view

  pub reads_own : IfSome read (λ (s : Stamp). stamp_at shown s.host ≡ Some s)
  reads_own = of_read read (reads_earliest ∙ ap earliest (sym view))
    where
      of_read : (first : Option Stamp) → first ≡ earliest (drop hosts nodes) → IfSome first (λ (s : Stamp). stamp_at shown s.host ≡ Some s)
      of_read None first_is = tt
      of_read (Some s) first_is = ap (λ (stamps : List (Option Stamp)). stamp_at stamps s.host) (sym view) ∙ earliest_leaf hosts nodes tree s (sym first_is)
