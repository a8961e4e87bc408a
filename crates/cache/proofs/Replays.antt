-- How a tournament tree is played again from a leaf up.
use Rattle.std.proofs.Common.{◌≡◌, ◌≢◌, ◌⊎◌, ℕ, ◌+◌, ◌/◌, ◌<◌, ◌≤◌, true, false, List, length, drop, slice_index_or, slice_set, Option, None, refl, sym, ap, subst, inl, inr, ◌∙◌, length-drop, length-set, arith}
use Rattle.std.specs.Option.{IfSome}
use Rattle.std.specs.Prelude.{◌==◌}
use Rattle.std.proofs.lemmas.Bool.Decides.{eqb_tells}
use Rattle.std.proofs.lemmas.List.{get_or_default, get_or-set_same, get_or-set_other, drop-set-lt, drop-set-add}
use Rattle.conn_log.specs.declared.stamp.Stamp.{Stamp}
use Rattle.cache.specs.Oldest.{earlier_of, stamp_at}
use Rattle.cache.specs.Trees.{IsTree}
use Rattle.cache.proofs.Tournaments.{HaveWonBut, played_again}

-- each leaf is of its own host
abbrev pub AreOwn : ℕ → List (Option Stamp) → Type 0
AreOwn hosts nodes = (host : ℕ) → host < hosts → IfSome (stamp_at nodes (hosts + host)) (λ (s : Stamp). s.host ≡ host)

-- it was played again up to this place, and these are the leaves
pub record IsReplayed (hosts : ℕ) (nodes : List (Option Stamp)) (place : ℕ) (leaves : List (Option Stamp)) : Type 0 where
  pub size : length nodes ≡ hosts + hosts
  pub some : 0 < place
  pub there : place < hosts + hosts
  pub others : HaveWonBut hosts nodes (place / 2)
  pub leaves_are : drop hosts nodes ≡ leaves
  pub own : AreOwn hosts nodes

own_but : (hosts : ℕ) (nodes : List (Option Stamp)) (place : ℕ) (winner : Option Stamp) → AreOwn hosts nodes → place < hosts → AreOwn hosts (slice_set nodes place winner)
own_but hosts nodes place winner own inner host there =
    subst (λ (x : Option Stamp). IfSome x (λ (s : Stamp). s.host ≡ host)) (sym (get_or-set_other nodes place (hosts + host) winner None (λ e. omega (arith, e)))) (own host there)

own_set : (hosts : ℕ) (nodes : List (Option Stamp)) (changed : ℕ) (stamp : Option Stamp) → length nodes ≡ hosts + hosts → AreOwn hosts nodes → changed < hosts → IfSome stamp (λ (s : Stamp). s.host ≡ changed) → AreOwn hosts (slice_set nodes (hosts + changed) stamp)
own_set hosts nodes changed stamp size own inner its_own host there = elim (eqb_tells host changed) [
  | inl same ↦
      let here : stamp_at (slice_set nodes (hosts + changed) stamp) (hosts + host) ≡ stamp = ap (λ (h : ℕ). stamp_at (slice_set nodes (hosts + changed) stamp) (hosts + h)) same.1 ∙ get_or-set_same nodes (hosts + changed) stamp None (omega arith) in
      subst (λ (x : Option Stamp). IfSome x (λ (s : Stamp). s.host ≡ host)) (sym here) (subst (λ (h : ℕ). IfSome stamp (λ (s : Stamp). s.host ≡ h)) (sym same.1) its_own)
  | inr other ↦ subst (λ (x : Option Stamp). IfSome x (λ (s : Stamp). s.host ≡ host)) (sym (get_or-set_other nodes (hosts + changed) (hosts + host) stamp None (λ e. other.1 (omega (arith, e))))) (own host there)
]

module _ (hosts : ℕ) (nodes : List (Option Stamp)) where
  -- a leaf changes
  pub begins : IsTree hosts nodes → (shown : List (Option Stamp)) → drop hosts nodes ≡ shown → (host : ℕ) → host < length shown → (stamp : Option Stamp) → IfSome stamp (λ (s : Stamp). s.host ≡ host) → IsReplayed hosts (slice_set nodes (hosts + host) stamp) (hosts + host) (slice_set shown host stamp)
  begins tree shown view host there stamp own =
      let few : host < hosts = omega (arith, tree.size, length-drop hosts nodes, ap length view) in
      record {
        size = length-set nodes (hosts + host) stamp ∙ tree.size;
        some = omega arith;
        there = omega arith;
        others = played_again hosts nodes (hosts + host) stamp (record { won = λ place higher inner apart. tree.won place higher inner }) (omega arith) (omega (arith, tree.size)) (λ inner. absurd (omega arith));
        leaves_are = drop-set-add hosts nodes host stamp ∙ ap (λ (leaves : List (Option Stamp)). slice_set leaves host stamp) view;
        own = own_set hosts nodes host stamp tree.size tree.own few own;
      }

  module _ (place : ℕ) (leaves : List (Option Stamp)) (replayed : IsReplayed hosts nodes place leaves) where
    -- it is whole where the place above has won too, or where there is none
    pub stops : (above : ℕ) → above ≡ place / 2 → (0 < above → stamp_at nodes above ≡ earlier_of (stamp_at nodes (above + above)) (stamp_at nodes (above + above + 1))) → IsTree hosts nodes
    stops above is wins = record {
      size = replayed.size;
      won = λ place_won higher inner. at_place place_won higher inner (eqb_tells place_won above);
      own = replayed.own;
    }
      where
        at_place : (p : ℕ) → 0 < p → p < hosts → (((p == above) ≡ true) × (p ≡ above)) ⊎ (((p == above) ≡ false) × (p ≢ above)) → stamp_at nodes p ≡ earlier_of (stamp_at nodes (p + p)) (stamp_at nodes (p + p + 1))
        at_place p higher inner (inl here) =
            ap (stamp_at nodes) here.1 ∙ wins (omega arith) ∙ ap (λ (q : ℕ). earlier_of (stamp_at nodes (q + q)) (stamp_at nodes (q + q + 1))) (sym here.1)
        at_place p higher inner (inr other) = replayed.others.won p higher inner (λ e. other.1 (omega (arith, e)))

    pub ends : place ≤ 1 → IsTree hosts nodes
    ends last = stops (place / 2) refl (λ higher. absurd (omega arith))

    module _ (upward : 1 < place) (left right winner : Option Stamp) (left_is : left ≡ slice_index_or nodes (place / 2 + place / 2) left) (right_is : right ≡ slice_index_or nodes (place / 2 + place / 2 + 1) right) (wins : winner ≡ earlier_of left right) where
      winner_is : winner ≡ earlier_of (stamp_at nodes (place / 2 + place / 2)) (stamp_at nodes (place / 2 + place / 2 + 1))
      winner_is =
          wins ∙ ap (λ x. earlier_of x right) (left_is ∙ get_or_default nodes (place / 2 + place / 2) left None (omega (arith, replayed.size, replayed.there)))
          ∙ ap (earlier_of (stamp_at nodes (place / 2 + place / 2))) (right_is ∙ get_or_default nodes (place / 2 + place / 2 + 1) right None (omega (arith, replayed.size, replayed.there)))

      -- the winner that stood there stays
      pub stops_early : (stood : Option Stamp) → stood ≡ slice_index_or nodes (place / 2) stood → stood ≡ winner → IsTree hosts nodes
      stops_early stood stood_is same =
          stops (place / 2) refl (λ higher. sym (stood_is ∙ get_or_default nodes (place / 2) stood None (omega (arith, replayed.size, replayed.there))) ∙ same ∙ winner_is)

      pub goes_on : IsReplayed hosts (slice_set nodes (place / 2) winner) (place / 2) leaves
      goes_on =
          let inner : place / 2 < hosts = omega (arith, replayed.there) in
          record {
            size = length-set nodes (place / 2) winner ∙ replayed.size;
            some = omega arith;
            there = omega arith;
            others = played_again hosts nodes (place / 2) winner replayed.others (omega arith) (omega (arith, replayed.size)) (λ below. winner_is);
            leaves_are = drop-set-lt hosts nodes (place / 2) winner inner ∙ replayed.leaves_are;
            own = own_but hosts nodes (place / 2) winner replayed.own inner;
          }
