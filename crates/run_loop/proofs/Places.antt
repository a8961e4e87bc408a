-- The transfers that stand in the places of a slab, where one place changes.
use Rattle.std.proofs.Common.{◌≡◌, refl, sym, subst, ap, ◌∙◌, ℕ, zero, suc, ◌⊎◌, inl, inr, List, [], ◌∷◌, ◌++◌, length, set, slice_get, Option, Some, None}
use Rattle.std.proofs.lemmas.List.{append-nil}
use Rattle.std.proofs.lemmas.List.Elements.{filter_map-append}
use Rattle.std.proofs.lemmas.Option.{same_Some}
use Rattle.exchange.specs.Transfers.{TransferShown}
use Rattle.transfer_slab.specs.Slabs.{transfers_in}

-- the transfers in front of a place and behind it, where a transfer stands there, where another stands there, and where
-- none does
pub record StandsBetween {W : Type 0} (slots : List (Option (TransferShown W))) (place : ℕ) (t : TransferShown W) : Type 0 where
  pub front : List (TransferShown W)
  pub back : List (TransferShown W)
  pub whole : transfers_in slots ≡ front ++ t ∷ back
  pub with : (next : TransferShown W) → transfers_in (set slots place (Some next)) ≡ front ++ next ∷ back
  pub without : transfers_in (set slots place None) ≡ front ++ back

pub stands_between : {W : Type 0} (slots : List (Option (TransferShown W))) (place : ℕ) (t : TransferShown W) → slice_get slots place ≡ Some (Some t) → StandsBetween slots place t
stands_between [] place t is = cc
stands_between (None ∷ slots) zero t is = cc
stands_between {W} (Some u ∷ slots) zero t is =
    let same : u ≡ t = same_Some u t (same_Some (Some u) (Some t) is) in
    record { front = []; back = transfers_in slots; whole = ap (λ (v : TransferShown W). v ∷ transfers_in slots) same; with = λ next. refl; without = refl }
stands_between (None ∷ slots) (suc place) t is =
    let rest = stands_between slots place t is in
    record { front = rest.front; back = rest.back; whole = rest.whole; with = rest.with; without = rest.without }
stands_between {W} (Some u ∷ slots) (suc place) t is =
    let rest = stands_between slots place t is in
    record {
      front = u ∷ rest.front;
      back = rest.back;
      whole = ap (λ (l : List (TransferShown W)). u ∷ l) rest.whole;
      with = λ next. ap (λ (l : List (TransferShown W)). u ∷ l) (rest.with next);
      without = ap (λ (l : List (TransferShown W)). u ∷ l) rest.without;
    }

-- the transfers in front of a place and behind it, where a transfer comes to stand there
pub record ComesBetween {W : Type 0} (slots more : List (Option (TransferShown W))) (t : TransferShown W) : Type 0 where
  pub front : List (TransferShown W)
  pub back : List (TransferShown W)
  pub before : transfers_in slots ≡ front ++ back
  pub after : transfers_in more ≡ front ++ t ∷ back

comes_at : {W : Type 0} (slots : List (Option (TransferShown W))) (place : ℕ) (t : TransferShown W) → slice_get slots place ≡ Some None → ComesBetween slots (set slots place (Some t)) t
comes_at [] place t is = cc
comes_at (None ∷ slots) zero t is = record { front = []; back = transfers_in slots; before = refl; after = refl }
comes_at (Some u ∷ slots) zero t is = cc
comes_at (None ∷ slots) (suc place) t is =
    let rest = comes_at slots place t is in
    record { front = rest.front; back = rest.back; before = rest.before; after = rest.after }
comes_at {W} (Some u ∷ slots) (suc place) t is =
    let rest = comes_at slots place t is in
    record {
      front = u ∷ rest.front;
      back = rest.back;
      before = ap (λ (l : List (TransferShown W)). u ∷ l) rest.before;
      after = ap (λ (l : List (TransferShown W)). u ∷ l) rest.after;
    }

-- at a place where none stood, or behind all others
pub comes_between : {W : Type 0} (slots more : List (Option (TransferShown W))) (t : TransferShown W) (place : ℕ) → ((slice_get slots place ≡ Some None) × (more ≡ set slots place (Some t))) ⊎ ((place ≡ length slots) × (more ≡ slots ++ (Some t ∷ []))) → ComesBetween slots more t
comes_between slots more t place (inl at) = subst (λ (l : List (Option (TransferShown _))). ComesBetween slots l t) (sym at.1) (comes_at slots place t at.0)
comes_between slots more t place (inr last) = record {
  front = transfers_in slots;
  back = [];
  before = sym (append-nil (transfers_in slots));
  after = ap transfers_in last.1 ∙ filter_map-append (λ slot. slot) slots (Some t ∷ []);
}
