-- What giving a place keeps.
use Rattle.std.proofs.Common.{◌≡◌, ◌≢◌, ◌⊎◌, ℕ, Bool, true, false, List, [], ◌∷◌, ◌++◌, get_or, slice_get, Some, refl, sym, ap, inl, inr, ◌∙◌, arith, get_or-set_other, length-set}
use Rattle.std.specs.List.{position}
use Rattle.std.specs.Prelude.{bytes_eq, slice_set}
use Rattle.std.proofs.lemmas.Bool.Decides.{eqb_tells}
use Rattle.std.proofs.lemmas.List.{get_or_append_left, length_push}
use Rattle.std.proofs.lemmas.List.Quantifiers.{position-Some}
use Rattle.std.proofs.lemmas.Option.{slice_get-get_or, slice_get_within, get_or_from_slice_get}
use Rattle.std.proofs.lemmas.Slice.Eq.{bytes_eq-Decides}
use Rattle.conn_key.specs.Hosts.{Hosts, place_of}
use Rattle.conn_key.specs.Giving.{own, next, anew}
use Rattle.conn_key.specs.Laws.{OnlyUnusedPlacesChange, HostIsFound, ConnectionsStayWithTheirHosts, ConnectionsAtAPlaceAreItsHosts}
use Rattle.conn_key.proofs.Positions.{position_push, position_set}

-- what stands in a list stands there once it has one more, and once another is changed
stands_push : (xs : List (List ℕ)) (y x : List ℕ) (i : ℕ) → slice_get xs i ≡ Some x → slice_get (xs ++ y ∷ []) i ≡ Some x
stands_push xs y x i stands =
    let there = slice_get_within xs i x stands in
    slice_get-get_or (xs ++ y ∷ []) i x (omega (arith, there, length_push xs y))
    ∙ ap Some (get_or_append_left xs (y ∷ []) x i there ∙ get_or_from_slice_get xs i x x stands)

stands_set : (xs : List (List ℕ)) (y x : List ℕ) (i other : ℕ) → other ≢ i → slice_get xs other ≡ Some x → slice_get (slice_set xs i y) other ≡ Some x
stands_set xs y x i other apart stands =
    let there = slice_get_within xs other x stands in
    slice_get-get_or (slice_set xs i y) other x (omega (arith, there, length-set xs i y))
    ∙ ap Some (get_or-set_other xs i other y x apart ∙ get_or_from_slice_get xs other x x stands)

pub only_unused_change : OnlyUnusedPlacesChange
only_unused_change unused old new key place gives other host stands = elim gives [
  | own is same ↦ inl (ap (λ (hosts : Hosts). slice_get hosts.keys other) same ∙ stands)
  | next none is there given ↦ inl (ap (λ (hosts : Hosts). slice_get hosts.keys other) given ∙ stands_push old.keys key host other stands)
  | anew none all there is_unused given ↦ elim (eqb_tells other place) [
    | inl same ↦ inr (ap unused same.1 ∙ is_unused)
    | inr apart ↦ inl (ap (λ (hosts : Hosts). slice_get hosts.keys other) given ∙ stands_set old.keys key host place other apart.1 stands)
  ]
]

-- a key is itself
is_itself : (key : List ℕ) → bytes_eq key key ≡ true
is_itself key = (bytes_eq-Decides key key).1 refl

pub host_is_found : HostIsFound
host_is_found unused old new key place gives = elim gives [
  | own is same ↦ ap (λ (hosts : Hosts). place_of hosts key) same ∙ is
  | next none is there given ↦
      ap (λ (hosts : Hosts). place_of hosts key) given ∙ position_push (bytes_eq key) old.keys key none (is_itself key) ∙ ap Some (sym is)
  | anew none all there is_unused given ↦
      ap (λ (hosts : Hosts). place_of hosts key) given ∙ position_set (bytes_eq key) old.keys place key none (is_itself key) (omega (arith, all))
]

kept_or_unused : (unused : ℕ → Bool) (new : Hosts) (place : ℕ) (host : List ℕ) → (slice_get new.keys place ≡ Some host) ⊎ (unused place ≡ true) → unused place ≡ false → slice_get new.keys place ≡ Some host
kept_or_unused unused new place host (inl kept) in_use = kept
kept_or_unused unused new place host (inr is_unused) in_use = absurd (cc)

pub connections_stay : ConnectionsStayWithTheirHosts
connections_stay unused old new key place gives connections theirs in_use k d there =
    kept_or_unused unused new (get_or connections k d).0 (get_or connections k d).1
    (only_unused_change unused old new key place gives (get_or connections k d).0 (get_or connections k d).1 (theirs k d there))
    (in_use k d there)

same_host : (keys : List (List ℕ)) (place : ℕ) (key host : List ℕ) → position (bytes_eq key) keys ≡ Some place → slice_get keys place ≡ Some host → host ≡ key
same_host keys place key host found stands =
    let at = position-Some (bytes_eq key) keys place host found in
    let here = get_or_from_slice_get keys place host host stands in
    sym ((bytes_eq-Decides key host).0 (ap (bytes_eq key) (sym here) ∙ at.1))

pub connections_are : ConnectionsAtAPlaceAreItsHosts
connections_are hosts key place found connections theirs k d there at_place =
    same_host hosts.keys place key (get_or connections k d).1 found
    (ap (slice_get hosts.keys) (sym at_place) ∙ theirs k d there)
