-- What each arm of giving a place answers, over the keys that stand in the table.
use Rattle.std.proofs.Common.{◌≡◌, ℕ, ◌<◌, ◌≤◌, Bool, true, false, List, [], ◌∷◌, ◌++◌, length, Option, Some, None, Result, Ok, Err, refl, sym, ap, subst, inl, inr, ◌∙◌, arith}
use Rattle.std.specs.List.{position}
use Rattle.std.specs.Prelude.{bytes_eq, slice_set}
use Rattle.std.specs.Result.{IfErr, IsErrAnd}
use Rattle.conn_key.specs.Hosts.{Hosts, place_of}
use Rattle.conn_key.specs.Giving.{Gives, Refuses, own, next, anew}
use Rattle.conn_key.specs.declared.place_table.PlaceError.{PlaceError}
use Rattle.conn_key.specs.declared.place_table.PlaceError.TheVariants.{Full, Memory}

abbrev pub hosts_of : List (List ℕ) → ℕ → Hosts
hosts_of keys places = record { keys = keys; places = places }

module _ (unused : ℕ → Bool) (keys : List (List ℕ)) (places : ℕ) (old : Hosts) (key : List ℕ) (found : Option ℕ) (view_is : hosts_of keys places ≡ old) (found_is : found ≡ position (bytes_eq key) keys) where
  pub gives_own : (place : ℕ) → found ≡ Some place → Gives unused old key place old
  gives_own place is = own (ap (λ (hosts : Hosts). place_of hosts key) (sym view_is) ∙ sym found_is ∙ is) refl

  module _ (none : found ≡ None) (given : ℕ) (size : length keys ≡ given) where
    absent : position (bytes_eq key) keys ≡ None
    absent = sym found_is ∙ none

    pub gives_next : (new_keys : List (List ℕ)) → given < places → new_keys ≡ keys ++ key ∷ [] → Gives unused old key given (hosts_of new_keys places)
    gives_next new_keys there new_is =
        subst (λ (hosts : Hosts). Gives unused hosts key given (hosts_of new_keys places)) view_is
        (next absent (sym size) there (ap (λ (ks : List (List ℕ)). hosts_of ks places) new_is))

    pub refuses_next : given < places → Refuses unused old key Memory
    refuses_next there = subst (λ (hosts : Hosts). Refuses unused hosts key Memory) view_is (absent, inl (omega (arith, size, there)))

    pub gives_anew : (new_keys : List (List ℕ)) (place : ℕ) → places ≤ given → length keys ≤ places → place < places → unused place ≡ true → new_keys ≡ slice_set keys place key
        → Gives unused old key place (hosts_of new_keys places)
    gives_anew new_keys place all few there is_unused new_is =
        subst (λ (hosts : Hosts). Gives unused hosts key place (hosts_of new_keys places)) view_is
        (anew absent (omega (arith, size, all, few)) there is_unused (ap (λ (ks : List (List ℕ)). hosts_of ks places) new_is))

    pub refuses_anew : (place : ℕ) → place < places → unused place ≡ true → Refuses unused old key Memory
    refuses_anew place there is_unused = subst (λ (hosts : Hosts). Refuses unused hosts key Memory) view_is (absent, inr (place, there, is_unused))

    pub refuses_full : places ≤ given → length keys ≤ places → ((place : ℕ) → place < places → unused place ≡ false) → Refuses unused old key Full
    refuses_full all few none_unused =
        subst (λ (hosts : Hosts). Refuses unused hosts key Full) view_is
        (absent, record { all_given = omega (arith, size, all, few); none_unused = none_unused })

-- an error that is Memory refuses as Memory does
pub refused_memory : {T : Type 0} (result : Result T PlaceError) (unused : ℕ → Bool) (old : Hosts) (key : List ℕ) → IsErrAnd result (λ (e : PlaceError). e ≡ Memory) → Refuses unused old key Memory
    → IfErr result (Refuses unused old key)
refused_memory (Ok x) unused old key is refuses = tt
refused_memory (Err e) unused old key is refuses = subst (Refuses unused old key) (sym is) refuses
