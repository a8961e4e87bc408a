-- Who holds what, once a connection is nobody's.
use Rattle.std.proofs.Common.{◌≡◌, ℕ, ◌+◌, ◌<◌, Bool, true, false, not, ◌&&◌, ◌||◌, List, [], ◌∷◌, length, get_or, take, reverse, map, filter, Option, Some, None, is_some, refl, sym, ap, inl, inr, ◌∙◌, arith}
use Rattle.std.specs.Prelude.{◌==◌, if◌then◌else◌}
use Rattle.std.specs.Option.{option_map}
use mathlib.Core.Bool.{false≢true}
use Rattle.std.proofs.lemmas.Bool.Decides.{nat_tests, eqb_tells}
use Rattle.persistence.specs.declared.facts.Facts.{Facts}
use Rattle.conn_log.specs.declared.entry.Want.{Want}
use Rattle.conn_log.specs.declared.entry.Cause.{Cause}
use Rattle.conn_log.specs.declared.entry.Event.{Event}
use Rattle.conn_log.specs.declared.entry.Event.TheVariants.{Opened, Leased, Returned, Closed, Waited, Left, Limit}
use Rattle.conn_log.specs.declared.entry.Entry.{Entry}
use Rattle.conn_log.specs.Connections.{is_among, Holding, connections_of, transfers_of, without_connection, holdings, want_among, holder_want, holder, number_among, held_number}
use Rattle.conn_log.specs.Sound.{AreDistinct}
use Rattle.conn_log.proofs.Logs.{reverse_take_more}
use Rattle.conn_log.proofs.Sorted.{told}
use Rattle.conn_log.proofs.Waits.{filter-filter}

-- none, where it is that one
abbrev pub unless_it_is : ℕ → Option ℕ → Option ℕ
unless_it_is c None = None
unless_it_is c (Some d) = if d == c then None else Some d

-- what a filter leaves has no number that was not there, and each once where each was there once
not_among-filter : {S : Type 0} (number : S → ℕ) (p : S → Bool) (t : ℕ) (xs : List S) → is_among t (map number xs) ≡ false → is_among t (map number (filter p xs)) ≡ false
not_among-filter number p t [] out = refl
not_among-filter number p t (x ∷ xs) out =
    let rest : is_among t (map number (filter p xs)) ≡ false = not_among-filter number p t xs (grind (arith, out)) in
    elim (told (p x)) [
      | inl passes ↦ rw passes (grind (arith, out, rest))
      | inr fails ↦ rw fails rest
    ]

distinct-map_filter : {S : Type 0} (number : S → ℕ) (p : S → Bool) (xs : List S) → AreDistinct (map number xs) → AreDistinct (map number (filter p xs))
distinct-map_filter number p [] distinct = tt
distinct-map_filter number p (x ∷ xs) distinct = elim (told (p x)) [
  | inl passes ↦ rw passes (not_among-filter number p (number x) xs distinct.0, distinct-map_filter number p xs distinct.1)
  | inr fails ↦ rw fails (distinct-map_filter number p xs distinct.1)
]

pub connections_without : (c : ℕ) (held : List Holding) → AreDistinct (connections_of held) → AreDistinct (connections_of (without_connection c held))
connections_without c held once = distinct-map_filter (λ (h : Holding). h.connection) (λ (h : Holding). not (h.connection == c)) held once

pub transfers_without : (c : ℕ) (held : List Holding) → AreDistinct (transfers_of held) → AreDistinct (transfers_of (without_connection c held))
transfers_without c held once = distinct-map_filter (λ (h : Holding). h.want.transfer) (λ (h : Holding). not (h.connection == c)) held once

-- who holds nothing is not among those that hold, and what nobody holds is not among what is held
pub free_not_among : (t : ℕ) (held : List Holding) → number_among held t ≡ None → is_among t (transfers_of held) ≡ false
free_not_among t [] free = refl
free_not_among t (h ∷ held) free = elim (eqb_tells h.want.transfer t) [
  | inl same ↦ absurd (some_none (sym (ap (λ b. if b then Some h.connection else number_among held t) same.0) ∙ free))
  | inr other ↦ rw other.0 (free_not_among t held (rw other.0 at free))
]
  where
    some_none : {n : ℕ} → Some n ≡ None → ⊥
    some_none is = false≢true (sym (ap is_some is))

pub not_among_free : (t : ℕ) (held : List Holding) → is_among t (transfers_of held) ≡ false → number_among held t ≡ None
not_among_free t [] out = refl
not_among_free t (h ∷ held) out = elim (eqb_tells h.want.transfer t) [
  | inl same ↦ absurd (false≢true (sym out ∙ ap (λ b. b || is_among t (transfers_of held)) same.0))
  | inr other ↦ rw other.0 (not_among_free t held (rw other.0 at out))
]

pub nobodys_not_among : (c : ℕ) (held : List Holding) → want_among held c ≡ None → is_among c (connections_of held) ≡ false
nobodys_not_among c [] none = refl
nobodys_not_among c (h ∷ held) none = elim (eqb_tells h.connection c) [
  | inl same ↦ absurd (some_none (sym (ap (λ b. if b then Some h.want else want_among held c) same.0) ∙ none))
  | inr other ↦ rw other.0 (nobodys_not_among c held (rw other.0 at none))
]
  where
    some_none : {want : Want} → Some want ≡ None → ⊥
    some_none is = false≢true (sym (ap is_some is))

-- who is among those that hold has a number
pub among_has_number : (t : ℕ) (held : List Holding) → is_among t (transfers_of held) ≡ is_some (number_among held t)
among_has_number t [] = refl
among_has_number t (h ∷ held) = elim (eqb_tells h.want.transfer t) [
  | inl same ↦ rw same.0 refl
  | inr other ↦ rw other.0 (among_has_number t held)
]

-- a connection is nobody's
pub want_without : (c d : ℕ) (held : List Holding) → want_among (without_connection c held) d ≡ (if c == d then None else want_among held d)
want_without c d [] = elim (told (c == d)) [ inl same ↦ rw same refl | inr other ↦ rw other refl ]
want_without c d (h ∷ held) = elim (eqb_tells h.connection c) [
  | inl mine ↦ rw mine.0 (want_without c d held ∙ elim (eqb_tells c d) [
    | inl here ↦ rw here.0 refl
    | inr other ↦
        let apart : (h.connection == d) ≡ false = grind (arith, nat_tests, mine.1, other.0) in
        rw (other.0, apart) refl
  ])
  | inr theirs ↦ rw theirs.0 (elim (eqb_tells c d) [
    | inl here ↦
        let apart : (h.connection == d) ≡ false = grind (arith, nat_tests, theirs.0, here.1) in
        rw apart (want_without c d held)
    | inr other ↦ rw other.0 (ap (λ found. if h.connection == d then Some h.want else found) (want_without c d held ∙ ap (λ b. if b then None else want_among held d) other.0))
  ])
]

-- and whoever held it holds nothing
pub number_without : (c t : ℕ) (held : List Holding) → AreDistinct (transfers_of held) → number_among (without_connection c held) t ≡ unless_it_is c (number_among held t)
number_without c t [] once = refl
number_without c t (h ∷ held) once = elim (eqb_tells h.want.transfer t) [
  | inl its ↦ elim (told (h.connection == c)) [
    | inl gone ↦
        let out : is_among t (transfers_of held) ≡ false = ap (λ n. is_among n (transfers_of held)) (sym its.1) ∙ once.0 in
        rw (gone, its.0) (number_without c t held once.1 ∙ ap (unless_it_is c) (not_among_free t held out) ∙ sym (ap (λ b. if b then None else Some h.connection) gone))
    | inr stays ↦ rw (stays, its.0) (sym (ap (λ b. if b then None else Some h.connection) stays))
  ]
  | inr other ↦ elim (told (h.connection == c)) [
    | inl gone ↦ rw (gone, other.0) (number_without c t held once.1)
    | inr stays ↦ rw (stays, other.0) (number_without c t held once.1)
  ]
]

-- without it once is without it twice
pub without_twice : (c : ℕ) (held : List Holding) → without_connection c (without_connection c held) ≡ without_connection c held
without_twice c held = filter-filter (λ (h : Holding). not (h.connection == c)) (λ (h : Holding). not (h.connection == c)) (λ (h : Holding). not (h.connection == c)) (λ h. both (not (h.connection == c))) held
  where
    both : (b : Bool) → b ≡ (b && b)
    both true = refl
    both false = refl

-- after an entry by which a connection is nobody's
pub holder_returned : (moment c : ℕ) (facts : Facts) (log : List Entry) (d : ℕ) → holder_want (record { moment = moment; event = Returned c facts } ∷ log) d ≡ (if c == d then None else holder_want log d)
holder_returned moment c facts log d = want_without c d (holdings log)

pub holder_closed : (moment c : ℕ) (cause : Cause) (log : List Entry) (d : ℕ) → holder_want (record { moment = moment; event = Closed c cause } ∷ log) d ≡ (if c == d then None else holder_want log d)
holder_closed moment c cause log d = want_without c d (holdings log)

pub number_returned : (moment c : ℕ) (facts : Facts) (log : List Entry) (t : ℕ) → AreDistinct (transfers_of (holdings log)) → held_number (record { moment = moment; event = Returned c facts } ∷ log) t ≡ unless_it_is c (held_number log t)
number_returned moment c facts log t once = number_without c t (holdings log) once

pub number_closed : (moment c : ℕ) (cause : Cause) (log : List Entry) (t : ℕ) → AreDistinct (transfers_of (holdings log)) → held_number (record { moment = moment; event = Closed c cause } ∷ log) t ≡ unless_it_is c (held_number log t)
number_closed moment c cause log t once = number_without c t (holdings log) once

-- the holder after one more entry
abbrev pub holder_after : Event → ℕ → Option ℕ → Option ℕ
holder_after (Opened d want) c before = if d == c then Some want.transfer else before
holder_after (Leased d want) c before = if d == c then Some want.transfer else before
holder_after (Returned d facts) c before = if d == c then None else before
holder_after (Closed d cause) c before = if d == c then None else before
holder_after _ c before = before

pub holder_more : (moment : ℕ) (event : Event) (c : ℕ) (log : List Entry) → holder (record { moment = moment; event = event } ∷ log) c ≡ holder_after event c (holder log c)
holder_more moment (Opened d want) c log = started (d == c)
  where
    started : (b : Bool) → option_map (λ (w : Want). w.transfer) (if b then Some want else holder_want log c) ≡ (if b then Some want.transfer else holder log c)
    started true = refl
    started false = refl
holder_more moment (Leased d want) c log = started (d == c)
  where
    started : (b : Bool) → option_map (λ (w : Want). w.transfer) (if b then Some want else holder_want log c) ≡ (if b then Some want.transfer else holder log c)
    started true = refl
    started false = refl
holder_more moment (Returned d facts) c log = ap (option_map (λ (w : Want). w.transfer)) (want_without d c (holdings log)) ∙ ended (d == c)
  where
    ended : (b : Bool) → option_map (λ (w : Want). w.transfer) (if b then None else holder_want log c) ≡ (if b then None else holder log c)
    ended true = refl
    ended false = refl
holder_more moment (Closed d cause) c log = ap (option_map (λ (w : Want). w.transfer)) (want_without d c (holdings log)) ∙ ended (d == c)
  where
    ended : (b : Bool) → option_map (λ (w : Want). w.transfer) (if b then None else holder_want log c) ≡ (if b then None else holder log c)
    ended true = refl
    ended false = refl
holder_more moment (Waited want) c log = refl
holder_more moment (Left transfer) c log = refl
holder_more moment (Limit n) c log = refl

pub holder_of_more : (xs : List Entry) (i c : ℕ) (d : Entry) → i < length xs → holder (reverse (take (i + 1) xs)) c ≡ holder_after (get_or xs i d).event c (holder (reverse (take i xs)) c)
holder_of_more xs i c d below = ap (λ front. holder front c) (reverse_take_more xs i d below) ∙ holder_more (get_or xs i d).moment (get_or xs i d).event c (reverse (take i xs))
