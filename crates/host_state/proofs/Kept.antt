-- What the list of idle connections has at a number, after an edit.
use Rattle.std.proofs.Common.{◌≡◌, ℕ, zero, suc, ◌+◌, ◌-◌, ◌<◌, ◌≤◌, true, false, ◌||◌, List, [], ◌∷◌, length, get_or, Some, None, is_some, refl, sym, ap, subst, inl, inr, ◌∙◌, arith}
use Rattle.std.specs.Prelude.{◌==◌, if◌then◌else◌}
use Rattle.std.specs.List.{insert, remove}
use Rattle.std.specs.Option.{option_map}
use Rattle.std.proofs.lemmas.Bool.{cases_eq, cases_lt}
use Rattle.std.proofs.lemmas.Bool.Decides.{nat_tests, eqb_tells}
use Rattle.std.proofs.lemmas.List.Edits.{length-insert, get_or-insert_below, get_or-insert_at, get_or-insert_above, length-remove, get_or-remove_below, get_or-remove_above}
use Rattle.conn_log.specs.Connections.{is_among}
use Rattle.conn_log.specs.Sound.{AreDistinct}
use Rattle.conn_log.proofs.Numbers.{parted}
use Rattle.host_state.specs.declared.idle.Idle.{Idle}
use Rattle.host_state.specs.Idle.{find_number, numbers, streams_of, stream_of, is_before, item_before, AreInOrder, IsPlaceFor}

module _ {S : Type 0} where
  -- a number is found where it is among the numbers
  pub is_some-find_number : (idle : List (Idle S)) (c : ℕ) → is_some (find_number idle c) ≡ is_among c (numbers idle)
  is_some-find_number [] c = refl
  is_some-find_number (x ∷ idle) c = grind (arith, nat_tests, is_some-find_number idle c)

  pub not_found : (idle : List (Idle S)) (c : ℕ) → is_among c (numbers idle) ≡ false → find_number idle c ≡ None
  not_found idle c out = grind (arith, is_some-find_number idle c, out)

  pub find_number-insert : (idle : List (Idle S)) (place : ℕ) (x : Idle S) (c : ℕ) → find_number idle x.number ≡ None → find_number (insert idle place x) c ≡ (if x.number == c then Some x else find_number idle c)
  find_number-insert idle zero x c new = refl
  find_number-insert [] (suc place) x c new = refl
  find_number-insert (y ∷ idle) (suc place) x c new =
      let apart : (y.number == x.number) ≡ false = grind (arith, nat_tests, new) in
      let rest_new : find_number idle x.number ≡ None = grind (arith, nat_tests, new, apart) in
      grind (arith, nat_tests, apart, find_number-insert idle place x c rest_new)

  -- the number at a place is among the numbers
  pub among_place : (idle : List (Idle S)) (place : ℕ) (d : Idle S) → place < length idle → (let x = get_or idle place d in is_among x.number (numbers idle)) ≡ true
  among_place [] place d within = absurd (omega (arith, within))
  among_place (x ∷ idle) zero d within = grind (arith, nat_tests)
  among_place (x ∷ idle) (suc place) d within = grind (arith, nat_tests, among_place idle place d (omega (arith, within)))

  pub find_number-remove : (idle : List (Idle S)) (place : ℕ) (d : Idle S) (c : ℕ) → AreDistinct (numbers idle) → place < length idle → find_number (remove idle place) c ≡ (let x = get_or idle place d in if x.number == c then None else find_number idle c)
  find_number-remove [] place d c distinct within = absurd (omega (arith, within))
  find_number-remove (x ∷ idle) zero d c distinct within = elim (eqb_tells x.number c) [
    | inl same ↦ rw same.0 (not_found idle c (subst (λ (n : ℕ). is_among n (numbers idle) ≡ false) same.1 distinct.0))
    | inr other ↦ rw other.0 refl
  ]
  find_number-remove (x ∷ idle) (suc place) d c distinct within =
      let rest = find_number-remove idle place d c distinct.1 (omega (arith, within)) in
      let y = get_or idle place d in
      let apart : (x.number == y.number) ≡ false = parted x.number y.number (numbers idle) distinct.0 (among_place idle place d (omega (arith, within))) in
      grind (arith, nat_tests, rest, apart)

  -- the one at a place is found under its number
  pub find_number_place : (idle : List (Idle S)) (place : ℕ) (d : Idle S) → AreDistinct (numbers idle) → place < length idle → (let x = get_or idle place d in find_number idle x.number ≡ Some x)
  find_number_place [] place d distinct within = absurd (omega (arith, within))
  find_number_place (x ∷ idle) zero d distinct within = grind (arith, nat_tests)
  find_number_place (x ∷ idle) (suc place) d distinct within =
      let there = among_place idle place d (omega (arith, within)) in
      let rest = find_number_place idle place d distinct.1 (omega (arith, within)) in
      let y = get_or idle place d in
      let apart : (x.number == y.number) ≡ false = parted x.number y.number (numbers idle) distinct.0 there in
      rw apart rest

  -- where one is found
  pub place_of : (idle : List (Idle S)) (c : ℕ) (x : Idle S) → find_number idle c ≡ Some x → (k : ℕ) × (k < length idle) × (x ≡ get_or idle k x) × (x.number ≡ c)
  place_of [] c x is = absurd (cc)
  place_of (y ∷ idle) c x is = elim (eqb_tells y.number c) [
    | inl same ↦
        let it : Some y ≡ Some x = rw same.0 at is in
        let here : y ≡ x = cc in
        (0, omega arith, sym here, sym (ap (λ (z : Idle S). z.number) here) ∙ same.1)
    | inr other ↦
        let it : find_number idle c ≡ Some x = rw other.0 at is in
        let rest = place_of idle c x it in
        (suc rest.0, omega (arith, rest.1), rest.2, rest.3)
  ]

  -- numbers stand once after an edit
  among-insert : (idle : List (Idle S)) (place : ℕ) (x : Idle S) (c : ℕ) → is_among c (numbers (insert idle place x)) ≡ ((x.number == c) || is_among c (numbers idle))
  among-insert idle zero x c = refl
  among-insert [] (suc place) x c = refl
  among-insert (y ∷ idle) (suc place) x c = grind (arith, nat_tests, among-insert idle place x c)

  pub distinct-insert : (idle : List (Idle S)) (place : ℕ) (x : Idle S) → AreDistinct (numbers idle) → is_among x.number (numbers idle) ≡ false → AreDistinct (numbers (insert idle place x))
  distinct-insert idle zero x distinct new = (new, distinct)
  distinct-insert [] (suc place) x distinct new = (refl, tt)
  distinct-insert (y ∷ idle) (suc place) x distinct new =
      (grind (arith, nat_tests, among-insert idle place x y.number, distinct.0, new), distinct-insert idle place x distinct.1 (grind (arith, nat_tests, new)))

  among-remove : (idle : List (Idle S)) (place c : ℕ) → is_among c (numbers idle) ≡ false → is_among c (numbers (remove idle place)) ≡ false
  among-remove [] zero c out = refl
  among-remove [] (suc place) c out = refl
  among-remove (x ∷ idle) zero c out = grind (arith, nat_tests, out)
  among-remove (x ∷ idle) (suc place) c out = grind (arith, nat_tests, out, λ (h : is_among c (numbers idle) ≡ false). among-remove idle place c h)

  pub distinct-remove : (idle : List (Idle S)) (place : ℕ) → AreDistinct (numbers idle) → AreDistinct (numbers (remove idle place))
  distinct-remove [] zero distinct = tt
  distinct-remove [] (suc place) distinct = tt
  distinct-remove (x ∷ idle) zero distinct = distinct.1
  distinct-remove (x ∷ idle) (suc place) distinct = (among-remove idle place x.number distinct.0, distinct-remove idle place distinct.1)

  -- a stream stands under the number of its connection
  pub stream_of-streams_of : (idle : List (Idle S)) (c : ℕ) → stream_of (streams_of idle) c ≡ option_map (λ (x : Idle S). x.stream) (find_number idle c)
  stream_of-streams_of [] c = refl
  stream_of-streams_of (x ∷ idle) c = elim (eqb_tells x.number c) [
    | inl same ↦ rw same.0 refl
    | inr other ↦ rw other.0 (stream_of-streams_of idle c)
  ]

  -- two that stand in order in one list stand so in another
  order_at : (xs ys : List (Idle S)) (d : Idle S) (i j k l : ℕ) → get_or ys i d ≡ get_or xs k d → get_or ys j d ≡ get_or xs l d → AreInOrder xs → k < l → l < length xs → item_before (get_or ys i d) (get_or ys j d) ≡ true
  order_at xs ys d i j k l ei ej ordered lt range = rw (ei, ej) (ordered k l d lt range)

  -- a new one goes before those that do not go before it
  new_before : (x y : Idle S) → (x.number == y.number) ≡ false → is_before y.since y.number x.since x.number ≡ false → item_before x y ≡ true
  new_before x y apart after = grind (arith, nat_tests, apart, after)

  -- the order after an edit
  pub order-remove : (idle : List (Idle S)) (place : ℕ) → place < length idle → AreInOrder idle → AreInOrder (remove idle place)
  order-remove idle place within ordered i j d lt range =
      let shorter = length-remove idle place within in
      let below = λ (k : ℕ) (h : k < place). get_or-remove_below idle place d k h within in
      let above = λ (k : ℕ) (h : place ≤ k). get_or-remove_above idle place d k h within in
      elim (cases_lt j place) [
        | inl j_below ↦ order_at idle (remove idle place) d i j i j (below i (omega arith)) (below j j_below) ordered lt (omega arith)
        | inr j_above ↦ elim (cases_lt i place) [
          | inl i_below ↦ order_at idle (remove idle place) d i j i (j + 1) (below i i_below) (above j j_above) ordered (omega arith) (omega arith)
          | inr i_above ↦ order_at idle (remove idle place) d i j (i + 1) (j + 1) (above i i_above) (above j j_above) ordered (omega arith) (omega arith)
        ]
      ]

  pub order-insert : (idle : List (Idle S)) (place : ℕ) (x : Idle S) → IsPlaceFor x.since x.number idle place → is_among x.number (numbers idle) ≡ false → AreInOrder idle → AreInOrder (insert idle place x)
  order-insert idle place x fits new ordered i j d lt range =
      let ys = insert idle place x in
      let longer = length-insert idle place x fits.in_range in
      let below : (k : ℕ) → k < place → get_or ys k d ≡ get_or idle k d = λ k h. get_or-insert_below idle place x d k h fits.in_range in
      let here : (k : ℕ) → k ≡ place → get_or ys k d ≡ x = λ k h. ap (λ (n : ℕ). get_or ys n d) h ∙ get_or-insert_at idle place x d fits.in_range in
      let above : (k : ℕ) → place < k → get_or ys k d ≡ get_or idle (k - 1) d = λ k h. subst (λ (n : ℕ). get_or ys n d ≡ get_or idle (k - 1) d) {x = k - 1 + 1} (omega arith) (get_or-insert_above idle place x d (k - 1) (omega arith) fits.in_range) in
      elim (cases_lt j place) [
        | inl j_below ↦ order_at idle ys d i j i j (below i (omega arith)) (below j j_below) ordered lt (omega arith)
        | inr j_from ↦ elim (cases_eq j place) [
          | inl j_here ↦ rw (below i (omega arith), here j j_here) (fits.before i d (omega arith))
          | inr j_apart ↦ elim (cases_lt i place) [
            | inl i_below ↦ order_at idle ys d i j i (j - 1) (below i i_below) (above j (omega arith)) ordered (omega arith) (omega arith)
            | inr i_from ↦ elim (cases_eq i place) [
              | inl i_here ↦
                  let y = get_or idle (j - 1) d in
                  let apart = parted x.number y.number (numbers idle) new (among_place idle (j - 1) d (omega arith)) in
                  rw (here i i_here, above j (omega arith)) (new_before x y apart (fits.after (j - 1) d (omega arith) (omega arith)))
              | inr i_apart ↦ order_at idle ys d i j (i - 1) (j - 1) (above i (omega arith)) (above j (omega arith)) ordered (omega arith) (omega arith)
            ]
          ]
        ]
      ]

  -- streams after an edit
  pub stream_of-insert : (idle : List (Idle S)) (place : ℕ) (x : Idle S) (c : ℕ) → find_number idle x.number ≡ None → stream_of (streams_of (insert idle place x)) c ≡ (if x.number == c then Some x.stream else stream_of (streams_of idle) c)
  stream_of-insert idle place x c new = elim (eqb_tells x.number c) [
    | inl same ↦ rw same.0 (stream_of-streams_of (insert idle place x) c ∙ ap (option_map (λ (y : Idle S). y.stream)) (find_number-insert idle place x c new ∙ ap (λ b. if b then Some x else find_number idle c) same.0))
    | inr other ↦ rw other.0 (stream_of-streams_of (insert idle place x) c ∙ ap (option_map (λ (y : Idle S). y.stream)) (find_number-insert idle place x c new ∙ ap (λ b. if b then Some x else find_number idle c) other.0) ∙ sym (stream_of-streams_of idle c))
  ]

  pub stream_of-remove : (idle : List (Idle S)) (place : ℕ) (x : Idle S) (c : ℕ) → AreDistinct (numbers idle) → place < length idle → x ≡ get_or idle place x → (x.number == c) ≡ false → stream_of (streams_of (remove idle place)) c ≡ stream_of (streams_of idle) c
  stream_of-remove idle place x c distinct within is other =
      let number_is : (get_or idle place x).number ≡ x.number = sym (ap (λ (y : Idle S). y.number) is) in
      let found : find_number (remove idle place) c ≡ find_number idle c = find_number-remove idle place x c distinct within ∙ ap (λ (n : ℕ). if n == c then None else find_number idle c) number_is ∙ ap (λ b. if b then None else find_number idle c) other in
      stream_of-streams_of (remove idle place) c ∙ ap (option_map (λ (y : Idle S). y.stream)) found ∙ sym (stream_of-streams_of idle c)
