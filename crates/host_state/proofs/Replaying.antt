-- What the state tells of its log.
use Rattle.std.proofs.Common.{◌≡◌, ℕ, ◌-◌, ◌<◌, Bool, true, false, ◌&&◌, List, length, filter, take, get_or, AllPairs, Option, Some, None, is_some, is_none, refl, sym, ap, subst, ◌∙◌, arith}
use Rattle.std.specs.Prelude.{◌==◌, if◌then◌else◌}
use Rattle.std.specs.Option.{option_map}
use mathlib.Core.Bool.{false≢true}
use Rattle.std.proofs.lemmas.Bool.Decides.{nat_tests}
use Rattle.std.proofs.lemmas.List.{get_or_default, take-map}
use Rattle.conn_log.specs.declared.entry.Want.{Want}
use Rattle.conn_log.specs.declared.entry.Entry.{Entry}
use Rattle.conn_log.specs.Connections.{is_among, open_connections, is_idle, is_held_by, holds, holder_want, held_number, born, since, lane, came_back_persistent}
use Rattle.conn_log.specs.Fit.{is_older, is_idle_longer, idle_in_order, suits, newest_fit, is_too_old_in_lane, oldest_too_old, oldest, oldest_stamp}
use Rattle.conn_log.specs.Legal.{LimitAndFirst}
use Rattle.conn_log.specs.Sound.{has_number, IdleFacts, HeldFacts, facts_if_idle, facts_if_held, held_facts}
use Rattle.conn_log.proofs.Steps.{idle_open_unheld}
use Rattle.conn_log.proofs.Soundness.{holds_is}
use Rattle.conn_log.proofs.Firsts.{newest_is, newest_none, none_too_old, oldest_is}
use Rattle.conn_log.proofs.Sorted.{in_order_by_pairs}
use Rattle.conn_log.proofs.Order.{idle_in_order_is}
use Rattle.host_state.specs.declared.closing.Closing.{Closing}
use Rattle.host_state.specs.declared.closing.Closing.TheVariants.{TooOld, Pruned, Above}
use Rattle.host_state.specs.declared.idle.Idle.{Idle}
use Rattle.host_state.specs.declared.held.Held.{Held}
use Rattle.host_state.specs.Steps.{picked}
use Rattle.host_state.specs.Idle.{find_number, numbers, facts_of_idle, item_before, item_suits, item_too_old, item_older, picked_items, LastSuits, NoneSuits, NoneTooOld}
use Rattle.host_state.specs.State.{Replays, facts_of_held, is_that}
use Rattle.host_state.proofs.Kept.{is_some-find_number, find_number_place, place_of}
use Rattle.host_state.proofs.Picking.{filter_numbers}

-- two options that agree in a view are there alike
some_alike : {A B C : Type 0} (f : A → C) (h : B → C) (a : Option A) (b : Option B) → option_map f a ≡ option_map h b → is_some a ≡ is_some b
some_alike f h None None e = refl
some_alike f h None (Some y) e = absurd (cc)
some_alike f h (Some x) None e = absurd (cc)
some_alike f h (Some x) (Some y) e = refl

same_parts : (n l b k m a : ℕ) (f g : Bool) → n ≡ k → l ≡ m → b ≡ a → f ≡ g → (let first : Held = record { number = n; lane = l; born = b; forbids_reuse = f } in let second : Held = record { number = k; lane = m; born = a; forbids_reuse = g } in first ≡ second)
same_parts n l b k m a f g e1 e2 e3 e4 = cc

module _ {S : Type 0} {settings : LimitAndFirst} {log : List Entry} {greatest_used : ℕ} {idle : List (Idle S)} {held : ℕ → Option Held} {held_len : ℕ} (r : Replays {S = S} settings log greatest_used idle held held_len) where
  -- who holds
  pub table_holds : (transfer : ℕ) → is_some (held transfer) ≡ holds log transfer
  table_holds transfer =
      some_alike facts_of_held (facts_if_held log) (held transfer) (held_number log transfer) (r.held_at transfer) ∙ sym (holds_is settings log r.sound.orderly transfer)

  pub table_numbered : (transfer : ℕ) → is_some (held transfer) ≡ is_some (held_number log transfer)
  table_numbered transfer = some_alike facts_of_held (facts_if_held log) (held transfer) (held_number log transfer) (r.held_at transfer)

  pub table_some : (transfer : ℕ) (h : Held) → held transfer ≡ Some h → held_facts log transfer ≡ Some (facts_of_held h)
  table_some transfer h is = sym (r.held_at transfer) ∙ ap (option_map facts_of_held) is

  pub table_number : (transfer : ℕ) (h : Held) → held transfer ≡ Some h → held_number log transfer ≡ Some h.number
  table_number transfer h is = number_of (held_number log transfer) (table_some transfer h is)
    where
      number_of : (n : Option ℕ) → option_map (facts_if_held log) n ≡ Some (facts_of_held h) → n ≡ Some h.number
      number_of None e = absurd (cc)
      number_of (Some c) e =
          let facts : facts_if_held log c ≡ facts_of_held h = cc in
          ap Some (ap (λ (f : HeldFacts). f.number) facts)

  pub table_none : (transfer c : ℕ) → held transfer ≡ None → is_held_by log transfer c ≡ false
  table_none transfer c is =
      let nothing : is_some (held_number log transfer) ≡ false = sym (some_alike facts_of_held (facts_if_held log) (held transfer) (held_number log transfer) (r.held_at transfer)) ∙ ap is_some is in
      r.sound.orderly.held_once c transfer ∙ none_there (held_number log transfer) nothing
    where
      none_there : (n : Option ℕ) → is_some n ≡ false → has_number n c ≡ false
      none_there None e = refl
      none_there (Some d) e = absurd (cc)

  pub table_other : (transfer c : ℕ) (h : Held) → held transfer ≡ Some h → (h.number == c) ≡ false → is_held_by log transfer c ≡ false
  table_other transfer c h is other = r.sound.orderly.held_once c transfer ∙ ap (λ n. has_number n c) (table_number transfer h is) ∙ other

  pub table_strange : (transfer c : ℕ) → is_that c (held transfer) ≡ false → is_held_by log transfer c ≡ false
  table_strange transfer c none = by_entry (held transfer) refl none
    where
      by_entry : (x : Option Held) → held transfer ≡ x → is_that c x ≡ false → is_held_by log transfer c ≡ false
      by_entry None is e = table_none transfer c is
      by_entry (Some h) is e = table_other transfer c h is e

  pub table_held : (transfer : ℕ) (h : Held) → held transfer ≡ Some h → is_held_by log transfer h.number ≡ true
  table_held transfer h is = r.sound.orderly.held_once h.number transfer ∙ ap (λ n. has_number n h.number) (table_number transfer h is) ∙ grind (arith, nat_tests)

  -- what the log shows of a held connection stands in the table
  pub table_from_log : (transfer : ℕ) (h : Held) → held_facts log transfer ≡ Some (facts_of_held h) → held transfer ≡ Some h
  table_from_log transfer h shown = same_held (held transfer) (r.held_at transfer ∙ shown)
    where
      same_held : (x : Option Held) → option_map facts_of_held x ≡ Some (facts_of_held h) → x ≡ Some h
      same_held None e = absurd (cc)
      same_held (Some k) e =
          let same : facts_of_held k ≡ facts_of_held h = cc in
          let n = ap (λ (f : HeldFacts). f.number) same in
          let l = ap (λ (f : HeldFacts). f.lane) same in
          let b = ap (λ (f : HeldFacts). f.born) same in
          let f = ap (λ (f : HeldFacts). f.forbids_reuse) same in
          ap Some (same_parts k.number k.lane k.born h.number h.lane h.born k.forbids_reuse h.forbids_reuse n l b f)

  -- what is idle
  pub found_idle : (c : ℕ) (x : Idle S) → find_number idle c ≡ Some x → (is_idle log c ≡ true) × (facts_of_idle x ≡ facts_if_idle log c)
  found_idle c x is = told (is_idle log c) (sym (ap (option_map facts_of_idle) is) ∙ r.idle_at c)
    where
      told : (b : Bool) → Some (facts_of_idle x) ≡ (if b then Some (facts_if_idle log c) else None) → (b ≡ true) × (facts_of_idle x ≡ facts_if_idle log c)
      told true e = (refl, cc)
      told false e = absurd (cc)

  pub idle_found : (c : ℕ) → is_idle log c ≡ true → (x : Idle S) × (find_number idle c ≡ Some x)
  idle_found c is = seen (find_number idle c) refl (r.idle_at c ∙ ap (λ (b : Bool). if b then Some (facts_if_idle log c) else None) is)
    where
      seen : (f : Option (Idle S)) → find_number idle c ≡ f → option_map facts_of_idle f ≡ Some (facts_if_idle log c) → (x : Idle S) × (find_number idle c ≡ Some x)
      seen None e told = absurd (cc)
      seen (Some x) e told = (x, e)

  pub idle_nobodys : (x : Idle S) → find_number idle x.number ≡ Some x → holder_want log x.number ≡ None
  idle_nobodys x there =
      let open_unheld = idle_open_unheld log x.number (found_idle x.number x there).0 in
      nobody (holder_want log x.number) open_unheld.1
    where
      nobody : (w : Option Want) → is_none w ≡ true → w ≡ None
      nobody None e = refl
      nobody (Some v) e = absurd (cc)

  -- the one at a place
  pub at_place : (place : ℕ) (x : Idle S) → place < length idle → x ≡ get_or idle place x → find_number idle x.number ≡ Some x
  at_place place x within is = subst (λ (y : Idle S). find_number idle y.number ≡ Some y) (sym is) (find_number_place idle place x r.idle_distinct within)

  -- the order of places is that of the log
  pub order_told : (x y : Idle S) → find_number idle x.number ≡ Some x → find_number idle y.number ≡ Some y → item_before x y ≡ true → is_idle_longer log x.number y.number ≡ true
  order_told x y x_there y_there before =
      let x_since : since log x.number ≡ x.since = sym (ap (λ (f : IdleFacts). f.since) (found_idle x.number x x_there).1) in
      let y_since : since log y.number ≡ y.since = sym (ap (λ (f : IdleFacts). f.since) (found_idle y.number y y_there).1) in
      rw (x_since, y_since) before

  pub oldest_first : (x : Idle S) → 0 < length idle → x ≡ get_or idle 0 x → oldest log ≡ Some x.number
  oldest_first x some is =
      let x_there = at_place 0 x some is in
      oldest_is log x.number (found_idle x.number x x_there).0 (λ d d_idle other.
      let found = idle_found d d_idle in
      let y = found.0 in
      let where_it_is = place_of idle d y found.1 in
      let y_there : find_number idle y.number ≡ Some y = ap (find_number idle) where_it_is.3 ∙ found.1 in
      let apart : where_it_is.0 ≡ 0 → ⊥ = λ zero_place.
      let same : x ≡ y = is ∙ get_or_default idle 0 x y some ∙ sym (where_it_is.2 ∙ ap (λ (k : ℕ). get_or idle k y) zero_place) in
      let equal : x.number ≡ d = ap (λ (z : Idle S). z.number) same ∙ where_it_is.3 in
      false≢true (sym other ∙ grind (arith, nat_tests, equal)) in
      let before : item_before x y ≡ true = subst (λ (z : Idle S). item_before z y ≡ true) (sym (is ∙ get_or_default idle 0 x y some)) (subst (λ (z : Idle S). item_before (get_or idle 0 y) z ≡ true) (sym where_it_is.2) (r.idle_in_order 0 where_it_is.0 y (omega arith) where_it_is.1)) in
      subst (λ (n : ℕ). is_idle_longer log x.number n ≡ true) where_it_is.3 (order_told x y x_there y_there before))

  -- the one that was read first is the oldest, as its stamp says
  pub oldest_read : (host : ℕ) (x : Idle S) → 0 < length idle → x ≡ get_or idle 0 x → Some (record { since = x.since; host = host; number = x.number }) ≡ oldest_stamp log host
  oldest_read host x some is =
      let x_since : since log x.number ≡ x.since = sym (ap (λ (f : IdleFacts). f.since) (found_idle x.number x (at_place 0 x some is)).1) in
      rw (oldest_first x some is, x_since) refl

  -- one that is idle suits a want as the log has it
  pub suits_is : (want : Want) (moment : ℕ) (x : Idle S) → find_number idle x.number ≡ Some x → suits log want moment x.number ≡ item_suits want moment x
  suits_is want moment x there =
      let told = found_idle x.number x there in
      let l : lane log x.number ≡ x.lane = sym (ap (λ (f : IdleFacts). f.lane) told.1) in
      let b : born log x.number ≡ x.born = sym (ap (λ (f : IdleFacts). f.born) told.1) in
      let s : since log x.number ≡ x.since = sym (ap (λ (f : IdleFacts). f.since) told.1) in
      let p : came_back_persistent log x.number ≡ true = r.sound.orderly.idle_persists x.number told.0 in
      rw (l, b, s, p) (and_true (item_suits want moment x))
    where
      and_true : (a : Bool) → (a && true) ≡ a
      and_true true = refl
      and_true false = refl

  -- one that is idle is too old in its lane as the log has it
  pub too_old_is : (want : Want) (moment : ℕ) (x : Idle S) → find_number idle x.number ≡ Some x → is_too_old_in_lane log want moment x.number ≡ item_too_old want moment x
  too_old_is want moment x there =
      let told = found_idle x.number x there in
      let l : lane log x.number ≡ x.lane = sym (ap (λ (f : IdleFacts). f.lane) told.1) in
      let b : born log x.number ≡ x.born = sym (ap (λ (f : IdleFacts). f.born) told.1) in
      let s : since log x.number ≡ x.since = sym (ap (λ (f : IdleFacts). f.since) told.1) in
      rw (l, b, s) refl

  -- where none is too old as it was read, none is
  pub none_too_old_read : (want : Want) (moment : ℕ) → NoneTooOld want moment idle → oldest_too_old log want moment ≡ None
  none_too_old_read want moment none = none_too_old log want moment (λ d d_idle.
      let found = idle_found d d_idle in
      let y = found.0 in
      let where_it_is = place_of idle d y found.1 in
      let y_there : find_number idle y.number ≡ Some y = ap (find_number idle) where_it_is.3 ∙ found.1 in
      ap (is_too_old_in_lane log want moment) (sym where_it_is.3) ∙ too_old_is want moment y y_there ∙ ap (item_too_old want moment) where_it_is.2 ∙ none where_it_is.0 y where_it_is.1)

  -- the newest that suits is the newest fit
  pub newest_read : (want : Want) (moment place : ℕ) (x : Idle S) → LastSuits want moment idle place → x ≡ get_or idle place x → newest_fit log want moment ≡ Some x.number
  newest_read want moment place x last is =
      let x_there = at_place place x last.in_range is in
      newest_is log want moment x.number (found_idle x.number x x_there).0 (suits_is want moment x x_there ∙ subst (λ (y : Idle S). item_suits want moment y ≡ true) (sym is) (last.here x))
      (λ d d_idle d_suits other.
      let found = idle_found d d_idle in
      let y = found.0 in
      let where_it_is = place_of idle d y found.1 in
      let y_there : find_number idle y.number ≡ Some y = ap (find_number idle) where_it_is.3 ∙ found.1 in
      let y_suits : item_suits want moment y ≡ true = sym (suits_is want moment y y_there) ∙ ap (suits log want moment) where_it_is.3 ∙ d_suits in
      let not_after : place < where_it_is.0 → ⊥ = λ after. false≢true (sym (last.none_after where_it_is.0 y after where_it_is.1) ∙ ap (item_suits want moment) (sym where_it_is.2) ∙ y_suits) in
      let apart : where_it_is.0 ≡ place → ⊥ = λ same_place.
      let same : x ≡ y = is ∙ get_or_default idle place x y last.in_range ∙ sym (where_it_is.2 ∙ ap (λ (k : ℕ). get_or idle k y) same_place) in
      let equal : x.number ≡ d = ap (λ (z : Idle S). z.number) same ∙ where_it_is.3 in
      false≢true (sym other ∙ grind (arith, nat_tests, equal)) in
      let before : item_before y x ≡ true = subst (λ (z : Idle S). item_before z x ≡ true) (sym (where_it_is.2 ∙ get_or_default idle where_it_is.0 y x where_it_is.1)) (subst (λ (z : Idle S). item_before (get_or idle where_it_is.0 x) z ≡ true) (sym is) (r.idle_in_order where_it_is.0 place x (omega (arith, not_after, apart)) last.in_range)) in
      subst (λ (n : ℕ). is_idle_longer log n x.number ≡ true) where_it_is.3 (order_told y x y_there x_there before))

  pub newest_read_none : (want : Want) (moment : ℕ) → NoneSuits want moment idle → newest_fit log want moment ≡ None
  newest_read_none want moment none = newest_none log want moment (λ d d_idle.
      let found = idle_found d d_idle in
      let y = found.0 in
      let where_it_is = place_of idle d y found.1 in
      let y_there : find_number idle y.number ≡ Some y = ap (find_number idle) where_it_is.3 ∙ found.1 in
      ap (suits log want moment) (sym where_it_is.3) ∙ suits_is want moment y y_there ∙ ap (item_suits want moment) where_it_is.2 ∙ none where_it_is.0 y where_it_is.1)

  -- the numbers as they are kept are those of the log in its order
  pub numbers_in_order : numbers idle ≡ idle_in_order log
  numbers_in_order = idle_in_order_is log r.sound.orderly.distinct (numbers idle) (in_order_by_pairs (is_idle_longer log) (λ (x : Idle S). x.number) idle pairs) same
    where
      pairs : AllPairs (λ (x y : Idle S). is_idle_longer log x.number y.number ≡ true) idle
      pairs i j d lt range =
          let x_there = find_number_place idle i d r.idle_distinct (omega (arith, lt, range)) in
          let y_there = find_number_place idle j d r.idle_distinct range in
          order_told (get_or idle i d) (get_or idle j d) x_there y_there (r.idle_in_order i j d lt range)

      alike : (f : Option (Idle S)) (b : Bool) (facts : IdleFacts) → option_map facts_of_idle f ≡ (if b then Some facts else None) → is_some f ≡ b
      alike None true facts e = absurd (cc)
      alike None false facts e = refl
      alike (Some x) true facts e = refl
      alike (Some x) false facts e = absurd (cc)

      same : (c : ℕ) → is_among c (numbers idle) ≡ is_idle log c
      same c = sym (is_some-find_number idle c) ∙ alike (find_number idle c) (is_idle log c) (facts_if_idle log c) (r.idle_at c)

  -- one that is idle is older than two numbers allow as the log has it
  pub older_is : (max_age max_life moment : ℕ) (x : Idle S) → find_number idle x.number ≡ Some x → is_older (since log x.number) (born log x.number) max_age max_life moment ≡ item_older max_age max_life moment x
  older_is max_age max_life moment x there =
      let told = found_idle x.number x there in
      let b : born log x.number ≡ x.born = sym (ap (λ (f : IdleFacts). f.born) told.1) in
      let s : since log x.number ≡ x.since = sym (ap (λ (f : IdleFacts). f.since) told.1) in
      rw (b, s) refl

  -- a closing picks the same as they are kept
  pub picked_read : (closing : Closing) (moment : ℕ) → picked closing moment log ≡ numbers (picked_items closing moment (length (open_connections log)) idle)
  picked_read (TooOld want) moment =
      ap (filter (is_too_old_in_lane log want moment)) (sym numbers_in_order)
      ∙ filter_numbers (is_too_old_in_lane log want moment) (item_too_old want moment) idle (λ k d below. too_old_is want moment (get_or idle k d) (find_number_place idle k d r.idle_distinct below))
  picked_read (Pruned max_age max_life) moment =
      ap (filter (λ c. is_older (since log c) (born log c) max_age max_life moment)) (sym numbers_in_order)
      ∙ filter_numbers (λ c. is_older (since log c) (born log c) max_age max_life moment) (item_older max_age max_life moment) idle (λ k d below. older_is max_age max_life moment (get_or idle k d) (find_number_place idle k d r.idle_distinct below))
  picked_read (Above limit) moment =
      ap (take (length (open_connections log) - limit)) (sym numbers_in_order)
      ∙ take-map (λ (x : Idle S). x.number) (length (open_connections log) - limit) idle

  -- a connection that would stay is held
  pub would_stay_held : (transfer c : ℕ) (h : Held) → held_facts log transfer ≡ Some (facts_of_held h) → h.number ≡ c → is_held_by log transfer c ≡ true
  would_stay_held transfer c h shown is = ap (is_held_by log transfer) (sym is) ∙ table_held transfer h (table_from_log transfer h shown)
