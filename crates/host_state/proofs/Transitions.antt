-- Each step leaves a state that replays the log with what the step added.
use Rattle.std.proofs.Common.{◌≡◌, ℕ, ◌+◌, ◌-◌, ◌<◌, ◌≤◌, Bool, true, false, not, ◌&&◌, List, [], ◌∷◌, length, get_or, Option, Some, None, is_some, is_none, refl, sym, ap, subst, inl, inr, ◌∙◌, arith}
use Rattle.std.specs.Prelude.{◌==◌, if◌then◌else◌}
use Rattle.std.specs.List.{insert, remove}
use Rattle.std.specs.Option.{option_map, option_map_or, IfNone}
use mathlib.Core.Bool.{false≢true}
use Rattle.std.proofs.lemmas.Bool.Decides.{nat_tests, eqb_tells}
use Rattle.std.proofs.lemmas.List.Edits.{length-insert, length-remove}
use Rattle.persistence.specs.declared.facts.Facts.{Facts}
use Rattle.persistence.specs.Persistent.{is_persistent}
use Rattle.conn_log.specs.declared.entry.Want.{Want}
use Rattle.conn_log.specs.declared.entry.Cause.{Cause}
use Rattle.conn_log.specs.declared.entry.Cause.TheVariants.{CacheFull}
use Rattle.conn_log.specs.declared.entry.Event.TheVariants.{Opened, Leased, Returned, Closed, Waited, Left, Limit}
use Rattle.conn_log.specs.declared.entry.Entry.{Entry}
use Rattle.conn_log.specs.Connections.{last_moment, is_among, opened, greatest, open_connections, is_open, idle_connections, is_idle, holder_want, held_number, born, lane}
use Rattle.conn_log.specs.Fit.{is_fit}
use Rattle.conn_log.specs.Waiting.{waits}
use Rattle.conn_log.specs.Legal.{LimitAndFirst, limit_in_force, ends_use, ending_cause, owed}
use Rattle.conn_log.specs.Sound.{IsSound, IsNext, is_of_holder, is_of_idle, IdleFacts, HeldFacts, facts_if_idle, facts_if_held, idle_facts, held_facts}
use Rattle.conn_log.proofs.Steps.{IsGone, gone_taken, gone_closed, gone_ended, is_idle_is, idle_open_unheld, gone_open, taken_end, taken_same, idle_facts_open, held_facts_open, more_open, as_many_idle_open, idle_facts_lease, held_facts_lease, fewer_idle_lease, idle_facts_return, held_facts_return, more_idle, fewer_open, as_many_idle, fewer_idle, idle_facts_gone, held_facts_gone, others_kept}
use Rattle.conn_log.proofs.Holdings.{holder_returned}
use Rattle.conn_log.proofs.Soundness.{next_is_new, and_left, and_right, sound_open, sound_lease, sound_return, sound_end, sound_drop, sound_wait, sound_leave, sound_limit, sound_close, sound_empty, next_free, idle_may_close}
use Rattle.host_state.specs.declared.idle.Idle.{Idle}
use Rattle.host_state.specs.declared.held.Held.{Held}
use Rattle.host_state.specs.declared.closing.Closing.{Closing}
use Rattle.host_state.specs.declared.closing.Closing.TheVariants.{TooOld, Pruned, Above}
use Rattle.host_state.specs.Steps.{add, is_full, cause_of, picked}
use Rattle.host_state.specs.Idle.{find_number, numbers, facts_of_idle, streams_of, stream_of, item_suits, LastSuits, PicksFirst, picked_items, IsPlaceFor}
use Rattle.host_state.specs.State.{Replays, ClosesIdle, ClosesNext, ClosesFirst, EndsUse, IsFreeOf, facts_of_held}
use Rattle.host_state.proofs.Kept.{is_some-find_number, find_number-insert, find_number-remove, distinct-insert, distinct-remove, order-insert, order-remove, stream_of-streams_of, stream_of-remove}
use Rattle.host_state.proofs.Replaying.{found_idle, at_place, idle_nobodys, suits_is, oldest_first, picked_read, table_some, table_number, table_held}

-- a fact that holds whatever the option
pub if_none_always : {A : Type 0} {P : Type 0} (x : Option A) → P → IfNone x P
if_none_always None p = p
if_none_always (Some y) p = tt

-- why a closing closes is why an idle connection may be closed
pub of_idle : (closing : Closing) → is_of_idle (cause_of closing) ≡ true
of_idle (TooOld want) = refl
of_idle (Pruned max_age max_life) = refl
of_idle (Above limit) = refl

-- a map over a choice
map_if : {A B : Type 0} (f : A → B) (b : Bool) (x y : Option A) → option_map f (if b then x else y) ≡ (if b then option_map f x else option_map f y)
map_if f true x y = refl
map_if f false x y = refl

if_alike : {A : Type 0} (b : Bool) (x y u v : A) → x ≡ u → y ≡ v → (if b then x else y) ≡ (if b then u else v)
if_alike true x y u v e f = e
if_alike false x y u v e f = f

none_of : {A B : Type 0} (f : A → B) (x : Option A) → option_map f x ≡ None → x ≡ None
none_of f None e = refl
none_of f (Some y) e = absurd (cc)

-- what a transfer held is gone: it is open no more, the transfer is free, and all else stays
pub record HasGone (settings : LimitAndFirst) (log after : List Entry) (transfer c : ℕ) : Type 0 where
  pub closed : is_open after c ≡ false
  pub holders : IsFreeOf log after transfer
  pub fewer_open : length (open_connections log) ≡ length (open_connections after) + 1
  pub as_many_idle : length (idle_connections after) ≡ length (idle_connections log)
  pub limit : limit_in_force settings after ≡ limit_in_force settings log

module _ {S : Type 0} (settings : LimitAndFirst) (log : List Entry) (greatest_used : ℕ) (idle : List (Idle S)) (held : ℕ → Option Held) (held_len : ℕ) (r : Replays {S = S} settings log greatest_used idle held held_len) where
  pub table_absent : (transfer : ℕ) → held_number log transfer ≡ None → held transfer ≡ None
  table_absent transfer free = none_of facts_of_held (held transfer) (r.held_at transfer ∙ ap (option_map (facts_if_held log)) free)

  pub table_free : (transfer : ℕ) → held transfer ≡ None → held_number log transfer ≡ None
  table_free transfer none = none_of (facts_if_held log) (held_number log transfer) (sym (r.held_at transfer) ∙ ap (option_map facts_of_held) none)

  -- a table that has the same at each transfer
  pub replays_same : (held' : ℕ → Option Held) (len : ℕ) → ((t : ℕ) → held' t ≡ held t) → len ≡ held_len → Replays settings log greatest_used idle held' len
  replays_same held' len same counted = record {
    sound = r.sound;
    greatest_is = r.greatest_is;
    idle_at = r.idle_at;
    idle_distinct = r.idle_distinct;
    idle_in_order = r.idle_in_order;
    idle_len = r.idle_len;
    held_at = λ t. ap (option_map facts_of_held) (same t) ∙ r.held_at t;
    open_len = omega (arith, r.open_len, counted);
  }

  pub below_limit : is_full settings log ≡ false → length (open_connections log) < limit_in_force settings log
  below_limit not_full = grind (arith, nat_tests, not_full, r.sound.orderly.within)

  -- the one that was read is fit
  pub read_fit : (want : Want) (moment place : ℕ) (x : Idle S) → LastSuits want moment idle place → x ≡ get_or idle place x → is_fit log want moment x.number ≡ true
  read_fit want moment place x last is =
      let there = at_place r place x last.in_range is in
      let told = found_idle r x.number x there in
      rw (told.0, suits_is r want moment x there) (subst (λ (y : Idle S). item_suits want moment y ≡ true) (sym is) (last.here x))

  -- what the idle list has, with the one at a place taken out
  idle_without : (place : ℕ) (x : Idle S) → place < length idle → x ≡ get_or idle place x → (after : List Entry) → ((c : ℕ) → idle_facts after c ≡ (if x.number == c then None else idle_facts log c)) → (c : ℕ) → option_map facts_of_idle (find_number (remove idle place) c) ≡ idle_facts after c
  idle_without place x within is after facts c =
      let number_is : (get_or idle place x).number ≡ x.number = sym (ap (λ (y : Idle S). y.number) is) in
      let found : find_number (remove idle place) c ≡ (if x.number == c then None else find_number idle c) = find_number-remove idle place x c r.idle_distinct within ∙ ap (λ (n : ℕ). if n == c then None else find_number idle c) number_is in
      ap (option_map facts_of_idle) found ∙ map_if facts_of_idle (x.number == c) None (find_number idle c) ∙ if_alike (x.number == c) None (option_map facts_of_idle (find_number idle c)) None (idle_facts log c) refl (r.idle_at c) ∙ sym (facts c)

  -- what the table has, with one more
  held_with : (transfer : ℕ) (h : Held) (after : List Entry) (held' : ℕ → Option Held) → ((t : ℕ) → held' t ≡ (if transfer == t then Some h else held t)) → ((t : ℕ) → held_facts after t ≡ (if transfer == t then Some (facts_of_held h) else held_facts log t)) → (t : ℕ) → option_map facts_of_held (held' t) ≡ held_facts after t
  held_with transfer h after held' put facts t =
      ap (option_map facts_of_held) (put t) ∙ map_if facts_of_held (transfer == t) (Some h) (held t) ∙ if_alike (transfer == t) (Some (facts_of_held h)) (option_map facts_of_held (held t)) (Some (facts_of_held h)) (held_facts log t) refl (r.held_at t) ∙ sym (facts t)

  -- what the table has, with one fewer
  held_without : (transfer : ℕ) (after : List Entry) (held' : ℕ → Option Held) → ((t : ℕ) → held' t ≡ (if transfer == t then None else held t)) → ((t : ℕ) → held_facts after t ≡ (if transfer == t then None else held_facts log t)) → (t : ℕ) → option_map facts_of_held (held' t) ≡ held_facts after t
  held_without transfer after held' cut facts t =
      ap (option_map facts_of_held) (cut t) ∙ map_if facts_of_held (transfer == t) None (held t) ∙ if_alike (transfer == t) None (option_map facts_of_held (held t)) None (held_facts log t) refl (r.held_at t) ∙ sym (facts t)

  module _ (moment : ℕ) (later : last_moment log ≤ moment) where
    -- a lease on an idle connection
    pub replays_lease : (want : Want) (place : ℕ) (x : Idle S) → place < length idle → x ≡ get_or idle place x → is_fit log want moment x.number ≡ true → IsNext log want → (held' : ℕ → Option Held) (more : ℕ) → more ≡ held_len + 1 → ((t : ℕ) → held' t ≡ (if want.transfer == t then Some (record { number = x.number; lane = x.lane; born = x.born; forbids_reuse = want.forbid_reuse }) else held t)) → Replays settings (record { moment = moment; event = Leased x.number want } ∷ log) greatest_used (remove idle place) held' more
    replays_lease want place x within is fit first held' more counted put =
        let after = record { moment = moment; event = Leased x.number want } ∷ log in
        let h : Held = record { number = x.number; lane = x.lane; born = x.born; forbids_reuse = want.forbid_reuse } in
        let nothing = next_free settings log r.sound.orderly want first in
        let told = found_idle r x.number x (at_place r place x within is) in
        let l : lane log x.number ≡ x.lane = sym (ap (λ (f : IdleFacts). f.lane) told.1) in
        let b : born log x.number ≡ x.born = sym (ap (λ (f : IdleFacts). f.born) told.1) in
        record {
          sound = sound_lease settings log r.sound moment later x.number want fit first;
          greatest_is = r.greatest_is;
          idle_at = idle_without place x within is after (idle_facts_lease settings log r.sound.orderly moment x.number want told.0 nothing);
          idle_distinct = distinct-remove idle place r.idle_distinct;
          idle_in_order = order-remove idle place within r.idle_in_order;
          idle_len = omega (arith, length-remove idle place within, r.idle_len, fewer_idle_lease settings log r.sound.orderly moment x.number want told.0 nothing);
          held_at = held_with want.transfer h after held' put (λ t. held_facts_lease settings log r.sound.orderly moment x.number want told.0 nothing t ∙ ap (λ (f : HeldFacts). if want.transfer == t then Some f else held_facts log t) (same_parts x.number (lane log x.number) (born log x.number) x.lane x.born want.forbid_reuse l b));
          open_len = omega (arith, length-remove idle place within, r.open_len, counted);
        }
      where
        same_parts : (n l b k a : ℕ) (f : Bool) → l ≡ k → b ≡ a → (let first : HeldFacts = record { number = n; lane = l; born = b; forbids_reuse = f } in let second : HeldFacts = record { number = n; lane = k; born = a; forbids_reuse = f } in first ≡ second)
        same_parts n l b k a f e g = cc

    -- a new connection
    pub replays_open : (want : Want) (c : ℕ) → c ≡ greatest_used + 1 → length (open_connections log) < limit_in_force settings log → IsNext log want → (held' : ℕ → Option Held) (more : ℕ) → more ≡ held_len + 1 → ((t : ℕ) → held' t ≡ (if want.transfer == t then Some (record { number = c; lane = want.lane; born = moment; forbids_reuse = want.forbid_reuse }) else held t)) → Replays settings (record { moment = moment; event = Opened c want } ∷ log) c idle held' more
    replays_open want c next room first held' more counted put =
        let after = record { moment = moment; event = Opened c want } ∷ log in
        let h : Held = record { number = c; lane = want.lane; born = moment; forbids_reuse = want.forbid_reuse } in
        let nothing = next_free settings log r.sound.orderly want first in
        let next_of_log : c ≡ greatest settings.first (opened log) + 1 = omega (arith, next, r.greatest_is) in
        let new = next_is_new settings log r.sound.orderly c next_of_log in
        record {
          sound = sound_open settings log r.sound moment later c want next_of_log room first;
          greatest_is = omega (arith, next_of_log);
          idle_at = λ d. r.idle_at d ∙ sym (idle_facts_open settings log r.sound.orderly moment c want new nothing room d);
          idle_distinct = r.idle_distinct;
          idle_in_order = r.idle_in_order;
          idle_len = r.idle_len ∙ sym (as_many_idle_open settings log r.sound.orderly moment c want new nothing room);
          held_at = held_with want.transfer h after held' put (held_facts_open settings log r.sound.orderly moment c want new nothing room);
          open_len = omega (arith, r.open_len, counted, more_open settings log r.sound.orderly moment c want new nothing room);
        }

  -- how many are open and idle once one was opened
  module _ (moment : ℕ) (want : Want) (c : ℕ) (next : c ≡ greatest_used + 1) (not_full : is_full settings log ≡ false) (first : IsNext log want) where
    is_new : is_among c (opened log) ≡ false
    is_new = next_is_new settings log r.sound.orderly c (omega (arith, next, r.greatest_is))

    pub more_open_at : length (open_connections (record { moment = moment; event = Opened c want } ∷ log)) ≡ length (open_connections log) + 1
    more_open_at = more_open settings log r.sound.orderly moment c want is_new (next_free settings log r.sound.orderly want first) (below_limit not_full)

    pub as_many_idle_at : length (idle_connections (record { moment = moment; event = Opened c want } ∷ log)) ≡ length (idle_connections log)
    as_many_idle_at = as_many_idle_open settings log r.sound.orderly moment c want is_new (next_free settings log r.sound.orderly want first) (below_limit not_full)

  -- who holds a connection that the table has
  pub want_of_held : (transfer : ℕ) (h : Held) → held transfer ≡ Some h → (want : Want) × (holder_want log h.number ≡ Some want) × (want.forbid_reuse ≡ h.forbids_reuse)
  want_of_held transfer h is = seen (holder_want log h.number) refl (table_held r transfer h is)
    where
      facts_there : held_facts log transfer ≡ Some (facts_if_held log h.number)
      facts_there = ap (option_map (facts_if_held log)) (table_number r transfer h is)

      forbids : option_map_or (λ (w : Want). w.forbid_reuse) (holder_want log h.number) false ≡ h.forbids_reuse
      forbids =
          let both : Some (facts_if_held log h.number) ≡ Some (facts_of_held h) = sym facts_there ∙ table_some r transfer h is in
          let same : facts_if_held log h.number ≡ facts_of_held h = cc in
          ap (λ (f : HeldFacts). f.forbids_reuse) same

      seen : (w : Option Want) → holder_want log h.number ≡ w → option_map_or (λ (v : Want). v.transfer == transfer) w false ≡ true → (want : Want) × (holder_want log h.number ≡ Some want) × (want.forbid_reuse ≡ h.forbids_reuse)
      seen None e told = absurd (false≢true told)
      seen (Some w) e told = (w, e, ap (λ (v : Option Want). option_map_or (λ (u : Want). u.forbid_reuse) v false) (sym e) ∙ forbids)

  -- the streams here are those of idle ones
  pub has_stream : (c : ℕ) → is_some (stream_of (streams_of idle) c) ≡ is_idle log c
  has_stream c =
      ap is_some (stream_of-streams_of idle c) ∙ is_some-map (λ (x : Idle S). x.stream) (find_number idle c) ∙ sym (is_some-map facts_of_idle (find_number idle c)) ∙ ap is_some (r.idle_at c) ∙ told (is_idle log c)
    where
      is_some-map : {A B : Type 0} (f : A → B) (x : Option A) → is_some (option_map f x) ≡ is_some x
      is_some-map f None = refl
      is_some-map f (Some y) = refl

      told : (b : Bool) → is_some (if b then Some (facts_if_idle log c) else None) ≡ b
      told true = refl
      told false = refl

  module _ (transfer : ℕ) (h : Held) (is : held transfer ≡ Some h) where
    is_held : is_some (holder_want log h.number) ≡ true
    is_held = let w = want_of_held transfer h is in ap is_some w.1

    -- one that came back stays open, with one more idle
    pub more_idle_back : (moment : ℕ) (facts : Facts) → (is_persistent facts && not h.forbids_reuse) ≡ true → length (idle_connections (record { moment = moment; event = Returned h.number facts } ∷ log)) ≡ length (idle_connections log) + 1
    more_idle_back moment facts stays = more_idle settings log r.sound.orderly moment h.number facts (and_left (is_persistent facts) (not h.forbids_reuse) stays) (r.sound.orderly.held_open h.number is_held) is_held

    -- one that is gone is open no more, and its transfer is free
    pub has_gone : (after : List Entry) → IsGone h.number log after → HasGone settings log after transfer h.number
    has_gone after gone =
        let was_open = r.sound.orderly.held_open h.number is_held in
        let it : (h.number == h.number) ≡ true = grind (arith, nat_tests) in
        record {
          closed = gone_open settings log r.sound.orderly h.number after gone h.number ∙ ap (λ b. not b && is_open log h.number) it;
          holders = λ t. gone_taken settings log r.sound.orderly h.number after gone t ∙ taken_end settings log r.sound.orderly h.number transfer (table_number r transfer h is) t;
          fewer_open = fewer_open settings log r.sound.orderly h.number after gone was_open;
          as_many_idle = as_many_idle settings log r.sound.orderly h.number after gone is_held;
          limit = gone.limit settings;
        }

    pub held_not_found : find_number idle h.number ≡ None
    held_not_found =
        let not_idle : is_idle log h.number ≡ false = grind (arith, is_idle_is log h.number, is_held) in
        none_of facts_of_idle (find_number idle h.number) (r.idle_at h.number ∙ ap (λ (b : Bool). if b then Some (facts_if_idle log h.number) else None) not_idle)

    pub replays_return : (moment : ℕ) → last_moment log ≤ moment → (facts : Facts) → (is_persistent facts && not h.forbids_reuse) ≡ true → (place : ℕ) (stream : S) → IsPlaceFor moment h.number idle place → (held' : ℕ → Option Held) (less : ℕ) → ((t : ℕ) → held' t ≡ (if transfer == t then None else held t)) → less + 1 ≡ held_len → Replays settings (record { moment = moment; event = Returned h.number facts } ∷ log) greatest_used (insert idle place (record { number = h.number; lane = h.lane; born = h.born; since = moment; stream = stream })) held' less
    replays_return moment later facts stays place stream fits held' less cut counted =
        let n = h.number in
        let after = record { moment = moment; event = Returned n facts } ∷ log in
        let x : Idle S = record { number = n; lane = h.lane; born = h.born; since = moment; stream = stream } in
        let w = want_of_held transfer h is in
        let ends : ends_use facts w.0 ≡ false = rw w.2 (ap not stays) in
        let persists = and_left (is_persistent facts) (not h.forbids_reuse) stays in
        let was_open = r.sound.orderly.held_open n is_held in
        let same : facts_if_held log n ≡ facts_of_held h = some_same (sym (ap (option_map (facts_if_held log)) (table_number r transfer h is)) ∙ table_some r transfer h is) in
        let l : h.lane ≡ lane log n = sym (ap (λ (f : HeldFacts). f.lane) same) in
        let b : h.born ≡ born log n = sym (ap (λ (f : HeldFacts). f.born) same) in
        let new : is_among n (numbers idle) ≡ false = sym (is_some-find_number idle n) ∙ ap is_some held_not_found in
        let back : Option IdleFacts = Some (record { lane = lane log n; born = born log n; since = moment }) in
        record {
          sound = sound_return settings log r.sound moment later n facts w.0 w.1 ends;
          greatest_is = r.greatest_is;
          idle_at = λ d.
              ap (option_map facts_of_idle) (find_number-insert idle place x d held_not_found)
              ∙ map_if facts_of_idle (n == d) (Some x) (find_number idle d)
              ∙ if_alike (n == d) (Some (facts_of_idle x)) (option_map facts_of_idle (find_number idle d)) back (idle_facts log d) (same_idle h.lane h.born (lane log n) (born log n) moment l b) (r.idle_at d)
              ∙ sym (idle_facts_return settings log r.sound.orderly moment n facts persists was_open d);
          idle_distinct = distinct-insert idle place x r.idle_distinct new;
          idle_in_order = order-insert idle place x fits new r.idle_in_order;
          idle_len = length-insert idle place x fits.in_range ∙ ap (λ (k : ℕ). k + 1) r.idle_len ∙ sym (more_idle settings log r.sound.orderly moment n facts persists was_open is_held);
          held_at = held_without transfer after held' cut (held_facts_return settings log r.sound.orderly moment n facts persists transfer (table_number r transfer h is));
          open_len = omega (arith, length-insert idle place x fits.in_range, r.open_len, counted);
        }
      where
        some_same : {A : Type 0} {x y : A} → Some x ≡ Some y → x ≡ y
        some_same e = cc

        same_idle : (l b k a s : ℕ) → l ≡ k → b ≡ a → (let first : IdleFacts = record { lane = l; born = b; since = s } in let second : IdleFacts = record { lane = k; born = a; since = s } in Some first ≡ Some second)
        same_idle l b k a s e f = cc

    -- the connection is gone
    pub replays_gone : (after : List Entry) → IsGone h.number log after → IsSound settings after → (held' : ℕ → Option Held) (less : ℕ) → ((t : ℕ) → held' t ≡ (if transfer == t then None else held t)) → less + 1 ≡ held_len → Replays settings after greatest_used idle held' less
    replays_gone after gone sound held' less cut counted =
        let was_open = r.sound.orderly.held_open h.number is_held in
        record {
          sound = sound;
          greatest_is = r.greatest_is ∙ ap (greatest settings.first) (sym gone.opened);
          idle_at = λ d. r.idle_at d ∙ sym (idle_facts_gone settings log r.sound.orderly h.number after gone d ∙ kept_idle d);
          idle_distinct = r.idle_distinct;
          idle_in_order = r.idle_in_order;
          idle_len = r.idle_len ∙ sym (as_many_idle settings log r.sound.orderly h.number after gone is_held);
          held_at = held_without transfer after held' cut (held_facts_gone settings log r.sound.orderly h.number after gone transfer (table_number r transfer h is));
          open_len = omega (arith, r.open_len, counted, fewer_open settings log r.sound.orderly h.number after gone was_open);
        }
      where
        kept_idle : (d : ℕ) → (if h.number == d then None else idle_facts log d) ≡ idle_facts log d
        kept_idle d = elim (eqb_tells h.number d) [
          | inl same ↦
              let none : idle_facts log h.number ≡ None = sym (r.idle_at h.number) ∙ ap (option_map facts_of_idle) held_not_found in
              rw same.0 (sym (subst (λ (n : ℕ). idle_facts log n ≡ None) same.1 none))
          | inr other ↦ rw other.0 refl
        ]

  -- who held it
  module _ (transfer : ℕ) (h : Held) (is : held transfer ≡ Some h) (moment : ℕ) (later : last_moment log ≤ moment) where
    pub replays_drop : (cause : Cause) → is_of_holder cause ≡ true → (held' : ℕ → Option Held) (less : ℕ) → ((t : ℕ) → held' t ≡ (if transfer == t then None else held t)) → less + 1 ≡ held_len → Replays settings (record { moment = moment; event = Closed h.number cause } ∷ log) greatest_used idle held' less
    replays_drop cause fits held' less cut counted = replays_gone transfer h is (record { moment = moment; event = Closed h.number cause } ∷ log) (gone_closed moment h.number cause log) (sound_drop settings log r.sound moment later h.number cause fits (is_held transfer h is)) held' less cut counted

    pub replays_end : (facts : Facts) (cause : Cause) → (is_persistent facts && not h.forbids_reuse) ≡ false → ((want : Want) → want.forbid_reuse ≡ h.forbids_reuse → cause ≡ ending_cause facts want) → (held' : ℕ → Option Held) (less : ℕ) → ((t : ℕ) → held' t ≡ (if transfer == t then None else held t)) → less + 1 ≡ held_len → Replays settings (record { moment = moment; event = Closed h.number cause } ∷ record { moment = moment; event = Returned h.number facts } ∷ log) greatest_used idle held' less
    replays_end facts cause ends why held' less cut counted =
        let w = want_of_held transfer h is in
        let over : ends_use facts w.0 ≡ true = rw w.2 (ap not ends) in
        let because = why w.0 w.2 in
        rw because (replays_gone transfer h is (record { moment = moment; event = Closed h.number (ending_cause facts w.0) } ∷ record { moment = moment; event = Returned h.number facts } ∷ log) (gone_ended moment h.number facts (ending_cause facts w.0) log) (sound_end settings log r.sound moment later h.number facts w.0 w.1 over) held' less cut counted)

    -- the close that is owed after a return
    pub ends_use_at_once : (facts : Facts) (cause : Cause) → (is_persistent facts && not h.forbids_reuse) ≡ false → ((want : Want) → want.forbid_reuse ≡ h.forbids_reuse → cause ≡ ending_cause facts want) → EndsUse log (add moment (Closed h.number cause) (add moment (Returned h.number facts) log)) h.number facts moment
    ends_use_at_once facts cause ends why =
        let w = want_of_held transfer h is in
        let over : ends_use facts w.0 ≡ true = rw w.2 (ap not ends) in
        record {
          cause = cause;
          owes = rw (w.1, over, why w.0 w.2) refl;
          log = refl;
        }

    -- or at once, since the cache is full
    pub replays_unkept : (facts : Facts) → (is_persistent facts && not h.forbids_reuse) ≡ true → (held' : ℕ → Option Held) (less : ℕ) → ((t : ℕ) → held' t ≡ (if transfer == t then None else held t)) → less + 1 ≡ held_len → Replays settings (record { moment = moment; event = Closed h.number CacheFull } ∷ record { moment = moment; event = Returned h.number facts } ∷ log) greatest_used idle held' less
    replays_unkept facts stays held' less cut counted =
        let n = h.number in
        let w = want_of_held transfer h is in
        let back = record { moment = moment; event = Returned n facts } ∷ log in
        let on : ends_use facts w.0 ≡ false = rw w.2 (ap not stays) in
        let sound = sound_return settings log r.sound moment later n facts w.0 w.1 on in
        let it : (n == n) ≡ true = grind (arith, nat_tests) in
        let unheld : is_none (holder_want back n) ≡ true = ap is_none (holder_returned moment n facts log n ∙ ap (λ b. if b then None else holder_want log n) it) in
        let was_open : is_open log n ≡ true = r.sound.orderly.held_open n (is_held transfer h is) in
        let idle_now : is_idle back n ≡ true = is_idle_is back n ∙ both (is_open log n) (is_none (holder_want back n)) was_open unheld in
        replays_gone transfer h is (record { moment = moment; event = Closed n CacheFull } ∷ back) (gone_ended moment n facts CacheFull log) (sound_close settings back sound moment (omega arith) n CacheFull (idle_may_close back n CacheFull refl sound.settled idle_now) idle_now) held' less cut counted
      where
        both : (a b : Bool) → a ≡ true → b ≡ true → (a && b) ≡ true
        both a b e f = rw (e, f) refl

    pub none_owed : (facts : Facts) → (is_persistent facts && not h.forbids_reuse) ≡ true → owed (add moment (Returned h.number facts) log) ≡ None
    none_owed facts stays =
        let w = want_of_held transfer h is in
        let on : ends_use facts w.0 ≡ false = rw w.2 (ap not stays) in
        rw (w.1, on) refl

  -- where an idle one was closed, the host is no longer full
  pub room_made : (moment : ℕ) (cause : Cause) (place : ℕ) (x : Idle S) → place < length idle → x ≡ get_or idle place x → is_full settings (record { moment = moment; event = Closed x.number cause } ∷ log) ≡ false
  room_made moment cause place x within is =
      let told = found_idle r x.number x (at_place r place x within is) in
      let open_unheld = idle_open_unheld log x.number told.0 in
      let fewer = fewer_open settings log r.sound.orderly x.number (record { moment = moment; event = Closed x.number cause } ∷ log) (gone_closed moment x.number cause log) open_unheld.0 in
      differs _ _ (omega (arith, fewer, r.sound.orderly.within))
    where
      differs : (a b : ℕ) → a < b → (a == b) ≡ false
      differs a b lt = grind (arith, nat_tests, lt)

  -- one idle fewer
  pub fewer_idle_at : (moment : ℕ) (cause : Cause) (place : ℕ) (x : Idle S) → place < length idle → x ≡ get_or idle place x → length (idle_connections log) ≡ length (idle_connections (record { moment = moment; event = Closed x.number cause } ∷ log)) + 1
  fewer_idle_at moment cause place x within is = fewer_idle settings log r.sound.orderly x.number _ (gone_closed moment x.number cause log) (found_idle r x.number x (at_place r place x within is)).0

  -- one open fewer
  pub fewer_open_at : (moment : ℕ) (cause : Cause) (place : ℕ) (x : Idle S) → place < length idle → x ≡ get_or idle place x → length (open_connections log) ≡ length (open_connections (record { moment = moment; event = Closed x.number cause } ∷ log)) + 1
  fewer_open_at moment cause place x within is =
      let open_unheld = idle_open_unheld log x.number (found_idle r x.number x (at_place r place x within is)).0 in
      fewer_open settings log r.sound.orderly x.number _ (gone_closed moment x.number cause log) open_unheld.0

  -- one idle fewer, where it is leased
  pub fewer_idle_leased : (moment : ℕ) (want : Want) (place : ℕ) (x : Idle S) → place < length idle → x ≡ get_or idle place x → IsNext log want → length (idle_connections log) ≡ length (idle_connections (record { moment = moment; event = Leased x.number want } ∷ log)) + 1
  fewer_idle_leased moment want place x within is first = fewer_idle_lease settings log r.sound.orderly moment x.number want (found_idle r x.number x (at_place r place x within is)).0 (next_free settings log r.sound.orderly want first)

  -- the idle one at a place is closed
  pub replays_close : (moment : ℕ) → last_moment log ≤ moment → (cause : Cause) (place : ℕ) (x : Idle S) → place < length idle → x ≡ get_or idle place x → is_of_idle cause ≡ true → Replays settings (record { moment = moment; event = Closed x.number cause } ∷ log) greatest_used (remove idle place) held held_len
  replays_close moment later cause place x within is fits =
      let after = record { moment = moment; event = Closed x.number cause } ∷ log in
      let gone = gone_closed moment x.number cause log in
      let told = found_idle r x.number x (at_place r place x within is) in
      let open_unheld = idle_open_unheld log x.number told.0 in
      record {
        sound = sound_close settings log r.sound moment later x.number cause (idle_may_close log x.number cause fits r.sound.settled told.0) told.0;
        greatest_is = r.greatest_is;
        idle_at = idle_without place x within is after (idle_facts_gone settings log r.sound.orderly x.number after gone);
        idle_distinct = distinct-remove idle place r.idle_distinct;
        idle_in_order = order-remove idle place within r.idle_in_order;
        idle_len = omega (arith, length-remove idle place within, r.idle_len, fewer_idle settings log r.sound.orderly x.number after gone told.0);
        held_at = λ t. r.held_at t ∙ sym (ap (option_map (facts_if_held after)) (gone_taken settings log r.sound.orderly x.number after gone t) ∙ others_kept settings log r.sound.orderly x.number t after gone.held gone.lane gone.born (held_number log t) (sym (r.sound.orderly.held_once x.number t) ∙ nobodys (holder_want log x.number) t open_unheld.1));
        open_len = omega (arith, length-remove idle place within, r.open_len, fewer_open settings log r.sound.orderly x.number after gone open_unheld.0);
      }
    where
      nobodys : (w : Option Want) (t : ℕ) → is_none w ≡ true → option_map_or (λ (v : Want). v.transfer == t) w false ≡ false
      nobodys None t e = refl
      nobodys (Some v) t e = absurd (cc)

  -- and nothing else
  pub closes_one : (moment : ℕ) (cause : Cause) (place : ℕ) (x : Idle S) (host booked cut_away : ℕ) (has_limit_room : Bool) → place < length idle → x ≡ get_or idle place x → ClosesIdle moment (record { log = log; cut_away = cut_away; settings = settings; host = host; streams = streams_of idle; booked = booked; has_limit_room = has_limit_room }) (record { log = record { moment = moment; event = Closed x.number cause } ∷ log; cut_away = cut_away; settings = settings; host = host; streams = streams_of (remove idle place); booked = booked; has_limit_room = has_limit_room })
  closes_one moment cause place x host booked cut_away has_limit_room within is = record {
    opened = refl;
    starts = refl;
    still = λ d now. and_right (not (x.number == d)) (is_open log d) (sym (gone d) ∙ now);
    streams = λ d now. stream_of-remove idle place x d r.idle_distinct within is (other d (and_left (not (x.number == d)) (is_open log d) (sym (gone d) ∙ now)));
    holders = λ t. gone_taken settings log r.sound.orderly x.number _ (gone_closed moment x.number cause log) t ∙ taken_same settings log r.sound.orderly x.number (idle_nobodys r x (at_place r place x within is)) t;
    waiting = refl;
    later = omega arith;
    booked = refl;
    same = record { settings = refl; host = refl; cut_away = refl };
  }
    where
      gone : (d : ℕ) → is_open (record { moment = moment; event = Closed x.number cause } ∷ log) d ≡ (not (x.number == d) && is_open log d)
      gone = gone_open settings log r.sound.orderly x.number _ (gone_closed moment x.number cause log)

      other : (d : ℕ) → not (x.number == d) ≡ true → (x.number == d) ≡ false
      other d apart = grind (arith, apart)

  -- the first that a closing picks was closed
  pub closes_next : (closing : Closing) (moment place : ℕ) (x : Idle S) (host booked cut_away : ℕ) (has_limit_room : Bool) → last_moment log ≤ moment → PicksFirst closing moment (length (open_connections log)) idle place → x ≡ get_or idle place x → ClosesNext closing moment (record { log = log; cut_away = cut_away; settings = settings; host = host; streams = streams_of idle; booked = booked; has_limit_room = has_limit_room }) (record { log = record { moment = moment; event = Closed x.number (cause_of closing) } ∷ log; cut_away = cut_away; settings = settings; host = host; streams = streams_of (remove idle place); booked = booked; has_limit_room = has_limit_room })
  closes_next closing moment place x host booked cut_away has_limit_room later first is = record {
    number = x.number;
    picked = picked_read r closing moment ∙ ap numbers (first.picks x is) ∙ ap (λ ns. x.number ∷ ns) others;
    log = refl;
    fewer_open = fewer_open_at moment (cause_of closing) place x first.in_range is;
    fewer_idle = fewer_idle_at moment (cause_of closing) place x first.in_range is;
    limit = refl;
    closes = closes_one moment (cause_of closing) place x host booked cut_away has_limit_room first.in_range is;
  }
    where
      after : List Entry
      after = record { moment = moment; event = Closed x.number (cause_of closing) } ∷ log

      fewer : length (open_connections log) - 1 ≡ length (open_connections after)
      fewer = omega (arith, fewer_open_at moment (cause_of closing) place x first.in_range is)

      others : numbers (picked_items closing moment (length (open_connections log) - 1) (remove idle place)) ≡ picked closing moment after
      others =
          ap (λ n. numbers (picked_items closing moment n (remove idle place))) fewer
          ∙ sym (picked_read (replays_close moment later (cause_of closing) place x first.in_range is (of_idle closing)) closing moment)

  -- the first one was closed
  pub closes_first : (cause : Cause) (moment : ℕ) (x : Idle S) (host booked cut_away : ℕ) (has_limit_room : Bool) → 0 < length idle → x ≡ get_or idle 0 x → ClosesFirst cause moment (record { log = log; cut_away = cut_away; settings = settings; host = host; streams = streams_of idle; booked = booked; has_limit_room = has_limit_room }) (record { log = record { moment = moment; event = Closed x.number cause } ∷ log; cut_away = cut_away; settings = settings; host = host; streams = streams_of (remove idle 0); booked = booked; has_limit_room = has_limit_room })
  closes_first cause moment x host booked cut_away has_limit_room some is = record {
    number = x.number;
    oldest = oldest_first r x some is;
    log = refl;
    room = room_made moment cause 0 x some is;
    others = λ d apart. stream_of-remove idle 0 x d r.idle_distinct some is apart;
    fewer_open = fewer_open_at moment cause 0 x some is;
    fewer_idle = fewer_idle_at moment cause 0 x some is;
    limit = refl;
    closes = closes_one moment cause 0 x host booked cut_away has_limit_room some is;
  }

  -- one more waits, or one that waited leaves
  pub replays_wait : (moment : ℕ) → last_moment log ≤ moment → (want : Want) → held_number log want.transfer ≡ None → waits log want.transfer ≡ false → idle_connections log ≡ [] → Replays settings (record { moment = moment; event = Waited want } ∷ log) greatest_used idle held held_len
  replays_wait moment later want free new none_idle = record {
    sound = sound_wait settings log r.sound moment later want free new none_idle;
    greatest_is = r.greatest_is;
    idle_at = r.idle_at;
    idle_distinct = r.idle_distinct;
    idle_in_order = r.idle_in_order;
    idle_len = r.idle_len;
    held_at = r.held_at;
    open_len = r.open_len;
  }

  pub replays_leave : (moment : ℕ) → last_moment log ≤ moment → (transfer : ℕ) → waits log transfer ≡ true → Replays settings (record { moment = moment; event = Left transfer } ∷ log) greatest_used idle held held_len
  replays_leave moment later transfer there = record {
    sound = sound_leave settings log r.sound moment later transfer there;
    greatest_is = r.greatest_is;
    idle_at = r.idle_at;
    idle_distinct = r.idle_distinct;
    idle_in_order = r.idle_in_order;
    idle_len = r.idle_len;
    held_at = r.held_at;
    open_len = r.open_len;
  }

  -- the limit changes
  pub replays_limit : (moment : ℕ) → last_moment log ≤ moment → (most : ℕ) → length (open_connections log) ≤ most → Replays settings (record { moment = moment; event = Limit most } ∷ log) greatest_used idle held held_len
  replays_limit moment later most within = record {
    sound = sound_limit settings log r.sound moment later most within;
    greatest_is = r.greatest_is;
    idle_at = r.idle_at;
    idle_distinct = r.idle_distinct;
    idle_in_order = r.idle_in_order;
    idle_len = r.idle_len;
    held_at = r.held_at;
    open_len = r.open_len;
  }

-- no connection yet
pub replays_new : {S : Type 0} (settings : LimitAndFirst) (greatest_used : ℕ) (held : ℕ → Option Held) → greatest_used ≡ settings.first - 1 → ((t : ℕ) → held t ≡ None) → Replays {S = S} settings [] greatest_used [] held 0
replays_new settings greatest_used held first none = record {
  sound = sound_empty settings;
  greatest_is = first;
  idle_at = λ c. refl;
  idle_distinct = tt;
  idle_in_order = λ i j d lt range. absurd (omega (arith, range));
  idle_len = refl;
  held_at = λ t. ap (option_map facts_of_held) (none t);
  open_len = omega arith;
}
