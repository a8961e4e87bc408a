-- What a step adds keeps a log orderly.
use Rattle.std.proofs.Common.{◌≡◌, ℕ, ◌+◌, ◌<◌, ◌≤◌, Bool, true, false, not, ◌&&◌, ◌||◌, List, ◌∷◌, length, filter, Option, Some, None, is_some, is_none, refl, sym, ap, subst, inl, inr, ◌∙◌, arith}
use Rattle.std.specs.Prelude.{◌==◌, if◌then◌else◌}
use Rattle.std.specs.Option.{option_map, option_map_or}
use Rattle.std.proofs.lemmas.Bool.Decides.{nat_tests, eqb_tells}
use Rattle.persistence.specs.declared.facts.Facts.{Facts}
use Rattle.persistence.specs.Persistent.{is_persistent}
use Rattle.conn_log.specs.declared.entry.Want.{Want}
use Rattle.conn_log.specs.declared.entry.Cause.{Cause}
use Rattle.conn_log.specs.declared.entry.Event.TheVariants.{Opened, Leased, Returned, Closed, Waited, Left, Limit}
use Rattle.conn_log.specs.declared.entry.Entry.{Entry}
use Rattle.conn_log.specs.Connections.{is_among, opened, is_closed, open_connections, is_open, without_connection, holdings, want_among, number_among, held_number, holder_want, is_held_by, idle_connections, is_idle, born, since, lane, came_back_persistent}
use Rattle.conn_log.specs.Waiting.{waiting, without, waits}
use Rattle.conn_log.specs.Legal.{LimitAndFirst, limit_in_force}
use Rattle.conn_log.specs.Sound.{IsOrderly, has_number, IdleFacts, idle_facts, held_facts, facts_if_held}
use Rattle.conn_log.proofs.Waits.{filter-filter}
use Rattle.conn_log.proofs.Queues.{is_waiting, once_without, once_last, waits_without, waits_last}
use Rattle.conn_log.proofs.Holdings.{unless_it_is, free_not_among, nobodys_not_among, connections_without, transfers_without, want_without, number_without, without_twice, holder_returned, number_returned}
use Rattle.conn_log.proofs.Numbers.{is_among-filter, filter_agree, parted, length-filter_flip}

-- open and idle, as tests of one number
pub is_open_is : (log : List Entry) (c : ℕ) → is_open log c ≡ (is_among c (opened log) && not (is_closed log c))
is_open_is log c = is_among-filter (λ d. not (is_closed log d)) c (opened log)

pub is_idle_is : (log : List Entry) (c : ℕ) → is_idle log c ≡ (is_open log c && is_none (holder_want log c))
is_idle_is log c = is_among-filter (λ d. is_none (holder_want log d)) c (open_connections log)

pub opened_not_closed : (log : List Entry) (c : ℕ) → is_open log c ≡ true → (is_among c (opened log) ≡ true) × (is_closed log c ≡ false)
opened_not_closed log c was_open = grind (arith, is_open_is log c, was_open)

pub idle_open_unheld : (log : List Entry) (c : ℕ) → is_idle log c ≡ true → (is_open log c ≡ true) × (is_none (holder_want log c) ≡ true)
idle_open_unheld log c idle = grind (arith, is_idle_is log c, idle)

-- not closed and nobody's: of those opened, these are idle
abbrev pub is_free : List Entry → ℕ → Bool
is_free log c = not (is_closed log c) && is_none (holder_want log c)

pub idle_of_opened : (log : List Entry) → idle_connections log ≡ filter (is_free log) (opened log)
idle_of_opened log = filter-filter (λ c. is_none (holder_want log c)) (λ c. not (is_closed log c)) (is_free log) (λ c. refl) (opened log)

-- what is open beside the one just opened was open before
pub open_before : (c d moment : ℕ) (want : Want) (log : List Entry) → (c == d) ≡ false → is_open (record { moment = moment; event = Opened c want } ∷ log) d ≡ true → is_open log d ≡ true
open_before c d moment want log other still = grind (arith, other, still, is_open_is (record { moment = moment; event = Opened c want } ∷ log) d, is_open_is log d)

-- a connection is gone: closed, and nobody's
pub record IsGone (c : ℕ) (log after : List Entry) : Type 0 where
  pub opened : opened after ≡ opened log
  pub closed : (d : ℕ) → is_closed after d ≡ ((c == d) || is_closed log d)
  pub held : (d : ℕ) → holder_want after d ≡ (if c == d then None else holder_want log d)
  pub holdings : holdings after ≡ without_connection c (holdings log)
  pub waiting : waiting after ≡ waiting log
  pub lane : (d : ℕ) → lane after d ≡ lane log d
  pub born : (d : ℕ) → born after d ≡ born log d
  pub since : (d : ℕ) → (c == d) ≡ false → since after d ≡ since log d
  pub persists : (d : ℕ) → (c == d) ≡ false → came_back_persistent after d ≡ came_back_persistent log d
  pub limit : (settings : LimitAndFirst) → limit_in_force settings after ≡ limit_in_force settings log

-- a close makes a connection gone, and so does a return with the close that it owes
pub gone_closed : (moment c : ℕ) (cause : Cause) (log : List Entry) → IsGone c log (record { moment = moment; event = Closed c cause } ∷ log)
gone_closed moment c cause log = record {
  opened = refl;
  closed = λ d. refl;
  held = λ d. want_without c d (holdings log);
  holdings = refl;
  waiting = refl;
  lane = λ d. refl;
  born = λ d. refl;
  since = λ d other. refl;
  persists = λ d other. refl;
  limit = λ settings. refl;
}

-- the close that a return owes may come in a later moment
pub gone_later : (moment later c : ℕ) (facts : Facts) (cause : Cause) (log : List Entry) → IsGone c log (record { moment = later; event = Closed c cause } ∷ record { moment = moment; event = Returned c facts } ∷ log)
gone_later moment later c facts cause log = record {
  opened = refl;
  closed = λ d. refl;
  held = λ d. ap (λ held. want_among held d) (without_twice c (holdings log)) ∙ want_without c d (holdings log);
  holdings = without_twice c (holdings log);
  waiting = refl;
  lane = λ d. refl;
  born = λ d. refl;
  since = λ d other. rw other refl;
  persists = λ d other. rw other refl;
  limit = λ settings. refl;
}

pub gone_ended : (moment c : ℕ) (facts : Facts) (cause : Cause) (log : List Entry) → IsGone c log (record { moment = moment; event = Closed c cause } ∷ record { moment = moment; event = Returned c facts } ∷ log)
gone_ended moment c facts cause log = gone_later moment moment c facts cause log

-- a use ends
ends_once : (was : Bool) (held : Option ℕ) (c d : ℕ) → was ≡ has_number held d → (if c == d then false else was) ≡ has_number (unless_it_is c held) d
ends_once was None c d is = grind (arith, nat_tests, is)
ends_once was (Some e) c d is = grind (arith, nat_tests, is)

one_holder : (held : Option Want) (transfer t : ℕ) → option_map_or (λ (w : Want). w.transfer == transfer) held false ≡ true → (transfer == t) ≡ false → option_map_or (λ (w : Want). w.transfer == t) held false ≡ false
one_holder None transfer t mine other = refl
one_holder (Some w) transfer t mine other = grind (arith, nat_tests, mine, other)

-- none but that one
unless_other : (c : ℕ) (held : Option ℕ) → has_number held c ≡ false → unless_it_is c held ≡ held
unless_other c None out = refl
unless_other c (Some d) out = rw out refl

-- the facts as a function of their parts
abbrev made : Bool → ℕ → ℕ → ℕ → Option IdleFacts
made idle l b s = if idle then Some (record { lane = l; born = b; since = s }) else None

same_facts : (log after : List Entry) (d : ℕ) → is_idle after d ≡ is_idle log d → lane after d ≡ lane log d → born after d ≡ born log d → since after d ≡ since log d → idle_facts after d ≡ idle_facts log d
same_facts log after d idle l b s =
    let e1 : made (is_idle after d) (lane after d) (born after d) (since after d) ≡ made (is_idle log d) (lane after d) (born after d) (since after d) = ap (λ i. made i (lane after d) (born after d) (since after d)) idle in
    let e2 = ap (λ n. made (is_idle log d) n (born after d) (since after d)) l in
    let e3 = ap (λ n. made (is_idle log d) (lane log d) n (since after d)) b in
    let e4 = ap (λ n. made (is_idle log d) (lane log d) (born log d) n) s in
    e1 ∙ e2 ∙ e3 ∙ e4

not_idle_none : (log : List Entry) (d : ℕ) → is_idle log d ≡ false → idle_facts log d ≡ None
not_idle_none log d out = ap (λ i. made i (lane log d) (born log d) (since log d)) out

and_parts : (a b : Bool) → (a && b) ≡ true → (a ≡ true) × (b ≡ true)
and_parts a b both = grind (arith, both)

module _ (settings : LimitAndFirst) (log : List Entry) (orderly : IsOrderly settings log) where
  -- a number that was never opened is neither closed nor held
  pub new_not_closed : (c : ℕ) → is_among c (opened log) ≡ false → is_closed log c ≡ false
  new_not_closed c new = grind (arith, orderly.closed_opened c)

  pub new_not_held : (c : ℕ) → is_among c (opened log) ≡ false → is_some (holder_want log c) ≡ false
  new_not_held c new = grind (arith, orderly.held_open c, is_open_is log c)

  pub unheld : (c : ℕ) → is_some (holder_want log c) ≡ false → holder_want log c ≡ None
  unheld c none = grind (arith, none)

  -- a transfer that holds none starts on a connection that nobody holds
  held_once_start : (c d transfer : ℕ) (want : Want) → holder_want log c ≡ None → held_number log want.transfer ≡ None → option_map_or (λ (w : Want). w.transfer == transfer) (if c == d then Some want else holder_want log d) false ≡ has_number (if want.transfer == transfer then Some c else held_number log transfer) d
  held_once_start c d transfer want nobody free = elim (eqb_tells c d) [
    | inl here ↦ elim (eqb_tells want.transfer transfer) [
      | inl same ↦ rw (here.0, same.0) (sym here.0)
      | inr other ↦
          let old = orderly.held_once c transfer in
          let none : is_held_by log transfer c ≡ false = rw nobody refl in
          rw (here.0, other.0) (sym none ∙ old ∙ ap (has_number (held_number log transfer)) here.1)
    ]
    | inr elsewhere ↦ elim (eqb_tells want.transfer transfer) [
      | inl same ↦
          let old = orderly.held_once d transfer in
          let none : held_number log transfer ≡ None = ap (held_number log) (sym same.1) ∙ free in
          rw (elsewhere.0, same.0) (old ∙ ap (λ held. has_number held d) none ∙ sym elsewhere.0)
      | inr other ↦ rw (elsewhere.0, other.0) (orderly.held_once d transfer)
    ]
  ]

  -- who still waits holds nothing, once a transfer starts
  free_start : (c : ℕ) (want : Want) (transfer : ℕ) → is_waiting (without want.transfer (waiting log)) transfer ≡ true → (if want.transfer == transfer then Some c else held_number log transfer) ≡ None
  free_start c want transfer left =
      let parts = and_parts (not (want.transfer == transfer)) (is_waiting (waiting log) transfer) (sym (waits_without want.transfer transfer (waiting log)) ∙ left) in
      let other : (want.transfer == transfer) ≡ false = grind (arith, parts.0) in
      rw other (orderly.waiting_free transfer parts.1)

  -- a transfer that holds nothing waits
  pub orderly_wait : (moment : ℕ) (want : Want) → held_number log want.transfer ≡ None → waits log want.transfer ≡ false → IsOrderly settings (record { moment = moment; event = Waited want } ∷ log)
  orderly_wait moment want free new = record {
    distinct = orderly.distinct;
    closed_opened = orderly.closed_opened;
    held_open = orderly.held_open;
    connections_once = orderly.connections_once;
    transfers_once = orderly.transfers_once;
    held_once = orderly.held_once;
    idle_persists = orderly.idle_persists;
    within = orderly.within;
    wait_once = once_last want (waiting log) orderly.wait_once new;
    waiting_free = λ transfer left. elim (eqb_tells want.transfer transfer) [
      | inl same ↦ subst (λ (t : ℕ). held_number log t ≡ None) same.1 free
      | inr other ↦ orderly.waiting_free transfer (still other.0 (sym (waits_last want transfer (waiting log)) ∙ left))
    ];
  }
    where
      still : {a b : Bool} → a ≡ false → (b || a) ≡ true → b ≡ true
      still out either = grind (arith, out, either)

  -- a transfer leaves
  pub orderly_leave : (moment transfer : ℕ) → IsOrderly settings (record { moment = moment; event = Left transfer } ∷ log)
  orderly_leave moment transfer = record {
    distinct = orderly.distinct;
    closed_opened = orderly.closed_opened;
    held_open = orderly.held_open;
    connections_once = orderly.connections_once;
    transfers_once = orderly.transfers_once;
    held_once = orderly.held_once;
    idle_persists = orderly.idle_persists;
    within = orderly.within;
    wait_once = once_without transfer (waiting log) orderly.wait_once;
    waiting_free = λ t left. orderly.waiting_free t (and_parts (not (transfer == t)) (is_waiting (waiting log) t) (sym (waits_without transfer t (waiting log)) ∙ left)).1;
  }

  -- the host's limit changes
  pub orderly_limit : (moment n : ℕ) → length (open_connections log) ≤ n → IsOrderly settings (record { moment = moment; event = Limit n } ∷ log)
  orderly_limit moment n within = record {
    distinct = orderly.distinct;
    closed_opened = orderly.closed_opened;
    held_open = orderly.held_open;
    connections_once = orderly.connections_once;
    transfers_once = orderly.transfers_once;
    held_once = orderly.held_once;
    idle_persists = orderly.idle_persists;
    within = within;
    wait_once = orderly.wait_once;
    waiting_free = orderly.waiting_free;
  }

  -- a new connection for a transfer that holds none
  module _ (moment c : ℕ) (want : Want) (new : is_among c (opened log) ≡ false) (free : held_number log want.transfer ≡ None) (room : length (open_connections log) < limit_in_force settings log) where
    idle_same_open : (d : ℕ) → is_idle (record { moment = moment; event = Opened c want } ∷ log) d ≡ is_idle log d
    idle_same_open d = grind (arith, nat_tests, is_idle_is (record { moment = moment; event = Opened c want } ∷ log) d, is_open_is (record { moment = moment; event = Opened c want } ∷ log) d, is_idle_is log d, is_open_is log d, λ (e : c ≡ d). ap (λ (n : ℕ). is_among n (opened log)) e, new)

    -- what is kept of idle ones
    pub idle_facts_open : (d : ℕ) → idle_facts (record { moment = moment; event = Opened c want } ∷ log) d ≡ idle_facts log d
    idle_facts_open d = elim (eqb_tells c d) [
      | inl here ↦
          let out : is_idle log d ≡ false = grind (arith, is_idle_is log d, is_open_is log d, ap (λ (n : ℕ). is_among n (opened log)) here.1, new) in
          not_idle_none (record { moment = moment; event = Opened c want } ∷ log) d (idle_same_open d ∙ out) ∙ sym (not_idle_none log d out)
      | inr other ↦ same_facts log (record { moment = moment; event = Opened c want } ∷ log) d (idle_same_open d) (rw other.0 refl) (rw other.0 refl) refl
    ]

    -- what is kept of held ones
    pub held_facts_open : (t : ℕ) → held_facts (record { moment = moment; event = Opened c want } ∷ log) t ≡ (if want.transfer == t then Some (record { number = c; lane = want.lane; born = moment; forbids_reuse = want.forbid_reuse }) else held_facts log t)
    held_facts_open t = elim (eqb_tells want.transfer t) [
      | inl same ↦ rw same.0 (grind (arith, nat_tests))
      | inr other ↦ rw other.0 (opened_others t (held_number log t) (orderly.held_once c t))
    ]
      where
        opened_others : (t : ℕ) (held : Option ℕ) → is_held_by log t c ≡ has_number held c → option_map (facts_if_held (record { moment = moment; event = Opened c want } ∷ log)) held ≡ option_map (facts_if_held log) held
        opened_others t None out = refl
        opened_others t (Some d) out =
            let none : holder_want log c ≡ None = unheld c (new_not_held c new) in
            let nobody : is_held_by log t c ≡ false = rw none refl in
            let apart : (c == d) ≡ false = grind (arith, nat_tests, out, nobody) in
            rw apart refl

    -- one more is open
    pub more_open : length (open_connections (record { moment = moment; event = Opened c want } ∷ log)) ≡ length (open_connections log) + 1
    more_open = rw (new_not_closed c new) (omega arith)

    -- as many are idle
    pub as_many_idle_open : length (idle_connections (record { moment = moment; event = Opened c want } ∷ log)) ≡ length (idle_connections log)
    as_many_idle_open =
        let held : is_free (record { moment = moment; event = Opened c want } ∷ log) c ≡ false = grind (arith, nat_tests) in
        let same : filter (is_free (record { moment = moment; event = Opened c want } ∷ log)) (opened log) ≡ filter (is_free log) (opened log) = filter_agree (is_free (record { moment = moment; event = Opened c want } ∷ log)) (is_free log) (opened log) (λ d there. grind (arith, parted c d (opened log) new there)) in
        rw (idle_of_opened (record { moment = moment; event = Opened c want } ∷ log), idle_of_opened log, held) (ap length same)

    pub orderly_open : IsOrderly settings (record { moment = moment; event = Opened c want } ∷ log)
    orderly_open = record {
      distinct = (new, orderly.distinct);
      closed_opened = λ d closed. grind (arith, nat_tests, orderly.closed_opened d);
      held_open = λ d held. rw (is_open_is (record { moment = moment; event = Opened c want } ∷ log) d) (grind (arith, nat_tests, new_not_closed c new, orderly.held_open d, is_open_is log d));
      connections_once = (nobodys_not_among c (holdings log) (unheld c (new_not_held c new)), orderly.connections_once);
      transfers_once = (free_not_among want.transfer (holdings log) free, orderly.transfers_once);
      held_once = λ d transfer. held_once_start c d transfer want (unheld c (new_not_held c new)) free;
      idle_persists = λ d idle. let was = is_idle_is (record { moment = moment; event = Opened c want } ∷ log) d in let open_was = is_open_is (record { moment = moment; event = Opened c want } ∷ log) d in grind (arith, nat_tests, was, open_was, is_idle_is log d, is_open_is log d, orderly.idle_persists d);
      within = rw (new_not_closed c new) (omega (arith, room));
      wait_once = once_without want.transfer (waiting log) orderly.wait_once;
      waiting_free = λ transfer left. free_start c want transfer left;
    }

  -- who holds what, once a connection is nobody's
  held_once_end : (c d transfer : ℕ) → option_map_or (λ (w : Want). w.transfer == transfer) (if c == d then None else holder_want log d) false ≡ has_number (unless_it_is c (held_number log transfer)) d
  held_once_end c d transfer =
      let ends = ends_once (is_held_by log transfer d) (held_number log transfer) c d (orderly.held_once d transfer) in
      elim (eqb_tells c d) [
        | inl here ↦ rw here.0 (rw here.0 at ends)
        | inr other ↦ rw other.0 (rw other.0 at ends)
      ]

  -- a connection that one transfer holds is not another's
  not_held_by_other : (c transfer t : ℕ) → held_number log transfer ≡ Some c → (transfer == t) ≡ false → has_number (held_number log t) c ≡ false
  not_held_by_other c transfer t holds other =
      let mine : is_held_by log transfer c ≡ true = orderly.held_once c transfer ∙ ap (λ held. has_number held c) holds ∙ grind (arith, nat_tests) in
      sym (orderly.held_once c t) ∙ one_holder (holder_want log c) transfer t mine other

  pub others_kept : (c t : ℕ) (after : List Entry) → ((d : ℕ) → holder_want after d ≡ (if c == d then None else holder_want log d)) → ((d : ℕ) → lane after d ≡ lane log d) → ((d : ℕ) → born after d ≡ born log d) → (held : Option ℕ) → has_number held c ≡ false → option_map (facts_if_held after) (unless_it_is c held) ≡ option_map (facts_if_held log) held
  others_kept c t after held' same_lane same_born None out = refl
  others_kept c t after held' same_lane same_born (Some d) out =
      let apart : (c == d) ≡ false = grind (arith, nat_tests, out) in
      let holder : holder_want after d ≡ holder_want log d = grind (arith, held' d, apart) in
      let forbids = ap (λ held. option_map_or (λ (w : Want). w.forbid_reuse) held false) holder in
      rw out (grind (arith, same_lane d, same_born d, forbids))

  -- who holds what, where it is one that someone holds, and where it is nobody's
  pub taken_end : (c transfer : ℕ) → held_number log transfer ≡ Some c → (t : ℕ) → unless_it_is c (held_number log t) ≡ (if transfer == t then None else held_number log t)
  taken_end c transfer holds t = elim (eqb_tells transfer t) [
    | inl same ↦
        let it : held_number log t ≡ Some c = ap (held_number log) (sym same.1) ∙ holds in
        rw same.0 (rw it (grind (arith, nat_tests)))
    | inr other ↦ rw other.0 (unless_other c (held_number log t) (not_held_by_other c transfer t holds other.0))
  ]

  pub taken_same : (c : ℕ) → holder_want log c ≡ None → (t : ℕ) → unless_it_is c (held_number log t) ≡ held_number log t
  taken_same c none t =
      let nobody : is_held_by log t c ≡ false = rw none refl in
      unless_other c (held_number log t) (sym (orderly.held_once c t) ∙ nobody)

  -- what is kept of held ones, once a connection is nobody's
  held_facts_end : (c transfer : ℕ) → held_number log transfer ≡ Some c → (after : List Entry) → ((d : ℕ) → holder_want after d ≡ (if c == d then None else holder_want log d)) → ((d : ℕ) → lane after d ≡ lane log d) → ((d : ℕ) → born after d ≡ born log d) → (t : ℕ) → option_map (facts_if_held after) (unless_it_is c (held_number log t)) ≡ (if transfer == t then None else held_facts log t)
  held_facts_end c transfer holds after held same_lane same_born t = elim (eqb_tells transfer t) [
    | inl same ↦
        let it : held_number log t ≡ Some c = ap (held_number log) (sym same.1) ∙ holds in
        rw same.0 (rw it (grind (arith, nat_tests)))
    | inr other ↦ rw other.0 (others_kept c t after held same_lane same_born (held_number log t) (not_held_by_other c transfer t holds other.0))
  ]

  -- a leased connection was idle
  module _ (moment c : ℕ) (want : Want) (idle : is_idle log c ≡ true) (free : held_number log want.transfer ≡ None) where
    idle_unheld : is_some (holder_want log c) ≡ false
    idle_unheld = grind (arith, is_idle_is log c, idle)

    -- what is kept of idle ones
    pub idle_facts_lease : (d : ℕ) → idle_facts (record { moment = moment; event = Leased c want } ∷ log) d ≡ (if c == d then None else idle_facts log d)
    idle_facts_lease d = elim (eqb_tells c d) [
      | inl here ↦ rw here.0 (not_idle_none (record { moment = moment; event = Leased c want } ∷ log) d (grind (arith, here.0, is_idle_is (record { moment = moment; event = Leased c want } ∷ log) d)))
      | inr other ↦ rw other.0 (same_facts log (record { moment = moment; event = Leased c want } ∷ log) d (grind (arith, other.0, is_idle_is (record { moment = moment; event = Leased c want } ∷ log) d, is_idle_is log d)) refl refl refl)
    ]

    -- what is kept of held ones
    pub held_facts_lease : (t : ℕ) → held_facts (record { moment = moment; event = Leased c want } ∷ log) t ≡ (if want.transfer == t then Some (record { number = c; lane = lane log c; born = born log c; forbids_reuse = want.forbid_reuse }) else held_facts log t)
    held_facts_lease t = elim (eqb_tells want.transfer t) [
      | inl same ↦ rw same.0 (grind (arith, nat_tests))
      | inr other ↦ rw other.0 (leased_others t (held_number log t) (orderly.held_once c t))
    ]
      where
        leased_others : (t : ℕ) (held : Option ℕ) → is_held_by log t c ≡ has_number held c → option_map (facts_if_held (record { moment = moment; event = Leased c want } ∷ log)) held ≡ option_map (facts_if_held log) held
        leased_others t None out = refl
        leased_others t (Some d) out =
            let none : holder_want log c ≡ None = unheld c idle_unheld in
            let nobody : is_held_by log t c ≡ false = rw none refl in
            let apart : (c == d) ≡ false = grind (arith, nat_tests, out, nobody) in
            rw apart refl

    -- one fewer is idle
    pub fewer_idle_lease : length (idle_connections log) ≡ length (idle_connections (record { moment = moment; event = Leased c want } ∷ log)) + 1
    fewer_idle_lease =
        let open_unheld = idle_open_unheld log c idle in
        let opened_closed = opened_not_closed log c open_unheld.0 in
        rw (idle_of_opened (record { moment = moment; event = Leased c want } ∷ log), idle_of_opened log) (length-filter_flip (is_free log) (is_free (record { moment = moment; event = Leased c want } ∷ log)) c (opened log) orderly.distinct opened_closed.0 (grind (arith, opened_closed.1, open_unheld.1)) (grind (arith, nat_tests)) (λ d other. grind (arith, other)))

    pub orderly_lease : IsOrderly settings (record { moment = moment; event = Leased c want } ∷ log)
    orderly_lease = record {
      distinct = orderly.distinct;
      closed_opened = orderly.closed_opened;
      held_open = λ d held. grind (arith, nat_tests, orderly.held_open d, is_idle_is log c, idle, λ (e : c ≡ d). ap (is_open log) e);
      connections_once = (nobodys_not_among c (holdings log) (unheld c idle_unheld), orderly.connections_once);
      transfers_once = (free_not_among want.transfer (holdings log) free, orderly.transfers_once);
      held_once = λ d transfer. held_once_start c d transfer want (unheld c idle_unheld) free;
      idle_persists = λ d still. grind (arith, nat_tests, is_idle_is (record { moment = moment; event = Leased c want } ∷ log) d, is_idle_is log d, orderly.idle_persists d);
      within = orderly.within;
      wait_once = once_without want.transfer (waiting log) orderly.wait_once;
      waiting_free = λ transfer left. free_start c want transfer left;
    }

  -- a connection comes back and stays
  module _ (moment c : ℕ) (facts : Facts) (persists : is_persistent facts ≡ true) where
    abbrev back : List Entry
    back = record { moment = moment; event = Returned c facts } ∷ log

    unheld_now : (d : ℕ) → holder_want back d ≡ (if c == d then None else holder_want log d)
    unheld_now d = holder_returned moment c facts log d

    pub taken_back : (t : ℕ) → held_number back t ≡ unless_it_is c (held_number log t)
    taken_back t = number_returned moment c facts log t orderly.transfers_once

    -- what is kept of idle ones
    pub idle_facts_return : is_open log c ≡ true → (d : ℕ) → idle_facts back d ≡ (if c == d then Some (record { lane = lane log c; born = born log c; since = moment }) else idle_facts log d)
    idle_facts_return was_open d = elim (eqb_tells c d) [
      | inl here ↦
          let there : is_idle back c ≡ true = grind (arith, nat_tests, is_idle_is back c, was_open, unheld_now c) in
          let now : Option IdleFacts = Some (record { lane = lane log c; born = born log c; since = moment }) in
          subst (λ (n : ℕ). idle_facts back n ≡ now) here.1 (returned_facts there) ∙ sym (ap (λ b. if b then now else idle_facts log d) here.0)
      | inr other ↦
          let now : Option IdleFacts = Some (record { lane = lane log c; born = born log c; since = moment }) in
          same_facts log back d (grind (arith, other.0, is_idle_is back d, is_idle_is log d, unheld_now d)) refl refl (rw other.0 refl) ∙ sym (ap (λ b. if b then now else idle_facts log d) other.0)
    ]
      where
        returned_facts : is_idle back c ≡ true → idle_facts back c ≡ Some (record { lane = lane log c; born = born log c; since = moment })
        returned_facts there = grind (arith, nat_tests, there)

    -- what is kept of held ones
    pub held_facts_return : (transfer : ℕ) → held_number log transfer ≡ Some c → (t : ℕ) → held_facts back t ≡ (if transfer == t then None else held_facts log t)
    held_facts_return transfer holds t = ap (option_map (facts_if_held back)) (taken_back t) ∙ held_facts_end c transfer holds back unheld_now (λ d. refl) (λ d. refl) t

    -- one more is idle
    pub more_idle : is_open log c ≡ true → is_some (holder_want log c) ≡ true → length (idle_connections back) ≡ length (idle_connections log) + 1
    more_idle was_open held =
        let opened_closed = opened_not_closed log c was_open in
        rw (idle_of_opened back, idle_of_opened log) (length-filter_flip (is_free back) (is_free log) c (opened log) orderly.distinct opened_closed.0 (grind (arith, nat_tests, opened_closed.1, unheld_now c)) (grind (arith, held)) (λ d other. grind (arith, other, unheld_now d)))

    pub orderly_return : IsOrderly settings back
    orderly_return = record {
      distinct = orderly.distinct;
      closed_opened = orderly.closed_opened;
      held_open = λ d held. grind (arith, nat_tests, orderly.held_open d, unheld_now d);
      connections_once = connections_without c (holdings log) orderly.connections_once;
      transfers_once = transfers_without c (holdings log) orderly.transfers_once;
      held_once = λ d transfer. rw (unheld_now d, taken_back transfer) (held_once_end c d transfer);
      idle_persists = λ d still. grind (arith, nat_tests, persists, is_idle_is back d, is_idle_is log d, orderly.idle_persists d, unheld_now d);
      within = orderly.within;
      wait_once = orderly.wait_once;
      waiting_free = λ transfer left. taken_back transfer ∙ ap (unless_it_is c) (orderly.waiting_free transfer left);
    }

  -- a connection is gone
  module _ (c : ℕ) (after : List Entry) (gone : IsGone c log after) where
    -- whoever held it holds nothing
    pub gone_taken : (transfer : ℕ) → held_number after transfer ≡ unless_it_is c (held_number log transfer)
    gone_taken transfer = ap (λ held. number_among held transfer) gone.holdings ∙ number_without c transfer (holdings log) orderly.transfers_once

    pub gone_open : (d : ℕ) → is_open after d ≡ (not (c == d) && is_open log d)
    gone_open d = grind (arith, nat_tests, is_open_is after d, is_open_is log d, gone.closed d, ap (is_among d) gone.opened)

    -- one fewer is open
    pub fewer_open : is_open log c ≡ true → length (open_connections log) ≡ length (open_connections after) + 1
    fewer_open was_open =
        let opened_closed : (is_among c (opened log) ≡ true) × (is_closed log c ≡ false) = opened_not_closed log c was_open in
        rw gone.opened (length-filter_flip (λ d. not (is_closed log d)) (λ d. not (is_closed after d)) c (opened log) orderly.distinct opened_closed.0 (ap not opened_closed.1) (grind (arith, nat_tests, gone.closed c)) (λ d other. grind (arith, other, gone.closed d)))

    -- as many are idle, where it was held
    pub as_many_idle : is_some (holder_want log c) ≡ true → length (idle_connections after) ≡ length (idle_connections log)
    as_many_idle held =
        rw (idle_of_opened after, idle_of_opened log, gone.opened) (ap length (filter_agree (is_free after) (is_free log) (opened log) (λ d there. grind (arith, nat_tests, gone.closed d, gone.held d, held, λ (e : c ≡ d). ap (holder_want log) e))))

    -- one fewer is idle, where it was idle
    pub fewer_idle : is_idle log c ≡ true → length (idle_connections log) ≡ length (idle_connections after) + 1
    fewer_idle idle =
        let open_unheld : (is_open log c ≡ true) × (is_none (holder_want log c) ≡ true) = idle_open_unheld log c idle in
        let opened_closed = opened_not_closed log c open_unheld.0 in
        rw (idle_of_opened after, idle_of_opened log, gone.opened) (length-filter_flip (is_free log) (is_free after) c (opened log) orderly.distinct opened_closed.0 (grind (arith, opened_closed.1, open_unheld.1)) (grind (arith, nat_tests, gone.closed c)) (λ d other. grind (arith, other, gone.closed d, gone.held d)))

    -- what is kept of idle ones
    pub idle_facts_gone : (d : ℕ) → idle_facts after d ≡ (if c == d then None else idle_facts log d)
    idle_facts_gone d = elim (eqb_tells c d) [
      | inl here ↦
          let out : is_idle after d ≡ false = grind (arith, is_idle_is after d, gone_open d, here.0) in
          rw here.0 (not_idle_none after d out)
      | inr other ↦
          let same : is_idle after d ≡ is_idle log d = grind (arith, is_idle_is after d, is_idle_is log d, gone_open d, gone.held d, other.0) in
          rw other.0 (same_facts log after d same (gone.lane d) (gone.born d) (gone.since d other.0))
    ]

    -- what is kept of those that are held by others
    pub held_facts_gone : (transfer : ℕ) → held_number log transfer ≡ Some c → (t : ℕ) → held_facts after t ≡ (if transfer == t then None else held_facts log t)
    held_facts_gone transfer holds t = rw (gone_taken t) (held_facts_end c transfer holds after gone.held gone.lane gone.born t)

    pub orderly_gone : is_open log c ≡ true → IsOrderly settings after
    orderly_gone was_open = record {
      distinct = rw gone.opened orderly.distinct;
      closed_opened = λ d closed. rw gone.opened (grind (arith, nat_tests, gone.closed d, orderly.closed_opened d, is_open_is log c, was_open, λ (e : c ≡ d). ap (λ (n : ℕ). is_among n (opened log)) e));
      held_open = λ d held. grind (arith, nat_tests, gone_open d, gone.held d, orderly.held_open d);
      connections_once = rw gone.holdings (connections_without c (holdings log) orderly.connections_once);
      transfers_once = rw gone.holdings (transfers_without c (holdings log) orderly.transfers_once);
      held_once = λ d transfer. rw (gone.held d, gone_taken transfer) (held_once_end c d transfer);
      idle_persists = λ d still. grind (arith, nat_tests, is_idle_is after d, is_idle_is log d, gone_open d, gone.held d, gone.persists d, orderly.idle_persists d);
      within = omega (arith, orderly.within, fewer_open was_open, gone.limit settings);
      wait_once = rw gone.waiting orderly.wait_once;
      waiting_free = λ transfer left. gone_taken transfer ∙ ap (unless_it_is c) (orderly.waiting_free transfer (ap (λ wants. is_waiting wants transfer) (sym gone.waiting) ∙ left));
    }
