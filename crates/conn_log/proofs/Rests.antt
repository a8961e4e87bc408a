-- What a base and a rest tell of a legal log.
use Rattle.std.proofs.Common.{◌≡◌, ℕ, Bool, true, false, not, ◌&&◌, ◌||◌, List, [], ◌∷◌, ◌++◌, filter, reverse, Option, Some, None, is_some, is_none, refl, sym, ap, subst, inl, inr, ◌∙◌, ◌⊎◌, arith}
use Rattle.std.specs.Prelude.{◌==◌, if◌then◌else◌}
use Rattle.std.specs.Option.{option_map, option_map_or, option_and_then}
use Rattle.std.proofs.lemmas.List.{reverse-reverse}
use Rattle.std.proofs.lemmas.Bool.Decides.{nat_tests}
use mathlib.Core.Bool.{false≢true}
use Rattle.conn_log.specs.declared.base.OpenConnection.{OpenConnection}
use Rattle.conn_log.specs.declared.entry.Want.{Want}
use Rattle.conn_log.specs.declared.entry.Event.{Event}
use Rattle.conn_log.specs.declared.entry.Event.TheVariants.{Opened, Leased, Returned, Closed, Waited, Left, Limit}
use Rattle.conn_log.specs.declared.entry.Entry.{Entry}
use Rattle.conn_log.specs.declared.stamp.Stamp.{Stamp}
use Rattle.conn_log.specs.Connections.{is_among, opened, is_closed, open_connections, is_open, idle_connections, is_idle, holder_want, since, since_after}
use Rattle.conn_log.specs.Log.{Recorded}
use Rattle.conn_log.specs.Fit.{first_by, is_idle_longer, is_earlier, stamp_of, oldest}
use Rattle.conn_log.specs.Legal.{LimitAndFirst, IsLegal}
use Rattle.conn_log.specs.Bases.{Summary, summary, rest_of, past_of}
use Rattle.conn_log.specs.Behind.{held_after, opened_behind, open_behind, held_behind, since_behind, stamp_behind, is_idle_longer_behind}
use Rattle.conn_log.specs.Laws.{TellsTheWhole, BaseAndRestTellTheWhole}
use Rattle.conn_log.proofs.Sorted.{told}
use Rattle.conn_log.proofs.Numbers.{filter_agree}
use Rattle.conn_log.proofs.Holdings.{want_without}
use Rattle.conn_log.proofs.Waits.{filter-filter}
use Rattle.conn_log.proofs.Steps.{is_open_is, idle_open_unheld}
use Rattle.conn_log.proofs.Firsts.{first_among}
use Rattle.conn_log.proofs.CountSums.{AddsUp, adds_up}
use Rattle.conn_log.proofs.Bases.{whole}
use Rattle.conn_log.proofs.Entries.{unknown}
use Rattle.conn_log.proofs.Telling.{Knows, knows_all, among_known}

-- a log closes what a front and what follows close
closed_append : (rest past : List Entry) (c : ℕ) → is_closed (rest ++ past) c ≡ (is_closed rest c || is_closed past c)
closed_append [] past c = refl
closed_append (e ∷ rest) past c = grind (arith, closed_append rest past c)

-- a legal log's past is legal
past_legal : (settings : LimitAndFirst) (rest past : List Entry) → IsLegal settings (rest ++ past) → IsLegal settings past
past_legal settings [] past legal = legal
past_legal settings (e ∷ rest) past legal = past_legal settings rest past legal.2

every : (xs : List ℕ) → filter (λ c. true) xs ≡ xs
every [] = refl
every (x ∷ xs) = ap (λ rest. x ∷ rest) (every xs)

-- what the holder wanted after one more event
held_more : (moment : ℕ) (event : Event) (log : List Entry) (c : ℕ) → holder_want (record { moment = moment; event = event } ∷ log) c ≡ held_after event c (holder_want log c)
held_more moment (Opened d want) log c = refl
held_more moment (Leased d want) log c = refl
held_more moment (Returned d facts) log c = want_without d c _
held_more moment (Closed d cause) log c = want_without d c _
held_more moment (Waited want) log c = refl
held_more moment (Left transfer) log c = refl
held_more moment (Limit n) log c = refl

module _ (past : List Entry) (knows : Knows past) (sums : AddsUp past) where
  abbrev base : Summary
  base = summary past

  -- what the base tells of a holder, and of the moment in which a connection last came back
  held_in_base : (c : ℕ) → held_behind base [] c ≡ holder_want past c
  held_in_base c = elim (told (is_open past c)) [
    | inl is_open_now ↦ ap (option_and_then (λ (known : OpenConnection). known.holder)) (knows.known c is_open_now)
    | inr gone ↦ ap (option_and_then (λ (known : OpenConnection). known.holder)) (unknown c base.connections (among_known past knows c ∙ gone)) ∙ sym (unheld (holder_want past c) refl gone)
  ]
    where
      unheld : (held : Option Want) → holder_want past c ≡ held → is_open past c ≡ false → held ≡ None
      unheld None is gone = refl
      unheld (Some want) is gone = absurd (false≢true (sym gone ∙ sums.held_open c (ap is_some is)))

  since_in_base : (c : ℕ) → ((is_among c (opened past) ≡ false) ⊎ (is_open past c ≡ true)) → since_behind base [] c ≡ since past c
  since_in_base c (inl new) =
      let gone : is_open past c ≡ false = is_open_is past c ∙ ap (λ b. b && not (is_closed past c)) new in
      ap (λ found. option_map_or (λ (known : OpenConnection). known.since) found 0) (unknown c base.connections (among_known past knows c ∙ gone)) ∙ sym (knows.fresh c new).0
  since_in_base c (inr is_open_now) = ap (λ found. option_map_or (λ (known : OpenConnection). known.since) found 0) (knows.known c is_open_now)

  pub held_told : (rest : List Entry) (c : ℕ) → held_behind base rest c ≡ holder_want (rest ++ past) c
  held_told [] c = held_in_base c
  held_told (e ∷ rest) c = ap (held_after e.event c) (held_told rest c) ∙ sym (held_more e.moment e.event (rest ++ past) c)

  since_told : (rest : List Entry) (c : ℕ) → ((is_among c (opened past) ≡ false) ⊎ (is_open past c ≡ true)) → since_behind base rest c ≡ since (rest ++ past) c
  since_told [] c where_from = since_in_base c where_from
  since_told (e ∷ rest) c where_from = ap (since_after e.moment e.event c) (since_told rest c where_from)

  -- a connection that is open in the whole was opened later, or is open in the past
  from_where : (rest : List Entry) (c : ℕ) → is_open (rest ++ past) c ≡ true → (is_among c (opened past) ≡ false) ⊎ (is_open past c ≡ true)
  from_where rest c is_open_now = elim (told (is_among c (opened past))) [
    | inl there ↦ inr (grind (arith, is_open_is (rest ++ past) c, is_open_is past c, is_open_now, there, closed_append rest past c))
    | inr new ↦ inl new
  ]

  open_told : (settings : LimitAndFirst) (rest : List Entry) → IsLegal settings (rest ++ past) → open_behind base rest ≡ open_connections (rest ++ past)
  open_told settings [] legal = every (opened_behind base []) ∙ ap reverse knows.numbers ∙ reverse-reverse (open_connections past)
  open_told settings (e ∷ rest) legal = by_event e.moment e.event (adds_up settings (e ∷ rest ++ past) legal) (adds_up settings (rest ++ past) legal.2) (open_told settings rest legal.2)
    where
      both : (a b : Bool) → not (a || b) ≡ (not b && not a)
      both true true = refl
      both true false = refl
      both false true = refl
      both false false = refl

      by_event : (moment : ℕ) (event : Event) → AddsUp (record { moment = moment; event = event } ∷ rest ++ past) → AddsUp (rest ++ past) → open_behind base rest ≡ open_connections (rest ++ past) → open_behind base (record { moment = moment; event = event } ∷ rest) ≡ open_connections (record { moment = moment; event = event } ∷ rest ++ past)
      by_event moment (Opened c want) after so_far same =
          let still : is_closed (rest ++ past) c ≡ false = lasting (is_closed (rest ++ past) c) refl after.distinct.0 in
          let in_rest : is_closed rest c ≡ false = grind (arith, closed_append rest past c, still) in
          rw (in_rest, still) (ap (λ numbers. c ∷ numbers) same)
        where
          lasting : (closed : Bool) → is_closed (rest ++ past) c ≡ closed → is_among c (opened (rest ++ past)) ≡ false → closed ≡ false
          lasting true is new = absurd (false≢true (sym new ∙ so_far.closed_opened c is))
          lasting false is new = refl
      by_event moment (Closed c cause) after so_far same =
          sym (filter-filter (λ d. not (c == d)) (λ d. not (is_closed rest d)) _ (λ d. both (c == d) (is_closed rest d)) (opened_behind base rest)) ∙ ap (filter (λ d. not (c == d))) same
          ∙ filter-filter (λ d. not (c == d)) (λ d. not (is_closed (rest ++ past) d)) _ (λ d. both (c == d) (is_closed (rest ++ past) d)) (opened (rest ++ past))
      by_event moment (Leased c want) after so_far same = same
      by_event moment (Returned c facts) after so_far same = same
      by_event moment (Waited want) after so_far same = same
      by_event moment (Left transfer) after so_far same = same
      by_event moment (Limit n) after so_far same = same

  -- the first one is the same by orders that agree on the numbers
  first_agrees : (g h : ℕ → ℕ → Bool) (xs : List ℕ) → ((c d : ℕ) → is_among c xs ≡ true → is_among d xs ≡ true → g c d ≡ h c d) → first_by g xs ≡ first_by h xs
  first_agrees g h [] agree = refl
  first_agrees g h (x ∷ xs) agree =
      let rest = first_agrees g h xs (λ c d there here. agree c d (grind (arith, there)) (grind (arith, here))) in
      ap (λ first. Some (option_map_or (λ d. if g d x then d else x) first x)) rest ∙ by_first (first_by h xs) (λ c is. first_among h xs c is)
    where
      by_first : (first : Option ℕ) → ((c : ℕ) → first ≡ Some c → is_among c xs ≡ true) → Some (option_map_or (λ d. if g d x then d else x) first x) ≡ Some (option_map_or (λ d. if h d x then d else x) first x)
      by_first None among = refl
      by_first (Some d) among = ap (λ b. Some (if b then d else x)) (agree d x (grind (arith, among d refl)) (grind (arith, nat_tests)))

  stamp_told : (rest : List Entry) (host c : ℕ) → is_open (rest ++ past) c ≡ true → stamp_behind base rest host c ≡ stamp_of (rest ++ past) host c
  stamp_told rest host c is_open_now = ap (λ moment. record { since = moment; host = host; number = c }) (since_told rest c (from_where rest c is_open_now))

  oldest_told : (settings : LimitAndFirst) (rest : List Entry) → IsLegal settings (rest ++ past) → (host : ℕ) → option_map (stamp_behind base rest host) (first_by (is_idle_longer_behind base rest) (filter (λ c. is_none (held_behind base rest c)) (open_behind base rest))) ≡ option_map (stamp_of (rest ++ past) host) (oldest (rest ++ past))
  oldest_told settings rest legal host =
      let log = rest ++ past in
      let idle : filter (λ c. is_none (held_behind base rest c)) (open_behind base rest) ≡ idle_connections log =
      ap (filter (λ c. is_none (held_behind base rest c))) (open_told settings rest legal) ∙ filter_agree _ _ (open_connections log) (λ c there. ap is_none (held_told rest c)) in
      let agree : (c d : ℕ) → is_among c (idle_connections log) ≡ true → is_among d (idle_connections log) ≡ true → is_idle_longer_behind base rest c d ≡ is_idle_longer log c d = λ c d there here.
      ap (λ (s : Stamp). is_earlier s (stamp_behind base rest 0 d)) (stamp_told rest 0 c (idle_open_unheld log c there).0) ∙ ap (is_earlier (stamp_of log 0 c)) (stamp_told rest 0 d (idle_open_unheld log d here).0) in
      ap (λ numbers. option_map (stamp_behind base rest host) (first_by (is_idle_longer_behind base rest) numbers)) idle
      ∙ ap (option_map (stamp_behind base rest host)) (first_agrees (is_idle_longer_behind base rest) (is_idle_longer log) (idle_connections log) agree)
      ∙ by_first (oldest log) (λ c is. first_among (is_idle_longer log) (idle_connections log) c is)
    where
      by_first : (first : Option ℕ) → ((c : ℕ) → first ≡ Some c → is_idle (rest ++ past) c ≡ true) → option_map (stamp_behind base rest host) first ≡ option_map (stamp_of (rest ++ past) host) first
      by_first None among = refl
      by_first (Some c) among = ap Some (stamp_told rest host c (idle_open_unheld (rest ++ past) c (among c refl)).0)

pub tells_the_whole : BaseAndRestTellTheWhole
tells_the_whole settings rest past legal =
    let before = past_legal settings rest past legal in
    let knows = knows_all settings past before in
    let sums = adds_up settings past before in
    record {
      open_ones = open_told past knows sums settings rest legal;
      holders = λ c. ap (option_map (λ (want : Want). want.transfer)) (held_told past knows sums rest c);
      oldest = oldest_told past knows sums settings rest legal;
    }

pub tells_of : (log : Recorded) (settings : LimitAndFirst) → IsLegal settings log.entries → TellsTheWhole (summary (past_of log)) (rest_of log) log.entries
tells_of log settings legal =
    subst (TellsTheWhole (summary (past_of log)) (rest_of log)) (whole log) (tells_the_whole settings (rest_of log) (past_of log) (subst (IsLegal settings) (sym (whole log)) legal))
