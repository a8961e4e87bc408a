-- The first entries of a log: what a base and the rest's front tell of them, and their lines.
use Rattle.std.proofs.Common.{◌≡◌, ℕ, ◌+◌, ◌-◌, ◌<◌, ◌≤◌, suc, List, [], ◌∷◌, ◌++◌, length, reverse, drop, take, get_or, Some, None, ◌⊎◌, inl, inr, refl, ap, sym, subst, ◌∙◌, arith}
use Rattle.std.proofs.Math.Seq.{take-add}
use Rattle.std.proofs.lemmas.List.{take-append-drop, reverse-append, reverse-reverse, length-reverse, length-drop, length-take-le, drop_at, take_all, get_or-drop}
use Rattle.std.proofs.lemmas.Option.{get_or_from_slice_get, slice_get_within, slice_get_read, slice_get_cases}
use Rattle.std.specs.List.{slice_get}
use Rattle.conn_log.specs.declared.entry.Entry.{Entry}
use Rattle.conn_log.specs.Log.{Recorded}
use Rattle.conn_log.specs.Bases.{summary, past_of}
use Rattle.conn_log.specs.Behind.{holder_behind}
use Rattle.conn_log.specs.Connections.{holder}
use Rattle.conn_log.specs.Legal.{LimitAndFirst, IsLegal}
use Rattle.conn_log.proofs.Logs.{reverse_take_more}
use Rattle.conn_log.proofs.Rests.{tells_the_whole}
use Rattle.script_text.specs.Printing.{entry_line, returned_by, newest_lines, lines_since}
use Rattle.trace_text.specs.LogLines.{first_entries, lines_between, rest_lines}

-- a log is its later entries before its first ones
split : (n : ℕ) (log : List Entry) → reverse (drop n (reverse log)) ++ first_entries n log ≡ log
split n log = sym (reverse-append (take n (reverse log)) (drop n (reverse log))) ∙ ap reverse (take-append-drop n (reverse log)) ∙ reverse-reverse log

-- a legal log's past is legal
past_legal : (settings : LimitAndFirst) (rest past : List Entry) → IsLegal settings (rest ++ past) → IsLegal settings past
past_legal settings [] past legal = legal
past_legal settings (e ∷ rest) past legal = past_legal settings rest past legal.2

first_legal : (settings : LimitAndFirst) (n : ℕ) (log : List Entry) → IsLegal settings log → IsLegal settings (first_entries n log)
first_legal settings n log legal = past_legal settings (reverse (drop n (reverse log))) (first_entries n log) (subst (IsLegal settings) (sym (split n log)) legal)

pub first_length : (n : ℕ) (log : List Entry) → n ≤ length log → length (first_entries n log) ≡ n
first_length n log few = length-reverse (take n (reverse log)) ∙ length-take-le n (reverse log) (omega (arith, few, length-reverse log))

pub first_all : (n : ℕ) (log : List Entry) → length log ≤ n → first_entries n log ≡ log
first_all n log all = ap reverse (take_all n (reverse log) (omega (arith, all, length-reverse log))) ∙ reverse-reverse log

-- those that were cut away
past_first : (log : Recorded) → log.cut_away ≤ length log.entries → past_of log ≡ first_entries log.cut_away log.entries
past_first log within =
    let later = reverse (drop log.cut_away (reverse log.entries)) in
    let few : length later ≡ length log.entries - log.cut_away = length-reverse (drop log.cut_away (reverse log.entries)) ∙ length-drop log.cut_away (reverse log.entries) ∙ ap (λ n. n - log.cut_away) (length-reverse log.entries) in
    ap (drop (length log.entries - log.cut_away)) (sym (split log.cut_away log.entries)) ∙ drop_at later (first_entries log.cut_away log.entries) (length log.entries - log.cut_away) few

-- and behind them a front of the rest
front_first : (log : Recorded) (place : ℕ) → log.cut_away ≤ length log.entries
    → reverse (take place (drop log.cut_away (reverse log.entries))) ++ past_of log ≡ first_entries (log.cut_away + place) log.entries
front_first log place within =
    let items = reverse log.entries in
    ap (λ past. reverse (take place (drop log.cut_away items)) ++ past) (past_first log within)
    ∙ sym (reverse-append (take log.cut_away items) (take place (drop log.cut_away items)))
    ∙ ap reverse (sym (take-add log.cut_away place items))

-- who holds a connection after them
pub holder_told : (settings : LimitAndFirst) (log : Recorded) (place c : ℕ) → log.cut_away ≤ length log.entries → IsLegal settings log.entries
    → holder_behind (summary (past_of log)) (reverse (take place (drop log.cut_away (reverse log.entries)))) c ≡ holder (first_entries (log.cut_away + place) log.entries) c
holder_told settings log place c within legal =
    let front = reverse (take place (drop log.cut_away (reverse log.entries))) in
    let whole = front_first log place within in
    let is_legal = subst (IsLegal settings) (sym whole) (first_legal settings (log.cut_away + place) log.entries legal) in
    (tells_the_whole settings front (past_of log) is_legal).holders c ∙ ap (λ entries. holder entries c) whole

-- one entry more
first_more : (n : ℕ) (log : List Entry) (e : Entry) → slice_get (reverse log) n ≡ Some e → first_entries (n + 1) log ≡ e ∷ first_entries n log
first_more n log e is =
    reverse_take_more (reverse log) n e (slice_get_within (reverse log) n e is) ∙ ap (λ entry. entry ∷ first_entries n log) (get_or_from_slice_get (reverse log) n e e is)

-- no lines between a place and itself, nor behind the last entry
none_between : (host : ℕ) (log : List Entry) → lines_since host log log ≡ []
unfolding lines_since
none_between host log =
    let none : length log - length log ≡ 0 = omega arith in
    ap (λ n. newest_lines host n log) none

pub no_lines : (host : ℕ) (log : List Entry) (n : ℕ) → lines_between host log n n ≡ []
no_lines host log n = none_between host (first_entries n log)

-- the line of one entry more
since_more : (host : ℕ) (old before : List Entry) (e : Entry) → length old ≤ length before
    → lines_since host old (e ∷ before) ≡ lines_since host old before ++ entry_line host (returned_by before e.event) e
unfolding lines_since
since_more host old before e grown =
    let more : length (e ∷ before) - length old ≡ suc (length before - length old) = omega (arith, grown) in
    ap (λ n. newest_lines host n (e ∷ before)) more

pub one_more : (host : ℕ) (log : List Entry) (from n : ℕ) (e : Entry) → from ≤ n → slice_get (reverse log) n ≡ Some e
    → lines_between host log from (n + 1) ≡ lines_between host log from n ++ entry_line host (returned_by (first_entries n log) e.event) e
one_more host log from n e onwards is =
    let within : n < length (reverse log) = slice_get_within (reverse log) n e is in
    let below : n < length log = omega (arith, within, length-reverse log) in
    let grown : length (first_entries from log) ≤ length (first_entries n log) = omega (arith, onwards, below, first_length from log (omega (arith, onwards, below)), first_length n log (omega (arith, below))) in
    ap (lines_since host (first_entries from log)) (first_more n log e is) ∙ since_more host (first_entries from log) (first_entries n log) e grown

-- an entry of a log's rest is one of the log
entry_in : (cut_away place : ℕ) (items : List Entry) (e : Entry) → slice_get (drop cut_away items) place ≡ Some e → slice_get items (cut_away + place) ≡ Some e
entry_in cut_away place items e is =
    let within : place < length (drop cut_away items) = slice_get_within (drop cut_away items) place e is in
    let here : get_or items (cut_away + place) e ≡ e = sym (get_or-drop cut_away items place e) ∙ get_or_from_slice_get (drop cut_away items) place e e is in
    slice_get_read items (length items) (cut_away + place) e refl (omega (arith, within, length-drop cut_away items)) (sym here)

-- where it has none, the rest ends
ends_there : {X : Type 0} (items : List X) (place : ℕ) → slice_get items place ≡ None → length items ≤ place
ends_there {X} items place none = by_case (slice_get_cases items place).1
  where
    by_case : ((x : X) × (place < length items) × (slice_get items place ≡ Some x) × (get_or items place x ≡ x)) ⊎ ((length items ≤ place) × (slice_get items place ≡ None)) → length items ≤ place
    by_case (inl some) = absurd (cc (some.2, none))
    by_case (inr past) = past.0

module _ (host : ℕ) (log : List Entry) (cut_away : ℕ) where
  pub rest_ends : (len place : ℕ) → len + cut_away ≡ length log → place < len → slice_get (drop cut_away (reverse log)) place ≡ None → ⊥
  rest_ends len place all within none =
      let past : length (drop cut_away (reverse log)) ≤ place = ends_there (drop cut_away (reverse log)) place none in
      let few : length (drop cut_away (reverse log)) ≡ length log - cut_away = length-drop cut_away (reverse log) ∙ ap (λ n. n - cut_away) (length-reverse log) in
      omega (arith, all, within, past, few)

  -- the next line of the rest
  pub next_line : (from place by : ℕ) (e : Entry) (line : List ℕ) → from ≤ place → slice_get (drop cut_away (reverse log)) place ≡ Some e → by ≡ returned_by (first_entries (cut_away + place) log) e.event
      → line ≡ entry_line host by e → rest_lines host log cut_away from (place + 1) ≡ rest_lines host log cut_away from place ++ line
  next_line from place by e line onwards is giver its =
      let more : cut_away + (place + 1) ≡ cut_away + place + 1 = omega arith in
      ap (lines_between host log (cut_away + from)) more
      ∙ one_more host log (cut_away + from) (cut_away + place) e (omega (arith, onwards)) (entry_in cut_away place (reverse log) e is)
      ∙ ap (λ text. rest_lines host log cut_away from place ++ text) (ap (λ who. entry_line host who e) (sym giver) ∙ sym its)

  -- behind the last entry there are no lines
  pub same_behind : (from one other : ℕ) → length log ≤ cut_away + one → length log ≤ cut_away + other → rest_lines host log cut_away from one ≡ rest_lines host log cut_away from other
  same_behind from one other past_one past_other = ap (lines_since host (first_entries (cut_away + from) log)) (first_all (cut_away + one) log past_one ∙ sym (first_all (cut_away + other) log past_other))
