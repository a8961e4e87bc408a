-- The lines of a transcript that begin with leased.
use Rattle.std.proofs.Common.{◌≡◌, ℕ, ◌<◌, Bool, true, false, cond, List, [], ◌∷◌, ◌++◌, length, filter, refl, ap, sym, ◌∙◌}
use Rattle.std.proofs.lemmas.List.{append_assoc}
use Rattle.std.proofs.lemmas.List.Elements.{All-nil, All-cons, All-head, All-tail, All-append, All-same, All-contains, filter-append}
use Rattle.std.proofs.lemmas.Bool.{eqb-true}
use Rattle.std.specs.Prelude.{codes, ◌==◌}
use Rattle.std.specs.List.{All}
use Rattle.std.specs.Fmt.{decimal}
use Rattle.conn_log.specs.declared.entry.Want.{Want}
use Rattle.conn_log.specs.declared.entry.Event.{Event}
use Rattle.conn_log.specs.declared.entry.Event.TheVariants.{Opened, Leased, Returned, Closed, Waited, Left, Limit}
use Rattle.conn_log.specs.declared.entry.Entry.{Entry}
use Rattle.conn_log.proofs.Soundness.{and_left}
use Rattle.cache.specs.AllHosts.{AllHosts, log_at}
use Rattle.script_text.specs.Printing.{event_text, returned_by}
use Rattle.script_engine.specs.Law.{all_behind, LeasesFree, EachLeaseWasFree, EveryLeaseWasFree}
use Rattle.script_engine.specs.TranscriptLines.{is_event_line, names_host, begins_leased, entry_text, event_lines, leased_text, leased_by, leased_lines, lines_naming, transcript_lines, TellsOfFreeLease, EveryLeaseIsTold, EveryLeasedLineWasFree}
use Rattle.script_engine.proofs.Transcripts.{every_event_is_told, every_event_line_names_a_host}

-- a line that begins with leased is no reply
with-l : (byte : ℕ) (bytes : List ℕ) → byte ≡ 108 → is_event_line (byte ∷ bytes) ≡ true
with-l byte bytes is = rw is refl

leased-is-event : (line : List ℕ) → begins_leased line ≡ true → is_event_line line ≡ true
leased-is-event [] h = refl
leased-is-event (byte ∷ bytes) h = with-l byte bytes (sym (eqb-true 108 byte (and_left (108 == byte) _ h)))

-- among the lines of a log's entries
leased-entry : (host by c moment : ℕ) (want : Want) → event_text host by (Leased c want) ++ (codes " at " ++ decimal moment) ≡ leased_text host c want.transfer moment
leased-entry host by c moment want =
    let last = codes " at " ++ decimal moment in
    ap (λ rest. codes "leased " ++ rest)
    (append_assoc (decimal host) (codes "." ++ (decimal c ++ (codes " to " ++ decimal want.transfer))) last
    ∙ ap (λ rest. decimal host ++ (codes "." ++ rest))
    (append_assoc (decimal c) (codes " to " ++ decimal want.transfer) last
    ∙ ap (λ rest. decimal c ++ rest) (append_assoc (codes " to ") (decimal want.transfer) last)))

leased-event : (host by moment : ℕ) (event : Event) → filter begins_leased ((event_text host by event ++ (codes " at " ++ decimal moment)) ∷ []) ≡ leased_by host moment event
leased-event host by moment (Opened c want) = refl
leased-event host by moment (Leased c want) = ap (λ line. line ∷ []) (leased-entry host by c moment want)
leased-event host by moment (Returned c facts) = refl
leased-event host by moment (Closed c cause) = refl
leased-event host by moment (Waited want) = refl
leased-event host by moment (Left transfer) = refl
leased-event host by moment (Limit n) = refl

leased-in : (host : ℕ) (log : List Entry) → filter begins_leased (event_lines host log) ≡ leased_lines host log
leased-in host [] = refl
leased-in host (e ∷ before) =
    filter-append begins_leased (event_lines host before) (entry_text host before e ∷ [])
    ∙ ap (λ lines. lines ++ filter begins_leased (entry_text host before e ∷ [])) (leased-in host before)
    ∙ ap (λ lines. leased_lines host before ++ lines) (leased-event host (returned_by before e.event) e.moment e.event)

pub every_lease_is_told : EveryLeaseIsTold
every_lease_is_told script host = ap (filter begins_leased) (every_event_is_told script host) ∙ leased-in host (log_at (all_behind script) host)

-- each of them tells of a lease of what was free
module _ (all : AllHosts) (host : ℕ) (there : host < length all.logs) where
  free-entry : (after before : List Entry) (moment : ℕ) (event : Event) → log_at all host ≡ after ++ record { moment = moment; event = event } ∷ before → LeasesFree before event
      → All (TellsOfFreeLease all) (leased_by host moment event)
  free-entry after before moment (Opened c want) place free = All-nil (TellsOfFreeLease all)
  free-entry after before moment (Leased c want) place free =
      All-cons (TellsOfFreeLease all) (leased_text host c want.transfer moment) []
      (record { host = host; there = there; after = after; before = before; c = c; want = want; moment = moment; place = place; text = refl; free = free })
      (All-nil (TellsOfFreeLease all))
  free-entry after before moment (Returned c facts) place free = All-nil (TellsOfFreeLease all)
  free-entry after before moment (Closed c cause) place free = All-nil (TellsOfFreeLease all)
  free-entry after before moment (Waited want) place free = All-nil (TellsOfFreeLease all)
  free-entry after before moment (Left transfer) place free = All-nil (TellsOfFreeLease all)
  free-entry after before moment (Limit n) place free = All-nil (TellsOfFreeLease all)

  free-lines : (after log : List Entry) → log_at all host ≡ after ++ log → EachLeaseWasFree log → All (TellsOfFreeLease all) (leased_lines host log)
  free-lines after [] place each = All-nil (TellsOfFreeLease all)
  free-lines after (e ∷ before) place each =
      All-append (TellsOfFreeLease all) (leased_lines host before) (leased_by host e.moment e.event)
      (free-lines (after ++ e ∷ []) before (place ∙ sym (append_assoc after (e ∷ []) before)) each.1)
      (free-entry after before e.moment e.event place each.0)

-- what holds of each that passes a test
of-passing : (P : List ℕ → Type 0) (p : List ℕ → Bool) (all : List (List ℕ)) → All P (filter p all) → All (λ line. p line ≡ true → P line) all
of-passing P p [] holds = All-nil _
of-passing P p (line ∷ others) holds = by_line (p line) refl holds (λ rest. of-passing P p others rest)
  where
    by_line : (passes : Bool) → p line ≡ passes → All P (cond passes (line ∷ filter p others) (filter p others))
        → (All P (filter p others) → All (λ l. p l ≡ true → P l) others) → All (λ l. p l ≡ true → P l) (line ∷ others)
    by_line true is here rest = All-cons (λ l. p l ≡ true → P l) line others (λ passes. All-head P line (filter p others) here) (rest (All-tail P line (filter p others) here))
    by_line false is here rest = All-cons (λ l. p l ≡ true → P l) line others (λ passes. absurd (cc)) (rest here)

pub every_leased_line_was_free : EveryLeaseWasFree → EveryLeasedLineWasFree
every_leased_line_was_free each_free script line among leased =
    let all = all_behind script in
    let event = leased-is-event line leased in
    let named = every_event_line_names_a_host script line among event in
    let host = named.host in
    let P = TellsOfFreeLease all in
    let free = All-same P (filter begins_leased (lines_naming host script)) (leased_lines host (log_at all host)) (every_lease_is_told script host)
    (free-lines all host named.there [] (log_at all host) refl (each_free script host)) in
    let of_host = of-passing P begins_leased (lines_naming host script) free in
    let of_named = of-passing (λ l. begins_leased l ≡ true → P l) (names_host host) (filter is_event_line (transcript_lines script)) of_host in
    let of_events = of-passing (λ l. names_host host l ≡ true → begins_leased l ≡ true → P l) is_event_line (transcript_lines script) of_named in
    All-contains (λ l. is_event_line l ≡ true → names_host host l ≡ true → begins_leased l ≡ true → P l) (transcript_lines script) line of_events among event named.named leased
