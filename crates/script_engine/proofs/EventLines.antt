-- The text of a transcript is put together from the lines of its events and replies.
use Rattle.std.proofs.Common.{◌≡◌, ◌≢◌, ℕ, zero, suc, ◌+◌, ◌-◌, ◌^◌, ◌<◌, ◌≤◌, Bool, true, false, List, [], ◌∷◌, ◌++◌, length, filter, slice_index_or, refl, ap, sym, subst, ◌∙◌, append-nil, arith}
use Rattle.std.proofs.lemmas.List.{append_assoc, length-append}
use Rattle.std.proofs.lemmas.List.Elements.{All-nil, All-cons, All-append, All-weaker, filter-append}
use Rattle.std.proofs.lemmas.List.Folds.{list_all-append}
use Rattle.std.proofs.lemmas.Bool.{and_from, eq-eqb, ne_eqb, true≢false}
use Rattle.std.specs.Prelude.{codes}
use Rattle.std.specs.List.{All, list_all}
use Rattle.std.specs.Fmt.{decimal}
use Rattle.conn_log.specs.declared.entry.Event.{Event}
use Rattle.conn_log.specs.declared.entry.Event.TheVariants.{Opened, Leased, Returned, Closed, Waited, Left, Limit}
use Rattle.conn_log.specs.declared.entry.Cause.{Cause}
use Rattle.conn_log.specs.declared.entry.Cause.TheVariants.{NotPersistent, Cut, Forbidden, TooOld, HostRoom, TotalRoom, CacheFull, Dropped, Withdrawn, Pruned}
use Rattle.conn_log.specs.declared.entry.Entry.{Entry}
use Rattle.host_state.specs.Calls.{GrowsBy}
use Rattle.cache.specs.AllHosts.{AllHosts, log_at}
use Rattle.cache.specs.Laws.{Grow}
use Rattle.script_text.specs.Printing.{cause_word, event_text, entry_line, returned_by, newest_lines, lines_since, claimed_line, still_line, look_line, refused, upkeep_line, too_many_leased_line, yes_or_no}
use Rattle.script_engine.specs.Meaning.{lines_from, lines_of_growth}
use Rattle.script_engine.specs.TranscriptLines.{is_event_line, names_host, entry_text, event_lines}
use Rattle.script_engine.proofs.HostNames.{entry-named}
use Rattle.script_engine.proofs.WholeLines.{is_one_line, text_of, text_of-append, one-line-both, decimal-one-line}

-- the lines of one text, and then those of another
parts-both : (front back : List ℕ) (first second : List (List ℕ)) → front ≡ text_of first → back ≡ text_of second → front ++ back ≡ text_of (first ++ second)
parts-both front back first second f b = ap (λ text. text ++ back) f ∙ ap (λ text. text_of first ++ text) b ∙ sym (text_of-append first second)

one-lines-both : (first second : List (List ℕ)) → list_all is_one_line first ≡ true → list_all is_one_line second ≡ true → list_all is_one_line (first ++ second) ≡ true
one-lines-both first second f s = list_all-append is_one_line first second ∙ and_from _ _ f s

-- a test that all lines of two lists pass, or none
all-both : (p : List ℕ → Bool) (first second : List (List ℕ)) → filter p first ≡ first → filter p second ≡ second → filter p (first ++ second) ≡ first ++ second
all-both p first second f s = filter-append p first second ∙ ap (λ lines. lines ++ filter p second) f ∙ ap (λ lines. first ++ lines) s

none-both : (p : List ℕ → Bool) (first second : List (List ℕ)) → filter p first ≡ [] → filter p second ≡ [] → filter p (first ++ second) ≡ []
none-both p first second f s = filter-append p first second ∙ ap (λ lines. lines ++ filter p second) f ∙ s

-- a line that passes a test, and one that does not
kept-out : (p : List ℕ → Bool) (line : List ℕ) → p line ≡ false → filter p (line ∷ []) ≡ []
kept-out p line e = rw e refl

kept-in : (p : List ℕ → Bool) (line : List ℕ) → p line ≡ true → filter p (line ∷ []) ≡ line ∷ []
kept-in p line e = rw e refl

-- a line names a host below that number
abbrev pub NamesBelow : ℕ → List ℕ → Type 0
NamesBelow count line = (host : ℕ) × (host < count) × (names_host host line ≡ true)

-- or it is a reply
abbrev pub NamedBelow : ℕ → List ℕ → Type 0
NamedBelow count line = is_event_line line ≡ true → NamesBelow count line

-- a text is that of the lines of the entries by which a host's log grew, all of which name it and no other
record TellsHost (host : ℕ) (old new : List Entry) (text : List ℕ) : Type 0 where
  parts : List (List ℕ)
  whole : text ≡ text_of parts
  one_lines : list_all is_one_line parts ≡ true
  are_events : filter is_event_line parts ≡ parts
  own : filter (names_host host) parts ≡ parts
  no_others : (other : ℕ) → other ≢ host → filter (names_host other) parts ≡ []
  named : All (λ line. names_host host line ≡ true) parts
  events : event_lines host new ≡ event_lines host old ++ parts

host-nothing : (host : ℕ) (log : List Entry) → TellsHost host log log []
host-nothing host log = record {
  parts = [];
  whole = refl;
  one_lines = refl;
  are_events = refl;
  own = refl;
  no_others = λ other apart. refl;
  named = All-nil _;
  events = sym (append-nil (event_lines host log));
}

host-both : (host : ℕ) (old mid new : List Entry) (front back : List ℕ) → TellsHost host old mid front → TellsHost host mid new back → TellsHost host old new (front ++ back)
host-both host old mid new front back first second = record {
  parts = first.parts ++ second.parts;
  whole = parts-both front back first.parts second.parts first.whole second.whole;
  one_lines = one-lines-both first.parts second.parts first.one_lines second.one_lines;
  are_events = all-both is_event_line first.parts second.parts first.are_events second.are_events;
  own = all-both (names_host host) first.parts second.parts first.own second.own;
  no_others = λ other apart. none-both (names_host other) first.parts second.parts (first.no_others other apart) (second.no_others other apart);
  named = All-append (λ line. names_host host line ≡ true) first.parts second.parts first.named second.named;
  events = second.events ∙ ap (λ lines. lines ++ second.parts) first.events ∙ append_assoc (event_lines host old) first.parts second.parts;
}

-- an entry
cause-one-line : (cause : Cause) → is_one_line (cause_word cause) ≡ true
cause-one-line NotPersistent = refl
cause-one-line Cut = refl
cause-one-line Forbidden = refl
cause-one-line TooOld = refl
cause-one-line HostRoom = refl
cause-one-line TotalRoom = refl
cause-one-line CacheFull = refl
cause-one-line Dropped = refl
cause-one-line Withdrawn = refl
cause-one-line Pruned = refl

number-then : (n : ℕ) (rest : List ℕ) → is_one_line rest ≡ true → is_one_line (decimal n ++ rest) ≡ true
number-then n rest one = one-line-both (decimal n) rest (decimal-one-line n) one

event-one-line : (host by : ℕ) (event : Event) → is_one_line (event_text host by event) ≡ true
event-one-line host by (Opened c want) = number-then host _ (number-then c _ (decimal-one-line want.transfer))
event-one-line host by (Leased c want) = number-then host _ (number-then c _ (decimal-one-line want.transfer))
event-one-line host by (Returned c facts) = number-then host _ (number-then c _ (decimal-one-line by))
event-one-line host by (Closed c cause) = number-then host _ (number-then c _ (cause-one-line cause))
event-one-line host by (Waited want) = number-then want.transfer _ (decimal-one-line host)
event-one-line host by (Left transfer) = number-then transfer _ (decimal-one-line host)
event-one-line host by (Limit n) = number-then host _ (decimal-one-line n)

entry-one-line : (host : ℕ) (before : List Entry) (e : Entry) → is_one_line (entry_text host before e) ≡ true
entry-one-line host before e = one-line-both (event_text host (returned_by before e.event) e.event) (codes " at " ++ decimal e.moment) (event-one-line host (returned_by before e.event) e.event) (decimal-one-line e.moment)

event-is-event : (host by : ℕ) (event : Event) (rest : List ℕ) → is_event_line (event_text host by event ++ rest) ≡ true
event-is-event host by (Opened c want) rest = refl
event-is-event host by (Leased c want) rest = refl
event-is-event host by (Returned c facts) rest = refl
event-is-event host by (Closed c cause) rest = refl
event-is-event host by (Waited want) rest = refl
event-is-event host by (Left transfer) rest = refl
event-is-event host by (Limit n) rest = refl

entry-is-event : (host : ℕ) (before : List Entry) (e : Entry) → is_event_line (entry_text host before e) ≡ true
entry-is-event host before e = event-is-event host (returned_by before e.event) e.event (codes " at " ++ decimal e.moment)

entry-with-end : (host : ℕ) (before : List Entry) (e : Entry) → entry_line host (returned_by before e.event) e ≡ entry_text host before e ++ codes "\n"
entry-with-end host before e =
    let text = event_text host (returned_by before e.event) e.event in
    sym (append_assoc text (codes " at " ++ decimal e.moment) (codes "\n")
    ∙ ap (λ rest. text ++ rest) (append_assoc (codes " at ") (decimal e.moment) (codes "\n")))

host-entry : (host : ℕ) (before : List Entry) (e : Entry) → host < 2 ^ 64 → TellsHost host before (e ∷ before) (entry_line host (returned_by before e.event) e)
host-entry host before e small =
    let line = entry_text host before e in
    let own_line : names_host host line ≡ true = entry-named host host before e small ∙ eq-eqb host host refl in
    record {
      parts = line ∷ [];
      whole = entry-with-end host before e;
      one_lines = and_from (is_one_line line) true (entry-one-line host before e) refl;
      are_events = kept-in is_event_line line (entry-is-event host before e);
      own = kept-in (names_host host) line own_line;
      no_others = λ other apart. kept-out (names_host other) line (entry-named other host before e small ∙ ne_eqb other host apart);
      named = All-cons (λ l. names_host host l ≡ true) line [] own_line (All-nil (λ l. names_host host l ≡ true));
      events = refl;
    }

-- the entries by which a host's log grew
host-added : (host : ℕ) (added old : List Entry) → host < 2 ^ 64 → TellsHost host old (added ++ old) (newest_lines host (length added) (added ++ old))
host-added host [] old small = host-nothing host old
host-added host (e ∷ added) old small = host-both host old (added ++ old) (e ∷ (added ++ old)) _ _ (host-added host added old small) (host-entry host (added ++ old) e small)

count-added : (added old : List Entry) → length (added ++ old) - length old ≡ length added
count-added added old = simp length-append (omega arith)

host-grown : (host : ℕ) (old new : List Entry) → host < 2 ^ 64 → GrowsBy old new → TellsHost host old new (lines_since host old new)
unfolding lines_since
host-grown host old new small grew =
    subst (λ log. TellsHost host old log (newest_lines host (length log - length old) log)) (sym grew.1)
    (subst (λ n. TellsHost host old (grew.0 ++ old) (newest_lines host n (grew.0 ++ old))) (sym (count-added grew.0 old)) (host-added host grew.0 old small))

-- the logs of the hosts from one on
record TellsFrom (count first : ℕ) (olds news : List (List Entry)) (text : List ℕ) : Type 0 where
  parts : List (List ℕ)
  whole : text ≡ text_of parts
  one_lines : list_all is_one_line parts ≡ true
  are_events : filter is_event_line parts ≡ parts
  none_before : (host : ℕ) → host < first → filter (names_host host) parts ≡ []
  named : All (NamesBelow count) parts
  events : (place host : ℕ) → host ≡ first + place → event_lines host (slice_index_or news place []) ≡ event_lines host (slice_index_or olds place []) ++ filter (names_host host) parts

from-both : (count first : ℕ) (old new : List Entry) (olds news : List (List Entry)) (front back : List ℕ) → first < count
    → TellsHost first old new front → TellsFrom count (suc first) olds news back → TellsFrom count first (old ∷ olds) (new ∷ news) (front ++ back)
from-both count first old new olds news front back there one others = record {
  parts = one.parts ++ others.parts;
  whole = parts-both front back one.parts others.parts one.whole others.whole;
  one_lines = one-lines-both one.parts others.parts one.one_lines others.one_lines;
  are_events = all-both is_event_line one.parts others.parts one.are_events others.are_events;
  none_before = λ host before. none-both (names_host host) one.parts others.parts (one.no_others host (λ same. omega arith)) (others.none_before host (omega arith));
  named = All-append (NamesBelow count) one.parts others.parts (All-weaker (λ line. names_host first line ≡ true) (NamesBelow count) (λ line named. (first, there, named)) one.parts one.named) others.named;
  events = at;
}
  where
    at : (place host : ℕ) → host ≡ first + place
        → event_lines host (slice_index_or (new ∷ news) place []) ≡ event_lines host (slice_index_or (old ∷ olds) place []) ++ filter (names_host host) (one.parts ++ others.parts)
    at zero host is =
        let here : host ≡ first = omega arith in
        let kept : filter (names_host first) (one.parts ++ others.parts) ≡ one.parts =
        filter-append (names_host first) one.parts others.parts
        ∙ ap (λ lines. lines ++ filter (names_host first) others.parts) one.own
        ∙ ap (λ lines. one.parts ++ lines) (others.none_before first (omega arith))
        ∙ append-nil one.parts in
        subst (λ h. event_lines h new ≡ event_lines h old ++ filter (names_host h) (one.parts ++ others.parts)) (sym here)
        (one.events ∙ ap (λ lines. event_lines first old ++ lines) (sym kept))
    at (suc place) host is =
        let apart : host ≢ first = λ same. omega arith in
        others.events place host (omega arith)
        ∙ ap (λ lines. event_lines host (slice_index_or olds place []) ++ lines)
        (sym (filter-append (names_host host) one.parts others.parts ∙ ap (λ lines. lines ++ filter (names_host host) others.parts) (one.no_others host apart)))

from-grown : (count first : ℕ) (olds news : List (List Entry)) → count ≤ 1024 → length news ≡ length olds → first + length news ≤ count
    → ((place : ℕ) → GrowsBy (slice_index_or olds place []) (slice_index_or news place [])) → TellsFrom count first olds news (lines_from first olds news)
from-grown count first [] [] few same within grew = record {
  parts = [];
  whole = refl;
  one_lines = refl;
  are_events = refl;
  none_before = λ host before. refl;
  named = All-nil _;
  events = λ place host is. refl;
}
from-grown count first [] (new ∷ news) few same within grew = absurd (omega arith)
from-grown count first (old ∷ olds) [] few same within grew = absurd (omega arith)
from-grown count first (old ∷ olds) (new ∷ news) few same within grew =
    from-both count first old new olds news (lines_since first old new) (lines_from (suc first) olds news) (omega arith)
    (host-grown first old new (omega arith) (grew 0))
    (from-grown count (suc first) olds news few (omega arith) (omega arith) (λ place. grew (suc place)))

-- a text is that of lines of which those that are no replies tell of the entries by which the logs grew, each naming its
-- host; there are as many hosts as before, or more, but not too many
pub record Tells (old new : AllHosts) (text : List ℕ) : Type 0 where
  pub parts : List (List ℕ)
  pub whole : text ≡ text_of parts
  pub one_lines : list_all is_one_line parts ≡ true
  pub events : (host : ℕ) → event_lines host (log_at new host) ≡ event_lines host (log_at old host) ++ filter (names_host host) (filter is_event_line parts)
  pub named : All (NamedBelow (length new.logs)) parts
  pub count : length old.logs ≤ length new.logs
  pub few : length old.logs ≤ 1024 → length new.logs ≤ 1024

-- nothing is told where no log has more entries
pub tells-same : (old new : AllHosts) → length old.logs ≤ length new.logs → length new.logs ≤ 1024 → ((host : ℕ) → log_at new host ≡ log_at old host) → Tells old new []
tells-same old new count few same = record {
  parts = [];
  whole = refl;
  one_lines = refl;
  events = λ host. ap (event_lines host) (same host) ∙ sym (append-nil (event_lines host (log_at old host)));
  named = All-nil _;
  count = count;
  few = λ small. few;
}

pub tells-nothing : (all : AllHosts) → Tells all all []
tells-nothing all = record {
  parts = [];
  whole = refl;
  one_lines = refl;
  events = λ host. sym (append-nil (event_lines host (log_at all host)));
  named = All-nil _;
  count = omega arith;
  few = λ small. small;
}

pub tells-both : (old mid new : AllHosts) (front back : List ℕ) → Tells old mid front → Tells mid new back → Tells old new (front ++ back)
tells-both old mid new front back first second = record {
  parts = first.parts ++ second.parts;
  whole = parts-both front back first.parts second.parts first.whole second.whole;
  one_lines = one-lines-both first.parts second.parts first.one_lines second.one_lines;
  events = λ host.
      second.events host ∙ ap (λ lines. lines ++ told host second.parts) (first.events host)
      ∙ append_assoc (event_lines host (log_at old host)) (told host first.parts) (told host second.parts)
      ∙ ap (λ lines. event_lines host (log_at old host) ++ lines) (told-both host);
  named = All-append (NamedBelow (length new.logs)) first.parts second.parts (All-weaker (NamedBelow (length mid.logs)) (NamedBelow (length new.logs)) wider first.parts first.named) second.named;
  count = omega (arith, first.count, second.count);
  few = λ small. second.few (first.few small);
}
  where
    told : ℕ → List (List ℕ) → List (List ℕ)
    told host lines = filter (names_host host) (filter is_event_line lines)

    told-both : (host : ℕ) → told host first.parts ++ told host second.parts ≡ told host (first.parts ++ second.parts)
    told-both host =
        sym (filter-append (names_host host) (filter is_event_line first.parts) (filter is_event_line second.parts))
        ∙ ap (filter (names_host host)) (sym (filter-append is_event_line first.parts second.parts))

    wider : (line : List ℕ) → NamedBelow (length mid.logs) line → NamedBelow (length new.logs) line
    wider line named event = let is = named event in (is.0, omega (arith, is.1, second.count), is.2)

-- what was added to the logs
pub tells-grown : (old new : AllHosts) → length old.logs ≤ 1024 → Grow old new → Tells old new (lines_of_growth old new)
tells-grown old new few grew =
    let from = from-grown (length new.logs) 0 old.logs new.logs (omega (arith, grew.count)) grew.count (omega arith) grew.each in
    record {
      parts = from.parts;
      whole = from.whole;
      one_lines = from.one_lines;
      events = λ host. from.events host host (omega arith) ∙ ap (λ lines. event_lines host (log_at old host) ++ filter (names_host host) lines) (sym from.are_events);
      named = All-weaker (NamesBelow (length new.logs)) (NamedBelow (length new.logs)) (λ line named event. named) from.parts from.named;
      count = omega (arith, grew.count);
      few = λ small. omega (arith, grew.count);
    }

-- a reply
tells-reply : (all : AllHosts) (line : List ℕ) → is_one_line line ≡ true → is_event_line line ≡ false → Tells all all (line ++ codes "\n")
tells-reply all line one reply = record {
  parts = line ∷ [];
  whole = refl;
  one_lines = and_from _ _ one refl;
  events = λ host. sym (ap (λ lines. event_lines host (log_at all host) ++ filter (names_host host) lines) (kept-out is_event_line line reply) ∙ append-nil (event_lines host (log_at all host)));
  named = All-cons (NamedBelow (length all.logs)) line [] (λ event. absurd (true≢false (sym event ∙ reply))) (All-nil _);
  count = omega arith;
  few = λ small. small;
}

pub tells-refused : (all : AllHosts) (word : List ℕ) → is_one_line word ≡ true → Tells all all (refused word)
tells-refused all word one =
    subst (Tells all all) (append_assoc (codes "refused ") word (codes "\n"))
    (tells-reply all (codes "refused " ++ word) (one-line-both (codes "refused ") word refl one) refl)

-- a look
record EndsOnce (text : List ℕ) : Type 0 where
  line : List ℕ
  ended : text ≡ line ++ codes "\n"
  one_line : is_one_line line ≡ true

word-ends : (word : List ℕ) → is_one_line word ≡ true → EndsOnce (word ++ codes "\n")
word-ends word one = record { line = word; ended = refl; one_line = one }

longer-ends : (front text : List ℕ) → is_one_line front ≡ true → EndsOnce text → EndsOnce (front ++ text)
longer-ends front text one ends = record {
  line = front ++ ends.line;
  ended = ap (λ rest. front ++ rest) ends.ended ∙ sym (append_assoc front ends.line (codes "\n"));
  one_line = one-line-both front ends.line one ends.one_line;
}

number-ends : (n : ℕ) (text : List ℕ) → EndsOnce text → EndsOnce (decimal n ++ text)
number-ends n text ends = longer-ends (decimal n) text (decimal-one-line n) ends

yes-ends : (answer : Bool) → EndsOnce (yes_or_no answer ++ codes "\n")
yes-ends true = word-ends (codes "yes") refl
yes-ends false = word-ends (codes "no") refl

tells-ended : (all : AllHosts) (front text : List ℕ) → is_one_line front ≡ true → (ends : EndsOnce text) → is_event_line (front ++ ends.line) ≡ false → Tells all all (front ++ text)
tells-ended all front text one ends reply =
    subst (Tells all all) (append_assoc front ends.line (codes "\n") ∙ ap (λ rest. front ++ rest) (sym ends.ended))
    (tells-reply all (front ++ ends.line) (one-line-both front ends.line one ends.one_line) reply)

tells-host : (all : AllHosts) (text : List ℕ) → EndsOnce text → Tells all all (codes "host " ++ text)
tells-host all text ends = tells-ended all (codes "host ") text refl ends refl

pub tells-look : (all : AllHosts) (host alive idle leased waiting : ℕ) (queued : Bool) → Tells all all (look_line host alive idle leased waiting queued)
tells-look all host alive idle leased waiting queued =
    tells-host all _ (number-ends host _ (longer-ends (codes " open ") _ refl (number-ends alive _ (longer-ends (codes " idle ") _ refl (number-ends idle _
    (longer-ends (codes " leased ") _ refl (number-ends leased _ (longer-ends (codes " waiting ") _ refl (number-ends waiting _
    (longer-ends (codes " queued ") _ refl (yes-ends queued)))))))))))

-- a claim
pub tells-claimed : (all : AllHosts) (host c : ℕ) → Tells all all (claimed_line host c)
tells-claimed all host c =
    tells-ended all (codes "claimed ") _ refl (number-ends host _ (longer-ends (codes ".") _ refl (number-ends c _ (word-ends [] refl)))) refl

pub tells-still : (all : AllHosts) → Tells all all still_line
tells-still all = tells-reply all (codes "still waiting") refl refl

-- an upkeep, and a limit that is refused
pub tells-upkeep : (all : AllHosts) (kept : ℕ) → Tells all all (upkeep_line kept)
tells-upkeep all kept = tells-ended all (codes "upkeep ") _ refl (number-ends kept _ (word-ends [] refl)) refl

pub tells-too-many : (all : AllHosts) (held : ℕ) → Tells all all (too_many_leased_line held)
tells-too-many all held = tells-ended all (codes "refused leased ") _ refl (number-ends held _ (word-ends [] refl)) refl
