-- What a log says of its connections. A log is read with its newest entry first, so that the entries
-- before an entry are the rest of the list.
use Rattle.std.specs.Prelude.{ℕ, ◌-◌, max, Bool, false, not, ◌||◌, ◌==◌, if◌then◌else◌, List, [], ◌∷◌, map, filter, Option, Some, None, is_none}
use Rattle.std.specs.Option.{option_map, option_map_or}
use Rattle.std.specs.List.{list_any}
use Rattle.persistence.specs.declared.facts.Facts.{Facts}
use Rattle.persistence.specs.Persistent.{is_persistent}
use Rattle.conn_log.specs.declared.entry.Want.{Want}
use Rattle.conn_log.specs.declared.entry.Event.{Event}
use Rattle.conn_log.specs.declared.entry.Event.TheVariants.{Opened, Leased, Returned, Closed}
use Rattle.conn_log.specs.declared.entry.Entry.{Entry}

-- the number is one of these
abbrev pub is_among : ℕ → List ℕ → Bool
is_among c numbers = list_any (λ d. d == c) numbers

-- the moment of the newest entry, and 0 before any
abbrev pub last_moment : List Entry → ℕ
last_moment [] = 0
last_moment (e ∷ before) = e.moment

-- opened: the numbers of the connections that were opened
abbrev pub opened_after : Event → List ℕ → List ℕ
opened_after (Opened c want) numbers = c ∷ numbers
opened_after _ numbers = numbers

abbrev pub opened : List Entry → List ℕ
opened [] = []
opened (e ∷ before) = opened_after e.event (opened before)

-- the greatest number used; before any is used, one less than the host's first number
abbrev pub greatest : ℕ → List ℕ → ℕ
greatest first [] = first - 1
greatest first (c ∷ numbers) = max c (greatest first numbers)

-- closed: the connection was closed
abbrev pub closes : Event → ℕ → Bool
closes (Closed d cause) c = d == c
closes _ c = false

abbrev pub is_closed : List Entry → ℕ → Bool
is_closed [] c = false
is_closed (e ∷ before) c = closes e.event c || is_closed before c

-- open: opened and not closed
abbrev pub open_connections : List Entry → List ℕ
open_connections log = filter (λ c. not (is_closed log c)) (opened log)

abbrev pub is_open : List Entry → ℕ → Bool
is_open log c = is_among c (open_connections log)

-- what a transfer holds: the connection, and all that the transfer wanted of it
pub record Holding : Type 0 where
  pub connection : ℕ
  pub want : Want

abbrev pub connections_of : List Holding → List ℕ
connections_of held = map (λ (h : Holding). h.connection) held

abbrev pub transfers_of : List Holding → List ℕ
transfers_of held = map (λ (h : Holding). h.want.transfer) held

-- what is held of the other connections
abbrev pub without_connection : ℕ → List Holding → List Holding
without_connection c held = filter (λ (h : Holding). not (h.connection == c)) held

-- holdings: who holds what, the newest start first; a connection is held from its start until it comes back or is
-- closed
abbrev pub holdings_after : Event → List Holding → List Holding
holdings_after (Opened c want) held = record { connection = c; want = want } ∷ held
holdings_after (Leased c want) held = record { connection = c; want = want } ∷ held
holdings_after (Returned c facts) held = without_connection c held
holdings_after (Closed c cause) held = without_connection c held
holdings_after _ held = held

abbrev pub holdings : List Entry → List Holding
holdings [] = []
holdings (e ∷ before) = holdings_after e.event (holdings before)

-- holder: the transfer that holds the connection; told with all that this transfer wanted
abbrev pub want_among : List Holding → ℕ → Option Want
want_among [] c = None
want_among (h ∷ held) c = if h.connection == c then Some h.want else want_among held c

abbrev pub holder_want : List Entry → ℕ → Option Want
holder_want log c = want_among (holdings log) c

abbrev pub holder : List Entry → ℕ → Option ℕ
holder log c = option_map (λ (want : Want). want.transfer) (holder_want log c)

-- the transfer holds that connection
abbrev pub is_held_by : List Entry → ℕ → ℕ → Bool
is_held_by log transfer c = option_map_or (λ (want : Want). want.transfer == transfer) (holder_want log c) false

-- the connection that a transfer holds
abbrev pub number_among : List Holding → ℕ → Option ℕ
number_among [] transfer = None
number_among (h ∷ held) transfer = if h.want.transfer == transfer then Some h.connection else number_among held transfer

abbrev pub held_number : List Entry → ℕ → Option ℕ
held_number log transfer = number_among (holdings log) transfer

-- the transfer holds a connection
abbrev pub holds : List Entry → ℕ → Bool
holds log transfer = is_among transfer (transfers_of (holdings log))

-- idle: open and without a holder
abbrev pub idle_connections : List Entry → List ℕ
idle_connections log = filter (λ c. is_none (holder_want log c)) (open_connections log)

abbrev pub is_idle : List Entry → ℕ → Bool
is_idle log c = is_among c (idle_connections log)

-- born: the moment in which the connection was opened
abbrev pub born_after : ℕ → Event → ℕ → ℕ → ℕ
born_after moment (Opened d want) c born = if d == c then moment else born
born_after moment _ c born = born

abbrev pub born : List Entry → ℕ → ℕ
born [] c = 0
born (e ∷ before) c = born_after e.moment e.event c (born before c)

-- lane: the lane for which the connection was opened
abbrev pub lane_after : Event → ℕ → ℕ → ℕ
lane_after (Opened d want) c lane = if d == c then want.lane else lane
lane_after _ c lane = lane

abbrev pub lane : List Entry → ℕ → ℕ
lane [] c = 0
lane (e ∷ before) c = lane_after e.event c (lane before c)

-- since: the moment in which the connection last came back
abbrev pub since_after : ℕ → Event → ℕ → ℕ → ℕ
since_after moment (Returned d facts) c since = if d == c then moment else since
since_after moment _ c since = since

abbrev pub since : List Entry → ℕ → ℕ
since [] c = 0
since (e ∷ before) c = since_after e.moment e.event c (since before c)

-- persistent: the facts with which the connection last came back let it persist
abbrev pub persists_after : Event → ℕ → Bool → Bool
persists_after (Returned d facts) c persists = if d == c then is_persistent facts else persists
persists_after _ c persists = persists

abbrev pub came_back_persistent : List Entry → ℕ → Bool
came_back_persistent [] c = false
came_back_persistent (e ∷ before) c = persists_after e.event c (came_back_persistent before c)

-- last facts: the facts with which the connection last came back
abbrev pub last_facts_after : Event → ℕ → Option Facts → Option Facts
last_facts_after (Returned d facts) c last = if d == c then Some facts else last
last_facts_after _ c last = last

abbrev pub last_facts : List Entry → ℕ → Option Facts
last_facts [] c = None
last_facts (e ∷ before) c = last_facts_after e.event c (last_facts before c)
