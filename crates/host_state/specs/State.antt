-- What a bundle's state has to do with its log.
use Rattle.std.specs.Prelude.{◌≡◌, ℕ, ◌+◌, ◌-◌, ◌*◌, ◌≤◌, Bool, true, false, not, ◌&&◌, ◌==◌, if◌then◌else◌, List, [], ◌∷◌, length, Option, Some, None}
use Rattle.std.specs.Option.{option_map, option_map_or}
use Rattle.persistence.specs.declared.facts.Facts.{Facts}
use Rattle.persistence.specs.Persistent.{is_persistent}
use Rattle.conn_log.specs.declared.entry.Want.{Want}
use Rattle.conn_log.specs.declared.entry.Cause.{Cause}
use Rattle.conn_log.specs.declared.entry.Cause.TheVariants.{CacheFull}
use Rattle.conn_log.specs.declared.entry.Event.TheVariants.{Leased, Returned, Closed, Limit}
use Rattle.conn_log.specs.declared.entry.Entry.{Entry}
use Rattle.conn_log.specs.Connections.{last_moment, opened, greatest, is_open, held_number, open_connections, idle_connections}
use Rattle.conn_log.specs.Waiting.{waiting}
use Rattle.conn_log.specs.Fit.{newest_fit, oldest}
use Rattle.conn_log.specs.Legal.{LimitAndFirst, limit_in_force, owed}
use Rattle.conn_log.specs.Sound.{IsSound, AreDistinct, HeldFacts, idle_facts, held_facts}
use Rattle.conn_log.specs.Starts.{start_count}
use Rattle.host_state.specs.declared.idle.Idle.{Idle}
use Rattle.host_state.specs.declared.held.Held.{Held}
use Rattle.host_state.specs.declared.closing.Closing.{Closing}
use Rattle.host_state.specs.declared.closing.Closing.TheVariants.{Above}
use Rattle.host_state.specs.Steps.{add, is_full, cause_of, picked, without_picked}
use Rattle.host_state.specs.Idle.{find_number, numbers, facts_of_idle, stream_of, AreInOrder}

-- a host as a step sees it: its log, how many of the log's entries were cut away, the limit with which it began
-- and its first number, its index, the streams of its idle connections by number, how many acquires are halfway,
-- and whether there is room for the entry of a changed limit
pub record HostState (S : Type 0) : Type 0 where
  pub log : List Entry
  pub cut_away : ℕ
  pub settings : LimitAndFirst
  pub host : ℕ
  pub streams : List (ℕ × S)
  pub booked : ℕ
  pub has_limit_room : Bool

-- what the log knows of a held connection
abbrev pub facts_of_held : Held → HeldFacts
facts_of_held held = record { number = held.number; lane = held.lane; born = held.born; forbids_reuse = held.forbids_reuse }

-- the state says of each connection and of each transfer what the log says; beside that, how many are
-- idle and how many are held, and the greatest number
pub record Replays {S : Type 0} (settings : LimitAndFirst) (log : List Entry) (greatest_used : ℕ) (idle : List (Idle S)) (held : ℕ → Option Held) (held_len : ℕ) : Type 0 where
  pub sound : IsSound settings log
  pub greatest_is : greatest_used ≡ greatest settings.first (opened log)
  pub idle_at : (c : ℕ) → option_map facts_of_idle (find_number idle c) ≡ idle_facts log c
  pub idle_distinct : AreDistinct (numbers idle)
  pub idle_in_order : AreInOrder idle
  pub idle_len : length idle ≡ length (idle_connections log)
  pub held_at : (transfer : ℕ) → option_map facts_of_held (held transfer) ≡ held_facts log transfer
  pub open_len : length (open_connections log) ≡ length idle + held_len

-- how many entries a changed limit may add beside those of its closings, once room was made for it
abbrev pub entries_of_limit : Bool → ℕ
entries_of_limit true = 1
entries_of_limit false = 0

-- room for what is to come: of entries one for each idle connection, two for each held one, three for each
-- transfer that waits and four for each acquire halfway, and that of a changed limit; a place in the idle list
-- for each connection, each transfer that waits and each acquire halfway; one in the table for each transfer
-- that waits and for each acquire halfway; one in the queue for the latter
pub record HasRoom (has_limit_room : Bool) (booked idle_len held_len waiting_len free_entries idle_capacity held_spare queue_spare : ℕ) : Type 0 where
  pub log_room : entries_of_limit has_limit_room + (4 * booked + (3 * waiting_len + (2 * held_len + idle_len))) ≤ free_entries
  pub idle_room : booked + (waiting_len + (idle_len + held_len)) ≤ idle_capacity
  pub held_room : booked + waiting_len ≤ held_spare
  pub queue_room : booked ≤ queue_spare

-- what is booked once a transfer has started: where nobody waited it was one of those booked
abbrev pub booked_after_start : List Want → ℕ → ℕ
booked_after_start [] booked = booked - 1
booked_after_start (head ∷ others) booked = booked

-- the host stays, with the limit with which it began and its first number, and nothing is cut away from its log
pub record IsSameHost {S : Type 0} (old new : HostState S) : Type 0 where
  pub settings : new.settings ≡ old.settings
  pub host : new.host ≡ old.host
  pub cut_away : new.cut_away ≡ old.cut_away

-- the limit in force
abbrev pub limit_of : {S : Type 0} → HostState S → ℕ
limit_of state = limit_in_force state.settings state.log

-- how many connections are open, and how many idle
abbrev pub open_len : {S : Type 0} → HostState S → ℕ
open_len state = length (open_connections state.log)

abbrev pub idle_len : {S : Type 0} → HostState S → ℕ
idle_len state = length (idle_connections state.log)

-- each connection that is open has its stream; and so has each but one
abbrev pub KeepsOpen : {S : Type 0} → HostState S → HostState S → Type 0
KeepsOpen old new = (d : ℕ) → is_open new.log d ≡ true → stream_of new.streams d ≡ stream_of old.streams d

abbrev pub KeepsOpenBut : {S : Type 0} → ℕ → HostState S → HostState S → Type 0
KeepsOpenBut c old new = (d : ℕ) → (c == d) ≡ false → is_open new.log d ≡ true → stream_of new.streams d ≡ stream_of old.streams d

-- of a host's connections only idle ones were closed: the same were opened, none is open that was not, those
-- that are open have their streams, and who holds what and who waits stay
pub record ClosesIdle {S : Type 0} (moment : ℕ) (old new : HostState S) : Type 0 where
  pub opened : opened new.log ≡ opened old.log
  pub starts : start_count new.log ≡ start_count old.log
  pub still : (d : ℕ) → is_open new.log d ≡ true → is_open old.log d ≡ true
  pub streams : KeepsOpen old new
  pub holders : (t : ℕ) → held_number new.log t ≡ held_number old.log t
  pub waiting : waiting new.log ≡ waiting old.log
  pub later : last_moment new.log ≤ moment
  pub booked : new.booked ≡ old.booked
  pub same : IsSameHost old new

-- the first one that a closing picks was closed; it picks the others still
pub record ClosesNext {S : Type 0} (closing : Closing) (moment : ℕ) (old new : HostState S) : Type 0 where
  pub number : ℕ
  pub picked : picked closing moment old.log ≡ number ∷ picked closing moment new.log
  pub log : new.log ≡ add moment (Closed number (cause_of closing)) old.log
  pub fewer_open : open_len old ≡ open_len new + 1
  pub fewer_idle : idle_len old ≡ idle_len new + 1
  pub limit : limit_of new ≡ limit_of old
  pub closes : ClosesIdle moment old new

-- the one that is idle for the longest was closed, so that the host has room
pub record ClosesFirst {S : Type 0} (cause : Cause) (moment : ℕ) (old new : HostState S) : Type 0 where
  pub number : ℕ
  pub oldest : oldest old.log ≡ Some number
  pub log : new.log ≡ add moment (Closed number cause) old.log
  pub room : is_full new.settings new.log ≡ false
  pub others : (d : ℕ) → (number == d) ≡ false → stream_of new.streams d ≡ stream_of old.streams d
  pub fewer_open : open_len old ≡ open_len new + 1
  pub fewer_idle : idle_len old ≡ idle_len new + 1
  pub limit : limit_of new ≡ limit_of old
  pub closes : ClosesIdle moment old new

-- the limit is a new one, once so many of the oldest were closed that no more connections are open
pub record SetsLimit {S : Type 0} (most moment closed : ℕ) (old new : HostState S) : Type 0 where
  pub log : new.log ≡ add moment (Limit most) (without_picked (Above most) moment old.log)
  pub fewer_open : open_len old ≡ open_len new + closed
  pub fewer_idle : idle_len old ≡ idle_len new + closed
  pub limit : limit_of new ≡ most
  pub closes : ClosesIdle moment old new

-- a connection came back after a response that ends its use, and was closed at once, as is owed then
pub record EndsUse (old new : List Entry) (c : ℕ) (facts : Facts) (moment : ℕ) : Type 0 where
  pub cause : Cause
  pub owes : owed (add moment (Returned c facts) old) ≡ Some (c, cause)
  pub log : new ≡ add moment (Closed c cause) (add moment (Returned c facts) old)

-- the first transfer that waits wants this
pub record WaitsFirst (log : List Entry) (want : Want) : Type 0 where
  pub others : List Want
  pub first : waiting log ≡ want ∷ others

-- a lease on the newest fit connection, with the stream kept under its number
pub record LeasesNewest {S : Type 0} (old new : HostState S) (want : Want) (moment c : ℕ) (stream : S) : Type 0 where
  pub newest : newest_fit old.log want moment ≡ Some c
  pub was_open : is_open old.log c ≡ true
  pub log : new.log ≡ add moment (Leased c want) old.log
  pub kept : stream_of old.streams c ≡ Some stream
  pub others : (d : ℕ) → (c == d) ≡ false → stream_of new.streams d ≡ stream_of old.streams d
  pub as_many_open : open_len new ≡ open_len old
  pub fewer_idle : idle_len old ≡ idle_len new + 1
  pub limit : limit_of new ≡ limit_of old
  pub booked : new.booked ≡ booked_after_start (waiting old.log) old.booked
  pub same : IsSameHost old new

-- room for the entries that are still to come: four for each acquire that is halfway, three for each transfer
-- that waits, two for each leased connection and one for each idle one
abbrev pub HasRoomToSpend : ℕ → List Entry → ℕ → Type 0
HasRoomToSpend booked log room = let leased = length (open_connections log) - length (idle_connections log) in 4 * booked + (3 * length (waiting log) + 2 * leased + length (idle_connections log)) ≤ room

-- what a step asks of a held connection: that the log shows it held so by that transfer
abbrev pub IsHeldAs : {S : Type 0} → HostState S → ℕ → Held → Type 0
IsHeldAs state transfer held = held_facts state.log transfer ≡ Some (facts_of_held held)

-- what each transfer holds, once one of them holds that, or nothing
abbrev pub EntersHeld : (ℕ → Option Held) → (ℕ → Option Held) → ℕ → Held → Type 0
EntersHeld old new transfer held = (t : ℕ) → new t ≡ (if transfer == t then Some held else old t)

abbrev pub TakesHeld : (ℕ → Option Held) → (ℕ → Option Held) → ℕ → Type 0
TakesHeld old new transfer = (t : ℕ) → new t ≡ (if transfer == t then None else old t)

-- what a transfer holds is the connection of that number
abbrev pub is_that : ℕ → Option Held → Bool
is_that number held = option_map_or (λ (h : Held). h.number == number) held false

-- none is open but that one and those that were
abbrev pub OpensOnly : ℕ → List Entry → List Entry → Type 0
OpensOnly c old new = (d : ℕ) → (c == d) ≡ false → is_open new d ≡ true → is_open old d ≡ true

-- a host without connections
abbrev pub IsNewState : {S : Type 0} → ℕ → ℕ → ℕ → HostState S → Type 0
IsNewState limit index first state = state ≡ record { log = []; cut_away = 0; settings = record { limit = limit; first = first }; host = index; streams = []; booked = 0; has_limit_room = false }

-- what is kept of a held connection once it came back at that moment
abbrev pub idle_since : {S : Type 0} → Held → ℕ → S → Idle S
idle_since held moment stream = record { number = held.number; lane = held.lane; born = held.born; since = moment; stream = stream }

-- whether it stays open after that response
abbrev pub stays_open : Facts → Held → Bool
stays_open facts held = is_persistent facts && not held.forbids_reuse

-- what a transfer held is free: it holds nothing, and the others hold what they held
abbrev pub IsFreeOf : List Entry → List Entry → ℕ → Type 0
IsFreeOf old new transfer = (t : ℕ) → held_number new t ≡ (if transfer == t then None else held_number old t)

-- a connection came back after a response and is idle from then on, with its stream
pub record ComesBack {S : Type 0} (old new : HostState S) (transfer : ℕ) (held : Held) (facts : Facts) (stream : S) (moment : ℕ) : Type 0 where
  pub was_held : IsHeldAs old transfer held
  pub stays : stays_open facts held ≡ true
  pub log : new.log ≡ add moment (Returned held.number facts) old.log
  pub settled : owed new.log ≡ None
  pub holders : IsFreeOf old.log new.log transfer
  pub kept : stream_of new.streams held.number ≡ Some stream
  pub others : (d : ℕ) → (held.number == d) ≡ false → stream_of new.streams d ≡ stream_of old.streams d
  pub as_many_open : open_len new ≡ open_len old
  pub more_idle : idle_len new ≡ idle_len old + 1
  pub limit : limit_of new ≡ limit_of old
  pub booked : new.booked ≡ old.booked
  pub same : IsSameHost old new

-- a connection came back after a response that ends its use, and is closed
pub record ComesBackToClose {S : Type 0} (old new : HostState S) (transfer c : ℕ) (facts : Facts) (moment : ℕ) : Type 0 where
  pub was_held : held_number old.log transfer ≡ Some c
  pub ends : EndsUse old.log new.log c facts moment
  pub closed : is_open new.log c ≡ false
  pub holders : IsFreeOf old.log new.log transfer
  pub streams : new.streams ≡ old.streams
  pub fewer_open : open_len old ≡ open_len new + 1
  pub as_many_idle : idle_len new ≡ idle_len old
  pub limit : limit_of new ≡ limit_of old
  pub booked : new.booked ≡ old.booked
  pub same : IsSameHost old new

-- the transfer holds that connection, which would stay open after that response
pub record WouldStay {S : Type 0} (state : HostState S) (transfer c : ℕ) (facts : Facts) : Type 0 where
  pub held : Held
  pub was_held : IsHeldAs state transfer held
  pub number : held.number ≡ c
  pub stays : stays_open facts held ≡ true

-- a connection came back that would stay open, and is closed since the cache is full
pub record ComesBackUnkept {S : Type 0} (old new : HostState S) (transfer c : ℕ) (facts : Facts) (moment : ℕ) : Type 0 where
  pub log : new.log ≡ add moment (Closed c CacheFull) (add moment (Returned c facts) old.log)
  pub closed : is_open new.log c ≡ false
  pub holders : IsFreeOf old.log new.log transfer
  pub streams : new.streams ≡ old.streams
  pub fewer_open : open_len old ≡ open_len new + 1
  pub as_many_idle : idle_len new ≡ idle_len old
  pub limit : limit_of new ≡ limit_of old
  pub booked : new.booked ≡ old.booked
  pub same : IsSameHost old new
