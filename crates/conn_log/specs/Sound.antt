-- What holds of a bundle's log after every step.
use Rattle.std.specs.Prelude.{◌≡◌, ℕ, ◌≤◌, Bool, true, false, ◌==◌, if◌then◌else◌, List, [], ◌∷◌, length, Option, Some, None, is_some}
use Rattle.std.specs.Option.{option_map, option_map_or}
use Rattle.conn_log.specs.declared.entry.Want.{Want}
use Rattle.conn_log.specs.declared.entry.Cause.{Cause}
use Rattle.conn_log.specs.declared.entry.Cause.TheVariants.{NotPersistent, Cut, Forbidden, Dropped, Withdrawn}
use Rattle.conn_log.specs.declared.entry.Entry.{Entry}
use Rattle.conn_log.specs.Connections.{is_among, opened, is_closed, open_connections, is_open, connections_of, transfers_of, holdings, holder_want, is_held_by, is_idle, born, since, lane, came_back_persistent, held_number}
use Rattle.conn_log.specs.Waiting.{without, waiting, waits}
use Rattle.conn_log.specs.Legal.{LimitAndFirst, limit_in_force, owed, IsLegal}

-- each number stands once
abbrev pub AreDistinct : List ℕ → Type 0
AreDistinct [] = Unit {0}
AreDistinct (c ∷ numbers) = (is_among c numbers ≡ false) × AreDistinct numbers

-- the option has that number
abbrev pub has_number : Option ℕ → ℕ → Bool
has_number held c = option_map_or (λ d. d == c) held false

-- each transfer waits once
abbrev pub WaitOnce : List Want → Type 0
WaitOnce [] = Unit {0}
WaitOnce (want ∷ others) = (without want.transfer others ≡ others) × WaitOnce others

-- numbers stand once; a closed or held connection was opened, and a held one is open; each connection is held
-- once, and each transfer holds one connection at most; each idle connection came back persistent; each
-- transfer waits once, and one that waits holds nothing
pub record IsOrderly (settings : LimitAndFirst) (log : List Entry) : Type 0 where
  pub distinct : AreDistinct (opened log)
  pub closed_opened : (c : ℕ) → is_closed log c ≡ true → is_among c (opened log) ≡ true
  pub held_open : (c : ℕ) → is_some (holder_want log c) ≡ true → is_open log c ≡ true
  pub connections_once : AreDistinct (connections_of (holdings log))
  pub transfers_once : AreDistinct (transfers_of (holdings log))
  pub held_once : (c transfer : ℕ) → is_held_by log transfer c ≡ has_number (held_number log transfer) c
  pub idle_persists : (c : ℕ) → is_idle log c ≡ true → came_back_persistent log c ≡ true
  pub within : length (open_connections log) ≤ limit_in_force settings log
  pub wait_once : WaitOnce (waiting log)
  pub waiting_free : (transfer : ℕ) → waits log transfer ≡ true → held_number log transfer ≡ None

-- next to start: the first one that waits, and where nobody waits whoever holds nothing
abbrev pub IsNextAmong : List Want → Option ℕ → Want → Type 0
IsNextAmong [] held want = held ≡ None
IsNextAmong (head ∷ others) held want = want ≡ head

abbrev pub IsNext : List Entry → Want → Type 0
IsNext log want = IsNextAmong (waiting log) (held_number log want.transfer) want

-- why a transfer may close what it holds, without a response
abbrev pub is_of_holder : Cause → Bool
is_of_holder Dropped = true
is_of_holder Withdrawn = true
is_of_holder _ = false

-- why an idle connection may be closed
abbrev pub is_of_idle : Cause → Bool
is_of_idle NotPersistent = false
is_of_idle Cut = false
is_of_idle Forbidden = false
is_of_idle Dropped = false
is_of_idle Withdrawn = false
is_of_idle _ = true

-- sound: legal, with no close owed, and orderly
pub record IsSound (settings : LimitAndFirst) (log : List Entry) : Type 0 where
  pub legal : IsLegal settings log
  pub settled : owed log ≡ None
  pub orderly : IsOrderly settings log

-- what is kept of an idle connection, and of a held one
pub record IdleFacts : Type 0 where
  pub lane : ℕ
  pub born : ℕ
  pub since : ℕ

pub record HeldFacts : Type 0 where
  pub number : ℕ
  pub lane : ℕ
  pub born : ℕ
  pub forbids_reuse : Bool

abbrev pub facts_if_idle : List Entry → ℕ → IdleFacts
facts_if_idle log c = record { lane = lane log c; born = born log c; since = since log c }

-- of that connection, where it is idle
abbrev pub idle_facts : List Entry → ℕ → Option IdleFacts
idle_facts log c = if is_idle log c then Some (facts_if_idle log c) else None

-- of the connection that the transfer holds, if it holds one
abbrev pub facts_if_held : List Entry → ℕ → HeldFacts
facts_if_held log c = record { number = c; lane = lane log c; born = born log c; forbids_reuse = option_map_or (λ (want : Want). want.forbid_reuse) (holder_want log c) false }

abbrev pub held_facts : List Entry → ℕ → Option HeldFacts
held_facts log transfer = option_map (facts_if_held log) (held_number log transfer)
