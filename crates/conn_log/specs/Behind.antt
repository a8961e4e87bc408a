-- What a base and a rest say of connections, whatever the log: each question of a log asks the entries of the rest
-- in turn, and begins with what the base answers.
use Rattle.std.specs.Prelude.{ℕ, Bool, not, ◌==◌, if◌then◌else◌, List, [], ◌∷◌, filter, reverse, Option, Some, None, is_none}
use Rattle.std.specs.Option.{option_map, option_map_or, option_and_then}
use Rattle.std.specs.Map.{keys_of}
use Rattle.conn_log.specs.declared.base.OpenConnection.{OpenConnection}
use Rattle.conn_log.specs.declared.entry.Want.{Want}
use Rattle.conn_log.specs.declared.entry.Event.{Event}
use Rattle.conn_log.specs.declared.entry.Event.TheVariants.{Opened, Leased, Returned, Closed}
use Rattle.conn_log.specs.declared.entry.Entry.{Entry}
use Rattle.conn_log.specs.declared.stamp.Stamp.{Stamp}
use Rattle.conn_log.specs.Connections.{opened_after, is_closed, since_after}
use Rattle.conn_log.specs.Fit.{first_by, is_earlier}
use Rattle.conn_log.specs.Bases.{Summary, known_in}

-- the connection is held from its start until it comes back or is closed
abbrev pub held_after : Event → ℕ → Option Want → Option Want
held_after (Opened d want) c held = if d == c then Some want else held
held_after (Leased d want) c held = if d == c then Some want else held
held_after (Returned d facts) c held = if d == c then None else held
held_after (Closed d cause) c held = if d == c then None else held
held_after _ c held = held

-- of these numbers those that the rest does not close
abbrev pub left_open : List Entry → List ℕ → List ℕ
left_open rest numbers = filter (λ c. not (is_closed rest c)) numbers

-- the numbers that are open in a base, the greatest first
abbrev pub numbers_in : Summary → List ℕ
numbers_in base = reverse (keys_of base.connections)

module _ (base : Summary) where
  -- those that the rest opened, and before them those that are open in the base
  abbrev pub opened_behind : List Entry → List ℕ
  opened_behind [] = numbers_in base
  opened_behind (e ∷ before) = opened_after e.event (opened_behind before)

  -- open: of these what the rest does not close
  abbrev pub open_behind : List Entry → List ℕ
  open_behind rest = left_open rest (opened_behind rest)

  -- what the holder of the connection wanted
  abbrev pub held_behind : List Entry → ℕ → Option Want
  held_behind [] c = option_and_then (λ (known : OpenConnection). known.holder) (known_in base.connections c)
  held_behind (e ∷ before) c = held_after e.event c (held_behind before c)

  abbrev pub holder_behind : List Entry → ℕ → Option ℕ
  holder_behind rest c = option_map (λ (want : Want). want.transfer) (held_behind rest c)

  -- idle: open and without a holder
  abbrev pub idle_among : List Entry → List ℕ → List ℕ
  idle_among rest numbers = filter (λ c. is_none (held_behind rest c)) (left_open rest numbers)

  -- since: the moment in which the connection last came back, and 0 where it never did
  abbrev pub since_behind : List Entry → ℕ → ℕ
  since_behind [] c = option_map_or (λ (known : OpenConnection). known.since) (known_in base.connections c) 0
  since_behind (e ∷ before) c = since_after e.moment e.event c (since_behind before c)

  abbrev pub stamp_behind : List Entry → ℕ → ℕ → Stamp
  stamp_behind rest host c = record { since = since_behind rest c; host = host; number = c }

  -- oldest: the one idle for the longest
  abbrev pub is_idle_longer_behind : List Entry → ℕ → ℕ → Bool
  is_idle_longer_behind rest c d = is_earlier (stamp_behind rest 0 c) (stamp_behind rest 0 d)

  abbrev pub oldest_among : List Entry → ℕ → List ℕ → Option Stamp
  oldest_among rest host numbers = option_map (stamp_behind rest host) (first_by (is_idle_longer_behind rest) (idle_among rest numbers))

  abbrev pub oldest_stamp_behind : List Entry → ℕ → Option Stamp
  oldest_stamp_behind rest host = oldest_among rest host (opened_behind rest)
