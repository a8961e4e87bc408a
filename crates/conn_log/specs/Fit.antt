-- Which idle connection a want may have, and which one goes first.
use Rattle.std.specs.Prelude.{ℕ, ◌-◌, Bool, not, nat_lt, ◌&&◌, ◌||◌, ◌==◌, if◌then◌else◌, List, [], ◌∷◌, filter, Option, Some, None}
use Rattle.std.specs.Option.{option_map, option_map_or}
use Rattle.conn_log.specs.declared.entry.Want.{Want}
use Rattle.conn_log.specs.declared.entry.Entry.{Entry}
use Rattle.conn_log.specs.declared.stamp.Stamp.{Stamp}
use Rattle.conn_log.specs.Connections.{born, since, lane, came_back_persistent, idle_connections, is_idle}

-- too old: idle for longer than max_age (CURLOPT_MAXAGE_CONN), or open for longer than max_life where
-- that is not 0 (CURLOPT_MAXLIFETIME_CONN)
abbrev pub is_older : ℕ → ℕ → ℕ → ℕ → ℕ → Bool
is_older since born max_age max_life moment = nat_lt max_age (moment - since) || (not (max_life == 0) && nat_lt max_life (moment - born))

abbrev pub is_too_old : List Entry → Want → ℕ → ℕ → Bool
is_too_old log want moment c = is_older (since log c) (born log c) want.max_age want.max_life moment

-- suits: of the want's lane, where the want is not for a new one (CURLOPT_FRESH_CONNECT), not too old,
-- and last given back with facts that let it persist
abbrev pub suits : List Entry → Want → ℕ → ℕ → Bool
suits log want moment c = (lane log c == want.lane) && not want.fresh && not (is_too_old log want moment c) && came_back_persistent log c

-- fit: idle, and it suits
abbrev pub is_fit : List Entry → Want → ℕ → ℕ → Bool
is_fit log want moment c = is_idle log c && suits log want moment c

-- a connection's stamp: the moment since which it is idle, its host's index, and its number
abbrev pub stamp_of : List Entry → ℕ → ℕ → Stamp
stamp_of log host c = record { since = since log c; host = host; number = c }

-- earlier: by the moment, then by the host, then by the number
abbrev pub is_earlier : Stamp → Stamp → Bool
is_earlier x y = nat_lt x.since y.since || ((x.since == y.since) && (nat_lt x.host y.host || ((x.host == y.host) && nat_lt x.number y.number)))

-- idle for longer: its stamp is earlier, whichever host both are at
abbrev pub is_idle_longer : List Entry → ℕ → ℕ → Bool
is_idle_longer log c d = is_earlier (stamp_of log 0 c) (stamp_of log 0 d)

-- the one that goes before each other one
abbrev pub first_by : (ℕ → ℕ → Bool) → List ℕ → Option ℕ
first_by goes_before [] = None
first_by goes_before (c ∷ numbers) = Some (option_map_or (λ d. if goes_before d c then d else c) (first_by goes_before numbers) c)

-- newest fit: of the fit ones the one idle for the shortest
abbrev pub newest_fit : List Entry → Want → ℕ → Option ℕ
newest_fit log want moment = first_by (λ c d. is_idle_longer log d c) (filter (suits log want moment) (idle_connections log))

-- oldest: the one idle for the longest
abbrev pub oldest : List Entry → Option ℕ
oldest log = first_by (is_idle_longer log) (idle_connections log)

-- in order: each after those that go before it
abbrev pub put_in_order : (ℕ → ℕ → Bool) → ℕ → List ℕ → List ℕ
put_in_order goes_before c [] = c ∷ []
put_in_order goes_before c (d ∷ numbers) = if goes_before c d then c ∷ d ∷ numbers else d ∷ put_in_order goes_before c numbers

abbrev pub in_order : (ℕ → ℕ → Bool) → List ℕ → List ℕ
in_order goes_before [] = []
in_order goes_before (c ∷ numbers) = put_in_order goes_before c (in_order goes_before numbers)

-- the idle ones, the one idle for the longest first
abbrev pub idle_in_order : List Entry → List ℕ
idle_in_order log = in_order (is_idle_longer log) (idle_connections log)

-- too old in its lane: of the want's lane, where the want is not for a new one, and too old for it
abbrev pub is_too_old_in_lane : List Entry → Want → ℕ → ℕ → Bool
is_too_old_in_lane log want moment c = (lane log c == want.lane) && not want.fresh && is_too_old log want moment c

-- oldest too old: of those that are too old in their lane the one idle for the longest
abbrev pub oldest_too_old : List Entry → Want → ℕ → Option ℕ
oldest_too_old log want moment = first_by (is_idle_longer log) (filter (is_too_old_in_lane log want moment) (idle_connections log))

-- the oldest's stamp, by which the hosts' oldest are compared
abbrev pub oldest_stamp : List Entry → ℕ → Option Stamp
oldest_stamp log host = option_map (stamp_of log host) (oldest log)
