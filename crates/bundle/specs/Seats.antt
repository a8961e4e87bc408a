-- What a host counts beside its log: the starts, and who holds what. Two tables that leases have seats at count it: one
-- has a seat for each start, the other for each pair of a connection and the transfer that holds it.
use Rattle.std.specs.Prelude.{◌≡◌, ℕ, ◌+◌, ◌-◌, ◌≤◌, List, [], ◌∷◌, length, map, Option, None}
use base.Stored.{Coded, coded×, coded_via}
use Rattle.atomic_table.specs.Seated.{TableId, table_id_coded}
use Rattle.budget.specs.Pairs.{Pair, pair_count, without_pair}
use Rattle.conn_log.specs.declared.entry.Entry.{Entry}
use Rattle.conn_log.specs.Connections.{held_number, open_connections, idle_connections}
use Rattle.conn_log.specs.Sound.{has_number}
use Rattle.conn_log.specs.Starts.{start_count}
use Rattle.host_state.specs.Calls.{Start, leased_len}
use Rattle.host_state.specs.Effects.{one_if}

-- the tables of a host: of its starts, and of the pairs held there
pub record Tables : Type 0 where
  pub starts : TableId
  pub pairs : TableId

abbrev pub tables_coded : Coded Tables
tables_coded = coded_via (coded× table_id_coded table_id_coded) (λ (t : Tables). (t.starts, t.pairs)) (λ x y e i. record { starts = (e i).0; pairs = (e i).1 })

-- what the tables show: the pairs without a lease yet, those with one, the one that was taken back, the starts
-- counted, and those that no seat was split off for yet
pub record SeatsShown : Type 0 where
  pub tables : Tables
  pub granted : List Pair
  pub leased : List Pair
  pub back : Option Pair
  pub counted : ℕ
  pub unsplit : ℕ

-- a lease has a seat at both, for its start and for its pair
pub record LeaseSeats : Type 0 where
  pub tables : Tables
  pub pair : Pair

-- nobody holds anything, and nothing was counted
abbrev pub CountsNone : SeatsShown → Type 0
CountsNone seats = (seats.granted ≡ []) × (seats.leased ≡ []) × (seats.back ≡ None) × (seats.counted ≡ 0) × (seats.unsplit ≡ 0)

-- a start: the pair is held, and no lease stands for it yet
abbrev pub pair_granted : Pair → SeatsShown → SeatsShown
pair_granted p seats = record seats { granted = p ∷ seats.granted; counted = seats.counted + 1; unsplit = seats.unsplit + 1 }

-- a lease stands for the start and its pair
abbrev pub pair_leased : Pair → SeatsShown → SeatsShown
pair_leased p seats = record seats { granted = without_pair p seats.granted; leased = p ∷ seats.leased; unsplit = seats.unsplit - 1 }

-- the starts that are over: all, but for one for each pair that is held
abbrev pub ended_starts : SeatsShown → ℕ
ended_starts seats = seats.counted - (length seats.granted + length seats.leased)

-- each pair that the log shows held stands in one of the lists, once, and no other does; the starts are the log's; for
-- each pair without a lease there is a start that no seat was split off for
pub record IsSeated (log : List Entry) (seats : SeatsShown) : Type 0 where
  pub none_back : seats.back ≡ None
  pub holders : (c t : ℕ) → pair_count (c, t) seats.granted + pair_count (c, t) seats.leased ≡ one_if (has_number (held_number log t) c)
  pub number : (length seats.granted + length seats.leased) + length (idle_connections log) ≡ length (open_connections log)
  pub starts : seats.counted ≡ start_count log
  pub unsplit : seats.unsplit ≡ length seats.granted
  pub held_within : length seats.granted + length seats.leased ≤ seats.counted

-- the pairs of those starts
abbrev pub pairs_of : List Start → List Pair
pairs_of starts = map (λ (s : Start). (s.number, s.want.transfer)) starts

-- those without a lease are those that were granted and are not claimed
abbrev pub AreUnclaimed : List Start → SeatsShown → Type 0
AreUnclaimed unclaimed seats = (c t : ℕ) → pair_count (c, t) seats.granted ≡ pair_count (c, t) (pairs_of unclaimed)

-- transfers may have started, and none ended
pub record OnlyStarts (old new : SeatsShown) : Type 0 where
  pub tables : new.tables ≡ old.tables
  pub ended : ended_starts new ≡ ended_starts old

-- the same, and the pairs without a lease are the same
pub record KeepsGranted (old new : SeatsShown) : Type 0 where
  pub tables : new.tables ≡ old.tables
  pub granted : new.granted ≡ old.granted
  pub ended : ended_starts new ≡ ended_starts old

-- the starts of a log whose leases are gone: all, but for one for each connection that is held
abbrev pub gone : List Entry → ℕ
gone log = start_count log - leased_len log
