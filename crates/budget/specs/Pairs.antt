-- The pairs of a connection and a transfer that hold each other at one host, and their leases.
use Rattle.std.specs.Prelude.{◌≡◌, ℕ, ◌+◌, ◌^◌, ◌<◌, ◌≤◌, ◌==◌, ◌&&◌, List, [], ◌∷◌, length, slice_index, Bool, true, false, not, count_by, Option, Some, None}
use Rattle.std.specs.List.{sum_by, filter}
use Rattle.atomic_table.specs.Table.{State, Me, Step}
use Rattle.atomic_table.specs.Seated.{TableId}
use Rattle.atomic_table.specs.declared.shared.Seat.{Seat}
use Rattle.budget.specs.declared.holders.Holding.{Holding}
use Rattle.budget.specs.declared.holders.Holding.TheVariants.{Host, Taking, Lease, Gone}

-- a connection, and the transfer that holds it
abbrev pub Pair : Type 0
Pair = ℕ × ℕ

-- what the host's seat shows: the pairs without a lease yet, those with one, and the one that was
-- taken back
pub record HeldPairs : Type 0 where
  pub table : TableId
  pub granted : List Pair
  pub leased : List Pair
  pub back : Option Pair

-- what a lease's seat shows
pub record LeaseOf : Type 0 where
  pub table : TableId
  pub pair : Pair

abbrev pub is_pair : Pair → Pair → Bool
is_pair p q = (p.0 == q.0) && (p.1 == q.1)

-- how often the pair stands in a list
abbrev pub pair_count : Pair → List Pair → ℕ
pair_count p pairs = count_by (is_pair p) pairs

-- the list without the pair
abbrev pub without_pair : Pair → List Pair → List Pair
without_pair p pairs = filter (λ q. not (is_pair p q)) pairs

-- the pairs that a seat holds
abbrev pub count_of : Holding → ℕ
count_of (Host granted leased) = length granted + length leased
count_of (Taking granted leased pair) = length granted + length leased
count_of (Lease pair) = 0
count_of Gone = 0

abbrev pub is_host : Holding → Bool
is_host (Host granted leased) = true
is_host (Taking granted leased pair) = true
is_host (Lease pair) = false
is_host Gone = false

-- how often the pair stands in the host's lists
abbrev pub stands : Pair → Holding → ℕ
stands p (Host granted leased) = pair_count p granted + pair_count p leased
stands p (Taking granted leased pair) = pair_count p granted + pair_count p leased
stands p (Lease pair) = 0
stands p Gone = 0

-- how often it stands flagged there: its seat was split off
abbrev pub flags : Pair → Holding → ℕ
flags p (Host granted leased) = pair_count p leased
flags p (Taking granted leased pair) = pair_count p leased
flags p (Lease pair) = 0
flags p Gone = 0

-- whether a seat is a lease of the pair, or took one back
abbrev pub is_lease_of : Pair → Holding → Bool
is_lease_of p (Host granted leased) = false
is_lease_of p (Taking granted leased pair) = is_pair p pair
is_lease_of p (Lease pair) = is_pair p pair
is_lease_of p Gone = false

-- The word is the number of pairs held. Each lease's pair stands flagged in the host's list, and each
-- flagged pair has one lease. No pair stands there twice, so no two leases have the same pair.
pub record IsHeld (words : List ℕ) (views : List Holding) : Type 0 where
  pub one_word : length words ≡ 1
  pub counts : slice_index words 0 ≡ sum_by count_of views
  pub one_host : count_by is_host views ≡ 1
  pub flagged : (p : Pair) → count_by (is_lease_of p) views ≡ sum_by (flags p) views
  pub distinct : (p : Pair) → sum_by (stands p) views ≤ 1

abbrev pub KeepsPairs : State (Unit {0}) Holding → Type 0
KeepsPairs s = IsHeld s.words s.views

-- the pair is held, and no lease stands for it yet
abbrev pub with_pair : Pair → Holding → Holding
with_pair p (Host granted leased) = Host (p ∷ granted) leased
with_pair p v = v

-- the pair's lease is split off
abbrev pub with_lease : Pair → Holding → Holding
with_lease p (Host granted leased) = Host (without_pair p granted) (p ∷ leased)
with_lease p v = v

-- a lease is taken back
abbrev pub with_back : Holding → Holding → Holding
with_back (Host granted leased) (Lease pair) = Taking granted leased pair
with_back v w = v

-- the lease that was taken back is handed out again
abbrev pub without_back : Holding → Holding
without_back (Taking granted leased pair) = Host granted leased
without_back v = v

abbrev pub lease_back : Holding → Holding
lease_back (Taking granted leased pair) = Lease pair
lease_back v = Gone

-- the pair that was taken back is held no longer
abbrev pub cleared : Holding → Holding
cleared (Taking granted leased pair) = Host granted (without_pair pair leased)
cleared v = v

-- the pair that was taken back stands flagged, once
abbrev pub IsFlagged : Holding → Type 0
IsFlagged (Taking granted leased pair) = pair_count pair leased ≡ 1
IsFlagged v = Unit {0}

abbrev pub MarksPair : Pair → Step (Unit {0}) → Me (Unit {0}) Holding → ℕ → Me (Unit {0}) Holding → Type 0
MarksPair p step before found after = (after.0 ≡ with_pair p before.0) × (after.1 ≡ before.1)

abbrev pub ReadsHeld : Step (Unit {0}) → Me (Unit {0}) Holding → ℕ → Me (Unit {0}) Holding → Type 0
ReadsHeld step before found after = (after ≡ before) × (found ≡ count_of before.0) × IsFlagged before.0

abbrev pub ClearsPair : Step (Unit {0}) → Me (Unit {0}) Holding → ℕ → Me (Unit {0}) Holding → Type 0
ClearsPair step before found after = (after.0 ≡ cleared before.0) × (after.1 ≡ before.1)

abbrev pub granted_of : Holding → List Pair
granted_of (Host granted leased) = granted
granted_of (Taking granted leased pair) = granted
granted_of (Lease pair) = []
granted_of Gone = []

abbrev pub leased_of : Holding → List Pair
leased_of (Host granted leased) = leased
leased_of (Taking granted leased pair) = leased
leased_of (Lease pair) = []
leased_of Gone = []

abbrev pub pair_taken_back : Holding → Option Pair
pair_taken_back (Host granted leased) = None
pair_taken_back (Taking granted leased pair) = Some pair
pair_taken_back (Lease pair) = None
pair_taken_back Gone = None

abbrev pub pair_of : Holding → Pair
pair_of (Lease pair) = pair
pair_of v = (0, 0)

-- what the host's seat shows its owner
abbrev pub pairs_shown : TableId → Holding → HeldPairs
pairs_shown table view = record { table = table; granted = granted_of view; leased = leased_of view; back = pair_taken_back view }

abbrev pub lease_shown : TableId → Holding → LeaseOf
lease_shown table view = record { table = table; pair = pair_of view }

-- nobody holds anything
abbrev pub HoldsNone : HeldPairs → Type 0
HoldsNone held = (held.granted ≡ []) × (held.leased ≡ []) × (held.back ≡ None)

-- the pair is in neither list
abbrev pub IsApart : Pair → List Pair → List Pair → Type 0
IsApart p granted leased = pair_count p granted + pair_count p leased ≡ 0

-- one pair more can be counted
abbrev pub HasRoomForPair : List Pair → List Pair → Type 0
HasRoomForPair granted leased = length granted + length leased + 1 < 2 ^ 64

-- the pair is held, and no lease stands for it yet
abbrev pub granted_too : Pair → HeldPairs → HeldPairs
granted_too p held = record held { granted = p ∷ held.granted }

-- a lease stands for the pair
abbrev pub leased_too : Pair → HeldPairs → HeldPairs
leased_too p held = record held { granted = without_pair p held.granted; leased = p ∷ held.leased }

-- the list has lost the pair
abbrev pub Loses : List Pair → List Pair → Pair → Type 0
Loses before after p = after ≡ without_pair p before

-- the seat's own view, so changed
abbrev pub host_granting : Pair → Holding → Holding
host_granting p view = Host (p ∷ granted_of view) (leased_of view)

abbrev pub host_leasing : Pair → Holding → Holding
host_leasing p view = Host (without_pair p (granted_of view)) (p ∷ leased_of view)

abbrev pub IsApartIn : Pair → Holding → Type 0
IsApartIn p view = IsApart p (granted_of view) (leased_of view)

abbrev pub HasRoomIn : Holding → Type 0
HasRoomIn view = HasRoomForPair (granted_of view) (leased_of view)

abbrev pub IsHost : Holding → Type 0
IsHost view = view ≡ Host (granted_of view) (leased_of view)

-- the seat sits at this table, which has one word
abbrev pub SitsAt : TableId → TableId → Type 0
SitsAt seat table = (seat ≡ table) × (table.words ≡ 1)

-- the host's view: its lists, and the pair that was taken back
abbrev pub host_view : List Pair → List Pair → Option Pair → Holding
host_view granted leased None = Host granted leased
host_view granted leased (Some pair) = Taking granted leased pair

-- the host's seat at its own table
pub record IsPairsSeat (table : TableId) (seat : Seat (Unit {0}) Holding) : Type 0 where
  pub one_word : table.words ≡ 1
  pub seated : seat.table_id ≡ table
  pub host : seat.me.0 ≡ host_view (granted_of seat.me.0) (leased_of seat.me.0) (pair_taken_back seat.me.0)

pub record IsHolderSeat (me : Me (Unit {0}) Holding) : Type 0 where
  pub lease : me.0 ≡ Lease (pair_of me.0)
  pub bare : me.1 ≡ []
