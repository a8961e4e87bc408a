-- The starts of one host, and the seats that stand for them.
use Rattle.std.specs.Prelude.{◌≡◌, ℕ, ◌+◌, ◌-◌, ◌≤◌, Bool, true, false, List, [], length, slice_index, count_by}
use Rattle.std.specs.List.{sum_by}
use Rattle.atomic_table.specs.Table.{State, Me, Step}
use Rattle.atomic_table.specs.Seated.{TableId}
use Rattle.atomic_table.specs.declared.shared.Seat.{Seat}
use Rattle.budget.specs.declared.tally.Standing.{Standing}
use Rattle.budget.specs.declared.tally.Standing.TheVariants.{Host, Lease, Pass, Gone}

-- what a tally's owner sees of it: its table, the starts counted, and those without a lease yet
pub record Starts : Type 0 where
  pub table : TableId
  pub counted : ℕ
  pub unsplit : ℕ

-- what a pass has spent at one tally
pub record Spendings : Type 0 where
  pub table : TableId
  pub spent : ℕ

-- the starts that a seat has counted
abbrev pub counted : Standing → ℕ
counted (Host starts unsplit) = starts
counted Lease = 0
counted (Pass spent) = 0
counted Gone = 0

-- the starts that a seat stands for
abbrev pub stands_for : Standing → ℕ
stands_for (Host starts unsplit) = unsplit
stands_for Lease = 1
stands_for (Pass spent) = spent
stands_for Gone = 0

-- what the host's seat shows its owner
abbrev pub starts_shown : TableId → Standing → Starts
starts_shown table view = record { table = table; counted = counted view; unsplit = stands_for view }

-- one start more, which no lease stands for yet
abbrev pub one_start_more : Starts → Starts
one_start_more starts = record starts { counted = starts.counted + 1; unsplit = starts.unsplit + 1 }

-- a lease stands for one of them
abbrev pub one_split : Starts → Starts
one_split starts = record starts { unsplit = starts.unsplit - 1 }

abbrev pub is_host : Standing → Bool
is_host (Host starts unsplit) = true
is_host Lease = false
is_host (Pass spent) = false
is_host Gone = false

-- The word is the number of starts. It is also the starts not split off, the leases' seats, and what
-- the passes have spent. One seat is the host's.
pub record IsTally (words : List ℕ) (views : List Standing) : Type 0 where
  pub one_word : length words ≡ 1
  pub counts : slice_index words 0 ≡ sum_by counted views
  pub stood_for : slice_index words 0 ≡ sum_by stands_for views
  pub one_host : count_by is_host views ≡ 1

abbrev pub KeepsStarts : State (Unit {0}) Standing → Type 0
KeepsStarts s = IsTally s.words s.views

-- one start more, which no lease stands for yet
abbrev pub started : Standing → Standing
started (Host starts unsplit) = Host (starts + 1) (unsplit + 1)
started Lease = Lease
started (Pass spent) = Pass spent
started Gone = Gone

-- one of the starts is split off
abbrev pub without_one : Standing → Standing
without_one (Host starts unsplit) = Host starts (unsplit - 1)
without_one Lease = Lease
without_one (Pass spent) = Pass spent
without_one Gone = Gone

-- one lease more is spent
abbrev pub with_one : Standing → Standing
with_one (Host starts unsplit) = Host starts unsplit
with_one Lease = Lease
with_one (Pass spent) = Pass (spent + 1)
with_one Gone = Gone

-- the start is counted
abbrev pub CountsStart : Step (Unit {0}) → Me (Unit {0}) Standing → ℕ → Me (Unit {0}) Standing → Type 0
CountsStart step before found after = (after.0 ≡ started before.0) × (after.1 ≡ before.1)

-- the word found is what the host has counted
abbrev pub ReadsStarts : Step (Unit {0}) → Me (Unit {0}) Standing → ℕ → Me (Unit {0}) Standing → Type 0
ReadsStarts step before found after = (after ≡ before) × (found ≡ counted before.0)

-- the word found is no less than what the seat stands for
abbrev pub ReadsMore : Step (Unit {0}) → Me (Unit {0}) Standing → ℕ → Me (Unit {0}) Standing → Type 0
ReadsMore step before found after = (after ≡ before) × (stands_for before.0 ≤ found)

-- the host's seat at the tally's own table, which has a word and no slot out
pub record IsTallySeat (table : TableId) (seat : Seat (Unit {0}) Standing) : Type 0 where
  pub one_word : table.words ≡ 1
  pub seated : seat.table_id ≡ table
  pub host : seat.me.0 ≡ Host (counted seat.me.0) (stands_for seat.me.0)

-- a seat that stands for one start
pub record IsLeaseSeat (me : Me (Unit {0}) Standing) : Type 0 where
  pub lease : me.0 ≡ Lease
  pub bare : me.1 ≡ []

-- a seat that stands for what was spent with a pass
pub record IsPassSeat (me : Me (Unit {0}) Standing) (spent : ℕ) : Type 0 where
  pub pass : me.0 ≡ Pass spent
