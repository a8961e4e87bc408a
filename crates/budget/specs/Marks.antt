-- The hosts listed for the total, and the mark of each host.
use Rattle.std.specs.Prelude.{◌≡◌, ℕ, ◌+◌, ◌==◌, List, [], ◌∷◌, ◌++◌, Bool, true, false, if◌then◌else◌, nat_lt, count_by, Option, Some, None}
use Rattle.std.specs.List.{All}
use Rattle.atomic_table.specs.Table.{State, Me, Step, Splits}
use Rattle.atomic_table.specs.Seated.{TableId}
use Rattle.atomic_table.specs.declared.shared.Seat.{Seat}
use Rattle.budget.specs.Lobby.{IsQueue, is_listed, without_host, turned}
use Rattle.budget.specs.declared.link.Listing.{Listing}
use Rattle.budget.specs.declared.link.Listing.TheVariants.{Lobby, Visited, Mark, Gone}

-- what the Lobby's seat shows: the hosts listed, in order, and how many hosts have a seat
pub record Listed : Type 0 where
  pub table : TableId
  pub hosts : List ℕ
  pub seats : ℕ

-- what a host's seat shows: its index, and whether it is marked as listed
pub record Marked : Type 0 where
  pub table : TableId
  pub host : ℕ
  pub mark : Bool

-- whether a seat shows the mark of the host
abbrev pub shows : ℕ → Listing → Bool
shows host (Lobby hosts seats) = false
shows host (Visited hosts seats guest mark) = host == guest
shows host (Mark h mark) = host == h
shows host Gone = false

-- the mark that a seat shows is whether its host is listed
abbrev pub IsAsListed : List ℕ → Listing → Type 0
IsAsListed listed (Lobby hosts seats) = Unit {0}
IsAsListed listed (Visited hosts seats guest mark) = is_listed listed guest ≡ mark
IsAsListed listed (Mark host mark) = is_listed listed host ≡ mark
IsAsListed listed Gone = Unit {0}

-- the view of the table's first seat, which is the Lobby's
abbrev pub first_of : List Listing → Listing
first_of [] = Gone
first_of (v ∷ vs) = v

abbrev pub hosts_of : Listing → List ℕ
hosts_of (Lobby hosts seats) = hosts
hosts_of (Visited hosts seats guest mark) = hosts
hosts_of (Mark host mark) = []
hosts_of Gone = []

abbrev pub seats_of : Listing → ℕ
seats_of (Lobby hosts seats) = seats
seats_of (Visited hosts seats guest mark) = seats
seats_of (Mark host mark) = 0
seats_of Gone = 0

abbrev pub host_of : Listing → ℕ
host_of (Mark host mark) = host
host_of v = 0

abbrev pub mark_of : Listing → Bool
mark_of (Mark host mark) = mark
mark_of v = false

-- Each mark is whether its host is listed. Each host that was given a seat shows its mark once. The
-- listed ones are distinct hosts of these.
pub record Agree (listed : List ℕ) (seats : ℕ) (views : List Listing) : Type 0 where
  pub marked : All (IsAsListed listed) views
  pub one_mark : (host : ℕ) → count_by (shows host) views ≡ if nat_lt host seats then 1 else 0
  pub queue : IsQueue record { hosts = seats; order = listed }

abbrev pub IsLink : List Listing → Type 0
IsLink views = Agree (hosts_of (first_of views)) (seats_of (first_of views)) views

abbrev pub KeepsMarks : State (Unit {0}) Listing → Type 0
KeepsMarks s = IsLink s.views

-- the Lobby's view with a host and its mark as a guest
abbrev pub with_guest : Listing → Listing → Listing
with_guest (Lobby hosts seats) (Mark host mark) = Visited hosts seats host mark
with_guest v w = v

-- the guest leaves, and the list and the mark stay
abbrev pub left_alone : Listing → Listing
left_alone (Visited hosts seats host mark) = Lobby hosts seats
left_alone v = v

abbrev pub mark_alone : Listing → Listing
mark_alone (Visited hosts seats host mark) = Mark host mark
mark_alone v = Gone

-- the guest leaves listed, behind the others
abbrev pub left_longer : Listing → Listing
left_longer (Visited hosts seats host mark) = Lobby (hosts ++ host ∷ []) seats
left_longer v = v

abbrev pub mark_set : Listing → Listing
mark_set (Visited hosts seats host mark) = Mark host true
mark_set v = Gone

-- the guest leaves, and is no longer listed
abbrev pub left_shorter : Listing → Listing
left_shorter (Visited hosts seats host mark) = Lobby (without_host hosts host) seats
left_shorter v = v

abbrev pub mark_cleared : Listing → Listing
mark_cleared (Visited hosts seats host mark) = Mark host false
mark_cleared v = Gone

-- the next host gets its mark
abbrev pub with_host : Listing → Listing
with_host (Lobby hosts seats) = Lobby hosts (seats + 1)
with_host v = v

abbrev pub first_mark : Listing → Listing
first_mark (Lobby hosts seats) = Mark seats false
first_mark v = Gone

abbrev pub with_turn : Listing → Listing
with_turn (Lobby hosts seats) = Lobby (turned hosts) seats
with_turn v = v

-- the guest's mark is whether it is listed
abbrev pub SeesMark : Step (Unit {0}) → Me (Unit {0}) Listing → ℕ → Me (Unit {0}) Listing → Type 0
SeesMark step before found after = (after ≡ before) × IsAsListed (hosts_of before.0) before.0

abbrev pub Turns : Step (Unit {0}) → Me (Unit {0}) Listing → ℕ → Me (Unit {0}) Listing → Type 0
Turns step before found after = (after.0 ≡ with_turn before.0) × (after.1 ≡ before.1)

-- what the Lobby's seat shows its owner
abbrev pub list_shown : TableId → Listing → Listed
list_shown table view = record { table = table; hosts = hosts_of view; seats = seats_of view }

-- what a host's seat shows its owner
abbrev pub mark_shown : TableId → Listing → Marked
mark_shown table view = record { table = table; host = host_of view; mark = mark_of view }

-- the Lobby's seat as the owners of both see it while the host is its guest
abbrev pub visited : Listed → Marked → Listing
visited lobby host = Visited lobby.hosts lobby.seats host.host host.mark

-- the guest may leave so: the rule stands, and the two are a Lobby's seat and a host's again
pub record MayLeave (left right : Listing → Listing) (guest : Listing) : Type 0 where
  pub splits : Splits KeepsMarks 0 guest (left guest) (right guest)
  pub lobby : left guest ≡ Lobby (hosts_of (left guest)) (seats_of (left guest))
  pub mark : right guest ≡ Mark (host_of (right guest)) (mark_of (right guest))

-- the host is listed too, behind the others
abbrev pub with_listed : ℕ → Listed → Listed
with_listed host lobby = record lobby { hosts = lobby.hosts ++ host ∷ [] }

-- the host is listed no more
abbrev pub with_unlisted : ℕ → Listed → Listed
with_unlisted host lobby = record lobby { hosts = without_host lobby.hosts host }

abbrev pub mark_at : TableId → ℕ → Bool → Marked
mark_at table host mark = record { table = table; host = host; mark = mark }

-- the mark of the next host, which isn't listed
abbrev pub next_mark : Listed → Marked
next_mark lobby = mark_at lobby.table lobby.seats false

-- the Lobby's seat is the table's first
pub record IsLobbySeat (id : ℕ) (me : Me (Unit {0}) Listing) : Type 0 where
  pub first : id ≡ 0
  pub lobby : me.0 ≡ Lobby (hosts_of me.0) (seats_of me.0)

pub record IsMarkSeat (me : Me (Unit {0}) Listing) : Type 0 where
  pub mark : me.0 ≡ Mark (host_of me.0) (mark_of me.0)
  pub bare : me.1 ≡ []

-- the seat is there but while it is a guest
abbrev pub HasMark : Option (Seat (Unit {0}) Listing) → Type 0
HasMark None = ⊥
HasMark (Some seat) = IsMarkSeat seat.me

-- the name of no table
abbrev pub no_table : TableId
no_table = record { words = 0; slots = 0; views_name = 0; atom = 0; block = 0; offset = 0; slot_names = [] }

abbrev pub marked_by : Option (Seat (Unit {0}) Listing) → Marked
marked_by None = record { table = no_table; host = 0; mark = false }
marked_by (Some seat) = mark_shown seat.table_id seat.me.0
