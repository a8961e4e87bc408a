-- What giving places keeps.
use Rattle.std.specs.Prelude.{◌≡◌, ◌⊎◌, ℕ, Bool, true, false, List, All, slice_get, Some}
use Rattle.conn_key.specs.Hosts.{Hosts, place_of}
use Rattle.conn_key.specs.Giving.{Gives}

-- a place changes its host only if it is unused
abbrev pub OnlyUnusedPlacesChange : Type 0
OnlyUnusedPlacesChange = (unused : ℕ → Bool) (old new : Hosts) (key : List ℕ) (place : ℕ)
    → Gives unused old key place new
    → (other : ℕ) (host : List ℕ) → slice_get old.keys other ≡ Some host
    → (slice_get new.keys other ≡ Some host) ⊎ (unused other ≡ true)

-- the host is found at the place that it was given
abbrev pub HostIsFound : Type 0
HostIsFound = (unused : ℕ → Bool) (old new : Hosts) (key : List ℕ) (place : ℕ)
    → Gives unused old key place new → place_of new key ≡ Some place

-- an open connection: its place, and the key of the host that it was opened to
abbrev pub Opened : Type 0
Opened = ℕ × List ℕ

-- each open connection is of the host that has its place
abbrev pub AreOfTheirHosts : Hosts → List Opened → Type 0
AreOfTheirHosts hosts connections = All (λ c. slice_get hosts.keys c.0 ≡ Some c.1) connections

-- no place with an open connection is unused
abbrev pub AreInUse : (ℕ → Bool) → List Opened → Type 0
AreInUse unused connections = All (λ c. unused c.0 ≡ false) connections

-- Connections stay with their hosts as places are given, and those at a host's place are that host's.
abbrev pub ConnectionsStayWithTheirHosts : Type 0
ConnectionsStayWithTheirHosts = (unused : ℕ → Bool) (old new : Hosts) (key : List ℕ) (place : ℕ)
    → Gives unused old key place new
    → (connections : List Opened) → AreOfTheirHosts old connections → AreInUse unused connections
    → AreOfTheirHosts new connections

abbrev pub ConnectionsAtAPlaceAreItsHosts : Type 0
ConnectionsAtAPlaceAreItsHosts = (hosts : Hosts) (key : List ℕ) (place : ℕ) → place_of hosts key ≡ Some place
    → (connections : List Opened) → AreOfTheirHosts hosts connections
    → All (λ c. c.0 ≡ place → c.1 ≡ key) connections
