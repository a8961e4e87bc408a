-- Which host has which place of a cache.
use Rattle.std.specs.Prelude.{ℕ, ◌^◌, ◌<◌, ◌≤◌, List, ◌∷◌, [], ◌++◌, bytes_eq, length, map, position, slice_set, string_bytes, Option, String}
use Rattle.indexmap.specs.IndexSet.{IndexSet}

-- the key of the host at each place that was given, and how many places there are
pub record Hosts : Type 0 where
  pub keys : List (List ℕ)
  pub places : ℕ

-- the place of the host with this key, if it has one
abbrev pub place_of : Hosts → List ℕ → Option ℕ
place_of hosts key = position (bytes_eq key) hosts.keys

-- the next place, which was given to nobody, is this host's
abbrev pub with_host : Hosts → List ℕ → Hosts
with_host hosts key = record { keys = hosts.keys ++ key ∷ []; places = hosts.places }

-- a place is this host's, in the place of the host that had it
abbrev pub with_host_at : Hosts → ℕ → List ℕ → Hosts
with_host_at hosts place key = record { keys = slice_set hosts.keys place key; places = hosts.places }

-- the keys in a set, in their order
abbrev pub keys_in : {A S : Type 0} → IndexSet (String A) S → List (List ℕ)
keys_in set = map string_bytes set.keys

-- no more places were given than there are, and the search for an unused one begins at one of them, or behind them
pub record AreKept (keys : List (List ℕ)) (places from : ℕ) : Type 0 where
  pub few : length keys ≤ places
  pub from_there : from ≤ places
  pub small : places < 2 ^ 32
