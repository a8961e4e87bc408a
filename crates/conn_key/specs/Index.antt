-- The index beside the list of sites: by port, and then by host.
use Rattle.std.specs.Prelude.{◌≡◌, ℕ, ◌≤◌, List, Option, Some, String, bytes_eq, nat_eq, option_and_then, if◌then◌else◌}
use Rattle.std.specs.HashMap.{HashMap, get, get_by_text}
use Rattle.conn_key.specs.Site.{is_same_site}
use Rattle.conn_key.specs.Sites.{index_of, IsSiteList}
use Rattle.conn_key.specs.declared.site.Site.{Site}

-- the index of each host of one port
abbrev pub Hosts : Type 0 → Type 0 → Type 0
Hosts A S = HashMap (String A) ℕ S

-- the hosts of each port
abbrev pub Places : Type 0 → Type 0 → Type 0 → Type 0
Places A S T = HashMap ℕ (Hosts A S) T

module _ {A S : Type 0} where
  -- new has this index for the host, and for each other one what old has
  abbrev pub NotesHost : Hosts A S → Hosts A S → List ℕ → ℕ → Type 0
  NotesHost old new host index =
      (other : List ℕ)
      → get_by_text new other ≡ (if bytes_eq host other then Some index else get_by_text old other)

module _ {A S T : Type 0} where
  -- the index that is noted for the site, if there is one
  abbrev pub noted : Places A S T → Site → Option ℕ
  noted places site = option_and_then (λ hosts. get_by_text hosts site.0) (get nat_eq places site.1)

  -- new has this index for the site, and for each other one what old has
  abbrev pub Notes : Places A S T → Places A S T → Site → ℕ → Type 0
  Notes old new site index =
      (other : Site)
      → noted new other ≡ (if is_same_site site other then Some index else noted old other)

  -- new has for each site what old has
  abbrev pub IsSameIndex : Places A S T → Places A S T → Type 0
  IsSameIndex old new = (site : Site) → noted new site ≡ noted old site

  -- a list of sites, the index beside it, which has for each site its index in the list, and the
  -- room that the list has
  pub record IsIndexed (places : Places A S T) (sites : List Site) (room : ℕ) : Type 0 where
    pub valid : IsSiteList sites
    pub index : (site : Site) → noted places site ≡ index_of sites site
    pub room_for_all : 1024 ≤ room
