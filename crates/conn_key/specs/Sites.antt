-- The list of the sites.
use Rattle.std.specs.Prelude.{◌≡◌, ℕ, ◌<◌, ◌≤◌, List, [], ◌∷◌, ◌++◌, length, slice_get, position, Option, None, Some, is_some, unwrap_or, if◌then◌else◌}
use Rattle.conn_key.specs.Site.{is_same_site}
use Rattle.conn_key.specs.declared.site.Site.{Site}
use Rattle.conn_key.specs.declared.sites.SitesFault.{SitesFault}
use Rattle.conn_key.specs.declared.sites.SitesFault.TheVariants.{Memory, TooMany}

-- the index of the site among the sites, if it is there
abbrev pub index_of : List Site → Site → Option ℕ
index_of sites site = position (is_same_site site) sites

-- the index that the site has, or else the next one
abbrev pub index_or_next : List Site → Site → ℕ
index_or_next sites site = unwrap_or (index_of sites site) (length sites)

-- the sites with this one: as they are where it is there, else with it at the end
abbrev pub with_site : List Site → Site → List Site
with_site sites site = if is_some (index_of sites site) then sites else sites ++ site ∷ []

-- no site is there twice, since each has the index at which it stands, and there are at most 1,024
pub record IsSiteList (sites : List Site) : Type 0 where
  pub distinct
      : (i : ℕ) (site : Site) → slice_get sites i ≡ Some site → index_of sites site ≡ Some i
  pub within : length sites ≤ 1024

-- what a refusal says of the sites and the one that was to be added: it is new, and there is room
-- for it where memory ran out, or none
abbrev pub RefusesSite : List Site → Site → SitesFault → Type 0
RefusesSite sites site Memory = (index_of sites site ≡ None) × (length sites < 1024)
RefusesSite sites site TooMany = (index_of sites site ≡ None) × (length sites ≡ 1024)
