-- The sites of a load, and their addresses.
use Rattle.std.specs.Prelude.{◌≡◌, ◌⊎◌, ◌+◌, ◌/◌, ◌<◌, ◌++◌, ℕ, List, [], ◌∷◌, get_or, length, string_bytes, Option, Some, None}
use Rattle.std.specs.List.{All, Contains, slice_get}
use Rattle.std.specs.Global.{Vec}
use Rattle.std.specs.declared.net.socket_addr.SocketAddr.{SocketAddr}
use Rattle.clap.specs.Words.{Text}
use Rattle.commands.specs.Given.{IsGivenAddress}
use Rattle.commands.specs.declared.resolved.Resolved.{Resolved}
use Rattle.conn_key.specs.declared.target.Target.{Target}
use Rattle.exchange.specs.declared.job.Job.{Job}
use Rattle.trace_text.specs.HostLines.{site_line}
use Rattle.socket.specs.Hosts.{HasNoAddress, Names}
use Rattle.load_run.specs.declared.load.sites.LoadSite.{LoadSite}
use Rattle.load_run.specs.declared.load.sites.Place.{Place}
use Rattle.load_run.specs.declared.load.sites.Place.TheVariants.{Own, Known}
use Rattle.load_run.specs.declared.load.sites.SiteFault.{SiteFault}
use Rattle.load_run.specs.declared.load.sites.SiteFault.TheVariants.{Memory, Unknown}

-- this is true of the host, if the fault is an unknown host
abbrev pub IfUnknown : SiteFault → (Text → Type 0) → Type 0
IfUnknown Memory P = Unit {0}
IfUnknown (Unknown host) P = P host.now

-- the target's host is a name without an address by `--resolve`
pub record IsNameOf (target : Target) (resolved : List Resolved) (host : Text) : Type 0 where
  pub host_is : host ≡ string_bytes target.host
  pub not_given : IsGivenAddress host target.port resolved None
  pub no_address : HasNoAddress host

abbrev pub IsUnknownAt : Target → List Resolved → SiteFault → Type 0
IsUnknownAt target resolved fault = IfUnknown fault (IsNameOf target resolved)

-- the host of one of these jobs is such a name
abbrev pub IsNameIn : List Job → List Resolved → Text → Type 0
IsNameIn jobs resolved host = (job : Job) × Contains jobs job × IsNameOf job.target resolved host

abbrev pub IsUnknownIn : List Job → List Resolved → SiteFault → Type 0
IsUnknownIn jobs resolved fault = IfUnknown fault (IsNameIn jobs resolved)

-- the address by `--resolve` of a target's host, if there is one
abbrev pub GivenFor : Target → List Resolved → Option SocketAddr → Type 0
GivenFor target resolved found = IsGivenAddress (string_bytes target.host) target.port resolved found

-- the addresses of a target's host: the address by `--resolve`, else the addresses in the host's name, else the results
-- of the system's look-up
abbrev pub AreAddressesOf : List Resolved → Target → List SocketAddr → Type 0
AreAddressesOf resolved target addresses =
    ((given : SocketAddr) × GivenFor target resolved (Some given) × (addresses ≡ given ∷ []))
    ⊎ (GivenFor target resolved None × (Names (string_bytes target.host) target.port addresses ⊎ HasNoAddress (string_bytes target.host)))

-- a site has the place of its target's host
abbrev pub IsPlaceOf : List Resolved → Target → Place → Type 0
IsPlaceOf resolved target Own = GivenFor target resolved None
IsPlaceOf resolved target (Known addresses) =
    ((given : SocketAddr) × GivenFor target resolved (Some given) × (addresses.items ≡ given ∷ []))
    ⊎ (GivenFor target resolved None × HasNoAddress (string_bytes target.host))

-- the place has addresses that were looked up
abbrev pub IsKnown : Place → Type 0
IsKnown Own = ⊥
IsKnown (Known addresses) = Unit {0}

-- each site of these jobs is one of the first `count`
abbrev pub AreAllBelow : ℕ → List Job → Type 0
AreAllBelow count jobs = All (λ (job : Job). job.site < count) jobs

-- the site with that index belongs to a job
pub record IsSiteOf (jobs : List Job) (resolved : List Resolved) (index : ℕ) (site : LoadSite) : Type 0 where
  pub job : Job
  pub among : Contains jobs job
  pub index_is : job.site ≡ index
  pub target_is : site.target.now ≡ job.target
  pub place_is : IsPlaceOf resolved job.target site.place

-- the same for sites, the first of which has that index
abbrev pub AreSitesOf : List Job → List Resolved → ℕ → List LoadSite → Type 0
AreSitesOf jobs resolved index [] = Unit {0}
AreSitesOf jobs resolved index (site ∷ sites) = IsSiteOf jobs resolved index site × AreSitesOf jobs resolved (index + 1) sites

-- the target has these addresses at this place
abbrev pub IsListAt : Target → Place → List SocketAddr → Type 0
IsListAt target Own list = Names (string_bytes target.host) target.port list
IsListAt target (Known known) list = list ≡ known.items

abbrev pub IsListOf : LoadSite → Vec SocketAddr → Type 0
IsListOf site addresses = IsListAt site.target.now site.place addresses.items

-- the site at that place
abbrev pub IsSiteAt : List LoadSite → ℕ → LoadSite → Type 0
IsSiteAt sites place site = slice_get sites place ≡ Some site

-- each host has the addresses of its site; each site has `each` consecutive hosts
abbrev pub AreHostsOf : ℕ → List LoadSite → List (Vec SocketAddr) → Type 0
AreHostsOf each sites hosts = (host : ℕ) (other : Vec SocketAddr) → host < length hosts → (site : LoadSite) × IsSiteAt sites (host / each) site × IsListOf site (get_or hosts host other)

-- a host of the site with that index, of a job, has these addresses
pub record IsLocated (jobs : List Job) (resolved : List Resolved) (index : ℕ) (addresses : Vec SocketAddr) : Type 0 where
  pub job : Job
  pub among : Contains jobs job
  pub index_is : job.site ≡ index
  pub are : AreAddressesOf resolved job.target addresses.items

-- the same for all hosts, `each` consecutive ones a site
abbrev pub AreLocated : ℕ → List Job → List Resolved → List (Vec SocketAddr) → Type 0
AreLocated each jobs resolved hosts = (host : ℕ) (other : Vec SocketAddr) → host < length hosts → IsLocated jobs resolved (host / each) (get_or hosts host other)

-- the lines of sites in a trace
abbrev pub site_lines : List LoadSite → Text
site_lines [] = []
site_lines (site ∷ sites) = site_line (string_bytes site.target.now.host) site.target.now.port ++ site_lines sites
