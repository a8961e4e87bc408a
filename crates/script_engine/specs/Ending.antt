-- The end of a script: whoever still has a lease or a ticket gives it up, by site, then by transfer.
use Rattle.std.specs.Prelude.{◌≡◌, ℕ, suc, ◌<◌, Bool, ◌||◌, if◌then◌else◌, is_some, slice_index_or, List, [], ◌∷◌, length, Option, Some, None}
use Rattle.std.specs.List.Sorted.{IsStrictlyIncreasing}
use Rattle.conn_log.specs.Connections.{is_among, held_number}
use Rattle.budget.specs.Limits.{Bounds}
use Rattle.cache.specs.AllHosts.{AllHosts, log_at}
use Rattle.cache.specs.Calls.{after_abandoning}
use Rattle.script_engine.specs.Meaning.{ScriptHosts, AtSite, at_site, after_leaving}

-- a transfer has a ticket at the site, or holds a connection there
abbrev pub has_either : ℕ → AtSite → ℕ → Bool
has_either site here transfer = is_among transfer here.tickets || is_some (held_number (log_at here.all site) transfer)

-- all hosts after the connection that a transfer holds, if any, is abandoned at moment 0
abbrev pub after_dropping : Bounds → ℕ → AllHosts → Option ℕ → AllHosts
after_dropping limits site all None = all
after_dropping limits site all (Some c) = after_abandoning limits site c 0 all

-- all hosts after a transfer gives up what it has at a site, at moment 0: its ticket is withdrawn, or else what it
-- holds is abandoned
abbrev pub after_giving_up : Bounds → ℕ → AtSite → ℕ → AtSite
after_giving_up limits site here transfer =
    if is_among transfer here.tickets then after_leaving limits site transfer 0 here else record here { all = after_dropping limits site here.all (held_number (log_at here.all site) transfer) }

-- after these do so, one after another
abbrev pub after_all_at : Bounds → ℕ → AtSite → List ℕ → AtSite
after_all_at limits site here [] = here
after_all_at limits site here (transfer ∷ others) = after_all_at limits site (after_giving_up limits site here transfer) others

-- after these do so at one site after another, from that site on
abbrev pub after_all_from : Bounds → ℕ → AllHosts → List (List ℕ) → List (List ℕ) → AllHosts
after_all_from limits site all [] leaving = all
after_all_from limits site all tickets [] = all
after_all_from limits site all (here ∷ tickets) (transfers ∷ leaving) =
    after_all_from limits (suc site) (after_all_at limits site (record { all = all; tickets = here }) transfers).all tickets leaving

-- at a site these have a ticket or hold a connection, in ascending order
pub record AreThoseLeft (site : ℕ) (here : AtSite) (transfers : List ℕ) : Type 0 where
  pub ascending : IsStrictlyIncreasing transfers
  pub each : (t : ℕ) → is_among t transfers ≡ has_either site here t

-- at the end all that have a ticket or hold a connection give it up
pub record IsEnding (limits : Bounds) (hosts : ScriptHosts) (all : AllHosts) : Type 0 where
  pub transfers : List (List ℕ)
  pub count : length transfers ≡ length hosts.all.logs
  pub those : (site : ℕ) → site < length hosts.all.logs → AreThoseLeft site (at_site hosts site) (slice_index_or transfers site [])
  pub left : all ≡ after_all_from limits 0 hosts.all hosts.tickets transfers
