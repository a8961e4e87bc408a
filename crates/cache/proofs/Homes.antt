-- The tables of a pool's hosts tell which leases and tickets it has made, and no call changes them.
use Rattle.std.proofs.Common.{◌≡◌, ℕ, ◌<◌, length, slice_get, slice_index_or, List, Some, refl, sym, ap, subst, ◌∙◌, inl, inr}
use Rattle.std.specs.Prelude.{option_map, Result, Ok, Err, IfOk, IfErr, OnOk}
use Rattle.std.proofs.lemmas.Bool.Decides.{eqb_tells}
use Rattle.std.proofs.lemmas.List.{ext_get_or, length-map}
use Rattle.std.proofs.lemmas.Option.{slice_get-map, slice_get-get_or, slice_get_within}
use Rattle.std.proofs.Math.ListN.{get_or-map}
use Rattle.std.proofs.Math.Seq.{map-set_same}
use Rattle.conn_log.specs.declared.entry.Entry.{Entry}
use Rattle.cache.specs.AllHosts.{AllHosts}
use Rattle.bundle.specs.Seats.{Tables}
use Rattle.bundle.specs.Lease.{HostShown, Leasing, Ticketed}
use Rattle.cache_trait.specs.Homes.{IsMadeBy}
use Rattle.cache.specs.Pools.{PoolShown, no_host, host_at, cut_at, cut_host, StaysHost, StaysPool, KeepsOtherHosts, IsMadeHere, IsTicketHere}
use Rattle.cache.specs.PoolCalls.{home_of, CutsHost, IsCallAt, IsCallAtAll}

module _ {S : Type 0} where
  abbrev tables_of : HostShown S → Tables
  tables_of host = host.tables

  tables_at : (pool : PoolShown S) (site : ℕ) → site < length pool.hosts → slice_get (home_of pool) site ≡ Some (host_at pool site).tables
  tables_at pool site there = slice_get-map tables_of pool.hosts site ∙ ap (option_map tables_of) (slice_get-get_or pool.hosts site (no_host {S = S}) there)

  -- a lease is the pool's own if its tables are those of its site, and the other way round
  pub made_by : (pool : PoolShown S) (lease : Leasing S) → IsMadeHere pool lease → IsMadeBy (home_of pool) lease.site lease.tables
  made_by pool lease here = tables_at pool lease.site here.there ∙ ap Some (sym here.tables)

  pub made_here : (pool : PoolShown S) (lease : Leasing S) → IsMadeBy (home_of pool) lease.site lease.tables → IsMadeHere pool lease
  made_here pool lease made =
      let there : lease.site < length pool.hosts = subst (λ (n : ℕ). lease.site < n) (length-map pool.hosts tables_of) (slice_get_within (home_of pool) lease.site lease.tables made) in
      let both : Some lease.tables ≡ Some (host_at pool lease.site).tables = sym made ∙ tables_at pool lease.site there in
      record { there = there; tables = cc }

  -- and so is a ticket
  pub ticket_by : (pool : PoolShown S) (ticket : Ticketed) → IsTicketHere pool ticket → IsMadeBy (home_of pool) ticket.site ticket.tables
  ticket_by pool ticket here = tables_at pool ticket.site here.there ∙ ap Some (sym here.tables)

  pub ticket_here : (pool : PoolShown S) (ticket : Ticketed) → IsMadeBy (home_of pool) ticket.site ticket.tables → IsTicketHere pool ticket
  ticket_here pool ticket made =
      let there : ticket.site < length pool.hosts = subst (λ (n : ℕ). ticket.site < n) (length-map pool.hosts tables_of) (slice_get_within (home_of pool) ticket.site ticket.tables made) in
      let both : Some ticket.tables ≡ Some (host_at pool ticket.site).tables = sym made ∙ tables_at pool ticket.site there in
      record { there = there; tables = cc }

  -- as many hosts, each with the same tables
  home_same : (old new : PoolShown S) → length new.hosts ≡ length old.hosts → ((other : ℕ) → other < length old.hosts → (host_at new other).tables ≡ (host_at old other).tables) → home_of new ≡ home_of old
  home_same old new count tables = ext_get_or (no_host {S = S}).tables (home_of new) (home_of old) so_many each
    where
      so_many : length (home_of new) ≡ length (home_of old)
      so_many = length-map new.hosts tables_of ∙ count ∙ sym (length-map old.hosts tables_of)

      each : (other : ℕ) → other < length (home_of new) → slice_index_or (home_of new) other (no_host {S = S}).tables ≡ slice_index_or (home_of old) other (no_host {S = S}).tables
      each other inside =
          get_or-map tables_of new.hosts other (no_host {S = S})
          ∙ tables other (subst (λ (n : ℕ). other < n) (so_many ∙ length-map old.hosts tables_of) inside)
          ∙ sym (get_or-map tables_of old.hosts other (no_host {S = S}))

  -- a call that may concern any host changes no table
  pub home_at_all : (end : AllHosts) (old new : PoolShown S) → IsCallAtAll end old new → home_of new ≡ home_of old
  home_at_all end old new done = home_same old new done.stays.count (λ other inside. (done.keeps other inside).stays.same.tables)

  -- nor does one that may be refused
  pub home_if_done : {A E : Type 0} → (result : Result A E) (Why : E → Type 0) (end : AllHosts) (old new : PoolShown S) → OnOk result (IsCallAtAll end old new)
      → IfErr result (λ reason. (new ≡ old) × Why reason) → home_of new ≡ home_of old
  home_if_done (Ok done) Why end old new all refused = home_at_all end old new all
  home_if_done (Err reason) Why end old new all refused = ap (λ (pool : PoolShown S). home_of pool) refused.0

  -- nor does the cut of a log
  home_of_cut : (site : ℕ) (pool : PoolShown S) → home_of (cut_at site pool) ≡ home_of pool
  home_of_cut site pool = map-set_same tables_of pool.hosts site (cut_host (host_at pool site)) (no_host {S = S}) refl

  pub home_cut : {A E : Type 0} → (result : Result A E) (entries : A → List Entry) (Why : E → Type 0) (site : ℕ) (old new : PoolShown S) → IfOk result (λ part. CutsHost site old new (entries part))
      → IfErr result (λ reason. (new ≡ old) × Why reason) → home_of new ≡ home_of old
  home_cut (Ok part) entries Why site old new done refused = ap (λ (pool : PoolShown S). home_of pool) done.cut ∙ home_of_cut site old
  home_cut (Err reason) entries Why site old new done refused = ap (λ (pool : PoolShown S). home_of pool) refused.0

  -- a call at one host leaves each host its tables
  module _ (site : ℕ) (old new : PoolShown S) (there : site < length old.hosts) (host : StaysHost (host_at old site) (host_at new site)) (others : KeepsOtherHosts site old new) (stays : StaysPool old new) where
    each_stays : (other : ℕ) → other < length old.hosts → (host_at new other).tables ≡ (host_at old other).tables
    each_stays other inside = elim (eqb_tells other site) [
      | inl same ↦ subst (λ (h : ℕ). (host_at new h).tables ≡ (host_at old h).tables) (sym same.1) host.same.tables
      | inr apart ↦ (others other inside apart.1).stays.same.tables
    ]

    pub call_at : IsCallAt site old new
    call_at = record { there = there; host = host; others = others; stays = stays; home = home_same old new stays.count each_stays }
