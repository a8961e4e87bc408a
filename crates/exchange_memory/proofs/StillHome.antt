-- A pool whose hosts stay has the tables that it had, and a ticket that it kept still waits there.
use Rattle.std.proofs.Common.{◌≡◌, ℕ, ◌<◌, length, slice_index_or, sym, subst, ◌∙◌}
use Rattle.std.proofs.lemmas.List.{ext_get_or, length-map}
use Rattle.std.proofs.Math.ListN.{get_or-map}
use Rattle.bundle.specs.Seats.{Tables}
use Rattle.bundle.specs.Lease.{HostShown, Ticketed}
use Rattle.cache.specs.Pools.{PoolShown, no_host, StaysPool, StaysHosts}
use Rattle.cache.specs.PoolCalls.{home_of, KeepsTicket}
use Rattle.exchange_memory.specs.FakeCaches.{StillWaits}

module _ {S : Type 0} where
  abbrev tables_of : HostShown S → Tables
  tables_of host = host.tables

  pub still_home : (old new : PoolShown S) → StaysHosts old new → StaysPool old new → home_of new ≡ home_of old
  still_home old new hosts stays = ext_get_or (no_host {S = S}).tables (home_of new) (home_of old) so_many each
    where
      so_many : length (home_of new) ≡ length (home_of old)
      so_many = length-map new.hosts tables_of ∙ stays.count ∙ sym (length-map old.hosts tables_of)

      each : (host : ℕ) → host < length (home_of new) → slice_index_or (home_of new) host (no_host {S = S}).tables ≡ slice_index_or (home_of old) host (no_host {S = S}).tables
      each host inside =
          get_or-map tables_of new.hosts host (no_host {S = S})
          ∙ (hosts host (subst (λ (n : ℕ). host < n) (so_many ∙ length-map old.hosts tables_of) inside)).same.tables
          ∙ sym (get_or-map tables_of old.hosts host (no_host {S = S}))

  pub still_waits : (old middle new : PoolShown S) (ticket : Ticketed) → KeepsTicket old middle ticket → StaysHosts middle new → StaysPool middle new → StillWaits old new ticket
  still_waits old middle new ticket kept hosts stays = record {
    there = kept.there;
    valid = kept.valid;
    none = kept.none;
    hosts = subst (λ (pool : PoolShown S). StaysHosts pool new) kept.same hosts;
    stays = subst (λ (pool : PoolShown S). StaysPool pool new) kept.same stays;
  }
