-- What is counted of a host from its log.
use Rattle.std.specs.Prelude.{List, length, map}
use Rattle.conn_log.specs.declared.entry.Entry.{Entry}
use Rattle.conn_log.specs.Connections.{open_connections}
use Rattle.conn_log.specs.Counts.{counts}
use Rattle.bundle.specs.Lease.{HostShown}
use Rattle.bundle.specs.Seats.{Tables}
use Rattle.shared_cache.specs.declared.gathered.HostCount.{HostCount}

-- what is counted of a log
abbrev pub host_count : List Entry → HostCount
host_count log = record {
  opened = (counts log).opened;
  reused = (counts log).reused;
  closed = (counts log).closed;
  waited = (counts log).waited;
  alive = length (open_connections log);
}

-- the tables of some hosts, by which a host is told from any other, and their logs
abbrev pub tables_of : {S : Type 0} → List (HostShown S) → List Tables
tables_of {S} hosts = map (λ (host : HostShown S). host.tables) hosts

abbrev pub logs_of : {S : Type 0} → List (HostShown S) → List (List Entry)
logs_of {S} hosts = map (λ (host : HostShown S). host.log) hosts
