-- What is kept over one step after another: each host stays, and so does what it has of leases and tickets.
use Rattle.std.proofs.Common.{◌≡◌, ℕ, ◌<◌, true, false, List, [], ◌++◌, length, Option, Some, None, refl, sym, ap, subst, ◌∙◌, append_assoc}
use Rattle.std.specs.Prelude.{◌==◌, if◌then◌else◌}
use Rattle.conn_log.specs.declared.entry.Want.{Want}
use Rattle.conn_log.specs.declared.entry.Entry.{Entry}
use Rattle.host_state.specs.Calls.{GrowsBy}
use Rattle.conn_log.specs.Connections.{is_open}
use Rattle.bundle.specs.Lease.{HostShown, Leasing, StaysThere, KeepsAll, KeepsItsStream, GetsLease, GetsTicket, Spends, is_unclaimed}
use Rattle.cache.specs.Pools.{PoolShown, host_at, StaysHost, KeepsHost, StaysPool, KeepsHosts, KeepsOtherHosts, StreamsStay, OtherStreamsStay}
use Rattle.cache.proofs.StreamsStay.{streams_on, others_on as other_streams_on, but_one, own_on}

pub grows_on : (x y z : List Entry) → GrowsBy x y → GrowsBy y z → GrowsBy x z
grows_on x y z first next = (next.0 ++ first.0, next.1 ∙ ap (λ (l : List Entry). next.0 ++ l) first.1 ∙ sym (append_assoc next.0 first.0 x))

module _ {S : Type 0} where
  pub stays_there_on : (x y z : HostShown S) → StaysThere x y → StaysThere y z → StaysThere x z
  stays_there_on x y z first next = record {
    settings = next.settings ∙ first.settings;
    host = next.host ∙ first.host;
    tables = next.tables ∙ first.tables;
    cut_away = next.cut_away ∙ first.cut_away;
  }

  pub stays_host : (host : HostShown S) → StaysHost host host
  stays_host host = record { same = record { settings = refl; host = refl; tables = refl; cut_away = refl }; booked = refl; grew = ([], refl) }

  pub stays_host_on : (x y z : HostShown S) → StaysHost x y → StaysHost y z → StaysHost x z
  stays_host_on x y z first next = record {
    same = stays_there_on x y z first.same next.same;
    booked = next.booked ∙ first.booked;
    grew = grows_on x.log y.log z.log first.grew next.grew;
  }

  pub keeps_all_on : (x y z : HostShown S) → KeepsAll x y → KeepsAll y z → KeepsAll x z
  keeps_all_on x y z first next = record {
    leases = λ t. next.leases t ∙ first.leases t;
    tickets = λ t. next.tickets t ∙ first.tickets t;
  }

  pub keeps_host : (host : HostShown S) → KeepsHost host host
  keeps_host host = record { stays = stays_host host; keeps = record { leases = λ t. refl; tickets = λ t. refl }; streams = λ c was is. refl }

  pub keeps_host_on : (x y z : HostShown S) → KeepsHost x y → KeepsHost y z → KeepsHost x z
  keeps_host_on x y z first next = record {
    stays = stays_host_on x y z first.stays next.stays;
    keeps = keeps_all_on x y z first.keeps next.keeps;
    streams = streams_on x y z first.stays.grew next.stays.grew first.streams next.streams;
  }

  -- who gets a lease or a ticket has it still after steps that keep all, and who spends one still has none
  pub gets_lease_on : (x y z : HostShown S) (transfer c : ℕ) → GetsLease x y transfer c → KeepsAll y z → GetsLease x z transfer c
  gets_lease_on x y z transfer c first next = record {
    leases = λ t. next.leases t ∙ first.leases t;
    tickets = λ t. next.tickets t ∙ first.tickets t;
  }

  pub gets_ticket_on : (x y z : HostShown S) (want : Want) → GetsTicket x y want → KeepsAll y z → GetsTicket x z want
  gets_ticket_on x y z want first next = record {
    leases = λ t. next.leases t ∙ first.leases t;
    tickets = λ t. next.tickets t ∙ first.tickets t;
  }

  pub spends_on : (x y z : HostShown S) (transfer : ℕ) → Spends x y transfer → KeepsAll y z → is_unclaimed z transfer ≡ false → Spends x z transfer
  spends_on x y z transfer first next unclaimed = record {
    leases = λ t. next.leases t ∙ first.leases t;
    tickets = λ t. next.tickets t ∙ first.tickets t;
    unclaimed = unclaimed;
  }

  -- the same first, with the steps that keep all before it
  pub lease_after : (x y z : HostShown S) (transfer c : ℕ) → KeepsAll x y → GetsLease y z transfer c → GetsLease x z transfer c
  lease_after x y z transfer c first next = record {
    leases = λ t. next.leases t ∙ ap (λ (n : Option ℕ). if transfer == t then Some c else n) (first.leases t);
    tickets = λ t. next.tickets t ∙ ap (λ (w : Option Want). if transfer == t then None else w) (first.tickets t);
  }

  pub ticket_after : (x y z : HostShown S) (want : Want) → KeepsAll x y → GetsTicket y z want → GetsTicket x z want
  ticket_after x y z want first next = record {
    leases = λ t. next.leases t ∙ first.leases t;
    tickets = λ t. next.tickets t ∙ ap (λ (w : Option Want). if want.transfer == t then Some want else w) (first.tickets t);
  }

  pub spends_after : (x y z : HostShown S) (transfer : ℕ) → KeepsAll x y → Spends y z transfer → Spends x z transfer
  spends_after x y z transfer first next = record {
    leases = λ t. next.leases t ∙ ap (λ (n : Option ℕ). if transfer == t then None else n) (first.leases t);
    tickets = λ t. next.tickets t ∙ ap (λ (w : Option Want). if transfer == t then None else w) (first.tickets t);
    unclaimed = next.unclaimed;
  }

  -- a pool stays
  pub stays_pool : (pool : PoolShown S) → StaysPool pool pool
  stays_pool pool = record { limits = refl; count = refl }

  pub stays_pool_on : (x y z : PoolShown S) → StaysPool x y → StaysPool y z → StaysPool x z
  stays_pool_on x y z first next = record { limits = next.limits ∙ first.limits; count = next.count ∙ first.count }

  pub still_there : (x y : PoolShown S) (host : ℕ) → StaysPool x y → host < length x.hosts → host < length y.hosts
  still_there x y host stays there = subst (λ (n : ℕ). host < n) (sym stays.count) there

  pub keeps_hosts : (pool : PoolShown S) → KeepsHosts pool pool
  keeps_hosts pool host there = keeps_host (host_at pool host)

  pub keeps_hosts_on : (x y z : PoolShown S) → StaysPool x y → KeepsHosts x y → KeepsHosts y z → KeepsHosts x z
  keeps_hosts_on x y z stays first next host there =
      keeps_host_on (host_at x host) (host_at y host) (host_at z host) (first host there) (next host (still_there x y host stays there))

  pub keeps_others_on : (one : ℕ) (x y z : PoolShown S) → StaysPool x y → KeepsOtherHosts one x y → KeepsOtherHosts one y z → KeepsOtherHosts one x z
  keeps_others_on one x y z stays first next host there apart =
      keeps_host_on (host_at x host) (host_at y host) (host_at z host) (first host there apart) (next host (still_there x y host stays there) apart)

  pub keeps_others : (one : ℕ) (x y : PoolShown S) → KeepsHosts x y → KeepsOtherHosts one x y
  keeps_others one x y keeps host there apart = keeps host there

  -- a call at one host, and steps that keep all after it
  pub site_on : (x y z : PoolShown S) (site : ℕ) → StaysPool x y → site < length x.hosts → StaysHost (host_at x site) (host_at y site) → KeepsHosts y z → StaysHost (host_at x site) (host_at z site)
  site_on x y z site stays there first next = stays_host_on (host_at x site) (host_at y site) (host_at z site) first (next site (still_there x y site stays there)).stays

  pub others_on : (one : ℕ) (x y z : PoolShown S) → StaysPool x y → KeepsOtherHosts one x y → KeepsHosts y z → KeepsOtherHosts one x z
  others_on one x y z stays first next = keeps_others_on one x y z stays first (keeps_others one y z next)

  -- the streams of the others at that host, and that of the lease that was spent there
  pub streams_at : (one : ℕ) (x y z : PoolShown S) (site : ℕ) → StaysPool x y → site < length x.hosts → StaysHost (host_at x site) (host_at y site) → OtherStreamsStay one (host_at x site) (host_at y site) → KeepsHosts y z
      → OtherStreamsStay one (host_at x site) (host_at z site)
  streams_at one x y z site stays there first others next =
      let served = next site (still_there x y site stays there) in
      other_streams_on one (host_at x site) (host_at y site) (host_at z site) first.grew served.stays.grew others (but_one one (host_at y site) (host_at z site) served.streams)

  pub all_streams_at : (x y z : PoolShown S) (site : ℕ) → StaysPool x y → site < length x.hosts → StaysHost (host_at x site) (host_at y site) → StreamsStay (host_at x site) (host_at y site) → KeepsHosts y z
      → StreamsStay (host_at x site) (host_at z site)
  all_streams_at x y z site stays there first all next =
      let served = next site (still_there x y site stays there) in
      streams_on (host_at x site) (host_at y site) (host_at z site) first.grew served.stays.grew all served.streams

  pub own_stream_at : (x y z : PoolShown S) (lease : Leasing S) → StaysPool x y → lease.site < length x.hosts → StaysHost (host_at x lease.site) (host_at y lease.site) → is_open (host_at x lease.site).log lease.start.number ≡ true
      → KeepsItsStream (host_at y lease.site) lease → KeepsHosts y z → KeepsItsStream (host_at z lease.site) lease
  own_stream_at x y z lease stays there first was own next =
      let served = next lease.site (still_there x y lease.site stays there) in
      own_on (host_at x lease.site) (host_at y lease.site) (host_at z lease.site) lease first.grew served.stays.grew was own served.streams
