-- The hosts of a script with their limits, as their callers see them, and the leases and tickets that are kept of each.
use Rattle.std.specs.Prelude.{◌≡◌, ℕ, ◌<◌, Bool, true, false, ◌==◌, nat_lt, if◌then◌else◌, List, [], ◌∷◌, length, map, slice_get, Option, Some, None, is_some, Result, Ok, Err, ◌⊎◌}
use Rattle.std.specs.Option.{option_map}
use Rattle.std.specs.Ordering.{nat_cmp}
use Rattle.std.specs.BTreeMap.{get, keys, IsOrdered, IsEmpty}
use Rattle.budget.specs.Limits.{Bounds}
use Rattle.bundle.specs.Seats.{Tables}
use Rattle.bundle.specs.Lease.{HostShown, Leasing, Ticketed, lease_number, ticket_want}
use Rattle.conn_log.specs.declared.entry.Want.{Want}
use Rattle.cache.specs.Pools.{PoolShown, host_at, all_hosts, logs_of}
use Rattle.script_engine.specs.Meaning.{ScriptHosts, AtSite, at_site, with_site_as, with_ticket, Answer, get_at, claim_at, limit_at, act_at}
use Rattle.script_engine.specs.Ending.{after_giving_up}
use Rattle.script_engine.specs.declared.site_leases.SiteLeases.{SiteLeases}
use Rattle.script_text.specs.Printing.{GivesText}
use Rattle.script_text.specs.declared.command.Action.{Action}
use Rattle.script_text.specs.declared.command.Action.TheVariants as actions
use Rattle.script_text.specs.declared.fault.FaultKind.{FaultKind}
use Rattle.script_text.specs.declared.fault.FaultKind.TheVariants.{Memory}

-- the hosts with their limits
pub record Hosted : Type 0 where
  pub limits : Bounds
  pub hosts : ScriptHosts

-- what a transfer got by a command is kept; or it could not be, and was given up at moment 0
abbrev pub IsKeptOrGivenUp : Bounds → ℕ → AtSite → ℕ → AtSite → Type 0
IsKeptOrGivenUp limits site meant transfer new = (new ≡ meant) ⊎ (new ≡ after_giving_up limits site meant transfer)

-- what all hosts are where memory fails an action: what the action makes of them, and nothing is told; but a get or a
-- new limit may not have begun, and what a get or a claim gave may not be kept
abbrev pub IsUntold : Bounds → ℕ → AtSite → Action → AtSite → Type 0
IsUntold limits site old (actions.Get want moment) new = (new ≡ old) ⊎ IsKeptOrGivenUp limits site (get_at limits site want moment old).here want.transfer new
IsUntold limits site old (actions.Claim transfer) new = IsKeptOrGivenUp limits site (claim_at site transfer old).here transfer new
IsUntold limits site old (actions.Limit n moment) new = (new ≡ old) ⊎ (new ≡ (limit_at limits site n moment old).here)
IsUntold limits site old action new = new ≡ (act_at limits site old action).here

-- what is answered to an action at a site: what it means; only memory can fail it
abbrev pub Gives : {T : Type 0} → (T → List ℕ) → Bounds → ℕ → AtSite → Action → Result T FaultKind → AtSite → Type 0
Gives bytes limits site old action (Ok text) new = act_at limits site old action ≡ record { here = new; text = bytes text }
Gives bytes limits site old action (Err kind) new = (kind ≡ Memory) × IsUntold limits site old action new

-- an action at a site answers that, and changes of what is kept at the sites only what it says of its own
pub record GivesAt {T : Type 0} (bytes : T → List ℕ) (old : Hosted) (site : ℕ) (action : Action) (result : Result T FaultKind) (new : Hosted) : Type 0 where
  pub here : AtSite
  pub gives : Gives bytes old.limits site (at_site old.hosts site) action result here
  pub left : new ≡ record old { hosts = with_site_as site here old.hosts }

-- a command at all hosts answers that; only memory can fail it, and then nothing is told
pub record GivesAll {T : Type 0} (bytes : T → List ℕ) (old : Hosted) (answer : Bounds → ScriptHosts → Answer) (result : Result T FaultKind) (new : Hosted) : Type 0 where
  pub text : GivesText bytes (answer old.limits old.hosts).text result
  pub left : new ≡ record old { hosts = (answer old.limits old.hosts).hosts }

-- the hosts answer that to a command; only memory can fail it
abbrev pub AnswersAsked : {T : Type 0} → (T → List ℕ) → Hosted → (Bounds → ScriptHosts → Answer) → Result T FaultKind → Hosted → Type 0
AnswersAsked bytes old answer (Ok text) new = (answer old.limits old.hosts ≡ record { hosts = new.hosts; text = bytes text }) × (new.limits ≡ old.limits)
AnswersAsked bytes old answer (Err kind) new = (kind ≡ Memory) × (new.limits ≡ old.limits)

-- all hosts of a pool, and the transfers whose tickets are kept of one site
abbrev pub kept_at : {S : Type 0} → PoolShown S → SiteLeases → AtSite
kept_at pool kept = record { all = all_hosts pool; tickets = keys kept.tickets }

-- where a lease or a ticket is made: the host's index, and its tables
abbrev pub whereabouts : {S : Type 0} → HostShown S → ℕ × Tables
whereabouts host = (host.host, host.tables)

-- a lease's connection and transfer, whether it has its stream, and where it was made
abbrev pub LeaseFacts : Type 0
LeaseFacts = ℕ × ℕ × Bool × (ℕ × Tables)

abbrev pub lease_facts : {S : Type 0} → Leasing S → LeaseFacts
lease_facts lease = (lease.start.number, lease.start.want.transfer, is_some lease.stream, (lease.site, lease.tables))

-- the lease made there that is kept for a transfer that has one of that connection
abbrev pub kept_facts : ℕ × Tables → ℕ → ℕ → LeaseFacts
kept_facts made transfer c = (c, transfer, true, made)

-- of each transfer that has a lease, the lease that is due
abbrev pub leases_of : {S : Type 0} → HostShown S → ℕ → Option LeaseFacts
leases_of host transfer = option_map (kept_facts (whereabouts host) transfer) (lease_number host transfer)

-- where a ticket was made, and what it was given for
abbrev pub TicketFacts : Type 0
TicketFacts = (ℕ × Tables) × Want

abbrev pub wanted : Ticketed → TicketFacts
wanted ticket = ((ticket.site, ticket.tables), ticket.wait.want)

abbrev pub wanted_at : ℕ × Tables → Want → TicketFacts
wanted_at made want = (made, want)

-- of each transfer that has a ticket, the ticket that is due
abbrev pub tickets_of : {S : Type 0} → HostShown S → ℕ → Option TicketFacts
tickets_of host transfer = option_map (wanted_at (whereabouts host)) (ticket_want host transfer)

-- each transfer that has a lease has it kept, which was made at the host, and no other is; and so with tickets
abbrev pub KeepsLeases : {S : Type 0} → (ℕ → Option LeaseFacts) → (ℕ → Option (Leasing S)) → Type 0
KeepsLeases due lease_of = (t : ℕ) → option_map lease_facts (lease_of t) ≡ due t

abbrev pub KeepsTickets : (ℕ → Option TicketFacts) → (ℕ → Option Ticketed) → Type 0
KeepsTickets due ticket_of = (t : ℕ) → option_map wanted (ticket_of t) ≡ due t

pub record Keeps {S : Type 0} (host : HostShown S) (lease_of : ℕ → Option (Leasing S)) (ticket_of : ℕ → Option Ticketed) : Type 0 where
  pub leases : KeepsLeases (leases_of host) lease_of
  pub tickets : KeepsTickets (tickets_of host) ticket_of

-- a host's leases and tickets are kept, each by its transfer, in ascending order; and nothing was cut away from its log
pub record KeepsDue (host : HostShown (Unit {0})) (kept : SiteLeases) : Type 0 where
  pub keeps : Keeps host (get nat_cmp kept.leases) (get nat_cmp kept.tickets)
  pub holders : IsOrdered nat_cmp kept.leases
  pub waiters : IsOrdered nat_cmp kept.tickets
  pub uncut : host.cut_away ≡ 0

-- of each host of the pool its leases and tickets are kept
pub record KeepsAllDue (pool : PoolShown (Unit {0})) (kept : List SiteLeases) : Type 0 where
  pub count : length kept ≡ length pool.hosts
  pub each : (site : ℕ) (here : SiteLeases) → slice_get kept site ≡ Some here → KeepsDue (host_at pool site) here

-- nothing was cut away from the log of any host, so that what is left of each is the whole
abbrev pub NoneIsCut : {S : Type 0} → PoolShown S → Type 0
NoneIsCut pool = (site : ℕ) → site < length pool.hosts → (host_at pool site).cut_away ≡ 0

-- so they are of a script's hosts, and all entries were told
pub record AreHosted (pool : PoolShown (Unit {0})) (kept : List SiteLeases) (told : List ℕ) : Type 0 where
  pub due_kept : KeepsAllDue pool kept
  pub all_told : told ≡ map length (logs_of pool.hosts)

-- nobody has a lease or a ticket
abbrev pub NothingIsKept : List SiteLeases → Type 0
NothingIsKept kept = (site : ℕ) (here : SiteLeases) → slice_get kept site ≡ Some here → IsEmpty here.leases × IsEmpty here.tickets

-- the transfers whose tickets are kept of each site
abbrev pub tickets_kept : List SiteLeases → List (List ℕ)
tickets_kept kept = map (λ (here : SiteLeases). keys here.tickets) kept

-- what is due of the other transfers alone
abbrev pub due_others : {A : Type 0} → ℕ → (ℕ → Option A) → ℕ → Option A
due_others transfer due t = if transfer == t then None else due t

-- of the transfers that have a lease and of those that have a ticket, the first has a ticket
abbrev pub is_ticket_first : List ℕ → List ℕ → Bool
is_ticket_first holders [] = false
is_ticket_first [] (waiter ∷ waiters) = true
is_ticket_first (holder ∷ holders) (waiter ∷ waiters) = nat_lt waiter holder

-- the transfers of both lists in one, in ascending order
abbrev pub merged : List ℕ → List ℕ → List ℕ
merged holders [] = holders
merged holders (waiter ∷ waiters) = with_ticket waiter (merged holders waiters)
