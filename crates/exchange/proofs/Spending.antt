-- How an exchange spends its lease.
use Rattle.std.proofs.Common.{refl, ℕ, Bool, true, false, inl, inr, List, ◌∷◌}
use Rattle.persistence.specs.declared.facts.Facts.{Facts}
use Rattle.bundle.specs.Lease.{Leasing}
use Rattle.exchange.specs.declared.job.Prepared.{Prepared}
use Rattle.exchange.specs.Wires.{Carried}
use Rattle.cache_trait.specs.CacheCalls.{CacheCall, DropsBy}
use Rattle.cache_trait.specs.CacheCalls.CacheCall.{gives_back, abandons, finds_strange_lease}
use Rattle.exchange.specs.Worlds.{World}
use Rattle.exchange.specs.Standing.{Spent, Returns, Drops}
use Rattle.exchange.specs.Steps.{LeasedFrom, IsGivenBack}
use Rattle.exchange.specs.Since.{Outset, DoneSince}
use Rattle.exchange.proofs.Since.{one_more}
use Rattle.exchange.proofs.OnWires.{on_wire_so}

module _ {C W : Type 0} (does : C → C → CacheCall W → Type 0) (world : World W) (p : Prepared) (before after : C) (lease : Leasing W) where
  -- a call that spends its lease is the last one, and what held of its wire leads to what held of it then
  pub spent_by : (call : CacheCall W) (Spends : Leasing W → CacheCall W → Type 0) (P : Carried → Type 0) (Q : Bool → Carried → Type 0)
      → does before after call
      → Spends lease call
      → ((c : Carried) → P c → Q lease.start.reused c)
      → (first : Outset C W) → LeasedFrom does world p first before lease P
      → (calls : List (CacheCall W)) × DoneSince does first after calls × Spent world p Spends Q calls
  spent_by call Spends P Q did spends leads first from = (
    call ∷ from.calls,
    one_more does first before after call from.calls from.done did,
    record {
      given = from.given;
      lease = lease;
      call = call;
      earlier = from.calls;
      last = refl;
      spends = spends;
      has = from.has;
      wire = on_wire_so world from.given lease P (Q lease.start.reused) leads from.wire;
    },
  )

  -- so it is with a lease that was given back, or taken for a stranger
  pub spent_back : (facts : Facts) (now : ℕ) (known : Bool) (P : Carried → Type 0) (Q : Bool → Carried → Type 0)
      → world.tells now
      → IsGivenBack (does before after) lease facts now known
      → ((c : Carried) → P c → Q lease.start.reused c)
      → (first : Outset C W) → LeasedFrom does world p first before lease P
      → (calls : List (CacheCall W)) × DoneSince does first after calls × Spent world p (Returns world facts) Q calls
  spent_back facts now true P Q tells done leads first from = spent_by (gives_back lease facts now) (Returns world facts) P Q done (inl (now, tells, refl)) leads first from
  spent_back facts now false P Q tells done leads first from = spent_by (finds_strange_lease lease) (Returns world facts) P Q done (inr refl) leads first from

  -- and with one that was abandoned, or taken for a stranger
  pub spent_drop : (now : ℕ) (P : Carried → Type 0) (Q : Bool → Carried → Type 0)
      → world.tells now
      → DropsBy (does before after) lease now
      → ((c : Carried) → P c → Q lease.start.reused c)
      → (first : Outset C W) → LeasedFrom does world p first before lease P
      → (calls : List (CacheCall W)) × DoneSince does first after calls × Spent world p (Drops world) Q calls
  spent_drop now P Q tells (inl did) leads first from = spent_by (abandons lease now) (Drops world) P Q did (inl (now, tells, refl)) leads first from
  spent_drop now P Q tells (inr did) leads first from = spent_by (finds_strange_lease lease) (Drops world) P Q did (inr refl) leads first from
