-- What was done for an exchange is told of it whatever its reader was fed, and whatever stands in its buffer.
use Rattle.std.proofs.Common.{◌≡◌, refl, ◌∙◌, Bool, true, false, ℕ, ◌⊎◌, inl, inr, List, ◌∷◌}
use Rattle.conn_log.specs.declared.entry.Want.{Want}
use Rattle.bundle.specs.Lease.{Leasing, Ticketed}
use Rattle.exchange.specs.declared.job.Prepared.{Prepared}
use Rattle.exchange.specs.Wires.{Carried}
use Rattle.cache_trait.specs.CacheCalls.{CacheCall}
use Rattle.cache_trait.specs.CacheCalls.CacheCall.{begins_wait, keeps_waiting}
use Rattle.exchange.specs.Worlds.{World}
use Rattle.exchange.specs.Answers.{text_of, FailsReading, FailsWriting, IsEnded, IsFruitless}
use Rattle.exchange.specs.Story.{Waits, IsGiven, IsGranted, Gets, Holds, AsksAt}
use Rattle.exchange.specs.Steps.{LeasedFrom}
use Rattle.exchange.specs.Since.{Outset}
use Rattle.exchange.proofs.OnWires.{on_wire_so}

-- how a connection of a request was over
abbrev pub IsOver : Prepared → Carried → Type 0
IsOver p c = FailsReading p c ⊎ (FailsWriting p c ⊎ IsEnded p c)

-- it was so for another with the same text
over_in : (p q : Prepared) → text_of p ≡ text_of q → (c : Carried) → IsOver p c → IsOver q c
over_in p q same c (inl read) = inl (record { sent = read.sent ∙ same; going = read.going; writes = read.writes; failed = read.failed })
over_in p q same c (inr (inl write)) = inr (inl (record {
  count = write.count;
  short = rw (← same) write.short;
  front = rw (← same) write.front;
  received = write.received;
  going = write.going;
  reads = write.reads;
  failed = write.failed;
}))
over_in p q same c (inr (inr end)) = inr (inr (record { sent = end.sent ∙ same; unfailed = end.unfailed; ended = end.ended }))

-- a connection that bore no fruit bore none for another with the same text
pub fruitless_in : (p q : Prepared) → text_of p ≡ text_of q → (c : Carried) → IsFruitless p c → IsFruitless q c
fruitless_in p q same c was = record { none = was.none; over = over_in p q same c was.over }

module _ {W : Type 0} (world : World W) (One Other : List (CacheCall W) → Type 0) (leads : (calls : List (CacheCall W)) → One calls → Other calls) where
  -- a wait since what was done before is one since what follows from that
  waits_so : (ticket : Ticketed) (calls : List (CacheCall W)) → Waits world One ticket calls → Waits world Other ticket calls
  waits_so ticket (begins_wait same now ∷ earlier) waits = (waits.0, waits.1, leads earlier waits.2)
  waits_so ticket (keeps_waiting same ∷ earlier) waits = (waits.0, waits_so ticket earlier waits.1)
  waits_so ticket _ waits = absurd waits

  -- and so is a lease that was got at once, or after a wait
  how_so : (site : ℕ) (want : Want) (lease : Leasing W) (calls : List (CacheCall W)) → IsGiven world One lease calls ⊎ IsGranted world One site want lease calls → IsGiven world Other lease calls ⊎ IsGranted world Other site want lease calls
  how_so site want lease calls (inl one) = inl (record { now = one.now; earlier = one.earlier; last = one.last; told = one.told; before = leads one.earlier one.before })
  how_so site want lease calls (inr one) =
      let waited = one.waited in
      inr (record {
        ticket = one.ticket;
        earlier = one.earlier;
        last = one.last;
        waited = record { site_is = waited.site_is; want_is = waited.want_is; waits = waits_so one.ticket one.earlier waited.waits };
      })

  -- and what it has become
  holds_so : (site : ℕ) (want : Want) (given lease : Leasing W) (calls : List (CacheCall W)) → Holds world One site want given lease calls → Holds world Other site want given lease calls
  holds_so site want given lease calls holds =
      let got = holds.got in
      let now : Gets world Other site want given calls = record { how = how_so site want given calls got.how; site_is = got.site_is; want_is = got.want_is; wire = got.wire } in
      record { got = now; same = holds.same }

-- the one, with what the other has read
abbrev pub read_as : Prepared → Prepared → Prepared
read_as p other = record p { reader = other.reader; buffer = other.buffer }

module _ {C W : Type 0} (does : C → C → CacheCall W → Type 0) (world : World W) (p other : Prepared) where
  -- it was tried, and asks, as before
  asks_in : (retried : Bool) (calls : List (CacheCall W)) → AsksAt world p retried calls → AsksAt world (read_as p other) retried calls
  asks_in false calls asks = asks
  asks_in true calls was = record {
    given = was.given;
    lease = was.lease;
    call = was.call;
    earlier = was.earlier;
    last = was.last;
    dropped = was.dropped;
    held = was.held;
    reused = was.reused;
    wire = on_wire_so world was.given was.lease (IsFruitless p) (IsFruitless (read_as p other)) (fruitless_in p (read_as p other) refl) was.wire;
  }

  -- it has its lease since the same calls, where what held of its wire leads to what holds of it now
  pub leased_in : (first : Outset C W) (cache : C) (lease : Leasing W) (P Q : Carried → Type 0) → ((c : Carried) → P c → Q c) → LeasedFrom does world p first cache lease P → LeasedFrom does world (read_as p other) first cache lease Q
  leased_in first cache lease P Q leads from = record {
    given = from.given;
    calls = from.calls;
    done = from.done;
    has = holds_so world (AsksAt world p p.retried) (AsksAt world (read_as p other) p.retried) (asks_in p.retried) p.site _ from.given lease from.calls from.has;
    wire = on_wire_so world from.given lease P Q leads from.wire;
  }
