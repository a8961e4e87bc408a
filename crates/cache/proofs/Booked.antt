-- The transfers whose acquire is halfway, as one comes last and leaves.
use Rattle.std.proofs.Common.{◌≡◌, ℕ, ◌<◌, Bool, true, false, ◌||◌, List, [], ◌∷◌, ◌++◌, length, Option, Some, None, refl, sym, ap, ◌∙◌, inl, inr, arith, Result, Ok, Err}
use Rattle.std.specs.Prelude.{if◌then◌else◌, IfSome}
use Rattle.std.proofs.lemmas.Bool.Decides.{nat_tests, eqb_tells}
use Rattle.host_state.specs.Steps.{is_exhausted}
use Rattle.budget.specs.declared.refusal.Refusal.TheVariants.{TransferBusy, Exhausted}
use Rattle.conn_log.specs.declared.entry.Want.{Want}
use Rattle.conn_log.specs.declared.entry.Entry.{Entry}
use Rattle.conn_log.specs.Connections.{is_among, holds}
use Rattle.conn_log.specs.Waiting.{waits}
use Rattle.conn_log.specs.Legal.{LimitAndFirst}
use Rattle.host_state.specs.Calls.{Reply, refusal, is_busy, GrowsBy}
use Rattle.bundle.specs.Lease.{HostShown, Leasing, Ticketed, StaysThere, KeepsAll, KeepsStreams, HasItsStream}
use Rattle.host_state.specs.Bookings.{without_booked}
use Rattle.cache.specs.AllHosts.{AllHosts}
use Rattle.bundle.specs.declared.answers.Acquired.{Acquired as AcquiredOf}
use Rattle.bundle.specs.declared.answers.Acquired.TheVariants.{Lease as LeaseOf, Wait as WaitOf}
use Rattle.cache.specs.Pools.{PoolShown, host_at, IsAcquired, StaysPool, KeepsOtherHosts, StreamsStay, GivesLease, GivesTicket}
use Rattle.cache.specs.PoolCalls.{IsCallAt, IsLeasedAt, IsWaitAt, AcquiresBy, EndsAcquire}
use Rattle.cache.proofs.Keeping.{stays_there_on, stays_pool_on, keeps_others_on, grows_on, lease_after, ticket_after}
use Rattle.cache.proofs.StreamsStay.{but_one, streams_on, others_on, open_ones_stay}
use Rattle.cache.proofs.Homes.{call_at}

pub among_last : (booked : List ℕ) (transfer : ℕ) → is_among transfer (booked ++ transfer ∷ []) ≡ true
among_last [] transfer = grind (arith, nat_tests)
among_last (t ∷ booked) transfer = grind (arith, nat_tests, among_last booked transfer)

-- who came last leaves the others as they were
pub without_last : (booked : List ℕ) (transfer : ℕ) → is_among transfer booked ≡ false → without_booked transfer (booked ++ transfer ∷ []) ≡ booked
without_last [] transfer out = elim (eqb_tells transfer transfer) [
  | inl same ↦ rw same.0 refl
  | inr other ↦ absurd (other.1 refl)
]
without_last (t ∷ booked) transfer out = elim (eqb_tells t transfer) [
  | inl same ↦ absurd (grind (arith, nat_tests, same.0, out))
  | inr other ↦ rw other.0 (ap (λ (l : List ℕ). t ∷ l) (without_last booked transfer (grind (arith, nat_tests, other.0, out))))
]

-- an acquire that is not refused is not of a transfer whose acquire is halfway
pub not_booked : (settings : LimitAndFirst) (log : List Entry) (booked : List ℕ) (want : Want) → refusal settings log booked want ≡ None → is_among want.transfer booked ≡ false
not_booked settings log booked want none = by_busy (is_busy log booked want.transfer) refl
  where
    by_busy : (b : Bool) → is_busy log booked want.transfer ≡ b → is_among want.transfer booked ≡ false
    by_busy true is = absurd (some_is_none (sym (ap (λ (b : Bool). if b then Some TransferBusy else (if is_exhausted settings log (length booked) then Some Exhausted else None)) is) ∙ none))
      where
        some_is_none : Some TransferBusy ≡ None → ⊥
        some_is_none e = cc
    by_busy false is = last (holds log want.transfer) (waits log want.transfer) (is_among want.transfer booked) is
      where
        last : (x y z : Bool) → (x || (y || z)) ≡ false → z ≡ false
        last true y z e = absurd (cc)
        last false true z e = absurd (cc)
        last false false z e = e

module _ {S : Type 0} where
  -- a lease, or a ticket, that was given after steps that keep all
  pub leased_after : (want : Want) (x y z : HostShown S) (lease : Leasing S) → StaysThere x y → KeepsAll x y → GrowsBy x.log y.log → GrowsBy y.log z.log → StreamsStay x y → HasItsStream x.streams lease
      → IsLeasedAt want y z lease → IsLeasedAt want x z lease
  leased_after want x y z lease same keeps grew grows streams stream next = record {
    made = next.made ∙ same.tables;
    has_stream = next.has_stream;
    stream = stream;
    streams = others_on lease.start.number x y z grew grows (but_one lease.start.number x y streams) next.streams;
    gets = lease_after x y z want.transfer lease.start.number keeps next.gets;
  }

  pub waits_after : (want : Want) (x y z : HostShown S) (ticket : Ticketed) → StaysThere x y → KeepsAll x y → GrowsBy x.log y.log → GrowsBy y.log z.log → StreamsStay x y → IsWaitAt want y z ticket → IsWaitAt want x z ticket
  waits_after want x y z ticket same keeps grew grows streams next = record {
    made = next.made ∙ same.tables;
    streams = streams_on x y z grew grows streams next.streams;
    gets = ticket_after x y z want keeps next.gets;
  }

  -- an acquire was left halfway at a host
  pub record IsLeftHalfway (transfer : ℕ) (was mid : HostShown S) : Type 0 where
    pub same : StaysThere was mid
    pub keeps : KeepsAll was mid
    pub grew : GrowsBy was.log mid.log
    pub keeps_streams : KeepsStreams was mid
    pub not_yet : is_among transfer was.booked ≡ false
    pub booked : mid.booked ≡ was.booked ++ transfer ∷ []

  -- and then ended: so it was one acquire at that host
  module _ (site : ℕ) (want : Want) (end : AllHosts) (answer : Reply) (old mid new : PoolShown S) (there : site < length old.hosts) (half : IsLeftHalfway want.transfer (host_at old site) (host_at mid site))
      (others : KeepsOtherHosts site old mid) (stays : StaysPool old mid) where
    pub acquires_after : (got : AcquiredOf S) → GivesLease got (HasItsStream (host_at old site).streams) → EndsAcquire site want end answer mid new got → AcquiresBy site want end answer old new got
    acquires_after got stream ended = by_got got stream ended.reply ended.lease ended.ticket
      where
        x : HostShown S
        x = host_at old site

        y : HostShown S
        y = host_at mid site

        z : HostShown S
        z = host_at new site

        call : IsCallAt site old new
        call = call_at site old new there (record {
          same = stays_there_on x y z half.same ended.ends.same;
          booked = ended.ends.booked ∙ ap (without_booked want.transfer) half.booked ∙ without_last x.booked want.transfer half.not_yet;
          grew = grows_on x.log y.log z.log half.grew ended.ends.grew;
        }) (keeps_others_on site old mid new stays others ended.others) (stays_pool_on old mid new stays ended.stays)

        by_got : (g : AcquiredOf S) → GivesLease g (HasItsStream x.streams) → IsAcquired site answer g → GivesLease g (IsLeasedAt want y z) → GivesTicket g (IsWaitAt want y z) → AcquiresBy site want end answer old new g
        by_got (LeaseOf lease) has reply leased waits = record {
          at_site = call;
          all = ended.all;
          reply = reply;
          leased = leased_after want x y z lease half.same half.keeps half.grew ended.ends.grew (open_ones_stay x y half.keeps_streams) has leased;
        }
        by_got (WaitOf ticket) has reply leased waits = record {
          at_site = call;
          all = ended.all;
          reply = reply;
          waits = waits_after want x y z ticket half.same half.keeps half.grew ended.ends.grew (open_ones_stay x y half.keeps_streams) waits;
        }

  -- the stream of what is given
  pub stream_in : (want : Want) (y z : HostShown S) (got : AcquiredOf S) → GivesLease got (IsLeasedAt want y z) → GivesLease got (HasItsStream y.streams)
  stream_in want y z (LeaseOf lease) leased = leased.stream
  stream_in want y z (WaitOf ticket) leased = tt

-- an acquire that comes to an answer had no reason to be refused
pub none_due : {A E : Type 0} (due : Option E) (result : Result A E) (answer : A) → result ≡ Ok answer → IfSome due (λ reason. result ≡ Err reason) → due ≡ None
none_due None result answer is refused = refl
none_due (Some reason) result answer is refused = absurd (ok_is_err (sym is ∙ refused))
  where
    ok_is_err : Ok answer ≡ Err reason → ⊥
    ok_is_err e = cc
