-- How an exchange goes on from where it reads.
use Rattle.std.proofs.Common.{◌≡◌, ap, refl, sym, ◌∙◌, ℕ, Bool, true, false, inr, List, ◌++◌, length, take, Some, None}
use Rattle.std.proofs.lemmas.List.{with_items_is}
use Rattle.std.specs.Vec.{with_items}
use Rattle.persistence.specs.declared.facts.Facts.{Facts}
use Rattle.persistence.specs.declared.answer.ReadFault.{ReadFault}
use Rattle.persistence.specs.Reader.{Reading, IsSameResponse, HasFault, TellsFactsOfFaulty}
use Rattle.persistence.specs.Split.{Parts, IsSplit}
use Rattle.persistence.specs.Told.{IsNotWhole}
use Rattle.bundle.specs.Lease.{Leasing}
use Rattle.exchange.specs.declared.job.Prepared.{Prepared}
use Rattle.exchange.specs.declared.done.Fault.TheVariants.{BadResponse, Read as ReadFails}
use Rattle.exchange.specs.declared.done.Done.TheVariants.{Bad}
use Rattle.exchange.specs.declared.state.State.TheVariants as at
use Rattle.exchange.specs.declared.wire.Read.{Read}
use Rattle.exchange.specs.declared.wire.Read.TheVariants.{Bytes, NotYet, End, Fault}
use Rattle.exchange.specs.Wires.{Happening, Carried, carries_more, Reads}
use Rattle.exchange.specs.Wires.Happening.{nothing, gives, ends, fails_to_read}
use Rattle.cache_trait.specs.CacheCalls.{CacheCall}
use Rattle.exchange.specs.Worlds.{World}
use Rattle.exchange.specs.Answers.{ReadsWire, IsFaulty}
use Rattle.exchange.specs.Standing.{StandsFrom, GoesOn}
use Rattle.exchange.specs.Steps.{StepsWire, LeasedFrom, LeadsOn, IsGivenBack, IsFed, FailsSo, IsAtEnd, HasCome, CanSettle}
use Rattle.exchange.specs.Since.{Outset}
use Rattle.exchange.proofs.OnWires.{wire_steps, has_still}
use Rattle.exchange.proofs.Retold.{leased_in}
use Rattle.exchange.proofs.Spending.{spent_back}

-- its reader was fed what has come
pub record Feeds (p : Prepared) (count : ℕ) (reader : Reading) : Type 0 where
  pub bytes : reader.bytes ≡ p.reader.bytes ++ take count p.buffer.items
  pub same : IsSameResponse p.reader reader

module _ (p : Prepared) (count : ℕ) (reader : Reading) (feeds : Feeds p count reader) (c : Carried) (come : HasCome p count c) where
  -- so it is fed what the wire received
  fed_so : reader.fault ≡ None → IsFed (record p { reader = reader }) c
  fed_so none = record {
    bytes = feeds.bytes ∙ sym come.bytes;
    faultless = none;
    method = feeds.same.0 ∙ come.method;
    close = feeds.same.1 ∙ come.close;
  }

  -- and reads on where that is not whole
  reads_so : reader.fault ≡ None → IsNotWhole reader.method reader.bytes false → ReadsWire (record p { reader = reader }) c
  reads_so none open_end =
      let fed = fed_so none in
      record {
        sent = come.sent;
        bytes = fed.bytes;
        well = come.well;
        more = inr (rw (← fed.method, ← fed.bytes) open_end);
        reading = feeds.same.2 ∙ come.reading;
        faultless = none;
        method = fed.method;
        close = fed.close;
      }

  -- a whole response can be settled
  settles_so : (reused : Bool) → reader.fault ≡ None → (parts : Parts) × IsSplit reader.method reader.bytes false parts → CanSettle (record p { reader = reader }) reused c
  settles_so reused none whole =
      let fed = fed_so none in
      record {
        sent = come.sent;
        unfailed = come.well.unfailed;
        fed = fed;
        ended = feeds.same.2 ∙ come.reading ∙ sym come.well.going;
        over = inr (whole.0, rw (come.well.going, ← fed.method, ← fed.bytes) whole.1);
      }

  -- bytes that are faulty for its reader are so on the wire
  faulty_so : (fault : ReadFault) (facts : Facts) → HasFault reader fault → TellsFactsOfFaulty reader facts → IsFaulty (record p { reader = reader }) facts c
  faulty_so fault facts has told =
      let bytes : reader.bytes ≡ c.received = feeds.bytes ∙ sym come.bytes in
      let method : reader.method ≡ p.method = feeds.same.0 ∙ come.method in
      let close : reader.request_close ≡ p.want.forbid_reuse = feeds.same.1 ∙ come.close in
      record {
        fault = fault;
        sent = come.sent;
        well = come.well;
        first = rw (← method, ← bytes) has.1;
        facts_are = rw (← method, ← close, ← bytes) told;
      }

module _ {C W : Type 0} (does : C → C → CacheCall W → Type 0) (world : World W) (p : Prepared) (before : C) (lease : Leasing W) (count : ℕ) (reader : Reading) (feeds : Feeds p count reader) where
  -- it reads on
  pub reads_on : reader.fault ≡ None → IsNotWhole reader.method reader.bytes false → LeadsOn does world p (record p { reader = reader }) before before lease (HasCome p count) (at.Reading lease)
  reads_on none open_end first from =
      let new = record p { reader = reader } in
      let now = leased_in does world p new first before lease (HasCome p count) (ReadsWire new) (λ c come. reads_so p count reader feeds c come none open_end) from in
      (now.calls, now.done, record { given = now.given; has = now.has; wire = now.wire })

  -- its response is whole, and its lease can be settled
  pub can_settle_whole : reader.fault ≡ None → (parts : Parts) × IsSplit reader.method reader.bytes false parts → (first : Outset C W) → LeasedFrom does world p first before lease (HasCome p count)
      → LeasedFrom does world (record p { reader = reader }) first before lease (CanSettle (record p { reader = reader }) lease.start.reused)
  can_settle_whole none whole first from =
      let new = record p { reader = reader } in
      leased_in does world p new first before lease (HasCome p count) (CanSettle new lease.start.reused) (λ c come. settles_so p count reader feeds c come lease.start.reused none whole) from

  -- the bytes that came are no response
  pub ends_faulty : (after : C) (now : ℕ) (known : Bool) (facts : Facts) (fault : ReadFault) → world.tells now → IsGivenBack (does before after) lease facts now known
      → HasFault reader fault → ((fault : ReadFault) → reader.fault ≡ Some fault → TellsFactsOfFaulty reader facts)
      → LeadsOn does world p (record p { reader = reader }) before after lease (HasCome p count) (at.Finished (Bad BadResponse))
  ends_faulty after now known facts fault tells done has told first from =
      let new = record p { reader = reader } in
      let faulty = leased_in does world p new first before lease (HasCome p count) (IsFaulty new facts) (λ c come. faulty_so p count reader feeds c come fault facts has (told fault has.0)) from in
      let spent = spent_back does world new before after lease facts now known (IsFaulty new facts) (λ reused. IsFaulty new facts) tells done (λ c was. was) first faulty in
      (spent.0, spent.1, (facts, spent.2))

-- it, once its buffer was read into
abbrev pub filled : Prepared → List ℕ → Prepared
filled p buffer = record p { buffer = with_items p.buffer buffer }

module _ (p : Prepared) (buffer : List ℕ) (c : Carried) (was : ReadsWire p c) where
  -- its reader is fed what the wire received, where nothing more came
  fed_still : (now : Carried) → now.received ≡ c.received → IsFed (filled p buffer) now
  fed_still now same = record { bytes = was.bytes ∙ sym same; faultless = was.faultless; method = was.method; close = was.close }

  -- bytes that its wire gives have come
  come_so : (count : ℕ) → length buffer ≡ p.buffer.len → HasCome (filled p buffer) count (record c { received = c.received ++ take count buffer })
  come_so count long = record {
    sent = was.sent;
    bytes = ap (λ (bytes : List ℕ). bytes ++ take count buffer) (sym was.bytes) ∙ ap (λ (items : List ℕ). p.reader.bytes ++ take count items) (sym (with_items_is p.buffer buffer long));
    well = record { going = was.well.going; unfailed = record { reads = was.well.unfailed.reads; writes = was.well.unfailed.writes } };
    reading = was.reading;
    faultless = was.faultless;
    method = was.method;
    close = was.close;
  }

  -- where nothing came, it reads as before
  still_so : ReadsWire (filled p buffer) c
  still_so = record {
    sent = was.sent;
    bytes = was.bytes;
    well = was.well;
    more = was.more;
    reading = was.reading;
    faultless = was.faultless;
    method = was.method;
    close = was.close;
  }

module _ {C W : Type 0} (does : C → C → CacheCall W → Type 0) (world : World W) (p : Prepared) (cache : C) (old new : Leasing W) (buffer : List ℕ) where
  -- what its wire answers to a read into that buffer
  abbrev pub Answers : Read → Type 0
  Answers read = StepsWire old new (λ before after. Reads buffer (world.happened before after) read)

  -- from where it reads it has its lease, and of its wire that holds which follows from what happened
  leased_on : (h : Happening) (Q : Carried → Type 0) → ((c : Carried) → ReadsWire p c → Q (carries_more h c)) → StepsWire old new (λ before after. world.happened before after h)
      → (first : Outset C W) → StandsFrom does world p first cache (at.Reading old) → LeasedFrom does world (filled p buffer) first cache new Q
  leased_on h Q leads step first stands =
      let from : LeasedFrom does world p first cache new Q = record {
        given = stands.2.given;
        calls = stands.0;
        done = stands.1;
        has = has_still world p stands.2.given old new stands.0 (λ before after. world.happened before after h) step stands.2.has;
        wire = wire_steps world stands.2.given old new h (ReadsWire p) Q leads step stands.2.wire;
      } in
      leased_in does world p (filled p buffer) first cache new Q Q (λ c so. so) from

  -- so many bytes came
  pub reads_bytes : (count : ℕ) → length buffer ≡ p.buffer.len → Answers (Bytes count)
      → (first : Outset C W) → StandsFrom does world p first cache (at.Reading old) → LeasedFrom does world (filled p buffer) first cache new (HasCome (filled p buffer) count)
  reads_bytes count long step =
      let it : StepsWire old new (λ before after. world.happened before after (gives (take count buffer))) = record { before = step.before; after = step.after; was = step.was; is_now = step.is_now; stepped = step.stepped.2 } in
      leased_on (gives (take count buffer)) (HasCome (filled p buffer) count) (λ c was. come_so p buffer c was count long) it

  -- none came
  pub reads_later : Answers NotYet → GoesOn does world p (filled p buffer) cache cache (at.Reading old) (at.Reading new)
  reads_later step first stands =
      let from = leased_on nothing (ReadsWire (filled p buffer)) (still_so p buffer) step first stands in
      (from.calls, from.done, record { given = from.given; has = from.has; wire = from.wire })

  -- its wire has ended
  pub reads_end : Answers End → (first : Outset C W) → StandsFrom does world p first cache (at.Reading old) → LeasedFrom does world (filled p buffer) first cache new (IsAtEnd (filled p buffer))
  reads_end step = leased_on ends (IsAtEnd (filled p buffer)) (λ c was. record { ended = record { sent = was.sent; unfailed = record { reads = was.well.unfailed.reads; writes = was.well.unfailed.writes }; ended = refl }; fed = fed_still p buffer c was (record c { ended = true }) refl }) step

  -- its wire failed
  pub reads_in_vain : Answers Fault → (first : Outset C W) → StandsFrom does world p first cache (at.Reading old) → LeasedFrom does world (filled p buffer) first cache new (FailsSo (filled p buffer) ReadFails)
  reads_in_vain step = leased_on fails_to_read (FailsSo (filled p buffer) ReadFails) (λ c was. record { fed = fed_still p buffer c was (record c { read_failed = true }) refl; fails = record { sent = was.sent; going = was.well.going; writes = was.well.unfailed.writes; failed = refl } }) step
