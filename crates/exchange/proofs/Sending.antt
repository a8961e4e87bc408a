-- How an exchange goes on from where it sends.
use Rattle.std.proofs.Common.{◌≡◌, refl, sym, ap, subst, ◌∙◌, ℕ, ◌+◌, ◌-◌, ◌<◌, ◌≤◌, inl, true, List, ◌++◌, length, take, drop, arith, take-add, take_all, length-drop}
use Rattle.bundle.specs.Lease.{Leasing}
use Rattle.exchange.specs.declared.job.Prepared.{Prepared}
use Rattle.exchange.specs.declared.done.Fault.TheVariants.{Write}
use Rattle.exchange.specs.declared.state.State.TheVariants as at
use Rattle.exchange.specs.declared.wire.Written.{Written}
use Rattle.exchange.specs.declared.wire.Written.TheVariants.{Took, NotYet, Fault}
use Rattle.exchange.specs.Wires.{Carried, Writes}
use Rattle.exchange.specs.Wires.Happening.{nothing, takes, fails_to_write}
use Rattle.exchange.specs.Answers.{text_of, unread, IsSent, ReadsWire}
use Rattle.cache_trait.specs.CacheCalls.{CacheCall}
use Rattle.exchange.specs.Worlds.{World}
use Rattle.exchange.specs.Standing.{StandsFrom, GoesOn}
use Rattle.exchange.specs.Steps.{StepsWire, LeasedFrom, FailsSo}
use Rattle.exchange.specs.Since.{Outset}
use Rattle.exchange.proofs.OnWires.{wire_steps, on_wire_so, has_still}

-- what is left of a text from a place on
rest_is : (p : Prepared) (text : List ℕ) (sent : ℕ) → text ≡ text_of p → take (length text - sent) (drop sent text) ≡ drop sent (text_of p)
rest_is p text sent is = take_all (length text - sent) (drop sent text) (omega (arith, length-drop sent text)) ∙ ap (λ (t : List ℕ). drop sent t) is

-- a wire that takes more of the request has sent more of it
sent_more : (p : Prepared) (rest : List ℕ) (sent taken : ℕ) → rest ≡ drop sent (text_of p) → (c : Carried) → IsSent p sent c → IsSent p (sent + taken) (record c { sent = c.sent ++ take taken rest })
sent_more p rest sent taken is c was = record {
  front = ap (λ (front : List ℕ). front ++ take taken rest) was.front ∙ ap (λ (r : List ℕ). take sent (text_of p) ++ take taken r) is ∙ sym (take-add sent taken (text_of p));
  received = was.received;
  well = record { going = was.well.going; unfailed = record { reads = was.well.unfailed.reads; writes = was.well.unfailed.writes } };
}

-- once the whole of it was sent, its reader reads all that comes
reads_all : (p : Prepared) (sent : ℕ) → length (text_of p) ≤ sent → p.reader ≡ unread p → (c : Carried) → IsSent p sent c → ReadsWire p c
reads_all p sent all reader c was = record {
  sent = was.front ∙ take_all sent (text_of p) all;
  bytes = ap (λ r. r.bytes) reader ∙ sym was.received;
  well = was.well;
  more = inl was.received;
  reading = ap (λ r. r.ended) reader;
  faultless = ap (λ r. r.fault) reader;
  method = ap (λ r. r.method) reader;
  close = ap (λ r. r.request_close) reader;
}

module _ {C W : Type 0} (does : C → C → CacheCall W → Type 0) (world : World W) (p : Prepared) (cache : C) (old new : Leasing W) (sent : ℕ) where
  -- what its wire answers to the rest of that text
  abbrev pub Answers : List ℕ → Written → Type 0
  Answers text written = StepsWire old new (λ before after. Writes (take (length text - sent) (drop sent text)) (world.happened before after) written)

  -- where its wire takes more, that happened
  took : (text : List ℕ) (taken : ℕ) → Answers text (Took taken) → StepsWire old new (λ before after. world.happened before after (takes (take taken (take (length text - sent) (drop sent text)))))
  took text taken step = record { before = step.before; after = step.after; was = step.was; is_now = step.is_now; stepped = step.stepped.2 }

  -- it has sent more, and goes on
  pub sends_more : (text : List ℕ) (taken : ℕ) → text ≡ text_of p → Answers text (Took taken) → GoesOn does world p p cache cache (at.Sending old sent) (at.Sending new (sent + taken))
  sends_more text taken is step first stands =
      let rest = take (length text - sent) (drop sent text) in
      let it = took text taken step in (
        stands.0,
        stands.1,
        record {
          given = stands.2.given;
          reader = stands.2.reader;
          has = has_still world p stands.2.given old new stands.0 (λ before after. world.happened before after (takes (take taken rest))) it stands.2.has;
          wire = wire_steps world stands.2.given old new (takes (take taken rest)) (IsSent p sent) (IsSent p (sent + taken)) (sent_more p rest sent taken (rest_is p text sent is)) it stands.2.wire;
        },
      )

  -- it has sent all, and reads
  pub sends_all : (text : List ℕ) (taken : ℕ) → text ≡ text_of p → length text ≤ sent + taken → Answers text (Took taken) → GoesOn does world p p cache cache (at.Sending old sent) (at.Reading new)
  sends_all text taken is all step first stands =
      let more = sends_more text taken is step first stands in
      let whole : length (text_of p) ≤ sent + taken = subst (λ (t : List ℕ). length t ≤ sent + taken) is all in (
        more.0,
        more.1,
        record {
          given = more.2.given;
          has = more.2.has;
          wire = on_wire_so world more.2.given new (IsSent p (sent + taken)) (ReadsWire p) (reads_all p (sent + taken) whole more.2.reader) more.2.wire;
        },
      )

  -- its wire can take nothing yet
  pub sends_later : (text : List ℕ) → Answers text NotYet → GoesOn does world p p cache cache (at.Sending old sent) (at.Sending new sent)
  sends_later text step first stands = (
    stands.0,
    stands.1,
    record {
      given = stands.2.given;
      reader = stands.2.reader;
      has = has_still world p stands.2.given old new stands.0 (λ before after. world.happened before after nothing) step stands.2.has;
      wire = wire_steps world stands.2.given old new nothing (IsSent p sent) (IsSent p sent) (λ c was. was) step stands.2.wire;
    },
  )

  -- its wire has failed
  fails_so : sent < length (text_of p) → p.reader ≡ unread p → (c : Carried) → IsSent p sent c → FailsSo p Write (record c { write_failed = true })
  fails_so short reader c was = record {
    fed = record {
      bytes = ap (λ r. r.bytes) reader ∙ sym was.received;
      faultless = ap (λ r. r.fault) reader;
      method = ap (λ r. r.method) reader;
      close = ap (λ r. r.request_close) reader;
    };
    fails = record { count = sent; short = short; front = was.front; received = was.received; going = was.well.going; reads = was.well.unfailed.reads; failed = refl };
  }

  pub sends_in_vain : (text : List ℕ) → sent < length (text_of p) → Answers text Fault → (first : Outset C W) → StandsFrom does world p first cache (at.Sending old sent) → LeasedFrom does world p first cache new (FailsSo p Write)
  sends_in_vain text short step first stands = record {
    given = stands.2.given;
    calls = stands.0;
    done = stands.1;
    has = has_still world p stands.2.given old new stands.0 (λ before after. world.happened before after fails_to_write) step stands.2.has;
    wire = wire_steps world stands.2.given old new fails_to_write (IsSent p sent) (FailsSo p Write) (fails_so short stands.2.reader) step stands.2.wire;
  }
