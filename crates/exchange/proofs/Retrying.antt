-- What becomes of a lease whose wire failed or has ended.
use Rattle.std.proofs.Common.{◌≡◌, ap, refl, sym, subst, ◌∙◌, ℕ, Bool, true, false, inl, inr, List, [], ◌∷◌, Option, Some, None, IsSomeAnd}
use Rattle.persistence.specs.Reader.{Reading, new_reader}
use Rattle.budget.specs.declared.refusal.Refusal.TheVariants.{StrangeLease}
use Rattle.bundle.specs.Lease.{Leasing}
use Rattle.exchange.specs.declared.job.Prepared.{Prepared}
use Rattle.exchange.specs.declared.done.Fault.{Fault}
use Rattle.exchange.specs.declared.done.Fault.TheVariants.{Read, Write, Refused}
use Rattle.exchange.specs.declared.done.Done.TheVariants.{Bad}
use Rattle.exchange.specs.declared.state.State.TheVariants.{Asking, Finished}
use Rattle.exchange.specs.Wires.{Carried}
use Rattle.cache_trait.specs.CacheCalls.{CacheCall, DropsBy}
use Rattle.cache_trait.specs.CacheCalls.CacheCall.{abandons, finds_strange_lease}
use Rattle.exchange.specs.Worlds.{World}
use Rattle.exchange.specs.Answers.{unread, wanted_at, FailsReading, FailsWriting, IsFruitless, may_retry}
use Rattle.exchange.specs.Story.{AsksAt, Holds, WasTried, IsStray}
use Rattle.exchange.specs.Standing.{StandsFrom, IsFinal, WouldGoOn}
use Rattle.exchange.specs.Steps.{LeasedFrom, LeadsOn, IsWireFault, IsFed, IsRetriable, FailsSo, IsAtEnd, CanSettle}
use Rattle.exchange.specs.Since.{Outset}
use Rattle.exchange.proofs.Since.{one_more}
use Rattle.exchange.proofs.OnWires.{on_wire_so}
use Rattle.exchange.proofs.Retold.{fruitless_in, leased_in}
use Rattle.exchange.proofs.Spending.{spent_by, spent_drop}

-- what is not about a wire is so where it follows from what holds of one
from_some : {W : Type 0} (P : W → Type 0) (R : Type 0) (stream : Option W) → ((wire : W) → P wire → R) → IsSomeAnd stream P → R
from_some P R None leads holds = absurd holds
from_some P R (Some wire) leads holds = leads wire holds

-- where nothing came on a reused connection, for the first time, the request may be sent once more
may_again : (retried reused : Bool) (bytes : List ℕ) → retried ≡ false → reused ≡ true → bytes ≡ [] → may_retry retried reused bytes ≡ true
may_again retried reused bytes first reuse none = rw (first, reuse, none) refl

-- what its reader was fed decides that for what its wire received
is_final : (p : Prepared) (reused : Bool) (c : Carried) → IsFed p c → may_retry p.retried reused p.reader.bytes ≡ false → may_retry p.retried reused c.received ≡ false
is_final p reused c fed final = subst (λ (bytes : List ℕ). may_retry p.retried reused bytes ≡ false) fed.bytes final

module _ {C W : Type 0} (does : C → C → CacheCall W → Type 0) (world : World W) (p : Prepared) (first : Outset C W) (before : C) (lease : Leasing W) where
  -- a lease whose wire has ended can be settled, once its reader was told, where the request may not be sent once more
  pub can_settle : (reader : Reading) → reader ≡ record p.reader { ended = true } → may_retry p.retried lease.start.reused p.reader.bytes ≡ false
      → LeasedFrom does world p first before lease (IsAtEnd p) → LeasedFrom does world (record p { reader = reader }) first before lease (CanSettle (record p { reader = reader }) lease.start.reused)
  can_settle reader is final from = leased_in does world p (record p { reader = reader }) first before lease (IsAtEnd p) (CanSettle (record p { reader = reader }) lease.start.reused)
      (λ c was. record {
        sent = was.ended.sent;
        unfailed = was.ended.unfailed;
        fed = record {
          bytes = ap (λ r. r.bytes) is ∙ was.fed.bytes;
          faultless = ap (λ r. r.fault) is ∙ was.fed.faultless;
          method = ap (λ r. r.method) is ∙ was.fed.method;
          close = ap (λ r. r.request_close) is ∙ was.fed.close;
        };
        ended = ap (λ r. r.ended) is ∙ sym was.ended.ended;
        over = inl (was.ended.ended, is_final p lease.start.reused c was.fed final);
      }) from

module _ {C W : Type 0} (does : C → C → CacheCall W → Type 0) (world : World W) (p : Prepared) (before after : C) (lease : Leasing W) (now : ℕ) (tells : world.tells now) where
  -- its lease is abandoned, and it asks once more
  pub asks_again : (reader : Reading) → reader ≡ new_reader p.reader.method p.reader.request_close → does before after (abandons lease now) → p.retried ≡ false → lease.start.reused ≡ true
      → LeadsOn does world p (record p { reader = reader; retried = true }) before after lease (IsRetriable p) Asking
  asks_again reader cleared did first reuse start from =
      let new = record p { reader = reader; retried = true } in
      let unread_now : reader ≡ unread p = from_some _ (reader ≡ unread p) lease.stream (λ wire on. let fed = on.2.fed in let method = fed.method in let close = fed.close in cc) from.wire in
      let held = subst (λ (retried : Bool). Holds world (AsksAt world p retried) p.site (wanted_at p retried) from.given lease from.calls) first from.has in
      let tried : WasTried world new (abandons lease now ∷ from.calls) = record {
        given = from.given;
        lease = lease;
        call = abandons lease now;
        earlier = from.calls;
        last = refl;
        dropped = (now, tells, refl);
        held = held;
        reused = reuse;
        wire = on_wire_so world from.given lease (IsRetriable p) (IsFruitless new) (λ c was. fruitless_in p new refl c was.fruitless) from.wire;
      } in
      (abandons lease now ∷ from.calls, one_more does start before after (abandons lease now) from.calls from.done did, record { reader = unread_now; asks = tried })

  -- its lease is taken for a stranger
  pub loses_lease : does before after (finds_strange_lease lease) → p.retried ≡ false → lease.start.reused ≡ true
      → LeadsOn does world p p before after lease (IsRetriable p) (Finished (Bad (Refused StrangeLease)))
  loses_lease did first reuse start from =
      let spent = spent_by does world p before after lease (finds_strange_lease lease) IsStray (IsRetriable p) (WouldGoOn p)
      did refl (λ c was. inr (may_again p.retried lease.start.reused c.received first reuse was.fruitless.none, was.fruitless)) start from in
      (spent.0, spent.1, inr (inr (record { spent = spent.2; refusal_is = refl })))

  -- its wire failed so, and the request may not be sent once more
  pub fails : (fault : Fault) → IsWireFault fault → DropsBy (does before after) lease now → may_retry p.retried lease.start.reused p.reader.bytes ≡ false
      → LeadsOn does world p p before after lease (FailsSo p fault) (Finished (Bad fault))
  fails fault (inl read) did final first =
      subst (λ (f : Fault). LeasedFrom does world p first before lease (FailsSo p f) → StandsFrom does world p first after (Finished (Bad f))) (sym read)
      (spent_drop does world p before after lease now (FailsSo p Read) (IsFinal p (FailsReading p)) tells did (λ c was. (is_final p lease.start.reused c was.fed final, was.fails)) first)
  fails fault (inr write) did final first =
      subst (λ (f : Fault). LeasedFrom does world p first before lease (FailsSo p f) → StandsFrom does world p first after (Finished (Bad f))) (sym write)
      (spent_drop does world p before after lease now (FailsSo p Write) (IsFinal p (FailsWriting p)) tells did (λ c was. (is_final p lease.start.reused c was.fed final, was.fails)) first)
