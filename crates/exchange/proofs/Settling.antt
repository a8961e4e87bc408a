-- How a lease is settled: what its reader told is what its wire received.
use Rattle.std.proofs.Common.{◌≡◌, ℕ, Bool, true, false, ◌⊎◌, inl, inr, refl, subst, List, ◌++◌, Option, Some, None}
use Rattle.std.specs.Prelude.{MatchOption}
use Rattle.persistence.specs.declared.facts.Facts.{Facts}
use Rattle.persistence.specs.declared.method.Method.{Method}
use Rattle.persistence.specs.declared.answer.ReadFault.{ReadFault}
use Rattle.persistence.specs.Faults.{IsFaultless, IsFirstFault}
use Rattle.persistence.specs.Reader.{Reading, ShowsItsFault, TellsWhole, TellsFactsOf, TellsWholeOf}
use Rattle.persistence.specs.Split.{Parts, IsSplit}
use Rattle.persistence.specs.Told.{TellsStatus, TellsLength, IsNotWhole}
use Rattle.budget.specs.declared.refusal.Refusal.TheVariants.{StrangeLease}
use Rattle.bundle.specs.Lease.{Leasing}
use Rattle.exchange.specs.declared.job.Prepared.{Prepared}
use Rattle.exchange.specs.declared.done.Answer.{Answer}
use Rattle.exchange.specs.declared.done.Fault.TheVariants.{Cut, Refused}
use Rattle.exchange.specs.declared.done.Done.TheVariants.{Good, Bad}
use Rattle.exchange.specs.declared.state.State.TheVariants.{Finished}
use Rattle.exchange.specs.Wires.{Carried}
use Rattle.cache_trait.specs.CacheCalls.CacheCall.{gives_back, finds_strange_lease}
use Rattle.cache_trait.specs.CacheCalls.{CacheCall}
use Rattle.exchange.specs.Worlds.{World}
use Rattle.exchange.specs.Answers.{IsAnswer, IsCut, IsWhole, may_retry}
use Rattle.exchange.specs.Story.{IsReturn, IsStray}
use Rattle.exchange.specs.Standing.{IsFinal, WouldGoOn}
use Rattle.exchange.specs.Steps.{LeadsOn, IsGivenBack, CanSettle}
use Rattle.exchange.proofs.Spending.{spent_by, spent_back}

-- where no fault was answered, the bytes show none
faultless_so : (r : Reading) → r.fault ≡ None → ShowsItsFault r → IsFaultless r.method r.bytes
faultless_so r none shown = subst (λ (fault : Option ReadFault). MatchOption fault (IsFaultless r.method r.bytes) (IsFirstFault r.method r.bytes)) none shown

-- where no final head came, the response is not whole
no_status : (method : Method) (bytes : List ℕ) (ended whole : Bool) → TellsStatus bytes None → TellsWhole method bytes ended whole → whole ≡ false
no_status method bytes ended false status told = refl
no_status method bytes ended true status told =
    let split : (parts : Parts) × IsSplit method bytes ended parts = told.yes refl in
    cc (status.after split.0.head (split.0.body ++ split.0.rest) (split.0.interims, split.1.heads))

-- where the response is not whole, the wire has ended, and the request may not be sent once more
over_so : (p : Prepared) (reused : Bool) (c : Carried) → IsNotWhole p.method c.received c.ended
    → ((c.ended ≡ true) × (may_retry p.retried reused c.received ≡ false)) ⊎ ((parts : Parts) × IsSplit p.method c.received c.ended parts)
    → (c.ended ≡ true) × (may_retry p.retried reused c.received ≡ false)
over_so p reused c open_end (inl is) = is
over_so p reused c open_end (inr split) = absurd (open_end split.0 split.1)

-- the facts that its reader told
pub record ToldFacts (p : Prepared) (facts : Facts) : Type 0 where
  pub shown : ShowsItsFault p.reader
  pub told : p.reader.fault ≡ None → TellsFactsOf p.reader facts
  pub whole : p.reader.fault ≡ None → TellsWholeOf p.reader facts.whole

-- and the rest of a whole response
pub record ToldAnswer (p : Prepared) (answer : Answer) : Type 0 where
  pub facts : ToldFacts p answer.facts
  pub whole : answer.facts.whole ≡ true
  pub status : TellsStatus p.reader.bytes (Some answer.status)
  pub len : TellsLength p.reader.method p.reader.bytes answer.body_len
  pub retried : answer.retried ≡ p.retried

-- where the response was whole, it was on the wire
is_whole : (p : Prepared) (facts : Facts) (reused : Bool) → ToldFacts p facts → facts.whole ≡ true → (c : Carried) → CanSettle p reused c → IsWhole p c
is_whole p facts reused told whole c can =
    let split : (parts : Parts) × IsSplit p.reader.method p.reader.bytes p.reader.ended parts = (told.whole can.fed.faultless).yes whole in
    record { parts = split.0; sent = can.sent; unfailed = can.unfailed; split = rw (← can.fed.method, ← can.fed.bytes, ← can.ended) split.1 }

-- that is told of what the wire received
is_answer : (p : Prepared) (answer : Answer) (reused : Bool) → ToldAnswer p answer → (c : Carried) → CanSettle p reused c → IsAnswer p answer c
is_answer p answer reused told c can =
    let response = is_whole p answer.facts reused told.facts told.whole c can in
    record {
      parts = response.parts;
      sent = can.sent;
      unfailed = can.unfailed;
      split = response.split;
      faultless = rw (← can.fed.method, ← can.fed.bytes) (faultless_so p.reader can.fed.faultless told.facts.shown);
      facts = rw (← can.fed.method, ← can.fed.close, ← can.fed.bytes, ← can.ended) (told.facts.told can.fed.faultless);
      whole = told.whole;
      status = rw (← can.fed.bytes) told.status;
      len = rw (← can.fed.method, ← can.fed.bytes) told.len;
      retried = told.retried;
    }

-- where it was not, the wire has ended, and what its reader told is told of what the wire received
is_cut : (p : Prepared) (facts : Facts) (reused : Bool) → ToldFacts p facts → (p.reader.fault ≡ None → facts.whole ≡ false) → (c : Carried) → CanSettle p reused c → IsFinal p (IsCut p facts) reused c
is_cut p facts reused told cut c can =
    let none = can.fed.faultless in
    let open_end : IsNotWhole p.method c.received c.ended = rw (← can.fed.method, ← can.fed.bytes, ← can.ended) ((told.whole none).no (cut none)) in
    let over = over_so p reused c open_end can.over in (
      over.1,
      record {
        sent = can.sent;
        unfailed = can.unfailed;
        ended = over.0;
        faultless = rw (← can.fed.method, ← can.fed.bytes) (faultless_so p.reader none told.shown);
        facts_are = rw (← over.0, ← can.fed.method, ← can.fed.close, ← can.fed.bytes, ← can.ended) (told.told none);
        cut = cut none;
      },
    )

module _ {C W : Type 0} (does : C → C → CacheCall W → Type 0) (world : World W) (p : Prepared) (before after : C) (lease : Leasing W) (now : ℕ) (tells : world.tells now) where
  -- a whole response is answered, and its lease is given back
  pub ends_good : (answer : Answer) → does before after (gives_back lease answer.facts now) → answer.reused ≡ lease.start.reused → ToldAnswer p answer
      → LeadsOn does world p p before after lease (CanSettle p lease.start.reused) (Finished (Good answer))
  ends_good answer done reused told first from = spent_by does world p before after lease (gives_back lease answer.facts now) (IsReturn world answer.facts)
      (CanSettle p lease.start.reused) (λ reused c. (answer.reused ≡ reused) × IsAnswer p answer c)
      done (now, tells, refl) (λ c can. (reused, is_answer p answer lease.start.reused told c can)) first from

  -- its lease is taken for a stranger
  pub ends_strange : (facts : Facts) → does before after (finds_strange_lease lease) → ToldFacts p facts → facts.whole ≡ true
      → LeadsOn does world p p before after lease (CanSettle p lease.start.reused) (Finished (Bad (Refused StrangeLease)))
  ends_strange facts done told whole first from =
      let spent = spent_by does world p before after lease (finds_strange_lease lease) IsStray (CanSettle p lease.start.reused) (WouldGoOn p)
      done refl (λ c can. inl (is_whole p facts lease.start.reused told whole c can)) first from in
      (spent.0, spent.1, inr (inr (record { spent = spent.2; refusal_is = refl })))

  -- the response was cut
  pub ends_cut : (known : Bool) (facts : Facts) → IsGivenBack (does before after) lease facts now known → ToldFacts p facts → (p.reader.fault ≡ None → facts.whole ≡ false)
      → LeadsOn does world p p before after lease (CanSettle p lease.start.reused) (Finished (Bad Cut))
  ends_cut known facts done told cut first from =
      let spent = spent_back does world p before after lease facts now known (CanSettle p lease.start.reused) (IsFinal p (IsCut p facts))
      tells done (is_cut p facts lease.start.reused told cut) first from in
      (spent.0, spent.1, (facts, spent.2))

  -- it was cut where no final head came
  pub ends_headless : (known : Bool) (facts : Facts) → IsGivenBack (does before after) lease facts now known → ToldFacts p facts → TellsStatus p.reader.bytes None
      → LeadsOn does world p p before after lease (CanSettle p lease.start.reused) (Finished (Bad Cut))
  ends_headless known facts done told status = ends_cut known facts done told (λ none. no_status p.reader.method p.reader.bytes p.reader.ended facts.whole status (told.whole none))
