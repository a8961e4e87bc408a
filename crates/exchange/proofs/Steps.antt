-- What a step does, and that a poll takes few.
use Rattle.std.proofs.Common.{◌≡◌, sym, ap, subst, ℕ, suc, ◌+◌, ◌<◌, Bool, true, false, true≢false, inl, inr, take, List, Option, Some, None, unwrap_or, arith}
use Rattle.futures.specs.declared.task.Poll.{Poll}
use Rattle.futures.specs.declared.task.Poll.TheVariants.{Ready, Pending}
use Rattle.futures.specs.declared.task.context.Context.{Context}
use Rattle.futures.specs.declared.task.waker.Waker.{Waker}
use Rattle.persistence.specs.declared.facts.Facts.{Facts}
use Rattle.bundle.specs.Lease.{Leasing, Ticketed}
use Rattle.cache_trait.specs.CacheCalls.{CacheCall, DropsBy}
use Rattle.cache_trait.specs.CacheCalls.CacheCall.{leases, grants}
use Rattle.exchange.specs.declared.state.State.{State}
use Rattle.exchange.specs.declared.state.State.TheVariants as at
use Rattle.exchange.specs.declared.wire.Read.TheVariants.{Bytes}
use Rattle.exchange.specs.declared.wire.Written.TheVariants.{Took}
use Rattle.exchange.specs.Wires.{Reads, Writes}
use Rattle.exchange.specs.Wires.Happening.{takes, gives}
use Rattle.exchange.specs.Worlds.{World}
use Rattle.exchange.specs.Steps.{Begins, StepsWire, IsGivenBack}
use Rattle.exchange.specs.Exchanging.{StepEnds}
use Rattle.exchange.specs.Stepping.{AsksOnce, SpendsIt, AsksCache, ClaimsIt, StepAnswers, StepSpends, TakesSome, PollsFew}

module _ {W : Type 0} (did : CacheCall W → Type 0) (lease : Leasing W) (now : ℕ) where
  -- a lease that came back, or was dropped, was spent
  pub spends_back : (facts : Facts) (known : Bool) → IsGivenBack did lease facts now known → SpendsIt did lease
  spends_back facts true given = inl (facts, now, given)
  spends_back facts false given = inr (now, inr given)

  pub spends_drop : DropsBy did lease now → SpendsIt did lease
  spends_drop drops = inr (now, drops)

module _ {W : Type 0} (world : World W) (old new : Leasing W) where
  -- bytes that were taken or given are something
  pub wrote_once : (bytes : List ℕ) (n : ℕ) → StepsWire old new (λ before after. Writes bytes (world.happened before after) (Took n)) → AsksOnce world old new
  wrote_once bytes n step = (takes (take n bytes), tt, record { before = step.before; after = step.after; was = step.was; is_now = step.is_now; stepped = step.stepped.2 })

  pub read_once : (buffer : List ℕ) (n : ℕ) → StepsWire old new (λ before after. Reads buffer (world.happened before after) (Bytes n)) → AsksOnce world old new
  read_once buffer n step = (gives (take n buffer), tt, record { before = step.before; after = step.after; was = step.was; is_now = step.is_now; stepped = step.stepped.2 })

module _ {W : Type 0} (world : World W) (did : CacheCall W → Type 0) (lease : Leasing W) where
  -- a lease that begins is a step on, for who asked and for who waited
  pub asks_on : (now : ℕ) → world.tells now → did (leases lease now) → (next : State W) → Begins world.happened lease next → AsksCache world did next
  asks_on now told gave at.Asking begins = absurd begins
  asks_on now told gave (at.Waiting ticket) begins = absurd begins
  asks_on now told gave (at.Dialling same) begins = (now, told, (lease, begins, gave))
  asks_on now told gave (at.Sending same sent) begins = (now, told, (lease, begins, gave))
  asks_on now told gave (at.Reading same) begins = absurd begins
  asks_on now told gave (at.Finished done) begins = absurd begins

  pub claims_on : (ticket : Ticketed) → did (grants lease) → (next : State W) → Begins world.happened lease next → ClaimsIt world did ticket next
  claims_on ticket gave at.Asking begins = absurd begins
  claims_on ticket gave (at.Waiting same) begins = absurd begins
  claims_on ticket gave (at.Dialling same) begins = (lease, begins, gave)
  claims_on ticket gave (at.Sending same sent) begins = (lease, begins, gave)
  claims_on ticket gave (at.Reading same) begins = absurd begins
  claims_on ticket gave (at.Finished done) begins = absurd begins

module _ {C W : Type 0} (does : C → C → CacheCall W → Type 0) (world : World W) (first before after : C) (count : ℕ) (already spent : Bool) where
  -- one step more
  takes_next : (a b c : Option (State W)) → TakesSome does world count first before already a b → StepAnswers does world before after None b c → StepSpends None already spent b c → TakesSome does world (suc count) first after spent a c
  takes_next (Some a) (Some b) (Some c) taken step spends = (before, b, already, taken, step, spends)
  takes_next (Some a) (Some b) None taken step spends = absurd step
  takes_next (Some a) None c taken step spends = absurd taken
  takes_next None b c taken step spends = absurd taken

  pub takes_more : (a b c : Option (State W)) → TakesSome does world count first before already a b → StepAnswers does world before after None b c → StepSpends None already spent b c → TakesSome does world (count + 1) first after spent a c
  takes_more a b c taken step spends =
      let next : suc count ≡ count + 1 = omega arith in
      subst (λ (n : ℕ). TakesSome does world n first after spent a c) next (takes_next a b c taken step spends)

  -- the last step of a poll
  pub polls_few : (yielded : Bool) (answer : Poll (Unit {0})) (a b c : Option (State W)) (name : W → ℕ) (dial : ℕ) (old new : Context) (waker : Option Waker) → yielded ≡ false → count < 64 → TakesSome does world count first before already a b → StepAnswers does world before after (Some answer) b c → StepSpends (Some answer) already spent b c → StepEnds name dial old new waker c (Some answer) → PollsFew does world first after yielded spent a c
  polls_few true answer a b c name dial old new waker not few taken step spends ends = absurd (true≢false not)
  polls_few false (Ready it) (Some a) (Some b) (Some c) name dial old new waker not few taken step spends ends =
      let end : c ≡ at.Finished ends.1.0 = ap (λ (o : Option (State W)). unwrap_or o c) ends.1.1 in
      inl (suc count, few, (before, b, already, taken, step, spends), (ends.1.0, end))
  polls_few false Pending (Some a) (Some b) (Some c) name dial old new waker not few taken step spends ends =
      inr (count, few, before, b, subst (λ (s : Bool). TakesSome does world count first before s (Some a) (Some b)) (sym spends) taken, step)
  polls_few false (Ready it) (Some a) (Some b) None name dial old new waker not few taken step spends ends = absurd step
  polls_few false Pending (Some a) (Some b) None name dial old new waker not few taken step spends ends = absurd step
  polls_few false answer (Some a) None c name dial old new waker not few taken step spends ends = absurd taken
  polls_few false answer None b c name dial old new waker not few taken step spends ends = absurd taken

-- all steps of a poll were taken
pub polls_all : {C W : Type 0} (does : C → C → CacheCall W → Type 0) (world : World W) (first after : C) (count : ℕ) (spent : Bool) (a c : Option (State W)) → count ≡ 64 → TakesSome does world count first after spent a c → PollsFew does world first after true spent a c
polls_all does world first after count spent (Some a) (Some c) all taken = subst (λ (n : ℕ). TakesSome does world n first after spent (Some a) (Some c)) all taken
polls_all does world first after count spent (Some a) None all taken = absurd taken
polls_all does world first after count spent None c all taken = absurd taken
