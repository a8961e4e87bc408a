-- What a step does, and how many a poll takes: a step reads or writes once at most.
use Rattle.std.specs.Prelude.{◌≡◌, ℕ, zero, suc, ◌<◌, ◌≤◌, Bool, true, false, not, ◌&&◌, ◌||◌, ◌⊎◌, Option, Some, IsSomeAnd}
use Rattle.futures.specs.declared.task.Poll.{Poll}
use Rattle.futures.specs.declared.task.Poll.TheVariants.{Pending}
use Rattle.persistence.specs.declared.facts.Facts.{Facts}
use Rattle.conn_log.specs.declared.entry.Want.{Want}
use Rattle.budget.specs.declared.refusal.Refusal.TheVariants.{StrangeTicket}
use Rattle.bundle.specs.Lease.{Leasing, Ticketed}
use Rattle.cache_trait.specs.CacheCalls.{CacheCall, DropsBy}
use Rattle.cache_trait.specs.CacheCalls.CacheCall.{leases, begins_wait, refuses, grants, keeps_waiting, gives_back, finds_strange_ticket}
use Rattle.exchange.specs.declared.done.Fault.TheVariants.{Dial, Refused}
use Rattle.exchange.specs.declared.done.Done.{Done}
use Rattle.exchange.specs.declared.done.Done.TheVariants.{Bad}
use Rattle.exchange.specs.declared.state.State.{State}
use Rattle.exchange.specs.declared.state.State.TheVariants.{Asking, Waiting, Dialling, Sending, Reading, Finished}
use Rattle.exchange.specs.declared.state.Step.{Step}
use Rattle.exchange.specs.declared.state.Step.TheVariants.{Goes, Waits}
use Rattle.exchange.specs.Wires.{Happening}
use Rattle.exchange.specs.Wires.Happening.{nothing, is_adopted}
use Rattle.exchange.specs.Worlds.{World}
use Rattle.exchange.specs.Steps.{StepsWire, Begins}

-- bytes went over the wire, it was ended, or a call of it failed
abbrev pub IsSomething : Happening → Type 0
IsSomething nothing = ⊥
IsSomething is_adopted = ⊥
IsSomething _ = Unit {0}

-- the lease's wire was read or written once, and something happened
abbrev pub AsksOnce : {W : Type 0} → World W → Leasing W → Leasing W → Type 0
AsksOnce world old new = (happening : Happening) × IsSomething happening × StepsWire old new (λ before after. world.happened before after happening)

-- a lease was spent
abbrev pub SpendsIt : {W : Type 0} → (CacheCall W → Type 0) → Leasing W → Type 0
SpendsIt did lease = ((facts : Facts) × (now : ℕ) × did (gives_back lease facts now)) ⊎ ((now : ℕ) × DropsBy did lease now)

-- it goes on there, or was spent
abbrev pub IsLeft : {C W : Type 0} → (C → C → CacheCall W → Type 0) → C → C → Leasing W → State W → Type 0
IsLeft did before after lease Asking = SpendsIt (did before after) lease
IsLeft did before after lease (Sending same sent) = (same ≡ lease) × (after ≡ before)
IsLeft did before after lease (Reading same) = (same ≡ lease) × (after ≡ before)
IsLeft did before after lease (Finished done) = SpendsIt (did before after) lease
IsLeft did before after lease _ = ⊥

-- what the cache did for who asked it at that moment, by where that leads: it gave a ticket, a refusal, or a lease, which
-- begins there
abbrev pub AskedAt : {W : Type 0} → World W → (CacheCall W → Type 0) → ℕ → State W → Type 0
AskedAt world did now (Waiting ticket) = did (begins_wait ticket now)
AskedAt world did now (Finished (Bad (Refused refusal))) = (site : ℕ) × (want : Want) × did (refuses site want now refusal)
AskedAt {W} world did now next = (given : Leasing W) × Begins world.happened given next × did (leases given now)

-- the cache was asked, at a moment that the clock told
abbrev pub AsksCache : {W : Type 0} → World W → (CacheCall W → Type 0) → State W → Type 0
AsksCache world did next = (now : ℕ) × world.tells now × AskedAt world did now next

-- the cache found the ticket strange, or granted it a lease, which begins there
abbrev pub ClaimsIt : {W : Type 0} → World W → (CacheCall W → Type 0) → Ticketed → State W → Type 0
ClaimsIt world did ticket (Finished done) = (done ≡ Bad (Refused StrangeTicket)) × did (finds_strange_ticket ticket)
ClaimsIt {W} world did ticket next = (given : Leasing W) × Begins world.happened given next × did (grants given)

-- a connection was opened for the lease, to its site, which it has from now on, with nothing on it yet; or it could not
-- be, and the lease was abandoned
abbrev pub IsDialled : {C W : Type 0} → (C → C → CacheCall W → Type 0) → World W → C → C → Leasing W → State W → Type 0
IsDialled {W = W} did world before after lease (Sending same sent) = (wire : W) × world.untouched wire lease.site lease.start.want.transfer × (same ≡ record lease { stream = Some wire }) × (sent ≡ 0) × (after ≡ before)
IsDialled did world before after lease (Finished done) = (done ≡ Bad Dial) × ((now : ℕ) × world.tells now × DropsBy (did before after) lease now)
IsDialled did world before after lease _ = ⊥

-- a step that goes on
abbrev pub StepsOn : {C W : Type 0} → (C → C → CacheCall W → Type 0) → World W → C → C → State W → State W → Type 0
StepsOn did world before after Asking next = AsksCache world (did before after) next
StepsOn did world before after (Waiting ticket) next = ClaimsIt world (did before after) ticket next
StepsOn did world before after (Dialling lease) next = IsDialled did world before after lease next
StepsOn {W = W} did world before after (Sending lease sent) next = (same : Leasing W) × AsksOnce world lease same × IsLeft did before after same next
StepsOn {W = W} did world before after (Reading lease) next = (same : Leasing W) × AsksOnce world lease same × IsLeft did before after same next
StepsOn did world before after (Finished done) next = (next ≡ Finished done) × (after ≡ before)

-- a step that has to wait leaves it where it is, and its wire, if it was read or written, had nothing yet
abbrev pub StepsNot : {C W : Type 0} → (C → C → CacheCall W → Type 0) → World W → C → C → State W → State W → Type 0
StepsNot did world before after (Waiting ticket) (Waiting same) = (same ≡ ticket) × did before after (keeps_waiting same)
StepsNot did world before after (Dialling lease) (Dialling same) = (same ≡ lease) × (after ≡ before)
StepsNot did world before after (Sending lease sent) (Sending same now) = StepsWire lease same (λ before after. world.happened before after nothing) × (now ≡ sent) × (after ≡ before)
StepsNot did world before after (Reading lease) (Reading same) = StepsWire lease same (λ before after. world.happened before after nothing) × (after ≡ before)
StepsNot did world before after _ _ = ⊥

abbrev pub StepIs : {C W : Type 0} → (C → C → CacheCall W → Type 0) → World W → C → C → State W → Step W → Type 0
StepIs did world before after state (Goes next) = StepsOn did world before after state next
StepIs did world before after state (Waits next) = StepsNot did world before after state next

-- it has a lease there
abbrev pub has_lease : {W : Type 0} → State W → Bool
has_lease (Dialling lease) = true
has_lease (Sending lease sent) = true
has_lease (Reading lease) = true
has_lease _ = false

-- whether a lease was spent: before, or by a step from there to there
abbrev pub was_spent : {W : Type 0} → Bool → State W → State W → Bool
was_spent already state next = already || (not (has_lease next) && has_lease state)

-- so many steps that go on, by which a lease was spent or not
abbrev pub TakesSteps : {C W : Type 0} → (C → C → CacheCall W → Type 0) → World W → ℕ → C → C → Bool → State W → State W → Type 0
TakesSteps did world zero before after spent state next = (next ≡ state) × (after ≡ before) × (spent ≡ false)
TakesSteps {C} {W} did world (suc count) before after spent state next =
    (cache : C) × (middle : State W) × (already : Bool) × TakesSteps did world count before cache already state middle × StepsOn did world cache after middle next × (spent ≡ was_spent already middle next)

-- it has ended
abbrev pub IsEnd : {W : Type 0} → State W → Type 0
IsEnd next = (done : Done) × (next ≡ Finished done)

-- a poll takes 64 steps at most: it has asked to be polled again after all of them; else it has ended by them, or the
-- last one has to wait, which spends no lease
abbrev pub PollsAt : {C W : Type 0} → (C → C → CacheCall W → Type 0) → World W → C → C → Bool → Bool → State W → State W → Type 0
PollsAt {C} {W} did world before after true spent state next = TakesSteps did world 64 before after spent state next
PollsAt {C} {W} did world before after false spent state next =
    ((count : ℕ) × (count ≤ 64) × TakesSteps did world count before after spent state next × IsEnd next)
    ⊎ ((count : ℕ) × (count < 64) × (cache : C) × (middle : State W) × TakesSteps did world count before cache spent state middle × StepsNot did world cache after middle next)

abbrev pub PollsFew : {C W : Type 0} → (C → C → CacheCall W → Type 0) → World W → C → C → Bool → Bool → Option (State W) → Option (State W) → Type 0
PollsFew did world before after yielded spent state next = IsSomeAnd state (λ first. IsSomeAnd next (PollsAt did world before after yielded spent first))

-- so many steps, from where it stood
abbrev pub TakesSome : {C W : Type 0} → (C → C → CacheCall W → Type 0) → World W → ℕ → C → C → Bool → Option (State W) → Option (State W) → Type 0
TakesSome did world count before after spent state next = IsSomeAnd state (λ first. IsSomeAnd next (TakesSteps did world count before after spent first))

-- what a step does, by how its poll ends, if it ends there
abbrev pub StepAnswersAt : {C W : Type 0} → (C → C → CacheCall W → Type 0) → World W → C → C → Option (Poll (Unit {0})) → State W → State W → Type 0
StepAnswersAt did world before after (Some Pending) state next = StepsNot did world before after state next
StepAnswersAt did world before after _ state next = StepsOn did world before after state next

abbrev pub StepAnswers : {C W : Type 0} → (C → C → CacheCall W → Type 0) → World W → C → C → Option (Poll (Unit {0})) → Option (State W) → Option (State W) → Type 0
StepAnswers did world before after answer state next = IsSomeAnd state (λ first. IsSomeAnd next (StepAnswersAt did world before after answer first))

-- whether a lease was spent, before a step and after it: one that has to wait spends none
abbrev pub StepSpendsAt : {W : Type 0} → Option (Poll (Unit {0})) → Bool → Bool → State W → State W → Type 0
StepSpendsAt (Some Pending) already spent state next = spent ≡ already
StepSpendsAt _ already spent state next = spent ≡ was_spent already state next

abbrev pub StepSpends : {W : Type 0} → Option (Poll (Unit {0})) → Bool → Bool → Option (State W) → Option (State W) → Type 0
StepSpends answer already spent state next = IsSomeAnd state (λ first. IsSomeAnd next (StepSpendsAt answer already spent first))
