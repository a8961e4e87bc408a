-- What a transfer has where it stands is all that it has got and not spent.
use Rattle.std.proofs.Common.{◌≡◌, refl, sym, subst, ℕ, ◌+◌, Bool, true, false, ◌⊎◌, inl, inr, List, [], ◌∷◌, ◌++◌, Option, Some, None, IsSomeAnd, arith}
use Rattle.std.proofs.lemmas.List.Sums.{sum_by-cons}
use Rattle.conn_log.specs.declared.entry.Want.{Want}
use Rattle.persistence.specs.declared.facts.Facts.{Facts}
use Rattle.bundle.specs.Lease.{Leasing, Ticketed}
use Rattle.cache_trait.specs.CacheCalls.{CacheCall, AllDone}
use Rattle.cache_trait.specs.CacheCalls.CacheCall.{leases, begins_wait, refuses, grants, keeps_waiting, gives_back, abandons, withdraws, finds_strange_lease, finds_strange_ticket}
use Rattle.exchange.specs.declared.job.Prepared.{Prepared}
use Rattle.exchange.specs.declared.done.Fault.{Fault}
use Rattle.exchange.specs.declared.done.Fault.TheVariants.{Memory, Dial, Read, Write, BadResponse, Cut, Refused, Cancelled}
use Rattle.exchange.specs.declared.done.Done.{Done}
use Rattle.exchange.specs.declared.done.Done.TheVariants.{Good, Bad}
use Rattle.exchange.specs.declared.state.State.{State}
use Rattle.exchange.specs.declared.state.State.TheVariants as at
use Rattle.exchange.specs.Wires.{Carried}
use Rattle.exchange.specs.Worlds.{World}
use Rattle.exchange.specs.Story.{Waits, IsGiven, IsGranted, Holds, Asks, AsksAt, Has, NoneDone, IsReturn, IsDrop, IsStray}
use Rattle.exchange.specs.Standing.{StandsAt, Spent, Returns, Drops, IsBad, Ends}
use Rattle.exchange.specs.Answers.{wanted}
use Rattle.exchange.specs.Exchanging.{CancelsAt, Cancels}
use Rattle.exchange.specs.Balance.{leases_got, leases_spent, tickets_got, tickets_spent, AreOut, leases_at, tickets_at, HasAll, SpendsAllAt, SpendsAll}

module _ {W : Type 0} where
  -- nothing is out, where nothing was done
  none_out : (calls : List (CacheCall W)) → NoneDone calls → AreOut calls 0 0
  none_out calls none = subst (λ (d : List (CacheCall W)). AreOut d 0 0) (sym none) (record { leases_are = refl; tickets_are = refl })

  -- calls are told as what they are
  told_as : (held waiting : ℕ) (calls same : List (CacheCall W)) → calls ≡ same → AreOut same held waiting → AreOut calls held waiting
  told_as held waiting calls same is out = subst (λ (d : List (CacheCall W)). AreOut d held waiting) (sym is) out

  -- a call more changes what is out by what it gives and spends
  out_more : (call : CacheCall W) (earlier : List (CacheCall W)) (held waiting held_now waiting_now : ℕ) → AreOut earlier held waiting → leases_got call + held ≡ leases_spent call + held_now → tickets_got call + waiting ≡ tickets_spent call + waiting_now
      → AreOut (call ∷ earlier) held_now waiting_now
  out_more call earlier held waiting held_now waiting_now out leases_change tickets_change =
      let leases_out = out.leases_are in
      let tickets_out = out.tickets_are in
      let a = sum_by-cons leases_got call earlier in
      let b = sum_by-cons leases_spent call earlier in
      let c = sum_by-cons tickets_got call earlier in
      let d = sum_by-cons tickets_spent call earlier in
      record { leases_are = omega (arith, a, b, leases_out, leases_change); tickets_are = omega (arith, c, d, tickets_out, tickets_change) }

  -- a lease that is given, or granted for a ticket, is out
  lease_out : (lease : Leasing W) (now : ℕ) (earlier : List (CacheCall W)) → AreOut earlier 0 0 → AreOut (leases lease now ∷ earlier) 1 0
  lease_out lease now earlier out = out_more (leases lease now) earlier 0 0 1 0 out refl refl

  grant_out : (lease : Leasing W) (earlier : List (CacheCall W)) → AreOut earlier 0 1 → AreOut (grants lease ∷ earlier) 1 0
  grant_out lease earlier out = out_more (grants lease) earlier 0 1 1 0 out refl refl

  -- a lease that comes back, is abandoned or a stranger is out no more
  return_in : (lease : Leasing W) (facts : Facts) (now : ℕ) (earlier : List (CacheCall W)) → AreOut earlier 1 0 → AreOut (gives_back lease facts now ∷ earlier) 0 0
  return_in lease facts now earlier out = out_more (gives_back lease facts now) earlier 1 0 0 0 out refl refl

  drop_in : (lease : Leasing W) (now : ℕ) (earlier : List (CacheCall W)) → AreOut earlier 1 0 → AreOut (abandons lease now ∷ earlier) 0 0
  drop_in lease now earlier out = out_more (abandons lease now) earlier 1 0 0 0 out refl refl

  stray_in : (lease : Leasing W) (earlier : List (CacheCall W)) → AreOut earlier 1 0 → AreOut (finds_strange_lease lease ∷ earlier) 0 0
  stray_in lease earlier out = out_more (finds_strange_lease lease) earlier 1 0 0 0 out refl refl

module _ {W : Type 0} (world : World W) (Before : List (CacheCall W) → Type 0) (before_out : (calls : List (CacheCall W)) → Before calls → AreOut calls 0 0) where
  -- a ticket is out while it waits
  waits_out : (ticket : Ticketed) (calls : List (CacheCall W)) → Waits world Before ticket calls → AreOut calls 0 1
  waits_out ticket (begins_wait same now ∷ earlier) waits = out_more (begins_wait same now) earlier 0 0 0 1 (before_out earlier waits.2) refl refl
  waits_out ticket (keeps_waiting same ∷ earlier) waits = out_more (keeps_waiting same) earlier 0 1 0 1 (waits_out ticket earlier waits.1) refl refl
  waits_out ticket _ waits = absurd waits

  how_out : (site : ℕ) (want : Want) (lease : Leasing W) (calls : List (CacheCall W)) → IsGiven world Before lease calls ⊎ IsGranted world Before site want lease calls → AreOut calls 1 0
  how_out site want lease calls (inl one) = told_as 1 0 calls (leases lease one.now ∷ one.earlier) one.last (lease_out lease one.now one.earlier (before_out one.earlier one.before))
  how_out site want lease calls (inr one) = told_as 1 0 calls (grants lease ∷ one.earlier) one.last (grant_out lease one.earlier (waits_out one.ticket one.earlier one.waited.waits))

  -- a lease is out that was got
  holds_out : (site : ℕ) (want : Want) (given lease : Leasing W) (calls : List (CacheCall W)) → Holds world Before site want given lease calls → AreOut calls 1 0
  holds_out site want given lease calls holds = how_out site want given calls holds.got.how

module _ {W : Type 0} (world : World W) (p : Prepared) where
  return_is : (facts : Facts) (lease : Leasing W) (call : CacheCall W) (earlier : List (CacheCall W)) → AreOut earlier 1 0 → IsReturn world facts lease call → AreOut (call ∷ earlier) 0 0
  return_is facts lease call earlier out is = subst (λ (d : CacheCall W). AreOut (d ∷ earlier) 0 0) (sym is.2) (return_in lease facts is.0 earlier out)

  drop_is : (lease : Leasing W) (call : CacheCall W) (earlier : List (CacheCall W)) → AreOut earlier 1 0 → IsDrop world lease call → AreOut (call ∷ earlier) 0 0
  drop_is lease call earlier out is = subst (λ (d : CacheCall W). AreOut (d ∷ earlier) 0 0) (sym is.2) (drop_in lease is.0 earlier out)

  stray_is : (lease : Leasing W) (call : CacheCall W) (earlier : List (CacheCall W)) → AreOut earlier 1 0 → IsStray lease call → AreOut (call ∷ earlier) 0 0
  stray_is lease call earlier out is = subst (λ (d : CacheCall W). AreOut (d ∷ earlier) 0 0) (sym is) (stray_in lease earlier out)

  returns_is : (facts : Facts) (lease : Leasing W) (call : CacheCall W) (earlier : List (CacheCall W)) → AreOut earlier 1 0 → Returns world facts lease call → AreOut (call ∷ earlier) 0 0
  returns_is facts lease call earlier out (inl is) = return_is facts lease call earlier out is
  returns_is facts lease call earlier out (inr is) = stray_is lease call earlier out is

  drops_is : (lease : Leasing W) (call : CacheCall W) (earlier : List (CacheCall W)) → AreOut earlier 1 0 → Drops world lease call → AreOut (call ∷ earlier) 0 0
  drops_is lease call earlier out (inl is) = drop_is lease call earlier out is
  drops_is lease call earlier out (inr is) = stray_is lease call earlier out is

  -- nothing is out while it asks
  asks_out : (retried : Bool) (calls : List (CacheCall W)) → AsksAt world p retried calls → AreOut calls 0 0
  asks_out false calls none = none_out calls none
  asks_out true calls was = told_as 0 0 calls (was.call ∷ was.earlier) was.last (drop_is was.lease was.call was.earlier (holds_out world NoneDone none_out p.site _ was.given was.lease was.earlier was.held) was.dropped)

  has_out : (given lease : Leasing W) (calls : List (CacheCall W)) → Has world p given lease calls → AreOut calls 1 0
  has_out given lease calls has = holds_out world (Asks world p) (asks_out p.retried) p.site _ given lease calls has

  spent_out : (Spends : Leasing W → CacheCall W → Type 0) (P : Bool → Carried → Type 0) (calls : List (CacheCall W)) → ((lease : Leasing W) (call : CacheCall W) (earlier : List (CacheCall W)) → AreOut earlier 1 0 → Spends lease call → AreOut (call ∷ earlier) 0 0) → Spent world p Spends P calls → AreOut calls 0 0
  spent_out Spends P calls spends spent = told_as 0 0 calls (spent.call ∷ spent.earlier) spent.last (spends spent.lease spent.call spent.earlier (has_out spent.given spent.lease spent.earlier spent.has) spent.spends)

  bad_out : (fault : Fault) (calls : List (CacheCall W)) → IsBad world p fault calls → AreOut calls 0 0
  bad_out Memory calls bad = absurd bad
  bad_out Dial calls bad = told_as 0 0 calls (bad.call ∷ bad.earlier) bad.last (drops_is bad.lease bad.call bad.earlier (has_out bad.lease bad.lease bad.earlier bad.has) bad.drops)
  bad_out Read calls bad = spent_out (Drops world) _ calls drops_is bad
  bad_out Write calls bad = spent_out (Drops world) _ calls drops_is bad
  bad_out BadResponse calls bad = spent_out (Returns world bad.0) _ calls (returns_is bad.0) bad.1
  bad_out Cut calls bad = spent_out (Returns world bad.0) _ calls (returns_is bad.0) bad.1
  bad_out (Refused refusal) calls (inl was) =
      let call = refuses p.site (wanted p) was.now refusal in
      told_as 0 0 calls (call ∷ was.earlier) was.last (out_more call was.earlier 0 0 0 0 (asks_out p.retried was.earlier was.asks) refl refl)
  bad_out (Refused refusal) calls (inr (inl lost)) =
      let call = finds_strange_ticket lost.ticket in
      let out = waits_out world (Asks world p) (asks_out p.retried) lost.ticket lost.earlier lost.waits.waits in
      told_as 0 0 calls (call ∷ lost.earlier) lost.last (out_more call lost.earlier 0 1 0 0 out refl refl)
  bad_out (Refused refusal) calls (inr (inr lost)) = spent_out IsStray _ calls stray_is lost.spent
  bad_out Cancelled calls bad = absurd bad

  ends_out : (done : Done) (calls : List (CacheCall W)) → Ends world p done calls → AreOut calls 0 0
  ends_out (Good answer) calls good = spent_out (IsReturn world answer.facts) _ calls (return_is answer.facts) good
  ends_out (Bad fault) calls bad = bad_out fault calls bad

  stands_out : (state : State W) (calls : List (CacheCall W)) → StandsAt world p state calls → AreOut calls (leases_at state) (tickets_at state)
  stands_out at.Asking calls stands = asks_out p.retried calls stands.asks
  stands_out (at.Waiting ticket) calls stands = waits_out world (Asks world p) (asks_out p.retried) ticket calls stands.waits.waits
  stands_out (at.Dialling lease) calls stands = has_out lease lease calls stands.has
  stands_out (at.Sending lease sent) calls stands = has_out stands.given lease calls stands.has
  stands_out (at.Reading lease) calls stands = has_out stands.given lease calls stands.has
  stands_out (at.Finished done) calls stands = ends_out done calls stands

  pub has_all : (state : Option (State W)) (P : State W → Type 0) → IsSomeAnd state P → HasAll world p state
  has_all (Some state) P some = stands_out state
  has_all None P none = absurd none

-- a transfer that is cancelled has spent what it had
module _ {C W : Type 0} (does : C → C → CacheCall W → Type 0) (before after : C) where
  spends_by : (call : CacheCall W) (held waiting : ℕ) → does before after call → leases_got call + held ≡ leases_spent call + 0 → tickets_got call + waiting ≡ tickets_spent call + 0
      → (own : List (CacheCall W)) × AllDone does before after own × ((calls : List (CacheCall W)) → AreOut calls held waiting → AreOut (own ++ calls) 0 0)
  spends_by call held waiting did leases_change tickets_change = (call ∷ [], (before, refl, did), λ calls out. out_more call calls held waiting 0 0 out leases_change tickets_change)

  spends_at : (now : ℕ) (state : State W) → CancelsAt does before after now state → SpendsAllAt does before after state
  spends_at now at.Asking same = ([], same, λ calls out. out)
  spends_at now (at.Waiting ticket) (inl did) = spends_by (withdraws ticket now) 0 1 did refl refl
  spends_at now (at.Waiting ticket) (inr did) = spends_by (finds_strange_ticket ticket) 0 1 did refl refl
  spends_at now (at.Dialling lease) (inl did) = spends_by (abandons lease now) 1 0 did refl refl
  spends_at now (at.Dialling lease) (inr did) = spends_by (finds_strange_lease lease) 1 0 did refl refl
  spends_at now (at.Sending lease sent) (inl did) = spends_by (abandons lease now) 1 0 did refl refl
  spends_at now (at.Sending lease sent) (inr did) = spends_by (finds_strange_lease lease) 1 0 did refl refl
  spends_at now (at.Reading lease) (inl did) = spends_by (abandons lease now) 1 0 did refl refl
  spends_at now (at.Reading lease) (inr did) = spends_by (finds_strange_lease lease) 1 0 did refl refl
  spends_at now (at.Finished done) same = ([], same, λ calls out. out)

  pub spends_all : (now : ℕ) (state : Option (State W)) → Cancels does before after now state → SpendsAll does before after state
  spends_all now (Some state) cancels = spends_at now state cancels
  spends_all now None cancels = absurd cancels
