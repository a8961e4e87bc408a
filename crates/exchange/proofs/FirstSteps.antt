-- How an exchange goes on from where it asks, waits or dials.
use Rattle.std.proofs.Common.{◌≡◌, refl, sym, ap, subst, ◌∙◌, ℕ, List, [], ◌∷◌, is_some, ◌⊎◌, inl, inr, Option, IsSomeAnd}
use Rattle.budget.specs.declared.refusal.Refusal.{Refusal}
use Rattle.budget.specs.declared.refusal.Refusal.TheVariants.{StrangeTicket}
use Rattle.bundle.specs.Lease.{Leasing, Ticketed}
use Rattle.exchange.specs.declared.job.Prepared.{Prepared}
use Rattle.exchange.specs.declared.done.Fault.TheVariants.{Dial, Refused}
use Rattle.exchange.specs.declared.done.Done.TheVariants.{Bad}
use Rattle.exchange.specs.declared.state.State.{State}
use Rattle.exchange.specs.declared.state.State.TheVariants as at
use Rattle.exchange.specs.Wires.Happening.{is_adopted}
use Rattle.cache_trait.specs.CacheCalls.{CacheCall, DropsBy}
use Rattle.cache_trait.specs.CacheCalls.CacheCall.{leases, begins_wait, grants, keeps_waiting, refuses, abandons, finds_strange_lease, finds_strange_ticket}
use Rattle.exchange.specs.Answers.{unread, wanted, IsSent}
use Rattle.exchange.specs.Worlds.{World, BeginsWith}
use Rattle.exchange.specs.Story.{IsGiven, IsGranted, Asks, Has}
use Rattle.exchange.specs.Standing.{StandsFrom, GoesOn}
use Rattle.exchange.specs.Steps.{StepsWire, Begins}
use Rattle.exchange.specs.Since.{Outset, DoneSince}
use Rattle.exchange.proofs.Since.{one_more}
use Rattle.exchange.proofs.OnWires.{CarriesSo, same_still}

-- an untouched or adopted wire has sent nothing of the request, and received nothing
nothing_sent : {W : Type 0} (world : World W) (p : Prepared) (given : Leasing W) (wire : W) → BeginsWith world given.site given.start.want.transfer given.stream wire → CarriesSo world given (IsSent p 0) wire
nothing_sent world p given wire begins = ([], record { first = wire; begins = begins; happened = refl }, record { front = refl; received = refl; well = record { going = refl; unfailed = record { reads = refl; writes = refl } } })

module _ {C W : Type 0} (does : C → C → CacheCall W → Type 0) (world : World W) (p : Prepared) (first : Outset C W) (before after : C) (calls : List (CacheCall W)) (call : CacheCall W) (done : DoneSince does first before calls) (reader : p.reader ≡ unread p) where
  -- that call gave the lease, or granted it
  abbrev pub Got : Leasing W → Type 0
  Got lease = IsGiven world (Asks world p) lease (call ∷ calls) ⊎ IsGranted world (Asks world p) p.site (wanted p) lease (call ∷ calls)

  -- so the lease is its own
  its_own : (lease : Leasing W) → Got lease → lease.site ≡ p.site → lease.start.want ≡ wanted p → is_some lease.stream ≡ lease.start.reused → Has world p lease lease (call ∷ calls)
  its_own lease how site want wire = record { got = record { how = how; site_is = site; want_is = want; wire = wire }; same = refl }

  -- where its wire was adopted it sends
  sends : (lease same : Leasing W) → Got lease → does before after call → lease.site ≡ p.site → lease.start.want ≡ wanted p → is_some lease.stream ≡ lease.start.reused → StepsWire lease same (λ old new. world.happened old new is_adopted) → StandsFrom does world p first after (at.Sending same 0)
  sends lease same how did site want has_wire step =
      let own = its_own lease how site want has_wire in
      let begins : BeginsWith world lease.site lease.start.want.transfer lease.stream step.after = subst (λ (s : Option W). BeginsWith world lease.site lease.start.want.transfer s step.after) (sym step.was) step.stepped in
      let stream = ap (λ (l : Leasing W). l.stream) step.is_now in
      let wire = subst (λ (s : Option W). IsSomeAnd s (CarriesSo world lease (IsSent p 0))) (sym stream) (nothing_sent world p lease step.after begins) in (
        call ∷ calls,
        one_more does first before after call calls done did,
        record {
          given = lease;
          reader = reader;
          has = record { got = own.got; same = same_still lease lease same (λ old new. world.happened old new is_adopted) step refl };
          wire = wire;
        },
      )

  -- a lease that was given begins
  pub begins_lease : (lease : Leasing W) (next : State W) → Got lease → does before after call → lease.site ≡ p.site → lease.start.want ≡ wanted p → is_some lease.stream ≡ lease.start.reused → Begins world.happened lease next → StandsFrom does world p first after next
  begins_lease lease at.Asking how did site want has_wire begins = absurd begins
  begins_lease lease (at.Waiting ticket) how did site want has_wire begins = absurd begins
  begins_lease lease (at.Dialling same) how did site want has_wire begins =
      let dials : StandsFrom does world p first after (at.Dialling lease) = (call ∷ calls, one_more does first before after call calls done did, record { reader = reader; has = its_own lease how site want has_wire; none = begins.1 }) in
      subst (λ (l : Leasing W). StandsFrom does world p first after (at.Dialling l)) (sym begins.0) dials
  begins_lease lease (at.Sending same sent) how did site want has_wire begins =
      subst (λ (n : ℕ). StandsFrom does world p first after (at.Sending same n)) (sym begins.1) (sends lease same how did site want has_wire begins.0)
  begins_lease lease (at.Reading same) how did site want has_wire begins = absurd begins
  begins_lease lease (at.Finished end) how did site want has_wire begins = absurd begins

module _ {C W : Type 0} (does : C → C → CacheCall W → Type 0) (world : World W) (p : Prepared) (before after : C) (now : ℕ) (told : world.tells now) where
  -- it asks, and is given a lease
  pub asks_leases : (lease : Leasing W) (next : State W) → does before after (leases lease now) → lease.site ≡ p.site → lease.start.want ≡ wanted p → is_some lease.stream ≡ lease.start.reused → Begins world.happened lease next → GoesOn does world p p before after at.Asking next
  asks_leases lease next did site want wire begins first stands =
      let given = inl (record { now = now; earlier = stands.0; last = refl; told = told; before = stands.2.asks }) in
      begins_lease does world p first before after stands.0 (leases lease now) stands.1 stands.2.reader lease next given did site want wire begins

  -- or a ticket
  pub asks_waits : (ticket : Ticketed) → does before after (begins_wait ticket now) → ticket.site ≡ p.site → ticket.wait.want ≡ wanted p → GoesOn does world p p before after at.Asking (at.Waiting ticket)
  asks_waits ticket did site want first stands = (
    begins_wait ticket now ∷ stands.0,
    one_more does first before after (begins_wait ticket now) stands.0 stands.1 did,
    record { reader = stands.2.reader; waits = record { site_is = site; want_is = want; waits = (refl, told, stands.2.asks) } },
  )

  -- or is refused
  pub asks_refused : (refusal : Refusal) → does before after (refuses p.site (wanted p) now refusal) → GoesOn does world p p before after at.Asking (at.Finished (Bad (Refused refusal)))
  asks_refused refusal did first stands = (
    refuses p.site (wanted p) now refusal ∷ stands.0,
    one_more does first before after (refuses p.site (wanted p) now refusal) stands.0 stands.1 did,
    inl (record { earlier = stands.0; now = now; last = refl; told = told; asks = stands.2.asks }),
  )

module _ {C W : Type 0} (does : C → C → CacheCall W → Type 0) (world : World W) (p : Prepared) (before after : C) where
  -- it waits, and is granted the lease of its ticket
  pub waits_leases : (ticket : Ticketed) (lease : Leasing W) (next : State W) → does before after (grants lease) → lease.site ≡ ticket.site → lease.start.want ≡ ticket.wait.want → is_some lease.stream ≡ lease.start.reused → Begins world.happened lease next → GoesOn does world p p before after (at.Waiting ticket) next
  waits_leases ticket lease next did site want wire begins first stands =
      let waits = stands.2.waits in
      let granted = inr (record { ticket = ticket; earlier = stands.0; last = refl; waited = waits }) in
      begins_lease does world p first before after stands.0 (grants lease) stands.1 stands.2.reader lease next granted did (site ∙ waits.site_is) (want ∙ waits.want_is) wire begins

  -- or still waits
  pub waits_still : (ticket same : Ticketed) → does before after (keeps_waiting same) → same ≡ ticket → GoesOn does world p p before after (at.Waiting ticket) (at.Waiting same)
  waits_still ticket same did is first stands =
      let waits = stands.2.waits in
      let still : StandsFrom does world p first after (at.Waiting ticket) = (
        keeps_waiting same ∷ stands.0,
        one_more does first before after (keeps_waiting same) stands.0 stands.1 did,
        record { reader = stands.2.reader; waits = record { site_is = waits.site_is; want_is = waits.want_is; waits = (is, waits.waits) } },
      ) in
      subst (λ (t : Ticketed). StandsFrom does world p first after (at.Waiting t)) (sym is) still

  -- or its ticket is taken for a stranger
  pub waits_strange : (ticket : Ticketed) → does before after (finds_strange_ticket ticket) → GoesOn does world p p before after (at.Waiting ticket) (at.Finished (Bad (Refused StrangeTicket)))
  waits_strange ticket did first stands = (
    finds_strange_ticket ticket ∷ stands.0,
    one_more does first before after (finds_strange_ticket ticket) stands.0 stands.1 did,
    inr (inl (record { ticket = ticket; earlier = stands.0; last = refl; waits = stands.2.waits; refusal_is = refl })),
  )

  -- it dials, and gives its lease up
  pub dials_in_vain : (lease : Leasing W) (now : ℕ) → world.tells now → DropsBy (does before after) lease now → GoesOn does world p p before after (at.Dialling lease) (at.Finished (Bad Dial))
  dials_in_vain lease now told (inl did) first stands = (
    abandons lease now ∷ stands.0,
    one_more does first before after (abandons lease now) stands.0 stands.1 did,
    record { lease = lease; call = abandons lease now; earlier = stands.0; last = refl; drops = inl (now, told, refl); has = stands.2.has; none = stands.2.none },
  )
  dials_in_vain lease now told (inr did) first stands = (
    finds_strange_lease lease ∷ stands.0,
    one_more does first before after (finds_strange_lease lease) stands.0 stands.1 did,
    record { lease = lease; call = finds_strange_lease lease; earlier = stands.0; last = refl; drops = inr refl; has = stands.2.has; none = stands.2.none },
  )
