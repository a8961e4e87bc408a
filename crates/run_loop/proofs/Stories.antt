-- What a poll and a close do for a job, by where its transfer stood.
use Rattle.std.proofs.Common.{◌≡◌, refl, sym, subst, ◌∙◌, ℕ, inl, inr, Bool, List, [], ◌∷◌, ◌++◌, Option, Some, None, IsSomeAnd}
use Rattle.cache_trait.specs.CacheCalls.{CacheCall, AllDone, DropsBy, WithdrawsBy}
use Rattle.cache_trait.specs.CacheCalls.CacheCall.{abandons, withdraws, finds_strange_lease, finds_strange_ticket}
use Rattle.bundle.specs.Lease.{Leasing, Ticketed}
use Rattle.exchange.specs.declared.job.Job.{Job}
use Rattle.exchange.specs.declared.job.Prepared.{Prepared}
use Rattle.exchange.specs.declared.done.Fault.TheVariants.{Memory, Dial, Read, Write, BadResponse, Cut, Refused, Cancelled}
use Rattle.exchange.specs.declared.done.Done.{Done}
use Rattle.exchange.specs.declared.done.Done.TheVariants.{Good, Bad}
use Rattle.exchange.specs.declared.state.State.{State}
use Rattle.exchange.specs.declared.state.State.TheVariants as at
use Rattle.exchange.specs.Answers.{IsPrepared, IsSameJob}
use Rattle.exchange.specs.Worlds.{World}
use Rattle.exchange.specs.Since.{Outset}
use Rattle.exchange.specs.Story.{AsksAt}
use Rattle.exchange.specs.Standing.{StandsAt, StandsFrom, Ends, Drops}
use Rattle.exchange.specs.Exchanging.{Stands, Continues, Cancels, CancelsAt, Closes, ClosesAt}
use Rattle.exchange.specs.Carrying.{IsForJob}
use Rattle.run_loop.specs.Endings.{GivesUp, IsCancelledAt, IsCancelled, EndsFor}

-- what was prepared for a job is that job's, and still is when it is of the same job
pub prepared_for : (job : Job) (p : Prepared) → IsPrepared job p → IsForJob job p
prepared_for job p is = record { site = is.site; want = is.want; method = is.method; text = is.text }

pub same_job : (job : Job) (old new : Prepared) → IsForJob job old → IsSameJob old new → IsForJob job new
same_job job old new its same = record {
  site = same.site ∙ its.site;
  want = same.want ∙ its.want;
  method = same.method ∙ its.method;
  text = same.text ∙ its.text;
}

-- the cache did these calls and no others, and with what was done before they led there
pub record LeadsTo {C W : Type 0} (did : C → C → CacheCall W → Type 0) (world : World W) (p : Prepared) (before after : C) (earlier : List (CacheCall W)) (state : Option (State W)) : Type 0 where
  pub own : List (CacheCall W)
  pub done : AllDone did before after own
  pub stands : IsSomeAnd state (λ state. StandsAt world p state (own ++ earlier))

-- they led to that end
pub record LeadsToEnd {C W : Type 0} (did : C → C → CacheCall W → Type 0) (world : World W) (may_stop : Type 0) (job : Job) (before after : C) (earlier : List (CacheCall W)) (done : Done) : Type 0 where
  pub own : List (CacheCall W)
  pub did_own : AllDone did before after own
  pub ends : EndsFor world may_stop job done (own ++ earlier)

module _ {C W : Type 0} (does : C → C → CacheCall W → Type 0) (world : World W) where
  leads_to : (q : Prepared) (before after : C) (earlier : List (CacheCall W)) (next : Option (State W)) → Stands does world q (record { cache = before; told = earlier }) after next → LeadsTo does world q before after earlier next
  leads_to q before after earlier (Some state) stands =
      let since = stands.1 in
      record { own = since.own; done = since.done; stands = subst (λ (calls : List (CacheCall W)). StandsAt world q state calls) since.all stands.2 }
  leads_to q before after earlier None stands = absurd stands

  -- a poll goes on from where the transfer stood
  pub polled_on : (p q : Prepared) (before after : C) (earlier : List (CacheCall W)) (state next : Option (State W)) → Continues does world p q before after state next → IsSomeAnd state (λ state. StandsAt world p state earlier)
      → LeadsTo does world q before after earlier next
  polled_on p q before after earlier (Some state) next story stood =
      let first : Outset C W = record { cache = before; told = earlier } in
      let stands : StandsFrom does world p first before state = (earlier, record { own = []; all = refl; done = refl }, stood) in
      leads_to q before after earlier next (story first stands)
  polled_on p q before after earlier None next story stood = absurd stood

  -- a transfer ends with a result; none ends as cancelled by itself, or for lack of memory
  pub end_is : (may_stop : Type 0) (job : Job) (p : Prepared) (done : Done) (calls : List (CacheCall W)) → IsForJob job p → Ends world p done calls → EndsFor world may_stop job done calls
  end_is may_stop job p (Good answer) calls its ends = record { parts = p; its = its; ends = ends }
  end_is may_stop job p (Bad Memory) calls its ends = absurd ends
  end_is may_stop job p (Bad Dial) calls its ends = record { parts = p; its = its; ends = ends }
  end_is may_stop job p (Bad Read) calls its ends = record { parts = p; its = its; ends = ends }
  end_is may_stop job p (Bad Write) calls its ends = record { parts = p; its = its; ends = ends }
  end_is may_stop job p (Bad BadResponse) calls its ends = record { parts = p; its = its; ends = ends }
  end_is may_stop job p (Bad Cut) calls its ends = record { parts = p; its = its; ends = ends }
  end_is may_stop job p (Bad (Refused refusal)) calls its ends = record { parts = p; its = its; ends = ends }
  end_is may_stop job p (Bad Cancelled) calls its ends = absurd ends

  -- a transfer whose poll was ready has ended so
  pub ended_so : (may_stop : Type 0) (job : Job) (p : Prepared) (before after : C) (earlier : List (CacheCall W)) (state : Option (State W)) (done : Done) → state ≡ Some (at.Finished done) → IsForJob job p → LeadsTo does world p before after earlier state
      → LeadsToEnd does world may_stop job before after earlier done
  ended_so may_stop job p before after earlier state done is its leads =
      let ends : Ends world p done (leads.own ++ earlier) = subst (λ (s : Option (State W)). IsSomeAnd s (λ state. StandsAt world p state (leads.own ++ earlier))) is leads.stands in
      record { own = leads.own; did_own = leads.done; ends = end_is may_stop job p done (leads.own ++ earlier) its ends }

  module _ (may_stop : Type 0) (may : may_stop) (job : Job) (p : Prepared) (its : IsForJob job p) (before after : C) (earlier : List (CacheCall W)) (moment : ℕ) (told : world.tells moment) where
    -- a transfer was cancelled where it stood
    cancelled : (own : List (CacheCall W)) (state : State W) (done : Done) → done ≡ Bad Cancelled → AllDone does before after own → IsCancelledAt world p state (own ++ earlier) → LeadsToEnd does world may_stop job before after earlier done
    cancelled own state done is did at_it =
        let cancels : IsCancelled world job (own ++ earlier) = record { parts = p; its = its; state = state; cancelled = at_it } in
        let ends : EndsFor world may_stop job (Bad Cancelled) (own ++ earlier) = (may, inr cancels) in
        record { own = own; did_own = did; ends = subst (λ (d : Done). EndsFor world may_stop job d (own ++ earlier)) (sym is) ends }

    -- by one call, the last one
    by_one : (call : CacheCall W) → does before after call → AllDone does before after (call ∷ [])
    by_one call did = (before, refl, did)

    leaves_queue : (ticket : Ticketed) (done : Done) → done ≡ Bad Cancelled → StandsAt world p (at.Waiting ticket) earlier → WithdrawsBy (does before after) ticket moment → LeadsToEnd does world may_stop job before after earlier done
    leaves_queue ticket done is stood (inl did) =
        cancelled (withdraws ticket moment ∷ []) (at.Waiting ticket) done is (by_one (withdraws ticket moment) did) (record { last = withdraws ticket moment; earlier = earlier; all = refl; gives = inl (moment, told, refl); stood = stood })
    leaves_queue ticket done is stood (inr did) =
        cancelled (finds_strange_ticket ticket ∷ []) (at.Waiting ticket) done is (by_one (finds_strange_ticket ticket) did) (record { last = finds_strange_ticket ticket; earlier = earlier; all = refl; gives = inr refl; stood = stood })

    -- the lease of a transfer that stood there was dropped
    drops : (lease : Leasing W) (state : State W) → StandsAt world p state earlier → DropsBy (does before after) lease moment → (own : List (CacheCall W)) × AllDone does before after own × GivesUp world p state (Drops world lease) (own ++ earlier)
    drops lease state stood (inl did) =
        (abandons lease moment ∷ [], by_one (abandons lease moment) did, record { last = abandons lease moment; earlier = earlier; all = refl; gives = inl (moment, told, refl); stood = stood })
    drops lease state stood (inr did) =
        (finds_strange_lease lease ∷ [], by_one (finds_strange_lease lease) did, record { last = finds_strange_lease lease; earlier = earlier; all = refl; gives = inr refl; stood = stood })

    closed_at : (state : State W) (done : Done) → StandsAt world p state earlier → CancelsAt does before after moment state → ClosesAt done state → LeadsToEnd does world may_stop job before after earlier done
    closed_at at.Asking done stood cancels closes = cancelled [] at.Asking done closes cancels stood
    closed_at (at.Waiting ticket) done stood cancels closes = leaves_queue ticket done closes stood cancels
    closed_at (at.Dialling lease) done stood cancels closes =
        let dropped = drops lease (at.Dialling lease) stood cancels in
        cancelled dropped.0 (at.Dialling lease) done closes dropped.1 dropped.2
    closed_at (at.Sending lease sent) done stood cancels closes =
        let dropped = drops lease (at.Sending lease sent) stood cancels in
        cancelled dropped.0 (at.Sending lease sent) done closes dropped.1 dropped.2
    closed_at (at.Reading lease) done stood cancels closes =
        let dropped = drops lease (at.Reading lease) stood cancels in
        cancelled dropped.0 (at.Reading lease) done closes dropped.1 dropped.2
    closed_at (at.Finished end) done stood cancels closes =
        record { own = []; did_own = cancels; ends = subst (λ (d : Done). EndsFor world may_stop job d earlier) (sym closes) (end_is may_stop job p end earlier its stood) }

    -- a transfer that may be stopped was closed where it stood
    pub closed_so : (state : Option (State W)) (done : Done) → IsSomeAnd state (λ state. StandsAt world p state earlier) → Cancels does before after moment state → Closes done state → LeadsToEnd does world may_stop job before after earlier done
    closed_so (Some state) done stood cancels closes = closed_at state done stood cancels closes
    closed_so None done stood cancels closes = absurd stood

-- a new transfer of what was prepared asks, and nothing was done for it
pub begins_so : {W : Type 0} (world : World W) (job : Job) (p q : Prepared) (state : Option (State W)) → IsPrepared job p → q ≡ p → state ≡ Some at.Asking → IsSomeAnd state (λ state. StandsAt world q state [])
begins_so world job p q state is same begins =
    let its : IsPrepared job q = subst (IsPrepared job) (sym same) is in
    let asks : AsksAt world q q.retried [] = subst (λ (retried : Bool). AsksAt world q retried []) (sym its.unused.first) refl in
    let stands : StandsAt world q at.Asking [] = record { reader = its.unused.reader; asks = asks } in
    subst (λ (s : Option (State _)). IsSomeAnd s (λ state. StandsAt world q state [])) (sym begins) stands
