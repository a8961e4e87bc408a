-- What is kept of a slab's transfers where one is put in, polled or taken out.
use Rattle.std.proofs.Common.{◌≡◌, refl, sym, ap, ◌∙◌, subst, inl, inr, Bool, ℕ, ◌+◌, ◌≤◌, List, [], ◌∷◌, ◌++◌, length, set, slice_get, Option, Some, None, IfSome, sum_by, arith, length-set}
use Rattle.std.proofs.lemmas.List.Sums.{sum_by-set, sum_by-cons}
use Rattle.std.proofs.lemmas.List.{append_assoc, append-nil}
use Rattle.std.proofs.lemmas.List.Elements.{All-set, All-push, All-get_or, filter_map-append}
use Rattle.std.proofs.lemmas.Option.{slice_get_within, get_or_from_slice_get}
use Rattle.bundle.specs.Seats.{Tables}
use Rattle.cache_trait.specs.CacheCalls.{CacheCall}
use Rattle.exchange.specs.declared.job.Prepared.{Prepared}
use Rattle.exchange.specs.declared.done.Done.{Done}
use Rattle.exchange.specs.declared.state.State.{State}
use Rattle.exchange.specs.declared.state.State.TheVariants as at
use Rattle.exchange.specs.Transfers.{TransferShown}
use Rattle.exchange.specs.Worlds.{World}
use Rattle.exchange.specs.Answers.{IsUnused}
use Rattle.exchange.specs.Story.{AsksAt}
use Rattle.exchange.specs.Owning.{IsReady, Owns}
use Rattle.exchange.specs.Since.{Outset}
use Rattle.exchange.specs.Standing.{StandsFrom}
use Rattle.exchange.specs.Exchanging.{Stands, Continues, IsToldAt, IsTold, Cancels, ClosesAt, Closes}
use Rattle.transfer_slab.specs.Slabs.{IsKept, AreKept, HasEnded, HasClosed, ClosesAll, transfers_in, one_if_some}

-- no more transfers than places
pub within : {W : Type 0} (slots : List (Option (TransferShown W))) → sum_by one_if_some slots ≤ length slots
within [] = omega arith
within {W} (Some t ∷ rest) = let less = within rest in let sum = sum_by-cons (one_if_some {W = W}) (Some t) rest in omega (arith, less, sum)
within {W} (None ∷ rest) = let less = within rest in let sum = sum_by-cons (one_if_some {W = W}) None rest in omega (arith, less, sum)

-- what stands at a place is kept
pub kept_at : {W : Type 0} (world : World W) (home : List Tables) (slots : List (Option (TransferShown W))) (place : ℕ) (t : TransferShown W) → slice_get slots place ≡ Some (Some t) → AreKept world home slots → IsKept world home t
kept_at world home slots place t is kept =
    subst (λ (slot : Option (TransferShown _)). IfSome slot (IsKept world home)) (get_or_from_slice_get slots place (Some t) None is) (All-get_or (λ slot. IfSome slot (IsKept world home)) slots place None (slice_get_within slots place (Some t) is) kept)

module _ {W : Type 0} (slots : List (Option (TransferShown W))) (place : ℕ) (was now : Option (TransferShown W)) (is : slice_get slots place ≡ Some was) where
  -- one is put in another's stead
  pub sum_set : sum_by one_if_some (set slots place now) + one_if_some was ≡ sum_by one_if_some slots + one_if_some now
  sum_set = subst (λ (slot : Option (TransferShown W)). sum_by one_if_some (set slots place now) + one_if_some slot ≡ sum_by one_if_some slots + one_if_some now) (get_or_from_slice_get slots place was None is) (sum_by-set one_if_some slots place now None (slice_get_within slots place was is))

module _ {W : Type 0} (slots : List (Option (TransferShown W))) (place : ℕ) (t : TransferShown W) (is : slice_get slots place ≡ Some None) where
  -- where one more stands there, there is one more
  pub one_more_at : sum_by one_if_some (set slots place (Some t)) ≡ sum_by one_if_some slots + 1
  one_more_at = let sums = sum_set slots place None (Some t) is in omega (arith, sums)

  -- and no more than places
  pub one_more_within : sum_by one_if_some slots + 1 ≤ length slots
  one_more_within =
      let more = one_more_at in
      let most = within (set slots place (Some t)) in
      let same = length-set slots place (Some t) in
      omega (arith, more, most, same)

-- all are kept where a place is set to what is
pub kept_set : {W : Type 0} (world : World W) (home : List Tables) (slots : List (Option (TransferShown W))) (place : ℕ) (slot : Option (TransferShown W)) → IfSome slot (IsKept world home) → AreKept world home slots → AreKept world home (set slots place slot)
kept_set world home slots place slot its kept = All-set (λ slot. IfSome slot (IsKept world home)) slots place slot its kept

module _ {W : Type 0} (world : World W) (home : List Tables) (slots : List (Option (TransferShown W))) (t : TransferShown W) (its : IsKept world home t) (kept : AreKept world home slots) where
  -- all are kept where one more is
  pub kept_with : (place : ℕ) → AreKept world home (set slots place (Some t))
  kept_with place = All-set (λ slot. IfSome slot (IsKept world home)) slots place (Some t) its kept

  pub kept_behind : AreKept world home (slots ++ (Some t ∷ []))
  kept_behind = All-push (λ slot. IfSome slot (IsKept world home)) slots (Some t) kept its

-- what was done for a transfer is told of it still, once a poll has gone on from there
module _ {C W : Type 0} (does : C → C → CacheCall W → Type 0) (world : World W) where
  told_at : (q : Prepared) (first : Outset C W) (after : C) (next : Option (State W)) → Stands does world q first after next → IsTold world q next
  told_at q first after (Some state) stands = (stands.0, stands.2)
  told_at q first after None stands = absurd stands

  pub told_on : (p q : Prepared) (before after : C) (state next : Option (State W)) → Continues does world p q before after state next → IsTold world p state → IsTold world q next
  told_on p q before after (Some state) next on told =
      let first : Outset C W = record { cache = before; told = told.0 } in
      let stands : StandsFrom does world p first before state = (told.0, record { own = []; all = refl; done = refl }, told.1) in
      told_at q first after next (on first stands)
  told_on p q before after None next on told = absurd told

-- nothing was done yet for a new transfer
pub begins_kept : {W : Type 0} (world : World W) (home : List Tables) (t : TransferShown W) → IsUnused t.parts → Owns home t.parts t.state → IsReady t.parts → t.state ≡ Some at.Asking → IsKept world home t
begins_kept world home t unused owns ready begins =
    let asks : AsksAt world t.parts t.parts.retried [] = subst (λ (retried : Bool). AsksAt world t.parts retried []) (sym unused.first) refl in
    let told : IsToldAt world t.parts at.Asking = ([], record { reader = unused.reader; asks = asks }) in
    record { owns = owns; ready = ready; told = subst (λ (state : Option (State _)). IsTold world t.parts state) (sym begins) told }

-- how a transfer ended is told of what was done for it
pub ended_is : {W : Type 0} (world : World W) (done : Done) (p q : Prepared) (state : Option (State W)) → state ≡ Some (at.Finished done) → q ≡ p → IsReady p → IsTold world p state → HasEnded world (done, q)
ended_is {W} world done p q state is same ready told =
    subst (λ (parts : Prepared). HasEnded world (done, parts)) (sym same) (ready, subst (λ (s : Option (State W)). IsTold world p s) is told)

-- or it was cancelled
module _ {W : Type 0} (world : World W) (done : Done) (p : Prepared) (ready : IsReady p) where
  closed_at : (state : State W) → ClosesAt done state → IsToldAt world p state → HasClosed world (done, p)
  closed_at (at.Finished end) is told = (ready, inr (subst (λ (d : Done). HasEnded world (d, p)) (sym is) (ready, told)))
  closed_at at.Asking is told = (ready, inl is)
  closed_at (at.Waiting ticket) is told = (ready, inl is)
  closed_at (at.Dialling lease) is told = (ready, inl is)
  closed_at (at.Sending lease sent) is told = (ready, inl is)
  closed_at (at.Reading lease) is told = (ready, inl is)

  pub closed_is : (q : Prepared) (state : Option (State W)) → Closes done state → q ≡ p → IsTold world p state → HasClosed world (done, q)
  closed_is q (Some state) closes same told = subst (λ (parts : Prepared). HasClosed world (done, parts)) (sym same) (closed_at state closes told)
  closed_is q None closes same told = absurd closes

-- without its last place a list of places has the transfers of the others
pub transfers_popped : {W : Type 0} (slots left : List (Option (TransferShown W))) (last : Option (TransferShown W)) → slots ≡ left ++ (last ∷ []) → transfers_in slots ≡ transfers_in left ++ transfers_in (last ∷ [])
transfers_popped slots left last pops = ap transfers_in pops ∙ filter_map-append (λ slot. slot) left (last ∷ [])

-- of all these no more than those are left, and the others were closed, the last one first
abbrev pub ClosesRest : {C W : Type 0} → (C → C → CacheCall W → Type 0) → World W → C → C → List (TransferShown W) → List (TransferShown W) → Type 0
ClosesRest {C} {W} did world before after all left = (closed : List (TransferShown W)) × (all ≡ left ++ closed) × ClosesAll did world before after closed

-- none of them was closed yet
pub closes_none : {C W : Type 0} (does : C → C → CacheCall W → Type 0) (world : World W) (cache : C) (all : List (TransferShown W)) → ClosesRest does world cache cache all all
closes_none does world cache all = ([], sym (append-nil all), refl)

-- and without an empty last place it has the same
pub transfers_left : {W : Type 0} (slots left : List (Option (TransferShown W))) → slots ≡ left ++ (None ∷ []) → transfers_in left ≡ transfers_in slots
transfers_left slots left pops = sym (transfers_popped slots left None pops ∙ append-nil (transfers_in left))

module _ {C W : Type 0} (does : C → C → CacheCall W → Type 0) (world : World W) (before middle after : C) (all : List (TransferShown W)) where
  -- the last of those that are left is closed too
  pub closes_more : (left next : List (TransferShown W)) (t : TransferShown W) → ClosesRest does world before middle all left → left ≡ next ++ (t ∷ []) → (moment : ℕ) → world.tells moment → Cancels does middle after moment t.state → ClosesRest does world before after all next
  closes_more left next t rest taken moment told cancels = (t ∷ rest.0, rest.1 ∙ (ap (λ (l : List (TransferShown W)). l ++ rest.0) taken ∙ append_assoc next (t ∷ []) rest.0), (middle, rest.2, (moment, told, cancels)))

  -- none is left
  pub closes_all : (left : List (TransferShown W)) → ClosesRest does world before middle all left → left ≡ [] → after ≡ middle → ClosesAll does world before after all
  closes_all left rest none same = subst (λ (c : C). ClosesAll does world before c all) (sym same) (subst (λ (l : List (TransferShown W)). ClosesAll does world before middle l) (sym (rest.1 ∙ ap (λ (l : List (TransferShown W)). l ++ rest.0) none)) rest.2)
