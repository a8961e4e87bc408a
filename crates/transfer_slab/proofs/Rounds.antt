-- One place after another is polled.
use Rattle.std.proofs.Common.{◌≡◌, refl, sym, subst, inl, inr, Bool, true, false, ℕ, List, [], ◌∷◌, Option, Some, None, IsSomeAnd}
use Rattle.futures.specs.declared.task.context.Context.{Context}
use Rattle.futures.specs.declared.task.waker.Waker.{Waker}
use Rattle.cache_trait.specs.CacheCalls.{CacheCall}
use Rattle.transfer_slab.specs.declared.ended.Ended.{Ended}
use Rattle.exchange.specs.declared.state.State.{State}
use Rattle.exchange.specs.declared.state.State.TheVariants as at
use Rattle.exchange.specs.Transfers.{TransferShown}
use Rattle.exchange.specs.Dialling.{DialShown}
use Rattle.exchange.specs.Worlds.{World}
use Rattle.exchange.specs.Waiting.{LeavesAt}
use Rattle.exchange.specs.Exchanging.{Leaves, IsGoing}
use Rattle.transfer_slab.specs.Rounds.{TriesPlace, PollsPlaces, PollsInTurn}

-- a pending transfer has not ended
module _ {W : Type 0} (name : W → ℕ) (dial : ℕ) (old new : Context) (waker : Option Waker) where
  going_at : (yielded : Bool) (state : State W) → LeavesAt name dial old new waker yielded state → IsGoing state
  going_at true (at.Finished done) leaves = absurd leaves
  going_at false (at.Finished done) leaves = absurd leaves
  going_at yielded at.Asking leaves = tt
  going_at yielded (at.Waiting ticket) leaves = tt
  going_at yielded (at.Dialling lease) leaves = tt
  going_at yielded (at.Sending lease sent) leaves = tt
  going_at yielded (at.Reading lease) leaves = tt

  pub pending_goes_on : (yielded : Bool) (state : Option (State W)) → Leaves name dial old new waker yielded state → IsSomeAnd state IsGoing
  pending_goes_on yielded (Some state) leaves = going_at yielded state leaves
  pending_goes_on yielded None leaves = absurd leaves

module _ {C D W : Type 0} (does : C → C → CacheCall W → Type 0) (world : World W) (shown : D → DialShown) where
  -- no place was polled yet
  pub polls_none : (cache : C) (dial : D) (slots : List (Option (TransferShown W))) → PollsInTurn does world shown cache cache dial dial slots slots None
  polls_none cache dial slots = ([], (refl, refl, refl))

  -- these places were polled, told of the cache, the dial and the places as they are after a call that did nothing
  still_polls : (before cache after : C) (old dial new : D) (slots middle left : List (Option (TransferShown W))) (places : List ℕ) → after ≡ cache → new ≡ dial → left ≡ middle → PollsPlaces does world shown before cache old dial slots middle places
      → PollsPlaces does world shown before after old new slots left places
  still_polls before cache after old dial new slots middle left places same_cache same_dial same_slots polls =
      subst (λ (c : C). PollsPlaces does world shown before c old new slots left places) (sym same_cache)
      (subst (λ (d : D). PollsPlaces does world shown before cache old d slots left places) (sym same_dial)
      (subst (λ (s : List (Option (TransferShown W))). PollsPlaces does world shown before cache old dial slots s places) (sym same_slots) polls))

  module _ (before cache after : C) (old dial new : D) (slots middle left : List (Option (TransferShown W))) (place : ℕ) (rounds : PollsInTurn does world shown before cache old dial slots middle None) where
    -- one place more
    pub polls_more : TriesPlace does world shown cache after dial new middle left place None → PollsInTurn does world shown before after old new slots left None
    polls_more (inl polls) = (place ∷ rounds.0, (cache, dial, middle, rounds.1, polls))
    polls_more (inr none) = (rounds.0, still_polls before cache after old dial new slots middle left rounds.0 none.1 none.2 none.3 rounds.1)

    -- the last one, whose transfer has ended
    pub polls_last : (ended : Ended) → TriesPlace does world shown cache after dial new middle left place (Some ended) → PollsInTurn does world shown before after old new slots left (Some ended)
    polls_last ended (inl polls) = (rounds.0, cache, dial, middle, rounds.1, (place, polls))
    polls_last ended (inr none) = cc none.0
