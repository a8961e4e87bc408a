-- Where no host is queued.
use Rattle.std.proofs.Common.{◌≡◌, ℕ, Bool, false, List, [], ◌∷◌, slice_set, slice_index_or, refl, ap, sym, ◌∙◌}
use Rattle.std.specs.Prelude.{slice_get, is_some}
use Rattle.budget.specs.Limits.{Bounds}
use Rattle.budget.specs.Lobby.{is_listed}
use Rattle.bundle.specs.Lease.{HostShown}
use Rattle.host_state.specs.Orders.{order_after}
use Rattle.cache.specs.Pools.{PoolShown}
use Rattle.cache.proofs.SameLog.{hosts_same, shown_as}

-- none is listed where there is no first one
pub none_listed : (order : List ℕ) → is_some (slice_get order 0) ≡ false → order ≡ []
none_listed [] none = refl
none_listed (host ∷ others) none = absurd (cc)

pub none_in : {S : Type 0} (inside shown : PoolShown S) → inside ≡ shown → shown.queue ≡ [] → inside.queue ≡ []
none_in {S} inside shown is none = ap (λ (p : PoolShown S). p.queue) is ∙ none

-- so that no host is queued
pub not_queued : (order : List ℕ) (host : ℕ) (queued : Bool) → order ≡ [] → is_listed order host ≡ queued → queued ≡ false
not_queued order host queued none listed = sym listed ∙ ap (λ l. is_listed l host) none

-- nor is it once more
pub stays_so : (was is : Bool) → was ≡ false → (was ≡ false → is ≡ false) → is ≡ was
stays_so was is not_was stays = stays not_was ∙ sym not_was

-- nor is one enlisted
pub same_order : (host : ℕ) (was is : Bool) (order : List ℕ) → was ≡ false → is ≡ false → order ≡ order_after host was is order
same_order host was is order not_was is_not = rw not_was (rw is_not refl)

-- a pool in which a host is as it was is as it was
pub pool_stays : {S : Type 0} (limits later : Bounds) (site : ℕ) (hosts : List (HostShown S)) (was new : HostShown S) (queue : List ℕ) → later ≡ limits → was ≡ slice_index_or hosts site was → new ≡ was
    → shown_as later (slice_set hosts site new) queue ≡ shown_as limits hosts queue
pool_stays {S} limits later site hosts was new queue bounds read same =
    ap (λ (b : Bounds). shown_as b (slice_set hosts site new) queue) bounds
    ∙ ap (λ (l : List (HostShown S)). shown_as limits l queue) (hosts_same site hosts was new read same)
