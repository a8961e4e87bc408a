-- A call more since some time.
use Rattle.std.proofs.Common.{ap, List, ◌∷◌}
use Rattle.cache_trait.specs.CacheCalls.{CacheCall}
use Rattle.exchange.specs.Since.{Outset, DoneSince}

pub one_more : {C W : Type 0} (does : C → C → CacheCall W → Type 0) (first : Outset C W) (before after : C) (call : CacheCall W) (calls : List (CacheCall W)) → DoneSince does first before calls → does before after call → DoneSince does first after (call ∷ calls)
one_more {W = W} does first before after call calls done did =
    record { own = call ∷ done.own; all = ap (λ (l : List (CacheCall W)). call ∷ l) done.all; done = (before, done.done, did) }
