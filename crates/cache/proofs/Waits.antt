-- Why a transfer waits where all hosts are at rest.
use Rattle.std.proofs.Common.{◌≡◌, ℕ, ◌<◌, true, List, [], ◌∷◌, length, refl, ◌∙◌, inl, inr}
use Rattle.budget.specs.Limits.{Bounds}
use Rattle.budget.specs.Lobby.{is_listed}
use Rattle.conn_log.specs.Waiting.{waiting}
use Rattle.conn_log.specs.Legal.{IsAnyone}
use Rattle.cache.specs.AllHosts.{AllHosts, log_at, is_any, IsAtRest}
use Rattle.cache.specs.Laws.{WaitsForRoom}

any_listed : (queue : List ℕ) (host : ℕ) → is_listed queue host ≡ true → is_any queue ≡ true
any_listed [] host listed = absurd (cc)
any_listed (first ∷ others) host listed = refl

pub waits_for_room : (limits : Bounds) (all : AllHosts) (host : ℕ) → IsAtRest limits all → host < length all.logs → IsAnyone (waiting (log_at all host)) → WaitsForRoom limits host all
waits_for_room limits all host rest there anyone =
    let quiet = (rest.lawful.settled host there).quiet in
    record {
      none_idle = quiet.none_idle anyone;
      no_room = elim (quiet.no_room anyone) [
        | inl full ↦ inl full
        | inr queued ↦
            let any = any_listed all.queue host (rest.lawful.queued host there ∙ queued) in
            inr (rest.served.at_limit any, rest.served.none_idle any)
      ];
    }
