-- A tournament tree of stamps.
use Rattle.std.specs.Prelude.{◌≡◌, ℕ, ◌+◌, ◌<◌, List, length, Option, IfSome}
use Rattle.conn_log.specs.declared.stamp.Stamp.{Stamp}
use Rattle.cache.specs.Oldest.{earlier_of, stamp_at}

-- the stamp at a place won over the two below it; each leaf has a stamp of its own host, or none
pub record IsTree (hosts : ℕ) (nodes : List (Option Stamp)) : Type 0 where
  pub size : length nodes ≡ hosts + hosts
  pub won : (place : ℕ) → 0 < place → place < hosts → stamp_at nodes place ≡ earlier_of (stamp_at nodes (place + place)) (stamp_at nodes (place + place + 1))
  pub own : (host : ℕ) → host < hosts → IfSome (stamp_at nodes (hosts + host)) (λ (s : Stamp). s.host ≡ host)
