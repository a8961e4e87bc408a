-- What the definition of the earliest stamp implies.
use Rattle.std.specs.Prelude.{◌≡◌, ℕ, ◌<◌, false, List, length, Option, Some, None}
use Rattle.conn_log.specs.declared.stamp.Stamp.{Stamp}
use Rattle.cache.specs.Oldest.{is_before, earliest, stamp_at, HaveNone}

-- it is one of the stamps, and none of them is before it
pub record GoesFirst (stamps : List (Option Stamp)) (stamp : Stamp) : Type 0 where
  pub place : ℕ
  pub there : place < length stamps
  pub here : stamp_at stamps place ≡ Some stamp
  pub none_before : (other : ℕ) → is_before (stamp_at stamps other) (Some stamp) ≡ false

-- the earliest goes first; there is none only of no stamp
abbrev pub EarliestGoesFirst : Type 0
EarliestGoesFirst = (stamps : List (Option Stamp)) (stamp : Stamp) → earliest stamps ≡ Some stamp → GoesFirst stamps stamp

abbrev pub NoEarliestOfNone : Type 0
NoEarliestOfNone = (stamps : List (Option Stamp)) → earliest stamps ≡ None → HaveNone stamps
