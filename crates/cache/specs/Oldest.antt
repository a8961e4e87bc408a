-- The oldest of all hosts' idle connections, by the stamps of each host's own oldest.
use Rattle.std.specs.Prelude.{◌≡◌, ℕ, suc, ◌<◌, Bool, true, false, nat_lt, if◌then◌else◌, List, [], ◌∷◌, length, slice_index_or, Option, Some, None}
use Rattle.conn_log.specs.declared.entry.Entry.{Entry}
use Rattle.conn_log.specs.declared.stamp.Stamp.{Stamp}
use Rattle.conn_log.specs.Fit.{is_earlier, oldest_stamp}

-- of two stamps the earlier one; none is later than any
abbrev pub earlier_of : Option Stamp → Option Stamp → Option Stamp
earlier_of None other = other
earlier_of (Some x) None = Some x
earlier_of (Some x) (Some y) = if is_earlier y x then Some y else Some x

-- before: earlier than the other, or than none
abbrev pub is_before : Option Stamp → Option Stamp → Bool
is_before None other = false
is_before (Some x) None = true
is_before (Some x) (Some y) = is_earlier x y

-- since an earlier moment than that one; none is
abbrev pub is_since_before : Option Stamp → ℕ → Bool
is_since_before None moment = false
is_since_before (Some x) moment = nat_lt x.since moment

-- the earliest of all
abbrev pub earliest : List (Option Stamp) → Option Stamp
earliest [] = None
earliest (stamp ∷ stamps) = earlier_of stamp (earliest stamps)

-- each host's oldest, the hosts counted from that index on
abbrev pub stamps_from : ℕ → List (List Entry) → List (Option Stamp)
stamps_from host [] = []
stamps_from host (log ∷ logs) = oldest_stamp log host ∷ stamps_from (suc host) logs

abbrev pub stamp_at : List (Option Stamp) → ℕ → Option Stamp
stamp_at stamps place = slice_index_or stamps place None

-- the first place of the earliest: none is earlier, and those before it are later
pub record IsFirstEarliest (stamps : List (Option Stamp)) (place : ℕ) : Type 0 where
  pub there : place < length stamps
  pub stamp : Stamp
  pub here : stamp_at stamps place ≡ Some stamp
  pub none_earlier : (other : ℕ) → other < length stamps → is_before (stamp_at stamps other) (stamp_at stamps place) ≡ false
  pub others_later : (other : ℕ) → other < place → is_before (stamp_at stamps place) (stamp_at stamps other) ≡ true

-- no place has a stamp
abbrev pub HaveNone : List (Option Stamp) → Type 0
HaveNone stamps = (place : ℕ) → stamp_at stamps place ≡ None
