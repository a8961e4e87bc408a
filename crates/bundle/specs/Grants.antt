-- What transfers were granted and have not claimed.
use Rattle.std.specs.Prelude.{◌≡◌, ℕ, zero, suc, ◌+◌, ◌<◌, ◌≤◌, true, false, ◌==◌, if◌then◌else◌, List, [], ◌∷◌, ◌++◌, length, slice_index_or, map, Option, Some, None, is_some}
use Rattle.conn_log.specs.declared.entry.Want.{Want}
use Rattle.conn_log.specs.declared.entry.Event.TheVariants.{Limit}
use Rattle.conn_log.specs.declared.entry.Entry.{Entry}
use Rattle.conn_log.specs.Connections.{is_among, held_number, idle_connections, lane, born, since}
use Rattle.conn_log.specs.Waiting.{waiting}
use Rattle.conn_log.specs.Fit.{is_fit}
use Rattle.conn_log.specs.Legal.{LimitAndFirst}
use Rattle.bundle.specs.declared.grant.Grant.{Grant}
use Rattle.host_state.specs.declared.closing.Closing.TheVariants.{Above}
use Rattle.host_state.specs.Steps.{moment_at, add, next_number, without_picked}
use Rattle.host_state.specs.Calls.{Start, last_start, open_for_head}
use Rattle.bundle.specs.Lease.{Using, starters}
use Rattle.host_state.specs.Grants.{granted_want}

-- what a transfer was granted
abbrev pub grant_of : {S : Type 0} → List (Grant S) → ℕ → Option (Grant S)
grant_of [] transfer = None
grant_of (grant ∷ others) transfer = if grant.want.transfer == transfer then Some grant else grant_of others transfer

-- it stands at that place, and at none before it
pub record IsPlaceOf {S : Type 0} (transfer : ℕ) (grants : List (Grant S)) (place : ℕ) : Type 0 where
  pub in_range : place < length grants
  pub here : (d : Grant S) → ((slice_index_or grants place d).want.transfer == transfer) ≡ true
  pub none_before : (k : ℕ) (d : Grant S) → k < place → ((slice_index_or grants k d).want.transfer == transfer) ≡ false

-- at no place stands what the transfer was granted
abbrev pub HasNoGrant : {S : Type 0} → ℕ → List (Grant S) → Type 0
HasNoGrant {S} transfer grants = (k : ℕ) (d : Grant S) → k < length grants → ((slice_index_or grants k d).want.transfer == transfer) ≡ false

-- what the others were granted
abbrev pub without_grant : {S : Type 0} → ℕ → List (Grant S) → List (Grant S)
without_grant transfer [] = []
without_grant transfer (grant ∷ others) = if grant.want.transfer == transfer then others else grant ∷ without_grant transfer others

-- its start, and whose they are
abbrev pub grant_start : {S : Type 0} → Grant S → Start
grant_start grant = record { number = grant.number; want = grant.want; moment = grant.moment; reused = is_some grant.stream }

abbrev pub grant_starts : {S : Type 0} → List (Grant S) → List Start
grant_starts grants = map grant_start grants

abbrev pub grant_transfers : {S : Type 0} → List (Grant S) → List ℕ
grant_transfers grants = starters (grant_starts grants)

-- the use of it, once it is claimed
abbrev pub granted_use : {S : Type 0} → ℕ → Grant S → Using S
granted_use host grant = record { site = host; start = grant_start grant; stream = grant.stream }

-- the streams of the connections that came back, by number
abbrev pub with_stream : {S : Type 0} → ℕ → Option S → List (ℕ × S) → List (ℕ × S)
with_stream number None streams = streams
with_stream number (Some stream) streams = (number, stream) ∷ streams

abbrev pub grant_streams : {S : Type 0} → List (Grant S) → List (ℕ × S)
grant_streams [] = []
grant_streams (grant ∷ others) = with_stream grant.number grant.stream (grant_streams others)

-- the log shows it: the transfer holds that connection for that want since its last start, which was on a
-- connection that came back where a stream is kept
pub record IsGrantKept {S : Type 0} (log : List Entry) (grant : Grant S) : Type 0 where
  pub number : held_number log grant.want.transfer ≡ Some grant.number
  pub want : granted_want log grant.want.transfer ≡ Some grant.want
  pub start : last_start log grant.want.transfer ≡ Some (grant_start grant)

-- the log shows each of them, and each transfer stands once
abbrev pub GrantsKept : {S : Type 0} → List Entry → List (Grant S) → Type 0
GrantsKept log [] = Unit {0}
GrantsKept log (grant ∷ others) = IsGrantKept log grant × (is_among grant.want.transfer (grant_transfers others) ≡ false) × GrantsKept log others

-- once a new connection is opened for the first transfer that waits, if one does
abbrev pub with_new : {S : Type 0} → LimitAndFirst → ℕ → List Entry → List Want → List (Grant S) → List (Grant S)
with_new settings moment log [] grants = grants
with_new settings moment log (head ∷ others) grants = grants ++ record { want = head; number = next_number settings log; moment = moment; stream = None } ∷ []

-- once a connection that came back went to the first transfer that waits, where it fits, or a new one was
-- opened for that transfer
abbrev pub with_granted : {S : Type 0} → LimitAndFirst → ℕ → ℕ → Option S → List Entry → List Want → List (Grant S) → List (Grant S)
with_granted settings c moment stream log [] grants = grants
with_granted settings c moment stream log (head ∷ others) grants =
    if is_fit log head moment c then grants ++ record { want = head; number = c; moment = moment; stream = stream } ∷ [] else with_new settings moment log (head ∷ others) grants

-- that connection is the only idle one: in that lane, opened at the first moment, and idle since the second
pub record IsAlone (log : List Entry) (c in_lane born_at moment : ℕ) : Type 0 where
  pub only : idle_connections log ≡ c ∷ []
  pub lane : lane log c ≡ in_lane
  pub born : born log c ≡ born_at
  pub since : since log c ≡ moment

-- once one is opened for each of the first that wait, so many of them
abbrev pub with_first : {S : Type 0} → ℕ → LimitAndFirst → ℕ → List Entry → List (Grant S) → List (Grant S)
with_first zero settings moment log grants = grants
with_first (suc n) settings moment log grants = with_first n settings moment (open_for_head settings moment log) (with_new settings moment log (waiting log) grants)

-- once the limit is that number, and one is opened for each of so many that wait
abbrev pub with_limit : {S : Type 0} → ℕ → ℕ → LimitAndFirst → List Entry → ℕ → List (Grant S) → List (Grant S)
with_limit most given settings log now grants = let moment = moment_at log now in with_first given settings moment (add moment (Limit most) (without_picked (Above most) moment log)) grants

-- room for what the transfers that wait, and those whose acquire is halfway, may be granted
abbrev pub HasSpare : List Entry → ℕ → ℕ → ℕ → Type 0
HasSpare log booked granted capacity = length (waiting log) + (booked + granted) ≤ capacity
