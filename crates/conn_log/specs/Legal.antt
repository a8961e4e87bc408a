-- Which entries a log may have, and what holds of it between two calls.
use Rattle.std.specs.Prelude.{◌≡◌, ℕ, ◌+◌, ◌<◌, ◌≤◌, Bool, false, not, ◌&&◌, if◌then◌else◌, List, [], ◌∷◌, length, Option, Some, None, IsSome, IsTrue, ◌⊎◌}
use Rattle.std.specs.Option.{option_and_then}
use Rattle.persistence.specs.declared.facts.Facts.{Facts}
use Rattle.persistence.specs.Persistent.{is_persistent}
use Rattle.conn_log.specs.declared.entry.Want.{Want}
use Rattle.conn_log.specs.declared.entry.Cause.{Cause}
use Rattle.conn_log.specs.declared.entry.Cause.TheVariants.{NotPersistent, Cut, Forbidden, Dropped, Withdrawn}
use Rattle.conn_log.specs.declared.entry.Event.{Event}
use Rattle.conn_log.specs.declared.entry.Event.TheVariants.{Opened, Leased, Returned, Closed, Waited, Left, Limit}
use Rattle.conn_log.specs.declared.entry.Entry.{Entry}
use Rattle.conn_log.specs.Connections.{last_moment, opened, greatest, open_connections, holder_want, holds, idle_connections, is_idle}
use Rattle.conn_log.specs.Waiting.{waiting, waits}
use Rattle.conn_log.specs.Fit.{is_fit}

-- the limit on open connections with which a host began (CURLMOPT_MAX_HOST_CONNECTIONS), and its first
-- connection number
pub record LimitAndFirst : Type 0 where
  pub limit : ℕ
  pub first : ℕ

-- the limit in force: that of the last change of the host's limit; before any, the one with which it began
abbrev pub limit_after : Event → ℕ → ℕ
limit_after (Limit n) limit = n
limit_after _ limit = limit

abbrev pub limit_in_force : LimitAndFirst → List Entry → ℕ
limit_in_force settings [] = settings.limit
limit_in_force settings (e ∷ before) = limit_after e.event (limit_in_force settings before)

-- a use ends with facts that do not let the connection persist, or with a want that forbids reuse
-- (CURLOPT_FORBID_REUSE); then this is why it is closed
abbrev pub ends_use : Facts → Want → Bool
ends_use facts want = not (is_persistent facts && not want.forbid_reuse)

abbrev pub ending_cause : Facts → Want → Cause
ending_cause facts want = if not facts.whole then Cut else (if want.forbid_reuse then Forbidden else NotPersistent)

-- owed: where the newest entry is a Returned that ends its use, the connection to be closed next, and why
abbrev pub owed_for : ℕ → Facts → Want → Option (ℕ × Cause)
owed_for c facts want = if ends_use facts want then Some (c, ending_cause facts want) else None

abbrev pub owed_by : Event → List Entry → Option (ℕ × Cause)
owed_by (Returned c facts) before = option_and_then (owed_for c facts) (holder_want before c)
owed_by _ before = None

abbrev pub owed : List Entry → Option (ℕ × Cause)
owed [] = None
owed (e ∷ before) = owed_by e.event before

-- may start: the first one that waits, and where nobody waits whoever holds nothing
abbrev pub MayStartAmong : List Want → Bool → Want → Type 0
MayStartAmong [] is_holding want = is_holding ≡ false
MayStartAmong (head ∷ others) is_holding want = want ≡ head

abbrev pub MayStart : List Entry → Want → Type 0
MayStart log want = MayStartAmong (waiting log) (holds log want.transfer) want

-- the number is the next one, there is room at the host, and the transfer may start
pub record MayOpen (settings : LimitAndFirst) (before : List Entry) (c : ℕ) (want : Want) : Type 0 where
  pub next : c ≡ greatest settings.first (opened before) + 1
  pub room : length (open_connections before) < limit_in_force settings before
  pub start : MayStart before want

-- the connection is fit for the want at that moment, and the transfer may start
pub record MayLease (before : List Entry) (c : ℕ) (want : Want) (moment : ℕ) : Type 0 where
  pub fit : IsTrue (is_fit before want moment c)
  pub start : MayStart before want

-- the transfer neither holds nor waits, and nothing is idle
pub record MayWait (before : List Entry) (want : Want) : Type 0 where
  pub holds_nothing : holds before want.transfer ≡ false
  pub waits_not : waits before want.transfer ≡ false
  pub none_idle : idle_connections before ≡ []

-- what each cause of closing asks: a holder, an ended use, or that the connection is idle
abbrev pub MayClose : List Entry → ℕ → Cause → Type 0
MayClose before c Dropped = (owed before ≡ None) × IsSome (holder_want before c)
MayClose before c Withdrawn = (owed before ≡ None) × IsSome (holder_want before c)
MayClose before c Cut = owed before ≡ Some (c, Cut)
MayClose before c Forbidden = owed before ≡ Some (c, Forbidden)
MayClose before c NotPersistent = owed before ≡ Some (c, NotPersistent)
MayClose before c _ = (owed before ≡ None) × IsTrue (is_idle before c)

-- what the log before an event must show; every event but the close of an ended use comes where no
-- close is owed
abbrev pub Allows : LimitAndFirst → List Entry → ℕ → Event → Type 0
Allows settings before moment (Opened c want) = (owed before ≡ None) × MayOpen settings before c want
Allows settings before moment (Leased c want) = (owed before ≡ None) × MayLease before c want moment
Allows settings before moment (Returned c facts) = (owed before ≡ None) × IsSome (holder_want before c)
Allows settings before moment (Closed c cause) = MayClose before c cause
Allows settings before moment (Waited want) = (owed before ≡ None) × MayWait before want
Allows settings before moment (Left transfer) = (owed before ≡ None) × IsTrue (waits before transfer)
Allows settings before moment (Limit n) = (owed before ≡ None) × (length (open_connections before) ≤ n)

-- legal: no moment is below the one before it, and each entry is one that the log before it allows
abbrev pub IsLegal : LimitAndFirst → List Entry → Type 0
IsLegal settings [] = Unit {0}
IsLegal settings (e ∷ before) = (last_moment before ≤ e.moment) × Allows settings before e.moment e.event × IsLegal settings before

-- someone waits
abbrev pub IsAnyone : List Want → Type 0
IsAnyone [] = ⊥
IsAnyone (want ∷ others) = Unit {0}

-- quiet: where anyone waits nothing is idle, and the host is at its limit or queued for room among all
-- hosts; it is queued only where someone waits and the host has room; and no close is owed
pub record IsQuiet (settings : LimitAndFirst) (queued : Bool) (log : List Entry) : Type 0 where
  pub none_idle : IsAnyone (waiting log) → idle_connections log ≡ []
  pub no_room : IsAnyone (waiting log) → (length (open_connections log) ≡ limit_in_force settings log) ⊎ IsTrue queued
  pub queued_for : IsTrue queued → IsAnyone (waiting log) × (length (open_connections log) < limit_in_force settings log)
  pub settled : owed log ≡ None
