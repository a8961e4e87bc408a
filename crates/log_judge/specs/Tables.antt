-- The tables that a monitor keeps for one host, and what they say of its log.
use Rattle.std.specs.Prelude.{◌≡◌, ℕ, ◌+◌, ◌<◌, ◌≤◌, ◌^◌, true, false, List, ◌∷◌, length, slice_get, Option, Some, None}
use Rattle.persistence.specs.declared.facts.Facts.{Facts}
use Rattle.conn_log.specs.declared.base.OpenConnection.{OpenConnection}
use Rattle.conn_log.specs.declared.entry.Want.{Want}
use Rattle.conn_log.specs.declared.entry.Event.{Event}
use Rattle.conn_log.specs.declared.entry.Event.TheVariants.{Returned}
use Rattle.conn_log.specs.declared.entry.Entry.{Entry}
use Rattle.conn_log.specs.Connections.{last_moment, opened, greatest, open_connections, holder_want, held_number, idle_connections}
use Rattle.conn_log.specs.Waiting.{waiting}
use Rattle.conn_log.specs.Legal.{LimitAndFirst, limit_in_force, ends_use, ending_cause}
use Rattle.conn_log.specs.Sound.{IsSound}
use Rattle.conn_log.specs.Bases.{summary}
use Rattle.log_judge.specs.declared.due.Due.{Due}
use Rattle.log_judge.specs.Held.{IsSameTable, HoldsOneLess}

-- a host as a monitor sees it: the limit with which it began and its first connection number, and all entries that
-- were taken, newest first
pub record HostLog : Type 0 where
  pub settings : LimitAndFirst
  pub log : List Entry

-- the host after one more entry
abbrev pub with_entry : ℕ → Event → HostLog → HostLog
with_entry moment event host = record host { log = record { moment = moment; event = event } ∷ host.log }

-- the tables say what a sound log says: what is known of open connections, which connection each transfer holds, who
-- waits, the greatest number used, and the limit in force, which fits 32 bits; beside that, how many transfers hold one
pub record Follows (settings : LimitAndFirst) (log : List Entry) (known : List (ℕ × OpenConnection)) (held : ℕ → Option ℕ) (held_len : ℕ) (wants : List Want) (most limit : ℕ) : Type 0 where
  pub sound : IsSound settings log
  pub small : limit < 2 ^ 32
  pub known_is : known ≡ (summary log).connections
  pub held_is : (transfer : ℕ) → held transfer ≡ held_number log transfer
  pub open_len : length (open_connections log) ≡ length (idle_connections log) + held_len
  pub wants_are : wants ≡ waiting log
  pub most_is : most ≡ greatest settings.first (opened log)
  pub limit_is : limit ≡ limit_in_force settings log

-- a connection that came back stays open
pub record Stays (log : List Entry) (c : ℕ) (facts : Facts) : Type 0 where
  pub want : Want
  pub held : holder_want log c ≡ Some want
  pub stays : ends_use facts want ≡ false

-- due: a return that ends its use was seen, and the close that follows it was not
pub record IsDue (log : List Entry) (due : Due) : Type 0 where
  pub want : Want
  pub held : holder_want log due.connection ≡ Some want
  pub ends : ends_use due.facts want ≡ true
  pub cause : due.cause ≡ ending_cause due.facts want
  pub later : last_moment log ≤ due.moment

abbrev pub entry_of : Due → Entry
entry_of due = record { moment = due.moment; event = Returned due.connection due.facts }

-- the tables leave such a return out
abbrev pub with_due : Option Due → List Entry → List Entry
with_due None log = log
with_due (Some due) log = entry_of due ∷ log

-- a host, by its tables and what is due beside them
abbrev pub shown : HostLog → Option Due → HostLog
shown tables due = record { settings = tables.settings; log = with_due due tables.log }

abbrev pub IfDue : Option Due → List Entry → Type 0
IfDue None log = Unit {0}
IfDue (Some due) log = IsDue log due

-- what the holder of a connection held, it holds no more
abbrev pub LetsGo : Option Want → (ℕ → Option ℕ) → (ℕ → Option ℕ) → ℕ → ℕ → Type 0
LetsGo None old new len after = IsSameTable old new × (after ≡ len)
LetsGo (Some want) old new len after = HoldsOneLess old new want.transfer × (after + 1 ≡ len)

-- an event is taken: the tables follow it, or what it makes due is told and they stay as they were
abbrev pub TakesEvent : ℕ → Event → Option Due → HostLog → HostLog → Type 0
TakesEvent moment event None old new = new ≡ with_entry moment event old
TakesEvent moment event (Some due) old new = (new ≡ old) × IsDue old.log due × (entry_of due ≡ record { moment = moment; event = event })

-- of a host: how many connections are open, and idle; the first waiter; the limit in force
abbrev pub open_at : HostLog → ℕ
open_at host = length (open_connections host.log)

abbrev pub idle_at : HostLog → ℕ
idle_at host = length (idle_connections host.log)

abbrev pub first_waiter : HostLog → Option Want
first_waiter host = slice_get (waiting host.log) 0

abbrev pub limit_at : HostLog → ℕ
limit_at host = limit_in_force host.settings host.log

-- fewer are open than a limit can be
abbrev pub IsSmall : HostLog → Type 0
IsSmall host = open_at host < 2 ^ 32
