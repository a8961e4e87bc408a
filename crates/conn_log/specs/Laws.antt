-- What the definitions of a log imply.
use Rattle.std.specs.Prelude.{◌≡◌, ◌≢◌, ℕ, ◌+◌, ◌-◌, ◌<◌, max, true, false, List, [], ◌++◌, length, reverse, Some, None, IsTrue, ◌⊎◌}
use Rattle.std.specs.Option.{unwrap_or}
use Rattle.std.specs.Map.{keys_of}
use Rattle.conn_log.specs.declared.entry.Want.{Want}
use Rattle.conn_log.specs.declared.entry.Entry.{Entry}
use Rattle.conn_log.specs.declared.base.OpenConnection.{OpenConnection}
use Rattle.conn_log.specs.Connections.{last_moment, opened, greatest, open_connections, is_open, holder, holder_want, idle_connections, is_idle, since, born, lane, last_facts}
use Rattle.conn_log.specs.Waiting.{waiting}
use Rattle.conn_log.specs.Fit.{is_fit, newest_fit, oldest, oldest_stamp}
use Rattle.conn_log.specs.Legal.{LimitAndFirst, limit_in_force, IsLegal}
use Rattle.conn_log.specs.Bases.{Summary, known_in, lead, summary}
use Rattle.conn_log.specs.Behind.{open_behind, holder_behind, oldest_stamp_behind}
use Rattle.conn_log.specs.Counts.{counts, both_counts}

-- of a legal log, those that are open and those that were closed are as many as were opened
abbrev pub OpenAndClosedAreOpened : Type 0
OpenAndClosedAreOpened =
    (settings : LimitAndFirst) (log : List Entry)
    → IsLegal settings log
    → length (open_connections log) + (counts log).closed ≡ (counts log).opened

-- came back before: in an earlier moment, or in the same one with a lower number
abbrev pub CameBackBefore : List Entry → ℕ → ℕ → Type 0
CameBackBefore log c d = (since log c < since log d) ⊎ ((since log c ≡ since log d) × (c < d))

-- it is idle, and came back before each other one that is
pub record IsIdleForLongest (log : List Entry) (c : ℕ) : Type 0 where
  pub idle : IsTrue (is_idle log c)
  pub first : (d : ℕ) → IsTrue (is_idle log d) → d ≢ c → CameBackBefore log c d

-- it is fit, and each other one that is came back before it
pub record IsFitForShortest (log : List Entry) (want : Want) (moment c : ℕ) : Type 0 where
  pub fit : IsTrue (is_fit log want moment c)
  pub last : (d : ℕ) → IsTrue (is_fit log want moment d) → d ≢ c → CameBackBefore log d c

-- the oldest is idle for the longest; there is none only where nothing is idle
abbrev pub OldestIsIdleForLongest : Type 0
OldestIsIdleForLongest = (log : List Entry) (c : ℕ) → oldest log ≡ Some c → IsIdleForLongest log c

abbrev pub NoOldestIfNoneIsIdle : Type 0
NoOldestIfNoneIsIdle = (log : List Entry) → oldest log ≡ None → idle_connections log ≡ []

-- the newest fit is fit, and idle for the shortest; there is none only where nothing is fit
abbrev pub NewestFitIsIdleForShortest : Type 0
NewestFitIsIdleForShortest =
    (log : List Entry) (want : Want) (moment c : ℕ)
    → newest_fit log want moment ≡ Some c
    → IsFitForShortest log want moment c

abbrev pub NoNewestIfNoneIsFit : Type 0
NoNewestIfNoneIsFit =
    (log : List Entry) (want : Want) (moment c : ℕ)
    → newest_fit log want moment ≡ None
    → is_fit log want moment c ≡ false

-- what a base and a rest say of connections is what the whole log says
pub record TellsTheWhole (base : Summary) (rest log : List Entry) : Type 0 where
  pub open_ones : open_behind base rest ≡ open_connections log
  pub holders : (c : ℕ) → holder_behind base rest c ≡ holder log c
  pub oldest : (host : ℕ) → oldest_stamp_behind base rest host ≡ oldest_stamp log host

-- of a legal log, wherever it is cut
abbrev pub BaseAndRestTellTheWhole : Type 0
BaseAndRestTellTheWhole =
    (settings : LimitAndFirst) (rest past : List Entry)
    → IsLegal settings (rest ++ past)
    → TellsTheWhole (summary past) rest (rest ++ past)

-- what is known of an open connection
abbrev pub known_of : List Entry → ℕ → OpenConnection
known_of log c = record { lane = lane log c; born = born log c; since = since log c; facts = last_facts log c; holder = holder_want log c }

-- a base has of its entries what those say themselves
pub record TellsItsEntries (settings : LimitAndFirst) (log : List Entry) : Type 0 where
  pub numbers : keys_of (summary log).connections ≡ reverse (open_connections log)
  pub known : (c : ℕ) → is_open log c ≡ true → known_in (summary log).connections c ≡ Some (known_of log c)
  pub waiting : (summary log).waiting ≡ waiting log
  pub greatest : max (settings.first - 1) (summary log).greatest ≡ greatest settings.first (opened log)
  pub last_moment : (summary log).last_moment ≡ last_moment log
  pub limit : unwrap_or (summary log).limit settings.limit ≡ limit_in_force settings log
  pub counts : (summary log).counts ≡ counts log

abbrev pub ABaseTellsItsEntries : Type 0
ABaseTellsItsEntries = (settings : LimitAndFirst) (log : List Entry) → IsLegal settings log → TellsItsEntries settings log

-- a base that is led on through a rest is that of the whole log
abbrev pub CutsFollowEachOther : Type 0
CutsFollowEachOther = (rest past : List Entry) → lead (summary past) rest ≡ summary (rest ++ past)

-- the counts of a log are those of its parts together
abbrev pub PartsAddUp : Type 0
PartsAddUp = (rest past : List Entry) → both_counts (counts past) (counts rest) ≡ counts (rest ++ past)
