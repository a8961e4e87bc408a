-- What a log still knows of the entries that were cut away. It is called the log's base, and the entries that
-- came since are its rest.
use Rattle.std.specs.Prelude.{ℕ, ◌-◌, max, nat_lt, Bool, List, [], ◌∷◌, length, take, drop, Option, Some, None}
use Rattle.std.specs.Ordering.{nat_cmp}
use Rattle.std.specs.Option.{option_map_or}
use Rattle.std.specs.BTreeMap.{insert_entry, is_at}
use Rattle.std.specs.Map.{lookup, set_value, remove_entry}
use Rattle.persistence.specs.declared.facts.Facts.{Facts}
use Rattle.conn_log.specs.declared.entry.Want.{Want}
use Rattle.conn_log.specs.declared.entry.Event.{Event}
use Rattle.conn_log.specs.declared.entry.Event.TheVariants.{Opened, Leased, Returned, Closed, Limit}
use Rattle.conn_log.specs.declared.entry.Entry.{Entry}
use Rattle.conn_log.specs.declared.counts.Counts.{Counts}
use Rattle.conn_log.specs.declared.base.OpenConnection.{OpenConnection}
use Rattle.conn_log.specs.Waiting.{waiting_after}
use Rattle.conn_log.specs.Counts.{counts, counts_after}
use Rattle.conn_log.specs.Log.{Recorded}

-- a connection of that number as it is opened
abbrev pub as_opened : ℕ → Want → OpenConnection
as_opened moment want = record { lane = want.lane; born = moment; since = 0; facts = None; holder = Some want }

-- a transfer holds it, and it comes back
abbrev pub as_leased : Want → OpenConnection → OpenConnection
as_leased want was = record was { holder = Some want }

abbrev pub as_returned : ℕ → Facts → OpenConnection → OpenConnection
as_returned moment facts was = record was { since = moment; facts = Some facts; holder = None }

-- what is known of that connection, if it is open
abbrev pub known_in : List (ℕ × OpenConnection) → ℕ → Option OpenConnection
known_in known c = lookup (is_at (nat_cmp c)) known

-- the same connections, but that one has become another
abbrev pub changed : (OpenConnection → OpenConnection) → ℕ → List (ℕ × OpenConnection) → List (ℕ × OpenConnection)
changed change c known = option_map_or (λ (was : OpenConnection). set_value (is_at (nat_cmp c)) known (change was)) (known_in known c) known

-- the open connections with what is known of each, in the order of their numbers; a number that is closed is
-- forgotten
abbrev pub connections_after : ℕ → Event → List (ℕ × OpenConnection) → List (ℕ × OpenConnection)
connections_after moment (Opened c want) known = insert_entry nat_cmp known c (as_opened moment want)
connections_after moment (Leased c want) known = changed (as_leased want) c known
connections_after moment (Returned c facts) known = changed (as_returned moment facts) c known
connections_after moment (Closed c cause) known = remove_entry (is_at (nat_cmp c)) known
connections_after moment _ known = known

-- the greatest number used
abbrev pub greatest_after : Event → ℕ → ℕ
greatest_after (Opened c want) most = max c most
greatest_after _ most = most

-- the limit to which the host's limit was changed last, if it was
abbrev pub last_limit_after : Event → Option ℕ → Option ℕ
last_limit_after (Limit n) limit = Some n
last_limit_after _ limit = limit

-- a base: the open connections, the wants that wait, the greatest number used (0 before any is used), the moment
-- of the last entry, the limit that was set last, and how many entries of each kind there were
pub record Summary : Type 0 where
  pub connections : List (ℕ × OpenConnection)
  pub waiting : List Want
  pub greatest : ℕ
  pub last_moment : ℕ
  pub limit : Option ℕ
  pub counts : Counts

-- the base of a log of which nothing was cut away
abbrev pub nothing_cut : Summary
nothing_cut = record { connections = []; waiting = []; greatest = 0; last_moment = 0; limit = None; counts = counts [] }

-- after one more entry
abbrev pub base_after : Entry → Summary → Summary
base_after e base = record {
  connections = connections_after e.moment e.event base.connections;
  waiting = waiting_after e.event base.waiting;
  greatest = greatest_after e.event base.greatest;
  last_moment = e.moment;
  limit = last_limit_after e.event base.limit;
  counts = counts_after e.event base.counts;
}

-- lead: the base after the entries of a rest
abbrev pub lead : Summary → List Entry → Summary
lead base [] = base
lead base (e ∷ before) = base_after e (lead base before)

-- the base of a log whose entries were all cut away
abbrev pub summary : List Entry → Summary
summary log = lead nothing_cut log

-- of a log's entries those that were not cut away, and those that were
abbrev pub rest_of : Recorded → List Entry
rest_of log = take (length log.entries - log.cut_away) log.entries

abbrev pub past_of : Recorded → List Entry
past_of log = drop (length log.entries - log.cut_away) log.entries

-- the most entries that a log may have cut away; a cut of a longer log would pass it
abbrev pub most_cut : ℕ
most_cut = 9223372036854775807

abbrev pub is_too_long_to_cut : List Entry → Bool
is_too_long_to_cut log = nat_lt most_cut (length log)
