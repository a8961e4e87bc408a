-- What happened to connections and to those who wait for one, counted by kind.
use Rattle.std.specs.Prelude.{ℕ, ◌+◌, ◌-◌, ◌^◌, ◌≤◌, List, [], ◌∷◌}
use Rattle.conn_log.specs.declared.entry.Event.{Event}
use Rattle.conn_log.specs.declared.entry.Event.TheVariants.{Opened, Leased, Closed, Waited}
use Rattle.conn_log.specs.declared.entry.Entry.{Entry}
use Rattle.conn_log.specs.declared.counts.Counts.{Counts}

-- counts: how many connections were opened, how many idle ones were leased, how many were closed, and how
-- many transfers began to wait
abbrev pub counts_after : Event → Counts → Counts
counts_after (Opened c want) so_far = record so_far { opened = so_far.opened + 1 }
counts_after (Leased c want) so_far = record so_far { reused = so_far.reused + 1 }
counts_after (Closed c cause) so_far = record so_far { closed = so_far.closed + 1 }
counts_after (Waited want) so_far = record so_far { waited = so_far.waited + 1 }
counts_after _ so_far = so_far

abbrev pub counts : List Entry → Counts
counts [] = record { opened = 0; reused = 0; closed = 0; waited = 0 }
counts (e ∷ before) = counts_after e.event (counts before)

-- the counts of two parts of a log together
abbrev pub both_counts : Counts → Counts → Counts
both_counts x y = record { opened = x.opened + y.opened; reused = x.reused + y.reused; closed = x.closed + y.closed; waited = x.waited + y.waited }

-- none of them is above that
pub record CountsWithin (most : ℕ) (counts : Counts) : Type 0 where
  pub opened : counts.opened ≤ most
  pub reused : counts.reused ≤ most
  pub closed : counts.closed ≤ most
  pub waited : counts.waited ≤ most

-- they can be added: none of the one is above some number, and none of the other above what that leaves of 64 bits
abbrev pub SumsFit : Counts → Counts → Type 0
SumsFit x y = (few : ℕ) × CountsWithin few x × CountsWithin (2 ^ 64 - 1 - few) y
