-- A log as callers see it.
use Rattle.std.specs.Prelude.{ℕ, List}
use Rattle.conn_log.specs.declared.entry.Entry.{Entry}

-- all entries, newest first; how many of them were cut away, the oldest ones; and how many more it takes without
-- more memory
pub record Recorded : Type 0 where
  pub entries : List Entry
  pub cut_away : ℕ
  pub room : ℕ
