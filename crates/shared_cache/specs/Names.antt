-- What a shared cache is, by names that contracts alone see.
use Rattle.std.specs.Prelude.{◌≡◌, ℕ, List, [], length, Some, slice_get}
use Rattle.atomic_table.specs.Seated.{TableId}
use Rattle.conn_log.specs.Legal.{LimitAndFirst}
use Rattle.budget.specs.Limits.{Bounds}
use Rattle.budget.specs.Marks.{no_table}
use Rattle.bundle.specs.Seats.{Tables}

-- its limits, the table of the limit words, that of the link, and the tables of each host, in the order of the hosts
pub record CacheNames : Type 0 where
  pub limits : Bounds
  pub budget : TableId
  pub link : TableId
  pub hosts : List Tables

-- the host at that place has these tables
abbrev pub HasTables : CacheNames → ℕ → Tables → Type 0
HasTables names site tables = slice_get names.hosts site ≡ Some tables

-- what each host begins with: the limit for a host, and the first connection number
abbrev pub terms_of : Bounds → LimitAndFirst
terms_of limits = record { limit = limits.host; first = 1 }

-- a plan for that many hosts under these limits
pub record IsPlanFor (limits : Bounds) (hosts : ℕ) (names : CacheNames) : Type 0 where
  pub under : names.limits ≡ limits
  pub number : length names.hosts ≡ hosts

-- the names of no cache
abbrev pub no_names : CacheNames
no_names = record { limits = record { host = 0; total = 0; connects = 0 }; budget = no_table; link = no_table; hosts = [] }
