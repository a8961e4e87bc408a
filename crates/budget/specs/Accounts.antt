-- What a pass remembers of each host: an account.
use Rattle.std.specs.Prelude.{◌≡◌, ℕ, ◌+◌, List, slice_index_or, slice_set, Option, Some, None, min}
use Rattle.std.specs.Option.{option_map}
use Rattle.atomic_table.specs.Seated.{TableId}
use Rattle.budget.specs.Starts.{Spendings}
use Rattle.budget.specs.declared.pass.Account.{Account}

-- the greatest number of calls that a pass tells apart
abbrev pub most_calls : ℕ
most_calls = 18446744073709551615

abbrev pub one_spent_more : Spendings → Spendings
one_spent_more seat = record { table = seat.table; spent = seat.spent + 1 }

abbrev pub spent_by : Option Spendings → ℕ
spent_by None = 0
spent_by (Some seat) = seat.spent

module _ {D : Type 0} where
  -- an account without a seat, where nothing was told
  abbrev pub vacant : Account D
  vacant = record { seat = None; last = None; calls = 0 }

  abbrev pub account_at : List (Account D) → ℕ → Account D
  account_at accounts host = slice_index_or accounts host vacant

  -- the account of one host changes, and no other
  abbrev pub change_at : List (Account D) → ℕ → (Account D → Account D) → List (Account D)
  change_at accounts host change = slice_set accounts host (change (account_at accounts host))

  -- the pass has a seat at this host's tally, whose table it is
  abbrev pub IsEnrolledAt : List (Account D) → ℕ → TableId → Type 0
  IsEnrolledAt accounts host table =
      (spent : ℕ) × ((account_at accounts host).seat ≡ Some (record { table = table; spent = spent }))

  -- the pass gets its seat
  abbrev pub enrolled : Spendings → Account D → Account D
  enrolled seat account = record account { seat = Some seat }

  -- one more call was answered so
  abbrev pub told : D → Account D → Account D
  told did account = record account { last = Some did; calls = min (account.calls + 1) most_calls }

  -- a lease was spent, and the call answered so
  abbrev pub spent_once : D → Account D → Account D
  spent_once did account = told did (record account { seat = option_map one_spent_more account.seat })

  -- how many leases were spent with the pass at a host, over its seat there
  abbrev pub spent_at : List (Account D) → ℕ → ℕ
  spent_at accounts host = spent_by (account_at accounts host).seat

  -- the pass has each seat that it had
  abbrev pub KeepsSeats : List (Account D) → List (Account D) → Type 0
  KeepsSeats before after = (host : ℕ) (table : TableId) → IsEnrolledAt before host table → IsEnrolledAt after host table
