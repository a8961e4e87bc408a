-- What the numbers that C passes stand for.
use Rattle.std.specs.Prelude.{ℕ, Bool, ◌==◌, ◌||◌, nat_lt, if◌then◌else◌, Option, Some, None}
use Rattle.std.specs.Prelude.{◌/◌, ◌%◌}
use Rattle.persistence.specs.declared.method.Method.{Method}
use Rattle.persistence.specs.declared.method.Method.TheVariants.{Get, Head}
use Rattle.conn_log.specs.declared.entry.Want.{Want}
use Rattle.held_pool.specs.declared.slot.Slot.{Slot}

-- the slot with a number
abbrev pub slot_of : ℕ → Slot
slot_of number = record { index = number % 4294967296; generation = number / 4294967296 }

-- what a transfer wants: flag 1 is for a new connection alone, flag 2 for one that is closed after its use
abbrev pub wanted : ℕ → ℕ → ℕ → ℕ → ℕ → Option Want
wanted transfer lane max_age max_life flags = if nat_lt 3 flags then None else Some (record {
  transfer = transfer;
  max_age = max_age;
  max_life = max_life;
  lane = lane;
  fresh = (flags == 1) || (flags == 3);
  forbid_reuse = nat_lt 1 flags;
})

-- the method of a request
abbrev pub method_of : Bool → Method
method_of is_head = if is_head then Head else Get
