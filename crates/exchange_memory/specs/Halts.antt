-- At which call something else happens.
use Rattle.std.specs.Prelude.{◌≡◌}
use Rattle.exchange_memory.specs.declared.calls.Calls.{Calls}

-- the last of these calls is the one in whose place that happens
pub record HaltsWith {T : Type 0} (calls : Calls T) (halt : T) : Type 0 where
  pub there : calls.count ≡ calls.halts_at
  pub halt_is : calls.halt ≡ halt
