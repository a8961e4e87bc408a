-- The jobs of a load that may be stopped.
use Rattle.std.specs.Prelude.{◌⊎◌, IsSome}
use Rattle.load_run.specs.declared.plan.LoadTimes.{LoadTimes}

-- A job may be stopped only if jobs have a time limit, the load has an end, or its watcher may end it.
abbrev pub MayStop : LoadTimes → Type 0 → Type 0
MayStop times may_end = IsSome times.timeout ⊎ IsSome times.seconds ⊎ may_end
