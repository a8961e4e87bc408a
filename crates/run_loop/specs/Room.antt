-- Memory in which a job can be prepared.
use Rattle.std.specs.Prelude.{◌<◌, length}
use Rattle.exchange.specs.declared.job.Prepared.{Prepared}

-- there is room to read into
abbrev pub HasRoom : Prepared → Type 0
HasRoom p = 0 < length p.buffer.items
