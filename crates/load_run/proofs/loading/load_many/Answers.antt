use Rattle.std.proofs.Common.{rules}
use Rattle.load_run.proofs.WhatMayBeLoaded.{loaded_many}
use Rattle.load_run.proofs.loading.load_many.Goals as goal

pub returns-in-Ok-clause-ok : goal.returns-in-Ok-clause-ok
returns-in-Ok-clause-ok g c = loaded_many _ _ _ c.in-Ok.hosts c.args.plan c.load_over.result (search rules) c.load_over.ensures.ok
