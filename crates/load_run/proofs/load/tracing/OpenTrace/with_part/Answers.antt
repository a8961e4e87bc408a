-- The next entries of one site's log are added.
use Rattle.std.proofs.Common.{rules, refl}
use Rattle.load_run.proofs.load.tracing.OpenTrace.with_part.Goals as goal

pub returns-in-Ok : goal.returns-in-Ok
returns-in-Ok c = record {
  host = c.index_mut.result.now;
  there = search rules;
  at = search rules;
  next = c.write_part.new.host;
  index = c.in-Ok.ensures.host;
  uses = c.in-Ok.ensures.uses;
  hosts = refl;
}
