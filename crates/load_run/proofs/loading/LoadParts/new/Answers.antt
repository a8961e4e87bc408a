-- The parts of a run have a place for each thread, and have counted nothing.
use Rattle.load_run.proofs.Refusals.{handed_on}
use Rattle.load_run.proofs.loading.LoadParts.new.Goals as goal

pub returns-in_err-tools-clause-refused : goal.returns-in_err-tools-clause-refused
returns-in_err-tools-clause-refused c = λ workers. handed_on workers c.in_err-tools.field-0.0 c.from_residual.result c.from_residual.ensures.1 (c.in_err-tools.ensures.refused workers)

pub returns-in_err-alarms-clause-refused : goal.returns-in_err-alarms-clause-refused
returns-in_err-alarms-clause-refused c = λ workers. handed_on workers c.in_err-alarms.field-0.0 c.from_residual-in_err-alarms.result c.from_residual-in_err-alarms.ensures.1 (c.in_err-alarms.ensures.refused workers)

pub returns-in_err-collected-clause-refused : goal.returns-in_err-collected-clause-refused
returns-in_err-collected-clause-refused c = λ workers. handed_on workers c.in_err-collected.field-0.0 c.from_residual-in_err-collected.result c.from_residual-in_err-collected.ensures.1 (c.in_err-collected.ensures.refused workers)
