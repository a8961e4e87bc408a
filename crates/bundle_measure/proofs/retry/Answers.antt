use Rattle.std.proofs.Common.{subst, rules}
use Rattle.budget.specs.Plain.{TellsOfOpen}
use Rattle.bundle_measure.proofs.Booked.{lease-here}
use Rattle.bundle_measure.proofs.LastTries.{last-ends}
use Rattle.bundle_measure.proofs.retry.Goals as goal

-- the budget of one thread need not be asked again
pub returns-clause-done : goal.returns-clause-done
returns-clause-done c =
    let told = c.retry.ensures.answer.told in
    last-ends told.0 c.host.inside.bundle c.retry.new.self c.args.booking.want c.args.moment c.retry.result (λ again. subst (TellsOfOpen c.retry.new.permits.budget.now) again told.1) told.2

pub returns-clause-made_here : goal.returns-clause-made_here
returns-clause-made_here c =
    let got = c.retry in
    let here = lease-here c.host.inside.bundle got.new.self c.args.booking.want _ _ got.ensures.same_host.tables got.result got.ensures.got in
    search (here, rules)
