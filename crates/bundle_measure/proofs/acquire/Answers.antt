use Rattle.std.proofs.Common.{rules}
use Rattle.budget.specs.Plain.{TellsOfOpen}
use Rattle.bundle_measure.proofs.Booked.{booked-here, got-here}
use Rattle.bundle_measure.proofs.acquire.Goals as goal

pub returns-clause-booked : goal.returns-clause-booked
returns-clause-booked c =
    let got = c.acquire in
    let here = booked-here c.host.inside.bundle got.new.self c.args.want c.args.moment got.ensures.same_host.host (TellsOfOpen got.new.permits.budget.now) _ got.result got.ensures.answer got.ensures.got in
    search (here, rules)

pub returns-clause-made_here : goal.returns-clause-made_here
returns-clause-made_here c =
    let got = c.acquire in
    let here = got-here c.host.inside.bundle got.new.self c.args.want _ _ got.ensures.same_host.tables got.result got.ensures.got in
    search (here, rules)
