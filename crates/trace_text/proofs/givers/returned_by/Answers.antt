-- The base and the rest's front tell who held the connection.
use Rattle.std.proofs.Common.{◌≡◌, ◌+◌, ap, arith}
use Rattle.std.specs.Option.{unwrap_or}
use Rattle.trace_text.proofs.Fronts.{holder_told}
use Rattle.trace_text.proofs.givers.returned_by.Goals as goal

pub returns : goal.returns
returns c settings legal =
    let log = c.args.log.now in
    let held = holder_told settings log c.args.place c.in-Returned.connection (omega (arith, c.requires)) legal in
    let none : log.cut_away + 0 ≡ log.cut_away = omega arith in
    rw (c.in-Returned.is, c.unwrap_or.ensures, c.holder_after.ensures, c.base.ensures, c.since.ensures.from, none) (ap (λ who. unwrap_or who 0) held)
