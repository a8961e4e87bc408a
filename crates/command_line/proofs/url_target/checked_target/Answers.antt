use Rattle.std.proofs.Common.{rules}
use Rattle.commands.specs.Urls.{IsPrintable}
use Rattle.command_line.proofs.url_target.checked_target.Goals as goal

pub returns-in-Ok-clause-good : goal.returns-in-Ok-clause-good
returns-in-Ok-clause-good c =
    let printable : IsPrintable c.args.url.now = search rules in
    (printable, (c.in-Ok.target, c.in-Ok.ensures.ok))
