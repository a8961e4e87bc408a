use Rattle.std.proofs.Common.{rules, ◌++◌}
use Rattle.command_line.proofs.Resolves.{parts_said}
use Rattle.command_line.proofs.resolve.resolve_parts.Goals as goal

pub returns : goal.returns
returns c =
    parts_said c.args.text.now (c.in_ok-name.name.now ++ c.in_ok-name.end.now) c.in_ok-name.rest.now c.in_ok-port.port.now c.in_ok-port.address.now c.in_ok-port-2.port
    (search rules) (search rules) (search rules)
