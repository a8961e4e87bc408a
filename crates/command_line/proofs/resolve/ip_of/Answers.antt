use Rattle.std.specs.declared.net.ip_addr.IpAddr.{IpAddr}
use Rattle.command_line.specs.Resolving.{IsAddressText}
use Rattle.command_line.proofs.Resolves.{if_none, no_brackets, no_inside}
use Rattle.command_line.proofs.resolve.ip_of.Goals as goal

pub returns-in_err-inside_of-clause-none : goal.returns-in_err-inside_of-clause-none
returns-in_err-inside_of-clause-none c =
    if_none c.from_residual.result ((ip : IpAddr) → IsAddressText c.args.text.now ip → ⊥) (no_brackets c.args.text.now c.in_default.ensures c.in_err-inside_of.ensures.none)

pub returns-in-Err-clause-none : goal.returns-in-Err-clause-none
returns-in-Err-clause-none c = no_inside c.args.text.now c.in_ok-inside_of.field-0.now c.in_ok-inside_of.ensures.some c.in_default.ensures c.in-Err.ensures
