use Rattle.std.specs.declared.net.ip_addr.IpAddr.TheVariants as Ip
use Rattle.socket.proofs.HostTexts.{inside_of_brackets}
use Rattle.socket.proofs.addresses.literal.Goals as goal

pub returns-in-Err-clause-none : goal.returns-in-Err-clause-none
returns-in-Err-clause-none c (Ip.V4 ip) written = c.in_default.ensures ip written
returns-in-Err-clause-none c (Ip.V6 ip) written =
    c.in-Err.ensures ip (rw (inside_of_brackets c.args.host.now written.0 written.1) written.2)
