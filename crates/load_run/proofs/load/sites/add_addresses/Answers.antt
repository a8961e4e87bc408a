-- A site gets the addresses in its host's name, or its known addresses.
use Rattle.std.proofs.Common.{◌∙◌, ◌++◌, List, ap}
use Rattle.std.specs.declared.net.socket_addr.SocketAddr.{SocketAddr}
use Rattle.load_run.proofs.SitePlaces.{adds_known, adds_own}
use Rattle.load_run.proofs.load.sites.add_addresses.Goals as goal

pub returns-in-Ok : goal.returns-in-Ok
returns-in-Ok c = adds_own c.args.addresses.now.hosts.items c.add.new.self.hosts.items c.args.site.now.target.now c.args.site.now.place c.in-Own.is c.in-Ok.ensures.added

pub returns-in_ok-extend_from_slice-in-Known : goal.returns-in_ok-extend_from_slice-in-Known
returns-in_ok-extend_from_slice-in-Known c =
    adds_known c.add_resolved.result c.args.addresses.now.hosts.items c.add_resolved.new.self.hosts.items c.args.site.now.target.now c.args.site.now.place c.in-Known.list _ c.in-Known.is
    (c.in_ok-extend_from_slice-in-Known.ensures.items ∙ ap (λ (l : List SocketAddr). l ++ c.as_slice.result.now) c.new-copy.ensures.items ∙ c.as_slice.ensures.value) c.add_resolved.ensures.added
