-- A host that is given a place leaves the hosts in use their own.
use Rattle.std.proofs.Common.{◌∙◌}
use Rattle.crawl.proofs.Places.{given_keeps, grown_keeps}
use Rattle.crawl.proofs.hosts.Hosts.try_place.Goals as goal

pub returns-in-Ok-clause-keeps : goal.returns-in-Ok-clause-keeps
returns-in-Ok-clause-keeps g c =
    given_keeps (g.C.Places.unused c.args.crawler.now) c.args.self.now.table c.add_place.new.self.table c.place.new.self c.args.key.now c.in-Ok.place c.args.self.now.in_use.items c.add_place.new.self.in_use.items c.as_slice.result.now
    c.add_place.ensures.table c.add_place.ensures.in_use c.as_slice.ensures.value c.in-Ok.ensures.gives

pub returns-in-Err-Memory-clause-keeps : goal.returns-in-Err-Memory-clause-keeps
returns-in-Err-Memory-clause-keeps g c =
    grown_keeps c.args.self.now.table c.place.new.self c.args.self.now.in_use.items c.add_place.new.self.in_use.items (c.in-Err-Memory.ensures.unchanged ∙ c.add_place.ensures.table) c.add_place.ensures.in_use

pub returns-in-Err-Full-clause-keeps : goal.returns-in-Err-Full-clause-keeps
returns-in-Err-Full-clause-keeps g c =
    grown_keeps c.args.self.now.table c.place.new.self c.args.self.now.in_use.items c.add_place.new.self.in_use.items (c.in-Err-Full.ensures.unchanged ∙ c.add_place.ensures.table) c.add_place.ensures.in_use
