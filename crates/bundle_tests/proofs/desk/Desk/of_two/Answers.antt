use Rattle.bundle_tests.proofs.DeskHosts.{new_desk, new_still}
use Rattle.bundle_tests.proofs.desk.Desk.of_two.Goals as goal

pub invariant_of-result : goal.invariant_of-result
invariant_of-result g c =
    let made = c.in-Ok-new_hosts.ensures in
    let shared = c.in_ok-shared.ensures in
    let here = new_still _ _ _ _ _ c.enrol.ensures.same made.here in
    let there = new_still _ _ _ _ _ c.enrol-in-Ok-new_hosts.ensures.same made.there in
    new_desk c.enrol.new.self c.enrol-in-Ok-new_hosts.new.self _ _ c.max.result c.args.hosts c.args.two.0 c.args.two.1 _ _ _ c.enrol.new.pass c.enrol-in-Ok-new_hosts.new.pass here there c.requires.hosts c.requires.here c.requires.there c.requires.two shared.budget shared.lobby (rw c.enrol.ensures.same c.enrol.ensures.enrolled) (rw c.enrol-in-Ok-new_hosts.ensures.same c.enrol-in-Ok-new_hosts.ensures.enrolled) c.enrol-in-Ok-new_hosts.ensures.pass_seats
