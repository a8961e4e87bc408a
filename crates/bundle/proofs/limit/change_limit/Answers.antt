use Rattle.std.proofs.Common.{ap, arith}
use Rattle.budget.specs.declared.permits.Held.{Held}
use Rattle.bundle.proofs.LimitLogs.{closed_above, freed_above, limit_streams}
use Rattle.bundle.proofs.limit.change_limit.Goals as goal

pub returns-clause-freed : goal.returns-clause-freed
returns-clause-freed g c =
    let changed = c.set_limit-closed.ensures in
    let so_many = closed_above c.args.state.now.settings _ _ c.args.most c.args.now _ c.set_limit-closed.result c.log-log.ensures.sound c.requires.leased_fit c.moment-moment.ensures changed.log changed.fewer_open in
    freed_above _ _ _ c.args.most c.args.given c.set_limit-closed.result changed.fewer_open so_many (omega (arith, c.requires.within_due)) (ap (λ (h : Held). h.alive) c.open_for_first.ensures.more_open)

pub returns-clause-none_closed : goal.returns-clause-none_closed
returns-clause-none_closed g c less =
    let changed = c.set_limit-closed.ensures in
    let so_many = closed_above c.args.state.now.settings _ _ c.args.most c.args.now _ c.set_limit-closed.result c.log-log.ensures.sound c.requires.leased_fit c.moment-moment.ensures changed.log changed.fewer_open in
    c.release_closed.ensures.none_released (omega (arith, so_many, less))

pub returns-clause-streams : goal.returns-clause-streams
returns-clause-streams g c =
    let changed = c.set_limit-closed.ensures in
    let more = c.open_for_first.ensures in
    limit_streams c.args.state.now c.set_limit-closed.new.self c.open_for_first.new.state c.set_limit-closed.new.self.settings c.moment-moment.result c.args.given c.log-log.ensures.streams c.log-changed.ensures.streams changed.closes.opened changed.closes.streams more.log more.streams
