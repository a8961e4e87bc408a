use Rattle.std.proofs.Common.{sym, subst, ◌∙◌, arith}
use Rattle.cache.specs.Turns.{KeepsSpent}
use Rattle.cache.proofs.Turning.{at_start, turned_on, at_end}
use Rattle.cache.proofs.hosts.Hosts.take_turns.Goals as goal

pub loop-init : goal.loop-init
loop-init g c = at_start c.args.now c.args.self.now

pub loop-smaller : goal.loop-smaller
loop-smaller g c = omega (arith, c.take_turn.ensures.one_waits_less c.loop-test.true)

pub loop-preserved : goal.loop-preserved
loop-preserved g c =
    let turn = c.take_turn.ensures in
    let taken = c.loop-test.true in
    turned_on c.args.now c.args.self.now c.loop.self c.take_turn.new.self c.loop.invariant
    (sym turn.possible ∙ taken) (turn.done taken) (turn.one_waits_less taken) turn.spent

pub returns-clause-done : goal.returns-clause-done
returns-clause-done g c =
    let turn = c.take_turn.ensures in
    at_end c.args.now c.args.self.now c.loop.self c.take_turn.new.self c.loop.invariant (sym turn.possible ∙ c.loop-test.false) (turn.unchanged c.loop-test.false)

pub returns-clause-spent : goal.returns-clause-spent
returns-clause-spent g c = subst (KeepsSpent c.args.self.now) (sym (c.take_turn.ensures.unchanged c.loop-test.false)) c.loop.invariant.spent
