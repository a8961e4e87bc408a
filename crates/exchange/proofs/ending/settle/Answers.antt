-- A whole response is a good answer; every other one was cut, since its wire has ended.
use Rattle.std.proofs.Common.{refl}
use Rattle.exchange.specs.Worlds.{world_of}
use Rattle.exchange.proofs.Steps.{spends_back}
use Rattle.exchange.proofs.Settling.{ToldFacts, ends_good, ends_strange, ends_cut, ends_headless}
use Rattle.exchange.proofs.ending.settle.Goals as goal
use Rattle.exchange.proofs.ending.settle.Goals.{in-Some+then-known, in-Some+else-known, in_default-2, in_default}

pub returns-clause-story : goal.returns-clause-story
returns-clause-story g c first from =
    let world = world_of g.W.Wire.untouched g.W.Wire.happened (g.K.Clock.tells c.args._clock.now) in
    let p = c.args.parts.now in
    let before = c.args.cache.now in
    let after = c.give_back-known.new.cache in
    let now = c.args.now in
    let facts = c.facts-facts.result in
    let known = c.give_back-known.result in
    let told : ToldFacts p facts = record { shown = c.facts-facts.ensures.shown; told = c.facts-facts.ensures.told; whole = c.facts-facts.ensures.whole } in
    let done = c.give_back-known.ensures.did in
    elim c.match-status.branch [
      | in-Some+then-known w ↦ rw w.done-is (ends_good g.C.Cache.did world p before after c.args.lease now c.requires.told _ w.if-known.ensures.did c.reused-reused.ensures (record { facts = told; whole = w.if-facts.true; status = w.in-Some.ensures; len = w.body_len.ensures.told; retried = refl }) first from)
      | in-Some+else-known w ↦ rw w.done-is (ends_strange g.C.Cache.did world p before after c.args.lease now c.requires.told facts w.if-known.ensures.did told w.if-facts.true first from)
      | in_default-2 w ↦ rw w.done-is (ends_cut g.C.Cache.did world p before after c.args.lease now c.requires.told known facts done told (λ none. w.if-facts.false) first from)
      | in_default w ↦ rw w.done-is (ends_headless g.C.Cache.did world p before after c.args.lease now c.requires.told known facts done told w.in_default.ensures first from)
    ]

pub returns-clause-left : goal.returns-clause-left
returns-clause-left g c = spends_back (g.C.Cache.did c.args.cache.now c.give_back-known.new.cache) c.args.lease c.args.now c.facts-facts.result c.give_back-known.result c.give_back-known.ensures.did
