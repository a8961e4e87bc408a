use Rattle.held_pool.specs.Calls.{HoldsSame, HasSameRest}
use Rattle.held_pool.proofs.held_pool.HeldPool.granted.Given as goal

abbrev pub invariant-loop : goal.invariant-loop
invariant-loop l = record {
  same : HoldsSame l.fn.self l.self;
  rest : HasSameRest l.fn.self l.self;
}
