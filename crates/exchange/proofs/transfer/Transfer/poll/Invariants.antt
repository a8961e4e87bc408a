use Rattle.std.proofs.Common.{◌≡◌, ◌⊎◌, false, IsSomeAnd}
use Rattle.exchange.specs.Answers.{IsSameJob}
use Rattle.exchange.specs.Worlds.{world_of}
use Rattle.exchange.specs.Owning.{IsReady, Owns}
use Rattle.exchange.specs.Exchanging.{Continues, OpensFew, BeginsItsOwn, IsFinished, IsGoing}
use Rattle.exchange.specs.Stepping.{TakesSome}
use Rattle.exchange.proofs.transfer.Transfer.poll.Given as goal

abbrev pub invariant-loop : goal.invariant-loop
invariant-loop g l = record {
  stays : g.C.Cache.home l.cache ≡ g.C.Cache.home l.fn.cache;
  owns : Owns (g.C.Cache.home l.cache) l.self.parts l.self.state;
  ready : IsReady l.self.parts;
  same : IsSameJob l.fn.self.parts l.self.parts;
  story : Continues g.C.Cache.did (world_of g.W.Wire.untouched g.W.Wire.happened (g.K.Clock.tells l.fn.clock)) l.fn.self.parts l.self.parts l.fn.cache l.cache l.fn.self.state l.self.state;
  over : IsFinished l.fn.self.state → l.self.state ≡ l.fn.self.state;
  counted : (g.D.Dial.shown l.dial).failures ≡ (g.D.Dial.shown l.fn.dial).failures;
  opens : OpensFew l.fn.self.parts l.self.parts l.fn.self.state l.self.state (g.D.Dial.shown l.fn.dial).opened (g.D.Dial.shown l.dial).opened;
  begun : BeginsItsOwn (g.D.Dial.shown l.fn.dial).begun (g.D.Dial.shown l.dial).begun l.fn.self.parts.want.transfer l.fn.self.state l.self.state;
  turns : (g.D.Dial.shown l.dial).turn_failures ≡ (g.D.Dial.shown l.fn.dial).turn_failures;
  begins : (l.self.state ≡ l.fn.self.state) ⊎ IsSomeAnd l.self.state IsGoing;
  going : (l.counter ≡ 0) ⊎ IsSomeAnd l.self.state IsGoing;
  yielded : l.self.has_yielded ≡ false;
  context : l.cx ≡ l.fn.cx;
  steps : TakesSome g.C.Cache.did (world_of g.W.Wire.untouched g.W.Wire.happened (g.K.Clock.tells l.fn.clock)) l.counter l.fn.cache l.cache l.self.has_spent l.fn.self.state l.self.state;
}
