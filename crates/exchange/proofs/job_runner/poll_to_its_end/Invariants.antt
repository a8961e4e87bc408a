use Rattle.std.specs.Prelude.{◌≡◌}
use Rattle.exchange.specs.Answers.{IsSameJob}
use Rattle.exchange.specs.Dialling.{failed_turns}
use Rattle.exchange.specs.Worlds.{world_of}
use Rattle.exchange.specs.Owning.{IsReady, Owns}
use Rattle.exchange.specs.Exchanging.{Continues, OpensFew, BeginsItsOwn}
use Rattle.exchange.proofs.job_runner.poll_to_its_end.Given as goal

abbrev pub invariant-loop : goal.invariant-loop
invariant-loop g l = record {
  home : g.C.Cache.home l.cache ≡ g.C.Cache.home l.fn.cache;
  owns : Owns (g.C.Cache.home l.cache) l.transfer.parts l.transfer.state;
  ready : IsReady l.transfer.parts;
  same : IsSameJob l.fn.transfer.parts l.transfer.parts;
  story : Continues g.C.Cache.did (world_of g.W.Wire.untouched g.W.Wire.happened (g.K.Clock.tells l.fn.clock)) l.fn.transfer.parts l.transfer.parts l.fn.cache l.cache l.fn.transfer.state l.transfer.state;
  opens : OpensFew l.fn.transfer.parts l.transfer.parts l.fn.transfer.state l.transfer.state (g.D.Dial.shown l.fn.dial).opened (g.D.Dial.shown l.dial).opened;
  begun : BeginsItsOwn (g.D.Dial.shown l.fn.dial).begun (g.D.Dial.shown l.dial).begun l.fn.transfer.parts.want.transfer l.fn.transfer.state l.transfer.state;
  turns : failed_turns g.D.Dial.shown l.dial ≡ failed_turns g.D.Dial.shown l.fn.dial;
}
