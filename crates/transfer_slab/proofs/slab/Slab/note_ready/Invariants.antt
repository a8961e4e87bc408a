use Rattle.std.proofs.Common.{◌≡◌}
use Rattle.exchange.specs.Dialling.{KeepsDial}
use Rattle.transfer_slab.proofs.slab.Slab.note_ready.Given as goal

abbrev pub invariant-loop : goal.invariant-loop
invariant-loop g l = record {
  slots : l.self-inside.slots.items ≡ l.fn.self.slots;
  room : l.self-inside.room ≡ l.fn.self.room;
  tells : KeepsDial (g.D.Dial.shown l.fn.dial) (g.D.Dial.shown l.dial);
}
