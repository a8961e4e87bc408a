-- One place after another that was parked is due.
use Rattle.std.proofs.Common.{refl, ◌∙◌}
use Rattle.transfer_slab.proofs.Scheduling.{wakes_none, wakes_more}
use Rattle.transfer_slab.proofs.schedule.Schedule.note_all_ready.Goals as goal

pub loop-init : goal.loop-init
loop-init c = record { wakes = wakes_none c.args.self.now.lists; limit = refl }

pub loop-preserved : goal.loop-preserved
loop-preserved c = record {
  wakes = wakes_more c.args.self.now.lists c.loop.self.lists c.becomes_due.new.self.lists c.in-Some.place c.loop.invariant.wakes c.in-Some.ensures.member c.becomes_due.ensures;
  limit = c.becomes_due.ensures.moves.limit ∙ c.loop.invariant.limit;
}
