-- What was read was written.
use Rattle.std.proofs.Common.{inl, refl}
use Rattle.curlpool_c.proofs.target.tell_target.Goals as goal

pub returns-then-write_target : goal.returns-then-write_target
returns-then-write_target c = inl (record { target = c.in-Ok.read; its = c.in-Ok.ensures.ok; writes = c.if-write_target.ensures.yes refl; done = refl })
