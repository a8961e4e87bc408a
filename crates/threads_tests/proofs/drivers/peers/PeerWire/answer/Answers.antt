use Rattle.std.proofs.Common.{arith, sym}
use Rattle.std.proofs.lemmas.List.{length-take-le}
use Rattle.threads_tests.proofs.drivers.peers.PeerWire.answer.Goals as goal

pub slice_bounds-copy_from_slice-end-3 : goal.slice_bounds-copy_from_slice-end-3
slice_bounds-copy_from_slice-end-3 c = sym (length-take-le 39 c.args.buffer.now (omega (arith, c.if-buffer-count.false)))

pub copy_from_slice-requires : goal.copy_from_slice-requires
copy_from_slice-requires c = length-take-le 39 c.args.buffer.now (omega (arith, c.if-buffer-count.false))
