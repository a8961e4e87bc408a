-- What several writes come to.
use Rattle.std.proofs.Common.{ℕ, List, [], ◌++◌, arith}
use Rattle.std.proofs.KnownBytes.{Appends-nil, Appends-trans}
use Rattle.streams.specs.declared.stream_fault.StreamFault.{StreamFault}
use Rattle.streams.specs.declared.stream_fault.StreamFault.TheVariants.{Memory, Read, Write}
use Rattle.streams.specs.Streams.{Stream, PutFails}
use Rattle.audit_stream.specs.Writing.{Writes, stop_of_output, writes_of}

pub writes-none : (stream : Stream) → Writes stream stream 0
writes-none stream = record { text = []; appended = Appends-nil stream.bytes; failures = omega arith }

pub writes-more : (old mid new : Stream) (failed : ℕ) → Writes old mid 0 → Writes mid new failed → Writes old new failed
writes-more old mid new failed first second = record {
  text = first.text ++ second.text;
  appended = Appends-trans old.bytes mid.bytes new.bytes first.text second.text first.appended second.appended;
  failures = omega (arith, first.failures, second.failures);
}

pub writes-fails : (old new : Stream) (bytes : List ℕ) (kind : StreamFault) → PutFails old new bytes kind → Writes old new (writes_of (stop_of_output kind))
writes-fails old new bytes Write ((front, proper, appended), one) = record { text = front; appended = appended; failures = one }
writes-fails old new bytes Memory (appended, same, lacks) = record { text = []; appended = appended; failures = omega (arith, same) }
writes-fails old new bytes Read fails = absurd fails
