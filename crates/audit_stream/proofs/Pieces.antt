-- A trace that is read piece by piece.
use Rattle.std.proofs.Common.{◌≡◌, ℕ, Bool, true, false, not, ◌||◌, List, [], ◌++◌, refl, sym, ◌∙◌, subst, arith, inl, inr, Result, Ok, Err, IfOk, OnOk}
use Rattle.std.specs.Io.KnownBytes.{Consumes, IsAtEnd}
use Rattle.std.proofs.KnownBytes.{Consumes-nil, Consumes-trans}
use Rattle.streams.specs.Streams.{Stream}
use Rattle.audit_stream.specs.declared.stop.AuditStop.{AuditStop}
use Rattle.audit_stream.specs.Audits.{Judges, ReadsAll, ReadsMore, ReadsPart, ReadsStream, verdict_on}
use Rattle.audit_stream.specs.declared.audit_output.Verdict.{Verdict}
use Rattle.audit_stream.specs.Reading.{EndsText, ReadsUpTo, StopsWithin}
use Rattle.audit_stream.specs.Tells.{Told, nothing_told}
use Rattle.audit_stream.specs.Writing.{failed_reads, reads_of}
use Rattle.audit_stream.proofs.Readings.{last-on, last-stops-on, reads-grows, reads-none, reads-on, stops-on}

-- what was consumed so far is read, but for a text
pub record ReadsSoFar (unread left : Stream) (text : List ℕ) (old new : Told) : Type 0 where
  pub trace : List ℕ
  pub consumed : Consumes unread.bytes left.bytes trace
  pub reads : ReadsUpTo trace text old new
  pub failures : left.failures ≡ unread.failures

pub so-far-none : (stream : Stream) (told : Told) → ReadsSoFar stream stream [] told told
so-far-none stream told = record { trace = []; consumed = Consumes-nil stream.bytes; reads = reads-none [] told; failures = refl }

pub so-far-piece : (unread mid left : Stream) (text more : List ℕ) (count : ℕ) (old new : Told) → ReadsSoFar unread mid text old new → ReadsMore mid left text more count → ReadsSoFar unread left more old new
so-far-piece unread mid left text more count old new so_far read = record {
  trace = so_far.trace ++ read.bytes;
  consumed = Consumes-trans unread.bytes mid.bytes left.bytes so_far.trace read.bytes so_far.consumed read.consumed;
  reads = subst (λ grown. ReadsUpTo (so_far.trace ++ read.bytes) grown old new) (sym read.grown) (reads-grows so_far.trace text read.bytes old new so_far.reads);
  failures = read.failures ∙ so_far.failures;
}

pub so-far-lines : (unread left : Stream) (text rest : List ℕ) (old mid new : Told) → ReadsSoFar unread left text old mid → ReadsUpTo text rest mid new → ReadsSoFar unread left rest old new
so-far-lines unread left text rest old mid new so_far reads = record {
  trace = so_far.trace;
  consumed = so_far.consumed;
  reads = reads-on so_far.trace text rest old mid new so_far.reads reads;
  failures = so_far.failures;
}

pub so-far-stops : (all : Bool) (unread left : Stream) (text : List ℕ) (old mid new : Told) → all ≡ false → ReadsSoFar unread left text old mid → StopsWithin text mid new → ReadsStream all unread left old new
so-far-stops all unread left text old mid new one so_far stops = record {
  trace = so_far.trace;
  consumed = so_far.consumed;
  reads = inr (one, stops-on so_far.trace text old mid new so_far.reads stops);
  failures = so_far.failures;
}

pub so-far-ends : (all : Bool) (unread left : Stream) (text : List ℕ) (old mid new : Told) → ReadsSoFar unread left text old mid → IsAtEnd left.bytes → EndsText all text mid new → ReadsStream all unread left old new
so-far-ends all unread left text old mid new so_far end (inl finishes) = record {
  trace = so_far.trace;
  consumed = so_far.consumed;
  reads = inl (record { last = finishes.last; tells = last-on so_far.trace text old mid finishes.last so_far.reads finishes.tells; ends = finishes.ends }, end);
  failures = so_far.failures;
}
so-far-ends all unread left text old mid new so_far end (inr (one, stops)) = record {
  trace = so_far.trace;
  consumed = so_far.consumed;
  reads = inr (one, last-stops-on so_far.trace text old mid new so_far.reads stops);
  failures = so_far.failures;
}

pub so-far-part : (unread left : Stream) (text : List ℕ) (old new : Told) (stop : AuditStop) → ReadsSoFar unread left text old new → reads_of stop ≡ 0 → ReadsPart unread left stop
so-far-part unread left text old new stop so_far none = record { part = so_far.trace; consumed = so_far.consumed; failures = omega (arith, so_far.failures, none) }

pub so-far-fails : (unread mid left : Stream) (text : List ℕ) (old new : Told) (stop : AuditStop) → ReadsSoFar unread mid text old new → ReadsPart mid left stop → ReadsPart unread left stop
so-far-fails unread mid left text old new stop so_far read = record {
  part = so_far.trace ++ read.part;
  consumed = Consumes-trans unread.bytes mid.bytes left.bytes so_far.trace read.part so_far.consumed read.consumed;
  failures = omega (arith, so_far.failures, read.failures);
}

-- the last lines end it
pub so-far-last : {A : Type 0} (all : Bool) (unread left : Stream) (text : List ℕ) (old mid new : Told) (result : Result A AuditStop) → ReadsSoFar unread left text old mid → IsAtEnd left.bytes
    → OnOk result (EndsText all text mid new) → failed_reads result ≡ 0 → ReadsAll all unread left old new result
so-far-last all unread left text old mid new (Ok done) so_far end ends none = so-far-ends all unread left text old mid new so_far end ends
so-far-last all unread left text old mid new (Err stop) so_far end ends none = so-far-part unread left text old mid stop so_far none

-- the verdict on what was read
pub judged : (all : Bool) (unread left : Stream) (told : Told) (result : Result Verdict AuditStop) → ReadsStream all unread left nothing_told told → IfOk result (λ verdict. verdict ≡ verdict_on told.broken)
    → failed_reads result ≡ 0 → Judges all unread left result
judged all unread left told (Ok verdict) reads is none = (told, reads, is)
judged all unread left told (Err stop) reads is none = record { part = reads.trace; consumed = reads.consumed; failures = omega (arith, reads.failures, none) }

-- whether reading goes on
pub unbroken : (all broken : Bool) → (all || not broken) ≡ true → all ≡ false → broken ≡ false
unbroken true broken goes one = cc
unbroken false true goes one = cc
unbroken false false goes one = refl

pub stopped : (all broken : Bool) → (all || not broken) ≡ false → (all ≡ false) × (broken ≡ true)
stopped true broken stops = cc
stopped false true stops = (refl, refl)
stopped false false stops = cc
