use Rattle.std.proofs.Common.{◌≡◌, ◌∙◌, ap, sym, subst, true, arith, ℕ, List, Bool, Bor, Option, OnOk}
use Rattle.std.proofs.lemmas.Bool.Decides.{nat_tests}
use Rattle.std.specs.Option.{option_map}
use Rattle.audit_stream.specs.declared.audit_output.AuditOutput.{AuditOutput}
use Rattle.audit_stream.specs.Audits.{ReadsAll, ReadsStream}
use Rattle.audit_stream.specs.Reading.{EndsText, Leaves, ReadsUpTo, StopsWithin, goes_on}
use Rattle.audit_stream.specs.Runs.{told_by}
use Rattle.audit_stream.specs.Writing.{Writes, failed_writes, reads_of, writes_of}
use Rattle.audit_stream.proofs.Pieces.{ReadsSoFar, so-far-fails, so-far-last, so-far-lines, so-far-part, so-far-piece, so-far-stops}
use Rattle.audit_stream.proofs.Writings.{writes-more}
use Rattle.audit_stream.proofs.reading.Run.read_all.Goals as goal

pub returns-in-Ok-eq0-clause-reads : goal.returns-in-Ok-eq0-clause-reads
returns-in-Ok-eq0-clause-reads g c =
    let source = g.R.Source.source in
    let old = told_by c.args.self.now in
    let mid = told_by c.pieces.self in
    let new = told_by c.read_last.new.self in
    let text = c.read_piece.new.text.items in
    let so_far = so-far-piece (source c.args.reader.now) (source c.pieces.reader) (source c.read_piece.new.reader) c.pieces.text.items text c.in-Ok-eq0.field-0 old mid c.pieces.invariant.so_far c.in-Ok-eq0.ensures in
    let ends = subst (λ (bytes : List ℕ). OnOk c.read_last.result (EndsText c.pieces.self.teller.telling.all bytes mid new)) c.as_slice.ensures.value c.read_last.ensures.ends in
    subst (λ (all : Bool). ReadsAll all (source c.args.reader.now) (source c.read_piece.new.reader) old new c.read_last.result) (ap (λ (telling : AuditOutput). telling.all) c.pieces.invariant.same)
    (so-far-last c.pieces.self.teller.telling.all (source c.args.reader.now) (source c.read_piece.new.reader) text old mid new c.read_last.result so_far (c.in-Ok-eq0.ensures.at_end (grind (arith, nat_tests))).0 ends c.read_last.ensures.writes.1)

pub returns-in-Ok-eq0-clause-writes : goal.returns-in-Ok-eq0-clause-writes
returns-in-Ok-eq0-clause-writes g c =
    let sink = g.W.Sink.sink in
    writes-more (sink c.args.output.now) (sink c.pieces.output) (sink c.read_last.new.output) (failed_writes c.read_last.result) c.pieces.invariant.writes c.read_last.ensures.writes.0

pub returns-in-Err-clause-reads : goal.returns-in-Err-clause-reads
returns-in-Err-clause-reads g c =
    let source = g.R.Source.source in
    so-far-fails (source c.args.reader.now) (source c.pieces.reader) (source c.read_piece.new.reader) c.pieces.text.items (told_by c.args.self.now) (told_by c.pieces.self) c.in-Err.stop c.pieces.invariant.so_far c.in-Err.ensures.0

pub returns-in-Err-clause-writes : goal.returns-in-Err-clause-writes
returns-in-Err-clause-writes g c =
    let sink = g.W.Sink.sink in
    subst (λ (failed : ℕ). Writes (sink c.args.output.now) (sink c.pieces.output) failed) (sym c.in-Err.ensures.1) c.pieces.invariant.writes

pub returns-in-Ok-None-clause-reads : goal.returns-in-Ok-None-clause-reads
returns-in-Ok-None-clause-reads g c =
    let source = g.R.Source.source in
    let old = told_by c.args.self.now in
    let mid = told_by c.pieces.self in
    let text = c.read_piece.new.text.items in
    let unread = source c.args.reader.now in
    let left = source c.read_piece.new.reader in
    let so_far = so-far-piece unread (source c.pieces.reader) left c.pieces.text.items text c.in-Ok.field-0 old mid c.pieces.invariant.so_far c.in-Ok.ensures in
    let new = told_by c.read_complete.new.self in
    let all = c.pieces.self.teller.telling.all in
    let all_is = ap (λ (telling : AuditOutput). telling.all) c.pieces.invariant.same in
    let leaves = subst (λ (found : Option (Bor (List ℕ))). Leaves all c.as_slice-in-pieces.result.now mid new (option_map (λ (rest : Bor (List ℕ)). rest.now) found)) c.in-Ok-None.field-0-is c.in-Ok-None.ensures.leaves in
    let stops = subst (λ (bytes : List ℕ). StopsWithin bytes mid new) c.as_slice-in-pieces.ensures.value leaves.1 in
    subst (λ (all : Bool). ReadsStream all unread left old new) all_is (so-far-stops all unread left text old mid new leaves.0 so_far stops)

pub returns-in-Ok-None-clause-writes : goal.returns-in-Ok-None-clause-writes
returns-in-Ok-None-clause-writes g c =
    let sink = g.W.Sink.sink in
    writes-more (sink c.args.output.now) (sink c.pieces.output) (sink c.read_complete.new.output) 0 c.pieces.invariant.writes c.in-Ok-None.ensures.writes.0

pub returns-in-Err-read_complete-clause-reads : goal.returns-in-Err-read_complete-clause-reads
returns-in-Err-read_complete-clause-reads g c =
    let source = g.R.Source.source in
    let old = told_by c.args.self.now in
    let mid = told_by c.pieces.self in
    let text = c.read_piece.new.text.items in
    let unread = source c.args.reader.now in
    let left = source c.read_piece.new.reader in
    let so_far = so-far-piece unread (source c.pieces.reader) left c.pieces.text.items text c.in-Ok.field-0 old mid c.pieces.invariant.so_far c.in-Ok.ensures in
    so-far-part unread left text old mid c.in-Err-read_complete.stop so_far c.in-Err-read_complete.ensures.writes.1

pub returns-in-Err-read_complete-clause-writes : goal.returns-in-Err-read_complete-clause-writes
returns-in-Err-read_complete-clause-writes g c =
    let sink = g.W.Sink.sink in
    writes-more (sink c.args.output.now) (sink c.pieces.output) (sink c.read_complete.new.output) (writes_of c.in-Err-read_complete.stop) c.pieces.invariant.writes c.in-Err-read_complete.ensures.writes.0

pub returns-in-Err-set_to-clause-reads : goal.returns-in-Err-set_to-clause-reads
returns-in-Err-set_to-clause-reads g c =
    let source = g.R.Source.source in
    let old = told_by c.args.self.now in
    let mid = told_by c.pieces.self in
    let text = c.read_piece.new.text.items in
    let unread = source c.args.reader.now in
    let left = source c.read_piece.new.reader in
    let so_far = so-far-piece unread (source c.pieces.reader) left c.pieces.text.items text c.in-Ok.field-0 old mid c.pieces.invariant.so_far c.in-Ok.ensures in
    so-far-part unread left text old mid c.in-Err-set_to.stop so_far (ap reads_of c.in-Err-set_to.ensures)

pub returns-in-Err-set_to-clause-writes : goal.returns-in-Err-set_to-clause-writes
returns-in-Err-set_to-clause-writes g c =
    let sink = g.W.Sink.sink in
    let writes = writes-more (sink c.args.output.now) (sink c.pieces.output) (sink c.read_complete.new.output) 0 c.pieces.invariant.writes c.in-Ok-Some.ensures.writes.0 in
    subst (λ (failed : ℕ). Writes (sink c.args.output.now) (sink c.read_complete.new.output) failed) (sym (ap writes_of c.in-Err-set_to.ensures)) writes

pub pieces-preserved : goal.pieces-preserved
pieces-preserved g c =
    let sink = g.W.Sink.sink in
    let source = g.R.Source.source in
    let old = told_by c.args.self.now in
    let mid = told_by c.pieces.self in
    let text = c.read_piece.new.text.items in
    let unread = source c.args.reader.now in
    let left = source c.read_piece.new.reader in
    let so_far = so-far-piece unread (source c.pieces.reader) left c.pieces.text.items text c.in-Ok.field-0 old mid c.pieces.invariant.so_far c.in-Ok.ensures in
    let new = told_by c.read_complete.new.self in
    let all = c.pieces.self.teller.telling.all in
    let all_is = ap (λ (telling : AuditOutput). telling.all) c.pieces.invariant.same in
    let leaves = subst (λ (found : Option (Bor (List ℕ))). Leaves all c.as_slice-in-pieces.result.now mid new (option_map (λ (rest : Bor (List ℕ)). rest.now) found)) c.in-Ok-Some.field-0-is c.in-Ok-Some.ensures.leaves in
    let reads = subst (λ (bytes : List ℕ). ReadsUpTo bytes c.in-Ok-Some.rest.now mid new) c.as_slice-in-pieces.ensures.value leaves.0 in
    let items_is : c.swap.new.x.items ≡ c.in-Ok-Some.rest.now = rw c.swap.ensures.x_after c.in-Ok-set_to.ensures in
    record {
      so_far = subst (λ (bytes : List ℕ). ReadsSoFar unread left bytes old new) (sym items_is) (so-far-lines unread left text c.in-Ok-Some.rest.now old mid new so_far reads);
      goes = subst (λ (all : Bool). goes_on all new ≡ true) all_is leaves.1;
      same = c.in-Ok-Some.ensures.same ∙ c.pieces.invariant.same;
      writes = writes-more (sink c.args.output.now) (sink c.pieces.output) (sink c.read_complete.new.output) 0 c.pieces.invariant.writes c.in-Ok-Some.ensures.writes.0;
    }
