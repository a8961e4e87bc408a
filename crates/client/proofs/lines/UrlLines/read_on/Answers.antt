use Rattle.std.proofs.Common.{◌≡◌, ◌<◌, ◌++◌, [], ap, sym, ◌∙◌, subst, arith, length, take, drop, List, ℕ, append-nil}
use Rattle.std.specs.Io.KnownBytes.{Consumes}
use Rattle.client.specs.FileLines.{lines_shown}
use Rattle.client.proofs.FileLines.{front_read, keeps_consumes, pending_on, reads_on}
use Rattle.client.proofs.lines.UrlLines.read_on.Goals as goal

pub returns-in_default-clause-reads : goal.returns-in_default-clause-reads
returns-in_default-clause-reads g c =
    let source = g.R.Source.source in
    let old = lines_shown c.args.self.now in
    let before = (source c.args.input.now).bytes in
    let after = (source c.read_some.new.self).bytes in
    let made = c.in_ok-make_piece.ensures in
    let bytes = c.make_piece.new.self.bytes.items in
    reads_on old _ before after [] c.requires.no_line.no_end
    (pending_on c.make_piece.new.self.from bytes bytes (take 2050 old.pending) [] (made.from ∙ c.drop_returned.ensures.from) (sym (append-nil bytes)) (made.bytes ∙ c.drop_returned.ensures.bytes))
    (keeps_consumes before after c.in_default.ensures.bytes) (λ p. absurd (cc))

pub returns-then-count-eq0-clause-reads : goal.returns-then-count-eq0-clause-reads
returns-then-count-eq0-clause-reads g c =
    let source = g.R.Source.source in
    let old = lines_shown c.args.self.now in
    let before = (source c.args.input.now).bytes in
    let after = (source c.read_some.new.self).bytes in
    let made = c.in_ok-make_piece.ensures in
    let read = c.in-Ok.ensures.bytes in
    let room : 0 < length c.read_some.new.buf = omega (arith, made.piece, ap length c.deref_mut.ensures.value) in
    reads_on old _ before after [] c.requires.no_line.no_end
    (pending_on c.make_piece.new.self.from c.make_piece.new.self.bytes.items c.make_piece.new.self.bytes.items (take 2050 old.pending) [] (made.from ∙ c.drop_returned.ensures.from)
    (sym (append-nil c.make_piece.new.self.bytes.items)) (made.bytes ∙ c.drop_returned.ensures.bytes))
    (subst (λ (n : ℕ). Consumes before after (take n c.read_some.new.buf)) c.if-count-eq0.true read.0) (λ p. read.1 c.if-count-eq0.true room)

pub returns-clause-reads : goal.returns-clause-reads
returns-clause-reads g c =
    let source = g.R.Source.source in
    let old = lines_shown c.args.self.now in
    let made = c.in_ok-make_piece.ensures in
    let read = take c.in-Ok.count c.read_some.new.buf in
    let buf = c.read_some.new.buf in
    let piece = c.make_piece.new.self.piece in
    let got : take c.in-Ok.count c.deref.result.now ≡ read = ap (λ (l : List ℕ). take c.in-Ok.count l) c.deref.ensures.value
    ∙ front_read c.in-Ok.count piece.len buf (drop (length buf) piece.items) (omega (arith, c.in-Ok.ensures.bound.0, c.deref_mut.ensures.len)) c.in-Ok.ensures.bound.0 in
    reads_on old _ (source c.args.input.now).bytes (source c.read_some.new.self).bytes read c.requires.no_line.no_end
    (pending_on c.make_piece.new.self.from c.extend_from_slice.new.self.items c.make_piece.new.self.bytes.items (take 2050 old.pending) read (made.from ∙ c.drop_returned.ensures.from)
    (c.in_ok-extend_from_slice.ensures.items ∙ ap (λ (l : List ℕ). c.make_piece.new.self.bytes.items ++ l) got) (made.bytes ∙ c.drop_returned.ensures.bytes))
    c.in-Ok.ensures.bytes.0 (λ p. absurd (cc))
