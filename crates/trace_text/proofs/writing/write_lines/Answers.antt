-- Each line that was written is the next one.
use Rattle.std.proofs.Common.{◌≡◌, ◌+◌, ◌<◌, ◌≤◌, ◌++◌, length, refl, ap, sym, subst, ◌∙◌, arith}
use Rattle.trace_text.specs.LogLines.{rest_lines}
use Rattle.trace_text.proofs.Fronts.{no_lines, next_line, rest_ends, same_behind}
use Rattle.trace_text.proofs.Written.{begun, put_behind}
use Rattle.trace_text.proofs.writing.write_lines.Goals as goal

pub loop-place-init : goal.loop-place-init
loop-place-init c =
    let log = c.args.log.now in
    record {
      fits = omega arith;
      len = refl;
      lines = λ settings legal. begun (rest_lines c.args.host log.entries log.cut_away c.args.from c.args.from) c.args.buffer.now (no_lines c.args.host log.entries (log.cut_away + c.args.from));
    }

pub unreachable-requires : goal.unreachable-requires
unreachable-requires c =
    let log = c.args.log.now in
    rest_ends c.args.host log.entries log.cut_away c.len-place-end.result c.loop-place.place c.len-place-end.ensures c.loop-place-test.true (sym c.get.ensures ∙ c.in_default.is)

pub returns-in_default-line_of-clause-lines : goal.returns-in_default-line_of-clause-lines
returns-in_default-line_of-clause-lines c settings legal =
    let has = c.loop-place.invariant.lines settings legal in
    record {
      onwards = c.loop-place.auto.place;
      bytes = has.bytes;
      count = has.count;
      stops = omega (arith, c.loop-place-test.true, c.len-place-end.ensures);
    }

pub returns-then-not-put-clause-lines : goal.returns-then-not-put-clause-lines
returns-then-not-put-clause-lines c settings legal =
    let log = c.args.log.now in
    let has = c.loop-place.invariant.lines settings legal in
    let place = c.loop-place.place in
    let here = sym c.get.ensures ∙ c.in-Some.is in
    let its = c.as_bytes-text.ensures.value ∙ c.in-Ok.ensures in
    let next = next_line c.args.host log.entries log.cut_away place place c.returned_by-by.result c.in-Some.entry c.as_bytes-text.result.now (omega arith) here (c.returned_by-by.ensures settings legal) its in
    let alone = next ∙ ap (λ front. front ++ c.as_bytes-text.result.now) (no_lines c.args.host log.entries (log.cut_away + place)) in
    let small : length c.loop-place.buffer < c.loop-place.written + length c.as_bytes-text.result.now = c.if-not-put.ensures.small refl in
    let long : length (rest_lines c.args.host log.entries log.cut_away place (place + 1)) ≡ length c.as_bytes-text.result.now = ap length alone in
    let len : length c.loop-place.buffer ≡ length c.args.buffer.now = c.loop-place.invariant.len in
    record {
      onwards = c.loop-place.auto.place;
      bytes = c.if-not-put.ensures.same refl ∙ has.bytes;
      count = has.count;
      stops = (omega (arith, c.loop-place-test.true, c.len-place-end.ensures), omega (arith, small, long, len));
    }

pub loop-place-preserved : goal.loop-place-preserved
loop-place-preserved c =
    let log = c.args.log.now in
    let place = c.loop-place.place in
    let line = c.as_bytes-text.result.now in
    let within : c.loop-place.written + length line ≤ length c.loop-place.buffer = c.if-not-put.ensures.fits refl in
    let kept : length c.put.new.buffer ≡ length c.loop-place.buffer = c.put.auto.buffer in
    record {
      fits = omega (arith, within, kept);
      len = kept ∙ c.loop-place.invariant.len;
      lines = λ settings legal.
          let its = c.as_bytes-text.ensures.value ∙ c.in-Ok.ensures in
          let next = next_line c.args.host log.entries log.cut_away c.args.from place c.returned_by-by.result c.in-Some.entry line c.loop-place.auto.place (sym c.get.ensures ∙ c.in-Some.is) (c.returned_by-by.ensures settings legal) its in
          let before = rest_lines c.args.host log.entries log.cut_away c.args.from place in
          let put = put_behind before line c.args.buffer.now c.loop-place.buffer c.put.new.buffer c.loop-place.written (c.loop-place.invariant.lines settings legal) (c.if-not-put.ensures.text refl) in
          rw next put;
    }

pub returns-clause-lines : goal.returns-clause-lines
returns-clause-lines c settings legal =
    let log = c.args.log.now in
    let has = c.loop-place.invariant.lines settings legal in
    let past : length log.entries ≤ log.cut_away + c.loop-place.place = omega (arith, c.loop-place-test.false, c.len-place-end.ensures) in
    let past_max : length log.entries ≤ log.cut_away + c.max.result = omega (arith, c.max.ensures, c.len.ensures) in
    let same = same_behind c.args.host log.entries log.cut_away c.args.from c.loop-place.place c.max.result past past_max in
    record {
      onwards = omega (arith, c.max.ensures);
      bytes = has.bytes ∙ ap (λ lines. lines ++ Rattle.std.proofs.Common.drop c.loop-place.written c.args.buffer.now) same;
      count = has.count ∙ ap length same;
      stops = past_max;
    }
