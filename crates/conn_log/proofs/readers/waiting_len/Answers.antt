use Rattle.std.proofs.Common.{length, reverse, ap, ◌∙◌, arith}
use Rattle.std.proofs.lemmas.List.{reverse-reverse}
use Rattle.conn_log.specs.Bases.{Summary, summary, past_of, rest_of}
use Rattle.conn_log.specs.Scan.{left_waiting}
use Rattle.conn_log.specs.Waiting.{waiting, waiting_since}
use Rattle.conn_log.proofs.Bases.{whole, summary_waits}
use Rattle.conn_log.proofs.Waits.{counted_more, left_at_all, waiting_append}
use Rattle.conn_log.proofs.readers.waiting_len.Goals as goal
use Rattle.conn_log.proofs.readers.waiting_len.Goals.{then-still_waits, else-still_waits}

pub loop-place-init : goal.loop-place-init
loop-place-init c = record {
  counted = c.waiting_in_base-count.ensures.count ∙ ap (λ (base : Summary). length (left_waiting c.rest-rest.result.now base.waiting)) c.base.ensures;
  bounded = c.waiting_in_base-count.ensures.few;
}

pub loop-place-preserved : goal.loop-place-preserved
loop-place-preserved c = record {
  counted = counted_more (summary (past_of c.args.log.now)).waiting c.rest-rest.result.now c.loop-place.place _ _ _ _ c.loop-place-test.true c.loop-place.invariant.counted c.still_waits.ensures
      (elim c.if-still_waits.branch [ then-still_waits w ↦ rw w.if-still_waits.true w.count-is | else-still_waits w ↦ rw w.if-still_waits.false w.count-is ]);
  bounded = elim c.if-still_waits.branch [ then-still_waits w ↦ omega (arith, w.count-is, c.loop-place.invariant.bounded) | else-still_waits w ↦ omega (arith, w.count-is, c.loop-place.invariant.bounded) ];
}

pub returns : goal.returns
returns c =
    let log = c.args.log.now in
    let rest = c.rest-rest.result.now in
    let start = (summary (past_of log)).waiting in
    let turned = ap reverse c.rest-rest.ensures.entries ∙ reverse-reverse (rest_of log) in
    c.loop-place.invariant.counted ∙ ap length (left_at_all start rest c.loop-place.place c.loop-place-test.false ∙ ap (waiting_since start) turned ∙ ap (λ wants. waiting_since wants (rest_of log)) (summary_waits (past_of log)) ∙ waiting_append (rest_of log) (past_of log) ∙ ap waiting (whole log))
