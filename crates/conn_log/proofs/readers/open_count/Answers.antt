use Rattle.std.proofs.Common.{length, reverse, ap, ◌∙◌, arith}
use Rattle.std.proofs.lemmas.List.{take_all, reverse-reverse}
use Rattle.conn_log.specs.Bases.{Summary, summary, past_of, rest_of}
use Rattle.conn_log.specs.Behind.{left_open, numbers_in, opened_behind, open_behind}
use Rattle.conn_log.proofs.Opens.{counted_more}
use Rattle.conn_log.proofs.Rests.{tells_of}
use Rattle.conn_log.proofs.readers.open_count.Goals as goal
use Rattle.conn_log.proofs.readers.open_count.Goals.{then-stays_open, else-stays_open}

pub loop-entry-init : goal.loop-entry-init
loop-entry-init c = record {
  counted = c.open_in_base-count.ensures.count ∙ ap (λ (base : Summary). length (left_open (reverse c.rest-rest.result.now) (numbers_in base))) c.base.ensures;
  bounded = c.open_in_base-count.ensures.few;
}

pub loop-entry-preserved : goal.loop-entry-preserved
loop-entry-preserved c = record {
  counted = counted_more (summary (past_of c.args.log.now)) (reverse c.rest-rest.result.now) c.rest-rest.result.now c.loop-entry.entry-index _ _ _ _ c.loop-entry-test.true c.loop-entry.invariant.counted c.stays_open.ensures
      (elim c.if-stays_open.branch [ then-stays_open w ↦ rw w.if-stays_open.true w.count-is | else-stays_open w ↦ rw w.if-stays_open.false w.count-is ]);
  bounded = elim c.if-stays_open.branch [ then-stays_open w ↦ omega (arith, w.count-is, c.loop-entry.invariant.bounded) | else-stays_open w ↦ omega (arith, w.count-is, c.loop-entry.invariant.bounded) ];
}

pub returns-clause-behind : goal.returns-clause-behind
returns-clause-behind c =
    let rest = c.rest-rest.result.now in
    let base = summary (past_of c.args.log.now) in
    let turned = ap reverse c.rest-rest.ensures.entries ∙ reverse-reverse (rest_of c.args.log.now) in
    c.loop-entry.invariant.counted ∙ ap (λ xs. length (left_open (reverse rest) (opened_behind base (reverse xs)))) (take_all c.loop-entry.entry-index rest c.loop-entry-test.false) ∙ ap (λ log. length (open_behind base log)) turned

pub returns-clause-whole : goal.returns-clause-whole
returns-clause-whole c settings legal = returns-clause-behind c ∙ ap length (tells_of c.args.log.now settings legal).open_ones
