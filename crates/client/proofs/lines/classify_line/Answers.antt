use Rattle.std.proofs.Common.{ap, arith, inl, inr, length, subst, sym, ◌∙◌, List, ℕ}
use Rattle.std.specs.Prelude.{Some, string_bytes, IsUtf8}
use Rattle.client.specs.FileLines.{is_skipped}
use Rattle.client.specs.Lines.{Text}
use Rattle.client.proofs.FileLines.{on_skipped, on_url, on_utf8}
use Rattle.client.proofs.lines.classify_line.Goals as goal

pub returns-then-is_skipped-clause-urls : goal.returns-then-is_skipped-clause-urls
returns-then-is_skipped-clause-urls c = ap (λ (us : List Text). Some us) (on_skipped c.args.line.now c.without_return-line.result.now c.without_return-line.ensures (sym c.is_skipped.ensures ∙ c.if-is_skipped.true))

pub returns-in_ok-from_str-in-Ok-clause-urls : goal.returns-in_ok-from_str-in-Ok-clause-urls
returns-in_ok-from_str-in-Ok-clause-urls c =
    let utf8 = c.in-Ok.ensures.cases in
    ap (λ (us : List Text). Some us) (on_utf8 c.args.line.now c.without_return-line.result.now (string_bytes c.in_ok-from_str-in-Ok.field-0) c.without_return-line.ensures
    (sym c.is_skipped.ensures ∙ c.if-is_skipped.false) utf8.1 c.if-line-le-MOST_BYTES.true (c.in_ok-from_str-in-Ok.ensures.ok ∙ utf8.0))

pub returns-in_ok-lossy_front-in-Ok-2-clause-urls : goal.returns-in_ok-lossy_front-in-Ok-2-clause-urls
returns-in_ok-lossy_front-in-Ok-2-clause-urls c =
    ap (λ (us : List Text). Some us) (on_url c.args.line.now c.without_return-line.result.now (string_bytes c.in_ok-lossy_front-in-Ok-2.field-0) c.without_return-line.ensures
    (sym c.is_skipped.ensures ∙ c.if-is_skipped.false) c.in_ok-lossy_front-in-Ok-2.ensures)

pub returns-then-is_skipped-clause-class : goal.returns-then-is_skipped-clause-class
returns-then-is_skipped-clause-class c = ap is_skipped (sym c.without_return-line.ensures) ∙ sym c.is_skipped.ensures ∙ c.if-is_skipped.true

pub returns-in_ok-from_str-in-Ok-clause-class : goal.returns-in_ok-from_str-in-Ok-clause-class
returns-in_ok-from_str-in-Ok-clause-class c = c.in_ok-from_str-in-Ok.ensures.ok ∙ c.in-Ok.ensures.cases.0 ∙ c.without_return-line.ensures

pub returns-in_ok-lossy_front-in-Ok-2-clause-class : goal.returns-in_ok-lossy_front-in-Ok-2-clause-class
returns-in_ok-lossy_front-in-Ok-2-clause-class c = inl (omega (arith, c.if-line-le-MOST_BYTES.false, ap length c.without_return-line.ensures))

pub returns-in_ok-lossy_front-in-Err-clause-class : goal.returns-in_ok-lossy_front-in-Err-clause-class
returns-in_ok-lossy_front-in-Err-clause-class c = inr (subst (λ (bytes : List ℕ). IsUtf8 bytes → ⊥) c.without_return-line.ensures c.in-Err.ensures.cases.0)

pub returns-in_ok-lossy_front-in-Ok-2-clause-bad : goal.returns-in_ok-lossy_front-in-Ok-2-clause-bad
returns-in_ok-lossy_front-in-Ok-2-clause-bad c = record {
  line = c.without_return-line.result.now;
  text_is = c.in_ok-lossy_front-in-Ok-2.ensures;
  bad = inl (omega (arith, c.if-line-le-MOST_BYTES.false));
}

pub returns-in_ok-lossy_front-in-Err-clause-urls : goal.returns-in_ok-lossy_front-in-Err-clause-urls
returns-in_ok-lossy_front-in-Err-clause-urls c =
    ap (λ (us : List Text). Some us) (on_url c.args.line.now c.without_return-line.result.now (string_bytes c.in_ok-lossy_front-in-Err.field-0) c.without_return-line.ensures
    (sym c.is_skipped.ensures ∙ c.if-is_skipped.false) c.in_ok-lossy_front-in-Err.ensures)
