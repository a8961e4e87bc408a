use Rattle.std.proofs.Common.{ℕ, List, ◌++◌, length, take, ap, subst, arith, length-drop}
use Rattle.std.proofs.lemmas.List.{take_rest}
use Rattle.persistence.specs.Faults.{IsFirstFault}
use Rattle.persistence.specs.ReadingHeads.{AwaitsHeads, NeverHasFinalHead}
use Rattle.persistence.specs.ReadingStages.{IsAtStage}
use Rattle.persistence.proofs.StageLemmas.{never_fixes, piece_whole, piece_further, piece_last}
use Rattle.persistence.proofs.reader.stage.after_heads.Goals as goal

pub heads_step-requires-clause-short : goal.heads_step-requires-clause-short
heads_step-requires-clause-short c = (c.loop-at.invariant.1 c.requires.known.0 c.requires.known.1).short

pub heads_step-requires-clause-few : goal.heads_step-requires-clause-few
heads_step-requires-clause-few c = (c.loop-at.invariant.1 c.requires.known.0 c.requires.known.1).few

pub returns-in-Err : goal.returns-in-Err
returns-in-Err c = record {
  reached = λ bytes before. (
      let here = c.loop-at.invariant.1 bytes before in
      let from = bytes ++ take c.loop-at.at c.args.piece.now in
      let is = piece_whole bytes c.args.piece.now _ c.loop-at.at (take_rest c.args.piece.now c.loop-at.at) in
      let never = subst NeverHasFinalHead is (c.in-Err.ensures.none from here) in
      record {
        first = subst (λ (t : List ℕ). IsFirstFault c.args.method t c.in-Err.fault) is (c.in-Err.ensures.fault from here c.args.method);
        tells = never;
        fixes = never_fixes c.args.method (bytes ++ c.args.piece.now) never;
      });
}

pub after_head-requires : goal.after_head-requires
after_head-requires c =
    let bytes = c.requires.known.0 in
    record { known = (_, rw c.in-Some.is at c.in-Ok.ensures.found (bytes ++ take c.loop-at.at c.args.piece.now) (c.loop-at.invariant.1 bytes c.requires.known.1)) }

pub returns-in-Some : goal.returns-in-Some
returns-in-Some c = record {
  reached = λ bytes before. (
      let ends = rw c.in-Some.is at c.in-Ok.ensures.found (bytes ++ take c.loop-at.at c.args.piece.now) (c.loop-at.invariant.1 bytes before) in
      subst (λ (t : List ℕ). IsAtStage c.args.method t c.after_head.result c.after_head.new.buffer)
      (piece_last bytes c.args.piece.now _ c.loop-at.at (take_rest c.args.piece.now c.loop-at.at) c.in-Ok.step.used _ (take_rest _ c.in-Ok.step.used))
      (c.after_head.ensures.reached _ ends));
}

pub loop-at-preserved : goal.loop-at-preserved
loop-at-preserved c = (
  omega (arith, c.in-Ok.ensures.taken.within, ap length (take_rest c.args.piece.now c.loop-at.at), length-drop c.loop-at.at c.args.piece.now, c.loop-at-test.true),
  λ bytes before.
      subst (λ (t : List ℕ). AwaitsHeads t c.in-Ok.step.skipped c.heads_step.new.buffer)
      (piece_further bytes c.args.piece.now _ c.loop-at.at (take_rest c.args.piece.now c.loop-at.at) c.in-Ok.step.used)
      (rw c.in_default.is at c.in-Ok.ensures.found (bytes ++ take c.loop-at.at c.args.piece.now) (c.loop-at.invariant.1 bytes before)),
)
