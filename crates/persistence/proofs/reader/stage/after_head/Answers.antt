use Rattle.persistence.proofs.StageLemmas.{body_now, fault_now}
use Rattle.persistence.proofs.reader.stage.after_head.Goals as goal

pub after_body-requires : goal.after_body-requires
after_body-requires c =
    let ends = c.requires.known.1 in
    record { known = (c.args.method, c.requires.known.0, body_now c.args.method c.requires.known.0 c.args.buffer.now c.args.head ends c.body_kind.result (c.body_kind.ensures ends.head ends.says) c.in-Ok.body c.in-Ok.ensures.begun) }

pub returns-in-Ok : goal.returns-in-Ok
returns-in-Ok c = record {
  reached = λ bytes ends. (
      c.after_body.ensures.reached c.args.method bytes
      (body_now c.args.method bytes c.args.buffer.now c.args.head ends c.body_kind.result (c.body_kind.ensures ends.head ends.says) c.in-Ok.body c.in-Ok.ensures.begun));
}

pub returns-in-Err : goal.returns-in-Err
returns-in-Err c = record {
  reached = λ bytes ends. (
      fault_now c.args.method bytes c.args.buffer.now c.args.head ends c.body_kind.result (c.body_kind.ensures ends.head ends.says) c.args.piece.now c.in-Err.fault c.in-Err.ensures.fault c.in-Err.ensures.fixes);
}
