use Rattle.std.proofs.Common.{List, ℕ, subst, sym}
use Rattle.streams.specs.Streams.{PutFails}
use Rattle.load_run.specs.LoadTraces.{TraceFails}
use Rattle.load_run.proofs.LoadTraces.{put-failed}
use Rattle.load_run.proofs.load.tracing.put.Goals as goal

pub returns-in-Err : goal.returns-in-Err
returns-in-Err g c =
    let text = c.args.text.now in
    let old = g.W.Sink.sink c.args.output.now in
    let new = g.W.Sink.sink c.put.new.self in
    let fails = subst (λ (bytes : List ℕ). PutFails old new bytes c.in-Err.kind) c.as_bytes.ensures.value c.in-Err.ensures in
    subst (TraceFails text old new) (sym c.fault_of.ensures) (put-failed old new text c.in-Err.kind fails)
