use Rattle.std.proofs.Common.{◌∙◌, ◌++◌, take}
use Rattle.std.proofs.KnownBytes.{Consumes-trans}
use Rattle.script_engine.proofs.reading.read_script.Goals as goal

pub returns-in-Err-extend_from_slice : goal.returns-in-Err-extend_from_slice
returns-in-Err-extend_from_slice g c =
    let source = g.R.Source.source in
    let read = take c.in-Ok.count c.read_some.new.buf in (
      c.loop-piece.script.items ++ read,
      Consumes-trans (source c.args.reader.now).bytes (source c.loop-piece.reader).bytes (source c.read_some.new.self).bytes c.loop-piece.script.items read c.loop-piece.invariant.consumed c.in-Ok.ensures.bytes.0,
      c.in-Ok.ensures.failures ∙ c.loop-piece.invariant.unfailed,
    )
