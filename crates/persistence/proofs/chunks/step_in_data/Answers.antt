use Rattle.std.proofs.Common.{◌≡◌, ◌+◌, false, [], ◌++◌, take, refl, arith}
use Rattle.persistence.specs.declared.body.state.ChunkPart.TheVariants.{LineEnd}
use Rattle.persistence.proofs.ChunkStepLemmas.{still_due, data_fits}
use Rattle.persistence.proofs.chunks.step_in_data.Goals as goal

pub overflow_add-len-2 : goal.overflow_add-len-2
overflow_add-len-2 c =
    let fits = data_fits c.requires.known.0 c.args.len c.args.left c.requires.known.1.within in
    omega (arith, fits, c.data_step-used.ensures.bound)

pub returns-clause-told : goal.returns-clause-told
returns-clause-told c = λ text due.
    let full : c.data_step-used.result ≡ c.args.left = omega (arith, c.data_step-used.ensures.bound, c.if-came-left.false) in
    still_due (LineEnd false) (text ++ take c.data_step-used.result c.args.piece.now) (c.args.len + c.data_step-used.result) [] c.still_comes-2.result c.still_comes-2.ensures
    (record { is = refl; after = c.data_step-used.ensures.full text c.args.len due.within full })
