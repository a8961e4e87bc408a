use Rattle.std.proofs.Common.{◌≡◌, ℕ, ◌+◌, ◌-◌, false, ◌++◌, length, take, subst, arith, length-take}
use Rattle.persistence.specs.ReadingChunks.{IsInData, IsAfterData}
use Rattle.persistence.proofs.DataLemmas.{data_open, data_full}
use Rattle.persistence.proofs.chunks.data.data_step.Goals as goal

pub returns-clause-taken : goal.returns-clause-taken
returns-clause-taken c = record {
  within = omega (arith, c.part_of.ensures);
  some = λ some. omega (arith, c.part_of.ensures, some, c.requires);
}

pub returns-clause-open : goal.returns-clause-open
returns-clause-open c = λ text len at less.
    let more = take c.part_of.result c.args.piece.now in
    let came : length (take c.part_of.result c.args.piece.now) ≡ c.part_of.result = omega (arith, length-take c.part_of.result c.args.piece.now, c.part_of.ensures) in
    subst (λ (n : ℕ). IsInData (text ++ take c.part_of.result c.args.piece.now) (len + n) (c.args.left - n)) came
    (data_open text len c.args.left at more (omega (arith, came, less)))

pub returns-clause-full : goal.returns-clause-full
returns-clause-full c = λ text len at full.
    let more = take c.part_of.result c.args.piece.now in
    let came : length (take c.part_of.result c.args.piece.now) ≡ c.part_of.result = omega (arith, length-take c.part_of.result c.args.piece.now, c.part_of.ensures) in
    subst (λ (n : ℕ). IsAfterData (text ++ take c.part_of.result c.args.piece.now) (len + n) false) came
    (data_full text len c.args.left at more (omega (arith, came, full)))
