use Rattle.std.proofs.Common.{◌≡◌, ℕ, ◌+◌, ◌-◌, List, length, drop, take, ap, ◌∙◌, arith, length-drop}
use Rattle.std.proofs.lemmas.List.{take_all}
use Rattle.persistence.specs.ReadingHeads.{line_ends}
use Rattle.persistence.proofs.LineLemmas.{line_ends-cut}
use Rattle.persistence.proofs.reader.buffer.Buffer.line_ends.Goals as goal

-- what was counted before, and what is counted now
counted : (bytes items : List ℕ) (place before more : ℕ) → bytes ≡ items → before ≡ line_ends (take place items)
    → more ≡ line_ends (take (length bytes - place) (drop place bytes)) → before + more ≡ line_ends items
counted bytes items place before more is told found =
    let rest : take (length bytes - place) (drop place bytes) ≡ drop place bytes =
    take_all (length bytes - place) (drop place bytes) (omega (arith, length-drop place bytes)) in
    omega (arith, told, found, ap line_ends rest, ap (λ (t : List ℕ). line_ends (drop place t)) is, line_ends-cut place items)

pub invariant_of-self : goal.invariant_of-self
invariant_of-self c =
    let items = c.self.inside.bytes.items in
    let whole : take c.len-len.result items ≡ items = take_all c.len-len.result items (omega (arith, c.len-len.ensures)) in
    record {
      room = c.self.invariant.room;
      within = omega (arith, c.len-len.ensures);
      told = omega (arith, ap line_ends whole, counted c.deref.result.now items c.self.inside.counted c.self.inside.ends c.line_ends-more.result c.deref.ensures.value c.self.invariant.told c.line_ends-more.ensures);
    }

pub returns-clause-ends : goal.returns-clause-ends
returns-clause-ends c =
    counted c.deref.result.now c.self.inside.bytes.items c.self.inside.counted c.self.inside.ends c.line_ends-more.result c.deref.ensures.value c.self.invariant.told c.line_ends-more.ensures
    ∙ ap line_ends c.self.view_is
