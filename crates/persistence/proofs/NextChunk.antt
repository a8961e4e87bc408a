-- What stands where a chunk is due, as the code finds it.
use Rattle.std.proofs.Common.{◌≡◌, ℕ, ◌+◌, ◌-◌, ◌<◌, ◌≤◌, true, false, List, [], ◌∷◌, ◌++◌, length, take, drop, None, Some, refl, sym, ap, subst, ◌∙◌, inl, inr, arith, append_assoc, length-append, length-take, length-drop, min, ◌⊎◌}
use Rattle.std.proofs.Math.ListN.{replicate}
use Rattle.std.proofs.lemmas.Bool.{cases_lt}
use Rattle.std.proofs.lemmas.Bool.Decides.{nat_tests}
use Rattle.std.proofs.lemmas.List.{take-append-drop, length-replicate}
use Rattle.persistence.specs.declared.chunks.size_line.SizeLine.{SizeLine}
use Rattle.persistence.specs.Chunks.{ReadsSizeLine, ReadsChunk}
use Rattle.persistence.specs.Faults.{NeverHasChunk}
use Rattle.persistence.specs.ReadingChunks.{begins_crlf, AwaitsLine, FindsLine, AwaitsChunk}
use Rattle.persistence.proofs.SequenceLemmas.{Reads-append}
use Rattle.persistence.proofs.ChunkLemmas.{size_line_unique, size_line_printed}

-- ---- what the two bytes after the data show

unended : (tail : List ℕ) → begins_crlf tail ≡ None → (more : List ℕ) × (tail ++ more ≡ 13 ∷ 10 ∷ []) × (length tail ≤ 1)
unended [] e = (13 ∷ 10 ∷ [], refl, omega arith)
unended (b ∷ []) e = (10 ∷ [], (let first : b ≡ 13 = grind (arith, nat_tests, e) in ap (λ x. x ∷ 10 ∷ []) first), omega arith)
unended (b ∷ c ∷ tail) e = absurd (cc)

pub no_line_end : (tail more rest : List ℕ) → begins_crlf tail ≡ Some false → tail ++ more ≡ 13 ∷ 10 ∷ rest → ⊥
no_line_end [] more rest w e = cc
no_line_end (b ∷ []) more rest w e = let first : b ≡ 13 = cc in let h : begins_crlf (b ∷ []) ≡ None = ap (λ x. begins_crlf (x ∷ [])) first in cc
no_line_end (b ∷ c ∷ tail) more rest w e =
    let first : b ≡ 13 = cc in
    let second : c ≡ 10 = cc in
    let h : begins_crlf (b ∷ c ∷ tail) ≡ Some true = ap (λ x. begins_crlf (x ∷ c ∷ tail)) first ∙ ap (λ y. begins_crlf (13 ∷ y ∷ tail)) second in
    cc

-- ---- no line yet

-- a line that completes the text, and so many bytes of data after it
completed : (size : ℕ) (text more : List ℕ) → 0 < size → ReadsSizeLine size (text ++ more) [] → ReadsChunk size (text ++ (more ++ (replicate size 0 ++ 13 ∷ 10 ∷ []))) []
completed size text more positive completes = record {
  positive = positive;
  content = replicate size 0;
  sized = length-replicate size 0;
  reads = subst (λ (t : List ℕ). ReadsSizeLine size t (replicate size 0 ++ 13 ∷ 10 ∷ [])) (append_assoc text more (replicate size 0 ++ 13 ∷ 10 ∷ []))
      (Reads-append size_line_printed size (text ++ more) [] (replicate size 0 ++ 13 ∷ 10 ∷ []) completes);
}

pub awaits_line : (room : ℕ) (text : List ℕ) → AwaitsLine room text → AwaitsChunk room text 0
awaits_line room text awaits = record {
  none = λ size rest fits chunk. awaits.none size _ chunk.reads;
  last = λ rest reads. awaits.none 0 rest reads;
  can = λ never. can never (cases_lt 0 awaits.size);
  tells = record { before = λ none. refl; after = λ size rest fits reads. absurd (awaits.none size rest reads) };
  fits = omega arith;
}
  where
    can : NeverHasChunk room text → (0 < awaits.size) ⊎ (awaits.size ≤ 0) → ⊥
    can never (inl positive) = never.chunk awaits.size _ [] awaits.fits (completed awaits.size text awaits.more positive awaits.completes)
    can never (inr none) = never.last awaits.more [] (subst (λ n. ReadsSizeLine n (text ++ awaits.more) []) {y = 0} (omega (arith, none)) awaits.completes)

-- ---- a line

module _ (room : ℕ) (text : List ℕ) (line : SizeLine) (found : FindsLine room text line) where
  module _ (positive : 0 < line.size) where
    -- where so many bytes of data came, and the CR LF after them has not
    awaits_data : (more content : List ℕ) → drop line.len text ++ more ≡ content ++ 13 ∷ 10 ∷ [] → length content ≡ line.size
        → length (drop line.len text) ≤ line.size + 1 → AwaitsChunk room text (min line.size (length (drop line.len text)))
    awaits_data more content completes sized short = record {
      none = λ size rest fits chunk. no_chunk size rest chunk;
      last = λ rest reads. (let u = size_line_unique 0 line.size text _ _ reads found.reads in omega (arith, u.0, positive));
      can = λ never. never.chunk line.size more [] found.fits (record {
        positive = positive;
        content = content;
        sized = sized;
        reads = subst (λ (t : List ℕ). ReadsSizeLine line.size (text ++ more) t) completes (Reads-append size_line_printed line.size text _ more found.reads);
      });
      tells = record { before = λ none. absurd (none _ _ found.fits found.reads); after = λ size rest fits reads. told size rest reads };
      fits = omega (arith, found.fits);
    }
      where
        no_chunk : (size : ℕ) (rest : List ℕ) → ReadsChunk size text rest → ⊥
        no_chunk size rest chunk =
            let u = size_line_unique size line.size text _ _ chunk.reads found.reads in
            omega (arith, u.0, ap length u.1, length-append chunk.content (13 ∷ 10 ∷ rest), chunk.sized, short)

        told : (size : ℕ) (rest : List ℕ) → ReadsSizeLine size text rest → min line.size (length (drop line.len text)) ≡ min size (length rest)
        told size rest reads =
            let u = size_line_unique size line.size text _ _ reads found.reads in
            ap (λ n. min n (length (drop line.len text))) (sym u.0) ∙ ap (λ (t : List ℕ). min size (length t)) (sym u.1)

    -- not all data came
    pub awaits_rest : length (drop line.len text) ≤ line.size → AwaitsChunk room text (length (drop line.len text))
    awaits_rest few =
        let came = drop line.len text in
        let zeros : List ℕ = replicate (line.size - length came) 0 in
        subst (AwaitsChunk room text) {y = length came} (omega (arith, few))
        (awaits_data (zeros ++ 13 ∷ 10 ∷ []) (came ++ zeros) (sym (append_assoc came zeros (13 ∷ 10 ∷ [])))
        (omega (arith, few, length-append came zeros, length-replicate {A = ℕ} (line.size - length came) 0)) (omega (arith, few)))

    -- the data, and what follows it
    data_cut : drop line.len text ≡ take line.size (drop line.len text) ++ drop line.size (drop line.len text)
    data_cut = sym (take-append-drop line.size (drop line.len text))

    module _ (full : line.size ≤ length (drop line.len text)) where
      data_sized : length (take line.size (drop line.len text)) ≡ line.size
      data_sized = omega (arith, full, length-take line.size (drop line.len text))

      -- the CR LF has not come
      pub awaits_end : begins_crlf (drop line.size (drop line.len text)) ≡ None → AwaitsChunk room text line.size
      awaits_end none =
          let came = drop line.len text in
          let open_end = unended (drop line.size came) none in
          subst (AwaitsChunk room text) {y = line.size} (omega (arith, full))
          (awaits_data open_end.0 (take line.size came)
          (ap (λ (t : List ℕ). t ++ open_end.0) data_cut ∙ append_assoc (take line.size came) (drop line.size came) open_end.0 ∙ ap (λ (t : List ℕ). take line.size came ++ t) open_end.1)
          data_sized (omega (arith, full, open_end.2, length-drop line.size came)))
