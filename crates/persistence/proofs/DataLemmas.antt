-- A chunk's len, counted piece by piece, and the CR LF after it.
use Rattle.std.proofs.Common.{◌≡◌, ℕ, ◌+◌, ◌-◌, ◌<◌, ◌≤◌, Bool, true, false, List, [], ◌∷◌, ◌++◌, length, min, None, Some, sym, ap, subst, ◌∙◌, arith, append_assoc, length-append}
use Rattle.std.proofs.lemmas.Bool.Decides.{nat_tests}
use Rattle.std.proofs.lemmas.List.{append-nil}
use Rattle.persistence.specs.Chunks.{ReadsSizeLine, ReadsChunk, ReadsChunks, room_after}
use Rattle.persistence.specs.Faults.{ShowsBadChunk}
use Rattle.persistence.specs.ReadingChunks.{begins_crlf, carriage, PassesTo, IsInData, IsAfterData, FixesData}
use Rattle.persistence.proofs.SequenceLemmas.{Reads-append, each-append, each-more}
use Rattle.persistence.proofs.ChunkLemmas.{chunk_printed, size_line_printed, size_line_unique, same_fronts}
use Rattle.persistence.proofs.ChunkedLemmas.{sum-append, all_data}
use Rattle.persistence.proofs.NextChunk.{no_line_end}

pub chunks_further : (text rest more sizes : List ℕ) → ReadsChunks sizes text rest → ReadsChunks sizes (text ++ more) (rest ++ more)
chunks_further text rest more sizes chunks = record { few = chunks.few; each = each-append chunk_printed sizes text rest more chunks.each }

pub passes_further : (text : List ℕ) (len : ℕ) (rest more : List ℕ) → PassesTo text len rest → PassesTo (text ++ more) len (rest ++ more)
passes_further text len rest more passes = record {
  sizes = passes.sizes;
  sums = passes.sums;
  chunks = chunks_further text rest more passes.sizes passes.chunks;
}

-- ---- the len

module _ (text : List ℕ) (len left : ℕ) (at : IsInData text len left) (more : List ℕ) where
  line_further : ReadsSizeLine at.size (at.rest ++ more) (at.content ++ more)
  line_further = Reads-append size_line_printed at.size at.rest at.content more at.line

  pub data_open : length more < left → IsInData (text ++ more) (len + length more) (left - length more)
  data_open less = record {
    before = at.before;
    rest = at.rest ++ more;
    passes = passes_further text at.before at.rest more at.passes;
    size = at.size;
    fits = at.fits;
    content = at.content ++ more;
    line = line_further;
    came = omega (arith, length-append at.content more, at.came, less);
    some = omega (arith, less);
    sums = omega (arith, length-append at.content more, at.sums);
  }

  pub data_full : length more ≡ left → IsAfterData (text ++ more) (len + length more) false
  data_full full = record {
    before = at.before;
    rest = at.rest ++ more;
    passes = passes_further text at.before at.rest more at.passes;
    size = at.size;
    fits = at.fits;
    some = (let came = at.came in let some = at.some in omega (arith, came, some));
    content = at.content ++ more;
    sized = omega (arith, length-append at.content more, at.came, full);
    line = subst (ReadsSizeLine at.size (at.rest ++ more)) (sym (append-nil (at.content ++ more))) line_further;
    sums = omega (arith, at.sums, at.came, full);
  }

-- ---- the CR LF after it

-- what the byte after the len shows
cr_awaited : (has_cr : Bool) (b : ℕ) → begins_crlf (carriage has_cr ++ b ∷ []) ≡ None → carriage has_cr ++ b ∷ [] ≡ 13 ∷ []
cr_awaited true b e = absurd (cc)
cr_awaited false b e = let first : b ≡ 13 = grind (arith, nat_tests, e) in ap (λ x. x ∷ []) first

lf_found : (has_cr : Bool) (b : ℕ) → begins_crlf (carriage has_cr ++ b ∷ []) ≡ Some true → carriage has_cr ++ b ∷ [] ≡ 13 ∷ 10 ∷ []
lf_found true b e = let second : b ≡ 10 = grind (arith, nat_tests, e) in ap (λ x. 13 ∷ x ∷ []) second
lf_found false b e = absurd (grind (arith, nat_tests, e))

module _ (text : List ℕ) (len : ℕ) (has_cr : Bool) (b : ℕ) (at : IsAfterData text len has_cr) where
  -- the line and the len, as they stand with the byte
  line_and_byte : ReadsSizeLine at.size (at.rest ++ b ∷ []) (at.content ++ (carriage has_cr ++ b ∷ []))
  line_and_byte =
      subst (ReadsSizeLine at.size (at.rest ++ b ∷ [])) (append_assoc at.content (carriage has_cr) (b ∷ []))
      (Reads-append size_line_printed at.size at.rest (at.content ++ carriage has_cr) (b ∷ []) at.line)

  pub end_open : begins_crlf (carriage has_cr ++ b ∷ []) ≡ None → IsAfterData (text ++ b ∷ []) len true
  end_open e = record {
    before = at.before;
    rest = at.rest ++ b ∷ [];
    passes = passes_further text at.before at.rest (b ∷ []) at.passes;
    size = at.size;
    fits = at.fits;
    some = at.some;
    content = at.content;
    sized = at.sized;
    line = subst (λ (t : List ℕ). ReadsSizeLine at.size (at.rest ++ b ∷ []) (at.content ++ t)) (cr_awaited has_cr b e) line_and_byte;
    sums = at.sums;
  }

  pub end_whole : begins_crlf (carriage has_cr ++ b ∷ []) ≡ Some true → PassesTo (text ++ b ∷ []) len []
  end_whole e =
      let further = chunks_further text at.rest (b ∷ []) at.passes.sizes at.passes.chunks in
      let before = at.passes.sums in
      let room = at.fits in
      let few = at.passes.chunks.few in
      let all = sum-append at.passes.sizes (at.size ∷ []) in
      record {
        sizes = at.passes.sizes ++ at.size ∷ [];
        sums = omega (arith, all, before, at.sums);
        chunks = record {
          few = omega (arith, all, before, room, few);
          each = each-more chunk_printed at.passes.sizes at.size (text ++ b ∷ []) (at.rest ++ b ∷ []) [] further.each (record {
            positive = at.some;
            content = at.content;
            sized = at.sized;
            reads = subst (λ (t : List ℕ). ReadsSizeLine at.size (at.rest ++ b ∷ []) (at.content ++ t)) (lf_found has_cr b e) line_and_byte;
          });
        };
      }

  -- the line stands there whatever follows
  read_on : (more : List ℕ) → ReadsSizeLine at.size ((at.rest ++ b ∷ []) ++ more) ((at.content ++ (carriage has_cr ++ b ∷ [])) ++ more)
  read_on more = Reads-append size_line_printed at.size (at.rest ++ b ∷ []) _ more line_and_byte

  -- and no chunk does, where the byte is wrong
  wrong_chunk : begins_crlf (carriage has_cr ++ b ∷ []) ≡ Some false → (size : ℕ) (more rest : List ℕ) → size ≤ room_after at.passes.sizes
      → ReadsChunk size ((at.rest ++ b ∷ []) ++ more) rest → ⊥
  wrong_chunk e size more rest fits reads =
      let u = size_line_unique size at.size ((at.rest ++ b ∷ []) ++ more) _ _ reads.reads (read_on more) in
      let tails : 13 ∷ 10 ∷ rest ≡ (carriage has_cr ++ b ∷ []) ++ more =
      same_fronts reads.content at.content _ _ (reads.sized ∙ u.0 ∙ sym at.sized) (u.1 ∙ append_assoc at.content (carriage has_cr ++ b ∷ []) more) in
      no_line_end (carriage has_cr ++ b ∷ []) more rest e (sym tails)

  pub end_wrong : begins_crlf (carriage has_cr ++ b ∷ []) ≡ Some false → ShowsBadChunk (text ++ b ∷ [])
  end_wrong e = record {
    sizes = at.passes.sizes;
    rest = at.rest ++ b ∷ [];
    chunks = chunks_further text at.rest (b ∷ []) at.passes.sizes at.passes.chunks;
    never = record { last = last; chunk = wrong_chunk e };
  }
    where
      last : (more rest : List ℕ) → ReadsSizeLine 0 ((at.rest ++ b ∷ []) ++ more) rest → ⊥
      last more rest reads = let u = size_line_unique 0 at.size ((at.rest ++ b ∷ []) ++ more) _ _ reads (read_on more) in let some = at.some in omega (arith, u.0, some)

  -- so the chunk's data and that of the chunks before it is all
  pub end_fixes : begins_crlf (carriage has_cr ++ b ∷ []) ≡ Some false → FixesData (text ++ b ∷ []) len
  end_fixes e more =
      let before = at.passes.sums in
      let room = at.fits in
      let fits : at.size ≤ room_after at.passes.sizes = omega (arith, before, room) in
      all_data at.passes.sizes ((text ++ b ∷ []) ++ more) ((at.rest ++ b ∷ []) ++ more) at.size len
      (chunks_further (text ++ b ∷ []) (at.rest ++ b ∷ []) more at.passes.sizes (chunks_further text at.rest (b ∷ []) at.passes.sizes at.passes.chunks))
      (λ size rest within reads. wrong_chunk e size more rest within reads)
      (record { before = λ none. absurd (none at.size _ fits (read_on more)); after = λ size rest within reads. told size rest reads })
      (omega (arith, before, at.sums))
    where
      told : (size : ℕ) (rest : List ℕ) → ReadsSizeLine size ((at.rest ++ b ∷ []) ++ more) rest → at.size ≡ min size (length rest)
      told size rest reads =
          let u = size_line_unique size at.size ((at.rest ++ b ∷ []) ++ more) _ _ reads (read_on more) in
          omega (arith, u.0, ap length u.1, length-append (at.content ++ (carriage has_cr ++ b ∷ [])) more, length-append at.content (carriage has_cr ++ b ∷ []), at.sized)
