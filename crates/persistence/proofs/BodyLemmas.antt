-- A body that comes in pieces: what its state tells of the text so far.
use Rattle.std.proofs.Common.{◌≡◌, ℕ, ◌+◌, ◌-◌, ◌<◌, ◌≤◌, Bool, true, false, nat_le, List, [], ◌++◌, length, take, drop, min, Option, None, Some, unwrap_or, is_none, refl, sym, ap, subst, ◌∙◌, inl, inr, arith, length-append, length-take, length-drop}
use Rattle.std.specs.Option.{MatchOption}
use Rattle.std.proofs.lemmas.Bool.{cases_lt}
use Rattle.std.proofs.lemmas.Bool.Decides.{nat_tests}
use Rattle.std.proofs.lemmas.List.{append-nil, take-append-drop, drop_at}
use Rattle.persistence.specs.declared.body.kind.BodyKind.{BodyKind}
use Rattle.persistence.specs.declared.body.kind.BodyKind.TheVariants.{NoBody, Counted, Chunked, UntilClose}
use Rattle.persistence.specs.declared.answer.ReadFault.TheVariants.{BadLength}
use Rattle.persistence.specs.declared.body.count.Came.{Came}
use Rattle.persistence.specs.declared.body.state.BodyState.{BodyState}
use Rattle.persistence.specs.declared.body.state.BodyState.TheVariants as state
use Rattle.persistence.specs.declared.body.state.ChunkPart.{ChunkPart}
use Rattle.persistence.specs.declared.body.state.ChunkPart.TheVariants.{Line, Data, LineEnd, Trailer}
use Rattle.persistence.specs.declared.body.state.ChunkedBody.{ChunkedBody}
use Rattle.persistence.specs.Limits.{most_bytes}
use Rattle.persistence.specs.Chunks.{ReadsSizeLine, ReadsTrailer, ReachesTrailer}
use Rattle.persistence.specs.Told.{is_some_text}
use Rattle.persistence.specs.ReadingChunks.{begins_crlf, FindsLine, AwaitsChunk, AwaitsChunks, carriage, PassesTo, IsInData, IsAfterData, ReachesSection, IsDue, IsUnended, IsEnded, IsInChunks}
use Rattle.persistence.specs.ReadingBody.{CountsBody, len_of, whole_of, surplus_of, HasCount, LastsFor, BodyAt, IsFirstInBody, TellsBody}
use Rattle.persistence.proofs.SequenceLemmas.{Reads-append}
use Rattle.persistence.proofs.ChunkLemmas.{size_line_printed}
use Rattle.persistence.proofs.NextChunk.{awaits_line, awaits_rest, awaits_end}
use Rattle.persistence.proofs.ChunkedLemmas.{ReachesTrailer-append, tells_awaited, tells_open_trailer, data_before, clean_at_end}
use Rattle.persistence.proofs.PieceLemmas.{section_printed}

-- ---- a body that is counted

module _ (count : ℕ) (text : List ℕ) (came : Came) (counts : CountsBody count text came) where
  count_came : came.len ≡ min count (length text)
  count_came = elim (cases_lt (length text) count) [
    | inl short ↦ counts.open_end short ∙ omega (arith, short)
    | inr long ↦ counts.full long ∙ omega (arith, long)
  ]

  count_reached : came.whole ≡ true → count ≤ length text
  count_reached ended = let e : nat_le count (length text) ≡ true = sym counts.whole ∙ ended in grind (arith, nat_tests, e)

  count_missed : came.whole ≡ false → length text < count
  count_missed open_end = let e : nat_le count (length text) ≡ false = sym counts.whole ∙ open_end in grind (arith, nat_tests, e)

  count_passed : (rest : List ℕ) → length rest ≡ length text - count → came.surplus ≡ is_some_text rest
  count_passed rest sized = counts.surplus ∙ grind (arith, nat_tests, sized)

  count_not_passed : came.whole ≡ false → came.surplus ≡ false
  count_not_passed open_end = let short = count_missed open_end in counts.surplus ∙ grind (arith, nat_tests, short)

tells_counted : (kind : BodyKind) (counted : Option ℕ) (count : ℕ) → HasCount kind counted count → (ended : Bool) (text : List ℕ) (came : Came) → CountsBody count text came
    → TellsBody kind counted ended text came.len came.whole came.surplus
tells_counted NoBody counted count none ended text came counts = record {
  clean = λ fault shown. shown;
  came = omega (arith, count_came count text came counts, none);
  yes = λ whole. ([], text, refl, refl, count_passed count text came counts text (omega (arith, none)));
  no = λ open_end. (λ front rest e ends. omega (arith, count_missed count text came counts open_end, none), count_not_passed count text came counts open_end);
}
tells_counted Counted counted count is ended text came counts = record {
  clean = λ fault shown. (let e : None ≡ Some count = sym shown.1 ∙ is in absurd (cc));
  came = count_came count text came counts ∙ ap (λ (c : Option ℕ). min (unwrap_or c 0) (length text)) (sym is);
  yes = λ whole. (
      let long = count_reached count text came counts whole in (
        take count text,
        drop count text,
        sym (take-append-drop count text),
        is ∙ ap Some {x = count} {y = length (take count text)} (omega (arith, length-take count text, long)),
        count_passed count text came counts (drop count text) (omega (arith, length-drop count text)),
      )
      );
  no = λ open_end. (no_end open_end, count_not_passed count text came counts open_end);
}
  where
    no_end : came.whole ≡ false → (front rest : List ℕ) → text ≡ front ++ rest → counted ≡ Some (length front) → ⊥
    no_end open_end front rest e ends =
        let f : Some count ≡ Some (length front) = sym is ∙ ends in
        let g : count ≡ length front = cc in
        omega (arith, count_missed count text came counts open_end, g, ap length e, length-append front rest)
tells_counted Chunked counted count is ended text came counts = absurd is
tells_counted UntilClose counted count is ended text came counts = absurd is

-- ---- a body that lasts until the connection ends

tells_lasting : (counted : Option ℕ) (ended : Bool) (text : List ℕ) (len : ℕ) → LastsFor text len → TellsBody UntilClose counted ended text len ended false
tells_lasting counted ended text len lasts = record {
  clean = λ fault shown. omega (arith, shown.1, lasts.few);
  came = omega (arith, lasts.all, lasts.few);
  yes = λ e. (text, [], sym (append-nil text), (e, refl, lasts.few), refl);
  no = λ e. (λ front rest is ends. (let f = sym e ∙ ends.0 in absurd (cc)), refl);
}

-- ---- a body in chunks

-- a chunk that is not whole after whole chunks
chunks_awaited : (text : List ℕ) (before : ℕ) (rest : List ℕ) (begun len : ℕ) → PassesTo text before rest → AwaitsChunk (most_bytes - before) rest begun → len ≡ before + begun
    → AwaitsChunks text len
chunks_awaited text before rest begun len passes awaits sums = record {
  sizes = passes.sizes;
  rest = rest;
  chunks = passes.chunks;
  begun = begun;
  awaits = subst (λ (n : ℕ). AwaitsChunk (most_bytes - n) rest begun) (sym passes.sums) awaits;
  sums = omega (arith, sums, passes.sums);
}

-- the line before a chunk, and the place where it ends
line_place : (room size : ℕ) (text rest : List ℕ) → size ≤ room → ReadsSizeLine size text rest → (n : ℕ) × FindsLine room text (record { size = size; len = n }) × (drop n text ≡ rest)
line_place room size text rest fits reads =
    let p = size_line_printed.print size text rest reads in
    let cut : drop (length p.0) text ≡ rest = ap (drop (length p.0)) p.1 ∙ drop_at p.0 rest (length p.0) refl in (
      length p.0,
      record {
        within = omega (arith, ap length p.1, length-append p.0 rest);
        fits = fits;
        reads = subst (ReadsSizeLine size text) (sym cut) reads;
      },
      cut,
    )

data_awaited : (text : List ℕ) (len left : ℕ) → IsInData text len left → AwaitsChunks text len
data_awaited text len left at =
    let room = most_bytes - at.before in
    let line = line_place room at.size at.rest at.content at.fits at.line in
    let came = at.came in
    let some = at.some in
    chunks_awaited text at.before at.rest (length at.content) len at.passes
    (subst (λ (t : List ℕ). AwaitsChunk room at.rest (length t)) line.2
    (awaits_rest room at.rest (record { size = at.size; len = line.0 }) line.1 (omega (arith, came, some)) (omega (arith, came, ap length line.2))))
    at.sums

no_line_end_yet : (has_cr : Bool) → begins_crlf (carriage has_cr) ≡ None
no_line_end_yet true = refl
no_line_end_yet false = refl

data_ended : (text : List ℕ) (len : ℕ) (has_cr : Bool) → IsAfterData text len has_cr → AwaitsChunks text len
data_ended text len has_cr at =
    let room = most_bytes - at.before in
    let line = line_place room at.size at.rest (at.content ++ carriage has_cr) at.fits at.line in
    chunks_awaited text at.before at.rest at.size len at.passes
    (awaits_end room at.rest (record { size = at.size; len = line.0 }) line.1 at.some
    (omega (arith, at.sized, ap length line.2, length-append at.content (carriage has_cr)))
    (ap begins_crlf (ap (drop at.size) line.2 ∙ drop_at at.content (carriage has_cr) at.size at.sized) ∙ no_line_end_yet has_cr))
    at.sums

tells_due : (part : ChunkPart) (counted : Option ℕ) (ended : Bool) (text : List ℕ) (len : ℕ) (kept : List ℕ) → IsDue part text len kept
    → TellsBody Chunked counted ended text len false false
tells_due Line counted ended text len kept due =
    tells_awaited text len (chunks_awaited text len kept 0 len due.passes (awaits_line (most_bytes - len) kept due.awaits) (omega arith)) counted ended
tells_due (Data left) counted ended text len kept due = tells_awaited text len (data_awaited text len left due.within) counted ended
tells_due (LineEnd has_cr) counted ended text len kept due = tells_awaited text len (data_ended text len has_cr due.after) counted ended
tells_due Trailer counted ended text len kept due = tells_open_trailer text len kept due.reaches counted ended due.awaited

tells_ended : (counted : Option ℕ) (ended : Bool) (text : List ℕ) (chunks : ChunkedBody) → IsEnded text chunks → TellsBody Chunked counted ended text chunks.len true chunks.surplus
tells_ended counted ended text chunks at =
    let trailer = at.ends.reads.trailer in
    let reaches : ReachesTrailer at.ends.sizes (at.front ++ at.rest) (trailer ++ at.rest) = ReachesTrailer-append at.ends.sizes at.front trailer at.rest at.ends.reads.chunks in
    let section : ReadsTrailer (trailer ++ at.rest) at.rest = Reads-append section_printed tt trailer [] at.rest at.ends.reads.reads in
    let ends : ReachesSection text chunks.len (trailer ++ at.rest) = record {
      sizes = at.ends.sizes;
      sums = at.ends.sums;
      reaches = subst (λ (t : List ℕ). ReachesTrailer at.ends.sizes t (trailer ++ at.rest)) (sym at.is) reaches;
    } in
    record {
      clean = clean_at_end text chunks.len (trailer ++ at.rest) ends at.rest section;
      came = data_before text chunks.len (trailer ++ at.rest) ends;
      yes = λ e. (at.front, at.rest, at.is, (at.ends.sizes, record { trailer = trailer ++ at.rest; chunks = reaches; reads = section }), at.after);
      no = λ e. absurd (cc);
    }

-- what is told of a body in chunks, whole or not
tells_chunks : (counted : Option ℕ) (ended : Bool) (text : List ℕ) (chunks : ChunkedBody) (kept : List ℕ) → IsInChunks text chunks kept
    → TellsBody Chunked counted ended text chunks.len (is_none chunks.part) chunks.surplus
tells_chunks counted ended text chunks kept at = go chunks.part at
  where
    go : (part : Option ChunkPart) → MatchOption part (IsEnded text chunks) (IsUnended text chunks kept) → TellsBody Chunked counted ended text chunks.len (is_none part) chunks.surplus
    go None ended_there = tells_ended counted ended text chunks ended_there
    go (Some part) unended =
        subst (λ b. TellsBody Chunked counted ended text chunks.len false b) (sym unended.none_after) (tells_due part counted ended text chunks.len kept unended.due)

-- ---- any body

-- what is told of a body so far
pub tells_body : (kind : BodyKind) (counted : Option ℕ) (ended : Bool) (text : List ℕ) (at : BodyState) (kept : List ℕ) → BodyAt kind counted text at kept
    → TellsBody kind counted ended text (len_of at) (whole_of ended at) (surplus_of at)
tells_body kind counted ended text (state.Counted count came) kept (is, counts) = tells_counted kind counted count is ended text came counts
tells_body kind counted ended text (state.Chunked chunks) kept (is, at) =
    subst (λ (k : BodyKind). TellsBody k counted ended text chunks.len (is_none chunks.part) chunks.surplus) (sym is) (tells_chunks counted ended text chunks kept at)
tells_body kind counted ended text (state.UntilClose len) kept (is, lasts) =
    subst (λ (k : BodyKind). TellsBody k counted ended text len ended false) (sym is) (tells_lasting counted ended text len lasts)

-- ---- a piece more

-- more bytes than can be counted, of a body that lasts until the connection ends
pub too_many_bytes : (kind : BodyKind) (counted : Option ℕ) (text : List ℕ) → kind ≡ UntilClose → most_bytes < length text → IsFirstInBody kind counted text BadLength
too_many_bytes kind counted text is over = subst (λ (k : BodyKind). IsFirstInBody k counted text BadLength) (sym is) first
  where
    first : IsFirstInBody UntilClose counted text BadLength
    first = record { front = text; later = []; is = sym (append-nil text); shown = (refl, over); first = λ shorter next more other e shown. inl shown.0 }
