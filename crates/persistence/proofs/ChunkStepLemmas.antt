-- A body in chunks that comes in pieces: what a piece more makes of the part that is due.
use Rattle.std.proofs.Common.{◌≡◌, ℕ, ◌+◌, ◌-◌, ◌<◌, ◌≤◌, true, false, List, [], ◌++◌, length, take, drop, Option, None, Some, refl, sym, ap, subst, ◌∙◌, arith, append_assoc, length-append, length-take, length-drop}
use Rattle.std.specs.Option.{MatchOption}
use Rattle.std.proofs.lemmas.Bool.Decides.{nat_tests}
use Rattle.std.proofs.lemmas.List.{append-nil, take_all, take_rest}
use Rattle.std.proofs.Math.Seq.{take-add}
use Rattle.std.proofs.lemmas.List.Elements.{All-nil}
use Rattle.httparse.specs.Grammar.{IsField, lf, print_section, HasNoSection, MayBecomeSection}
use Rattle.httparse.specs.Spans.{SectionExceeds}
use Rattle.persistence.specs.declared.answer.ReadFault.{ReadFault}
use Rattle.persistence.specs.declared.body.state.ChunkedBody.{ChunkedBody}
use Rattle.persistence.specs.declared.body.state.ChunkPart.{ChunkPart}
use Rattle.persistence.specs.Limits.{most_fields, most_bytes, most_trailer_bytes}
use Rattle.persistence.specs.Chunks.{ReadsSizeLine}
use Rattle.persistence.specs.Told.{TellsChunkData}
use Rattle.persistence.specs.Faults.{TrailerShows, IsFirst}
use Rattle.persistence.specs.ReadingChunks.{IsTrailerAwaited, AwaitsLine, RefusesLine, PassesTo, IsInData, FixesData, KeepsLine, EndsLine, KeepsTrailer, EndsSection, ReachesSection, BeginsPart, EndsChunked, IsLineDue, IsTrailerDue, IsDue, IsUnended, IsEnded, IsInChunks, IsFirstInChunks}
use Rattle.persistence.specs.ReadingHeads.{line_ends}
use Rattle.persistence.proofs.LineLemmas.{line_ends-append, line_ends-section}
use Rattle.persistence.proofs.StepLemmas.{taken_and_rest}
use Rattle.persistence.proofs.SizeLine.{nothing_yet}
use Rattle.persistence.proofs.TrailerLemmas.{trailer_awaited}
use Rattle.persistence.proofs.ChunkedLemmas.{ReachesTrailer-append, all_data, reaches_data, first_in_trailer, first_bad_chunk}
use Rattle.persistence.proofs.DataLemmas.{chunks_further, passes_further}

-- where that part is due the body has not ended
pub still_due : (part : ChunkPart) (text : List ℕ) (len : ℕ) (kept : List ℕ) (chunks : ChunkedBody) → chunks ≡ record { part = Some part; len = len; surplus = false }
    → IsDue part text len kept → IsInChunks text chunks kept
still_due part text len kept chunks is due = subst (λ (b : ChunkedBody). IsInChunks text b kept) (sym is) (record { due = due; none_after = refl })

-- where a part is due the bytes are there
pub due_now : (text : List ℕ) (chunks : ChunkedBody) (kept : List ℕ) (part : ChunkPart) → IsInChunks text chunks kept → chunks.part ≡ Some part → IsDue part text chunks.len kept
due_now text chunks kept part at is =
    let unended : IsUnended text chunks kept part = subst (λ (p : Option ChunkPart). MatchOption p (IsEnded text chunks) (IsUnended text chunks kept)) is at in
    unended.due

-- ---- a piece taken in parts

-- so much was taken, and then so much of the rest
pub taken_further : (text piece : List ℕ) (taken used : ℕ) → (text ++ take taken piece) ++ take used (take (length piece - taken) (drop taken piece)) ≡ text ++ take (taken + used) piece
taken_further text piece taken used =
    append_assoc text (take taken piece) (take used (take (length piece - taken) (drop taken piece)))
    ∙ ap (λ (t : List ℕ). text ++ (take taken piece ++ take used t)) (take_rest piece taken) ∙ ap (λ (t : List ℕ). text ++ t) (sym (take-add taken used piece))

-- so much was taken, and then all the rest
pub taken_all_rest : (text piece : List ℕ) (taken : ℕ) → (text ++ take taken piece) ++ take (length piece - taken) (drop taken piece) ≡ text ++ piece
taken_all_rest text piece taken =
    ap (λ (t : List ℕ). (text ++ take taken piece) ++ t) (take_rest piece taken) ∙ taken_and_rest text piece (text ++ take taken piece) taken refl

-- what follows a body in chunks that has ended
pub surplus_after : (text piece : List ℕ) (taken : ℕ) (chunks : ChunkedBody) (kept : List ℕ) → IsInChunks (text ++ take taken piece) chunks kept → chunks.part ≡ None → taken < length piece
    → IsInChunks (text ++ piece) (record { part = chunks.part; len = chunks.len; surplus = true }) kept
surplus_after text piece taken chunks kept at none more =
    let before = text ++ take taken piece in
    let ended : IsEnded before chunks = subst (λ (p : Option ChunkPart). MatchOption p (IsEnded before chunks) (IsUnended before chunks kept)) none at in
    let after : ChunkedBody = record { part = chunks.part; len = chunks.len; surplus = true } in
    subst (λ (p : Option ChunkPart). MatchOption p (IsEnded (text ++ piece) after) (IsUnended (text ++ piece) after kept)) (sym none)
    (record {
      front = ended.front;
      rest = ended.rest ++ drop taken piece;
      is = sym (taken_and_rest text piece before taken refl) ∙ ap (λ (t : List ℕ). t ++ drop taken piece) ended.is ∙ append_assoc ended.front ended.rest (drop taken piece);
      ends = ended.ends;
      after = (let a = length-append ended.rest (drop taken piece) in let d = length-drop taken piece in grind (arith, nat_tests, a, d, more));
    })

-- data that is fixed stays fixed
pub fixed_further : (text more : List ℕ) (len : ℕ) → FixesData text len → FixesData (text ++ more) len
fixed_further text more len fixes after = subst (λ (t : List ℕ). TellsChunkData t len) (sym (append_assoc text more after)) (fixes (more ++ after))

-- ---- a chunk's data

-- all that is left of a chunk's data can be counted
pub data_fits : (text : List ℕ) (len left : ℕ) → IsInData text len left → len + left ≤ most_bytes
data_fits text len left at =
    let came = at.came in
    let fits = at.fits in
    let before = at.passes.sums in
    let few = at.passes.chunks.few in
    omega (arith, at.sums, came, fits, before, few)

-- ---- the line before a chunk

-- after whole chunks a line is due, of which nothing is kept
pub line_due : (text : List ℕ) (len : ℕ) → PassesTo text len [] → IsLineDue text len []
line_due text len passes = record { passes = passes; awaits = nothing_yet (most_bytes - len) [] refl; short = omega arith }

-- the line that a body in chunks begins with
pub first_line_due : IsLineDue [] 0 []
first_line_due = line_due [] 0 (record { sizes = []; sums = refl; chunks = record { few = omega arith; each = refl } })

module _ (text : List ℕ) (len : ℕ) (kept : List ℕ) (due : IsLineDue text len kept) where
  pub line_kept_on : (more after : List ℕ) → KeepsLine (most_bytes - len) (kept ++ more) after → IsLineDue (text ++ more) len after
  line_kept_on more after keeps = record {
    passes = subst (PassesTo (text ++ more) len) (sym keeps.is) (passes_further text len kept more due.passes);
    awaits = subst (AwaitsLine (most_bytes - len)) (sym keeps.is) keeps.awaits;
    short = omega (arith, ap length keeps.is, keeps.short);
  }

  pub line_begins : (more after : List ℕ) (size : ℕ) → EndsLine (most_bytes - len) (kept ++ more) after size → BeginsPart (text ++ more) len size
  line_begins more after size ends = record {
    last = λ none. record {
      sizes = due.passes.sizes;
      sums = due.passes.sums;
      reaches = record {
        middle = kept ++ more;
        chunks = chunks_further text kept more due.passes.sizes due.passes.chunks;
        last = subst (λ (n : ℕ). ReadsSizeLine n (kept ++ more) []) none ends.reads;
      };
    };
    next = λ some. record {
      before = len;
      rest = kept ++ more;
      passes = passes_further text len kept more due.passes;
      size = size;
      fits = ends.fits;
      content = [];
      line = ends.reads;
      came = omega arith;
      some = some;
      sums = omega arith;
    };
  }

  pub line_refused : (piece : List ℕ) (fault : ReadFault) → RefusesLine (most_bytes - len) (kept ++ piece) fault → IsFirstInChunks (text ++ piece) fault
  line_refused piece fault refuses =
      let sums = due.passes.sums in
      first_bad_chunk (text ++ piece) fault (record {
        is = refuses.is;
        shows = record {
          sizes = due.passes.sizes;
          rest = kept ++ piece;
          chunks = chunks_further text kept piece due.passes.sizes due.passes.chunks;
          never = record {
            last = λ more rest reads. refuses.never 0 more rest (omega arith) reads;
            chunk = λ size more rest fits reads. refuses.never size more _ (omega (arith, sums, fits)) reads.reads;
          };
        };
      })

  -- no line comes, so the data of the chunks is all
  pub line_fixes : (piece : List ℕ) (fault : ReadFault) → RefusesLine (most_bytes - len) (kept ++ piece) fault → FixesData (text ++ piece) len
  line_fixes piece fault refuses more =
      let sums = due.passes.sums in
      all_data due.passes.sizes ((text ++ piece) ++ more) ((kept ++ piece) ++ more) 0 len
      (chunks_further (text ++ piece) (kept ++ piece) more due.passes.sizes (chunks_further text kept piece due.passes.sizes due.passes.chunks))
      (λ size rest fits reads. refuses.never size more _ (omega (arith, sums, fits)) reads.reads)
      (record { before = λ none. refl; after = λ size rest fits reads. absurd (refuses.never size more rest (omega (arith, sums, fits)) reads) })
      (omega (arith, sums))

-- ---- the trailer section

nothing_yet_there : HasNoSection []
nothing_yet_there fs last rest reads = omega (arith, ap line_ends reads.1, line_ends-append (print_section fs last) rest, line_ends-section fs last reads.0)

nothing_may : MayBecomeSection []
nothing_may = (print_section [] lf, [], lf, (All-nil IsField, sym (append-nil (print_section [] lf))))

nothing_awaited : IsTrailerAwaited []
nothing_awaited = trailer_awaited [] (record { none = nothing_yet_there; more = nothing_may; short = omega (arith) }) (omega (arith))

-- after the last line a trailer section is due, of which nothing is kept
pub trailer_due : (text : List ℕ) (len : ℕ) (kept : List ℕ) → kept ≡ [] → ReachesSection text len [] → IsTrailerDue text len kept
trailer_due text len kept is reaches = record {
  reaches = subst (ReachesSection text len) (sym is) reaches;
  awaited = subst IsTrailerAwaited (sym is) nothing_awaited;
  short = omega (arith, ap length is);
}

pub section_further : (text : List ℕ) (len : ℕ) (kept more : List ℕ) → ReachesSection text len kept → ReachesSection (text ++ more) len (kept ++ more)
section_further text len kept more reaches = record {
  sizes = reaches.sizes;
  sums = reaches.sums;
  reaches = ReachesTrailer-append reaches.sizes text kept more reaches.reaches;
}

module _ (text : List ℕ) (len : ℕ) (kept : List ℕ) (due : IsTrailerDue text len kept) where
  pub trailer_kept : (more after : List ℕ) → KeepsTrailer (kept ++ more) after → IsTrailerDue (text ++ more) len after
  trailer_kept more after keeps = record {
    reaches = subst (ReachesSection (text ++ more) len) (sym keeps.is) (section_further text len kept more due.reaches);
    awaited = subst IsTrailerAwaited (sym keeps.is) keeps.awaited;
    short = omega (arith, ap length keeps.is, keeps.short);
  }

  pub trailer_ends : (more after : List ℕ) → EndsSection (kept ++ more) after → EndsChunked (text ++ more) len
  trailer_ends more after ends =
      let reaches = section_further text len kept more due.reaches in
      record { sizes = reaches.sizes; sums = reaches.sums; reads = record { trailer = kept ++ more; chunks = reaches.reaches; reads = ends.reads } }

  pub trailer_fault : (piece : List ℕ) (fault : ReadFault) → IsFirst TrailerShows (SectionExceeds most_fields) (kept ++ piece) fault
      → IsFirstInChunks (text ++ piece) fault
  trailer_fault piece fault found =
      first_in_trailer (text ++ piece) len (kept ++ piece) (section_further text len kept piece due.reaches) fault found

  -- no chunk follows the last line, so the data of the chunks is all
  pub trailer_fixes : (piece : List ℕ) → FixesData (text ++ piece) len
  trailer_fixes piece more =
      let reaches = section_further (text ++ piece) len (kept ++ piece) more (section_further text len kept piece due.reaches) in
      subst (TellsChunkData ((text ++ piece) ++ more)) reaches.sums (reaches_data reaches.sizes ((text ++ piece) ++ more) ((kept ++ piece) ++ more) reaches.reaches)
