-- Heads, the lines before chunks and trailer sections that come in pieces, as the code reads them.
use Rattle.std.proofs.Common.{◌≡◌, ℕ, ◌-◌, ◌<◌, ◌≤◌, List, [], ◌∷◌, ◌++◌, length, take, drop, min, refl, sym, ap, subst, ◌∙◌, arith, append_assoc, length-append, length-take}
use Rattle.std.proofs.lemmas.List.{append-nil, take-append-drop, take-append-le, take_all}
use Rattle.httparse.specs.Grammar.{print_section, print_chunk_line}
use Rattle.httparse.specs.declared.spans.HeaderSpan.{HeaderSpan}
use Rattle.httparse.specs.declared.spans.ResponseSpans.{ResponseSpans}
use Rattle.persistence.specs.declared.answer.ReadFault.{ReadFault}
use Rattle.persistence.specs.declared.head.Head.{Head}
use Rattle.persistence.specs.declared.chunks.size_line.SizeLine.{SizeLine}
use Rattle.persistence.specs.Limits.{most_head_bytes, most_line_bytes}
use Rattle.persistence.specs.Heads.{ReadsHead}
use Rattle.persistence.specs.Fields.{fields_of}
use Rattle.persistence.specs.Chunks.{ReadsSizeLine, ReadsTrailer}
use Rattle.persistence.specs.ReadingHeads.{AreWithin, fields_at, IsAwaited, FindsHead, TellsHead, IsTaken, EndsHead}
use Rattle.persistence.specs.ReadingChunks.{IsTrailerAwaited, EndsTrailer, AwaitsLine, FindsLine, RefusesLine, KeepsLine, EndsLine, EndsSection}
use Rattle.persistence.proofs.SequenceLemmas.{IsPrinted}
use Rattle.persistence.proofs.HeadLemmas.{head_printed}
use Rattle.persistence.proofs.ChunkLemmas.{size_line_printed, trailer_unique}
use Rattle.persistence.proofs.StepLemmas.{EndsIn, ends_in, taken_and_rest}

-- ---- what was taken

pub filled_most : (kept piece filled : List ℕ) (taken most : ℕ) → filled ≡ kept ++ take taken piece → taken ≡ min (length piece) (most - length kept) → length kept < most → length filled ≤ most
filled_most kept piece filled taken most is told short = omega (arith, ap length is, length-append kept (take taken piece), length-take taken piece, told, short)

-- ---- a head

module _ (kept piece filled : List ℕ) (fields : List HeaderSpan) (spans : ResponseSpans) (taken : ℕ) (is : filled ≡ kept ++ take taken piece) (awaited : IsAwaited kept)
    (found : FindsHead filled fields spans) where
  head_ends : EndsIn ReadsHead found.head kept piece spans.len
  head_ends = ends_in head_printed found.head kept piece filled taken spans.len is found.within found.reads awaited.none

  pub head_after : length kept ≤ spans.len
  head_after = let e = head_ends.after in omega (arith, e)

  pub head_taken : IsTaken piece (spans.len - length kept)
  head_taken = let e = head_ends.after in let w = head_ends.within in record { within = omega (arith, e, w); some = λ some. omega (arith, e) }

  pub head_whole : (told : Head) → TellsHead found.head told → EndsHead (kept ++ take (spans.len - length kept) piece) [] told
  head_whole told says = record { is = refl; head = found.head; reads = head_ends.reads; says = says }

-- the fields of a head in all that is kept
pub fields_within : (text : List ℕ) (fields : List HeaderSpan) (spans : ResponseSpans) → length text ≤ most_head_bytes → FindsHead text fields spans → AreWithin text (take spans.headers fields)
fields_within text fields spans short found = subst (λ (t : List ℕ). AreWithin t (take spans.headers fields)) (take_all most_head_bytes text short) found.covered

pub fields_told : (text : List ℕ) (fields : List HeaderSpan) (spans : ResponseSpans) → length text ≤ most_head_bytes → (found : FindsHead text fields spans)
    → fields_at text (take spans.headers fields) ≡ fields_of found.head
fields_told text fields spans short found =
    ap (λ (t : List ℕ). fields_at t (take spans.headers fields)) (sym (take_all most_head_bytes text short)) ∙ found.told

-- ---- the line before a chunk

-- what is kept after a front of the piece was taken
pub line_filled : (kept piece filled : List ℕ) (front taken most : ℕ) → filled ≡ kept ++ take taken (take front piece) → taken ≡ min (length (take front piece)) (most - length kept)
    → filled ≡ kept ++ take taken piece
line_filled kept piece filled front taken most is told =
    is ∙ ap (λ (t : List ℕ). kept ++ t)
    (sym (take-append-le taken (take front piece) (drop front piece) (omega (arith, told))) ∙ ap (take taken) (take-append-drop front piece))

-- a line that still comes has room for a byte more
awaits_short : (room : ℕ) (text : List ℕ) → AwaitsLine room text → length text < most_line_bytes
awaits_short room text awaits = go awaits.more awaits.completes
  where
    go : (more : List ℕ) → ReadsSizeLine awaits.size (text ++ more) [] → length text < most_line_bytes
    go [] reads = absurd (awaits.none awaits.size [] (subst (λ (t : List ℕ). ReadsSizeLine awaits.size t []) (append-nil text) reads))
    go (b ∷ more) reads =
        omega (arith, ap length reads.reads, length-append text (b ∷ more), length-append (print_chunk_line reads.line) [], reads.valid.short)

pub line_kept : (room : ℕ) (text kept : List ℕ) → kept ≡ text → AwaitsLine room text → KeepsLine room text kept
line_kept room text kept is awaits = record { is = is; awaits = awaits; short = awaits_short room text awaits }

module _ (room : ℕ) (kept piece filled : List ℕ) (line : SizeLine) (taken : ℕ) (is : filled ≡ kept ++ take taken piece) (awaits : AwaitsLine room kept)
    (found : FindsLine room filled line) where
  line_ends_in : EndsIn ReadsSizeLine line.size kept piece line.len
  line_ends_in = ends_in size_line_printed line.size kept piece filled taken line.len is found.within found.reads awaits.none

  pub line_after : length kept ≤ line.len
  line_after = let e = line_ends_in.after in omega (arith, e)

  pub line_taken : IsTaken piece (line.len - length kept)
  line_taken = let e = line_ends_in.after in let w = line_ends_in.within in record { within = omega (arith, e, w); some = λ some. omega (arith, e) }

  pub line_whole : EndsLine room (kept ++ take (line.len - length kept) piece) [] line.size
  line_whole = record { is = refl; fits = found.fits; reads = line_ends_in.reads }

-- a line that cannot come after a front cannot come after all
pub refuses_further : (room : ℕ) (kept piece filled : List ℕ) (taken : ℕ) (fault : ReadFault) → filled ≡ kept ++ take taken piece → RefusesLine room filled fault → RefusesLine room (kept ++ piece) fault
refuses_further room kept piece filled taken fault is refuses = record {
  is = refuses.is;
  never = λ size more rest fits reads. refuses.never size (drop taken piece ++ more) rest fits
      (subst (λ (t : List ℕ). ReadsSizeLine size t rest)
      (ap (λ (t : List ℕ). t ++ more) (sym (taken_and_rest kept piece filled taken is)) ∙ append_assoc filled (drop taken piece) more) reads);
}

-- ---- a trailer section

pub section_printed : IsPrinted (λ (u : Unit {0}) (text rest : List ℕ). ReadsTrailer text rest)
section_printed = record {
  unique = λ a b text r q x y. (refl, trailer_unique text r q x y);
  print = λ a text r x. (print_section x.fields x.last, x.reads.1, λ more. record { fields = x.fields; last = x.last; reads = (x.reads.0, refl); few = x.few; short = x.short });
}

module _ (kept piece filled : List ℕ) (len taken : ℕ) (is : filled ≡ kept ++ take taken piece) (awaited : IsTrailerAwaited kept) (found : EndsTrailer filled len) where
  section_ends : EndsIn (λ (u : Unit {0}) (text rest : List ℕ). ReadsTrailer text rest) tt kept piece len
  section_ends = ends_in section_printed tt kept piece filled taken len is found.within found.reads (λ u. awaited.none)

  pub section_after : length kept ≤ len
  section_after = let e = section_ends.after in omega (arith, e)

  pub section_taken : IsTaken piece (len - length kept)
  section_taken = let e = section_ends.after in let w = section_ends.within in record { within = omega (arith, e, w); some = λ some. omega (arith, e) }

  pub section_whole : EndsSection (kept ++ take (len - length kept) piece) []
  section_whole = record { is = refl; reads = section_ends.reads }
