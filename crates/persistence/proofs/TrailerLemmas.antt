-- What the parser's answer says of the text where a trailer section begins.
use Rattle.std.proofs.Common.{◌≡◌, ◌≢◌, ℕ, ◌<◌, ◌≤◌, ◌⊎◌, List, [], ◌∷◌, ◌++◌, length, take, drop, refl, sym, ap, subst, ◌∙◌, inl, inr, arith, append_assoc, length-append, length-take}
use Rattle.std.proofs.lemmas.List.{append-nil, take-append-drop, take_all, drop_at, length-map, length-take-le}
use Rattle.httparse.specs.Grammar.{Field, LineEnd, lf, ReadsSection, print_section, HasNoSection, NeverHasSection, MayBecomeSection}
use Rattle.httparse.specs.Spans.{IsSectionWithin, IsSectionAt, header_bytes, name_and_value, SectionExceeds}
use Rattle.httparse.specs.declared.spans.HeaderSpan.{HeaderSpan}
use Rattle.persistence.specs.declared.answer.ReadFault.{ReadFault}
use Rattle.persistence.specs.declared.answer.ReadFault.TheVariants.{Memory, BadHead, BadLength, BadChunk, HeadTooLong, TooManyInterims, TrailerTooLong}
use Rattle.persistence.specs.Limits.{most_fields, most_trailer_bytes}
use Rattle.persistence.specs.Chunks.{ReadsTrailer}
use Rattle.persistence.specs.Faults.{TrailerShows, IsFirst}
use Rattle.persistence.specs.ReadingChunks.{IsTrailerAwaited, IsUnfinishedSection, EndsTrailer}
use Rattle.persistence.specs.ReadingHeads.{line_ends}
use Rattle.persistence.proofs.LineLemmas.{cut_twice, section_exceeds_lines, section_exceeds_none, section_exceeds_cut}

cut_front : (text : List ℕ) → text ≡ take most_trailer_bytes text ++ drop most_trailer_bytes text
cut_front text = sym (take-append-drop most_trailer_bytes text)

-- a whole section
pub ends_trailer : (text : List ℕ) (spans : List HeaderSpan) (len count : ℕ) → length spans ≡ most_fields
    → IsSectionWithin (take most_trailer_bytes text) spans len count
    → (fs : List Field) (last : LineEnd) → IsSectionAt (take most_trailer_bytes text) 0 spans len count fs last → EndsTrailer text len
ends_trailer text spans len count room within fs last at =
    let front = take most_trailer_bytes text in
    let long : len ≤ length front = within.len_fits in
    let sized : len ≡ length (print_section fs last) = omega (arith, at.len_is) in
    let printed : text ≡ print_section fs last ++ (drop len front ++ drop most_trailer_bytes text) =
    cut_front text ∙ ap (λ (t : List ℕ). t ++ drop most_trailer_bytes text) at.reads.1 ∙ append_assoc (print_section fs last) (drop len front) (drop most_trailer_bytes text) in
    let rest : drop len text ≡ drop len front ++ drop most_trailer_bytes text =
    ap (drop len) printed ∙ drop_at (print_section fs last) _ len (sym sized) in
    let counted : length (take count spans) ≡ length fs =
    sym (length-map (take count spans) (header_bytes front)) ∙ ap length at.fields_are ∙ length-map fs name_and_value in
    record {
      within = omega (arith, long, length-take most_trailer_bytes text);
      reads = record {
        fields = fs;
        last = last;
        reads = (at.reads.0, printed ∙ ap (λ (t : List ℕ). print_section fs last ++ t) (sym rest));
        few = omega (arith, counted, length-take count spans, room);
        short = omega (arith, sized, long, length-take most_trailer_bytes text);
      };
    }

-- where a section may still come, a shorter front shows at most that it is too long
only_too_long : (front : List ℕ) → MayBecomeSection front → (start : List ℕ) (next : ℕ) (more : List ℕ) (other : ReadFault)
    → front ≡ start ++ next ∷ more → TrailerShows start other → (other ≡ TrailerTooLong) ⊎ SectionExceeds most_fields start
only_too_long front (further, fs, last, reads) start next more BadChunk e never =
    absurd (never (next ∷ more ++ further) fs last [] (subst (λ (t : List ℕ). ReadsSection t fs last []) (ap (λ (t : List ℕ). t ++ further) e ∙ append_assoc start (next ∷ more) further) reads))
only_too_long front may start next more TrailerTooLong e shown = inl refl
only_too_long front may start next more Memory e shown = absurd shown
only_too_long front may start next more BadLength e shown = absurd shown
only_too_long front may start next more BadHead e shown = absurd shown
only_too_long front may start next more TooManyInterims e shown = absurd shown
only_too_long front may start next more HeadTooLong e shown = absurd shown

-- a section that may still come is awaited, where no more lines ended in it than it may have fields
pub trailer_awaited : (text : List ℕ) → IsUnfinishedSection text → line_ends text ≤ most_fields → IsTrailerAwaited text
trailer_awaited text so_far few = record { none = λ rest reads. so_far.none reads.fields reads.last rest reads.reads; clean = clean }
  where
    clean : (fault : ReadFault) → TrailerShows text fault → ⊥
    clean BadChunk never = never so_far.more.0 so_far.more.1 so_far.more.2 [] so_far.more.3
    clean TrailerTooLong (inl past) = omega (arith, past.0, so_far.short)
    clean TrailerTooLong (inr exceeds) = omega (arith, section_exceeds_lines most_fields text exceeds, few)
    clean Memory shown = shown
    clean BadLength shown = shown
    clean BadHead shown = shown
    clean TooManyInterims shown = shown
    clean HeadTooLong shown = shown

pub trailer_past_limit : (text : List ℕ) → HasNoSection (take most_trailer_bytes text) → MayBecomeSection (take most_trailer_bytes text)
    → length (take most_trailer_bytes text) ≡ most_trailer_bytes → IsFirst TrailerShows (SectionExceeds most_fields) text TrailerTooLong
trailer_past_limit text none may full = record {
  front = take most_trailer_bytes text;
  later = drop most_trailer_bytes text;
  is = cut_front text;
  shown = inl (omega (arith, full), subst HasNoSection (sym (take_all most_trailer_bytes (take most_trailer_bytes text) (omega (arith, full)))) none);
  first = only_too_long (take most_trailer_bytes text) may;
}

pub trailer_too_many : (text : List ℕ) → SectionExceeds most_fields (take most_trailer_bytes text) → IsFirst TrailerShows (SectionExceeds most_fields) text TrailerTooLong
trailer_too_many text (front, rest, is, fs, reads, many) = record {
  front = front;
  later = rest ++ drop most_trailer_bytes text;
  is = cut_front text ∙ ap (λ (t : List ℕ). t ++ drop most_trailer_bytes text) is ∙ append_assoc front rest (drop most_trailer_bytes text);
  shown = inr (front, [], sym (append-nil front), fs, reads, many);
  first = only_too_long front (10 ∷ [], fs, lf, reads);
}

pub trailer_too_many_lines : (text : List ℕ) → IsUnfinishedSection text → most_fields < line_ends text
    → IsFirst TrailerShows (SectionExceeds most_fields) text TrailerTooLong
trailer_too_many_lines text so_far over =
    trailer_too_many text (subst (SectionExceeds most_fields) (sym (take_all most_trailer_bytes text (omega (arith, so_far.short))))
    (section_exceeds_cut most_fields text so_far.none so_far.more over))

pub bad_trailer : (text : List ℕ) → NeverHasSection (take most_trailer_bytes text) → IsFirst TrailerShows (SectionExceeds most_fields) text BadChunk
bad_trailer text never = record {
  front = take most_trailer_bytes text;
  later = drop most_trailer_bytes text;
  is = cut_front text;
  shown = never;
  first = first;
}
  where
    first : (start : List ℕ) (next : ℕ) (more : List ℕ) (other : ReadFault) → take most_trailer_bytes text ≡ start ++ next ∷ more
        → TrailerShows start other → (other ≡ BadChunk) ⊎ SectionExceeds most_fields start
    first start next more BadChunk e shown = inl refl
    first start next more TrailerTooLong e (inl past) =
        absurd (omega (arith, past.0, ap length e, length-append start (next ∷ more), length-take most_trailer_bytes text))
    first start next more TrailerTooLong e (inr exceeds) = inr exceeds
    first start next more Memory e shown = absurd shown
    first start next more BadLength e shown = absurd shown
    first start next more BadHead e shown = absurd shown
    first start next more TooManyInterims e shown = absurd shown
    first start next more HeadTooLong e shown = absurd shown

-- a text that begins with a trailer section shows nothing there
pub trailer_shows_nothing : (text rest : List ℕ) (fault : ReadFault) → ReadsTrailer text rest → TrailerShows text fault → ⊥
trailer_shows_nothing text rest BadChunk reads never = never [] reads.fields reads.last rest (subst (λ (t : List ℕ). ReadsSection t reads.fields reads.last rest) (sym (append-nil text)) reads.reads)
trailer_shows_nothing text rest TrailerTooLong reads (inl (long, none)) =
    elim (cut_twice (take most_trailer_bytes text) (drop most_trailer_bytes text) (print_section reads.fields reads.last) rest (sym (cut_front text) ∙ reads.reads.1)) [
      | inl (z, p, q) ↦ none reads.fields reads.last [] (reads.reads.0, exact z p (length-take-le most_trailer_bytes text long) ∙ sym (append-nil _))
      | inr (z, w, p, q) ↦ none reads.fields reads.last (z ∷ w) (reads.reads.0, p)
    ]
  where
    exact : (z : List ℕ) → print_section reads.fields reads.last ≡ take most_trailer_bytes text ++ z → length (take most_trailer_bytes text) ≡ most_trailer_bytes
        → take most_trailer_bytes text ≡ print_section reads.fields reads.last
    exact [] p full = sym (p ∙ append-nil _)
    exact (a ∷ z) p full = absurd (omega (arith, full, ap length p, length-append (take most_trailer_bytes text) (a ∷ z), reads.short))
trailer_shows_nothing text rest TrailerTooLong reads (inr exceeds) =
    let many = section_exceeds_none most_fields text [] exceeds reads.fields reads.last rest (subst (λ (t : List ℕ). ReadsSection t reads.fields reads.last rest) (sym (append-nil text)) reads.reads) in
    absurd (omega (arith, many, reads.few))
trailer_shows_nothing text rest Memory reads shown = shown
trailer_shows_nothing text rest BadLength reads shown = shown
trailer_shows_nothing text rest BadHead reads shown = shown
trailer_shows_nothing text rest TooManyInterims reads shown = shown
trailer_shows_nothing text rest HeadTooLong reads shown = shown
