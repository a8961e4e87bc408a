-- What the parser's answer says of the text where a head begins.
use Rattle.std.proofs.Common.{◌≡◌, ℕ, ◌+◌, ◌<◌, ◌≤◌, ◌⊎◌, List, [], ◌∷◌, ◌++◌, Ok, length, take, drop, refl, sym, ap, subst, ◌∙◌, inl, inr, arith, append_assoc, length-append, length-take, true, false}
use Rattle.std.proofs.lemmas.List.{append-nil, take-append-drop, take_all, drop_at, length-map}
use Rattle.std.proofs.lemmas.List.Elements.{All-weaker}
use Rattle.httparse.specs.Grammar.{ResponseHead, ReadsResponse, print_response, HasNoResponse, NeverHasResponse, MayBecomeResponse}
use Rattle.httparse.specs.Spans.{IsHeaderWithin, IsResponseWithin, IsResponseAt, header_bytes, name_and_value, ResponseExceeds}
use Rattle.httparse.specs.Outcome.{IfComplete, OnPartial}
use Rattle.httparse.specs.declared.Error.{Error}
use Rattle.httparse.specs.declared.Error.TheVariants.{HeaderName, HeaderValue, NewLine, Status as BadStatus, Token, TooManyHeaders, Version as BadVersion}
use Rattle.httparse.specs.declared.Status.{Status}
use Rattle.httparse.specs.declared.Status.TheVariants.{Complete, Partial}
use Rattle.httparse.specs.declared.spans.HeaderSpan.{HeaderSpan}
use Rattle.httparse.specs.declared.spans.ResponseSpans.{ResponseSpans}
use Rattle.persistence.specs.declared.answer.ReadFault.{ReadFault}
use Rattle.persistence.specs.declared.answer.ReadFault.TheVariants.{Memory, BadHead, BadLength, BadChunk, HeadTooLong, TooManyInterims, TrailerTooLong}
use Rattle.persistence.specs.Limits.{most_fields, most_head_bytes}
use Rattle.persistence.specs.Faults.{HeadShows, IsFirst}
use Rattle.persistence.specs.ReadingHeads.{IsAwaited, IsUnfinished, FindsHead, is_too_many, skip_newlines, line_ends}
use Rattle.persistence.proofs.HeadLines.{response_exceeds_lines, response_exceeds_cut}

-- the text is its front and the rest
cut_front : (text : List ℕ) → text ≡ take most_head_bytes text ++ drop most_head_bytes text
cut_front text = sym (take-append-drop most_head_bytes text)

-- a whole head
pub finds_head : (text : List ℕ) (fields : List HeaderSpan) (spans : ResponseSpans) → length fields ≡ most_fields
    → IsResponseWithin (take most_head_bytes text) fields spans
    → (h : ResponseHead) → IsResponseAt (take most_head_bytes text) fields spans h → FindsHead text fields spans
finds_head text fields spans room within h at =
    let front = take most_head_bytes text in
    let long : spans.len ≤ length front = within.section.len_fits in
    let bound : length front ≤ most_head_bytes = omega (arith, length-take most_head_bytes text) in
    let bound' : length front ≤ length text = omega (arith, length-take most_head_bytes text) in
    let printed : text ≡ print_response h ++ (drop spans.len front ++ drop most_head_bytes text) =
    cut_front text ∙ ap (λ (t : List ℕ). t ++ drop most_head_bytes text) at.reads.1 ∙ append_assoc (print_response h) (drop spans.len front) (drop most_head_bytes text) in
    let rest : drop spans.len text ≡ drop spans.len front ++ drop most_head_bytes text =
    ap (drop spans.len) printed ∙ drop_at (print_response h) _ spans.len (sym at.len) in
    let counted : length (take spans.headers fields) ≡ length h.fields =
    sym (length-map (take spans.headers fields) (header_bytes front)) ∙ ap length at.fields ∙ length-map h.fields name_and_value in
    record {
      head = h;
      reads = record {
        reads = (at.reads.0, printed ∙ ap (λ (t : List ℕ). print_response h ++ t) (sym rest));
        few = omega (arith, counted, length-take spans.headers fields, room);
        short = omega (arith, at.len, long, bound);
      };
      within = omega (arith, long, bound');
      version = at.version;
      code = at.code;
      count = within.section.count_fits;
      covered = All-weaker (IsHeaderWithin spans.len) (IsHeaderWithin (length front))
          (λ s fits. ((fits.0.0, omega (arith, fits.0.1, long)), (fits.1.0, omega (arith, fits.1.1, long)))) (take spans.headers fields) within.section.headers_fit;
      told = at.fields;
    }

-- a text that may become a head never shows a bad one, nor does its front
may_not_be_bad : (front start : List ℕ) (next : ℕ) (more : List ℕ) → MayBecomeResponse front → front ≡ start ++ next ∷ more → NeverHasResponse start → ⊥
may_not_be_bad front start next more (further, h, reads) e never =
    never (next ∷ more ++ further) h [] (subst (λ (t : List ℕ). ReadsResponse t h []) (ap (λ (t : List ℕ). t ++ further) e ∙ append_assoc start (next ∷ more) further) reads)

-- no head yet, and no more fields than a head may have
pub head_awaited : (text : List ℕ) → IsUnfinished text → line_ends (skip_newlines text) ≤ most_fields + 1 → IsAwaited text
head_awaited text so_far few = record { none = λ head rest reads. so_far.none head rest reads.reads; clean = clean }
  where
    clean : (fault : ReadFault) → HeadShows text fault → ⊥
    clean BadHead never = never so_far.more.0 so_far.more.1 [] so_far.more.2
    clean HeadTooLong (inl past) = omega (arith, past.0, so_far.short)
    clean HeadTooLong (inr exceeds) = omega (arith, response_exceeds_lines most_fields text exceeds, few)
    clean Memory shown = shown
    clean BadLength shown = shown
    clean BadChunk shown = shown
    clean TooManyInterims shown = shown
    clean TrailerTooLong shown = shown

-- where a head may still come, a shorter front shows at most that it is too long
only_too_long : (front : List ℕ) → MayBecomeResponse front → (start : List ℕ) (next : ℕ) (more : List ℕ) (other : ReadFault)
    → front ≡ start ++ next ∷ more → HeadShows start other → (other ≡ HeadTooLong) ⊎ ResponseExceeds most_fields start
only_too_long front may start next more BadHead e never = absurd (may_not_be_bad front start next more may e never)
only_too_long front may start next more HeadTooLong e shown = inl refl
only_too_long front may start next more Memory e shown = absurd shown
only_too_long front may start next more BadLength e shown = absurd shown
only_too_long front may start next more BadChunk e shown = absurd shown
only_too_long front may start next more TooManyInterims e shown = absurd shown
only_too_long front may start next more TrailerTooLong e shown = absurd shown

-- no head in all the bytes that one may have
pub past_limit : (text : List ℕ) → HasNoResponse (take most_head_bytes text) → MayBecomeResponse (take most_head_bytes text)
    → length (take most_head_bytes text) ≡ most_head_bytes → IsFirst HeadShows (ResponseExceeds most_fields) text HeadTooLong
past_limit text none may full = record {
  front = take most_head_bytes text;
  later = drop most_head_bytes text;
  is = cut_front text;
  shown = inl (omega (arith, full), subst HasNoResponse (sym (take_all most_head_bytes (take most_head_bytes text) (omega (arith, full)))) none);
  first = only_too_long (take most_head_bytes text) may;
}

-- one field more than a head may have, and no other fault before it
pub too_many_fields : (text : List ℕ) → ResponseExceeds most_fields (take most_head_bytes text) → IsFirst HeadShows (ResponseExceeds most_fields) text HeadTooLong
too_many_fields text (front, rest, is, h, reads, many) = record {
  front = front;
  later = rest ++ drop most_head_bytes text;
  is = cut_front text ∙ ap (λ (t : List ℕ). t ++ drop most_head_bytes text) is ∙ append_assoc front rest (drop most_head_bytes text);
  shown = inr (front, [], sym (append-nil front), h, reads, many);
  first = only_too_long front (10 ∷ [], h, reads);
}

-- the same where the lines tell it
pub too_many_lines : (text : List ℕ) → IsUnfinished text → most_fields + 1 < line_ends (skip_newlines text)
    → IsFirst HeadShows (ResponseExceeds most_fields) text HeadTooLong
too_many_lines text so_far over =
    too_many_fields text (subst (ResponseExceeds most_fields) (sym (take_all most_head_bytes text (omega (arith, so_far.short))))
    (response_exceeds_cut most_fields text so_far.none so_far.more over))

-- bytes that never become a head
pub bad_head : (text : List ℕ) → NeverHasResponse (take most_head_bytes text) → IsFirst HeadShows (ResponseExceeds most_fields) text BadHead
bad_head text never = record {
  front = take most_head_bytes text;
  later = drop most_head_bytes text;
  is = cut_front text;
  shown = never;
  first = first;
}
  where
    first : (start : List ℕ) (next : ℕ) (more : List ℕ) (other : ReadFault) → take most_head_bytes text ≡ start ++ next ∷ more
        → HeadShows start other → (other ≡ BadHead) ⊎ ResponseExceeds most_fields start
    first start next more BadHead e shown = inl refl
    first start next more HeadTooLong e (inl past) =
        absurd (omega (arith, past.0, ap length e, length-append start (next ∷ more), length-take most_head_bytes text))
    first start next more HeadTooLong e (inr exceeds) = inr exceeds
    first start next more Memory e shown = absurd shown
    first start next more BadLength e shown = absurd shown
    first start next more BadChunk e shown = absurd shown
    first start next more TooManyInterims e shown = absurd shown
    first start next more TrailerTooLong e shown = absurd shown

-- ---- one head after another

pub at_complete : {A : Type 0} (P : A → Type 0) (s : Status A) (a : A) → s ≡ Complete a → IfComplete {E = Error} (Ok s) P → P a
at_complete {A} P s a e h = subst (λ (s : Status A). IfComplete {E = Error} (Ok s) P) e h

pub at_partial : {A : Type 0} (P : Type 0) (s : Status A) → s ≡ Partial → OnPartial {E = Error} (Ok s) P → P
at_partial {A} P s e h = subst (λ (s : Status A). OnPartial {E = Error} (Ok s) P) e h

pub too_many_is : (error : Error) → is_too_many error ≡ true → error ≡ TooManyHeaders
too_many_is TooManyHeaders e = refl
too_many_is HeaderName e = absurd (cc)
too_many_is HeaderValue e = absurd (cc)
too_many_is NewLine e = absurd (cc)
too_many_is BadStatus e = absurd (cc)
too_many_is Token e = absurd (cc)
too_many_is BadVersion e = absurd (cc)

pub not_too_many : (error : Error) → is_too_many error ≡ false → error ≡ TooManyHeaders → ⊥
not_too_many error e f = let h : is_too_many error ≡ true = ap is_too_many f in cc
