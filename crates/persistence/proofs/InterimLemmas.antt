-- Heads that come in pieces, one after another.
use Rattle.std.proofs.Common.{◌≡◌, ℕ, ◌+◌, ◌<◌, true, false, List, [], ◌∷◌, ◌++◌, length, take, drop, None, refl, sym, ap, subst, ◌∙◌, arith, append_assoc, length-append}
use Rattle.std.specs.Char.{is_ascii_digit}
use Rattle.std.proofs.lemmas.List.{append-nil}
use Rattle.std.proofs.lemmas.List.Elements.{All-nil, All-cons}
use Rattle.httparse.specs.Grammar.{ResponseHead, IsField, lf, is_value_byte, print_response, HasNoResponse, MayBecomeResponse}
use Rattle.httparse.specs.Spans.{ResponseExceeds}
use Rattle.persistence.specs.declared.answer.ReadFault.{ReadFault}
use Rattle.persistence.specs.declared.answer.ReadFault.TheVariants.{TooManyInterims}
use Rattle.persistence.specs.declared.method.Method.{Method}
use Rattle.persistence.specs.declared.head.Head.{Head}
use Rattle.persistence.specs.Sequence.{ReadsEach}
use Rattle.persistence.specs.Limits.{most_fields, most_interims}
use Rattle.persistence.specs.Heads.{is_interim_status, ReadsInterim}
use Rattle.persistence.specs.Faults.{HeadShows, ShowsFault, HasLongSection, IsFirst, IsFirstFault}
use Rattle.persistence.specs.ReadingHeads.{IsAwaited, KeepsHead, EndsHead, AwaitsHeads, EndsHeadsIn, NeverHasFinalHead}
use Rattle.persistence.proofs.SequenceLemmas.{each-append, each-more}
use Rattle.persistence.proofs.HeadLines.{print_response-some}
use Rattle.persistence.proofs.HeadLemmas.{interim_printed, no_final, head_shows_nothing, HeadShows-append, first_in_head, first_many}
use Rattle.persistence.proofs.NextHead.{head_awaited}
use Rattle.persistence.proofs.StepLemmas.{taken_and_rest, first_taken}
use Rattle.persistence.proofs.ResponseLemmas.{few_interims}

-- ---- no bytes

-- a short head
abbrev short_head : ResponseHead
short_head = record { blank = []; minor = 1; digits = 50 ∷ 48 ∷ 48 ∷ []; reason = None; line_end = lf; fields = []; last = lf }

nothing_may : MayBecomeResponse []
nothing_may = (
  print_response short_head,
  short_head,
  (
    record {
      minor = omega arith;
      digits = (refl, All-cons (λ v. is_ascii_digit v ≡ true) 50 (48 ∷ 48 ∷ []) refl (All-cons (λ v. is_ascii_digit v ≡ true) 48 (48 ∷ []) refl (All-cons (λ v. is_ascii_digit v ≡ true) 48 [] refl (All-nil (λ v. is_ascii_digit v ≡ true)))));
      reason = All-nil (λ v. is_value_byte v ≡ true);
      fields = All-nil IsField;
    },
    sym (append-nil (print_response short_head)),
  ),
)

nothing_yet : HasNoResponse []
nothing_yet h rest reads = omega (arith, ap length reads.1, length-append (print_response h) rest, print_response-some h)

pub nothing_awaited : IsAwaited []
nothing_awaited = head_awaited [] (record { none = nothing_yet; more = nothing_may; short = omega arith }) (omega arith)

-- ---- a piece more

module _ (bytes : List ℕ) (count : ℕ) (kept : List ℕ) (at : AwaitsHeads bytes count kept) where
  -- the heads before, as they stand with more bytes
  before : (more : List ℕ) → ReadsEach ReadsInterim at.interims (bytes ++ more) (kept ++ more)
  before more = each-append interim_printed at.interims bytes kept more at.each

  pub heads_kept : (more after : List ℕ) → KeepsHead (kept ++ more) after → AwaitsHeads (bytes ++ more) count after
  heads_kept more after keeps = record {
    interims = at.interims;
    many = at.many;
    few = at.few;
    each = subst (ReadsEach ReadsInterim at.interims (bytes ++ more)) (sym keeps.is) (before more);
    awaited = subst IsAwaited (sym keeps.is) keeps.awaited;
    short = omega (arith, ap length keeps.is, keeps.short);
  }

  pub heads_final : (more after : List ℕ) (told : Head) → EndsHead (kept ++ more) after told → is_interim_status told.status ≡ false → EndsHeadsIn (bytes ++ more) after told
  heads_final more after told ends final = record {
    is = ends.is;
    interims = at.interims;
    head = ends.head;
    heads = record {
      middle = kept ++ more;
      before = record { few = (let many = at.many in let few = at.few in omega (arith, many, few)); each = before more };
      reads = record { reads = ends.reads; final = ap is_interim_status (sym ends.says.status) ∙ final };
    };
    says = ends.says;
  }

  -- one interim head more
  one_more : (more after : List ℕ) (told : Head) (ends : EndsHead (kept ++ more) after told) → is_interim_status told.status ≡ true
      → ReadsEach ReadsInterim (at.interims ++ ends.head ∷ []) (bytes ++ more) []
  one_more more after told ends interim =
      each-more interim_printed at.interims ends.head (bytes ++ more) (kept ++ more) [] (before more)
      (record { reads = ends.reads; interim = ap is_interim_status (sym ends.says.status) ∙ interim })

  pub heads_interim : (more after : List ℕ) (told : Head) → EndsHead (kept ++ more) after told → is_interim_status told.status ≡ true → count < most_interims
      → AwaitsHeads (bytes ++ more) (count + 1) after
  heads_interim more after told ends interim room =
      subst (AwaitsHeads (bytes ++ more) (count + 1)) (sym ends.is)
      (record {
        interims = at.interims ++ ends.head ∷ [];
        many = (let many = at.many in omega (arith, length-append at.interims (ends.head ∷ []), many));
        few = omega (arith, room);
        each = one_more more after told ends interim;
        awaited = nothing_awaited;
        short = omega arith;
      })

  pub heads_many : (piece : List ℕ) (used : ℕ) (after : List ℕ) (told : Head) → EndsHead (kept ++ take used piece) after told → is_interim_status told.status ≡ true
      → count ≡ most_interims → (method : Method) → IsFirstFault method (bytes ++ piece) TooManyInterims
  heads_many piece used after told ends interim full method =
      first_taken (ShowsFault method) (HasLongSection method) bytes piece (bytes ++ take used piece) used TooManyInterims refl
      (first_many (at.interims ++ ends.head ∷ []) (bytes ++ take used piece) [] (one_more (take used piece) after told ends interim)
      (let many = at.many in omega (arith, length-append at.interims (ends.head ∷ []), many, full)) method)

  pub heads_fault : (piece : List ℕ) (fault : ReadFault) → IsFirst HeadShows (ResponseExceeds most_fields) (kept ++ piece) fault
      → (method : Method) → IsFirstFault method (bytes ++ piece) fault
  heads_fault piece fault found method =
      first_in_head at.interims (bytes ++ piece) (kept ++ piece) (before piece) (let many = at.many in let few = at.few in omega (arith, many, few)) fault found method

  -- ---- no final head any more

  -- where the text in which a head is due shows a fault
  pub heads_never : (piece : List ℕ) (fault : ReadFault) → IsFirst HeadShows (ResponseExceeds most_fields) (kept ++ piece) fault → NeverHasFinalHead (bytes ++ piece)
  heads_never piece fault found more =
      no_final at.interims ((bytes ++ piece) ++ more) ((kept ++ piece) ++ more) (each-append interim_printed at.interims (bytes ++ piece) (kept ++ piece) more (before piece))
      (λ h rest reads. head_shows_nothing h ((kept ++ piece) ++ more) rest fault reads
      (subst (λ (t : List ℕ). HeadShows (t ++ more) fault) (sym found.is) (HeadShows-append (found.front ++ found.later) more fault (HeadShows-append found.front found.later fault found.shown))))

  -- and where one interim head more came than may
  pub never_after_many : (piece : List ℕ) (used : ℕ) (after : List ℕ) (told : Head) → EndsHead (kept ++ take used piece) after told → is_interim_status told.status ≡ true
      → count ≡ most_interims → NeverHasFinalHead (bytes ++ piece)
  never_after_many piece used after told ends interim full more head text has =
      let each = one_more (take used piece) after told ends interim in
      let rest = drop used piece ++ more in
      let is : (bytes ++ take used piece) ++ rest ≡ (bytes ++ piece) ++ more =
      sym (append_assoc (bytes ++ take used piece) (drop used piece) more)
      ∙ ap (λ (t : List ℕ). t ++ more) (taken_and_rest bytes piece (bytes ++ take used piece) used refl) in
      let few = few_interims ((bytes ++ piece) ++ more) head text has (at.interims ++ ends.head ∷ []) rest
      (subst (λ (t : List ℕ). ReadsEach ReadsInterim (at.interims ++ ends.head ∷ []) t rest) is
      (each-append interim_printed (at.interims ++ ends.head ∷ []) (bytes ++ take used piece) [] rest each)) in
      let many = at.many in
      omega (arith, length-append at.interims (ends.head ∷ []), many, full, few)
