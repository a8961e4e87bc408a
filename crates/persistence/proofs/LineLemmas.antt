-- How many lines end in a head or a trailer section: one for each field, one for the empty line, and in a
-- head one for the status line.
use Rattle.std.proofs.Common.{◌≡◌, ◌≢◌, ℕ, ◌+◌, ◌<◌, ◌≤◌, ◌⊎◌, Bool, true, false, ◌==◌, cond, List, [], ◌∷◌, ◌++◌, length, take, drop, All, refl, sym, ap, subst, ◌∙◌, inl, inr, arith, append_assoc, add-one}
use Rattle.std.specs.List.{flat_map}
use Rattle.std.proofs.lemmas.Grind.{flat_map-append}
use Rattle.std.proofs.lemmas.Bool.Decides.{nat_tests}
use Rattle.std.proofs.lemmas.List.{append-nil, take-append-drop, length-take-le}
use Rattle.std.proofs.lemmas.List.Sums.{sum_by-append}
use Rattle.std.proofs.lemmas.List.Elements.{All-head, All-tail, All-take}
use Rattle.httparse.specs.Grammar.{is_token_byte, is_value_byte, AllPass, LineEnd, crlf, lf, print_end, Field, print_field, IsField, print_section, ReadsSection, HasNoSection, MayBecomeSection}
use Rattle.httparse.specs.Spans.{SectionExceeds}
use Rattle.httparse.proofs.GrammarLemmas.{section_unique}
use Rattle.persistence.specs.ReadingHeads.{line_ends}

-- ---- lists

-- two ways to cut a list: one cut comes first
pub cut_twice : (a b c d : List ℕ) → a ++ b ≡ c ++ d
    → ((x : List ℕ) × (c ≡ a ++ x) × (b ≡ x ++ d)) ⊎ ((x : ℕ) × (y : List ℕ) × (a ≡ c ++ x ∷ y) × (d ≡ (x ∷ y) ++ b))
cut_twice [] b c d e = inl (c, refl, e)
cut_twice (x ∷ a) b [] d e = inr (x, a, refl, sym e)
cut_twice (x ∷ a) b (y ∷ c) d e =
    let head : x ≡ y = cc in
    let tail : a ++ b ≡ c ++ d = cc in
    elim (cut_twice a b c d tail) [
      | inl (z, p, q) ↦ inl (z, cc, q)
      | inr (z, w, p, q) ↦ inr (z, w, cc, q)
    ]

-- ---- line ends

pub line_ends-append : (a b : List ℕ) → line_ends (a ++ b) ≡ line_ends a + line_ends b
line_ends-append a b = sum_by-append (λ b. cond (b == 10) 1 0) a b

-- the lines that end up to a place and after it are all
pub line_ends-cut : (n : ℕ) (text : List ℕ) → line_ends (take n text) + line_ends (drop n text) ≡ line_ends text
line_ends-cut n text = sym (line_ends-append (take n text) (drop n text)) ∙ ap line_ends (take-append-drop n text)

-- the text's last byte is LF
pub record EndsInLf (text : List ℕ) : Type 0 where
  pub front : List ℕ
  pub is : text ≡ front ++ 10 ∷ []

-- what is left of such a text ends a line
pub line_ends-EndsInLf : (a : List ℕ) (x : ℕ) (b : List ℕ) → EndsInLf (a ++ x ∷ b) → 1 ≤ line_ends (x ∷ b)
line_ends-EndsInLf a x b ends = elim (cut_twice a (x ∷ b) ends.front (10 ∷ []) ends.is) [
  | inl (z, p, q) ↦ omega (arith, ap line_ends q, line_ends-append z (10 ∷ []))
  | inr (z, w, p, q) ↦ absurd (too_short z w q)
]
  where
    too_short : (z : ℕ) (w : List ℕ) → 10 ∷ [] ≡ (z ∷ w) ++ x ∷ b → ⊥
    too_short z [] e = cc
    too_short z (v ∷ w) e = cc

pub EndsInLf-append : (a b : List ℕ) → EndsInLf b → EndsInLf (a ++ b)
EndsInLf-append a b ends = record { front = a ++ ends.front; is = ap (λ (t : List ℕ). a ++ t) ends.is ∙ sym (append_assoc a ends.front (10 ∷ [])) }

-- bytes of a class without LF end no line
pub none_in : (test : ℕ → Bool) → test 10 ≡ false → (bytes : List ℕ) → AllPass test bytes → line_ends bytes ≡ 0
none_in test fails [] pass = refl
none_in test fails (b ∷ bytes) pass =
    let passes = All-head (λ v. test v ≡ true) b bytes pass in
    let other : b ≢ 10 = λ e. (let clash : test b ≡ false = ap test e ∙ fails in cc) in
    let rest = none_in test fails bytes (All-tail (λ v. test v ≡ true) b bytes pass) in
    grind (arith, nat_tests, other, rest)

pub line_ends-print_end : (e : LineEnd) → line_ends (print_end e) ≡ 1
line_ends-print_end crlf = refl
line_ends-print_end lf = refl

pub line_ends-print_field : (f : Field) → IsField f → line_ends (print_field f) ≡ 1
unfolding is_token_byte
line_ends-print_field f valid =
    let name = none_in is_token_byte refl f.name valid.name.1 in
    let raw = none_in is_value_byte refl f.raw valid.raw in
    omega (arith, line_ends-append (f.name ++ 58 ∷ f.raw) (print_end f.end), line_ends-append f.name (58 ∷ f.raw), line_ends-print_end f.end, name, raw)

pub line_ends-fields : (fs : List Field) → All IsField fs → line_ends (flat_map print_field fs) ≡ length fs
line_ends-fields [] valid = refl
line_ends-fields (f ∷ fs) valid =
    omega (arith, line_ends-append (print_field f) (flat_map print_field fs), line_ends-print_field f (All-head IsField f fs valid), line_ends-fields fs (All-tail IsField f fs valid))

pub line_ends-section : (fs : List Field) (last : LineEnd) → All IsField fs → line_ends (print_section fs last) ≡ length fs + 1
line_ends-section fs last valid =
    omega (arith, line_ends-append (flat_map print_field fs) (print_end last), line_ends-fields fs valid, line_ends-print_end last)

EndsInLf-print_end : (e : LineEnd) → EndsInLf (print_end e)
EndsInLf-print_end crlf = record { front = 13 ∷ []; is = refl }
EndsInLf-print_end lf = record { front = []; is = refl }

pub EndsInLf-section : (fs : List Field) (last : LineEnd) → EndsInLf (print_section fs last)
EndsInLf-section fs last = EndsInLf-append (flat_map print_field fs) (print_end last) (EndsInLf-print_end last)

-- a text with one field line or more ends a line
EndsInLf-fields : (f : Field) (fs : List Field) → EndsInLf (flat_map print_field (f ∷ fs))
EndsInLf-fields f [] = subst EndsInLf (sym (append-nil (print_field f))) (EndsInLf-append (f.name ++ 58 ∷ f.raw) (print_end f.end) (EndsInLf-print_end f.end))
EndsInLf-fields f (g ∷ fs) = EndsInLf-append (print_field f) (flat_map print_field (g ∷ fs)) (EndsInLf-fields g fs)

-- ---- sections after some bytes

-- what the rest of the text still ends
pub last_line : (text : List ℕ) (x : ℕ) (y all : List ℕ) → EndsInLf all → text ++ x ∷ y ≡ all → 1 ≤ line_ends (x ∷ y)
last_line text x y all ends e = line_ends-EndsInLf text x y (subst EndsInLf (sym e) ends)

-- a text that is cut off in such a section has fewer lines
pub lines_cut : (pre : List ℕ) (fs : List Field) (last : LineEnd) → All IsField fs → (text : List ℕ) (x : ℕ) (y : List ℕ)
    → text ++ x ∷ y ≡ pre ++ print_section fs last → line_ends text ≤ line_ends pre + length fs
lines_cut pre fs last valid text x y e =
    let whole = last_line text x y (pre ++ print_section fs last) (EndsInLf-append pre (print_section fs last) (EndsInLf-section fs last)) e in
    omega (arith, whole, ap line_ends e, line_ends-append text (x ∷ y), line_ends-append pre (print_section fs last), line_ends-section fs last valid)

-- a text that is cut off after so many lines has the fields that these are
pub fields_before : (n : ℕ) (pre : List ℕ) (fs : List Field) (last : LineEnd) → All IsField fs → (text : List ℕ) (x : ℕ) (y : List ℕ)
    → text ++ x ∷ y ≡ pre ++ print_section fs last → line_ends pre + n < line_ends text
    → (rest : List ℕ) × (text ≡ (pre ++ flat_map print_field (take (n + 1) fs)) ++ rest)
fields_before n pre fs last valid text x y e more =
    let many : n < length fs = omega (arith, lines_cut pre fs last valid text x y e, more) in
    let front = pre ++ flat_map print_field (take (n + 1) fs) in
    let tail = flat_map print_field (drop (n + 1) fs) ++ print_end last in
    let joined : pre ++ print_section fs last ≡ front ++ tail =
    ap (λ (f : List Field). pre ++ (flat_map print_field f ++ print_end last)) (sym (take-append-drop (n + 1) fs))
    ∙ ap (λ (t : List ℕ). pre ++ (t ++ print_end last)) (flat_map-append print_field (take (n + 1) fs) (drop (n + 1) fs))
    ∙ regroup pre (flat_map print_field (take (n + 1) fs)) (flat_map print_field (drop (n + 1) fs)) (print_end last) in
    elim (cut_twice text (x ∷ y) front tail (e ∙ joined)) [
      | inl (z, p, q) ↦ ended z p many
      | inr (z, w, p, q) ↦ (z ∷ w, p)
    ]
  where
    regroup : (a b c d : List ℕ) → a ++ ((b ++ c) ++ d) ≡ (a ++ b) ++ (c ++ d)
    regroup a b c d = simp append_assoc

    counted : n < length fs → line_ends (pre ++ flat_map print_field (take (n + 1) fs)) ≡ line_ends pre + (n + 1)
    counted many =
        omega (arith, line_ends-append pre (flat_map print_field (take (n + 1) fs)), line_ends-fields (take (n + 1) fs) (All-take IsField (n + 1) fs valid), length-take-le (n + 1) fs (omega arith))

    ended : (z : List ℕ) → pre ++ flat_map print_field (take (n + 1) fs) ≡ text ++ z → n < length fs
        → (rest : List ℕ) × (text ≡ (pre ++ flat_map print_field (take (n + 1) fs)) ++ rest)
    ended [] p many = ([], sym (append-nil text) ∙ sym p ∙ sym (append-nil (pre ++ flat_map print_field (take (n + 1) fs))))
    ended (z ∷ w) p many =
        let line = last_line text z w _ (ends_some fs many) (sym p) in
        absurd (omega (arith, line, ap line_ends p, line_ends-append text (z ∷ w), counted many, more))
      where
        ends_some : (gs : List Field) → n < length gs → EndsInLf (pre ++ flat_map print_field (take (n + 1) gs))
        ends_some [] many = absurd (omega arith)
        ends_some (g ∷ gs) many = EndsInLf-append pre _ (rw add-one (EndsInLf-fields g (take n gs)))

-- ---- sections

-- a section with so many fields, and a line end in place of what follows
pub section_exceeds_lines : (n : ℕ) (text : List ℕ) → SectionExceeds n text → n < line_ends text
section_exceeds_lines n text (front, rest, is, fields, (valid, reads), many) =
    omega (arith, ap line_ends is, line_ends-append front rest, ap line_ends (reads ∙ append-nil _), line_ends-append front (10 ∷ []), line_ends-section fields lf valid, many)

-- no section of at most n fields begins a text in which one field more is complete
pub section_exceeds_none : (n : ℕ) (text more : List ℕ) → SectionExceeds n text → (fs : List Field) (last : LineEnd) (rest : List ℕ)
    → ReadsSection (text ++ more) fs last rest → n < length fs
section_exceeds_none n text more (front, after, is, fields, (valid, reads), many) fs last rest (fine, printed) =
    elim (cut_twice (print_section fs last) rest front (after ++ more) (sym printed ∙ ap (λ (t : List ℕ). t ++ more) is ∙ append_assoc front after more)) [
      | inl (z, p, q) ↦ whole z p
      | inr (z, w, p, q) ↦ part z w p
    ]
  where
    -- the section lies in the front
    whole : (z : List ℕ) → front ≡ print_section fs last ++ z → n < length fs
    whole z p =
        let same = section_unique (front ++ 10 ∷ []) fs fields last lf (z ++ 10 ∷ []) []
        (fine, ap (λ (t : List ℕ). t ++ 10 ∷ []) p ∙ append_assoc (print_section fs last) z (10 ∷ [])) (valid, reads) in
        absurd (nil_from z (same.2))
      where
        nil_from : (z : List ℕ) → z ++ 10 ∷ [] ≡ [] → ⊥
        nil_from [] e = cc
        nil_from (a ∷ z) e = cc

    -- the section goes on after the front
    part : (z : ℕ) (w : List ℕ) → print_section fs last ≡ front ++ z ∷ w → n < length fs
    part z w p =
        let line = last_line front z w _ (EndsInLf-section fs last) (sym p) in
        omega (arith, line, ap line_ends p, line_ends-append front (z ∷ w), line_ends-section fs last fine, ap line_ends (reads ∙ append-nil _), line_ends-append front (10 ∷ []), line_ends-section fields lf valid, many)

-- where a section may still come, and more than n lines have ended, one field more than n is complete
pub section_exceeds_cut : (n : ℕ) (text : List ℕ) → HasNoSection text → MayBecomeSection text → n < line_ends text → SectionExceeds n text
section_exceeds_cut n text none (more, fs, last, (valid, reads)) over = go more (reads ∙ append-nil _)
  where
    go : (more : List ℕ) → text ++ more ≡ print_section fs last → SectionExceeds n text
    go [] e = absurd (none fs last [] (valid, sym (append-nil text) ∙ e ∙ sym (append-nil _)))
    go (x ∷ y) e =
        let found = fields_before n [] fs last valid text x y e (omega arith) in
        let many : n < length fs = omega (arith, lines_cut [] fs last valid text x y e, over) in (
          flat_map print_field (take (n + 1) fs),
          found.0,
          found.1,
          take (n + 1) fs,
          (All-take IsField (n + 1) fs valid, sym (append-nil _)),
          omega (arith, length-take-le (n + 1) fs (omega arith)),
        )
