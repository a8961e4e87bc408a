-- How many lines end in a head: one for the status line, one for each field, one for the empty line.
use Rattle.std.proofs.Common.{◌≡◌, ℕ, ◌+◌, ◌<◌, ◌≤◌, ◌⊎◌, Bool, true, false, cond, List, [], ◌∷◌, ◌++◌, length, take, Option, None, Some, refl, sym, ap, ◌∙◌, inl, inr, arith, append_assoc, length-append}
use Rattle.std.specs.List.{flat_map}
use Rattle.std.specs.Char.{is_ascii_digit}
use Rattle.std.proofs.lemmas.Bool.Decides.{nat_tests}
use Rattle.std.proofs.lemmas.List.{append-nil, length-take-le, take_at}
use Rattle.std.proofs.lemmas.List.Elements.{All-take}
use Rattle.httparse.specs.Grammar.{is_value_byte, AllPass, LineEnd, crlf, lf, print_end, print_blank, print_version, print_field, IsField, print_section, ResponseHead, print_reason, reason_phrase, print_response, IsResponseHead, ReadsResponse, HasNoResponse, MayBecomeResponse}
use Rattle.httparse.specs.Pieces.{is_newline}
use Rattle.httparse.specs.Spans.{ResponseExceeds}
use Rattle.httparse.proofs.GrammarLemmas.{cons-append, response_unique}
use Rattle.persistence.specs.ReadingHeads.{skip_newlines, line_ends}
use Rattle.persistence.proofs.LineLemmas.{cut_twice, line_ends-append, none_in, line_ends-print_end, line_ends-section, EndsInLf-section, EndsInLf-append, last_line, lines_cut, fields_before}

-- the status line without the blank lines before it
abbrev pub start_line : ResponseHead → List ℕ
start_line h = print_version h.minor ++ (32 ∷ h.digits ++ (print_reason h.reason ++ print_end h.line_end))

-- and then the fields
abbrev pub head_lines : ResponseHead → List ℕ
head_lines h = start_line h ++ print_section h.fields h.last

pub response_parts : (h : ResponseHead) → print_response h ≡ print_blank h.blank ++ head_lines h
unfolding print_response
response_parts h = regroup (print_blank h.blank) (print_version h.minor) h.digits (print_reason h.reason) (print_end h.line_end) (print_section h.fields h.last)
  where
    regroup : (a b c d e f : List ℕ) → a ++ b ++ 32 ∷ c ++ d ++ e ++ f ≡ a ++ ((b ++ (32 ∷ c ++ (d ++ e))) ++ f)
    regroup a b c d e f = simp (append_assoc, cons-append)

pub print_response-some : (h : ResponseHead) → 1 ≤ length (print_response h)
print_response-some h = omega (arith, ap length (response_parts h), length-append (print_blank h.blank) (head_lines h))

line_ends-reason : (reason : Option (List ℕ)) → AllPass is_value_byte (reason_phrase reason) → line_ends (print_reason reason) ≡ 0
line_ends-reason None valid = refl
line_ends-reason (Some phrase) valid = let rest = none_in is_value_byte refl phrase valid in omega (arith, rest)

line_ends-version : (minor : ℕ) → minor ≤ 1 → line_ends (print_version minor) ≡ 0
line_ends-version minor small = grind (arith, nat_tests)

line_ends-start_line : (h : ResponseHead) → IsResponseHead h → line_ends (start_line h) ≡ 1
line_ends-start_line h valid =
    let digits = none_in is_ascii_digit refl h.digits valid.digits.1 in
    omega (
      arith,
      line_ends-append (print_version h.minor) (32 ∷ h.digits ++ (print_reason h.reason ++ print_end h.line_end)),
      line_ends-append (32 ∷ h.digits) (print_reason h.reason ++ print_end h.line_end),
      line_ends-append (print_reason h.reason) (print_end h.line_end),
      line_ends-print_end h.line_end,
      line_ends-reason h.reason valid.reason,
      line_ends-version h.minor valid.minor,
      digits,
    )

line_ends-head_lines : (h : ResponseHead) → IsResponseHead h → line_ends (head_lines h) ≡ length h.fields + 2
line_ends-head_lines h valid =
    omega (arith, line_ends-append (start_line h) (print_section h.fields h.last), line_ends-start_line h valid, line_ends-section h.fields h.last valid.fields)

-- ---- blank lines

-- what is left after the blank lines ends the text
skip_newlines_ends : (text : List ℕ) → (front : List ℕ) × (text ≡ front ++ skip_newlines text)
skip_newlines_ends [] = ([], refl)
skip_newlines_ends (b ∷ text) = by_cases (is_newline b) (skip_newlines_ends text)
  where
    by_cases : (c : Bool) → (front : List ℕ) × (text ≡ front ++ skip_newlines text)
        → (front : List ℕ) × (b ∷ text ≡ front ++ cond c (skip_newlines text) (b ∷ text))
    by_cases true (front, is) = (b ∷ front, ap (λ (t : List ℕ). b ∷ t) is)
    by_cases false found = ([], refl)

pub skip_newlines_within : (text : List ℕ) → length (skip_newlines text) ≤ length text
skip_newlines_within text =
    let found = skip_newlines_ends text in
    omega (arith, ap length found.1, length-append found.0 (skip_newlines text))

-- the lines that end before it and after it are all
pub line_ends-blank : (text : List ℕ) (blank : ℕ) → blank + length (skip_newlines text) ≡ length text
    → line_ends (take blank text) + line_ends (skip_newlines text) ≡ line_ends text
line_ends-blank text blank sized =
    let found = skip_newlines_ends text in
    let len : length found.0 ≡ blank = omega (arith, ap length found.1, length-append found.0 (skip_newlines text), sized) in
    let front : take blank text ≡ found.0 = ap (take blank) found.1 ∙ take_at found.0 (skip_newlines text) blank len in
    omega (arith, ap line_ends front, ap line_ends found.1, line_ends-append found.0 (skip_newlines text))

skip_blank : (es : List LineEnd) (x : List ℕ) → skip_newlines (print_blank es ++ 72 ∷ x) ≡ 72 ∷ x
skip_blank [] x = refl
skip_blank (crlf ∷ es) x = skip_blank es x
skip_blank (lf ∷ es) x = skip_blank es x

skip_some_blank : (es : List LineEnd) (t w : List ℕ) → print_blank es ≡ t ++ w → skip_newlines t ≡ []
skip_some_blank es [] w e = refl
skip_some_blank [] (b ∷ t) w e = absurd (cc)
skip_some_blank (lf ∷ es) (b ∷ t) w e =
    let first : b ≡ 10 = cc in
    let rest : print_blank es ≡ t ++ w = cc in
    rw first (skip_some_blank es t w rest)
skip_some_blank (crlf ∷ es) (b ∷ []) w e = let first : b ≡ 13 = cc in rw first refl
skip_some_blank (crlf ∷ es) (b ∷ c ∷ t) w e =
    let first : b ≡ 13 = cc in
    let second : c ≡ 10 = cc in
    let rest : print_blank es ≡ t ++ w = cc in
    rw (first, second) (skip_some_blank es t w rest)

-- a text that begins as such a head does ends in its blank lines, or goes on with its status line
strip : (t more : List ℕ) (es : List LineEnd) (x : List ℕ) → t ++ more ≡ print_blank es ++ 72 ∷ x
    → ((w : List ℕ) × (print_blank es ≡ t ++ w) × (more ≡ w ++ 72 ∷ x)) ⊎ ((z : List ℕ) × (t ≡ print_blank es ++ 72 ∷ z) × (x ≡ z ++ more))
strip t more es x e = elim (cut_twice t more (print_blank es) (72 ∷ x) e) [
  | inl (w, p, q) ↦ inl (w, p, q)
  | inr (z, w, p, q) ↦ inr (let first : 72 ≡ z = cc in (w, rw first p, cc))
]

-- a front of a head that lacks the last line end alone
front_lines : (h : ResponseHead) → IsResponseHead h → (front : List ℕ) → front ++ 10 ∷ [] ≡ print_response h
    → (z : List ℕ) × (front ≡ print_blank h.blank ++ 72 ∷ z) × (line_ends (72 ∷ z) ≡ length h.fields + 1)
front_lines h valid front e = elim (strip front (10 ∷ []) h.blank _ (e ∙ response_parts h)) [
  | inl (w, p, q) ↦ absurd (no_start w _ q)
  | inr (z, p, q) ↦
      (z, p, omega (arith, line_ends-append (72 ∷ z) (10 ∷ []), ap (λ (t : List ℕ). line_ends (72 ∷ t)) q, line_ends-head_lines h valid))
]
  where
    no_start : (w x : List ℕ) → 10 ∷ [] ≡ w ++ 72 ∷ x → ⊥
    no_start [] x e = cc
    no_start (a ∷ []) x e = cc
    no_start (a ∷ b ∷ w) x e = cc

-- ---- too many fields

-- a head with so many fields, and a line end in place of what follows
pub response_exceeds_lines : (n : ℕ) (text : List ℕ) → ResponseExceeds n text → n + 1 < line_ends (skip_newlines text)
response_exceeds_lines n text (front, rest, is, h, (valid, reads), many) =
    let found = front_lines h valid front (reads ∙ append-nil _) in
    let skipped : skip_newlines text ≡ 72 ∷ (found.0 ++ rest) =
    ap skip_newlines (is ∙ ap (λ (t : List ℕ). t ++ rest) found.1 ∙ append_assoc (print_blank h.blank) (72 ∷ found.0) rest) ∙ skip_blank h.blank (found.0 ++ rest) in
    omega (arith, ap line_ends skipped, line_ends-append (72 ∷ found.0) rest, found.2, many)

-- no head of at most n fields begins a text in which one field more is complete
pub response_exceeds_none : (n : ℕ) (text more : List ℕ) → ResponseExceeds n text → (c : ResponseHead) (rest : List ℕ)
    → ReadsResponse (text ++ more) c rest → n < length c.fields
response_exceeds_none n text more (front, after, is, h, (valid, reads), many) c rest (fine, printed) =
    elim (cut_twice (print_response c) rest front (after ++ more) (sym printed ∙ ap (λ (t : List ℕ). t ++ more) is ∙ append_assoc front after more)) [
      | inl (z, p, q) ↦ whole z p
      | inr (z, w, p, q) ↦ part z w p (front_lines h valid front (reads ∙ append-nil _))
    ]
  where
    whole : (z : List ℕ) → front ≡ print_response c ++ z → n < length c.fields
    whole z p =
        let same = response_unique (front ++ 10 ∷ []) c h (z ++ 10 ∷ []) []
        (fine, ap (λ (t : List ℕ). t ++ 10 ∷ []) p ∙ append_assoc (print_response c) z (10 ∷ [])) (valid, reads) in
        absurd (nil_from z (same.1))
      where
        nil_from : (z : List ℕ) → z ++ 10 ∷ [] ≡ [] → ⊥
        nil_from [] e = cc
        nil_from (a ∷ z) e = cc

    part : (z : ℕ) (w : List ℕ) → print_response c ≡ front ++ z ∷ w
        → (u : List ℕ) × (front ≡ print_blank h.blank ++ 72 ∷ u) × (line_ends (72 ∷ u) ≡ length h.fields + 1) → n < length c.fields
    part z w p (u, begins, counted) =
        let line = last_line front z w (print_blank c.blank ++ head_lines c)
        (EndsInLf-append (print_blank c.blank) (head_lines c) (EndsInLf-append (start_line c) _ (EndsInLf-section c.fields c.last))) (sym p ∙ response_parts c) in
        let left : skip_newlines (print_response c) ≡ head_lines c = ap skip_newlines (response_parts c) ∙ skip_blank c.blank _ in
        let right : skip_newlines (print_response c) ≡ 72 ∷ (u ++ z ∷ w) =
        ap skip_newlines (p ∙ ap (λ (t : List ℕ). t ++ z ∷ w) begins ∙ append_assoc (print_blank h.blank) (72 ∷ u) (z ∷ w)) ∙ skip_blank h.blank (u ++ z ∷ w) in
        omega (arith, line, ap line_ends (sym left ∙ right), line_ends-append (72 ∷ u) (z ∷ w), line_ends-head_lines c fine, counted, many)

-- where a head may still come, and more than n fields have ended, one field more than n is complete
pub response_exceeds_cut : (n : ℕ) (text : List ℕ) → HasNoResponse text → MayBecomeResponse text → n + 1 < line_ends (skip_newlines text)
    → ResponseExceeds n text
response_exceeds_cut n text none (more, h, (valid, reads)) over = go more (reads ∙ append-nil _)
  where
    fields_found : (x : ℕ) (y z : List ℕ) → text ≡ print_blank h.blank ++ 72 ∷ z → (72 ∷ z) ++ x ∷ y ≡ head_lines h → ResponseExceeds n text
    fields_found x y z begins e =
        let skipped : skip_newlines text ≡ 72 ∷ z = ap skip_newlines begins ∙ skip_blank h.blank z in
        let first = line_ends-start_line h valid in
        let many : n < length h.fields = omega (arith, lines_cut (start_line h) h.fields h.last valid.fields (72 ∷ z) x y e, over, ap line_ends skipped, first) in
        let found = fields_before n (start_line h) h.fields h.last valid.fields (72 ∷ z) x y e (omega (arith, over, ap line_ends skipped, first)) in
        let g : ResponseHead = record h { fields = take (n + 1) h.fields; last = lf } in
        let front = print_blank h.blank ++ (start_line h ++ flat_map print_field (take (n + 1) h.fields)) in (
          front,
          found.0,
          begins ∙ ap (λ (t : List ℕ). print_blank h.blank ++ t) found.1 ∙ sym (append_assoc (print_blank h.blank) _ found.0),
          g,
          (
            record { minor = valid.minor; digits = valid.digits; reason = valid.reason; fields = All-take IsField (n + 1) h.fields valid.fields },
            regroup (print_blank h.blank) (start_line h) (flat_map print_field (take (n + 1) h.fields)) ∙ sym (response_parts g) ∙ sym (append-nil _),
          ),
          omega (arith, length-take-le (n + 1) h.fields (omega arith)),
        )
      where
        regroup : (a b c : List ℕ) → (a ++ (b ++ c)) ++ 10 ∷ [] ≡ a ++ (b ++ (c ++ 10 ∷ []))
        regroup a b c = simp append_assoc

    go : (more : List ℕ) → text ++ more ≡ print_response h → ResponseExceeds n text
    go [] e = absurd (none h [] (valid, sym (append-nil text) ∙ e ∙ sym (append-nil _)))
    go (x ∷ y) e = elim (strip text (x ∷ y) h.blank _ (e ∙ response_parts h)) [
      | inl (w, p, q) ↦ absurd (omega (arith, over, ap line_ends (skip_some_blank h.blank text w p)))
      | inr (z, p, q) ↦ fields_found x y z p (ap (λ (t : List ℕ). 72 ∷ t) (sym q))
    ]
