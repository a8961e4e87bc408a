-- The line before a chunk: how far its words decide it.
use Rattle.std.proofs.Common.{◌≡◌, ℕ, ◌<◌, ◌≤◌, Bool, true, List, [], ◌∷◌, ◌++◌, length, take, Option, None, Some, refl, sym, ap, subst, ◌∙◌, inl, inr, arith, append_assoc}
use Rattle.std.specs.Char.{is_ascii_hexdigit}
use Rattle.std.specs.Str.Parse.{digits_value}
use Rattle.std.proofs.lemmas.Bool.Decides.{nat_tests}
use Rattle.std.proofs.lemmas.List.{append-nil, take_at}
use Rattle.std.proofs.lemmas.List.Elements.{All-append, All-head, All-tail, All-nil, All-cons, All-weaker}
use Rattle.std.proofs.lemmas.Str.Parse.{digits_value-take-le}
use Rattle.httparse.specs.Grammar.{AllPass, is_ows, is_extension_byte, ChunkLine, print_extension, print_chunk_line, IsExtension}
use Rattle.persistence.specs.Chunks.{IsSizeLine}
use Rattle.persistence.specs.ReadingChunks.{IsWrittenSize}
use Rattle.persistence.proofs.LineLemmas.{cut_twice}

-- the words of a line, without its line end
abbrev pub words_of : ChunkLine → List ℕ
words_of line = line.digits ++ (line.pad ++ print_extension line.extension)

pub print_words : (line : ChunkLine) → print_chunk_line line ≡ words_of line ++ 13 ∷ 10 ∷ []
unfolding print_chunk_line
print_words line = regroup line.digits line.pad (print_extension line.extension)
  where
    regroup : (a b c : List ℕ) → a ++ b ++ c ++ 13 ∷ 10 ∷ [] ≡ (a ++ (b ++ c)) ++ 13 ∷ 10 ∷ []
    regroup a b c = simp append_assoc

-- the front of a run of bytes
front_passes : (test : ℕ → Bool) (a b : List ℕ) → AllPass test (a ++ b) → AllPass test a
front_passes test [] b pass = All-nil (λ v. test v ≡ true)
front_passes test (x ∷ a) b pass =
    All-cons (λ v. test v ≡ true) x a (All-head (λ v. test v ≡ true) x (a ++ b) pass) (front_passes test a b (All-tail (λ v. test v ≡ true) x (a ++ b) pass))

-- no byte of a line's words ends a line
pub words_pass : (line : ChunkLine) → IsSizeLine line → AllPass is_extension_byte (words_of line)
words_pass line valid =
    All-append (λ v. is_extension_byte v ≡ true) line.digits (line.pad ++ print_extension line.extension)
    (All-weaker (λ v. is_ascii_hexdigit v ≡ true) (λ v. is_extension_byte v ≡ true) (λ v h. grind (arith, nat_tests, h)) line.digits valid.digits)
    (All-append (λ v. is_extension_byte v ≡ true) line.pad (print_extension line.extension)
    (All-weaker (λ v. is_ows v ≡ true) (λ v. is_extension_byte v ≡ true) (λ v h. grind (arith, nat_tests, h)) line.pad valid.pad)
    (text line.extension valid.extension))
  where
    text : (extension : Option (List ℕ)) → IsExtension extension → AllPass is_extension_byte (print_extension extension)
    text None pass = All-nil (λ v. is_extension_byte v ≡ true)
    text (Some bytes) pass = All-cons (λ v. is_extension_byte v ≡ true) 59 bytes refl pass

-- ---- what words write

-- a front of words that write a size writes one, at most as great
pub written_front : (words more : List ℕ) (n : ℕ) → 0 < length words → IsWrittenSize (words ++ more) n → (m : ℕ) × (m ≤ n) × IsWrittenSize words m
written_front words more n some w =
    elim (cut_twice words more w.digits (w.pad ++ print_extension w.extension) w.is) [
      | inl (y, p, q) ↦ in_digits y p
      | inr (x, y, p, q) ↦ (
        n,
        omega arith,
        elim (cut_twice w.pad (print_extension w.extension) (x ∷ y) more q) [
          | inl (z, u, v) ↦ in_extension w.extension w.rest z (p ∙ ap (λ (t : List ℕ). w.digits ++ t) u) v
          | inr (a, z, u, v) ↦ record {
            digits = w.digits;
            pad = x ∷ y;
            extension = None;
            some = w.some;
            valid = w.valid;
            blank = front_passes is_ows (x ∷ y) (a ∷ z) (subst (AllPass is_ows) u w.blank);
            rest = tt;
            is = p ∙ ap (λ (t : List ℕ). w.digits ++ t) (sym (append-nil (x ∷ y)));
            gives = w.gives;
          }
        ],
      )
    ]
  where
    in_digits : (y : List ℕ) → w.digits ≡ words ++ y → (m : ℕ) × (m ≤ n) × IsWrittenSize words m
    in_digits y p =
        let shown : take (length words) w.digits ≡ words = ap (take (length words)) p ∙ take_at words y (length words) refl in
        let less : digits_value 16 words ≤ n = omega (arith, digits_value-take-le 16 w.digits (length words) (omega arith), ap (digits_value 16) shown, w.gives) in (
          digits_value 16 words,
          less,
          record {
            digits = words;
            pad = [];
            extension = None;
            some = some;
            valid = front_passes is_ascii_hexdigit words y (subst (AllPass is_ascii_hexdigit) p w.valid);
            blank = All-nil (λ v. is_ows v ≡ true);
            rest = tt;
            is = sym (append-nil words);
            gives = refl;
          },
        )

    in_extension : (extension : Option (List ℕ)) → IsExtension extension → (z : List ℕ) → words ≡ w.digits ++ (w.pad ++ z) → print_extension extension ≡ z ++ more → IsWrittenSize words n
    in_extension extension pass [] p v = record {
      digits = w.digits;
      pad = w.pad;
      extension = None;
      some = w.some;
      valid = w.valid;
      blank = w.blank;
      rest = tt;
      is = p;
      gives = w.gives;
    }
    in_extension None pass (a ∷ z) p v = absurd (cc)
    in_extension (Some bytes) pass (a ∷ z) p v =
        let first : 59 ≡ a = cc in
        let others : bytes ≡ z ++ more = cc in
        record {
          digits = w.digits;
          pad = w.pad;
          extension = Some z;
          some = w.some;
          valid = w.valid;
          blank = w.blank;
          rest = front_passes is_extension_byte z more (subst (AllPass is_extension_byte) others pass);
          is = p ∙ ap (λ b. w.digits ++ (w.pad ++ b ∷ z)) (sym first);
          gives = w.gives;
        }
