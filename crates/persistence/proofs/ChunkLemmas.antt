-- Chunks, one after another, are read in one way.
use Rattle.std.proofs.Common.{◌≡◌, ℕ, true, List, [], ◌∷◌, ◌++◌, length, Option, None, Some, refl, sym, ap, subst, ◌∙◌, arith, append_assoc}
use Rattle.std.specs.Char.{is_ascii_hexdigit}
use Rattle.std.specs.Str.Parse.{digits_value}
use Rattle.std.proofs.lemmas.Bool.Decides.{nat_tests}
use Rattle.std.proofs.lemmas.List.Elements.{All-head}
use Rattle.httparse.specs.Grammar.{AllPass, is_ows, is_extension_byte, ChunkLine, print_extension, print_chunk_line}
use Rattle.httparse.specs.Pieces.{Stops}
use Rattle.httparse.proofs.RunLemmas.{run_unique}
use Rattle.httparse.proofs.GrammarLemmas.{section_unique}
use Rattle.persistence.specs.Chunks.{IsSizeLine, ReadsSizeLine, ReadsChunk, ReadsTrailer, ReachesTrailer, ReadsChunked}
use Rattle.persistence.proofs.SequenceLemmas.{IsPrinted, Compared, same, longer, shorter, compared}
use Rattle.persistence.proofs.SizeLineLemmas.{words_of, print_words, words_pass}

-- what follows the digits of a line is no digit
after_digits : (line : ChunkLine) → IsSizeLine line → (rest : List ℕ) → Stops is_ascii_hexdigit (line.pad ++ (print_extension line.extension ++ 13 ∷ rest))
after_digits line valid rest = pads line.pad valid.pad
  where
    text : (extension : Option (List ℕ)) → Stops is_ascii_hexdigit (print_extension extension ++ 13 ∷ rest)
    text None = refl
    text (Some bytes) = refl

    pads : (pad : List ℕ) → AllPass is_ows pad → Stops is_ascii_hexdigit (pad ++ (print_extension line.extension ++ 13 ∷ rest))
    pads [] blank = text line.extension
    pads (b ∷ pad) blank = let first = All-head (λ v. is_ows v ≡ true) b pad blank in grind (arith, nat_tests, first)

-- the line as its digits and what follows them
line_as : (line : ChunkLine) (rest : List ℕ) → print_chunk_line line ++ rest ≡ line.digits ++ (line.pad ++ (print_extension line.extension ++ 13 ∷ (10 ∷ rest)))
line_as line rest = ap (λ (t : List ℕ). t ++ rest) (print_words line) ∙ regroup line.digits line.pad (print_extension line.extension)
  where
    regroup : (a b c : List ℕ) → ((a ++ (b ++ c)) ++ 13 ∷ 10 ∷ []) ++ rest ≡ a ++ (b ++ (c ++ 13 ∷ (10 ∷ rest)))
    regroup a b c = simp append_assoc

-- a text begins with the line of one size
pub size_line_unique : (m n : ℕ) (text r q : List ℕ) → ReadsSizeLine m text r → ReadsSizeLine n text q → (m ≡ n) × (r ≡ q)
size_line_unique m n text r q x y =
    let digits = run_unique is_ascii_hexdigit x.line.digits y.line.digits _ _ x.valid.digits y.valid.digits (after_digits x.line x.valid (10 ∷ r)) (after_digits y.line y.valid (10 ∷ q))
    (sym (line_as x.line r) ∙ sym x.reads ∙ y.reads ∙ line_as y.line q) in
    let words = run_unique is_extension_byte (words_of x.line) (words_of y.line) (13 ∷ 10 ∷ r) (13 ∷ 10 ∷ q) (words_pass x.line x.valid) (words_pass y.line y.valid) refl refl
    (sym (append_assoc (words_of x.line) (13 ∷ 10 ∷ []) r) ∙ ap (λ (t : List ℕ). t ++ r) (sym (print_words x.line)) ∙ sym x.reads
    ∙ y.reads ∙ ap (λ (t : List ℕ). t ++ q) (print_words y.line) ∙ append_assoc (words_of y.line) (13 ∷ 10 ∷ []) q) in
    (sym x.gives ∙ ap (digits_value 16) digits.0 ∙ y.gives, (let e = words.1 in cc))

pub size_line_printed : IsPrinted ReadsSizeLine
size_line_printed = record {
  unique = size_line_unique;
  print = λ size text r x. (print_chunk_line x.line, x.reads, λ more. record { line = x.line; valid = x.valid; gives = x.gives; reads = refl });
}

-- two texts with fronts of one length that are equal have equal rests
pub same_fronts : (a b r q : List ℕ) → length a ≡ length b → a ++ r ≡ b ++ q → r ≡ q
same_fronts [] [] r q e f = f
same_fronts [] (y ∷ b) r q e f = absurd (omega (arith, e))
same_fronts (x ∷ a) [] r q e f = absurd (omega (arith, e))
same_fronts (x ∷ a) (y ∷ b) r q e f = same_fronts a b r q (omega (arith, e)) (cc)

pub chunk_printed : IsPrinted ReadsChunk
chunk_printed = record {
  unique = λ m n text r q x y.
      let u = size_line_unique m n text _ _ x.reads y.reads in
      (u.0, (let e : 13 ∷ 10 ∷ r ≡ 13 ∷ 10 ∷ q = same_fronts x.content y.content (13 ∷ 10 ∷ r) (13 ∷ 10 ∷ q) (x.sized ∙ u.0 ∙ sym y.sized) u.1 in cc));
  print = λ n text r x.
      let line = print_chunk_line x.reads.line in (
        line ++ (x.content ++ 13 ∷ 10 ∷ []),
        x.reads.reads ∙ regroup line x.content r,
        λ more. record {
          positive = x.positive;
          content = x.content;
          sized = x.sized;
          reads = record { line = x.reads.line; valid = x.reads.valid; gives = x.reads.gives; reads = sym (regroup line x.content more) };
        },
      );
}
  where
    regroup : (a b c : List ℕ) → a ++ (b ++ (13 ∷ 10 ∷ c)) ≡ (a ++ (b ++ 13 ∷ 10 ∷ [])) ++ c
    regroup a b c = simp append_assoc

-- a chunk is no last line
pub no_last : (size : ℕ) (text r q : List ℕ) → ReadsChunk size text r → ReadsSizeLine 0 text q → ⊥
no_last size text r q chunk last = omega (arith, chunk.positive, (size_line_unique size 0 text _ _ chunk.reads last).0)

pub trailer_unique : (text r q : List ℕ) → ReadsTrailer text r → ReadsTrailer text q → r ≡ q
trailer_unique text r q x y = (section_unique text x.fields y.fields x.last y.last r q x.reads y.reads).2

-- the trailer section begins in one place
pub reaches_unique : (xs ys : List ℕ) (text r q : List ℕ) → ReachesTrailer xs text r → ReachesTrailer ys text q → (xs ≡ ys) × (r ≡ q)
reaches_unique xs ys text r q x y = go (compared chunk_printed xs ys text x.middle y.middle x.chunks.each y.chunks.each)
  where
    go : Compared chunk_printed xs ys x.middle y.middle → (xs ≡ ys) × (r ≡ q)
    go (same e f) = (e, (size_line_unique 0 0 y.middle r q (subst (λ (t : List ℕ). ReadsSizeLine 0 t r) f x.last) y.last).1)
    go (longer c cs m e reads) = absurd (no_last c y.middle m q reads y.last)
    go (shorter c cs m e reads) = absurd (no_last c x.middle m r reads x.last)

-- a body in chunks ends in one place
pub chunked_unique : (xs ys : List ℕ) (text r q : List ℕ) → ReadsChunked xs text r → ReadsChunked ys text q → r ≡ q
chunked_unique xs ys text r q x y =
    let e = reaches_unique xs ys text x.trailer y.trailer x.chunks y.chunks in
    trailer_unique y.trailer r q (subst (λ (t : List ℕ). ReadsTrailer t r) e.1 x.reads) y.reads
