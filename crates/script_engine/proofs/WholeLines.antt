-- A text that was put together from lines gives these lines again.
use Rattle.std.proofs.Common.{◌≡◌, ℕ, zero, suc, ◌-◌, ◌/◌, Bool, true, false, not, cond, ◌&&◌, List, [], ◌∷◌, ◌++◌, length, refl, ap, sym, ◌∙◌, arith}
use Rattle.std.proofs.lemmas.List.{append_assoc}
use Rattle.std.proofs.lemmas.List.Folds.{list_all-append}
use Rattle.std.proofs.lemmas.List.Sums.{AllPass-from_list_all}
use Rattle.std.proofs.lemmas.List.Splits.{slice_split_at}
use Rattle.std.proofs.lemmas.Bool.{and_from}
use Rattle.std.proofs.lemmas.Bool.Decides.{nat_tests}
use Rattle.std.specs.Prelude.{◌==◌, ◌%◌, slice_index}
use Rattle.std.specs.List.{list_all, All}
use Rattle.std.specs.Fmt.{decimal, digits, digits_onto, digit_glyph}
use Rattle.std.specs.Str.Lines.{lines_of_parts, strip_carriage_return}
use Rattle.conn_log.proofs.Soundness.{and_left, and_right}
use Rattle.streams.specs.Lines.{lines, ends_line}
use Rattle.streams.proofs.LineSplits.{first-stripped}

-- a byte that is neither CR nor LF
abbrev pub stays_in_line : ℕ → Bool
stays_in_line byte = not (byte == 10) && not (byte == 13)

abbrev pub is_one_line : List ℕ → Bool
is_one_line text = list_all stays_in_line text

-- the lines, each with its LF
abbrev pub text_of : List (List ℕ) → List ℕ
text_of [] = []
text_of (line ∷ others) = line ++ 10 ∷ text_of others

pub text_of-append : (front back : List (List ℕ)) → text_of (front ++ back) ≡ text_of front ++ text_of back
text_of-append [] back = refl
text_of-append (line ∷ others) back =
    ap (λ text. line ++ 10 ∷ text) (text_of-append others back)
    ∙ sym (append_assoc line (10 ∷ text_of others) (text_of back))

pub one-line-both : (front back : List ℕ) → is_one_line front ≡ true → is_one_line back ≡ true → is_one_line (front ++ back) ≡ true
one-line-both front back f b = list_all-append stays_in_line front back ∙ and_from (is_one_line front) (is_one_line back) f b

not-end : (byte : ℕ) → stays_in_line byte ≡ true → ends_line byte ≡ false
not-end byte h = grind (arith, nat_tests)

not-return : (byte : ℕ) → stays_in_line byte ≡ true → (byte == 13) ≡ false
not-return byte h = grind (arith, nat_tests)

never-return : (line : List ℕ) (k : ℕ) → is_one_line line ≡ true → (slice_index line k == 13) ≡ false
never-return [] k h = refl
never-return (byte ∷ bytes) zero h = not-return byte (and_left (stays_in_line byte) (is_one_line bytes) h)
never-return (byte ∷ bytes) (suc k) h = never-return bytes k (and_right (stays_in_line byte) (is_one_line bytes) h)

not-stripped : (line : List ℕ) → is_one_line line ≡ true → strip_carriage_return line ≡ line
not-stripped line h = rw (never-return line (length line - 1) h) refl

no-end : (line : List ℕ) → is_one_line line ≡ true → All (λ byte. ends_line byte ≡ false) line
no-end line h = λ k d inside. not-end _ (AllPass-from_list_all stays_in_line line h k d inside)

pub lines-text_of : (parts : List (List ℕ)) → list_all is_one_line parts ≡ true → lines (text_of parts) ≡ parts
unfolding lines
lines-text_of [] h = refl
lines-text_of (line ∷ others) h =
    let one = and_left (is_one_line line) (list_all is_one_line others) h in
    ap lines_of_parts (slice_split_at ends_line line 10 (text_of others) (no-end line one) refl)
    ∙ first-stripped line (text_of others)
    ∙ ap (λ first. first ∷ lines (text_of others)) (not-stripped line one)
    ∙ ap (λ rest. line ∷ rest) (lines-text_of others (and_right (is_one_line line) (list_all is_one_line others) h))

-- a number is digits
glyph-stays : (n : ℕ) → stays_in_line (digit_glyph false n) ≡ true
glyph-stays n = grind (arith, nat_tests)

either-stays : (last : Bool) (front rest : List ℕ) → is_one_line front ≡ true → is_one_line rest ≡ true → is_one_line (cond last front rest) ≡ true
either-stays true front rest f r = f
either-stays false front rest f r = r

digits-stay : (k n : ℕ) (after : List ℕ) → is_one_line after ≡ true → is_one_line (digits_onto k 10 false n after) ≡ true
digits-stay zero n after h = h
digits-stay (suc k) n after h =
    let more : is_one_line (digit_glyph false (n % 10) ∷ after) ≡ true = and_from _ _ (glyph-stays (n % 10)) h in
    either-stays (n / 10 == 0) _ _ more (digits-stay k (n / 10) (digit_glyph false (n % 10) ∷ after) more)

pub decimal-one-line : (n : ℕ) → is_one_line (decimal n) ≡ true
unfolding digits
decimal-one-line n = digits-stay 64 n [] refl
