-- The lines of a file, as they are taken one by one.
use Rattle.std.proofs.Common.{◌≡◌, ◌⊎◌, ℕ, ◌+◌, ◌-◌, ◌<◌, ◌≤◌, zero, suc, min, Bool, true, false, not, cond, List, [], ◌∷◌, ◌++◌, length, take, drop, refl, ap, sym, ◌∙◌, subst, arith, append_assoc, append-nil, inl, inr}
use Rattle.std.specs.Prelude.{◌==◌, flat_map, if◌then◌else◌, slice_index, Option, Some, None, IsUtf8}
use Rattle.std.proofs.Math.Numerals.{one-add}
use Rattle.std.proofs.lemmas.Bool.Decides.{nat_tests}
use Rattle.std.proofs.lemmas.List.{drop-drop, drop_all, length-append, length-drop, length-take-le, take-append-le, take-take, take_all}
use Rattle.std.proofs.lemmas.List.Elements.{All-cons}
use Rattle.std.proofs.lemmas.List.Splits.{slice_split-cons_no, slice_split_none}
use Rattle.std.proofs.lemmas.List.Sums.{fails_before_first}
use Rattle.std.proofs.lemmas.Str.{utf8_lossy-IsUtf8}
use Rattle.std.specs.Io.KnownBytes.{Consumes, IsAtEnd, Keeps}
use Rattle.std.specs.List.{slice_split, onto_first, position_or_len}
use Rattle.std.specs.Str.Lines.{strip_carriage_return}
use Rattle.std.specs.Str.Lossy.{utf8_lossy}
use Rattle.streams.proofs.Splits.{parts_after, slice_split-parts}
use Rattle.client.specs.Lines.{Text}
use Rattle.client.specs.FileLines.{AreFirst, GivesUrls, HasNoEnd, HasNoLine, IsNextLine, KnowsEnd, LinesShown, ReadsFile, TakesLine, ends_line, is_skipped, line_front, nothing_read, urls_in, urls_left, urls_of_front, urls_on, urls_returned}
use Rattle.client.specs.declared.lines.Line.{Line}
use Rattle.client.specs.declared.lines.Line.TheVariants.{Url, Bad, Skipped, Unread, Over}

-- ---- one line

skipped_front : (n : ℕ) (line : List ℕ) → 0 < n → is_skipped (take n line) ≡ is_skipped line
skipped_front zero line some = absurd (omega arith)
skipped_front (suc n) [] some = refl
skipped_front (suc n) (byte ∷ bytes) some = refl

of_skipped : (front : List ℕ) → is_skipped front ≡ true → urls_of_front front ≡ []
of_skipped front passed = rw passed refl

of_url : (front : List ℕ) → is_skipped front ≡ false → urls_of_front front ≡ utf8_lossy front ∷ []
of_url front passed = rw passed refl

pub on_skipped : (line stripped : List ℕ) → stripped ≡ strip_carriage_return line → is_skipped stripped ≡ true → [] ≡ urls_on line
unfolding line_front
on_skipped line stripped is passed = sym (of_skipped (take 2048 (strip_carriage_return line)) (skipped_front 2048 (strip_carriage_return line) (omega arith) ∙ ap is_skipped (sym is) ∙ passed))

pub on_url : (line stripped url : List ℕ) → stripped ≡ strip_carriage_return line → is_skipped stripped ≡ false → url ≡ utf8_lossy (take 2048 stripped) → url ∷ [] ≡ urls_on line
unfolding line_front
on_url line stripped url is passed its =
    ap (λ (u : Text). u ∷ []) (its ∙ ap (λ (l : List ℕ). utf8_lossy (take 2048 l)) is)
    ∙ sym (of_url (take 2048 (strip_carriage_return line)) (skipped_front 2048 (strip_carriage_return line) (omega arith) ∙ ap is_skipped (sym is) ∙ passed))

pub on_utf8 : (line stripped url : List ℕ) → stripped ≡ strip_carriage_return line → is_skipped stripped ≡ false → IsUtf8 stripped → length stripped ≤ 2048 → url ≡ stripped → url ∷ [] ≡ urls_on line
on_utf8 line stripped url is passed utf8 few its =
    on_url line stripped url is passed (its ∙ sym (utf8_lossy-IsUtf8 stripped utf8) ∙ ap utf8_lossy (sym (take_all 2048 stripped few)))

-- ---- the first line

-- the first part of a split ends in the front, before any further bytes
abbrev parts_at : (ℕ → Bool) → ℕ → List ℕ → List ℕ → Bool → Type 0
parts_at p x xs rest b = let n = cond (not b) (1 + position_or_len p xs) 0 in
    n < length (x ∷ xs) → cond b ([] ∷ slice_split p (xs ++ rest)) (onto_first x (slice_split p (xs ++ rest))) ≡ take n (x ∷ xs) ∷ slice_split p (drop 1 (drop n (x ∷ xs)) ++ rest)

split_front : (p : ℕ → Bool) (xs rest : List ℕ) → position_or_len p xs < length xs
    → slice_split p (xs ++ rest) ≡ take (position_or_len p xs) xs ∷ slice_split p (drop 1 (drop (position_or_len p xs) xs) ++ rest)
split_front p [] rest some = absurd (omega arith)
split_front p (x ∷ xs) rest some =
    let at : (b : Bool) → parts_at p x xs rest b = elim [
      | true ↦ λ h. refl
      | false ↦ λ h. rw one-add (ap (onto_first x) (split_front p xs rest (omega arith)))
    ] in
    at (p x) some

pub in_line : (bytes rest : List ℕ) (n : ℕ) → n ≡ position_or_len ends_line bytes → n < length bytes → urls_in (bytes ++ rest) ≡ urls_on (take n bytes) ++ urls_in (drop (n + 1) bytes ++ rest)
unfolding urls_in
in_line bytes rest n at inside =
    let there : position_or_len ends_line bytes < length bytes = omega (arith, at, inside) in
    let split : slice_split ends_line (bytes ++ rest) ≡ take n bytes ∷ slice_split ends_line (drop 1 (drop n bytes) ++ rest) = rw at (split_front ends_line bytes rest there) in
    ap (flat_map urls_on) split ∙ ap (λ (l : List ℕ). urls_on (take n bytes) ++ flat_map urls_on (slice_split ends_line (l ++ rest))) (drop-drop 1 n bytes)

pub no_end : (bytes : List ℕ) (n : ℕ) → n ≡ position_or_len ends_line bytes → n ≡ length bytes → HasNoEnd bytes
no_end bytes n at all = λ k d lt. fails_before_first ends_line bytes k d (omega (arith, at, all, lt))

pub in_last : (bytes : List ℕ) → HasNoEnd bytes → urls_in bytes ≡ urls_on bytes
unfolding urls_in
in_last bytes none = ap (flat_map urls_on) (slice_split_none ends_line bytes none) ∙ append-nil (urls_on bytes)

pub in_none : urls_in [] ≡ []
unfolding urls_in line_front
in_none = refl

-- the last line of a file, with no line end
in_rest : (bytes rest : List ℕ) (n : ℕ) → n ≡ position_or_len ends_line bytes → n ≡ length bytes → rest ≡ [] → urls_in (bytes ++ rest) ≡ urls_on (take n bytes) ++ urls_in (drop (n + 1) bytes ++ rest)
in_rest bytes rest n at all none =
    let whole : take n bytes ≡ bytes = take_all n bytes (omega (arith, all)) in
    let left : drop (n + 1) bytes ≡ [] = drop_all (n + 1) bytes (omega (arith, all)) in
    let after : urls_in (drop (n + 1) bytes ++ []) ≡ [] = ap (λ (l : List ℕ). urls_in (l ++ [])) left ∙ in_none in
    let is : urls_in (bytes ++ []) ≡ urls_on (take n bytes) ++ urls_in (drop (n + 1) bytes ++ []) =
    ap urls_in (append-nil bytes) ∙ in_last bytes (no_end bytes n at all) ∙ ap urls_on (sym whole)
    ∙ sym (append-nil (urls_on (take n bytes))) ∙ ap (λ us. urls_on (take n bytes) ++ us) (sym after) in
    subst (λ (l : List ℕ). urls_in (bytes ++ l) ≡ urls_on (take n bytes) ++ urls_in (drop (n + 1) bytes ++ l)) (sym none) is

takes : (old new : LinesShown) (n : ℕ) → n ≡ position_or_len ends_line old.pending → n ≤ length old.pending → (n < length old.pending) ⊎ (old.is_at_end ≡ true) → new.pending ≡ drop (n + 1) old.pending → new.is_at_end ≡ old.is_at_end
    → TakesLine (urls_on (take n old.pending)) old new
takes old new n at within (inl inside) left ends = record {
  is_at_end = ends;
  urls_are = λ rest ended. in_line old.pending rest n at inside ∙ ap (λ (l : List ℕ). urls_on (take n old.pending) ++ urls_in (l ++ rest)) (sym left);
}
takes old new n at within (inr last) left ends =
    let case : (n < length old.pending) ⊎ (n ≡ length old.pending) = grind arith in
    record {
      is_at_end = ends;
      urls_are = λ rest ended. (elim case as (λ h. urls_in (old.pending ++ rest) ≡ urls_on (take n old.pending) ++ urls_in (drop (n + 1) old.pending ++ rest)) [
        | inl inside ↦ in_line old.pending rest n at inside
        | inr all ↦ in_rest old.pending rest n at all (ended last)
      ]) ∙ ap (λ (l : List ℕ). urls_on (take n old.pending) ++ urls_in (l ++ rest)) (sym left);
    }

same_urls : (a b : List Text) → Some a ≡ Some b → b ≡ a
same_urls a b is = cc

next_of : (line : Line) (urls : List Text) (old new : LinesShown) → urls_returned line ≡ Some urls → TakesLine urls old new → IsNextLine line old new
next_of (Url url number) urls old new is takes = subst (λ (us : List Text). TakesLine us old new) (same_urls _ urls is) takes
next_of (Bad url number) urls old new is takes = subst (λ (us : List Text). TakesLine us old new) (same_urls _ urls is) takes
next_of Skipped urls old new is takes = subst (λ (us : List Text). TakesLine us old new) (same_urls _ urls is) takes
next_of Unread urls old new is takes = absurd (cc)
next_of Over urls old new is takes = absurd (cc)

-- a line is taken
pub next_line : (line : Line) (old new : LinesShown) (n : ℕ) → urls_returned line ≡ Some (urls_on (take n old.pending)) → n ≡ position_or_len ends_line old.pending → n ≤ length old.pending → (n < length old.pending) ⊎ (old.is_at_end ≡ true)
    → new.pending ≡ drop (n + 1) old.pending → new.is_at_end ≡ old.is_at_end → IsNextLine line old new
next_line line old new n is at within there left ends = next_of line (urls_on (take n old.pending)) old new is (takes old new n at within there left ends)

-- the place after that line
pub place_after : (bytes : List ℕ) (from n most place : ℕ) → n ≤ length (drop from bytes) → 0 < length (drop from bytes) → length bytes < most → place ≡ min (min (from + n) most + 1) most → drop place bytes ≡ drop (n + 1) (drop from bytes)
place_after bytes from n most place within some bound is =
    let len = length-drop from bytes in
    let at : place ≡ from + (n + 1) = omega (arith, len, within, some, bound, is) in
    ap (λ (k : ℕ). drop k bytes) at ∙ sym (drop-drop (n + 1) from bytes)

pub some_left : (bytes : List ℕ) (b : Bool) → b ≡ (length bytes == 0) → b ≡ false → 0 < length bytes
some_left bytes b is none = grind (arith, nat_tests)

-- ---- a front of a line that is too long

-- a CR at the end of a line is past its first n bytes
stripped_long : (b : Bool) (n : ℕ) (line : List ℕ) → n < length line → take n (if b then take (length line - 1) line else line) ≡ take n line
stripped_long true n line long = take-take n (length line - 1) line (omega (arith, long))
stripped_long false n line long = refl

front_long : (n : ℕ) (line : List ℕ) → n < length line → take n (strip_carriage_return line) ≡ take n line
front_long n line long = stripped_long (slice_index line (length line - 1) == 13) n line long

same_front : (n m : ℕ) (bytes first : List ℕ) → n < m → m ≤ length bytes → take n (strip_carriage_return (take m bytes ++ first)) ≡ take n (strip_carriage_return (bytes ++ first))
same_front n m bytes first less long =
    let cut = length-take-le m bytes long in
    front_long n (take m bytes ++ first) (omega (arith, cut, less, length-append (take m bytes) first))
    ∙ take-append-le n (take m bytes) first (omega (arith, cut, less)) ∙ take-take n m bytes (omega (arith, less))
    ∙ sym (take-append-le n bytes first (omega (arith, less, long))) ∙ sym (front_long n (bytes ++ first) (omega (arith, less, long, length-append bytes first)))

same_on : (bytes first : List ℕ) → 2050 ≤ length bytes → urls_on (take 2050 bytes ++ first) ≡ urls_on (bytes ++ first)
unfolding line_front
same_on bytes first long = ap urls_of_front (same_front 2048 2050 bytes first (omega arith) long)

none_after : (byte : ℕ) (bytes : List ℕ) → HasNoEnd (byte ∷ bytes) → HasNoEnd bytes
none_after byte bytes none = λ k d lt. none (suc k) d (omega (arith, lt))

-- bytes with no line end are the front of the first line
split_onto : (bytes rest first : List ℕ) (others : List (List ℕ)) → HasNoEnd bytes → slice_split ends_line rest ≡ first ∷ others → slice_split ends_line (bytes ++ rest) ≡ (bytes ++ first) ∷ others
split_onto [] rest first others none is = is
split_onto (byte ∷ bytes) rest first others none is =
    slice_split-cons_no ends_line byte (bytes ++ rest) (none 0 0 (omega arith)) ∙ ap (onto_first byte) (split_onto bytes rest first others (none_after byte bytes none) is)

in_onto : (bytes rest first : List ℕ) (others : List (List ℕ)) → HasNoEnd bytes → slice_split ends_line rest ≡ first ∷ others → urls_in (bytes ++ rest) ≡ urls_on (bytes ++ first) ++ flat_map urls_on others
unfolding urls_in
in_onto bytes rest first others none is = ap (flat_map urls_on) (split_onto bytes rest first others none is)

none_taken : (n : ℕ) (bytes : List ℕ) → HasNoEnd bytes → HasNoEnd (take n bytes)
none_taken zero bytes none = λ k d lt. absurd (omega (arith, lt))
none_taken (suc n) [] none = none
none_taken (suc n) (byte ∷ bytes) none = All-cons (λ one. ends_line one ≡ false) byte (take n bytes) (none 0 0 (omega arith)) (none_taken n bytes (none_after byte bytes none))

in_cut_long : (bytes rest : List ℕ) → HasNoEnd bytes → 2050 ≤ length bytes → urls_in (take 2050 bytes ++ rest) ≡ urls_in (bytes ++ rest)
in_cut_long bytes rest none long =
    let n = position_or_len ends_line rest in
    let first = take n rest in
    let others = parts_after ends_line (drop n rest) in
    let parts = slice_split-parts ends_line rest in
    in_onto (take 2050 bytes) rest first others (none_taken 2050 bytes none) parts ∙ ap (λ (us : List Text). us ++ flat_map urls_on others) (same_on bytes first long)
    ∙ sym (in_onto bytes rest first others none parts)

-- the front of a line that is too long has the same URL as the line
in_cut : (bytes rest : List ℕ) → HasNoEnd bytes → urls_in (take 2050 bytes ++ rest) ≡ urls_in (bytes ++ rest)
in_cut bytes rest none =
    let case : (2050 ≤ length bytes) ⊎ (length bytes ≤ 2050) = grind arith in
    elim case as (λ h. urls_in (take 2050 bytes ++ rest) ≡ urls_in (bytes ++ rest)) [
      | inl long ↦ in_cut_long bytes rest none long
      | inr short ↦ ap (λ (l : List ℕ). urls_in (l ++ rest)) (take_all 2050 bytes short)
    ]

same_left : (old new : LinesShown) (before after : Option (List ℕ)) (read : List ℕ) → HasNoEnd old.pending → new.pending ≡ take 2050 old.pending ++ read → Consumes before after read
    → GivesUrls (urls_left old before) (urls_left new after) []
same_left old new None after read none are reads = tt
same_left old new (Some xs) None read none are reads = reads
same_left old new (Some xs) (Some ys) read none are reads =
    ap (λ (l : List ℕ). urls_in (old.pending ++ l)) reads ∙ sym (in_cut old.pending (read ++ ys) none) ∙ ap urls_in (sym (append_assoc (take 2050 old.pending) read ys))
    ∙ ap (λ (l : List ℕ). urls_in (l ++ ys)) (sym are)

-- more is read
pub reads_on : (old new : LinesShown) (before after : Option (List ℕ)) (read : List ℕ) → HasNoEnd old.pending → new.pending ≡ take 2050 old.pending ++ read → Consumes before after read
    → (new.is_at_end ≡ true → IsAtEnd after) → ReadsFile [] old new before after
reads_on old new before after read none are reads ended = record { unread = same_left old new before after read none are reads; ended = ended }

-- a failed read consumes nothing
pub keeps_consumes : (old new : Option (List ℕ)) → Keeps old new → Consumes old new []
keeps_consumes None new keeps = tt
keeps_consumes (Some xs) None keeps = keeps
keeps_consumes (Some xs) (Some ys) keeps = sym keeps

-- the bytes that are pending after a read
pub pending_on : (from : ℕ) (now was cut read : List ℕ) → from ≡ 0 → now ≡ was ++ read → was ≡ cut → drop from now ≡ cut ++ read
pending_on from now was cut read first is left = ap (λ (n : ℕ). drop n now) first ∙ is ∙ ap (λ (l : List ℕ). l ++ read) left

-- the front of a buffer after a read
pub front_read : (n m : ℕ) (buf others : List ℕ) → n ≤ m → n ≤ length buf → take n (take m (buf ++ others)) ≡ take n buf
front_read n m buf others less within = take-take n m (buf ++ others) less ∙ take-append-le n buf others within

-- ---- several reads

-- no URL is returned
gives_none : (urls : Option (List Text)) → GivesUrls urls urls []
gives_none None = tt
gives_none (Some urls) = refl

pub reads_nothing : (lines : LinesShown) (source : Option (List ℕ)) → KnowsEnd lines source → ReadsFile [] lines lines source source
reads_nothing lines source ends = record { unread = gives_none (urls_left lines source); ended = ends }

-- first some URLs are returned, then others
gives_then : (first mid last : Option (List Text)) (urls others : List Text) → GivesUrls first mid urls → GivesUrls mid last others → GivesUrls first last (urls ++ others)
gives_then None mid last urls others one other = tt
gives_then (Some all) None last urls others one other = absurd one
gives_then (Some all) (Some left) None urls others one other = other
gives_then (Some all) (Some left) (Some rest) urls others one other = one ∙ ap (λ (l : List Text). urls ++ l) other ∙ sym (append_assoc urls others rest)

pub reads_after : (first mid last : LinesShown) (before between after : Option (List ℕ)) (urls others : List Text) → ReadsFile urls first mid before between → ReadsFile others mid last between after
    → ReadsFile (urls ++ others) first last before after
reads_after first mid last before between after urls others one other = record {
  unread = gives_then (urls_left first before) (urls_left mid between) (urls_left last after) urls others one.unread other.unread;
  ended = other.ended;
}

-- a line is returned
gives_line : (urls : List Text) (old new : LinesShown) (source : Option (List ℕ)) → TakesLine urls old new → KnowsEnd old source → GivesUrls (urls_left old source) (urls_left new source) urls
gives_line urls old new None line ends = tt
gives_line urls old new (Some bytes) line ends = line.urls_are bytes ends

pub reads_line : (urls : List Text) (old new : LinesShown) (source : Option (List ℕ)) → TakesLine urls old new → KnowsEnd old source → ReadsFile urls old new source source
reads_line urls old new source line ends = record { unread = gives_line urls old new source line ends; ended = λ p. ends (sym line.is_at_end ∙ p) }

-- equal lines
pub read_same : (urls : List Text) (first old new : LinesShown) (before after : Option (List ℕ)) → new ≡ old → ReadsFile urls first old before after → ReadsFile urls first new before after
read_same urls first old new before after same read = subst (λ (lines : LinesShown). ReadsFile urls first lines before after) (sym same) read

pub read_none : (bytes : Option (List ℕ)) → ReadsFile [] nothing_read nothing_read bytes bytes
read_none bytes = reads_nothing nothing_read bytes (λ p. absurd (cc))

-- the URLs that were returned are the first in the file
pub first_in : (bytes : List ℕ) (known source : Option (List ℕ)) (lines : LinesShown) (urls : List Text) (is_whole : Type 0) → known ≡ Some bytes → ReadsFile urls nothing_read lines known source → (is_whole → HasNoLine lines)
    → AreFirst (urls_in bytes) urls is_whole
first_in bytes None source lines urls is_whole is read over = absurd (cc)
first_in bytes (Some known) None lines urls is_whole is read over = absurd read.unread
first_in bytes (Some known) (Some left) lines urls is_whole is read over =
    let same : bytes ≡ known = cc in
    record {
      rest = urls_in (lines.pending ++ left);
      are = ap urls_in same ∙ read.unread;
      whole = λ p. (
          let no = over p in
          let none : left ≡ [] = read.ended no.is_at_end in
          ap (λ (l : List ℕ). urls_in (l ++ left)) no.none ∙ ap urls_in none ∙ in_none);
    }
