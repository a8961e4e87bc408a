-- The line before a chunk, as the code finds it: its words end at the first CR or LF.
use Rattle.std.proofs.Common.{◌≡◌, ℕ, ◌+◌, ◌-◌, ◌<◌, ◌≤◌, Bool, true, false, not, List, [], ◌∷◌, ◌++◌, length, get_or, take, drop, None, Some, refl, sym, ap, subst, ◌∙◌, inl, inr, arith, append_assoc, length-append, length-take, length-drop}
use Rattle.std.specs.List.{position_or_len}
use Rattle.std.specs.Char.{is_ascii_hexdigit}
use Rattle.std.proofs.lemmas.Bool.Decides.{nat_tests}
use Rattle.std.proofs.lemmas.List.{append-nil, take-append-drop, drop_more, drop_at, get_or-take, take_rest}
use Rattle.std.proofs.lemmas.List.Elements.{All-head, All-tail, All-cons, All-nil}
use Rattle.std.proofs.lemmas.List.Sums.{fails_before_first, passes_at_first}
use Rattle.httparse.specs.Grammar.{AllPass, is_ows, is_extension_byte, ChunkLine, print_chunk_line}
use Rattle.persistence.specs.Chunks.{ReadsSizeLine}
use Rattle.persistence.specs.declared.answer.ReadFault.TheVariants.{BadChunk}
use Rattle.persistence.specs.ReadingChunks.{IsWrittenSize, begins_crlf, AwaitsLine, FindsLine, RefusesLine}
use Rattle.persistence.proofs.LineLemmas.{cut_twice}
use Rattle.persistence.proofs.SizeLineLemmas.{words_of, print_words, words_pass, written_front}

-- where the words end
abbrev pub words_place : List ℕ → ℕ
words_place text = position_or_len (λ b. not (is_extension_byte b)) text

not_false : (b : Bool) → not b ≡ false → b ≡ true
not_false true e = refl
not_false false e = sym e

not_true : (b : Bool) → not b ≡ true → b ≡ false
not_true false e = refl
not_true true e = sym e

pub words_before : (text : List ℕ) → AllPass is_extension_byte (take (words_place text) text)
words_before text = λ k d below.
    let inside : k < words_place text = omega (arith, length-take (words_place text) text, below) in
    rw get_or-take (not_false (is_extension_byte (get_or text k d)) (fails_before_first (λ b. not (is_extension_byte b)) text k d inside))

-- the byte at which they end is CR or LF
after_words : (text : List ℕ) (b : ℕ) (t : List ℕ) → drop (words_place text) text ≡ b ∷ t → words_place text < length text → is_extension_byte b ≡ false
after_words text b t e below =
    let at : drop (words_place text) text ≡ get_or text (words_place text) 0 ∷ drop (words_place text + 1) text = drop_more text (words_place text) 0 below in
    let first : get_or text (words_place text) 0 ≡ b = cc in
    subst (λ v. is_extension_byte v ≡ false) first (not_true _ (passes_at_first (λ b. not (is_extension_byte b)) text 0 below))

-- the words of a line that may come begin with those that are there
pub line_cut : (words tail more : List ℕ) → AllPass is_extension_byte words → (size : ℕ) (rest : List ℕ) → (reads : ReadsSizeLine size ((words ++ tail) ++ more) rest)
    → (z : List ℕ) × (words_of reads.line ≡ words ++ z) × (tail ++ more ≡ z ++ 13 ∷ 10 ∷ rest)
line_cut words tail more pass size rest reads =
    elim (cut_twice words (tail ++ more) (words_of reads.line) (13 ∷ 10 ∷ rest)
    (sym (append_assoc words tail more) ∙ reads.reads ∙ ap (λ (t : List ℕ). t ++ rest) (print_words reads.line) ∙ append_assoc (words_of reads.line) (13 ∷ 10 ∷ []) rest)) [
      | inl (z, p, q) ↦ (z, p, q)
      | inr (x, w, p, q) ↦ absurd (stopped x w p (let e : 13 ≡ x = cc in e))
    ]
  where
    passes_inside : (a : List ℕ) (x : ℕ) (w : List ℕ) → AllPass is_extension_byte (a ++ x ∷ w) → is_extension_byte x ≡ true
    passes_inside [] x w all = All-head (λ v. is_extension_byte v ≡ true) x w all
    passes_inside (y ∷ a) x w all = passes_inside a x w (All-tail (λ v. is_extension_byte v ≡ true) y (a ++ x ∷ w) all)

    stopped : (x : ℕ) (w : List ℕ) → words ≡ words_of reads.line ++ x ∷ w → 13 ≡ x → ⊥
    stopped x w p e =
        let passes : is_extension_byte x ≡ true = passes_inside (words_of reads.line) x w (subst (AllPass is_extension_byte) p pass) in
        let fails : is_extension_byte x ≡ false = subst (λ v. is_extension_byte v ≡ false) e refl in
        cc

words_short : (size : ℕ) (text rest : List ℕ) → (reads : ReadsSizeLine size text rest) → length (words_of reads.line) ≤ 1022
words_short size text rest reads =
    omega (arith, reads.valid.short, ap length (print_words reads.line), length-append (words_of reads.line) (13 ∷ 10 ∷ []))

written_by : (size : ℕ) (text rest words : List ℕ) → (reads : ReadsSizeLine size text rest) → words_of reads.line ≡ words → IsWrittenSize words size
written_by size text rest words reads e = record {
  digits = reads.line.digits;
  pad = reads.line.pad;
  extension = reads.line.extension;
  some = reads.valid.some;
  valid = reads.valid.digits;
  blank = reads.valid.pad;
  rest = reads.valid.extension;
  is = sym e;
  gives = reads.gives;
}

text_is : (text : List ℕ) → text ≡ take (words_place text) text ++ drop (words_place text) text
text_is text = sym (take-append-drop (words_place text) text)

cut_of : (text more : List ℕ) (size : ℕ) (rest : List ℕ) → ReadsSizeLine size (text ++ more) rest
    → ReadsSizeLine size ((take (words_place text) text ++ drop (words_place text) text) ++ more) rest
cut_of text more size rest reads = subst (λ (t : List ℕ). ReadsSizeLine size (t ++ more) rest) (text_is text) reads

-- too many words for a line
pub line_too_long : (room : ℕ) (text : List ℕ) → 1022 < length (take (words_place text) text) → RefusesLine room text BadChunk
line_too_long room text long = record { is = refl; never = λ size more rest fits reads. refuse size more rest (cut_of text more size rest reads) }
  where
    refuse : (size : ℕ) (more rest : List ℕ) → ReadsSizeLine size ((take (words_place text) text ++ drop (words_place text) text) ++ more) rest → ⊥
    refuse size more rest reads =
        let z = line_cut (take (words_place text) text) (drop (words_place text) text) more (words_before text) size rest reads in
        omega (arith, words_short size _ rest reads, ap length z.1, length-append (take (words_place text) text) z.0, long)

-- the line of a size that is written
pub line_of : (words : List ℕ) (n : ℕ) → IsWrittenSize words n → length words ≤ 1022 → (rest : List ℕ) → ReadsSizeLine n (words ++ 13 ∷ 10 ∷ rest) rest
line_of words n w short rest =
    let line : ChunkLine = record { digits = w.digits; pad = w.pad; extension = w.extension } in
    let printed : print_chunk_line line ≡ words ++ 13 ∷ 10 ∷ [] = print_words line ∙ ap (λ (t : List ℕ). t ++ 13 ∷ 10 ∷ []) (sym w.is) in
    record {
      line = line;
      valid = record {
        some = w.some;
        digits = w.valid;
        pad = w.blank;
        extension = w.rest;
        short = omega (arith, ap length printed, length-append words (13 ∷ 10 ∷ []), short);
      };
      gives = w.gives;
      reads = sym (append_assoc words (13 ∷ 10 ∷ []) rest) ∙ ap (λ (t : List ℕ). t ++ rest) (sym printed);
    }

-- no text yet: any line may come
pub nothing_yet : (room : ℕ) (text : List ℕ) → text ≡ [] → AwaitsLine room text
nothing_yet room text e = record {
  none = λ size rest reads. (let z = reads.valid.some in omega (
    arith,
    z,
    ap length (sym e ∙ reads.reads ∙ ap (λ (t : List ℕ). t ++ rest) (print_words reads.line)),
    length-append (words_of reads.line ++ 13 ∷ 10 ∷ []) rest,
    length-append (words_of reads.line) (13 ∷ 10 ∷ []),
  ));
  more = (48 ∷ []) ++ 13 ∷ 10 ∷ [];
  size = 0;
  fits = omega arith;
  completes = subst (λ (t : List ℕ). ReadsSizeLine 0 (t ++ ((48 ∷ []) ++ 13 ∷ 10 ∷ [])) []) (sym e)
      (line_of (48 ∷ []) 0 (record { digits = 48 ∷ []; pad = []; extension = None; some = omega arith; valid = All-cons (λ v. is_ascii_hexdigit v ≡ true) 48 [] refl (All-nil (λ v. is_ascii_hexdigit v ≡ true)); blank = All-nil (λ v. is_ows v ≡ true); rest = tt; is = refl; gives = refl }) (omega arith) []);
}

-- the byte after the words is no byte of a line's words
no_more_words : (b : ℕ) (t more z rest : List ℕ) → is_extension_byte b ≡ false → (b ∷ t) ++ more ≡ z ++ 13 ∷ 10 ∷ rest → AllPass is_extension_byte z → z ≡ []
no_more_words b t more [] rest stops e pass = refl
no_more_words b t more (x ∷ z) rest stops e pass =
    let same : b ≡ x = cc in
    let passes : is_extension_byte x ≡ true = All-head (λ v. is_extension_byte v ≡ true) x z pass in
    let fails : is_extension_byte x ≡ false = subst (λ v. is_extension_byte v ≡ false) same stops in
    absurd (cc)

back_passes : (test : ℕ → Bool) (a b : List ℕ) → AllPass test (a ++ b) → AllPass test b
back_passes test [] b pass = pass
back_passes test (x ∷ a) b pass = back_passes test a b (All-tail (λ v. test v ≡ true) x (a ++ b) pass)

drop_some : (text : List ℕ) (b : ℕ) (t : List ℕ) → drop (words_place text) text ≡ b ∷ t → words_place text < length text
drop_some text b t e = omega (arith, ap length e, length-drop (words_place text) text)

-- words that write no size, in a text that is not empty
pub no_size : (room : ℕ) (text : List ℕ) → 0 < length text → ((n : ℕ) → n ≤ room → IsWrittenSize (take (words_place text) text) n → ⊥) → RefusesLine room text BadChunk
no_size room text some none = record { is = refl; never = λ size more rest fits reads. refuse size more rest fits (cut_of text more size rest reads) (drop (words_place text) text) refl }
  where
    refuse : (size : ℕ) (more rest : List ℕ) → size ≤ room → (reads : ReadsSizeLine size ((take (words_place text) text ++ drop (words_place text) text) ++ more) rest)
        → (tail : List ℕ) → drop (words_place text) text ≡ tail → ⊥
    refuse size more rest fits reads [] e =
        let z = line_cut (take (words_place text) text) (drop (words_place text) text) more (words_before text) size rest reads in
        let found = written_front (take (words_place text) text) z.0 size
        (omega (arith, some, ap length (text_is text), length-append (take (words_place text) text) (drop (words_place text) text), ap length e))
        (written_by size _ rest _ reads z.1) in
        none found.0 (omega (arith, found.1, fits)) found.2
    refuse size more rest fits reads (b ∷ t) e =
        let z = line_cut (take (words_place text) text) (drop (words_place text) text) more (words_before text) size rest reads in
        let stops = after_words text b t e (drop_some text b t e) in
        let empty = no_more_words b t more z.0 rest stops (ap (λ (u : List ℕ). u ++ more) (sym e) ∙ z.2)
        (back_passes is_extension_byte (take (words_place text) text) z.0 (subst (AllPass is_extension_byte) z.1 (words_pass reads.line reads.valid))) in
        none size fits (written_by size _ rest _ reads (z.1 ∙ ap (λ (u : List ℕ). take (words_place text) text ++ u) empty ∙ append-nil _))

-- a line end that is not CR LF
pub wrong_end : (room : ℕ) (text : List ℕ) → begins_crlf (drop (words_place text) text) ≡ Some false → RefusesLine room text BadChunk
wrong_end room text wrong = record { is = refl; never = λ size more rest fits reads. refuse size more rest (cut_of text more size rest reads) (drop (words_place text) text) refl wrong }
  where
    ends : (b : ℕ) (t more rest : List ℕ) → (b ∷ t) ++ more ≡ 13 ∷ 10 ∷ rest → begins_crlf (b ∷ t) ≡ Some false → ⊥
    ends b [] more rest e w = let first : b ≡ 13 = cc in let h : begins_crlf (b ∷ []) ≡ None = ap (λ x. begins_crlf (x ∷ [])) first in cc
    ends b (c ∷ t) more rest e w =
        let first : b ≡ 13 = cc in
        let second : c ≡ 10 = cc in
        let h : begins_crlf (b ∷ c ∷ t) ≡ Some true = ap (λ x. begins_crlf (x ∷ c ∷ t)) first ∙ ap (λ y. begins_crlf (13 ∷ y ∷ t)) second in cc

    refuse : (size : ℕ) (more rest : List ℕ) → (reads : ReadsSizeLine size ((take (words_place text) text ++ drop (words_place text) text) ++ more) rest)
        → (tail : List ℕ) → drop (words_place text) text ≡ tail → begins_crlf (drop (words_place text) text) ≡ Some false → ⊥
    refuse size more rest reads [] e w = let h : begins_crlf (drop (words_place text) text) ≡ None = ap begins_crlf e in cc
    refuse size more rest reads (b ∷ t) e w =
        let z = line_cut (take (words_place text) text) (drop (words_place text) text) more (words_before text) size rest reads in
        let stops = after_words text b t e (drop_some text b t e) in
        let follows : (b ∷ t) ++ more ≡ z.0 ++ 13 ∷ 10 ∷ rest = ap (λ (u : List ℕ). u ++ more) (sym e) ∙ z.2 in
        let empty = no_more_words b t more z.0 rest stops follows
        (back_passes is_extension_byte (take (words_place text) text) z.0 (subst (AllPass is_extension_byte) z.1 (words_pass reads.line reads.valid))) in
        ends b t more rest (follows ∙ ap (λ (u : List ℕ). u ++ 13 ∷ 10 ∷ rest) empty) (ap begins_crlf (sym e) ∙ w)

-- a text that ends before its line end is told
pub line_open : (room : ℕ) (text : List ℕ) (n : ℕ) → n ≤ room → IsWrittenSize (take (words_place text) text) n → length (take (words_place text) text) ≤ 1022
    → begins_crlf (drop (words_place text) text) ≡ None → AwaitsLine room text
line_open room text n fits w short unended = go (drop (words_place text) text) refl (sym unended)
  where
    none : (tail : List ℕ) → drop (words_place text) text ≡ tail → length tail ≤ 1 → (size : ℕ) (rest : List ℕ) → ReadsSizeLine size text rest → ⊥
    none tail e few size rest reads =
        let z = line_cut (take (words_place text) text) (drop (words_place text) text) [] (words_before text) size rest
        (cut_of text [] size rest (subst (λ (t : List ℕ). ReadsSizeLine size t rest) (sym (append-nil text)) reads)) in
        omega (arith, ap length z.2, length-append (drop (words_place text) text) [], length-append z.0 (13 ∷ 10 ∷ rest), ap length e, few)

    complete : (tail more : List ℕ) → drop (words_place text) text ≡ tail → tail ++ more ≡ 13 ∷ 10 ∷ [] → ReadsSizeLine n (text ++ more) []
    complete tail more e f =
        subst (λ (t : List ℕ). ReadsSizeLine n t [])
        (ap (λ (u : List ℕ). take (words_place text) text ++ u) (sym f ∙ ap (λ (u : List ℕ). u ++ more) (sym e)) ∙ sym (append_assoc (take (words_place text) text) (drop (words_place text) text) more)
        ∙ ap (λ (u : List ℕ). u ++ more) (sym (text_is text)))
        (line_of (take (words_place text) text) n w short [])

    go : (tail : List ℕ) → drop (words_place text) text ≡ tail → None ≡ begins_crlf (drop (words_place text) text) → AwaitsLine room text
    go [] e told = record { none = none [] e (omega arith); more = 13 ∷ 10 ∷ []; size = n; fits = fits; completes = complete [] (13 ∷ 10 ∷ []) e refl }
    go (b ∷ []) e told =
        let h : None ≡ begins_crlf (b ∷ []) = told ∙ ap begins_crlf e in
        let first : b ≡ 13 = grind (arith, nat_tests, h) in
        record { none = none (b ∷ []) e (omega arith); more = 10 ∷ []; size = n; fits = fits; completes = complete (b ∷ []) (10 ∷ []) e (ap (λ x. x ∷ 10 ∷ []) first) }
    go (b ∷ c ∷ t) e told = let h : None ≡ begins_crlf (b ∷ c ∷ t) = told ∙ ap begins_crlf e in absurd (cc)

-- a whole line
pub line_found : (room : ℕ) (text : List ℕ) (n end : ℕ) → end ≡ words_place text → end ≤ length text → n ≤ room → IsWrittenSize (take (words_place text) text) n → end ≤ 1022
    → begins_crlf (drop (words_place text) text) ≡ Some true → FindsLine room text (record { size = n; len = end + 2 })
line_found room text n end is bound fits w short whole = go (drop (words_place text) text) refl whole
  where
    go : (tail : List ℕ) → drop (words_place text) text ≡ tail → begins_crlf (drop (words_place text) text) ≡ Some true → FindsLine room text (record { size = n; len = end + 2 })
    go [] e told = let h : None ≡ Some true = ap begins_crlf (sym e) ∙ told in absurd (cc)
    go (b ∷ []) e told = let h : begins_crlf (b ∷ []) ≡ Some true = ap begins_crlf (sym e) ∙ told in absurd (grind (arith, nat_tests, h))
    go (b ∷ c ∷ t) e told =
        let h : begins_crlf (b ∷ c ∷ t) ≡ Some true = ap begins_crlf (sym e) ∙ told in
        let first : b ≡ 13 = grind (arith, nat_tests, h) in
        let second : c ≡ 10 = grind (arith, nat_tests, h) in
        let words = take (words_place text) text in
        let sized : length words ≡ end = omega (arith, length-take (words_place text) text, is, bound) in
        let all : text ≡ words ++ 13 ∷ 10 ∷ t = text_is text ∙ ap (λ (u : List ℕ). words ++ u) (e ∙ ap (λ x. x ∷ c ∷ t) first ∙ ap (λ y. 13 ∷ y ∷ t) second) in
        let rest : drop (end + 2) text ≡ t =
        ap (drop (end + 2)) (all ∙ sym (append_assoc words (13 ∷ 10 ∷ []) t)) ∙ drop_at (words ++ 13 ∷ 10 ∷ []) t (end + 2) (omega (arith, length-append words (13 ∷ 10 ∷ []), sized)) in
        record {
          within = omega (arith, ap length all, length-append words (13 ∷ 10 ∷ t), sized);
          fits = fits;
          reads = subst (λ (u : List ℕ). ReadsSizeLine n text u) (sym rest) (subst (λ (u : List ℕ). ReadsSizeLine n u t) (sym all) (line_of words n w (omega (arith, sized, short)) t));
        }

-- the words and the tail, as the code cuts them
pub words_as : (text : List ℕ) (end : ℕ) → end ≡ words_place text → take end text ≡ take (words_place text) text
words_as text end e = ap (λ n. take n text) e

pub tail_as : (text : List ℕ) (end : ℕ) → end ≡ words_place text → take (length text - end) (drop end text) ≡ drop (words_place text) text
tail_as text end e = take_rest text end ∙ ap (λ n. drop n text) e
