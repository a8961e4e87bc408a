-- The line of an entry names its host, and no other.
use Rattle.std.proofs.Common.{◌≡◌, ℕ, zero, suc, ◌+◌, ◌/◌, ◌^◌, ◌<◌, ◌≤◌, Bool, true, false, not, cond, ◌&&◌, List, [], ◌∷◌, ◌++◌, length, filter, refl, ap, sym, ◌∙◌, inl, inr, arith}
use Rattle.std.proofs.lemmas.Fmt.{decimal_is_IsNumeral_wide, length-decimal-le}
use Rattle.std.proofs.lemmas.List.{append_assoc, length-append}
use Rattle.std.proofs.lemmas.List.Folds.{list_all-append}
use Rattle.std.proofs.lemmas.List.Sums.{AllPass-from_list_all}
use Rattle.std.proofs.lemmas.List.Splits.{slice_split_at}
use Rattle.std.proofs.lemmas.Bool.{and_from, eq-eqb, ne_eqb, cases_lt, cases_eq, true≢false, false_from_ne_true}
use Rattle.std.proofs.lemmas.Bool.Decides.{nat_tests}
use Rattle.std.proofs.lemmas.Slice.Eq.{bytes_eq-Decides}
use Rattle.std.specs.Prelude.{codes, ◌==◌, ◌%◌, ◌≢◌, ◌⊎◌}
use Rattle.std.specs.List.{list_all, All, slice_split}
use Rattle.std.specs.Str.{bytes_eq}
use Rattle.std.specs.Str.Parse.{digits_value}
use Rattle.std.specs.Fmt.{decimal, digits, digits_onto, digit_glyph}
use Rattle.conn_log.specs.declared.entry.Event.{Event}
use Rattle.conn_log.specs.declared.entry.Event.TheVariants.{Opened, Leased, Returned, Closed, Waited, Left, Limit}
use Rattle.conn_log.specs.declared.entry.Entry.{Entry}
use Rattle.conn_log.proofs.Soundness.{and_left, and_right}
use Rattle.streams.specs.Words.{words, has_bytes, is_space}
use Rattle.script_text.specs.Printing.{event_text, returned_by}
use Rattle.script_engine.specs.TranscriptLines.{begins, is_host_after, names_host_in, names_host, entry_text}

-- a byte that is neither a space nor a dot
abbrev is_inner : ℕ → Bool
is_inner byte = not (byte == 32) && not (byte == 46)

abbrev is_inner_text : List ℕ → Bool
is_inner_text text = list_all is_inner text

-- a number is such a text, of one byte at least
glyph-inner : (n : ℕ) → is_inner (digit_glyph false (n % 10)) ≡ true
glyph-inner n = grind (arith, nat_tests)

either-inner : (last : Bool) (front rest : List ℕ) → is_inner_text front ≡ true → is_inner_text rest ≡ true → is_inner_text (cond last front rest) ≡ true
either-inner true front rest f r = f
either-inner false front rest f r = r

digits-inner : (k n : ℕ) (after : List ℕ) → is_inner_text after ≡ true → is_inner_text (digits_onto k 10 false n after) ≡ true
digits-inner zero n after h = h
digits-inner (suc k) n after h =
    let more : is_inner_text (digit_glyph false (n % 10) ∷ after) ≡ true = and_from _ _ (glyph-inner n) h in
    either-inner (n / 10 == 0) _ _ more (digits-inner k (n / 10) (digit_glyph false (n % 10) ∷ after) more)

decimal-inner : (n : ℕ) → is_inner_text (decimal n) ≡ true
unfolding digits
decimal-inner n = digits-inner 64 n [] refl

either-some : (last : Bool) (front rest : List ℕ) → 0 < length front → 0 < length rest → 0 < length (cond last front rest)
either-some true front rest f r = f
either-some false front rest f r = r

digits-some : (k n : ℕ) (after : List ℕ) → 0 < length after → 0 < length (digits_onto k 10 false n after)
digits-some zero n after h = h
digits-some (suc k) n after h =
    let more : 0 < length (digit_glyph false (n % 10) ∷ after) = omega arith in
    either-some (n / 10 == 0) _ _ more (digits-some k (n / 10) (digit_glyph false (n % 10) ∷ after) more)

decimal-some : (n : ℕ) → 0 < length (decimal n)
unfolding digits
decimal-some n = either-some (n / 10 == 0) _ _ (omega arith) (digits-some 63 (n / 10) (digit_glyph false (n % 10) ∷ []) (omega arith))

-- of numbers with more digits the last 64 are told
either-count : (last : Bool) (k : ℕ) (front rest : List ℕ) → last ≡ false → length rest ≡ k → length (cond last front rest) ≡ k
either-count true k front rest goes r = absurd (true≢false goes)
either-count false k front rest goes r = r

ten-some : (k : ℕ) → 0 < 10 ^ k
ten-some zero = omega arith
ten-some (suc k) = let more = ten-some k in omega arith

digits-count : (k n : ℕ) (after : List ℕ) → 10 ^ k ≤ n → length (digits_onto k 10 false n after) ≡ k + length after
digits-count zero n after large = omega arith
digits-count (suc k) n after large =
    let rest : 10 ^ k ≤ n / 10 = omega arith in
    let some = ten-some k in
    either-count (n / 10 == 0) (suc k + length after) _ _ (grind (arith, nat_tests)) (digits-count k (n / 10) (digit_glyph false (n % 10) ∷ after) rest ∙ omega arith)

decimal-count : (n : ℕ) → 10 ^ 64 ≤ n → length (decimal n) ≡ 64
unfolding digits
decimal-count n large = digits-count 64 n [] large

-- a number is told by its digits, where it is no longer than that
same-number : (m n : ℕ) → n < 2 ^ 64 → decimal m ≡ decimal n → m ≡ n
same-number m n small same = by_size (cases_lt m (10 ^ 64))
  where
    by_size : (m < 10 ^ 64) ⊎ (10 ^ 64 ≤ m) → m ≡ n
    by_size (inl less) =
        let below : n < 10 ^ 64 = omega arith in
        sym (decimal_is_IsNumeral_wide m less).1 ∙ ap (digits_value 10) same ∙ (decimal_is_IsNumeral_wide n below).1
    by_size (inr large) =
        let long : length (decimal n) ≡ 64 = sym (ap (λ (l : List ℕ). length l) same) ∙ decimal-count m large in
        let short : length (decimal n) ≤ 20 = length-decimal-le 20 n (omega arith) (omega arith) small in
        absurd (omega arith)

numbers-told : (m n : ℕ) → n < 2 ^ 64 → bytes_eq (decimal m) (decimal n) ≡ (m == n)
numbers-told m n small = by_test (cases_eq m n)
  where
    by_test : (m ≡ n) ⊎ (m ≢ n) → bytes_eq (decimal m) (decimal n) ≡ (m == n)
    by_test (inl same) = (bytes_eq-Decides (decimal m) (decimal n)).1 (ap decimal same) ∙ sym (eq-eqb m n same)
    by_test (inr apart) =
        false_from_ne_true _ (λ yes. apart (same-number m n small ((bytes_eq-Decides (decimal m) (decimal n)).0 yes)))
        ∙ sym (ne_eqb m n apart)

numbers-turned : (m n : ℕ) → n < 2 ^ 64 → bytes_eq (decimal n) (decimal m) ≡ (m == n)
numbers-turned m n small = by_test (cases_eq m n)
  where
    by_test : (m ≡ n) ⊎ (m ≢ n) → bytes_eq (decimal n) (decimal m) ≡ (m == n)
    by_test (inl same) = (bytes_eq-Decides (decimal n) (decimal m)).1 (ap decimal (sym same)) ∙ sym (eq-eqb m n same)
    by_test (inr apart) =
        false_from_ne_true _ (λ yes. apart (same-number m n small (sym ((bytes_eq-Decides (decimal n) (decimal m)).0 yes))))
        ∙ sym (ne_eqb m n apart)

-- a text begins with a number and a dot where that number stands before its dot
not-dot : (byte : ℕ) → is_inner byte ≡ true → (byte == 46) ≡ false
not-dot byte h = grind (arith, nat_tests)

not-dot-turned : (byte : ℕ) → is_inner byte ≡ true → (46 == byte) ≡ false
not-dot-turned byte h = grind (arith, nat_tests)

before-dot : (a b rest : List ℕ) → is_inner_text a ≡ true → is_inner_text b ≡ true → begins (a ++ 46 ∷ []) (b ++ 46 ∷ rest) ≡ bytes_eq a b
before-dot [] [] rest i j = refl
before-dot [] (y ∷ ys) rest i j = ap (λ first. first && true) (not-dot-turned y (and_left (is_inner y) (is_inner_text ys) j))
before-dot (x ∷ xs) [] rest i j = ap (λ first. first && begins_rest) (not-dot x (and_left (is_inner x) (is_inner_text xs) i))
  where
    begins_rest : Bool
    begins_rest = begins (xs ++ 46 ∷ []) rest
before-dot (x ∷ xs) (y ∷ ys) rest i j =
    ap (λ others. (x == y) && others) (before-dot xs ys rest (and_right (is_inner x) (is_inner_text xs) i) (and_right (is_inner y) (is_inner_text ys) j))

number-before-dot : (h host : ℕ) (rest : List ℕ) → host < 2 ^ 64 → begins (decimal h ++ 46 ∷ []) (decimal host ++ 46 ∷ rest) ≡ (h == host)
number-before-dot h host rest small = before-dot (decimal h) (decimal host) rest (decimal-inner h) (decimal-inner host) ∙ numbers-told h host small

-- words: what stands before a space
abbrev stays_in_word : ℕ → Bool
stays_in_word byte = not (byte == 32)

record IsWord (text : List ℕ) : Type 0 where
  inner : list_all stays_in_word text ≡ true
  some : 0 < length text

not-space : (byte : ℕ) → stays_in_word byte ≡ true → is_space byte ≡ false
not-space byte h = grind (arith, nat_tests)

no-space : (word : List ℕ) → list_all stays_in_word word ≡ true → All (λ byte. is_space byte ≡ false) word
no-space word h = λ k d inside. not-space _ (AllPass-from_list_all stays_in_word word h k d inside)

has-some : (word : List ℕ) → 0 < length word → has_bytes word ≡ true
has-some word h = grind (arith, nat_tests)

kept-word : (word : List ℕ) (parts : List (List ℕ)) → has_bytes word ≡ true → filter has_bytes (word ∷ parts) ≡ word ∷ filter has_bytes parts
kept-word word parts h = rw h refl

first-word : (word rest : List ℕ) → IsWord word → words (word ++ 32 ∷ rest) ≡ word ∷ words rest
unfolding words
first-word word rest is =
    ap (filter has_bytes) (slice_split_at is_space word 32 rest (no-space word is.inner) refl)
    ∙ kept-word word (slice_split is_space rest) (has-some word is.some)

inner-stays : (byte : ℕ) → is_inner byte ≡ true → stays_in_word byte ≡ true
inner-stays byte h = and_left (stays_in_word byte) (not (byte == 46)) h

inner-text-stays : (text : List ℕ) → is_inner_text text ≡ true → list_all stays_in_word text ≡ true
inner-text-stays [] h = refl
inner-text-stays (byte ∷ bytes) h =
    and_from _ _ (inner-stays byte (and_left (is_inner byte) (is_inner_text bytes) h)) (inner-text-stays bytes (and_right (is_inner byte) (is_inner_text bytes) h))

number-word : (n : ℕ) → IsWord (decimal n)
number-word n = record { inner = inner-text-stays (decimal n) (decimal-inner n); some = decimal-some n }

-- H.C
connection-word : (host c : ℕ) → IsWord (decimal host ++ 46 ∷ decimal c)
connection-word host c = record {
  inner = list_all-append stays_in_word (decimal host) (46 ∷ decimal c) ∙ and_from _ _ (number-word host).inner (number-word c).inner;
  some = omega (arith, length-append (decimal host) (46 ∷ decimal c), decimal-some host);
}

-- the events of a connection
module _ (h host c : ℕ) (small : host < 2 ^ 64) where
  parted : (after tail : List ℕ) → (decimal host ++ 46 ∷ (decimal c ++ 32 ∷ after)) ++ tail ≡ (decimal host ++ 46 ∷ decimal c) ++ 32 ∷ (after ++ tail)
  parted after tail =
      append_assoc (decimal host) (46 ∷ (decimal c ++ 32 ∷ after)) tail
      ∙ ap (λ rest. decimal host ++ 46 ∷ rest) (append_assoc (decimal c) (32 ∷ after) tail)
      ∙ sym (append_assoc (decimal host) (46 ∷ decimal c) (32 ∷ (after ++ tail)))

  connection-named : (verb after tail : List ℕ) → IsWord verb → ((subject : List ℕ) (others : List (List ℕ)) → names_host_in h (verb ∷ subject ∷ others) ≡ begins (decimal h ++ 46 ∷ []) subject)
      → names_host h (verb ++ 32 ∷ ((decimal host ++ 46 ∷ (decimal c ++ 32 ∷ after)) ++ tail)) ≡ (h == host)
  connection-named verb after tail word told =
      ap (names_host_in h) (first-word verb _ word ∙ ap (λ others. verb ∷ others) (ap words (parted after tail) ∙ first-word (decimal host ++ 46 ∷ decimal c) (after ++ tail) (connection-word host c)))
      ∙ told (decimal host ++ 46 ∷ decimal c) (words (after ++ tail))
      ∙ number-before-dot h host (decimal c) small

-- those of a transfer
transfer-named : (h host transfer : ℕ) → host < 2 ^ 64 → (verb tail : List ℕ) → IsWord verb
    → ((subject : List ℕ) (others : List (List ℕ)) → names_host_in h (verb ∷ subject ∷ others) ≡ is_host_after h others)
    → names_host h (verb ++ 32 ∷ ((decimal transfer ++ (codes " host " ++ decimal host)) ++ 32 ∷ tail)) ≡ (h == host)
transfer-named h host transfer small verb tail word told =
    ap (names_host_in h)
    (first-word verb _ word ∙ ap (λ others. verb ∷ others)
    (ap words (append_assoc (decimal transfer) (codes " host " ++ decimal host) (32 ∷ tail))
    ∙ first-word (decimal transfer) (codes "host " ++ (decimal host ++ 32 ∷ tail)) (number-word transfer)
    ∙ ap (λ others. decimal transfer ∷ others)
    (first-word (codes "host") (decimal host ++ 32 ∷ tail) (record { inner = refl; some = omega arith })
    ∙ ap (λ others. codes "host" ∷ others) (first-word (decimal host) tail (number-word host)))))
    ∙ told (decimal transfer) (codes "host" ∷ decimal host ∷ words tail)
    ∙ numbers-turned h host small

-- that of a limit
limit-named : (h host : ℕ) → host < 2 ^ 64 → (after tail : List ℕ) → names_host h (codes "limit " ++ ((decimal host ++ 32 ∷ after) ++ tail)) ≡ (h == host)
limit-named h host small after tail =
    ap (names_host_in h)
    (first-word (codes "limit") _ (record { inner = refl; some = omega arith }) ∙ ap (λ others. codes "limit" ∷ others)
    (ap words (append_assoc (decimal host) (32 ∷ after) tail) ∙ first-word (decimal host) (after ++ tail) (number-word host)))
    ∙ numbers-turned h host small

event-named : (h host by moment : ℕ) (event : Event) → host < 2 ^ 64 → names_host h (event_text host by event ++ (codes " at " ++ decimal moment)) ≡ (h == host)
event-named h host by moment (Opened c want) small = connection-named h host c small (codes "opened") _ _ (record { inner = refl; some = omega arith }) (λ subject others. refl)
event-named h host by moment (Leased c want) small = connection-named h host c small (codes "leased") _ _ (record { inner = refl; some = omega arith }) (λ subject others. refl)
event-named h host by moment (Returned c facts) small = connection-named h host c small (codes "returned") _ _ (record { inner = refl; some = omega arith }) (λ subject others. refl)
event-named h host by moment (Closed c cause) small = connection-named h host c small (codes "closed") _ _ (record { inner = refl; some = omega arith }) (λ subject others. refl)
event-named h host by moment (Waited want) small = transfer-named h host want.transfer small (codes "waits") _ (record { inner = refl; some = omega arith }) (λ subject others. refl)
event-named h host by moment (Left transfer) small = transfer-named h host transfer small (codes "left") _ (record { inner = refl; some = omega arith }) (λ subject others. refl)
event-named h host by moment (Limit n) small = limit-named h host small _ _

pub entry-named : (h host : ℕ) (before : List Entry) (e : Entry) → host < 2 ^ 64 → names_host h (entry_text host before e) ≡ (h == host)
entry-named h host before e small = event-named h host (returned_by before e.event) e.moment e.event small
