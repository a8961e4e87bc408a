-- Heads, one after another: what a text shows where a head begins, and what it shows after the final one.
use Rattle.std.proofs.Common.{◌≡◌, ℕ, ◌+◌, ◌≤◌, ◌⊎◌, true, false, List, [], ◌∷◌, ◌++◌, length, take, drop, refl, sym, ap, subst, ◌∙◌, inl, inr, arith, append_assoc, length-append}
use Rattle.std.proofs.lemmas.List.{append-nil, take-append-le, take-append-drop, length-take-le}
use Rattle.httparse.specs.Grammar.{ResponseHead, ReadsResponse, print_response, HasNoResponse}
use Rattle.httparse.specs.Spans.{ResponseExceeds}
use Rattle.httparse.proofs.GrammarLemmas.{response_unique}
use Rattle.persistence.specs.declared.answer.ReadFault.{ReadFault}
use Rattle.persistence.specs.declared.answer.ReadFault.TheVariants.{Memory, BadHead, BadLength, BadChunk, HeadTooLong, TooManyInterims, TrailerTooLong}
use Rattle.persistence.specs.declared.method.Method.{Method}
use Rattle.persistence.specs.Sequence.{ReadsEach}
use Rattle.persistence.specs.Limits.{most_fields, most_head_bytes, most_interims}
use Rattle.persistence.specs.Heads.{is_interim, ReadsHead, ReadsInterim, ReadsFinal, ReadsHeads, HasFinalHead}
use Rattle.persistence.specs.Faults.{HeadShows, ShowsTooManyInterims, ShowsFault, IsFaultless, IsFirst, IsFirstFault, HasLongSection}
use Rattle.persistence.proofs.SequenceLemmas.{IsPrinted, Reads-append, print_each, each-append, Compared, same, longer, shorter, compared}
use Rattle.persistence.proofs.LineLemmas.{cut_twice}
use Rattle.persistence.proofs.HeadLines.{response_exceeds_none, print_response-some}

-- ---- a head is printed

pub head_printed : IsPrinted ReadsHead
head_printed = record {
  unique = λ a b text r q x y. response_unique text a b r q x.reads y.reads;
  print = λ a text r x. (print_response a, x.reads.1, λ more. record { reads = (x.reads.0, refl); few = x.few; short = x.short });
}

pub interim_printed : IsPrinted ReadsInterim
interim_printed = record {
  unique = λ a b text r q x y. head_printed.unique a b text r q x.reads y.reads;
  print = λ a text r x. (let p = head_printed.print a text r x.reads in (p.0, p.1, λ more. record { reads = p.2 more; interim = x.interim }));
}

pub final_printed : IsPrinted ReadsFinal
final_printed = record {
  unique = λ a b text r q x y. head_printed.unique a b text r q x.reads y.reads;
  print = λ a text r x. (let p = head_printed.print a text r x.reads in (p.0, p.1, λ more. record { reads = p.2 more; final = x.final }));
}

-- no text is both
pub interim_or_final : (a b : ResponseHead) (text r q : List ℕ) → ReadsInterim a text r → ReadsFinal b text q → ⊥
interim_or_final a b text r q x y =
    let e = head_printed.unique a b text r q x.reads y.reads in
    let i : is_interim b ≡ true = subst (λ (h : ResponseHead). is_interim h ≡ true) e.0 x.interim in
    let f : is_interim b ≡ false = y.final in
    cc

-- ---- what a text shows where a head begins

pub HeadShows-append : (text more : List ℕ) (fault : ReadFault) → HeadShows text fault → HeadShows (text ++ more) fault
HeadShows-append text more BadHead never = λ further. subst HasNoResponse (sym (append_assoc text more further)) (never (more ++ further))
HeadShows-append text more HeadTooLong (inl (long, none)) =
    inl (omega (arith, length-append text more), subst HasNoResponse (sym (take-append-le most_head_bytes text more long)) none)
HeadShows-append text more HeadTooLong (inr found) =
    inr (found.0, found.1 ++ more, ap (λ (t : List ℕ). t ++ more) found.2 ∙ append_assoc found.0 found.1 more, found.3, found.4, found.5)
HeadShows-append text more Memory shown = absurd shown
HeadShows-append text more BadLength shown = absurd shown
HeadShows-append text more BadChunk shown = absurd shown
HeadShows-append text more TooManyInterims shown = absurd shown
HeadShows-append text more TrailerTooLong shown = absurd shown

-- a text that begins with a head shows nothing there
pub head_shows_nothing : (h : ResponseHead) (text rest : List ℕ) (fault : ReadFault) → ReadsHead h text rest → HeadShows text fault → ⊥
head_shows_nothing h text rest BadHead reads never = never [] h rest (subst (λ (t : List ℕ). ReadsResponse t h rest) (sym (append-nil text)) reads.reads)
head_shows_nothing h text rest HeadTooLong reads (inl (long, none)) =
    elim (cut_twice (take most_head_bytes text) (drop most_head_bytes text) (print_response h) rest (take-append-drop most_head_bytes text ∙ reads.reads.1)) [
      | inl (z, p, q) ↦ none h [] (reads.reads.0, exact z p (length-take-le most_head_bytes text long) ∙ sym (append-nil _))
      | inr (z, w, p, q) ↦ none h (z ∷ w) (reads.reads.0, p)
    ]
  where
    exact : (z : List ℕ) → print_response h ≡ take most_head_bytes text ++ z → length (take most_head_bytes text) ≡ most_head_bytes → take most_head_bytes text ≡ print_response h
    exact [] p full = sym (p ∙ append-nil _)
    exact (a ∷ z) p full = absurd (omega (arith, full, ap length p, length-append (take most_head_bytes text) (a ∷ z), reads.short))
head_shows_nothing h text rest HeadTooLong reads (inr exceeds) =
    let many = response_exceeds_none most_fields text [] exceeds h rest (subst (λ (t : List ℕ). ReadsResponse t h rest) (sym (append-nil text)) reads.reads) in
    absurd (omega (arith, many, reads.few))
head_shows_nothing h text rest Memory reads shown = shown
head_shows_nothing h text rest BadLength reads shown = shown
head_shows_nothing h text rest BadChunk reads shown = shown
head_shows_nothing h text rest TooManyInterims reads shown = shown
head_shows_nothing h text rest TrailerTooLong reads shown = shown

-- ---- where no head begins

-- no head begins the text
abbrev pub HasNoHead : List ℕ → Type 0
HasNoHead text = (h : ResponseHead) (rest : List ℕ) → ReadsHead h text rest → ⊥

-- ---- a final head

ReadsHeads-append : (interims : List ResponseHead) (head : ResponseHead) (bytes text more : List ℕ) → ReadsHeads interims head bytes text
    → ReadsHeads interims head (bytes ++ more) (text ++ more)
ReadsHeads-append interims head bytes text more heads = record {
  middle = heads.middle ++ more;
  before = record { few = heads.before.few; each = each-append interim_printed interims bytes heads.middle more heads.before.each };
  reads = Reads-append final_printed head heads.middle text more heads.reads;
}

pub HasFinalHead-append : (bytes more : List ℕ) (head : ResponseHead) (text : List ℕ) → HasFinalHead bytes head text → HasFinalHead (bytes ++ more) head (text ++ more)
HasFinalHead-append bytes more head text (interims, heads) = (interims, ReadsHeads-append interims head bytes text more heads)

-- there is at most one
pub heads_unique : (xs ys : List ResponseHead) (a b : ResponseHead) (bytes r q : List ℕ) → ReadsHeads xs a bytes r → ReadsHeads ys b bytes q
    → (xs ≡ ys) × (a ≡ b) × (r ≡ q)
heads_unique xs ys a b bytes r q x y = go (compared interim_printed xs ys bytes x.middle y.middle x.before.each y.before.each)
  where
    go : Compared interim_printed xs ys x.middle y.middle → (xs ≡ ys) × (a ≡ b) × (r ≡ q)
    go (same e f) =
        let u = final_printed.unique a b y.middle r q (subst (λ (t : List ℕ). ReadsFinal a t r) f x.reads) y.reads in
        (e, u.0, u.1)
    go (longer c cs m e reads) = absurd (interim_or_final c b y.middle m q reads y.reads)
    go (shorter c cs m e reads) = absurd (interim_or_final c a x.middle m r reads x.reads)

-- ---- no head

module _ (interims : List ResponseHead) (bytes text : List ℕ) (each : ReadsEach ReadsInterim interims bytes text) (none : HasNoHead text) where
  pub no_final : (head : ResponseHead) (rest : List ℕ) → HasFinalHead bytes head rest → ⊥
  no_final head rest (others, heads) = go (compared interim_printed interims others bytes text heads.middle each heads.before.each)
    where
      go : Compared interim_printed interims others text heads.middle → ⊥
      go (same e f) = none head rest (subst (λ (t : List ℕ). ReadsHead head t rest) (sym f) heads.reads.reads)
      go (longer c cs m e reads) = interim_or_final c head heads.middle m rest reads heads.reads
      go (shorter c cs m e reads) = none c m reads.reads

  pub no_many : length interims ≤ most_interims → ShowsTooManyInterims bytes → ⊥
  no_many few shows = go (compared interim_printed interims shows.interims bytes text shows.rest each shows.each)
    where
      go : Compared interim_printed interims shows.interims text shows.rest → ⊥
      go (same e f) = omega (arith, few, shows.many, ap length e)
      go (longer c cs m e reads) = omega (arith, few, shows.many, ap length e, length-append shows.interims (c ∷ cs))
      go (shorter c cs m e reads) = none c m reads.reads

  -- what is shown is shown there
  pub shown_there : (others : List ResponseHead) (place : List ℕ) (fault : ReadFault) → ReadsEach ReadsInterim others bytes place
      → HeadShows place fault → place ≡ text
  shown_there others place fault other shown = go (compared interim_printed interims others bytes text place each other)
    where
      go : Compared interim_printed interims others text place → place ≡ text
      go (same e f) = sym f
      go (longer c cs m e reads) = absurd (head_shows_nothing c place m fault reads.reads shown)
      go (shorter c cs m e reads) = absurd (none c m reads.reads)

  -- where a head still comes, the bytes have no final head and show no fault
  pub nothing_shown : length interims ≤ most_interims → ((fault : ReadFault) → HeadShows text fault → ⊥) → (method : Method) → IsFaultless method bytes
  nothing_shown few clean method fault (inl shown) =
      clean fault (subst (λ (t : List ℕ). HeadShows t fault) (shown_there shown.interims shown.text fault shown.before.each shown.shows) shown.shows)
  nothing_shown few clean method fault (inr (inl shown)) = no_many few shown.1
  nothing_shown few clean method fault (inr (inr shown)) = no_final shown.head shown.text shown.heads

-- a fault that the text where a head begins shows first is the first fault of the bytes
pub first_in_head : (interims : List ResponseHead) (bytes text : List ℕ) → ReadsEach ReadsInterim interims bytes text → length interims ≤ most_interims
    → (fault : ReadFault) → IsFirst HeadShows (ResponseExceeds most_fields) text fault → (method : Method) → IsFirstFault method bytes fault
first_in_head interims bytes text each few fault found method =
    let p = print_each interim_printed interims bytes text each in
    record {
      front = p.0 ++ found.front;
      later = found.later;
      is = p.1 ∙ ap (λ (t : List ℕ). p.0 ++ t) found.is ∙ sym (append_assoc p.0 found.front found.later);
      shown = inl (record { interims = interims; text = found.front; before = record { few = few; each = p.2 found.front }; shows = found.shown });
      first = λ start next more other e shown. (let e' : start ++ next ∷ more ≡ p.0 ++ found.front = sym e in earlier p.0 (p.2 found.front) start next more other e' shown);
    }
  where
    no_head : HasNoHead found.front
    no_head h rest reads = head_shows_nothing h found.front rest fault reads found.shown

    earlier : (front : List ℕ) → ReadsEach ReadsInterim interims (front ++ found.front) found.front → (start : List ℕ) (next : ℕ) (more : List ℕ) (other : ReadFault)
        → start ++ next ∷ more ≡ front ++ found.front → ShowsFault method start other → (other ≡ fault) ⊎ HasLongSection method start
    earlier front all start next more other e (inl shown) =
        let further = subst (λ (t : List ℕ). ReadsEach ReadsInterim shown.interims t (shown.text ++ next ∷ more)) e (each-append interim_printed shown.interims start shown.text (next ∷ more) shown.before.each) in
        let there = shown_there interims (front ++ found.front) found.front all no_head shown.interims (shown.text ++ next ∷ more) other further (HeadShows-append shown.text (next ∷ more) other shown.shows) in
        elim (found.first shown.text next more other (sym there) shown.shows) [
          | inl is ↦ inl is
          | inr exceeds ↦ inr (inl (record { interims = shown.interims; text = shown.text; before = shown.before; exceeds = exceeds }))
        ]
    earlier front all start next more other e (inr (inl shown)) =
        absurd (no_many interims (front ++ found.front) found.front all no_head few
        (record {
          interims = shown.1.interims;
          rest = shown.1.rest ++ next ∷ more;
          each = subst (λ (t : List ℕ). ReadsEach ReadsInterim shown.1.interims t (shown.1.rest ++ next ∷ more)) e (each-append interim_printed shown.1.interims start shown.1.rest (next ∷ more) shown.1.each);
          many = shown.1.many;
        }))
    earlier front all start next more other e (inr (inr shown)) =
        absurd (no_final interims (front ++ found.front) found.front all no_head shown.head (shown.text ++ next ∷ more)
        (subst (λ (t : List ℕ). HasFinalHead t shown.head (shown.text ++ next ∷ more)) e (HasFinalHead-append start (next ∷ more) shown.head shown.text shown.heads)))

-- one interim head more than may come
pub first_many : (interims : List ResponseHead) (bytes text : List ℕ) → ReadsEach ReadsInterim interims bytes text → length interims ≡ most_interims + 1
    → (method : Method) → IsFirstFault method bytes TooManyInterims
first_many interims bytes text each many method =
    let p = print_each interim_printed interims bytes text each in
    record {
      front = p.0 ++ [];
      later = text;
      is = p.1 ∙ ap (λ (t : List ℕ). t ++ text) (sym (append-nil p.0));
      shown = inr (inl (refl, record { interims = interims; rest = []; each = p.2 []; many = omega arith }));
      first = λ start next more other e shown. absurd (earlier (p.0 ++ []) (p.2 []) start next more other (sym e) shown);
    }
  where
    -- an earlier front has fewer interim heads
    fewer : (front : List ℕ) → ReadsEach ReadsInterim interims front [] → (others : List ResponseHead) (place : List ℕ) (next : ℕ) (more : List ℕ)
        → ReadsEach ReadsInterim others front (place ++ next ∷ more)
        → (c : ResponseHead) × (cs : List ResponseHead) × (m : List ℕ) × (interims ≡ others ++ c ∷ cs) × ReadsInterim c (place ++ next ∷ more) m
    fewer front all others place next more each = go (compared interim_printed interims others front [] (place ++ next ∷ more) all each)
      where
        nothing : (place : List ℕ) → [] ≡ place ++ next ∷ more → ⊥
        nothing [] e = cc
        nothing (x ∷ place) e = cc

        go : Compared interim_printed interims others [] (place ++ next ∷ more)
            → (c : ResponseHead) × (cs : List ResponseHead) × (m : List ℕ) × (interims ≡ others ++ c ∷ cs) × ReadsInterim c (place ++ next ∷ more) m
        go (same e f) = absurd (nothing place f)
        go (longer c cs m e reads) = (c, cs, m, e, reads)
        go (shorter c cs m e reads) = absurd (no_empty c m reads)
          where
            no_empty : (c : ResponseHead) (m : List ℕ) → ReadsInterim c [] m → ⊥
            no_empty c m reads = empty_head (print_response c) m (print_response-some c) reads.reads.reads.1
              where
                empty_head : (front m : List ℕ) → 1 ≤ length front → [] ≡ front ++ m → ⊥
                empty_head [] m some e = omega arith
                empty_head (x ∷ front) m some e = cc

    earlier : (front : List ℕ) → ReadsEach ReadsInterim interims front [] → (start : List ℕ) (next : ℕ) (more : List ℕ) (other : ReadFault)
        → start ++ next ∷ more ≡ front → ShowsFault method start other → ⊥
    earlier front all start next more other e (inl shown) =
        let further = subst (λ (t : List ℕ). ReadsEach ReadsInterim shown.interims t (shown.text ++ next ∷ more)) e (each-append interim_printed shown.interims start shown.text (next ∷ more) shown.before.each) in
        let f = fewer front all shown.interims shown.text next more further in
        head_shows_nothing f.0 (shown.text ++ next ∷ more) f.2 other f.4.reads (HeadShows-append shown.text (next ∷ more) other shown.shows)
    earlier front all start next more other e (inr (inl shown)) =
        let further = subst (λ (t : List ℕ). ReadsEach ReadsInterim shown.1.interims t (shown.1.rest ++ next ∷ more)) e (each-append interim_printed shown.1.interims start shown.1.rest (next ∷ more) shown.1.each) in
        let f = fewer front all shown.1.interims shown.1.rest next more further in
        omega (arith, many, shown.1.many, ap length f.3, length-append shown.1.interims (f.0 ∷ f.1))
    earlier front all start next more other e (inr (inr shown)) =
        let heads = subst (λ (t : List ℕ). HasFinalHead t shown.head (shown.text ++ next ∷ more)) e (HasFinalHead-append start (next ∷ more) shown.head shown.text shown.heads) in
        final_follows heads.0 heads.1
      where
        final_follows : (others : List ResponseHead) → ReadsHeads others shown.head front (shown.text ++ next ∷ more) → ⊥
        final_follows others heads = go (compared interim_printed interims others front [] heads.middle all heads.before.each)
          where
            go : Compared interim_printed interims others [] heads.middle → ⊥
            go (same e f) = omega (arith, many, heads.before.few, ap length e)
            go (longer c cs m e reads) = interim_or_final c shown.head heads.middle m (shown.text ++ next ∷ more) reads heads.reads
            go (shorter c cs m e reads) = omega (arith, many, heads.before.few, ap length e, length-append interims (c ∷ cs))
