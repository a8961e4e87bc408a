-- A response: what its bytes show after the final head, and what they tell.
use Rattle.std.proofs.Common.{◌≡◌, ℕ, ◌≤◌, ◌⊎◌, Bool, true, false, List, ◌∷◌, ◌++◌, length, None, Some, refl, sym, ap, subst, ◌∙◌, inl, inr, arith, append_assoc, length-append}
use Rattle.httparse.specs.Grammar.{ResponseHead, status_code}
use Rattle.persistence.specs.declared.answer.ReadFault.{ReadFault}
use Rattle.persistence.specs.declared.method.Method.{Method}
use Rattle.persistence.specs.Sequence.{ReadsEach}
use Rattle.persistence.specs.Limits.{most_interims}
use Rattle.persistence.specs.Heads.{ReadsInterim, ReadsHeads, HasFinalHead}
use Rattle.persistence.specs.Fields.{fields_of, counted_length}
use Rattle.persistence.specs.Framing.{body_kind}
use Rattle.persistence.specs.Split.{EndsBody, Parts, IsSplit}
use Rattle.persistence.specs.Told.{facts_of_head, facts_before, IsNotWhole, is_some_text, HasNoFinalHead, TellsFacts, TellsStatus, TellsBodyLength, TellsLength}
use Rattle.persistence.specs.Faults.{HeadShows, BodyShows, ShowsFault, IsFaultless, IsFirst, HasLongTrailerBy, HasLongSection, IsFirstFault}
use Rattle.persistence.specs.Reader.{TellsWhole}
use Rattle.persistence.specs.ReadingBody.{HasNoEnd}
use Rattle.persistence.proofs.SequenceLemmas.{print_each, each-append, Compared, same, longer, shorter, compared}
use Rattle.persistence.proofs.HeadLemmas.{interim_printed, final_printed, interim_or_final, head_shows_nothing, HeadShows-append, HasFinalHead-append, heads_unique}
use Rattle.persistence.proofs.SplitLemmas.{split_unique}

-- ---- where a final head stands

pub final_unique : (bytes : List ℕ) (a b : ResponseHead) (r q : List ℕ) → HasFinalHead bytes a r → HasFinalHead bytes b q → (a ≡ b) × (r ≡ q)
final_unique bytes a b r q x y = let u = heads_unique x.0 y.0 a b bytes r q x.1 y.1 in (u.1, u.2)

-- nothing is shown before it
nothing_in_head : (bytes : List ℕ) (head : ResponseHead) (text : List ℕ) → HasFinalHead bytes head text → (interims : List ResponseHead) (place : List ℕ) (fault : ReadFault)
    → ReadsEach ReadsInterim interims bytes place → HeadShows place fault → ⊥
nothing_in_head bytes head text (interims, heads) others place fault each shown = go (compared interim_printed interims others bytes heads.middle place heads.before.each each)
  where
    go : Compared interim_printed interims others heads.middle place → ⊥
    go (same e f) = head_shows_nothing head heads.middle text fault heads.reads.reads (subst (λ (t : List ℕ). HeadShows t fault) (sym f) shown)
    go (longer c cs m e reads) = head_shows_nothing c place m fault reads.reads shown
    go (shorter c cs m e reads) = interim_or_final c head heads.middle m text reads heads.reads

-- it is read the same whatever follows it
print_final : (bytes : List ℕ) (head : ResponseHead) (text : List ℕ) → HasFinalHead bytes head text
    → (front : List ℕ) × (bytes ≡ front ++ text) × ((more : List ℕ) → HasFinalHead (front ++ more) head more)
print_final bytes head text (interims, heads) =
    let p = print_each interim_printed interims bytes heads.middle heads.before.each in
    let q = final_printed.print head heads.middle text heads.reads in (
      p.0 ++ q.0,
      p.1 ∙ ap (λ (t : List ℕ). p.0 ++ t) q.1 ∙ sym (append_assoc p.0 q.0 text),
      λ more. (
        interims,
        record {
          middle = q.0 ++ more;
          before = record { few = heads.before.few; each = subst (λ (t : List ℕ). ReadsEach ReadsInterim interims t (q.0 ++ more)) (sym (append_assoc p.0 q.0 more)) (p.2 (q.0 ++ more)) };
          reads = q.2 more;
        },
      ),
    )

-- and no more interim heads stand before it than may
pub few_interims : (bytes : List ℕ) (head : ResponseHead) (text : List ℕ) → HasFinalHead bytes head text → (others : List ResponseHead) (place : List ℕ)
    → ReadsEach ReadsInterim others bytes place → length others ≤ most_interims
few_interims bytes head text (interims, heads) others place each = go (compared interim_printed interims others bytes heads.middle place heads.before.each each)
  where
    go : Compared interim_printed interims others heads.middle place → length others ≤ most_interims
    go (same e f) = omega (arith, ap length e, heads.before.few)
    go (longer c cs m e reads) = omega (arith, ap length e, length-append others (c ∷ cs), heads.before.few)
    go (shorter c cs m e reads) = absurd (interim_or_final c head heads.middle m text reads heads.reads)

module _ (method : Method) (head : ResponseHead) where
  -- what the body shows
  abbrev pub ShowsThere : List ℕ → ReadFault → Type 0
  ShowsThere text fault = BodyShows (body_kind method head) (counted_length (fields_of head)) text fault

  -- what bytes with that final head show is shown in the body
  shown_there : (bytes text : List ℕ) → HasFinalHead bytes head text → (fault : ReadFault) → ShowsFault method bytes fault → ShowsThere text fault
  shown_there bytes text has fault (inl shown) = absurd (nothing_in_head bytes head text has shown.interims shown.text fault shown.before.each shown.shows)
  shown_there bytes text has fault (inr (inl shown)) =
      absurd (omega (arith, few_interims bytes head text has shown.1.interims shown.1.rest shown.1.each, shown.1.many))
  shown_there bytes text has fault (inr (inr shown)) = moved (final_unique bytes shown.head head shown.text text shown.heads has)
    where
      moved : (shown.head ≡ head) × (shown.text ≡ text) → ShowsThere text fault
      moved (e, f) =
          subst (λ (h : ResponseHead). BodyShows (body_kind method h) (counted_length (fields_of h)) text fault) e
          (subst (λ (t : List ℕ). BodyShows (body_kind method shown.head) (counted_length (fields_of shown.head)) t fault) f shown.shows)

  pub faultless : (bytes text : List ℕ) → HasFinalHead bytes head text → ((fault : ReadFault) → ShowsThere text fault → ⊥) → IsFaultless method bytes
  faultless bytes text has clean fault shown = clean fault (shown_there bytes text has fault shown)

  -- a fault that the body shows first is the first fault of the bytes
  pub first_in_body : (bytes text : List ℕ) → HasFinalHead bytes head text → (fault : ReadFault)
      → IsFirst (BodyShows (body_kind method head) (counted_length (fields_of head))) (HasLongTrailerBy (body_kind method head)) text fault → IsFirstFault method bytes fault
  first_in_body bytes text has fault found =
      let p = print_final bytes head text has in
      record {
        front = p.0 ++ found.front;
        later = found.later;
        is = p.1 ∙ ap (λ (t : List ℕ). p.0 ++ t) found.is ∙ sym (append_assoc p.0 found.front found.later);
        shown = inr (inr (record { head = head; text = found.front; heads = p.2 found.front; shows = found.shown }));
        first = λ start next more other e shown. earlier (p.0 ++ found.front) (p.2 found.front) start next more other (sym e) shown;
      }
    where
      earlier : (front : List ℕ) → HasFinalHead front head found.front → (start : List ℕ) (next : ℕ) (more : List ℕ) (other : ReadFault)
          → start ++ next ∷ more ≡ front → ShowsFault method start other → (other ≡ fault) ⊎ HasLongSection method start
      earlier front final start next more other e (inl shown) =
          absurd (nothing_in_head front head found.front final shown.interims (shown.text ++ next ∷ more) other
          (subst (λ (t : List ℕ). ReadsEach ReadsInterim shown.interims t (shown.text ++ next ∷ more)) e (each-append interim_printed shown.interims start shown.text (next ∷ more) shown.before.each))
          (HeadShows-append shown.text (next ∷ more) other shown.shows))
      earlier front final start next more other e (inr (inl shown)) =
          absurd (omega (
            arith,
            few_interims front head found.front final shown.1.interims (shown.1.rest ++ next ∷ more)
                (subst (λ (t : List ℕ). ReadsEach ReadsInterim shown.1.interims t (shown.1.rest ++ next ∷ more)) e (each-append interim_printed shown.1.interims start shown.1.rest (next ∷ more) shown.1.each)),
            shown.1.many,
          ))
      earlier front final start next more other e (inr (inr shown)) =
          let further = subst (λ (t : List ℕ). HasFinalHead t shown.head (shown.text ++ next ∷ more)) e (HasFinalHead-append start (next ∷ more) shown.head shown.text shown.heads) in
          let u = final_unique front head shown.head found.front (shown.text ++ next ∷ more) final further in
          let there = subst (λ (h : ResponseHead). BodyShows (body_kind method h) (counted_length (fields_of h)) shown.text other) (sym u.0) shown.shows in
          elim (found.first shown.text next more other u.1 there) [
            | inl is ↦ inl is
            | inr long ↦ inr (inr (head, shown.text, subst (λ (h : ResponseHead). HasFinalHead start h shown.text) (sym u.0) shown.heads, long))
          ]

  -- ---- the body, and the response

  module _ (bytes text : List ℕ) (has : HasFinalHead bytes head text) where
    pub length_there : (len : ℕ) → TellsBodyLength (body_kind method head) (counted_length (fields_of head)) text len → TellsLength method bytes len
    length_there len came = record {
      before = λ none. absurd (none head text has);
      after = λ other rest further. (let u = final_unique bytes head other text rest has further in
          subst (λ (h : ResponseHead). TellsBodyLength (body_kind method h) (counted_length (fields_of h)) rest len) u.0
          (subst (λ (t : List ℕ). TellsBodyLength (body_kind method head) (counted_length (fields_of head)) t len) u.1 came));
    }

    pub status_there : TellsStatus bytes (Some (status_code head))
    status_there = record {
      before = λ none. absurd (none head text has);
      after = λ other rest further. ap (λ (h : ResponseHead). Some (status_code h)) (final_unique bytes head other text rest has further).0;
    }

    module _ (ended : Bool) where
      -- a body that ends splits the bytes
      abbrev pub parts_of : List ℕ → List ℕ → Parts
      parts_of front rest = record { interims = has.0; head = head; body = front; rest = rest }

      pub split_of : (front rest : List ℕ) → text ≡ front ++ rest → EndsBody (body_kind method head) (counted_length (fields_of head)) ended front rest
          → IsSplit method bytes ended (parts_of front rest)
      split_of front rest is ends = record { heads = subst (ReadsHeads has.0 head bytes) is has.1; body = ends }

      -- and a body that does not end leaves no split
      pub no_split : HasNoEnd (body_kind method head) (counted_length (fields_of head)) ended text → IsNotWhole method bytes ended
      no_split none parts split =
          let u = final_unique bytes parts.head head (parts.body ++ parts.rest) text (parts.interims, split.heads) has in
          none parts.body parts.rest (sym u.1) (subst (λ (h : ResponseHead). EndsBody (body_kind method h) (counted_length (fields_of h)) ended parts.body parts.rest) u.0 split.body)

      module _ (request_close : Bool) where
        pub facts_open : HasNoEnd (body_kind method head) (counted_length (fields_of head)) ended text
            → TellsFacts method request_close bytes ended (facts_of_head method request_close head false false)
        facts_open none = record {
          before = λ no_head. absurd (no_head head text has);
          after = λ other rest further open_end. ap (λ (h : ResponseHead). facts_of_head method request_close h false false) (final_unique bytes head other text rest has further).0;
          whole = λ parts split. absurd (no_split none parts split);
        }

        pub facts_whole : (front rest : List ℕ) → text ≡ front ++ rest → EndsBody (body_kind method head) (counted_length (fields_of head)) ended front rest
            → TellsFacts method request_close bytes ended (facts_of_head method request_close head true (is_some_text rest))
        facts_whole front rest is ends = record {
          before = λ no_head. absurd (no_head head text has);
          after = λ other more further open_end. absurd (open_end (parts_of front rest) (split_of front rest is ends));
          whole = λ parts split. ap (λ (p : Parts). facts_of_head method request_close p.head true (is_some_text p.rest))
              (split_unique method bytes ended (parts_of front rest) parts (split_of front rest is ends) split);
        }

-- ---- before a final head

-- what is told while a head is due
pub record TellsNoHead (method : Method) (request_close : Bool) (bytes : List ℕ) (ended : Bool) : Type 0 where
  pub faultless : IsFaultless method bytes
  pub status : TellsStatus bytes None
  pub facts : TellsFacts method request_close bytes ended (facts_before request_close)
  pub length : TellsLength method bytes 0
  pub whole : TellsWhole method bytes ended false

pub tells_before : (method : Method) (request_close : Bool) (bytes : List ℕ) (ended : Bool) → HasNoFinalHead bytes → IsFaultless method bytes
    → TellsNoHead method request_close bytes ended
tells_before method request_close bytes ended no_head clean = record {
  faultless = clean;
  status = record { before = λ none. refl; after = λ head text has. absurd (no_head head text has) };
  facts = record {
    before = λ none. refl;
    after = λ head text has open_end. absurd (no_head head text has);
    whole = λ parts split. absurd (no_whole parts split);
  };
  length = record { before = λ none. refl; after = λ head text has. absurd (no_head head text has) };
  whole = record { yes = λ e. absurd (cc); no = λ e parts split. no_whole parts split };
}
  where
    no_whole : (parts : Parts) → IsSplit method bytes ended parts → ⊥
    no_whole parts split = no_head parts.head (parts.body ++ parts.rest) (parts.interims, split.heads)
