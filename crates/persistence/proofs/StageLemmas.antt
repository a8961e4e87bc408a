-- Where a response that comes in pieces is read: what is told there, and where a piece leads.
use Rattle.std.proofs.Common.{◌≡◌, ◌≢◌, ℕ, ◌+◌, Bool, true, false, List, [], ◌++◌, take, drop, Option, None, Some, refl, sym, ap, subst, ◌∙◌, inl, inr, arith, append_assoc}
use Rattle.std.specs.Option.{MatchOption}
use Rattle.std.proofs.Math.Seq.{take-add}
use Rattle.std.proofs.lemmas.List.{append-nil}
use Rattle.httparse.specs.Grammar.{ResponseHead}
use Rattle.persistence.specs.declared.facts.Facts.{Facts}
use Rattle.persistence.specs.declared.body.kind.BodyKind.{BodyKind}
use Rattle.persistence.specs.declared.body.kind.BodyKind.TheVariants.{NoBody, Counted, Chunked, UntilClose}
use Rattle.persistence.specs.declared.facts.Framing.TheVariants.{Faulty}
use Rattle.persistence.specs.declared.answer.ReadFault.{ReadFault}
use Rattle.persistence.specs.declared.answer.ReadFault.TheVariants.{Memory, BadLength, BadChunk, TooManyInterims}
use Rattle.persistence.specs.declared.method.Method.{Method}
use Rattle.persistence.specs.declared.head.Head.{Head}
use Rattle.persistence.specs.declared.body.state.BodyState.{BodyState}
use Rattle.persistence.specs.declared.reader.stage.Stage.{Stage}
use Rattle.persistence.specs.declared.reader.stage.Stage.TheVariants.{Heads, Body, Fault}
use Rattle.persistence.specs.Fields.{fields_of, counted_length}
use Rattle.persistence.specs.Framing.{body_kind}
use Rattle.persistence.specs.Split.{EndsBody}
use Rattle.persistence.specs.Told.{facts_of_head, facts_before, facts_after_fault, is_some_text, HasNoFinalHead, TellsFacts, TellsFactsAfterFault, TellsStatus, TellsBodyLength, TellsLength}
use Rattle.persistence.specs.Faults.{BodyShows, ShowsFault, HasLongTrailerBy, HasLongSection, IsFaultless, IsFirst, IsFirstFault}
use Rattle.persistence.specs.Reader.{TellsWhole}
use Rattle.persistence.specs.ReadingHeads.{TellsHead, AwaitsHeads, EndsHeadsIn, NeverHasFinalHead}
use Rattle.persistence.specs.ReadingBody.{len_of, whole_of, surplus_of, HasNoEnd, BodyAt, FixesBody, TellsBody}
use Rattle.persistence.specs.ReadingStages.{PassesHead, IsInBody, TellsFinalHead, FixesLength, IsFaulty, IsAtStage, fault_at}
use Rattle.persistence.proofs.HeadLemmas.{no_final, nothing_shown, HasFinalHead-append}
use Rattle.persistence.proofs.StepLemmas.{first_further, taken_and_rest}
use Rattle.persistence.proofs.InterimLemmas.{nothing_awaited}
use Rattle.persistence.proofs.BodyLemmas.{tells_body}
use Rattle.persistence.proofs.ResponseLemmas.{faultless, first_in_body, final_unique, length_there, status_there, split_of, no_split, parts_of, facts_open, facts_whole, TellsNoHead, tells_before}

-- ---- where a head is due

-- nothing is wrong so far
pub heads_clean : (method : Method) (bytes : List ℕ) (count : ℕ) (kept : List ℕ) → AwaitsHeads bytes count kept → IsFaultless method bytes
heads_clean method bytes count kept at =
    nothing_shown at.interims bytes kept at.each at.awaited.none (let many = at.many in let few = at.few in omega (arith, many, few)) at.awaited.clean method

-- and there is no final head
pub heads_tell : (method : Method) (request_close : Bool) (bytes : List ℕ) (ended : Bool) (count : ℕ) (kept : List ℕ) → AwaitsHeads bytes count kept
    → TellsNoHead method request_close bytes ended
heads_tell method request_close bytes ended count kept at =
    tells_before method request_close bytes ended
    (λ head text has. no_final at.interims bytes kept at.each at.awaited.none head text has) (heads_clean method bytes count kept at)

-- ---- after the final head

module _ (method : Method) (bytes : List ℕ) (told : Head) (text : List ℕ) (passes : PassesHead bytes told text) where
  pub passes_status : TellsStatus bytes (Some told.status)
  passes_status = subst (λ n. TellsStatus bytes (Some n)) (sym passes.says.status) (status_there method passes.head bytes text passes.has)

  pub passes_length : (len : ℕ) → TellsBodyLength (body_kind method passes.head) told.fields.counted text len → TellsLength method bytes len
  passes_length len came =
      length_there method passes.head bytes text passes.has len
      (subst (λ (n : Option ℕ). TellsBodyLength (body_kind method passes.head) n text len) passes.says.fields.counted came)

  pub passes_fault : (fault : ReadFault) → IsFirst (BodyShows (body_kind method passes.head) told.fields.counted) (HasLongTrailerBy (body_kind method passes.head)) text fault
      → IsFirstFault method bytes fault
  passes_fault fault found =
      first_in_body method passes.head bytes text passes.has fault
      (subst (λ (n : Option ℕ). IsFirst (BodyShows (body_kind method passes.head) n) (HasLongTrailerBy (body_kind method passes.head)) text fault) passes.says.fields.counted found)

  module _ (ended : Bool) (len : ℕ) (whole surplus : Bool) (tells : TellsBody (body_kind method passes.head) told.fields.counted ended text len whole surplus) where
    here : TellsBody (body_kind method passes.head) (counted_length (fields_of passes.head)) ended text len whole surplus
    here = subst (λ (n : Option ℕ). TellsBody (body_kind method passes.head) n ended text len whole surplus) passes.says.fields.counted tells

    pub pieces_clean : IsFaultless method bytes
    pieces_clean = faultless method passes.head bytes text passes.has here.clean

    pub pieces_length : TellsLength method bytes len
    pieces_length = passes_length len tells.came

    -- what is known where it is whole, and where it is not
    abbrev Ends : Type 0
    Ends = (front : List ℕ) × (rest : List ℕ) × (text ≡ front ++ rest)
        × EndsBody (body_kind method passes.head) (counted_length (fields_of passes.head)) ended front rest × (surplus ≡ is_some_text rest)

    abbrev Lasts : Type 0
    Lasts = HasNoEnd (body_kind method passes.head) (counted_length (fields_of passes.head)) ended text × (surplus ≡ false)

    pub pieces_facts : (request_close : Bool) → TellsFacts method request_close bytes ended (facts_of_head method request_close passes.head whole surplus)
    pieces_facts request_close = go whole here.yes here.no
      where
        go : (whole : Bool) → (whole ≡ true → Ends) → (whole ≡ false → Lasts) → TellsFacts method request_close bytes ended (facts_of_head method request_close passes.head whole surplus)
        go true ends lasts =
            let e = ends refl in
            subst (λ b. TellsFacts method request_close bytes ended (facts_of_head method request_close passes.head true b)) (sym e.4)
            (facts_whole method passes.head bytes text passes.has ended request_close e.0 e.1 e.2 e.3)
        go false ends lasts =
            let e = lasts refl in
            subst (λ b. TellsFacts method request_close bytes ended (facts_of_head method request_close passes.head false b)) (sym e.1)
            (facts_open method passes.head bytes text passes.has ended request_close e.0)

    pub pieces_whole : TellsWhole method bytes ended whole
    pieces_whole = record {
      yes = λ is. (let e = here.yes is in (parts_of method passes.head bytes text passes.has ended e.0 e.1, split_of method passes.head bytes text passes.has ended e.0 e.1 e.2 e.3));
      no = λ is. no_split method passes.head bytes text passes.has ended (here.no is).0;
    }

  -- after a fault
  pub passes_facts : (request_close : Bool) → TellsFactsAfterFault method request_close bytes (facts_after_fault (facts_of_head method request_close passes.head false false))
  passes_facts request_close = record {
    before = λ none. absurd (none passes.head text passes.has);
    after = λ other rest has. ap (λ (h : ResponseHead). facts_after_fault (facts_of_head method request_close h false false)) (final_unique bytes passes.head other text rest passes.has has).0;
  }

-- one piece more after the final head
abbrev pub passes_more : (bytes text piece : List ℕ) (told : Head) → PassesHead bytes told text → PassesHead (bytes ++ piece) told (text ++ piece)
passes_more bytes text piece told passes = record { head = passes.head; has = HasFinalHead-append bytes piece passes.head text passes.has; says = passes.says }

-- what fixes the body's length fixes that of all bytes
pub passes_fixes : (method : Method) (bytes : List ℕ) (told : Head) (text : List ℕ) (passes : PassesHead bytes told text) (len : ℕ) → FixesBody (body_kind method passes.head) told.fields.counted text len
    → FixesLength method bytes len
passes_fixes method bytes told text passes len fixes more = passes_length method (bytes ++ more) told (text ++ more) (passes_more bytes text more told passes) len (fixes more)

-- the final head has just come
abbrev pub passes_now : (bytes kept : List ℕ) (told : Head) → EndsHeadsIn bytes kept told → PassesHead bytes told []
passes_now bytes kept told ends = record { head = ends.head; has = (ends.interims, ends.heads); says = ends.says }

-- ---- after a fault

pub never_now : (bytes : List ℕ) → NeverHasFinalHead bytes → HasNoFinalHead bytes
never_now bytes never = subst HasNoFinalHead (append-nil bytes) (never [])

pub never_facts : (method : Method) (request_close : Bool) (bytes : List ℕ) → NeverHasFinalHead bytes → TellsFactsAfterFault method request_close bytes (facts_before request_close)
never_facts method request_close bytes never = record { before = λ none. refl; after = λ head text has. absurd (never_now bytes never head text has) }

pub never_status : (bytes : List ℕ) → NeverHasFinalHead bytes → TellsStatus bytes None
never_status bytes never = record { before = λ none. refl; after = λ head text has. absurd (never_now bytes never head text has) }

pub never_fixes : (method : Method) (bytes : List ℕ) → NeverHasFinalHead bytes → FixesLength method bytes 0
never_fixes method bytes never more = record { before = λ none. refl; after = λ head text has. absurd (never more head text has) }

-- the number of body bytes that is fixed is told
pub fixed_length : (method : Method) (bytes : List ℕ) (len : ℕ) → FixesLength method bytes len → TellsLength method bytes len
fixed_length method bytes len fixes = subst (λ (t : List ℕ). TellsLength method t len) (append-nil bytes) (fixes [])

-- one piece more changes nothing
pub faulty_more : (method : Method) (bytes piece : List ℕ) (fault : ReadFault) (head : Option Head) (len : ℕ) → IsFaulty method bytes fault head len → IsFaulty method (bytes ++ piece) fault head len
faulty_more method bytes piece fault head len faulty = record {
  first = first_further (ShowsFault method) (HasLongSection method) bytes piece fault faulty.first;
  tells = go head faulty.tells;
  fixes = λ more. subst (λ (t : List ℕ). TellsLength method t len) (sym (append_assoc bytes piece more)) (faulty.fixes (piece ++ more));
}
  where
    go : (head : Option Head) → TellsFinalHead bytes head → TellsFinalHead (bytes ++ piece) head
    go None never = λ more. subst HasNoFinalHead (sym (append_assoc bytes piece more)) (never (piece ++ more))
    go (Some told) (text, passes) = (text ++ piece, passes_more bytes text piece told passes)

-- want of memory is never shown
pub memory_never : (method : Method) (bytes : List ℕ) (fault : ReadFault) → IsFirstFault method bytes fault → fault ≢ Memory
memory_never method bytes fault first is = never_shown method first.front (subst (ShowsFault method first.front) is first.shown)
  where
    in_body : (kind : BodyKind) (counted : Option ℕ) (text : List ℕ) → BodyShows kind counted text Memory → ⊥
    in_body NoBody counted text shown = shown
    in_body Counted counted text shown = (let e : Memory ≡ BadLength = shown.0 in cc)
    in_body Chunked counted text (inl shown) = (let e : Memory ≡ BadChunk = shown.0 in cc)
    in_body Chunked counted text (inr shown) = shown.shows
    in_body UntilClose counted text shown = (let e : Memory ≡ BadLength = shown.0 in cc)

    never_shown : (method : Method) (front : List ℕ) → ShowsFault method front Memory → ⊥
    never_shown method front (inl shown) = shown.shows
    never_shown method front (inr (inl shown)) = (let e : Memory ≡ TooManyInterims = shown.0 in cc)
    never_shown method front (inr (inr shown)) = in_body (body_kind method shown.head) (counted_length (fields_of shown.head)) shown.text shown.shows

-- ---- where the final head has just come

module _ (method : Method) (bytes kept : List ℕ) (told : Head) (ends : EndsHeadsIn bytes kept told) (kind : BodyKind) (is : kind ≡ body_kind method ends.head) where
  pub body_now : (state : BodyState) → BodyAt kind told.fields.counted [] state [] → IsInBody method bytes told state kept
  body_now state at = record {
    text = [];
    passes = passes_now bytes kept told ends;
    at = subst (λ (t : List ℕ). BodyAt (body_kind method ends.head) told.fields.counted [] state t) (sym ends.is) (subst (λ (k : BodyKind). BodyAt k told.fields.counted [] state []) is at);
  }

  pub fault_now : (piece : List ℕ) (fault : ReadFault) → IsFirst (BodyShows kind told.fields.counted) (HasLongTrailerBy kind) [] fault → FixesBody kind told.fields.counted [] 0
      → IsFaulty method (bytes ++ piece) fault (Some told) 0
  fault_now piece fault found fixes =
      faulty_more method bytes piece fault (Some told) 0
      (record {
        first = passes_fault method bytes told [] (passes_now bytes kept told ends) fault
            (subst (λ (k : BodyKind). IsFirst (BodyShows k told.fields.counted) (HasLongTrailerBy k) [] fault) is found);
        tells = ([], passes_now bytes kept told ends);
        fixes = passes_fixes method bytes told [] (passes_now bytes kept told ends) 0 (subst (λ (k : BodyKind). FixesBody k told.fields.counted [] 0) is fixes);
      })

-- ---- a piece that is read from a stage on

module _ (bytes piece rest : List ℕ) (at : ℕ) (is : rest ≡ drop at piece) where
  pub piece_whole : (bytes ++ take at piece) ++ rest ≡ bytes ++ piece
  piece_whole = ap (λ (t : List ℕ). (bytes ++ take at piece) ++ t) is ∙ taken_and_rest bytes piece (bytes ++ take at piece) at refl

  pub piece_further : (used : ℕ) → (bytes ++ take at piece) ++ take used rest ≡ bytes ++ take (at + used) piece
  piece_further used =
      ap (λ (t : List ℕ). (bytes ++ take at piece) ++ take used t) is ∙ append_assoc bytes (take at piece) (take used (drop at piece))
      ∙ ap (λ (t : List ℕ). bytes ++ t) (sym (take-add at used piece))

  -- and from a stage further on
  module _ (used : ℕ) (last : List ℕ) (after : last ≡ drop used rest) where
    pub piece_last : ((bytes ++ take at piece) ++ take used rest) ++ last ≡ bytes ++ piece
    piece_last = ap (λ (t : List ℕ). ((bytes ++ take at piece) ++ take used rest) ++ t) after
        ∙ taken_and_rest (bytes ++ take at piece) rest ((bytes ++ take at piece) ++ take used rest) used refl ∙ piece_whole

-- ---- any stage

-- nothing came yet
pub nothing_fed : (bytes kept : List ℕ) → bytes ≡ [] → kept ≡ [] → AwaitsHeads bytes 0 kept
nothing_fed bytes kept no_bytes none_kept =
    subst (λ (t : List ℕ). AwaitsHeads t 0 kept) (sym no_bytes)
    (subst (AwaitsHeads [] 0) (sym none_kept)
    (record { interims = []; many = refl; few = omega arith; each = refl; awaited = nothing_awaited; short = omega arith }))

module _ (method : Method) (bytes kept : List ℕ) where
  pub at_stage : (one other : Stage) → one ≡ other → IsAtStage method bytes one kept → IsAtStage method bytes other kept
  at_stage one other is reached = subst (λ (stage : Stage). IsAtStage method bytes stage kept) is reached

  module _ (told : Head) (state : BodyState) (at : IsInBody method bytes told state kept) where
    body_pieces : (ended : Bool) → TellsBody (body_kind method at.passes.head) told.fields.counted ended at.text (len_of state) (whole_of ended state) (surplus_of state)
    body_pieces ended = tells_body (body_kind method at.passes.head) told.fields.counted ended at.text state kept at.at

    pub body_status : TellsStatus bytes (Some told.status)
    body_status = passes_status method bytes told at.text at.passes

    pub body_length : TellsLength method bytes (len_of state)
    body_length = pieces_length method bytes told at.text at.passes false (len_of state) (whole_of false state) (surplus_of state) (body_pieces false)

    pub body_clean : IsFaultless method bytes
    body_clean = pieces_clean method bytes told at.text at.passes false (len_of state) (whole_of false state) (surplus_of state) (body_pieces false)

    pub body_whole : (ended : Bool) → TellsWhole method bytes ended (whole_of ended state)
    body_whole ended = pieces_whole method bytes told at.text at.passes ended (len_of state) (whole_of ended state) (surplus_of state) (body_pieces ended)

    pub body_facts : (request_close ended whole : Bool) (facts : Facts) → whole ≡ whole_of ended state
        → ((head : ResponseHead) → TellsHead head told → facts ≡ facts_of_head method request_close head whole (surplus_of state)) → TellsFacts method request_close bytes ended facts
    body_facts request_close ended whole facts is given =
        subst (TellsFacts method request_close bytes ended)
        (sym (given at.passes.head at.passes.says ∙ ap (λ b. facts_of_head method request_close at.passes.head b (surplus_of state)) is))
        (pieces_facts method bytes told at.text at.passes ended (len_of state) (whole_of ended state) (surplus_of state) (body_pieces ended) request_close)

    pub body_facts_whole : (request_close ended whole : Bool) (facts : Facts) → whole ≡ whole_of ended state
        → ((head : ResponseHead) → TellsHead head told → facts ≡ facts_of_head method request_close head whole (surplus_of state)) → TellsWhole method bytes ended facts.whole
    body_facts_whole request_close ended whole facts is given =
        subst (TellsWhole method bytes ended) (sym (ap (λ (f : Facts). f.whole) (given at.passes.head at.passes.says) ∙ is)) (body_whole ended)

  -- the bytes show the fault that is there, and none where there is none
  pub stage_shown : (stage : Stage) → IsAtStage method bytes stage kept → MatchOption (fault_at stage) (IsFaultless method bytes) (IsFirstFault method bytes)
  stage_shown (Heads count) at = heads_clean method bytes count kept at
  stage_shown (Body told state) at = body_clean told state at
  stage_shown (Fault fault head len) at = at.first

  -- a fault that is there is the first that the bytes show, and never want of memory
  pub stage_fault : (stage : Stage) → IsAtStage method bytes stage kept → (fault : ReadFault) → fault_at stage ≡ Some fault
      → (fault_at stage ≡ Some fault) × IsFirstFault method bytes fault × (fault ≢ Memory)
  stage_fault stage reached fault is =
      let first = subst (λ (f : Option ReadFault). MatchOption f (IsFaultless method bytes) (IsFirstFault method bytes)) is (stage_shown stage reached) in
      (is, first, memory_never method bytes fault first)

-- the status, after a fault
pub faulty_status : (method : Method) (bytes : List ℕ) (told : Head) → TellsFinalHead bytes (Some told) → TellsStatus bytes (Some told.status)
faulty_status method bytes told (text, passes) = passes_status method bytes told text passes

-- and the facts
pub faulty_facts : (method : Method) (request_close : Bool) (bytes : List ℕ) (told : Head) (facts : Facts) → TellsFinalHead bytes (Some told)
    → ((head : ResponseHead) → TellsHead head told → facts ≡ facts_of_head method request_close head false false)
    → TellsFactsAfterFault method request_close bytes (record facts { framing = Faulty })
faulty_facts method request_close bytes told facts (text, passes) given =
    subst (TellsFactsAfterFault method request_close bytes) (sym (ap (λ (f : Facts). record f { framing = Faulty }) (given passes.head passes.says)))
    (passes_facts method bytes told text passes request_close)
