-- A body in chunks: what its text shows, and what it tells.
use Rattle.std.proofs.Common.{◌≡◌, ℕ, ◌+◌, ◌≤◌, ◌⊎◌, Bool, false, List, [], ◌∷◌, ◌++◌, Option, refl, sym, ap, subst, ◌∙◌, inl, inr, arith, append_assoc, sum}
use Rattle.std.proofs.lemmas.List.{append-nil}
use Rattle.std.proofs.lemmas.List.Sums.{sum_by-cons, sum_by-append}
use Rattle.httparse.specs.Spans.{SectionExceeds}
use Rattle.persistence.specs.declared.body.kind.BodyKind.TheVariants.{Chunked}
use Rattle.persistence.specs.declared.answer.ReadFault.{ReadFault}
use Rattle.persistence.specs.Sequence.{ReadsEach}
use Rattle.persistence.specs.Limits.{most_fields, most_bytes}
use Rattle.persistence.specs.Chunks.{ReadsSizeLine, ReadsChunk, ReadsChunks, room_after, ReadsTrailer, ReachesTrailer, ReadsChunked}
use Rattle.persistence.specs.Told.{HasNoChunk, TellsBegun, TellsChunkData}
use Rattle.persistence.specs.Faults.{NeverHasChunk, TrailerShows, ShowsBadChunk, ChunkedShows, IsFirst, HasLongTrailer}
use Rattle.persistence.specs.ReadingChunks.{IsTrailerAwaited, AwaitsChunks, IsFirstBadChunk, ReachesSection, IsFirstInChunks}
use Rattle.persistence.specs.ReadingBody.{TellsBody}
use Rattle.persistence.proofs.SequenceLemmas.{print_each, each-append, Compared, same, longer, shorter, compared}
use Rattle.persistence.proofs.ChunkLemmas.{chunk_printed, size_line_printed, size_line_unique, no_last, reaches_unique}
use Rattle.persistence.proofs.TrailerLemmas.{trailer_shows_nothing}

-- ---- one chunk after another

pub sum-append : (xs ys : List ℕ) → sum (xs ++ ys) ≡ sum xs + sum ys
sum-append xs ys = sum_by-append (λ x. x) xs ys

-- what stands before a trailer section is read the same whatever follows it
pub print_reaches : (sizes text trailer : List ℕ) → ReachesTrailer sizes text trailer
    → (front : List ℕ) × (text ≡ front ++ trailer) × ((more : List ℕ) → ReachesTrailer sizes (front ++ more) more)
print_reaches sizes text trailer reaches =
    let p = print_each chunk_printed sizes text reaches.middle reaches.chunks.each in
    let q = size_line_printed.print 0 reaches.middle trailer reaches.last in (
      p.0 ++ q.0,
      p.1 ∙ ap (λ (t : List ℕ). p.0 ++ t) q.1 ∙ sym (append_assoc p.0 q.0 trailer),
      λ more. record {
        middle = q.0 ++ more;
        chunks = record { few = reaches.chunks.few; each = subst (λ (t : List ℕ). ReadsEach ReadsChunk sizes t (q.0 ++ more)) (sym (append_assoc p.0 q.0 more)) (p.2 (q.0 ++ more)) };
        last = q.2 more;
      },
    )

pub ReachesTrailer-append : (sizes text trailer more : List ℕ) → ReachesTrailer sizes text trailer → ReachesTrailer sizes (text ++ more) (trailer ++ more)
ReachesTrailer-append sizes text trailer more reaches =
    let p = print_reaches sizes text trailer reaches in
    subst (λ (t : List ℕ). ReachesTrailer sizes t (trailer ++ more)) (sym (append_assoc p.0 trailer more) ∙ ap (λ (t : List ℕ). t ++ more) (sym p.1)) (p.2 (trailer ++ more))

pub ShowsBadChunk-append : (text more : List ℕ) → ShowsBadChunk text → ShowsBadChunk (text ++ more)
ShowsBadChunk-append text more shows = record {
  sizes = shows.sizes;
  rest = shows.rest ++ more;
  chunks = record { few = shows.chunks.few; each = each-append chunk_printed shows.sizes text shows.rest more shows.chunks.each };
  never = record {
    last = λ further rest reads. shows.never.last (more ++ further) rest (subst (λ (t : List ℕ). ReadsSizeLine 0 t rest) (append_assoc shows.rest more further) reads);
    chunk = λ size further rest fits reads. shows.never.chunk size (more ++ further) rest fits (subst (λ (t : List ℕ). ReadsChunk size t rest) (append_assoc shows.rest more further) reads);
  };
}

-- a chunk that stands in the text can follow the chunks before it
follows : (xs ys : List ℕ) (c : ℕ) (cs : List ℕ) → xs ≡ ys ++ c ∷ cs → sum xs ≤ most_bytes → c ≤ room_after ys
follows xs ys c cs e few = let first : sum (c ∷ cs) ≡ c + sum cs = sum_by-cons (λ x. x) c cs in omega (arith, ap sum e, sum-append ys (c ∷ cs), first, few)

no_more : (room : ℕ) (rest m : List ℕ) (c : ℕ) → NeverHasChunk room rest → c ≤ room → ReadsChunk c rest m → ⊥
no_more room rest m c never fits reads = never.chunk c [] m fits (subst (λ (t : List ℕ). ReadsChunk c t m) (sym (append-nil rest)) reads)

-- where the trailer section begins no chunk is missing
pub reaches_no_bad : (sizes text trailer : List ℕ) → ReachesTrailer sizes text trailer → ShowsBadChunk text → ⊥
reaches_no_bad sizes text trailer reaches shows = go (compared chunk_printed sizes shows.sizes text reaches.middle shows.rest reaches.chunks.each shows.chunks.each)
  where
    go : Compared chunk_printed sizes shows.sizes reaches.middle shows.rest → ⊥
    go (same e f) = shows.never.last [] trailer (subst (λ (t : List ℕ). ReadsSizeLine 0 t trailer) (f ∙ sym (append-nil shows.rest)) reaches.last)
    go (longer c cs m e reads) = no_more (room_after shows.sizes) shows.rest m c shows.never (follows sizes shows.sizes c cs e reaches.chunks.few) reads
    go (shorter c cs m e reads) = no_last c reaches.middle m trailer reads reaches.last

-- whole chunks that no whole one follows, and what came of the next, are all the data
pub all_data : (sizes text rest : List ℕ) (begun len : ℕ) → ReadsChunks sizes text rest → HasNoChunk (room_after sizes) rest → TellsBegun (room_after sizes) rest begun
    → len ≡ sum sizes + begun → TellsChunkData text len
all_data sizes text rest begun len chunks last tells sums others place passes none = go (compared chunk_printed sizes others text rest place chunks.each passes.each)
  where
    go : Compared chunk_printed sizes others rest place → (b : ℕ) × TellsBegun (room_after others) place b × (len ≡ sum others + b)
    go (same e f) = (
      begun,
      subst (λ (t : List ℕ). TellsBegun (room_after others) t begun) f (subst (λ (xs : List ℕ). TellsBegun (room_after xs) rest begun) e tells),
      sums ∙ ap (λ (xs : List ℕ). sum xs + begun) e,
    )
    go (longer c cs m e reads) = absurd (none c m (follows sizes others c cs e chunks.few) reads)
    go (shorter c cs m e reads) = absurd (last c m (follows others sizes c cs e passes.few) reads)

-- the data before the trailer section
pub reaches_data : (sizes text trailer : List ℕ) → ReachesTrailer sizes text trailer → TellsChunkData text (sum sizes)
reaches_data sizes text trailer reaches =
    all_data sizes text reaches.middle 0 (sum sizes) reaches.chunks (λ c m fits reads. no_last c reaches.middle m trailer reads reaches.last)
    (record {
      before = λ none. refl;
      after = λ size after fits reads. (let u = size_line_unique size 0 reaches.middle after trailer reads reaches.last in omega (arith, u.0));
    })
    (omega arith)

-- ---- chunks that have not ended

module _ (text : List ℕ) (len : ℕ) (awaits : AwaitsChunks text len) where
  awaits_no_bad : ShowsBadChunk text → ⊥
  awaits_no_bad shows = go (compared chunk_printed awaits.sizes shows.sizes text awaits.rest shows.rest awaits.chunks.each shows.chunks.each)
    where
      go : Compared chunk_printed awaits.sizes shows.sizes awaits.rest shows.rest → ⊥
      go (same e f) = awaits.awaits.can (subst (λ (t : List ℕ). NeverHasChunk (room_after awaits.sizes) t) (sym f) (subst (λ (xs : List ℕ). NeverHasChunk (room_after xs) shows.rest) (sym e) shows.never))
      go (longer c cs m e reads) = no_more (room_after shows.sizes) shows.rest m c shows.never (follows awaits.sizes shows.sizes c cs e awaits.chunks.few) reads
      go (shorter c cs m e reads) = awaits.awaits.none c m (follows shows.sizes awaits.sizes c cs e shows.chunks.few) reads

  awaits_no_trailer : (sizes trailer : List ℕ) → ReachesTrailer sizes text trailer → ⊥
  awaits_no_trailer sizes trailer reaches = go (compared chunk_printed awaits.sizes sizes text awaits.rest reaches.middle awaits.chunks.each reaches.chunks.each)
    where
      go : Compared chunk_printed awaits.sizes sizes awaits.rest reaches.middle → ⊥
      go (same e f) = awaits.awaits.last trailer (subst (λ (t : List ℕ). ReadsSizeLine 0 t trailer) (sym f) reaches.last)
      go (longer c cs m e reads) = no_last c reaches.middle m trailer reads reaches.last
      go (shorter c cs m e reads) = awaits.awaits.none c m (follows sizes awaits.sizes c cs e reaches.chunks.few) reads

  awaits_data : TellsChunkData text len
  awaits_data = all_data awaits.sizes text awaits.rest awaits.begun len awaits.chunks awaits.awaits.none awaits.awaits.tells awaits.sums

  pub tells_awaited : (counted : Option ℕ) (ended : Bool) → TellsBody Chunked counted ended text len false false
  tells_awaited counted ended = record {
    clean = clean;
    came = awaits_data;
    yes = λ e. absurd (cc);
    no = λ e. (λ front rest e ends. awaits_no_trailer ends.0 ends.1.trailer (subst (λ (t : List ℕ). ReachesTrailer ends.0 t ends.1.trailer) (sym e) ends.1.chunks), refl);
  }
    where
      clean : (fault : ReadFault) → ChunkedShows text fault → ⊥
      clean fault (inl shown) = awaits_no_bad shown.1
      clean fault (inr shown) = awaits_no_trailer shown.sizes shown.trailer shown.reaches

-- ---- chunks that have ended

module _ (text : List ℕ) (len : ℕ) (kept : List ℕ) (ends : ReachesSection text len kept) where
  -- what the chunks show is what the trailer section shows
  clean_after : ((fault : ReadFault) → TrailerShows kept fault → ⊥) → (fault : ReadFault) → ChunkedShows text fault → ⊥
  clean_after clean fault (inl shown) = reaches_no_bad ends.sizes text kept ends.reaches shown.1
  clean_after clean fault (inr shown) =
      let u = reaches_unique shown.sizes ends.sizes text shown.trailer kept shown.reaches ends.reaches in
      clean fault (subst (λ (t : List ℕ). TrailerShows t fault) u.1 shown.shows)

  -- the data of the chunks is all
  pub data_before : TellsChunkData text len
  data_before = subst (TellsChunkData text) ends.sums (reaches_data ends.sizes text kept ends.reaches)

  pub tells_open_trailer : (counted : Option ℕ) (ended : Bool) → IsTrailerAwaited kept → TellsBody Chunked counted ended text len false false
  tells_open_trailer counted ended awaited = record {
    clean = clean_after awaited.clean;
    came = data_before;
    yes = λ e. absurd (cc);
    no = λ e. (no_end, refl);
  }
    where
      no_end : (front rest : List ℕ) → text ≡ front ++ rest → (sizes : List ℕ) × ReadsChunked sizes (front ++ rest) rest → ⊥
      no_end front rest e (sizes, chunked) =
          let u = reaches_unique sizes ends.sizes text chunked.trailer kept (subst (λ (t : List ℕ). ReachesTrailer sizes t chunked.trailer) (sym e) chunked.chunks) ends.reaches in
          awaited.none rest (subst (λ (t : List ℕ). ReadsTrailer t rest) u.1 chunked.reads)

  -- nothing is wrong with a body in chunks that has ended
  pub clean_at_end : (rest : List ℕ) → ReadsTrailer kept rest → (fault : ReadFault) → ChunkedShows text fault → ⊥
  clean_at_end rest reads = clean_after (λ fault shown. trailer_shows_nothing kept rest fault reads shown)

  -- the fault that the trailer section shows first
  pub first_in_trailer : (fault : ReadFault) → IsFirst TrailerShows (SectionExceeds most_fields) kept fault → IsFirstInChunks text fault
  first_in_trailer fault found =
      let p = print_reaches ends.sizes text kept ends.reaches in
      record {
        front = p.0 ++ found.front;
        later = found.later;
        is = p.1 ∙ ap (λ (t : List ℕ). p.0 ++ t) found.is ∙ sym (append_assoc p.0 found.front found.later);
        shown = inr (record { sizes = ends.sizes; trailer = found.front; reaches = p.2 found.front; shows = found.shown });
        first = λ start next more other e shown. earlier (p.0 ++ found.front) (p.2 found.front) start next more other (sym e) shown;
      }
    where
      earlier : (front : List ℕ) → ReachesTrailer ends.sizes front found.front → (start : List ℕ) (next : ℕ) (more : List ℕ) (other : ReadFault)
          → start ++ next ∷ more ≡ front → ChunkedShows start other → (other ≡ fault) ⊎ HasLongTrailer start
      earlier front reaches start next more other e (inl shown) =
          absurd (reaches_no_bad ends.sizes front found.front reaches (subst ShowsBadChunk e (ShowsBadChunk-append start (next ∷ more) shown.1)))
      earlier front reaches start next more other e (inr shown) =
          let further = subst (λ (t : List ℕ). ReachesTrailer shown.sizes t (shown.trailer ++ next ∷ more)) e (ReachesTrailer-append shown.sizes start shown.trailer (next ∷ more) shown.reaches) in
          let u = reaches_unique ends.sizes shown.sizes front found.front (shown.trailer ++ next ∷ more) reaches further in
          elim (found.first shown.trailer next more other u.1 shown.shows) [
            | inl is ↦ inl is
            | inr exceeds ↦ inr (record { sizes = shown.sizes; trailer = shown.trailer; reaches = shown.reaches; exceeds = exceeds })
          ]

-- ---- a chunk that is missing

pub first_bad_chunk : (text : List ℕ) (fault : ReadFault) → IsFirstBadChunk text fault → IsFirstInChunks text fault
first_bad_chunk text fault bad = record {
  front = text;
  later = [];
  is = sym (append-nil text);
  shown = inl (bad.is, bad.shows);
  first = first;
}
  where
    first : (start : List ℕ) (next : ℕ) (more : List ℕ) (other : ReadFault) → text ≡ start ++ next ∷ more → ChunkedShows start other → (other ≡ fault) ⊎ HasLongTrailer start
    first start next more other e (inl shown) = inl (shown.0 ∙ sym bad.is)
    first start next more other e (inr shown) =
        absurd (reaches_no_bad shown.sizes text (shown.trailer ++ next ∷ more)
        (subst (λ (t : List ℕ). ReachesTrailer shown.sizes t (shown.trailer ++ next ∷ more)) (sym e) (ReachesTrailer-append shown.sizes start shown.trailer (next ∷ more) shown.reaches)) bad.shows)
