-- The faults that bytes show. A fault belongs to a front of the bytes: the shortest front that shows a
-- fault decides.
use Rattle.std.specs.Prelude.{◌≡◌, ℕ, ◌<◌, ◌≤◌, ◌⊎◌, List, ◌∷◌, ◌++◌, length, take, Option, None}
use Rattle.httparse.specs.Grammar.{ResponseHead, HasNoResponse, NeverHasResponse, HasNoSection, NeverHasSection}
use Rattle.httparse.specs.Spans.{ResponseExceeds, SectionExceeds}
use Rattle.persistence.specs.declared.body.kind.BodyKind.{BodyKind}
use Rattle.persistence.specs.declared.body.kind.BodyKind.TheVariants.{NoBody, Counted, Chunked, UntilClose}
use Rattle.persistence.specs.declared.method.Method.{Method}
use Rattle.persistence.specs.declared.answer.ReadFault.{ReadFault}
use Rattle.persistence.specs.declared.answer.ReadFault.TheVariants.{BadHead, BadLength, BadChunk, HeadTooLong, TooManyInterims, TrailerTooLong}
use Rattle.persistence.specs.Sequence.{ReadsEach}
use Rattle.persistence.specs.Limits.{most_fields, most_head_bytes, most_interims, most_bytes, most_trailer_bytes}
use Rattle.persistence.specs.Heads.{ReadsInterim, ReadsInterims, HasFinalHead}
use Rattle.persistence.specs.Fields.{fields_of, counted_length}
use Rattle.persistence.specs.Framing.{body_kind}
use Rattle.persistence.specs.Chunks.{ReadsSizeLine, ReadsChunk, ReadsChunks, room_after, ReachesTrailer}

-- so many bytes came of a head, and it is not complete
abbrev pub IsHeadPastLimit : List ℕ → Type 0
IsHeadPastLimit text = (most_head_bytes ≤ length text) × HasNoResponse (take most_head_bytes text)

-- what the text where a head begins shows: it never becomes a head, whatever the limits; it is too long;
-- or its 101st field is complete
abbrev pub HeadShows : List ℕ → ReadFault → Type 0
HeadShows text BadHead = NeverHasResponse text
HeadShows text HeadTooLong = IsHeadPastLimit text ⊎ ResponseExceeds most_fields text
HeadShows text _ = ⊥

-- the text never begins with the line of a last chunk, or a chunk whose size fits the room
pub record NeverHasChunk (room : ℕ) (text : List ℕ) : Type 0 where
  pub last : (more rest : List ℕ) → ¬ (ReadsSizeLine 0 (text ++ more) rest)
  pub chunk : (size : ℕ) (more rest : List ℕ) → size ≤ room → ¬ (ReadsChunk size (text ++ more) rest)

-- so many bytes came of a trailer section, and it is not complete
abbrev pub IsTrailerPastLimit : List ℕ → Type 0
IsTrailerPastLimit text = (most_trailer_bytes ≤ length text) × HasNoSection (take most_trailer_bytes text)

-- what the text where a trailer section begins shows
abbrev pub TrailerShows : List ℕ → ReadFault → Type 0
TrailerShows text BadChunk = NeverHasSection text
TrailerShows text TrailerTooLong = IsTrailerPastLimit text ⊎ SectionExceeds most_fields text
TrailerShows text _ = ⊥

-- the text after whole chunks never goes on with a chunk
pub record ShowsBadChunk (text : List ℕ) : Type 0 where
  pub sizes : List ℕ
  pub rest : List ℕ
  pub chunks : ReadsChunks sizes text rest
  pub never : NeverHasChunk (room_after sizes) rest

-- the text has a trailer section, which shows the fault
pub record ShowsInTrailer (text : List ℕ) (fault : ReadFault) : Type 0 where
  pub sizes : List ℕ
  pub trailer : List ℕ
  pub reaches : ReachesTrailer sizes text trailer
  pub shows : TrailerShows trailer fault

-- what a body in chunks shows
abbrev pub ChunkedShows : List ℕ → ReadFault → Type 0
ChunkedShows text fault = ((fault ≡ BadChunk) × ShowsBadChunk text) ⊎ ShowsInTrailer text fault

-- what a body of that kind shows
abbrev pub BodyShows : BodyKind → Option ℕ → List ℕ → ReadFault → Type 0
BodyShows NoBody counted text fault = ⊥
BodyShows Counted counted text fault = (fault ≡ BadLength) × (counted ≡ None)
BodyShows Chunked counted text fault = ChunkedShows text fault
BodyShows UntilClose counted text fault = (fault ≡ BadLength) × (most_bytes < length text)

-- the bytes show the fault where a head begins
pub record ShowsInHead (bytes : List ℕ) (fault : ReadFault) : Type 0 where
  pub interims : List ResponseHead
  pub text : List ℕ
  pub before : ReadsInterims interims bytes text
  pub shows : HeadShows text fault

-- the bytes show the fault in the body
pub record ShowsInBody (method : Method) (bytes : List ℕ) (fault : ReadFault) : Type 0 where
  pub head : ResponseHead
  pub text : List ℕ
  pub heads : HasFinalHead bytes head text
  pub shows : BodyShows (body_kind method head) (counted_length (fields_of head)) text fault

-- the bytes begin with one interim head more than may come
pub record ShowsTooManyInterims (bytes : List ℕ) : Type 0 where
  pub interims : List ResponseHead
  pub rest : List ℕ
  pub each : ReadsEach ReadsInterim interims bytes rest
  pub many : most_interims < length interims

-- the bytes show the fault
abbrev pub ShowsFault : Method → List ℕ → ReadFault → Type 0
ShowsFault method bytes fault =
    ShowsInHead bytes fault ⊎ (((fault ≡ TooManyInterims) × ShowsTooManyInterims bytes) ⊎ ShowsInBody method bytes fault)

-- the bytes show no fault
abbrev pub IsFaultless : Method → List ℕ → Type 0
IsFaultless method bytes = (fault : ReadFault) → ¬ (ShowsFault method bytes fault)

-- the fault is the first one: a front of the bytes shows it, and no shorter front shows another, but for
-- what a section is excused that has more fields than it may
pub record IsFirst (Shown : List ℕ → ReadFault → Type 0) (Excused : List ℕ → Type 0) (bytes : List ℕ) (fault : ReadFault) : Type 0 where
  pub front : List ℕ
  pub later : List ℕ
  pub is : bytes ≡ front ++ later
  pub shown : Shown front fault
  pub first : (shorter : List ℕ) (next : ℕ) (more : List ℕ) (other : ReadFault) → front ≡ shorter ++ next ∷ more
      → Shown shorter other → (other ≡ fault) ⊎ Excused shorter

-- the text has a trailer section whose 101st field is complete
pub record HasLongTrailer (text : List ℕ) : Type 0 where
  pub sizes : List ℕ
  pub trailer : List ℕ
  pub reaches : ReachesTrailer sizes text trailer
  pub exceeds : SectionExceeds most_fields trailer

-- a body of that kind has a trailer section whose 101st field is complete
abbrev pub HasLongTrailerBy : BodyKind → List ℕ → Type 0
HasLongTrailerBy Chunked text = HasLongTrailer text
HasLongTrailerBy _ text = ⊥

-- the bytes have a head whose 101st field is complete
pub record HasLongHead (bytes : List ℕ) : Type 0 where
  pub interims : List ResponseHead
  pub text : List ℕ
  pub before : ReadsInterims interims bytes text
  pub exceeds : ResponseExceeds most_fields text

-- the bytes have a section whose 101st field is complete: whatever fault that section shows may be told
abbrev pub HasLongSection : Method → List ℕ → Type 0
HasLongSection method bytes =
    HasLongHead bytes
    ⊎ ((head : ResponseHead) × (text : List ℕ) × HasFinalHead bytes head text × HasLongTrailerBy (body_kind method head) text)

-- the fault may be told of the bytes
abbrev pub IsFirstFault : Method → List ℕ → ReadFault → Type 0
IsFirstFault method = IsFirst (ShowsFault method) (HasLongSection method)
