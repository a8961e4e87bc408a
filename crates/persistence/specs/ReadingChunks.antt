-- What the parts answer where a body in chunks is read. No public contract needs these words.
use Rattle.std.specs.Char.{is_ascii_hexdigit}
use Rattle.std.specs.Prelude.{◌≡◌, ℕ, ◌<◌, ◌≤◌, Bool, true, false, ◌==◌, if◌then◌else◌, List, [], ◌∷◌, ◌++◌, length, take, drop, MatchOption, Option, Some, ◌+◌, sum, ◌&&◌, None, ◌-◌}
use Rattle.std.specs.Str.Parse.{digits_value}
use Rattle.httparse.specs.Grammar.{print_extension, AllPass, is_ows, IsExtension, HasNoSection, MayBecomeSection}
use Rattle.httparse.specs.Spans.{SectionExceeds}
use Rattle.persistence.specs.declared.answer.ReadFault.{ReadFault}
use Rattle.persistence.specs.declared.answer.ReadFault.TheVariants.{BadChunk}
use Rattle.persistence.specs.declared.body.state.ChunkPart.{ChunkPart}
use Rattle.persistence.specs.declared.body.state.ChunkPart.TheVariants.{Line, Data, LineEnd, Trailer}
use Rattle.persistence.specs.declared.body.state.ChunkedBody.{ChunkedBody}
use Rattle.persistence.specs.declared.chunks.ChunkStep.{ChunkStep}
use Rattle.persistence.specs.declared.chunks.size_line.SizeLine.{SizeLine}
use Rattle.persistence.specs.declared.chunks.size_line.LineStep.{LineStep}
use Rattle.persistence.specs.declared.chunks.trailer.TrailerStep.{TrailerStep}
use Rattle.persistence.specs.Chunks.{ReadsTrailer, ReadsSizeLine, ReadsChunks, room_after, ReachesTrailer, ReadsChunked}
use Rattle.persistence.specs.Faults.{TrailerShows, NeverHasChunk, ShowsBadChunk, ChunkedShows, IsFirst, HasLongTrailer}
use Rattle.persistence.specs.Limits.{most_fields, most_bytes, most_line_bytes, most_trailer_bytes}
use Rattle.persistence.specs.Told.{HasNoChunk, TellsBegun, TellsChunkData, is_some_text}

-- whether CR LF begins the text; nothing where the text ends before that is told
abbrev pub begins_crlf : List ℕ → Option Bool
begins_crlf [] = None
begins_crlf (b ∷ []) = if b == 13 then None else Some false
begins_crlf (b ∷ c ∷ text) = Some (b == 13 && c == 10)

-- nothing follows, or an extension
abbrev pub begins_extension : List ℕ → Bool
begins_extension [] = true
begins_extension (b ∷ text) = b == 59

-- the words before a line's end write that size: digits, spaces and tabs, and perhaps a semicolon and a text
pub record IsWrittenSize (words : List ℕ) (size : ℕ) : Type 0 where
  pub digits : List ℕ
  pub pad : List ℕ
  pub extension : Option (List ℕ)
  pub some : 0 < length digits
  pub valid : AllPass is_ascii_hexdigit digits
  pub blank : AllPass is_ows pad
  pub rest : IsExtension extension
  pub is : words ≡ digits ++ (pad ++ print_extension extension)
  pub gives : digits_value 16 digits ≡ size

-- no line before a chunk is there yet, and one of a size that fits the room can come
pub record AwaitsLine (room : ℕ) (text : List ℕ) : Type 0 where
  pub none : (size : ℕ) (rest : List ℕ) → ¬ (ReadsSizeLine size text rest)
  pub more : List ℕ
  pub size : ℕ
  pub fits : size ≤ room
  pub completes : ReadsSizeLine size (text ++ more) []

-- that line begins the text
pub record FindsLine (room : ℕ) (text : List ℕ) (line : SizeLine) : Type 0 where
  pub within : line.len ≤ length text
  pub fits : line.size ≤ room
  pub reads : ReadsSizeLine line.size text (drop line.len text)

-- no line of a size that fits the room can come
pub record RefusesLine (room : ℕ) (text : List ℕ) (fault : ReadFault) : Type 0 where
  pub is : fault ≡ BadChunk
  pub never : (size : ℕ) (more rest : List ℕ) → size ≤ room → ¬ (ReadsSizeLine size (text ++ more) rest)

-- the text is kept: the line before a chunk still comes, of a size that fits the room
pub record KeepsLine (room : ℕ) (text kept : List ℕ) : Type 0 where
  pub is : kept ≡ text
  pub awaits : AwaitsLine room text
  pub short : length text < most_line_bytes

-- the text is the line before a chunk of that size, which fits the room; nothing is kept
pub record EndsLine (room : ℕ) (text kept : List ℕ) (size : ℕ) : Type 0 where
  pub is : kept ≡ []
  pub fits : size ≤ room
  pub reads : ReadsSizeLine size text []

-- the step took so much of the piece: the line is whole, or still comes
abbrev pub TellsLineStep : ℕ → List ℕ → List ℕ → List ℕ → LineStep → Type 0
TellsLineStep room before piece kept step =
    let text = before ++ take step.used piece in
    MatchOption step.size (KeepsLine room text kept) (EndsLine room text kept)

-- no chunk and no last line is there yet, one that fits the room can come, and so many bytes of its data came
pub record AwaitsChunk (room : ℕ) (text : List ℕ) (begun : ℕ) : Type 0 where
  pub none : HasNoChunk room text
  pub last : (rest : List ℕ) → ¬ (ReadsSizeLine 0 text rest)
  pub can : ¬ (NeverHasChunk room text)
  pub tells : TellsBegun room text begun
  pub fits : begun ≤ room

-- the chunks have not ended, and so much data came
pub record AwaitsChunks (text : List ℕ) (len : ℕ) : Type 0 where
  pub sizes : List ℕ
  pub rest : List ℕ
  pub chunks : ReadsChunks sizes text rest
  pub begun : ℕ
  pub awaits : AwaitsChunk (room_after sizes) rest begun
  pub sums : len ≡ sum sizes + begun

-- the text after whole chunks never goes on with a chunk
pub record IsFirstBadChunk (text : List ℕ) (fault : ReadFault) : Type 0 where
  pub is : fault ≡ BadChunk
  pub shows : ShowsBadChunk text

-- the CR of a line end, where it came
abbrev pub carriage : Bool → List ℕ
carriage true = 13 ∷ []
carriage false = []

-- whole chunks of so much data, and the text that follows them
pub record PassesTo (text : List ℕ) (len : ℕ) (rest : List ℕ) : Type 0 where
  pub sizes : List ℕ
  pub sums : sum sizes ≡ len
  pub chunks : ReadsChunks sizes text rest

-- whole chunks, and the line of a chunk whose data comes: so much data in all, and so much of the chunk's is left
pub record IsInData (text : List ℕ) (len left : ℕ) : Type 0 where
  pub before : ℕ
  pub rest : List ℕ
  pub passes : PassesTo text before rest
  pub size : ℕ
  pub fits : size ≤ most_bytes - before
  pub content : List ℕ
  pub line : ReadsSizeLine size rest content
  pub came : length content + left ≡ size
  pub some : 0 < left
  pub sums : len ≡ before + length content

-- the same where all the chunk's data came, and the CR after it or not
pub record IsAfterData (text : List ℕ) (len : ℕ) (has_cr : Bool) : Type 0 where
  pub before : ℕ
  pub rest : List ℕ
  pub passes : PassesTo text before rest
  pub size : ℕ
  pub fits : size ≤ most_bytes - before
  pub some : 0 < size
  pub content : List ℕ
  pub sized : length content ≡ size
  pub line : ReadsSizeLine size rest (content ++ carriage has_cr)
  pub sums : len ≡ before + size

-- the text has so much data in chunks, whatever follows it
abbrev pub FixesData : List ℕ → ℕ → Type 0
FixesData text len = (more : List ℕ) → TellsChunkData (text ++ more) len

-- a trailer section still comes: there is none yet, and nothing is wrong so far
pub record IsTrailerAwaited (text : List ℕ) : Type 0 where
  pub none : (rest : List ℕ) → ¬ (ReadsTrailer text rest)
  pub clean : (fault : ReadFault) → ¬ (TrailerShows text fault)

-- a trailer section of that length begins the text
pub record EndsTrailer (text : List ℕ) (len : ℕ) : Type 0 where
  pub within : len ≤ length text
  pub reads : ReadsTrailer text (drop len text)

-- the text is kept: a trailer section still comes, and there is room for more of it
pub record KeepsTrailer (text kept : List ℕ) : Type 0 where
  pub is : kept ≡ text
  pub awaited : IsTrailerAwaited text
  pub short : length text < most_trailer_bytes

-- the text is a trailer section; nothing is kept
pub record EndsSection (text kept : List ℕ) : Type 0 where
  pub is : kept ≡ []
  pub reads : ReadsTrailer text []

-- whether the text is a whole trailer section
abbrev pub TellsSection : Bool → List ℕ → List ℕ → Type 0
TellsSection true text kept = EndsSection text kept
TellsSection false text kept = KeepsTrailer text kept

-- the step took so much of the piece, and the section is whole or still comes
abbrev pub TellsTrailerStep : List ℕ → List ℕ → List ℕ → TrailerStep → Type 0
TellsTrailerStep before piece kept step = TellsSection step.whole (before ++ take step.used piece) kept

-- no section is whole yet, one may still come, however many fields there are, and there is room for a byte more
pub record IsUnfinishedSection (text : List ℕ) : Type 0 where
  pub none : HasNoSection text
  pub more : MayBecomeSection text
  pub short : length text < most_trailer_bytes

-- the fault that a trailer section shows first
abbrev pub IsFirstInTrailer : List ℕ → ReadFault → Type 0
IsFirstInTrailer = IsFirst TrailerShows (SectionExceeds most_fields)

-- whole chunks of so much data and the line of a chunk of size zero, and then the trailer section
pub record ReachesSection (text : List ℕ) (len : ℕ) (kept : List ℕ) : Type 0 where
  pub sizes : List ℕ
  pub sums : sum sizes ≡ len
  pub reaches : ReachesTrailer sizes text kept

-- what a whole line of that size begins: the trailer section, or a chunk's data
pub record BeginsPart (text : List ℕ) (len size : ℕ) : Type 0 where
  pub last : size ≡ 0 → ReachesSection text len []
  pub next : 0 < size → IsInData text len size

-- the text is a body in chunks of so much data
pub record EndsChunked (text : List ℕ) (len : ℕ) : Type 0 where
  pub sizes : List ℕ
  pub sums : sum sizes ≡ len
  pub reads : ReadsChunked sizes text []

-- whole chunks of so much data came, and of the line after them the bytes that are kept
pub record IsLineDue (text : List ℕ) (len : ℕ) (kept : List ℕ) : Type 0 where
  pub passes : PassesTo text len kept
  pub awaits : AwaitsLine (most_bytes - len) kept
  pub short : length kept < most_line_bytes

-- a chunk's data is due; nothing is kept
pub record IsDataDue (left : ℕ) (text : List ℕ) (len : ℕ) (kept : List ℕ) : Type 0 where
  pub is : kept ≡ []
  pub within : IsInData text len left

-- the CR LF after a chunk's data is due; nothing is kept
pub record IsLineEndDue (has_cr : Bool) (text : List ℕ) (len : ℕ) (kept : List ℕ) : Type 0 where
  pub is : kept ≡ []
  pub after : IsAfterData text len has_cr

-- the chunks ended, with so much data, and of the trailer section the bytes came that are kept
pub record IsTrailerDue (text : List ℕ) (len : ℕ) (kept : List ℕ) : Type 0 where
  pub reaches : ReachesSection text len kept
  pub awaited : IsTrailerAwaited kept
  pub short : length kept < most_trailer_bytes

-- that part of a body in chunks is due, after so much data
abbrev pub IsDue : ChunkPart → List ℕ → ℕ → List ℕ → Type 0
IsDue Line text len kept = IsLineDue text len kept
IsDue (Data left) text len kept = IsDataDue left text len kept
IsDue (LineEnd has_cr) text len kept = IsLineEndDue has_cr text len kept
IsDue Trailer text len kept = IsTrailerDue text len kept

-- a body in chunks still comes
pub record IsUnended (text : List ℕ) (chunks : ChunkedBody) (kept : List ℕ) (part : ChunkPart) : Type 0 where
  pub due : IsDue part text chunks.len kept
  pub none_after : chunks.surplus ≡ false

-- a body in chunks has ended, and more may have come
pub record IsEnded (text : List ℕ) (chunks : ChunkedBody) : Type 0 where
  pub front : List ℕ
  pub rest : List ℕ
  pub is : text ≡ front ++ rest
  pub ends : EndsChunked front chunks.len
  pub after : chunks.surplus ≡ is_some_text rest

-- so much came of a body in chunks
abbrev pub IsInChunks : List ℕ → ChunkedBody → List ℕ → Type 0
IsInChunks text chunks kept = MatchOption chunks.part (IsEnded text chunks) (IsUnended text chunks kept)

-- the step took so much of the piece, and the body stands there
abbrev pub TellsStep : List ℕ → List ℕ → List ℕ → ChunkStep → Type 0
TellsStep text piece kept step = IsInChunks (text ++ take step.used piece) step.chunks kept

-- the fault that a body in chunks shows first
abbrev pub IsFirstInChunks : List ℕ → ReadFault → Type 0
IsFirstInChunks = IsFirst ChunkedShows HasLongTrailer
