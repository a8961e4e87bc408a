-- A body in chunks (RFC 9112, section 7.1). The lines before chunks have a grammar of this project's
-- own: `httparse` reads at most 16 digits.
use Rattle.std.specs.Char.{is_ascii_hexdigit}
use Rattle.std.specs.Prelude.{◌≡◌, ℕ, ◌-◌, ◌<◌, ◌≤◌, List, ◌++◌, length, sum}
use Rattle.httparse.specs.Ascii.{crlf_bytes}
use Rattle.httparse.specs.Grammar.{AllPass, is_ows, ChunkLine, print_chunk_line, chunk_size, IsExtension, Field, LineEnd, print_section, ReadsSection}
use Rattle.persistence.specs.Limits.{most_fields, most_bytes, most_line_bytes, most_trailer_bytes}
use Rattle.persistence.specs.Sequence.{ReadsEach}

-- one or more hexadecimal digits, spaces and tabs, and perhaps a semicolon and a text, within the limit
pub record IsSizeLine (line : ChunkLine) : Type 0 where
  pub some : 0 < length line.digits
  pub digits : AllPass is_ascii_hexdigit line.digits
  pub pad : AllPass is_ows line.pad
  pub extension : IsExtension line.extension
  pub short : length (print_chunk_line line) ≤ most_line_bytes

-- the text is the line before a chunk of that size, and then the rest
pub record ReadsSizeLine (size : ℕ) (text rest : List ℕ) : Type 0 where
  pub line : ChunkLine
  pub valid : IsSizeLine line
  pub gives : chunk_size line ≡ size
  pub reads : text ≡ print_chunk_line line ++ rest

-- the text is a chunk of that size, above zero, and then the rest
pub record ReadsChunk (size : ℕ) (text rest : List ℕ) : Type 0 where
  pub positive : 0 < size
  pub content : List ℕ
  pub sized : length content ≡ size
  pub reads : ReadsSizeLine size text (content ++ (crlf_bytes ++ rest))

-- the text is chunks of these sizes, no more data than can be counted, and then the rest
pub record ReadsChunks (sizes : List ℕ) (text rest : List ℕ) : Type 0 where
  pub few : sum sizes ≤ most_bytes
  pub each : ReadsEach ReadsChunk sizes text rest

-- what the data of further chunks may have
abbrev pub room_after : List ℕ → ℕ
room_after sizes = most_bytes - sum sizes

-- the text is a trailer section within the limits, and then the rest (RFC 9112, section 7.1.2)
pub record ReadsTrailer (text rest : List ℕ) : Type 0 where
  pub fields : List Field
  pub last : LineEnd
  pub reads : ReadsSection text fields last rest
  pub few : length fields ≤ most_fields
  pub short : length (print_section fields last) ≤ most_trailer_bytes

-- the text is chunks of these sizes and the line of a chunk of size zero, and then the trailer section
pub record ReachesTrailer (sizes : List ℕ) (text trailer : List ℕ) : Type 0 where
  pub middle : List ℕ
  pub chunks : ReadsChunks sizes text middle
  pub last : ReadsSizeLine 0 middle trailer

-- the text is a body in chunks of these sizes, and then the rest
pub record ReadsChunked (sizes : List ℕ) (text rest : List ℕ) : Type 0 where
  pub trailer : List ℕ
  pub chunks : ReachesTrailer sizes text trailer
  pub reads : ReadsTrailer trailer rest
