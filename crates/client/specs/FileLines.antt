-- The URLs in a file, one on each line.
use Rattle.std.specs.Prelude.{◌≡◌, ◌⊎◌, ◌+◌, ◌<◌, ◌==◌, ◌++◌, ◌∷◌, [], ℕ, List, Bool, true, false, if◌then◌else◌, drop, take, flat_map, option_map, string_bytes, length, IsUtf8, Option, Some, None}
use Rattle.std.specs.Io.KnownBytes.{IsAtEnd}
use Rattle.std.specs.List.{All, slice_split}
use Rattle.std.specs.Str.Lines.{strip_carriage_return}
use Rattle.std.specs.Str.Lossy.{utf8_lossy}
use Rattle.streams.specs.Streams.{Stream, SameFailures, OneMoreFailed}
use Rattle.client.specs.Lines.{Text}
use Rattle.client.specs.declared.lines.Line.{Line}
use Rattle.client.specs.declared.lines.Line.TheVariants.{Url, Bad, Skipped, Unread, Over}
use Rattle.client.specs.declared.lines.UrlLines.{UrlLines}

-- LF ends a line
abbrev pub ends_line : ℕ → Bool
ends_line byte = byte == 10

-- the bytes of a line that count: without a CR at its end, the first 2,048
unfoldable pub line_front : List ℕ → List ℕ
line_front line = take 2048 (strip_carriage_return line)

-- a line is skipped if it is empty, or begins with `#`
abbrev pub is_skipped : List ℕ → Bool
is_skipped [] = true
is_skipped (byte ∷ bytes) = byte == 35

-- the URL of a line, unless the line is skipped; each byte that is not UTF-8 becomes U+FFFD
abbrev pub urls_of_front : List ℕ → List Text
urls_of_front front = if is_skipped front then [] else (utf8_lossy front ∷ [])

abbrev pub urls_on : List ℕ → List Text
urls_on line = urls_of_front (line_front line)

-- the URLs in the bytes of a file
unfoldable pub urls_in : List ℕ → List Text
urls_in bytes = flat_map urls_on (slice_split ends_line bytes)

-- the lines of a file that are not returned yet: the bytes that were read, and whether these are the last
pub record LinesShown : Type 0 where
  pub pending : List ℕ
  pub is_at_end : Bool

abbrev pub lines_shown : UrlLines → LinesShown
lines_shown lines = record { pending = drop lines.from lines.bytes.items; is_at_end = lines.is_at_end }

-- the lines of a file before the first read
abbrev pub nothing_read : LinesShown
nothing_read = record { pending = []; is_at_end = false }

-- bytes with no line end
abbrev pub HasNoEnd : List ℕ → Type 0
HasNoEnd bytes = All (λ byte. ends_line byte ≡ false) bytes

-- a line with these URLs is taken, for any bytes that are read later
pub record TakesLine (urls : List Text) (old new : LinesShown) : Type 0 where
  pub is_at_end : new.is_at_end ≡ old.is_at_end
  pub urls_are : (rest : List ℕ) → (old.is_at_end ≡ true → rest ≡ []) → urls_in (old.pending ++ rest) ≡ urls ++ urls_in (new.pending ++ rest)

-- the next line is not whole, and more can be read
pub record NeedsMore (lines : LinesShown) : Type 0 where
  pub has_more : lines.is_at_end ≡ false
  pub no_end : HasNoEnd lines.pending

-- no line is left
pub record HasNoLine (lines : LinesShown) : Type 0 where
  pub is_at_end : lines.is_at_end ≡ true
  pub none : lines.pending ≡ []

-- the URLs of a line
abbrev pub urls_returned : Line → Option (List Text)
urls_returned (Url url number) = Some (string_bytes url ∷ [])
urls_returned (Bad url number) = Some (string_bytes url ∷ [])
urls_returned Skipped = Some []
urls_returned Unread = None
urls_returned Over = None

-- this is true of the text of a bad line
abbrev pub IfBad : (Text → Type 0) → Line → Type 0
IfBad P (Bad url number) = P (string_bytes url)
IfBad P line = Unit {0}

-- a line without its CR is returned as a URL, which is the whole line; or it is bad, since it is longer than 2,048 bytes
-- or not UTF-8; or it is skipped
abbrev pub IsClassOf : List ℕ → Line → Type 0
IsClassOf bytes (Url url number) = string_bytes url ≡ bytes
IsClassOf bytes (Bad url number) = (2048 < length bytes) ⊎ (IsUtf8 bytes → ⊥)
IsClassOf bytes Skipped = is_skipped bytes ≡ true
IsClassOf bytes _ = ⊥

-- a line that is returned or skipped has the next number; nothing else has one
abbrev pub NumbersLine : ℕ → ℕ → Line → Type 0
NumbersLine old new (Url url number) = (number ≡ new) × (new ≡ old + 1)
NumbersLine old new (Bad url number) = (number ≡ new) × (new ≡ old + 1)
NumbersLine old new Skipped = new ≡ old + 1
NumbersLine old new Unread = new ≡ old
NumbersLine old new Over = new ≡ old

-- the number of a line that is returned
abbrev pub HasNumber : ℕ → Line → Type 0
HasNumber n (Url url number) = number ≡ n
HasNumber n (Bad url number) = number ≡ n
HasNumber n line = Unit {0}

-- no read of a file failed, if it was read; otherwise one more did
abbrev pub CountsRead : Bool → Stream → Stream → Type 0
CountsRead true before after = SameFailures before after
CountsRead false before after = OneMoreFailed before after

-- this line is next
abbrev pub IsNextLine : Line → LinesShown → LinesShown → Type 0
IsNextLine (Url url number) old new = TakesLine (string_bytes url ∷ []) old new
IsNextLine (Bad url number) old new = TakesLine (string_bytes url ∷ []) old new
IsNextLine Skipped old new = TakesLine [] old new
IsNextLine Unread old new = (new ≡ old) × NeedsMore new
IsNextLine Over old new = (new ≡ old) × HasNoLine new

-- the URLs of a file that are not returned yet, if the bytes that its reads will give are known
abbrev pub urls_left : LinesShown → Option (List ℕ) → Option (List Text)
urls_left lines source = option_map (λ bytes. urls_in (lines.pending ++ bytes)) source

-- of the URLs that are known, the first are these, and the others are left
abbrev pub GivesUrls : Option (List Text) → Option (List Text) → List Text → Type 0
GivesUrls None left given = Unit {0}
GivesUrls (Some all) None given = ⊥
GivesUrls (Some all) (Some left) given = all ≡ given ++ left

-- if all was read, reads will give nothing more
abbrev pub KnowsEnd : LinesShown → Option (List ℕ) → Type 0
KnowsEnd lines source = lines.is_at_end ≡ true → IsAtEnd source

-- these URLs of a file are returned, and maybe more of it is read
pub record ReadsFile (urls : List Text) (old new : LinesShown) (before after : Option (List ℕ)) : Type 0 where
  pub unread : GivesUrls (urls_left old before) (urls_left new after) urls
  pub ended : KnowsEnd new after

-- these URLs are the first of all; under that condition there are no others
pub record AreFirst (all urls : List Text) (is_whole : Type 0) : Type 0 where
  pub rest : List Text
  pub are : all ≡ urls ++ rest
  pub whole : is_whole → rest ≡ []
