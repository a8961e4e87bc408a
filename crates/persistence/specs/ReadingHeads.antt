-- What the parts answer where a head is read. No public contract needs these words.
use Rattle.std.specs.List.{count_by}
use Rattle.std.specs.Prelude.{◌≡◌, ℕ, ◌<◌, ◌≤◌, Bool, true, false, ◌==◌, if◌then◌else◌, List, [], ◌∷◌, ◌++◌, length, take, drop, map, codes, All, Option, Some, MatchOption}
use Rattle.httparse.specs.Grammar.{ResponseHead, status_code, HasNoResponse, MayBecomeResponse}
use Rattle.httparse.specs.Pieces.{is_newline}
use Rattle.httparse.specs.Spans.{header_bytes, IsHeaderWithin, ResponseExceeds}
use Rattle.httparse.specs.declared.Error.{Error}
use Rattle.httparse.specs.declared.Error.TheVariants.{TooManyHeaders}
use Rattle.httparse.specs.declared.spans.HeaderSpan.{HeaderSpan}
use Rattle.httparse.specs.declared.spans.ResponseSpans.{ResponseSpans}
use Rattle.persistence.specs.declared.answer.ReadFault.{ReadFault}
use Rattle.persistence.specs.declared.head.Head.{Head}
use Rattle.persistence.specs.declared.head.head_step.HeadStep.{HeadStep}
use Rattle.persistence.specs.declared.head.heads_step.HeadsStep.{HeadsStep}
use Rattle.persistence.specs.Faults.{HeadShows, IsFirst}
use Rattle.persistence.specs.Fields.{NameAndValue, fields_of, is_word}
use Rattle.persistence.specs.Heads.{ReadsHead, ReadsInterim, ReadsHeads}
use Rattle.persistence.specs.Limits.{most_fields, most_head_bytes, most_interims}
use Rattle.persistence.specs.Sequence.{ReadsEach}
use Rattle.persistence.specs.Told.{version_of, HasNoFinalHead}
use Rattle.persistence.specs.ReadingFields.{TellsFields}

-- the spans lie in the text
abbrev pub AreWithin : List ℕ → List HeaderSpan → Type 0
AreWithin text spans = All (IsHeaderWithin (length text)) spans

-- the names and values that the spans cover
abbrev pub fields_at : List ℕ → List HeaderSpan → List NameAndValue
fields_at text spans = map (header_bytes text) spans

-- whether the coding is chunked, where it is not empty, and else what was known before
abbrev pub chunked_after : Option Bool → List ℕ → Option Bool
chunked_after before [] = before
chunked_after before (b ∷ coding) = Some (is_word (codes "chunked") (b ∷ coding))

-- the list begins with that element
abbrev pub FirstIs : List (List ℕ) → List ℕ → Type 0
FirstIs elements first = (others : List (List ℕ)) × (elements ≡ first ∷ others)

-- what the head says
pub record TellsHead (head : ResponseHead) (told : Head) : Type 0 where
  pub status : told.status ≡ status_code head
  pub version : told.version ≡ version_of head
  pub fields : TellsFields (fields_of head) told.fields

-- the text from the first byte that is no CR or LF
abbrev pub skip_newlines : List ℕ → List ℕ
skip_newlines [] = []
skip_newlines (b ∷ text) = if is_newline b then skip_newlines text else b ∷ text

-- the lines that end in the text
abbrev pub line_ends : List ℕ → ℕ
line_ends text = count_by (λ b. b == 10) text

-- the parser's word for more fields than fit
abbrev pub is_too_many : Error → Bool
is_too_many TooManyHeaders = true
is_too_many _ = false

-- so many bytes of the piece were taken, at least one where there is one
pub record IsTaken (piece : List ℕ) (used : ℕ) : Type 0 where
  pub within : used ≤ length piece
  pub some : 0 < length piece → 0 < used

-- no head is whole yet, one may still come, however many fields there are, and there is room for a byte more
pub record IsUnfinished (text : List ℕ) : Type 0 where
  pub none : HasNoResponse text
  pub more : MayBecomeResponse text
  pub short : length text < most_head_bytes

-- a head still comes: there is none yet, and nothing is wrong so far
pub record IsAwaited (text : List ℕ) : Type 0 where
  pub none : (head : ResponseHead) (rest : List ℕ) → ¬ (ReadsHead head text rest)
  pub clean : (fault : ReadFault) → ¬ (HeadShows text fault)

-- a head begins the text, and the spans say where its parts are
pub record FindsHead (text : List ℕ) (fields : List HeaderSpan) (spans : ResponseSpans) : Type 0 where
  pub head : ResponseHead
  pub reads : ReadsHead head text (drop spans.len text)
  pub within : spans.len ≤ length text
  pub version : spans.version ≡ head.minor
  pub code : spans.code ≡ status_code head
  pub count : spans.headers ≤ length fields
  pub covered : AreWithin (take most_head_bytes text) (take spans.headers fields)
  pub told : fields_at (take most_head_bytes text) (take spans.headers fields) ≡ fields_of head

-- the text is kept: a head still comes, and there is room for more of it
pub record KeepsHead (text kept : List ℕ) : Type 0 where
  pub is : kept ≡ text
  pub awaited : IsAwaited text
  pub short : length text < most_head_bytes

-- the text is a whole head, which says this; nothing is kept
pub record EndsHead (text kept : List ℕ) (told : Head) : Type 0 where
  pub is : kept ≡ []
  pub head : ResponseHead
  pub reads : ReadsHead head text []
  pub says : TellsHead head told

-- so many interim heads came, and a head still comes, of which these bytes are kept
pub record AwaitsHeads (bytes : List ℕ) (count : ℕ) (kept : List ℕ) : Type 0 where
  pub interims : List ResponseHead
  pub many : length interims ≡ count
  pub few : count ≤ most_interims
  pub each : ReadsEach ReadsInterim interims bytes kept
  pub awaited : IsAwaited kept
  pub short : length kept < most_head_bytes

-- the bytes end with the final head, which says this; nothing is kept
pub record EndsHeadsIn (bytes kept : List ℕ) (told : Head) : Type 0 where
  pub is : kept ≡ []
  pub interims : List ResponseHead
  pub head : ResponseHead
  pub heads : ReadsHeads interims head bytes []
  pub says : TellsHead head told

-- no final head comes, whatever follows the bytes
abbrev pub NeverHasFinalHead : List ℕ → Type 0
NeverHasFinalHead bytes = (more : List ℕ) → HasNoFinalHead (bytes ++ more)

-- the step took so much of the piece: a head is whole, or still comes
abbrev pub TellsHeadStep : List ℕ → List ℕ → List ℕ → HeadStep → Type 0
TellsHeadStep before piece kept step =
    let text = before ++ take step.used piece in
    MatchOption step.head (KeepsHead text kept) (EndsHead text kept)

-- the fault that a head shows first
abbrev pub IsFirstInHead : List ℕ → ReadFault → Type 0
IsFirstInHead = IsFirst HeadShows (ResponseExceeds most_fields)

-- the step took so much of the piece: the final head has come, or a head still comes after so many interim ones
abbrev pub TellsHeadsStep : List ℕ → List ℕ → List ℕ → HeadsStep → Type 0
TellsHeadsStep bytes piece kept step =
    let text = bytes ++ take step.used piece in
    MatchOption step.head (AwaitsHeads text step.skipped kept) (EndsHeadsIn text kept)
