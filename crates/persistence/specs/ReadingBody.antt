-- What the parts answer where a body is read. No public contract needs these words.
use Rattle.std.specs.Prelude.{◌≡◌, ℕ, ◌<◌, ◌≤◌, Bool, true, false, nat_le, nat_lt, ◌==◌, List, ◌++◌, length, Option, Some, is_none}
use Rattle.persistence.specs.declared.answer.ReadFault.{ReadFault}
use Rattle.persistence.specs.declared.body.count.Came.{Came}
use Rattle.persistence.specs.declared.body.kind.BodyKind.{BodyKind}
use Rattle.persistence.specs.declared.body.kind.BodyKind.TheVariants.{NoBody, Counted, Chunked, UntilClose}
use Rattle.persistence.specs.declared.body.state.BodyState.{BodyState}
use Rattle.persistence.specs.declared.body.state.BodyState.TheVariants as state
use Rattle.persistence.specs.Limits.{most_bytes}
use Rattle.persistence.specs.Split.{EndsBody}
use Rattle.persistence.specs.Told.{is_some_text, TellsBodyLength}
use Rattle.persistence.specs.Faults.{BodyShows, HasLongTrailerBy, IsFirst}
use Rattle.persistence.specs.ReadingChunks.{IsInChunks}

-- the number of body bytes that came
abbrev pub len_of : BodyState → ℕ
len_of (state.Counted count came) = came.len
len_of (state.Chunked chunks) = chunks.len
len_of (state.UntilClose len) = len

-- whether the body is whole, where the connection has ended or not
abbrev pub whole_of : Bool → BodyState → Bool
whole_of ended (state.Counted count came) = came.whole
whole_of ended (state.Chunked chunks) = is_none chunks.part
whole_of ended (state.UntilClose len) = ended

-- whether bytes came after the body
abbrev pub surplus_of : BodyState → Bool
surplus_of (state.Counted count came) = came.surplus
surplus_of (state.Chunked chunks) = chunks.surplus
surplus_of (state.UntilClose len) = false

-- a body of so many bytes, of which none came yet
abbrev pub counts_from : ℕ → BodyState
counts_from count = state.Counted count (record { len = 0; whole = count == 0; surplus = false })

-- a body of that kind has so many bytes
abbrev pub HasCount : BodyKind → Option ℕ → ℕ → Type 0
HasCount NoBody counted count = count ≡ 0
HasCount Counted counted count = counted ≡ Some count
HasCount _ counted count = ⊥

-- what came of a body of so many bytes, where that text followed the head
pub record CountsBody (count : ℕ) (text : List ℕ) (came : Came) : Type 0 where
  pub few : came.len ≤ count
  pub open_end : length text < count → came.len ≡ length text
  pub full : count ≤ length text → came.len ≡ count
  pub whole : came.whole ≡ nat_le count (length text)
  pub surplus : came.surplus ≡ nat_lt count (length text)

-- so much came of a body that lasts until the connection ends
pub record LastsFor (text : List ℕ) (len : ℕ) : Type 0 where
  pub few : length text ≤ most_bytes
  pub all : len ≡ length text

-- so much of a body of that kind came in the text after the head, of which these bytes are kept
abbrev pub BodyAt : BodyKind → Option ℕ → List ℕ → BodyState → List ℕ → Type 0
BodyAt kind counted text (state.Counted count came) kept = HasCount kind counted count × CountsBody count text came
BodyAt kind counted text (state.Chunked chunks) kept = (kind ≡ Chunked) × IsInChunks text chunks kept
BodyAt kind counted text (state.UntilClose len) kept = (kind ≡ UntilClose) × LastsFor text len

-- the text after the head has so much of the body, whatever follows it
abbrev pub FixesBody : BodyKind → Option ℕ → List ℕ → ℕ → Type 0
FixesBody kind counted text len = (more : List ℕ) → TellsBodyLength kind counted (text ++ more) len

-- the fault that a body of that kind shows first
abbrev pub IsFirstInBody : BodyKind → Option ℕ → List ℕ → ReadFault → Type 0
IsFirstInBody kind counted = IsFirst (BodyShows kind counted) (HasLongTrailerBy kind)

-- the body has not ended
abbrev pub HasNoEnd : BodyKind → Option ℕ → Bool → List ℕ → Type 0
HasNoEnd kind counted ended text = (front rest : List ℕ) → text ≡ front ++ rest → ¬ (EndsBody kind counted ended front rest)

-- the body in the text after the head, in which nothing is wrong so far
pub record TellsBody (kind : BodyKind) (counted : Option ℕ) (ended : Bool) (text : List ℕ) (len : ℕ) (whole surplus : Bool) : Type 0 where
  pub clean : (fault : ReadFault) → ¬ (BodyShows kind counted text fault)
  pub came : TellsBodyLength kind counted text len
  pub yes : whole ≡ true → (front : List ℕ) × (rest : List ℕ) × (text ≡ front ++ rest) × EndsBody kind counted ended front rest × (surplus ≡ is_some_text rest)
  pub no : whole ≡ false → HasNoEnd kind counted ended text × (surplus ≡ false)
