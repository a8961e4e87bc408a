-- How far a trace is read that comes piece by piece.
use Rattle.std.specs.Prelude.{◌≡◌, ◌⊎◌, ℕ, Bool, true, false, not, ◌||◌, List, ◌∷◌, ◌++◌, Option, Some, None}
use Rattle.streams.specs.Lines.{lines}
use Rattle.audit_stream.specs.Tells.{Told, TellsEnd, TellsLine, TellsLines}

-- the first line of a text and what follows it, however the text goes on
abbrev pub IsCompleteLine : List ℕ → List ℕ → List ℕ → Type 0
IsCompleteLine text line others = (future : List ℕ) → lines (text ++ future) ≡ line ∷ lines (others ++ future)

-- the lines of a text are read, but for a rest, however the text goes on
pub record ReadsUpTo (text rest : List ℕ) (old new : Told) : Type 0 where
  pub read : List (List ℕ)
  pub split : (future : List ℕ) → lines (text ++ future) ≡ read ++ lines (rest ++ future)
  pub tells : TellsLines read old new

-- reading stops at the first line that breaks a rule, however the text goes on
pub record StopsWithin (text : List ℕ) (old new : Told) : Type 0 where
  pub before : List (List ℕ)
  pub line : List ℕ
  pub rest : List ℕ
  pub split : (future : List ℕ) → lines (text ++ future) ≡ before ++ line ∷ lines (rest ++ future)
  pub lawful : Told
  pub tells : TellsLines before old lawful
  pub unbroken : lawful.broken ≡ false
  pub breaks : TellsLine line lawful new
  pub broken : new.broken ≡ true

-- the last lines of a text are read, but for a rest
pub record ReadsLast (text rest : List ℕ) (old new : Told) : Type 0 where
  pub read : List (List ℕ)
  pub split : lines text ≡ read ++ lines rest
  pub tells : TellsLines read old new

-- the first line that breaks a rule is the last one that is read
pub record StopsAtFirst (text : List ℕ) (old new : Told) : Type 0 where
  pub before : List (List ℕ)
  pub line : List ℕ
  pub others : List (List ℕ)
  pub split : lines text ≡ before ++ line ∷ others
  pub lawful : Told
  pub tells : TellsLines before old lawful
  pub unbroken : lawful.broken ≡ false
  pub breaks : TellsLine line lawful new
  pub broken : new.broken ≡ true

-- whether reading goes on: all violations are told, or none was
abbrev pub goes_on : Bool → Told → Bool
goes_on all told = all || not told.broken

-- the lines of a text whose ends are there are read; or reading stops among them
abbrev pub Leaves : Bool → List ℕ → Told → Told → Option (List ℕ) → Type 0
Leaves all text old new None = (all ≡ false) × StopsWithin text old new
Leaves all text old new (Some rest) = ReadsUpTo text rest old new × (goes_on all new ≡ true)

-- the last lines of a trace are read, and its end; or reading stops among them
pub record Finishes (text : List ℕ) (old new : Told) : Type 0 where
  pub last : Told
  pub tells : TellsLines (lines text) old last
  pub ends : TellsEnd last new

abbrev pub EndsText : Bool → List ℕ → Told → Told → Type 0
EndsText all text old new = Finishes text old new ⊎ ((all ≡ false) × StopsAtFirst text old new)
