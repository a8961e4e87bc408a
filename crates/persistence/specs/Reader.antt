-- A reader of a response, and what it tells of the bytes fed so far.
use Rattle.std.specs.Prelude.{◌≡◌, ◌≢◌, ℕ, Bool, true, false, List, [], Option, None, Some, MatchOption}
use Rattle.persistence.specs.declared.answer.ReadFault.{ReadFault}
use Rattle.persistence.specs.declared.answer.ReadFault.TheVariants.{Memory}
use Rattle.persistence.specs.declared.facts.Facts.{Facts}
use Rattle.persistence.specs.declared.method.Method.{Method}
use Rattle.persistence.specs.declared.answer.Fed.{Fed}
use Rattle.persistence.specs.declared.answer.Fed.TheVariants.{More, Whole}
use Rattle.persistence.specs.Split.{Parts, IsSplit}
use Rattle.persistence.specs.Told.{IsNotWhole, TellsFacts, TellsFactsAfterFault}
use Rattle.persistence.specs.Faults.{IsFaultless, IsFirstFault}

-- a reader: the request's method, and whether the request had the connection option close; the bytes fed
-- so far, and whether the connection has ended; the fault that was answered; and the number of body bytes
pub record Reading : Type 0 where
  pub method : Method
  pub request_close : Bool
  pub bytes : List ℕ
  pub ended : Bool
  pub fault : Option ReadFault
  pub len : ℕ

-- the reader of a new response
abbrev pub new_reader : Method → Bool → Reading
new_reader method request_close = record {
  method = method;
  request_close = request_close;
  bytes = [];
  ended = false;
  fault = None;
  len = 0;
}

-- whether the response is whole while the connection lasts
abbrev pub TellsFed : Method → List ℕ → Fed → Type 0
TellsFed method bytes More = IsNotWhole method bytes false
TellsFed method bytes Whole = (parts : Parts) × IsSplit method bytes false parts

-- whether there is a split
pub record TellsWhole (method : Method) (bytes : List ℕ) (ended whole : Bool) : Type 0 where
  pub yes : whole ≡ true → (parts : Parts) × IsSplit method bytes ended parts
  pub no : whole ≡ false → IsNotWhole method bytes ended

-- the response to the same request, on a connection that has ended or not as before
abbrev pub IsSameResponse : Reading → Reading → Type 0
IsSameResponse old new = (new.method ≡ old.method) × (new.request_close ≡ old.request_close) × (new.ended ≡ old.ended)

-- no fault was answered, and the bytes show none
abbrev pub HasNoFault : Reading → Type 0
HasNoFault reader = (reader.fault ≡ None) × IsFaultless reader.method reader.bytes

-- that fault was answered; the bytes show it first, and it is not want of memory
abbrev pub HasFault : Reading → ReadFault → Type 0
HasFault reader fault = (reader.fault ≡ Some fault) × IsFirstFault reader.method reader.bytes fault × (fault ≢ Memory)

-- the fault that was answered is one that the bytes show first, and where none was answered they show none
abbrev pub ShowsItsFault : Reading → Type 0
ShowsItsFault reader = MatchOption reader.fault (IsFaultless reader.method reader.bytes) (IsFirstFault reader.method reader.bytes)

-- the facts that the bytes tell
abbrev pub TellsFactsOf : Reading → Facts → Type 0
TellsFactsOf reader facts = TellsFacts reader.method reader.request_close reader.bytes reader.ended facts

-- whether the response is whole
abbrev pub TellsWholeOf : Reading → Bool → Type 0
TellsWholeOf reader whole = TellsWhole reader.method reader.bytes reader.ended whole

-- the facts that faulty bytes tell
abbrev pub TellsFactsOfFaulty : Reading → Facts → Type 0
TellsFactsOfFaulty reader facts = TellsFactsAfterFault reader.method reader.request_close reader.bytes facts
