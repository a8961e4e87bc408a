-- The reader of a slot, and what calls do to it.
use Rattle.std.specs.Prelude.{◌≡◌, ℕ, true, false, ◌==◌, ◌++◌, if◌then◌else◌, List, slice_index_or, Option, Some, None, IfOk, IfErr, Result, Ok, Err}
use Rattle.persistence.specs.declared.answer.Fed.{Fed}
use Rattle.persistence.specs.declared.answer.ReadFault.{ReadFault}
use Rattle.persistence.specs.declared.facts.Facts.{Facts}
use Rattle.persistence.specs.Persistent.{is_persistent}
use Rattle.persistence.specs.Reader.{Reading, IsSameResponse, TellsFed, HasNoFault, HasFault, ShowsItsFault, TellsFactsOf, TellsWholeOf, TellsFactsOfFaulty}
use Rattle.persistence.specs.Told.{TellsStatus}
use Rattle.held_pool.specs.declared.slot.Slot.{Slot}
use Rattle.held_pool.specs.declared.slot_reader.SlotReader.{SlotReader}
use Rattle.held_pool.specs.declared.response.FeedError.{FeedError}
use Rattle.held_pool.specs.declared.response.FeedError.TheVariants.{NoReader, Ended, Fault}
use Rattle.held_pool.specs.declared.response.Response.{Response}

-- what a place's reader reads for that generation
abbrev pub reading_of : SlotReader → ℕ → Option Reading
reading_of place generation = if place.generation == generation then place.reader else None

-- the reader at an index; where there is none yet, none
abbrev pub reader_at : List SlotReader → ℕ → SlotReader
reader_at readers index = slice_index_or readers index (record { generation = 0; reader = None })

-- what is read for a slot
abbrev pub reading_in : List SlotReader → Slot → Option Reading
reading_in readers slot = reading_of (reader_at readers slot.index) slot.generation

-- the slot's reader is that, and those at all other indices stay
abbrev pub ChangesReader : List SlotReader → List SlotReader → Slot → Reading → Type 0
ChangesReader old new slot reading = (index : ℕ) → reader_at new index ≡ (if index == slot.index then record { generation = slot.generation; reader = Some reading } else reader_at old index)

-- a piece was fed to a reader, which answered that
pub record IsFed (old new : Reading) (piece : List ℕ) (answer : Result Fed ReadFault) : Type 0 where
  pub bytes : new.bytes ≡ old.bytes ++ piece
  pub same : IsSameResponse old new
  pub told : IfOk answer (TellsFed new.method new.bytes)
  pub faultless : IfOk answer (λ _. HasNoFault new)
  pub fault : IfErr answer (HasFault new)
  pub again : (fault : ReadFault) → old.fault ≡ Some fault → (answer ≡ Err fault) × (new.len ≡ old.len)

-- the place's reader, which reads for that generation, was fed a piece; its connection had not ended
pub record Feeds (old new : SlotReader) (generation : ℕ) (piece : List ℕ) (answer : Result Fed ReadFault) : Type 0 where
  pub before : Reading
  pub after : Reading
  pub its : reading_of old generation ≡ Some before
  pub lasts : before.ended ≡ false
  pub left : new ≡ record { generation = generation; reader = Some after }
  pub fed : IsFed before after piece answer

-- what a feed answers: what the reader does, or why it was not fed
abbrev pub FeedsReader : SlotReader → SlotReader → ℕ → List ℕ → Result Fed FeedError → Type 0
FeedsReader old new generation piece (Ok fed) = Feeds old new generation piece (Ok fed)
FeedsReader old new generation piece (Err (Fault fault)) = Feeds old new generation piece (Err fault)
FeedsReader old new generation piece (Err NoReader) = (reading_of old generation ≡ None) × (new ≡ old)
FeedsReader old new generation piece (Err Ended) = ((reading : Reading) × (reading_of old generation ≡ Some reading) × (reading.ended ≡ true)) × (new ≡ old)

-- the connection of the place's response has ended
pub record EndsReader (old new : SlotReader) (generation : ℕ) : Type 0 where
  pub before : Reading
  pub its : reading_of old generation ≡ Some before
  pub left : new ≡ record { generation = generation; reader = Some (record before { ended = true }) }

-- the same by slot: those at all other indices stay
pub record FeedsSlot (old new : List SlotReader) (slot : Slot) (piece : List ℕ) (answer : Result Fed FeedError) : Type 0 where
  pub feeds : FeedsReader (reader_at old slot.index) (reader_at new slot.index) slot.generation piece answer
  pub others : (index : ℕ) → (index == slot.index) ≡ false → reader_at new index ≡ reader_at old index

pub record EndsSlot (old new : List SlotReader) (slot : Slot) : Type 0 where
  pub ends : EndsReader (reader_at old slot.index) (reader_at new slot.index) slot.generation
  pub others : (index : ℕ) → (index == slot.index) ≡ false → reader_at new index ≡ reader_at old index

-- the facts that a reader tells
pub record TellsItsFacts (reading : Reading) (facts : Facts) : Type 0 where
  pub shown : ShowsItsFault reading
  pub told : reading.fault ≡ None → TellsFactsOf reading facts
  pub whole : reading.fault ≡ None → TellsWholeOf reading facts.whole
  pub after_fault : (fault : ReadFault) → reading.fault ≡ Some fault → TellsFactsOfFaulty reading facts

-- and all that it tells
pub record TellsResponse (reading : Reading) (response : Response) : Type 0 where
  pub status : TellsStatus reading.bytes response.status
  pub len : response.body_len ≡ reading.len
  pub facts : TellsItsFacts reading response.facts
  pub persists : response.persists ≡ is_persistent response.facts

-- of what is read, if anything is
abbrev pub TellsSome : Option Reading → Response → Type 0
TellsSome reading response = (its : Reading) × (reading ≡ Some its) × TellsResponse its response

abbrev pub TellsFactsOfSome : Option Reading → Facts → Type 0
TellsFactsOfSome reading facts = (its : Reading) × (reading ≡ Some its) × TellsItsFacts its facts

-- what is read stays
abbrev pub SameReaders : List SlotReader → List SlotReader → Type 0
SameReaders old new = (index : ℕ) → reader_at new index ≡ reader_at old index
