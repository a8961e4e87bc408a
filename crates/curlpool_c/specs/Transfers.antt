-- What the calls of transfers do, answer and write. Each has the answer of the pool's own call: its status tells it.
use Rattle.std.specs.Prelude.{◌≡◌, ◌⊎◌, ℕ, Bool, List, Option, Some, None, Result, Ok, Err, IfOk, IfErr, OnOk, OnErr, IfSome, IfNone}
use Rattle.persistence.specs.declared.facts.Facts.{Facts}
use Rattle.persistence.specs.declared.answer.Fed.{Fed}
use Rattle.persistence.specs.Reader.{Reading}
use Rattle.conn_log.specs.declared.entry.Want.{Want}
use Rattle.budget.specs.declared.refusal.Refusal.{Refusal}
use Rattle.held_pool.specs.declared.slot.Slot.{Slot}
use Rattle.held_pool.specs.Slots.{value_in}
use Rattle.held_pool.specs.declared.response.FeedError.{FeedError}
use Rattle.held_pool.specs.Readers.{SameReaders, EndsSlot}
use Rattle.held_pool.specs.declared.answers.SlotAnswer.{SlotAnswer}
use Rattle.held_pool.specs.declared.answers.SlotAnswer.TheVariants.{New, Reused, Wait}
use Rattle.held_pool.specs.declared.answers.SlotError.{SlotError}
use Rattle.held_pool.specs.declared.answers.SlotError.TheVariants as faults
use Rattle.held_pool.specs.Calls.{HeldShown, HasSameRest, AcquiresSlot, RefusesSlot, Attaches, attach_fault, ClaimsHeld, GrantsSlot, HoldsSame, BeginsResponse, lease_fault, FeedsHeld, reading_for, GivesBackRead, read_fault, GivesBackSlot, back_fault, AbandonsSlot, WithdrawsSlot, ticket_fault}
use Rattle.curlpool_c.specs.declared.status.TheConstants.{OK, NONE, BAD_VALUE, UNREAD}
use Rattle.curlpool_c.specs.Numbers.{slot_of}
use Rattle.curlpool_c.specs.Statuses.{got_status, refusal_status, slot_status, feed_status, fed_status}

-- the token that is told with what a transfer got
abbrev pub token_told : SlotAnswer → ℕ → ℕ
token_told (Reused token) before = token
token_told New before = before
token_told Wait before = before

-- the status of an acquire, a claim, a call by slot, and a feed
abbrev pub acquire_status : Result (Slot × SlotAnswer) Refusal → ℕ
acquire_status (Ok given) = got_status given.1
acquire_status (Err refusal) = refusal_status refusal

abbrev pub claim_status : Result SlotAnswer SlotError → ℕ
claim_status (Ok got) = got_status got
claim_status (Err error) = slot_status error

abbrev pub done_status : Result (Unit {0}) SlotError → ℕ
done_status (Ok done) = OK
done_status (Err error) = slot_status error

abbrev pub read_status : Result Fed FeedError → ℕ
read_status (Ok fed) = fed_status fed
read_status (Err error) = feed_status error

-- what an acquire and a claim write: the slot, and the token
abbrev pub WritesSlot : Result (Slot × SlotAnswer) Refusal → ℕ → ℕ → Type 0
WritesSlot (Ok given) old new = slot_of new ≡ given.0
WritesSlot (Err refusal) old new = new ≡ old

abbrev pub token_after : Result (Slot × SlotAnswer) Refusal → ℕ → ℕ
token_after (Ok given) before = token_told given.1 before
token_after (Err refusal) before = before

abbrev pub token_claimed : Result SlotAnswer SlotError → ℕ → ℕ
token_claimed (Ok got) before = token_told got before
token_claimed (Err error) before = before

pub record TellsAcquire (old new : HeldShown) (site : ℕ) (want : Want) (now status slot slot_new token token_new : ℕ) : Type 0 where
  pub answer : Result (Slot × SlotAnswer) Refusal
  pub ok : IfOk answer (AcquiresSlot old new site want now)
  pub refused : IfErr answer (RefusesSlot old site want)
  pub same : OnErr answer (new ≡ old)
  pub rest : HasSameRest old new
  pub told : status ≡ acquire_status answer
  pub writes : WritesSlot answer slot slot_new
  pub token_is : token_new ≡ token_after answer token

-- where the flags stand for nothing, it changes nothing
abbrev pub TellsAcquireOf : HeldShown → HeldShown → ℕ → Option Want → ℕ → ℕ → ℕ → ℕ → ℕ → ℕ → Type 0
TellsAcquireOf old new site (Some want) now status slot slot_new token token_new = TellsAcquire old new site want now status slot slot_new token token_new
TellsAcquireOf old new site None now status slot slot_new token token_new = ((new ≡ old) × (status ≡ BAD_VALUE)) × ((slot_new ≡ slot) × (token_new ≡ token))

pub record TellsAttach (old new : HeldShown) (slot : Slot) (token status : ℕ) : Type 0 where
  pub answer : Result (Unit {0}) SlotError
  pub ok : OnOk answer (Attaches old new slot token)
  pub err : IfErr answer (λ fault. (attach_fault (value_in old.places slot) ≡ Some fault) ⊎ ((attach_fault (value_in old.places slot) ≡ None) × (fault ≡ faults.Memory)))
  pub same : OnErr answer (new ≡ old)
  pub rest : HasSameRest old new
  pub told : status ≡ done_status answer

pub record TellsClaim (old new : HeldShown) (slot : Slot) (status token token_new : ℕ) : Type 0 where
  pub answer : Result SlotAnswer SlotError
  pub ok : IfOk answer (λ got. ClaimsHeld old new slot got (value_in old.places slot))
  pub err : IfErr answer (λ fault. (fault ≡ faults.Stranger) × (value_in old.places slot ≡ None))
  pub same : OnErr answer (new ≡ old)
  pub rest : HasSameRest old new
  pub told : status ≡ claim_status answer
  pub token_is : token_new ≡ token_claimed answer token

-- a waiter that has its connection is told, or there is none to tell
abbrev pub granted_status : Option Slot → ℕ
granted_status (Some slot) = OK
granted_status None = NONE

abbrev pub WritesGranted : Option Slot → ℕ → ℕ → Type 0
WritesGranted (Some slot) old new = slot_of new ≡ slot
WritesGranted None old new = new ≡ old

pub record TellsGranted (old new : HeldShown) (status slot slot_new : ℕ) : Type 0 where
  pub answer : Option Slot
  pub some : IfSome answer (GrantsSlot old new)
  pub none : IfNone answer (HoldsSame old new)
  pub rest : HasSameRest old new
  pub told : status ≡ granted_status answer
  pub writes : WritesGranted answer slot slot_new

pub record TellsBegin (old new : HeldShown) (slot : Slot) (reading : Reading) (status : ℕ) : Type 0 where
  pub answer : Result (Unit {0}) SlotError
  pub ok : OnOk answer (BeginsResponse old new slot reading)
  pub err : IfErr answer (λ fault. (lease_fault (value_in old.places slot) ≡ Some fault) ⊎ ((lease_fault (value_in old.places slot) ≡ None) × (fault ≡ faults.Memory)))
  pub same : OnErr answer (SameReaders old.readers new.readers)
  pub rest : new ≡ record old { readers = new.readers }
  pub told : status ≡ done_status answer

pub record TellsFeed (old new : HeldShown) (slot : Slot) (piece : List ℕ) (status : ℕ) : Type 0 where
  pub answer : Result Fed FeedError
  pub feeds : FeedsHeld old new slot piece answer (value_in old.places slot)
  pub rest : new ≡ record old { readers = new.readers }
  pub told : status ≡ read_status answer

-- the response's connection has ended, or no response is read
abbrev pub TellsEnd : HeldShown → HeldShown → Slot → ℕ → Type 0
TellsEnd old new slot status = (((status ≡ OK) × EndsSlot old.readers new.readers slot) ⊎ ((status ≡ UNREAD) × ((reading_for old slot ≡ None) × SameReaders old.readers new.readers))) × (new ≡ record old { readers = new.readers })

pub record TellsGiveBack (old new : HeldShown) (slot : Slot) (now status : ℕ) : Type 0 where
  pub answer : Result (Unit {0}) SlotError
  pub ok : OnOk answer (GivesBackRead old new slot now)
  pub err : IfErr answer (λ fault. read_fault old slot ≡ Some fault)
  pub same : OnErr answer (new ≡ old)
  pub rest : HasSameRest old new
  pub told : status ≡ done_status answer

pub record TellsGiveBackAs (old new : HeldShown) (slot : Slot) (facts : Facts) (now status : ℕ) : Type 0 where
  pub answer : Result (Unit {0}) SlotError
  pub ok : OnOk answer (GivesBackSlot old new slot facts now)
  pub err : IfErr answer (λ fault. back_fault (value_in old.places slot) ≡ Some fault)
  pub same : OnErr answer (new ≡ old)
  pub rest : HasSameRest old new
  pub told : status ≡ done_status answer

-- where the numbers stand for no facts, it changes nothing
abbrev pub TellsGiveBackOf : HeldShown → HeldShown → Slot → Option Facts → ℕ → ℕ → Type 0
TellsGiveBackOf old new slot (Some facts) now status = TellsGiveBackAs old new slot facts now status
TellsGiveBackOf old new slot None now status = (new ≡ old) × (status ≡ BAD_VALUE)

pub record TellsAbandon (old new : HeldShown) (slot : Slot) (now status : ℕ) : Type 0 where
  pub answer : Result (Unit {0}) SlotError
  pub ok : OnOk answer (AbandonsSlot old new slot now)
  pub err : IfErr answer (λ fault. lease_fault (value_in old.places slot) ≡ Some fault)
  pub same : OnErr answer (new ≡ old)
  pub rest : HasSameRest old new
  pub told : status ≡ done_status answer

pub record TellsWithdraw (old new : HeldShown) (slot : Slot) (now status : ℕ) : Type 0 where
  pub answer : Result (Unit {0}) SlotError
  pub ok : OnOk answer (WithdrawsSlot old new slot now)
  pub err : IfErr answer (λ fault. ticket_fault (value_in old.places slot) ≡ Some fault)
  pub same : OnErr answer (new ≡ old)
  pub rest : HasSameRest old new
  pub told : status ≡ done_status answer
