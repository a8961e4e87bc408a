-- Which status an answer is told by.
use Rattle.std.specs.Prelude.{ℕ}
use Rattle.persistence.specs.declared.answer.Fed.{Fed}
use Rattle.persistence.specs.declared.answer.Fed.TheVariants.{More, Whole}
use Rattle.persistence.specs.declared.answer.ReadFault.{ReadFault}
use Rattle.persistence.specs.declared.answer.ReadFault.TheVariants as fault
use Rattle.conn_key.specs.declared.target.KeyError.{KeyError}
use Rattle.conn_key.specs.declared.target.KeyError.TheVariants as key
use Rattle.budget.specs.declared.refusal.Refusal.{Refusal}
use Rattle.budget.specs.declared.refusal.Refusal.TheVariants as refusal
use Rattle.conn_key.specs.declared.place_table.PlaceError.{PlaceError}
use Rattle.conn_key.specs.declared.place_table.PlaceError.TheVariants as place
use Rattle.held_pool.specs.declared.response.FeedError.{FeedError}
use Rattle.held_pool.specs.declared.response.FeedError.TheVariants as feed
use Rattle.held_pool.specs.declared.answers.SlotAnswer.{SlotAnswer}
use Rattle.held_pool.specs.declared.answers.SlotAnswer.TheVariants as got
use Rattle.held_pool.specs.declared.answers.SlotError.{SlotError}
use Rattle.held_pool.specs.declared.answers.SlotError.TheVariants as slot
use Rattle.curlpool_c.specs.declared.status.TheConstants.{NEW, REUSED, WAIT, MORE, WHOLE, NO_MEMORY, FULL, STRANGER, BAD_LIMIT, BAD_SITE, BUSY, EXHAUSTED, LEASED, UNATTACHED, ATTACHED, UNREAD, ENDED, BAD_HEAD, BAD_LENGTH, BAD_CHUNK, HEAD_TOO_LONG, TOO_MANY_INTERIMS, TRAILER_TOO_LONG, NOT_URL, NOT_HTTP, URL_TOO_LONG}

-- what a transfer got
abbrev pub got_status : SlotAnswer → ℕ
got_status got.New = NEW
got_status (got.Reused token) = REUSED
got_status got.Wait = WAIT

-- how far a response was read
abbrev pub fed_status : Fed → ℕ
fed_status More = MORE
fed_status Whole = WHOLE

-- why the pool refused
abbrev pub refusal_status : Refusal → ℕ
refusal_status refusal.Memory = NO_MEMORY
refusal_status refusal.BadSite = BAD_SITE
refusal_status refusal.TransferBusy = BUSY
refusal_status refusal.StrangeLease = STRANGER
refusal_status refusal.StrangeTicket = STRANGER
refusal_status refusal.PassesMissing = STRANGER
refusal_status refusal.Exhausted = EXHAUSTED
refusal_status (refusal.Busy count) = LEASED
refusal_status refusal.BadLimit = BAD_LIMIT

-- why a call by slot changed nothing
abbrev pub slot_status : SlotError → ℕ
slot_status slot.Stranger = STRANGER
slot_status slot.Unattached = UNATTACHED
slot_status slot.Attached = ATTACHED
slot_status slot.Unread = UNREAD
slot_status slot.Memory = NO_MEMORY

-- why bytes are no response, and why a response was not read on
abbrev pub fault_status : ReadFault → ℕ
fault_status fault.Memory = NO_MEMORY
fault_status fault.BadHead = BAD_HEAD
fault_status fault.BadLength = BAD_LENGTH
fault_status fault.BadChunk = BAD_CHUNK
fault_status fault.HeadTooLong = HEAD_TOO_LONG
fault_status fault.TooManyInterims = TOO_MANY_INTERIMS
fault_status fault.TrailerTooLong = TRAILER_TOO_LONG

abbrev pub feed_status : FeedError → ℕ
feed_status feed.NoReader = UNREAD
feed_status feed.Ended = ENDED
feed_status (feed.Fault fault) = fault_status fault

-- why a host was given no site
abbrev pub place_status : PlaceError → ℕ
place_status place.Memory = NO_MEMORY
place_status place.Full = FULL

-- why a text gives no target
abbrev pub key_status : KeyError → ℕ
key_status key.Memory = NO_MEMORY
key_status key.NotUrl = NOT_URL
key_status key.NotHttp = NOT_HTTP
key_status key.TooLong = URL_TOO_LONG
