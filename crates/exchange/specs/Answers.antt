-- What an exchange is prepared with, and what it answers of the bytes that came.
use Rattle.std.specs.Prelude.{◌≡◌, ℕ, ◌<◌, Bool, true, false, not, ◌||◌, ◌&&◌, ◌⊎◌, [], length, take, string_bytes, List, Some, None}
use Rattle.persistence.specs.declared.facts.Facts.{Facts}
use Rattle.persistence.specs.declared.answer.ReadFault.{ReadFault}
use Rattle.persistence.specs.Faults.{IsFaultless, IsFirstFault}
use Rattle.persistence.specs.Split.{Parts, IsSplit}
use Rattle.persistence.specs.Reader.{Reading, new_reader}
use Rattle.persistence.specs.Told.{IsNotWhole, TellsFacts, TellsFactsAfterFault, TellsStatus, TellsLength, is_some_text}
use Rattle.conn_log.specs.declared.entry.Want.{Want}
use Rattle.exchange.specs.declared.job.Job.{Job}
use Rattle.exchange.specs.declared.job.Prepared.{Prepared}
use Rattle.exchange.specs.declared.done.Answer.{Answer}
use Rattle.exchange.specs.Request.{request_text}
use Rattle.exchange.specs.Wires.{Carried}

-- the request's text
abbrev pub text_of : Prepared → List ℕ
text_of p = string_bytes p.text

-- the reader of its response, before any byte came
abbrev pub unread : Prepared → Reading
unread p = new_reader p.method p.want.forbid_reuse

-- nothing was done with it yet: it has a text, an unread reader, and room to read into
pub record IsUnused (p : Prepared) : Type 0 where
  pub text : 0 < length (text_of p)
  pub room : 0 < length p.buffer.items
  pub reader : p.reader ≡ unread p
  pub first : p.retried ≡ false

-- the text of a job's request
abbrev pub job_text : Job → List ℕ
job_text job = request_text job.method (string_bytes job.target.path) (string_bytes job.target.host) job.target.port job.want.forbid_reuse

-- a job as another transfer, at another site
abbrev pub moved_job : ℕ → ℕ → Job → Job
moved_job site transfer job = record job { site = site; want = record job.want { transfer = transfer } }

-- prepared for that job: with its text
pub record IsPrepared (job : Job) (p : Prepared) : Type 0 where
  pub site : p.site ≡ job.site
  pub want : p.want ≡ job.want
  pub method : p.method ≡ job.method
  pub text : text_of p ≡ job_text job
  pub unused : IsUnused p

-- the same job, with the same text
pub record IsSameJob (old new : Prepared) : Type 0 where
  pub site : new.site ≡ old.site
  pub want : new.want ≡ old.want
  pub method : new.method ≡ old.method
  pub text : text_of new ≡ text_of old
  pub room : 0 < length old.buffer.items → 0 < length new.buffer.items

-- what the transfer wants of the cache: for a retry, a new connection
abbrev pub wanted_at : Prepared → Bool → Want
wanted_at p retried = record p.want { fresh = p.want.fresh || retried }

abbrev pub wanted : Prepared → Want
wanted p = wanted_at p p.retried

-- no read or write has failed
pub record NoneFailed (wire : Carried) : Type 0 where
  pub reads : wire.read_failed ≡ false
  pub writes : wire.write_failed ≡ false

-- no read or write has failed, and the connection has not ended
pub record GoesWell (wire : Carried) : Type 0 where
  pub going : wire.ended ≡ false
  pub unfailed : NoneFailed wire

-- a front of the request was sent, and nothing was read
pub record IsSent (p : Prepared) (sent : ℕ) (wire : Carried) : Type 0 where
  pub front : wire.sent ≡ take sent (text_of p)
  pub received : wire.received ≡ []
  pub well : GoesWell wire

-- the request was sent whole, and the reader was fed exactly the bytes that came since; they are no whole response, and
-- none were faulty
pub record ReadsWire (p : Prepared) (wire : Carried) : Type 0 where
  pub sent : wire.sent ≡ text_of p
  pub bytes : p.reader.bytes ≡ wire.received
  pub well : GoesWell wire
  pub more : (wire.received ≡ []) ⊎ IsNotWhole p.method wire.received false
  pub reading : p.reader.ended ≡ false
  pub faultless : p.reader.fault ≡ None
  pub method : p.reader.method ≡ p.method
  pub close : p.reader.request_close ≡ p.want.forbid_reuse

-- a whole response: exactly the bytes that the wire received are its parts, one after another, and its facts, status and
-- length are those of these bytes
pub record IsAnswer (p : Prepared) (answer : Answer) (wire : Carried) : Type 0 where
  pub parts : Parts
  pub sent : wire.sent ≡ text_of p
  pub unfailed : NoneFailed wire
  pub split : IsSplit p.method wire.received wire.ended parts
  pub faultless : IsFaultless p.method wire.received
  pub facts : TellsFacts p.method p.want.forbid_reuse wire.received wire.ended answer.facts
  pub whole : answer.facts.whole ≡ true
  pub status : TellsStatus wire.received (Some answer.status)
  pub len : TellsLength p.method wire.received answer.body_len
  pub retried : answer.retried ≡ p.retried

-- the bytes that the wire received are no response; the facts are those up to their first fault
pub record IsFaulty (p : Prepared) (facts : Facts) (wire : Carried) : Type 0 where
  pub fault : ReadFault
  pub sent : wire.sent ≡ text_of p
  pub well : GoesWell wire
  pub first : IsFirstFault p.method wire.received fault
  pub facts_are : TellsFactsAfterFault p.method p.want.forbid_reuse wire.received facts

-- the wire ended before the response was whole
pub record IsCut (p : Prepared) (facts : Facts) (wire : Carried) : Type 0 where
  pub sent : wire.sent ≡ text_of p
  pub unfailed : NoneFailed wire
  pub ended : wire.ended ≡ true
  pub faultless : IsFaultless p.method wire.received
  pub facts_are : TellsFacts p.method p.want.forbid_reuse wire.received true facts
  pub cut : facts.whole ≡ false

-- a read failed, once the request was sent whole
pub record FailsReading (p : Prepared) (wire : Carried) : Type 0 where
  pub sent : wire.sent ≡ text_of p
  pub going : wire.ended ≡ false
  pub writes : wire.write_failed ≡ false
  pub failed : wire.read_failed ≡ true

-- a write failed, before the request was sent whole
pub record FailsWriting (p : Prepared) (wire : Carried) : Type 0 where
  pub count : ℕ
  pub short : count < length (text_of p)
  pub front : wire.sent ≡ take count (text_of p)
  pub received : wire.received ≡ []
  pub going : wire.ended ≡ false
  pub reads : wire.read_failed ≡ false
  pub failed : wire.write_failed ≡ true

-- the connection ended, once the request was sent whole
pub record IsEnded (p : Prepared) (wire : Carried) : Type 0 where
  pub sent : wire.sent ≡ text_of p
  pub unfailed : NoneFailed wire
  pub ended : wire.ended ≡ true

-- the response was whole
pub record IsWhole (p : Prepared) (wire : Carried) : Type 0 where
  pub parts : Parts
  pub sent : wire.sent ≡ text_of p
  pub unfailed : NoneFailed wire
  pub split : IsSplit p.method wire.received wire.ended parts

-- the connection failed or was ended before any byte of a response
pub record IsFruitless (p : Prepared) (wire : Carried) : Type 0 where
  pub none : wire.received ≡ []
  pub over : FailsReading p wire ⊎ (FailsWriting p wire ⊎ IsEnded p wire)

-- the request may be sent once more, on a new connection: it was sent for the first time, on a reused connection, of
-- which no byte of a response came. GET and HEAD are safe to send again (RFC 9110, section 9.2.2; RFC 9112, section
-- 9.3.1)
abbrev pub may_retry : Bool → Bool → List ℕ → Bool
may_retry retried reused received = not retried && (reused && not (is_some_text received))
