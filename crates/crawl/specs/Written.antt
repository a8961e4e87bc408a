-- The lines of a crawl, and its output.
use Rattle.std.specs.Prelude.{◌≡◌, ◌≢◌, ◌+◌, ◌-◌, ◌^◌, ◌<◌, ◌⊎◌, ◌&&◌, ◌++◌, ◌∷◌, [], ℕ, min, nat_le, length, get_or, remove, count_by, flat_map, map, string_bytes, if◌then◌else◌, Bool, true, false, List, String, Option, Some, None, Result, Ok, Err}
use Rattle.std.specs.Global.{Global}
use Rattle.std.specs.Borrow.{GName}
use Rattle.std.specs.Io.KnownBytes.{Appends}
use Rattle.std.specs.List.{All}
use Rattle.exchange.specs.declared.done.Done.{Done}
use Rattle.exchange.specs.declared.done.Done.TheVariants.{Good, Bad}
use Rattle.run_loop.specs.Taking.{JobResult, job_result}
use Rattle.run_loop.specs.declared.results.Span.{Span}
use Rattle.streams.specs.Streams.{Stream, PutFails, PutsFront, SameFailures, OneMoreFailed}
use Rattle.streams.specs.declared.stream_fault.StreamFault.{StreamFault}
use Rattle.streams.specs.declared.stream_fault.StreamFault.TheVariants.{Memory, Write}
use Rattle.client.specs.Lines.{Text, fetched_as, line_of}
use Rattle.crawl.specs.Results.{TakesAll}
use Rattle.crawl.specs.declared.in_flight.InFlight.{InFlight}
use Rattle.crawl.specs.declared.in_flight.Tally.{Tally}
use Rattle.crawl.specs.declared.progress.Progress.{Progress}
use Rattle.commands.specs.declared.crawl_options.CrawlFlags.{CrawlFlags}

-- a line: its URL, the result of its transfer, or none if the URL is bad, and its text
pub record Written : Type 0 where
  pub url : Text
  pub ended : Option JobResult
  pub text : Text

-- true if a transfer failed: it has no response, or one whose status the options count as failed
abbrev pub done_failed : CrawlFlags → Done → Bool
done_failed flags (Good answer) = flags.fail && nat_le 400 answer.status
done_failed flags (Bad fault) = true

abbrev pub ended_badly : CrawlFlags → Option JobResult → Bool
ended_badly flags None = true
ended_badly flags (Some result) = done_failed flags result.done

abbrev pub has_failed : CrawlFlags → Written → Bool
has_failed flags line = ended_badly flags line.ended

-- the number of lines and the number of failed URLs, each at most 2^64 - 1
abbrev pub tally_of : CrawlFlags → List Written → Tally
tally_of flags lines = record { lines = min (length lines) (2 ^ 64 - 1); failed = min (count_by (has_failed flags) lines) (2 ^ 64 - 1) }

-- the text is the line of its URL and result; a JSON line and the line of a bad URL are not specified
abbrev pub IsTextOf : CrawlFlags → Text → Option JobResult → Text → Type 0
IsTextOf flags url None text = Unit {0}
IsTextOf flags url (Some result) text = flags.json ≡ false → text ≡ line_of url (fetched_as result.span.retried result.done)

abbrev pub IsLine : CrawlFlags → Written → Type 0
IsLine flags line = IsTextOf flags line.url line.ended line.text

-- a line is not written whole: none of it, if memory ran out; a front of it, if a write failed
abbrev pub LineFails : Stream → Stream → Text → StreamFault → Type 0
LineFails old new text Memory = Appends old.bytes new.bytes [] × SameFailures old new
LineFails old new text Write = PutsFront old.bytes new.bytes text × OneMoreFailed old new
LineFails old new text kind = ⊥

-- a line is written, or not whole for that fault
abbrev pub PutsAs : Stream → Stream → Text → Option StreamFault → Type 0
PutsAs old new text None = Appends old.bytes new.bytes text × SameFailures old new
PutsAs old new text (Some kind) = LineFails old new text kind

abbrev pub text_of : Written → Text
text_of line = line.text

-- these lines are written, in this order
abbrev pub AreWhole : List Written → Stream → Stream → Type 0
AreWhole lines old new = Appends old.bytes new.bytes (flat_map text_of lines) × SameFailures old new

-- these lines are written, but the last not whole
pub record LastFails (lines : List Written) (old new : Stream) (kind : StreamFault) : Type 0 where
  pub before : List Written
  pub last : Written
  pub lines_are : lines ≡ before ++ (last ∷ [])
  pub mid : Stream
  pub whole : AreWhole before old mid
  pub fails : LineFails mid new last.text kind

-- these lines are written whole, but the last if there is a fault
abbrev pub AreWritten : List Written → Stream → Stream → Option StreamFault → Type 0
AreWritten lines old new None = AreWhole lines old new
AreWritten lines old new (Some kind) = LastFails lines old new kind

-- the state of a crawl: its transfers in flight, its tally, its output, and the fault of a line
pub record OutputShown : Type 0 where
  pub flags : CrawlFlags
  pub in_flight : List InFlight
  pub tally : Tally
  pub stream : Stream
  pub fault : Option StreamFault
  pub name : GName

abbrev pub output_shown : Progress → Stream → GName → OutputShown
output_shown progress stream name = record {
  flags = progress.flags;
  in_flight = progress.in_flight.items;
  tally = progress.tally;
  stream = stream;
  fault = progress.fault;
  name = name;
}

-- a line is counted
pub record Counts (failed : Bool) (old new : Tally) : Type 0 where
  pub lines : new.lines ≡ min (old.lines + 1) (2 ^ 64 - 1)
  pub failures : new.failed ≡ min (old.failed + (if failed then 1 else 0)) (2 ^ 64 - 1)

-- a line is written, or not whole, and counted
pub record WritesLine (line : Written) (old new : OutputShown) : Type 0 where
  pub whole : old.fault ≡ None
  pub is_line : IsLine old.flags line
  pub puts : PutsAs old.stream new.stream line.text new.fault
  pub counts : Counts (has_failed old.flags line) old.tally new.tally
  pub flags : new.flags ≡ old.flags
  pub name : new.name ≡ old.name

-- the line of a bad URL is written
pub record WritesBad (url : Text) (old new : OutputShown) : Type 0 where
  pub line : Written
  pub its_url : line.url ≡ url
  pub bad : line.ended ≡ None
  pub writes : WritesLine line old new
  pub in_flight : new.in_flight ≡ old.in_flight

-- a transfer in flight has this result, and its line is written
pub record WritesResult (result : JobResult) (old new : OutputShown) : Type 0 where
  pub place : ℕ
  pub one : InFlight
  pub below : place < length old.in_flight
  pub there : one ≡ get_or old.in_flight place one
  pub number : one.number ≡ result.number
  pub left : new.in_flight ≡ remove old.in_flight place
  pub line : Written
  pub its_url : line.url ≡ string_bytes one.url
  pub ended : line.ended ≡ Some result
  pub writes : WritesLine line old new

-- no transfer in flight has that number
abbrev pub HasNoTransfer : ℕ → List InFlight → Type 0
HasNoTransfer number transfers = All (λ (one : InFlight). one.number ≢ number) transfers

-- a result is ignored, since an earlier line could not be written, or no such transfer is in flight
pub record IgnoresResult (result : JobResult) (old new : OutputShown) : Type 0 where
  pub same : new ≡ old
  pub reason : (old.fault ≢ None) ⊎ HasNoTransfer result.number old.in_flight

-- a result is taken: its line is written, or it is ignored
abbrev pub TakesResult : JobResult → OutputShown → OutputShown → Type 0
TakesResult result old new = IgnoresResult result old new ⊎ WritesResult result old new

-- a text is put whole, or its put fails with that fault
abbrev pub PutsText : Stream → Stream → Text → Option StreamFault → Type 0
PutsText old new text None = Appends old.bytes new.bytes text × SameFailures old new
PutsText old new text (Some kind) = PutFails old new text kind

-- a text is put, unless there was no memory for it
abbrev pub WritesText : {E : Type 0} → Result (String Global) E → Stream → Stream → Option StreamFault → Type 0
WritesText (Ok text) old new fault = PutsText old new (string_bytes text) fault
WritesText (Err error) old new fault = (new ≡ old) × (fault ≡ Some Memory)

-- the flags and the transfers in flight stay the same
pub record KeepsProgress (old new : Progress) : Type 0 where
  pub flags : new.flags ≡ old.flags
  pub in_flight : new.in_flight.items ≡ old.in_flight.items

-- these transfers are in flight too
pub record BeginsAll (urls : List InFlight) (old new : OutputShown) : Type 0 where
  pub in_flight : new.in_flight ≡ old.in_flight ++ urls
  pub tally : new.tally ≡ old.tally
  pub stream : new.stream ≡ old.stream
  pub fault : new.fault ≡ old.fault
  pub flags : new.flags ≡ old.flags
  pub name : new.name ≡ old.name

abbrev pub url_in_flight : InFlight → Text
url_in_flight one = string_bytes one.url

abbrev pub urls_in_flight : List InFlight → List Text
urls_in_flight transfers = map url_in_flight transfers

abbrev pub url_written : Written → Text
url_written line = line.url

abbrev pub urls_written : List Written → List Text
urls_written lines = map url_written lines

-- the result of the transfer of that number is taken
abbrev pub TakesShown : OutputShown → OutputShown → ℕ → Done → Span → Type 0
TakesShown old new number done span = TakesResult (job_result number done span) old new

-- results that satisfy this were taken, the newest first, and nothing else was
abbrev pub TookAll : (List JobResult → Type 0) → OutputShown → OutputShown → Type 0
TookAll Came old new = TakesAll Came TakesShown old new
