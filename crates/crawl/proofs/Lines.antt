-- Lines as they are written.
use Rattle.std.proofs.Common.{◌≡◌, ◌<◌, ℕ, [], length, get_or, refl, rules, sym, subst, string_bytes, inl, inr}
use Rattle.std.specs.Prelude.{true, false, is_some, String, remove, Option, Some, None, Result, Ok, Err, IfOk}
use Rattle.std.specs.Global.{Global}
use Rattle.std.specs.Io.KnownBytes.{Appends}
use Rattle.std.proofs.KnownBytes.{Appends-nil}
use Rattle.run_loop.specs.Taking.{JobResult}
use Rattle.streams.specs.Streams.{SameFailures, Stream}
use Rattle.streams.specs.declared.stream_fault.StreamFault.{StreamFault}
use Rattle.streams.specs.declared.stream_fault.StreamFault.TheVariants.{Memory, Read, Write}
use Rattle.client.specs.Lines.{Text, fetched_as, line_of}
use Rattle.crawl.specs.Written.{Counts, HasNoTransfer, OutputShown, PutsAs, PutsText, TakesResult, WritesBad, WritesText, done_failed}
use Rattle.crawl.specs.declared.in_flight.InFlight.{InFlight}

-- nothing failed
pub no_fault : (fault : Option StreamFault) → is_some fault ≡ false → fault ≡ None
no_fault None none = refl
no_fault (Some kind) none = absurd (search (rules, none))

-- a line that there is no memory for is not written
lost : (text : Text) (old new : Stream) (fault : Option StreamFault) → new ≡ old → fault ≡ Some Memory → PutsAs old new text fault
lost text old new fault same is =
    subst (PutsAs old new text) (sym is) (subst (λ (s : Stream). Appends old.bytes s.bytes [] × SameFailures old s) (sym same) (Appends-nil old.bytes, refl))

-- a line is written as its text is put
put_as : (text : Text) (old new : Stream) (fault : Option StreamFault) → PutsText old new text fault → PutsAs old new text fault
put_as text old new None puts = puts
put_as text old new (Some Memory) fails = (fails.0, fails.1)
put_as text old new (Some Write) fails = fails
put_as text old new (Some Read) fails = fails

-- the line of a bad URL is written
pub bad_written : {E : Type 0} (line : Result (String Global) E) (url : Text) (old new : OutputShown) → old.fault ≡ None → WritesText line old.stream new.stream new.fault → Counts true old.tally new.tally
    → new.flags ≡ old.flags → new.in_flight ≡ old.in_flight → new.name ≡ old.name → WritesBad url old new
bad_written (Ok text) url old new whole writes counts flags in_flight name = record {
  line = record { url = url; ended = None; text = string_bytes text };
  its_url = refl;
  bad = refl;
  writes = record { whole = whole; is_line = tt; puts = put_as (string_bytes text) old.stream new.stream new.fault writes; counts = counts; flags = flags; name = name };
  in_flight = in_flight;
}
bad_written (Err error) url old new whole writes counts flags in_flight name = record {
  line = record { url = url; ended = None; text = [] };
  its_url = refl;
  bad = refl;
  writes = record { whole = whole; is_line = tt; puts = lost [] old.stream new.stream new.fault writes.0 writes.1; counts = counts; flags = flags; name = name };
  in_flight = in_flight;
}

-- a result is ignored once a line could not be written
pub ignored_after_fault : (result : JobResult) (shown : OutputShown) → is_some shown.fault ≡ true → TakesResult result shown shown
ignored_after_fault result shown failed = inl (record { same = refl; reason = inl (λ none. is_no_fault shown.fault failed none) })
  where
    is_no_fault : (fault : Option StreamFault) → is_some fault ≡ true → fault ≡ None → ⊥
    is_no_fault fault failed none = search (rules, failed, none)

-- a result is ignored if its transfer is not in flight
pub ignored_unknown : (result : JobResult) (shown : OutputShown) → HasNoTransfer result.number shown.in_flight → TakesResult result shown shown
ignored_unknown result shown none = inl (record { same = refl; reason = inr none })

-- the line of a result is written
pub result_written : {E : Type 0} (line : Result (String Global) E) (result : JobResult) (place : ℕ) (one : InFlight) (old new : OutputShown) → place < length old.in_flight → one ≡ get_or old.in_flight place one → one.number ≡ result.number → old.fault ≡ None
    → IfOk line (λ text. old.flags.json ≡ false → string_bytes text ≡ line_of (string_bytes one.url) (fetched_as result.span.retried result.done)) → WritesText line old.stream new.stream new.fault
    → Counts (done_failed old.flags result.done) old.tally new.tally → new.flags ≡ old.flags → new.in_flight ≡ remove old.in_flight place → new.name ≡ old.name → TakesResult result old new
result_written (Ok text) result place one old new below there number whole is writes counts flags left name = inr (record {
  place = place;
  one = one;
  below = below;
  there = there;
  number = number;
  left = left;
  line = record { url = string_bytes one.url; ended = Some result; text = string_bytes text };
  its_url = refl;
  ended = refl;
  writes = record { whole = whole; is_line = is; puts = put_as (string_bytes text) old.stream new.stream new.fault writes; counts = counts; flags = flags; name = name };
})
result_written (Err error) result place one old new below there number whole is writes counts flags left name =
    let text = line_of (string_bytes one.url) (fetched_as result.span.retried result.done) in
    inr (record {
      place = place;
      one = one;
      below = below;
      there = there;
      number = number;
      left = left;
      line = record { url = string_bytes one.url; ended = Some result; text = text };
      its_url = refl;
      ended = refl;
      writes = record { whole = whole; is_line = λ plain. refl; puts = lost text old.stream new.stream new.fault writes.0 writes.1; counts = counts; flags = flags; name = name };
    })
