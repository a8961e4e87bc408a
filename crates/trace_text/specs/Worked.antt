-- What lines of a trace say, one of each form, and what is wrong with others.
use Rattle.std.specs.Prelude.{◌≡◌, ℕ, codes, List, ◌++◌, replicate, Some, None, Ok, Err}
use Rattle.conn_log.specs.declared.entry.Cause.TheVariants.{TooOld}
use Rattle.script_text.specs.declared.command.Command.TheVariants as commands
use Rattle.script_text.specs.declared.command.HostCommand.TheVariants as asks
use Rattle.script_text.specs.declared.command.Action.TheVariants as actions
use Rattle.script_text.specs.declared.fault.FaultKind.{FaultKind}
use Rattle.script_text.specs.declared.fault.FaultKind.TheVariants.{LineTooLong, Unknown, Form}
use Rattle.trace_text.specs.declared.line.Line.{Line}
use Rattle.trace_text.specs.declared.line.Line.TheVariants as lines
use Rattle.trace_text.specs.declared.line.TracedEvent.{TracedEvent}
use Rattle.trace_text.specs.declared.line.TracedEvent.TheVariants as events
use Rattle.trace_text.specs.Lines.{trace_reading}

abbrev pub Says : List ℕ → Line → Type 0
Says text line = trace_reading text ≡ Ok (Some line)

abbrev pub Tells : List ℕ → ℕ → ℕ → TracedEvent → Type 0
Tells text host moment event = Says text (lines.Event (record { host = host; moment = moment; event = event }))

abbrev pub IsPassedOver : List ℕ → Type 0
IsPassedOver text = trace_reading text ≡ Ok None

abbrev pub IsWrong : List ℕ → FaultKind → Type 0
IsWrong text kind = trace_reading text ≡ Err kind

abbrev pub TellsStarts : Type 0
TellsStarts = Tells (codes "opened 0.1 for 7 at 3") 0 3 (events.Opened 1 7)
    × Tells (codes "leased 2.18446744073709551615 to 7 at 004") 2 4 (events.Leased 18446744073709551615 7)
    × Tells (codes " returned  0.1 by 7 at 5 ") 0 5 (events.Returned 1 7)

abbrev pub TellsCloses : Type 0
TellsCloses = Tells (codes "closed 0.1 too-old at 3") 0 3 (events.Closed 1 (Some TooOld))
    × Tells (codes "closed 0.1 at 3") 0 3 (events.Closed 1 None)

abbrev pub TellsOfTheQueue : Type 0
TellsOfTheQueue = Tells (codes "waits 7 host 1 at 3") 1 3 (events.Waited 7)
    × Tells (codes "left 7 host 1 at 4") 1 4 (events.Left 7)

abbrev pub TellsALimit : Type 0
TellsALimit = Tells (codes "limit 1 0 at 3") 1 3 (events.Limit 0)

abbrev pub SaysTheOrder : Type 0
SaysTheOrder = Says (codes "order host") lines.OrderHost × Says (codes "rest") lines.Rest

abbrev pub SaysWhatWasAsked : Type 0
SaysWhatWasAsked = Says (codes "claim 7 0") (lines.Command (commands.Ask (asks.At 0 (actions.Claim 7))))
    × Says (codes "upkeep") (lines.Command (commands.Ask asks.Upkeep))

abbrev pub PassesOver : Type 0
PassesOver = IsPassedOver (codes "# opened") × IsPassedOver (codes "  ") × IsPassedOver (codes "claimed 0.1")
    × IsPassedOver (codes "host 0 open 1") × IsPassedOver (codes "refused busy") × IsPassedOver (codes "still waiting")
    × IsPassedOver (codes "upkeep 0")

abbrev pub RefusesForms : Type 0
RefusesForms = IsWrong (codes "opened 01 for 7 at 3") Form × IsWrong (codes "opened 0.1 to 7 at 3") Form
    × IsWrong (codes "leased 4294967296.1 to 7 at 3") Form × IsWrong (codes "leased 0.1.2 to 7 at 3") Form
    × IsWrong (codes "closed 0.1 old at 3") Form × IsWrong (codes "closed 0.1") Form
    × IsWrong (codes "waits 7 host 1 at 3 more") Form × IsWrong (codes "upkeep 1") Form
    × IsWrong (codes "order") Form × IsWrong (codes "rest 1") Form

abbrev pub RefusesOthers : Type 0
RefusesOthers = IsWrong (codes "open 0.1 for 7 at 3") Unknown
    × IsPassedOver (codes "#" ++ replicate 2303 32) × IsWrong (codes "#" ++ replicate 2304 32) LineTooLong
