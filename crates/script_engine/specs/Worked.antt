-- Transcripts of small scripts: the worked ones, and one of each fault.
use Rattle.std.specs.Prelude.{◌≡◌, ℕ, codes, List, [], ◌∷◌, replicate, Option, Some, None, Ok, Err}
use Rattle.script_text.specs.declared.fault.FaultKind.TheVariants.{LineTooLong, Unknown, Form, Place, BadLimits, BadSite, TooManySites}
use Rattle.script_text.specs.declared.fault.ScriptFault.{ScriptFault}
use Rattle.script_engine.specs.Meaning.{Run, start}
use Rattle.script_engine.specs.Transcript.{transcript, whole_text, line_step}
use Rattle.cache.specs.AllHosts.{log_at}
use Rattle.script_engine.specs.Law.{all_behind}
use Rattle.script_engine.specs.TranscriptLines.{event_lines, leased_lines, lines_naming}

abbrev pub Tells : List ℕ → List ℕ → Option ScriptFault → Type 0
Tells script text fault = (whole_text (transcript script) ≡ text) × ((transcript script).fault ≡ fault)

abbrev pub reuse_then_drop_script : List ℕ
reuse_then_drop_script = codes "limits 1 0 4\nsite http://a.test/\nget 1 0 0 at 0\nback 1 0 keep at 2\nget 2 0 0 at 3\ndrop 2 0 at 4\nlook 0\n"

abbrev pub TellsReuseThenDrop : Type 0
TellsReuseThenDrop = Tells reuse_then_drop_script (codes "opened 0.1 for 1 at 0\nreturned 0.1 by 1 at 2\nleased 0.1 to 2 at 3\nclosed 0.1 dropped at 4\nhost 0 open 0 idle 0 leased 0 waiting 0 queued no\n") None

abbrev pub TellsBusyAndNoSuchSite : Type 0
TellsBusyAndNoSuchSite = Tells (codes "limits 4 0 4\nsite http://a.test/\nget 1 0 0 at 0\nget 1 0 0 at 1\nget 1 7 0 at 1\nlook 7\n") (codes "opened 0.1 for 1 at 0\nrefused busy\nrefused bad-site\nrefused bad-site\n") None

abbrev pub TellsNotPersistentAtTheLimit : Type 0
TellsNotPersistentAtTheLimit = Tells (codes "limits 1 0 4\nsite http://a.test/\nget 1 0 0 at 0\nget 2 0 0 at 1\nback 1 0 close at 2\nlook 0\n") (codes "opened 0.1 for 1 at 0\nwaits 2 host 0 at 1\nreturned 0.1 by 1 at 2\nclosed 0.1 not-persistent at 2\nopened 0.2 for 2 at 2\nhost 0 open 1 idle 0 leased 1 waiting 0 queued no\n") None

abbrev pub TellsGetWithAMissingWord : Type 0
TellsGetWithAMissingWord = Tells (codes "limits 4 0 4\nsite http://a.test/\nget 1 0 0 at 0\nget 1 0 0 at 1\nget 1 7 0 at 1\nlook 7\nget x\n") (codes "opened 0.1 for 1 at 0\nrefused busy\nrefused bad-site\nrefused bad-site\n") (Some (record { line = 7; kind = Form }))

abbrev pub TellsNoRoomToKeep : Type 0
TellsNoRoomToKeep = Tells (codes "limits 0 0 0\n") [] (Some (record { line = 1; kind = BadLimits }))

abbrev pub TellsIdleAsLongAsTheAge : Type 0
TellsIdleAsLongAsTheAge = Tells (codes "limits 4 0 4\nsite http://a.test/\nget 1 0 0 at 0\nback 1 0 keep at 10\nget 2 0 0 at 128\n") (codes "opened 0.1 for 1 at 0\nreturned 0.1 by 1 at 10\nleased 0.1 to 2 at 128\n") None

abbrev pub TellsIdleLongerThanTheAge : Type 0
TellsIdleLongerThanTheAge = Tells (codes "limits 4 0 4\nsite http://a.test/\nget 1 0 0 at 0\nback 1 0 keep at 10\nget 2 0 0 at 129\n") (codes "opened 0.1 for 1 at 0\nreturned 0.1 by 1 at 10\nclosed 0.1 too-old at 129\nopened 0.2 for 2 at 129\n") None

abbrev pub TellsAsOldAsTheLifetime : Type 0
TellsAsOldAsTheLifetime = Tells (codes "limits 4 0 4\nsite http://a.test/\nget 1 0 0 at 0\nback 1 0 keep at 60\nget 2 0 0 at 60 life 60\n") (codes "opened 0.1 for 1 at 0\nreturned 0.1 by 1 at 60\nleased 0.1 to 2 at 60\n") None

abbrev pub TellsOlderThanTheLifetime : Type 0
TellsOlderThanTheLifetime = Tells (codes "limits 4 0 4\nsite http://a.test/\nget 1 0 0 at 0\nback 1 0 keep at 60\nget 2 0 0 at 61 life 60\n") (codes "opened 0.1 for 1 at 0\nreturned 0.1 by 1 at 60\nclosed 0.1 too-old at 61\nopened 0.2 for 2 at 61\n") None

abbrev pub TellsAnotherLaneAtTheHostLimit : Type 0
TellsAnotherLaneAtTheHostLimit = Tells (codes "limits 1 0 4\nsite http://a.test/\nget 1 0 0 at 0\nback 1 0 keep at 2\nget 2 0 1 at 3\n") (codes "opened 0.1 for 1 at 0\nreturned 0.1 by 1 at 2\nclosed 0.1 host-room at 3\nopened 0.2 for 2 at 3\n") None

abbrev pub TellsForbiddenAndCut : Type 0
TellsForbiddenAndCut = Tells (codes "limits 4 0 4\nsite http://a.test/\nget 1 0 0 at 0 forbid\nback 1 0 keep at 1\nget 2 0 0 at 2\nback 2 0 cut at 3\n") (codes "opened 0.1 for 1 at 0\nreturned 0.1 by 1 at 1\nclosed 0.1 forbidden at 1\nopened 0.2 for 2 at 2\nreturned 0.2 by 2 at 3\nclosed 0.2 cut at 3\n") None

abbrev pub TellsMomentGoesBack : Type 0
TellsMomentGoesBack = Tells (codes "limits 4 0 4\nsite http://a.test/\nget 1 0 0 at 0\nback 1 0 keep at 20\nget 2 0 0 at 15 age 0\n") (codes "opened 0.1 for 1 at 0\nreturned 0.1 by 1 at 20\nleased 0.1 to 2 at 20\n") None

abbrev pub TellsOptionsInAnotherOrder : Type 0
TellsOptionsInAnotherOrder = Tells (codes "limits 4 0 4\nsite http://a.test/\nget 1 0 3 at 0\nback 1 0 keep at 1\nget 2 0 3 at 2 forbid life 60 fresh age 9\nback 2 0 keep at 3\n") (codes "opened 0.1 for 1 at 0\nreturned 0.1 by 1 at 1\nopened 0.2 for 2 at 2\nreturned 0.2 by 2 at 3\nclosed 0.2 forbidden at 3\n") None

abbrev pub TellsOneSiteInTwoSpellings : Type 0
TellsOneSiteInTwoSpellings = Tells (codes "limits 4 0 4\nsite http://a.test/\nsite HTTP://A.test:80/other\nlook 1\n") (codes "refused bad-site\n") None

abbrev pub TellsAnOptionTwice : Type 0
TellsAnOptionTwice = Tells (codes "limits 4 0 4\nsite http://a.test/\nget 1 0 0 at 0 age 1 fresh age 1\n") [] (Some (record { line = 3; kind = Form }))

abbrev pub TellsWaitThenClaim : Type 0
TellsWaitThenClaim = Tells (codes "limits 1 0 4\nsite http://a.test/\nget 1 0 0 at 0\nget 2 0 0 at 5\nback 1 0 keep at 10\nclaim 2 0\nlook 0\n") (codes "opened 0.1 for 1 at 0\nwaits 2 host 0 at 5\nreturned 0.1 by 1 at 10\nleased 0.1 to 2 at 10\nclaimed 0.1\nhost 0 open 1 idle 0 leased 1 waiting 0 queued no\n") None

abbrev pub TellsWithdrawAGrant : Type 0
TellsWithdrawAGrant = Tells (codes "limits 1 0 4\nsite http://a.test/\nget 1 0 0 at 0\nget 2 0 0 at 1\nget 3 0 0 at 2\nback 1 0 keep at 3\nleave 2 0 at 4\nback 1 0 keep at 5\nclaim 2 0\n") (codes "opened 0.1 for 1 at 0\nwaits 2 host 0 at 1\nwaits 3 host 0 at 2\nreturned 0.1 by 1 at 3\nleased 0.1 to 2 at 3\nclosed 0.1 withdrawn at 4\nopened 0.2 for 3 at 4\nrefused stranger\nrefused stranger\n") None

abbrev pub TellsMomentsClampedPerHost : Type 0
TellsMomentsClampedPerHost = Tells (codes "limits 1 0 4\nsite http://a.test/\nget 1 0 0 at 9\nget 2 0 0 at 3\ndrop 1 0 at 1\nleave 2 0 at 0\nlook 0\n") (codes "opened 0.1 for 1 at 9\nwaits 2 host 0 at 9\nclosed 0.1 dropped at 9\nopened 0.2 for 2 at 9\nclosed 0.2 withdrawn at 9\nhost 0 open 0 idle 0 leased 0 waiting 0 queued no\n") None

abbrev pub TellsTicketsAreNoLeases : Type 0
TellsTicketsAreNoLeases = Tells (codes "limits 1 0 4\nsite http://a.test/\nget 1 0 0 at 0\nget 2 0 0 at 1\nget 2 0 0 at 1\nclaim 2 0\nclaim 1 0\nclaim 2 7\ndrop 2 0 at 2\nleave 1 0 at 2\nback 1 0 keep at 3\nback 2 0 keep at 4\nclaim 2 0\nclaim 2 0\nleave 2 0 at 4\nback 2 0 keep at 5\n") (codes "opened 0.1 for 1 at 0\nwaits 2 host 0 at 1\nrefused busy\nstill waiting\nrefused stranger\nrefused stranger\nrefused stranger\nrefused stranger\nreturned 0.1 by 1 at 3\nleased 0.1 to 2 at 3\nrefused stranger\nclaimed 0.1\nrefused stranger\nrefused stranger\nreturned 0.1 by 2 at 5\n") None

abbrev pub TellsServedInOrder : Type 0
TellsServedInOrder = Tells (codes "limits 1 0 4\nsite http://a.test/\nget 1 0 0 at 0\nget 2 0 1 at 1\nget 3 0 0 at 2 life 3\nget 4 0 1 at 3\nleave 4 0 at 4\nback 1 0 keep at 5\nlook 0\nclaim 3 0\nclaim 2 0\nback 2 0 keep at 6\nclaim 3 0\n") (codes "opened 0.1 for 1 at 0\nwaits 2 host 0 at 1\nwaits 3 host 0 at 2\nwaits 4 host 0 at 3\nleft 4 host 0 at 4\nreturned 0.1 by 1 at 5\nclosed 0.1 host-room at 5\nopened 0.2 for 2 at 5\nhost 0 open 1 idle 0 leased 1 waiting 1 queued no\nstill waiting\nclaimed 0.2\nreturned 0.2 by 2 at 6\nclosed 0.2 host-room at 6\nopened 0.3 for 3 at 6\nclaimed 0.3\n") None

abbrev pub TellsLimitsAlone : Type 0
TellsLimitsAlone = Tells (codes "limits 0 0 4\n") [] None

abbrev pub TellsNewestIsReusedThenUpkeep : Type 0
TellsNewestIsReusedThenUpkeep = Tells (codes "limits 0 0 4\nsite http://a.test/\nget 1 0 0 at 0\nget 2 0 0 at 0\nback 1 0 keep at 5\nback 2 0 keep at 9\nget 3 0 0 at 9\nupkeep\nlook 0\n") (codes "opened 0.1 for 1 at 0\nopened 0.2 for 2 at 0\nreturned 0.1 by 1 at 5\nreturned 0.2 by 2 at 9\nleased 0.2 to 3 at 9\nupkeep 0\nhost 0 open 2 idle 1 leased 1 waiting 0 queued no\n") None

abbrev pub TellsPruneAndUpkeep : Type 0
TellsPruneAndUpkeep = Tells (codes "limits 0 0 4\nsite http://a.test/\nget 1 0 0 at 0\nget 2 0 0 at 0\nback 1 0 keep at 5\nback 2 0 keep at 9\nprune 3 0 at 9\nupkeep\nlook 0\n") (codes "opened 0.1 for 1 at 0\nopened 0.2 for 2 at 0\nreturned 0.1 by 1 at 5\nreturned 0.2 by 2 at 9\nclosed 0.1 pruned at 9\nupkeep 0\nhost 0 open 1 idle 1 leased 0 waiting 0 queued no\n") None

abbrev pub TellsPruneOverHosts : Type 0
TellsPruneOverHosts = Tells (codes "limits 0 0 4\nsite http://a.test/\nsite http://b.test/\nget 1 1 0 at 0\nget 2 0 0 at 0\nget 3 1 0 at 0\nback 1 1 keep at 4\nback 2 0 keep at 5\nback 3 1 keep at 7\nprune 2 0 at 9\nlook 1\n") (codes "opened 1.1 for 1 at 0\nopened 0.1 for 2 at 0\nopened 1.2 for 3 at 0\nreturned 1.1 by 1 at 4\nreturned 0.1 by 2 at 5\nreturned 1.2 by 3 at 7\nclosed 0.1 pruned at 9\nclosed 1.1 pruned at 9\nhost 1 open 1 idle 1 leased 0 waiting 0 queued no\n") None

abbrev pub TellsFullCacheClosesTheOldest : Type 0
TellsFullCacheClosesTheOldest = Tells (codes "limits 0 0 1\nsite http://a.test/\nget 1 0 0 at 0\nget 2 0 0 at 0\nback 1 0 keep at 4\nback 2 0 keep at 5\n") (codes "opened 0.1 for 1 at 0\nopened 0.2 for 2 at 0\nreturned 0.1 by 1 at 4\nclosed 0.1 cache-full at 5\nreturned 0.2 by 2 at 5\n") None

abbrev pub TellsTotalRoomFromAnotherHost : Type 0
TellsTotalRoomFromAnotherHost = Tells (codes "limits 0 2 4\nsite http://a.test/\nsite http://b.test/\nsite http://c.test/\nget 1 0 0 at 0\nget 2 1 0 at 0\nback 1 0 keep at 5\nback 2 1 keep at 6\nget 3 2 0 at 7\n") (codes "opened 0.1 for 1 at 0\nopened 1.1 for 2 at 0\nreturned 0.1 by 1 at 5\nreturned 1.1 by 2 at 6\nclosed 0.1 total-room at 7\nopened 2.1 for 3 at 7\n") None

abbrev pub TellsTotalRoomOnATie : Type 0
TellsTotalRoomOnATie = Tells (codes "limits 0 2 4\nsite http://a.test/\nsite http://b.test/\nsite http://c.test/\nget 1 0 0 at 0\nget 2 1 0 at 0\nback 2 1 keep at 5\nback 1 0 keep at 5\nget 3 2 0 at 7\n") (codes "opened 0.1 for 1 at 0\nopened 1.1 for 2 at 0\nreturned 1.1 by 2 at 5\nreturned 0.1 by 1 at 5\nclosed 0.1 total-room at 7\nopened 2.1 for 3 at 7\n") None

abbrev pub TellsHostWaitsForTheTotal : Type 0
TellsHostWaitsForTheTotal = Tells (codes "limits 0 1 4\nsite http://a.test/\nsite http://b.test/\nget 1 0 0 at 0\nget 2 1 0 at 1\nlook 1\nback 1 0 keep at 3\nclaim 2 1\n") (codes "opened 0.1 for 1 at 0\nwaits 2 host 1 at 1\nhost 1 open 0 idle 0 leased 0 waiting 1 queued yes\nreturned 0.1 by 1 at 3\nclosed 0.1 total-room at 3\nopened 1.1 for 2 at 3\nclaimed 1.1\n") None

abbrev pub TellsHostsTakeTurns : Type 0
TellsHostsTakeTurns = Tells (codes "limits 0 1 4\nsite http://a.test/\nsite http://b.test/\nsite http://c.test/\nget 1 0 0 at 0\nget 2 1 0 at 1\nget 3 1 0 at 2\nget 4 2 0 at 3\ndrop 1 0 at 5\nleave 2 1 at 6\nleave 3 1 at 7\n") (codes "opened 0.1 for 1 at 0\nwaits 2 host 1 at 1\nwaits 3 host 1 at 2\nwaits 4 host 2 at 3\nclosed 0.1 dropped at 5\nopened 1.1 for 2 at 5\nclosed 1.1 withdrawn at 6\nopened 1.2 for 3 at 6\nclosed 1.2 withdrawn at 7\nopened 2.1 for 4 at 7\n") None

abbrev pub TellsLowerTheHostLimit : Type 0
TellsLowerTheHostLimit = Tells (codes "limits 0 0 4\nsite http://a.test/\nget 1 0 0 at 0\nget 2 0 0 at 0\nget 3 0 0 at 0\nback 1 0 keep at 4\nback 2 0 keep at 5\nlimit 0 2 at 6\nlimit 0 65536 at 7\nlimit 7 1 at 7\nlook 0\n") (codes "opened 0.1 for 1 at 0\nopened 0.2 for 2 at 0\nopened 0.3 for 3 at 0\nreturned 0.1 by 1 at 4\nreturned 0.2 by 2 at 5\nclosed 0.1 host-room at 6\nlimit 0 2 at 6\nrefused bad-limit\nrefused bad-site\nhost 0 open 2 idle 1 leased 1 waiting 0 queued no\n") None

abbrev pub TellsRaiseTheHostLimit : Type 0
TellsRaiseTheHostLimit = Tells (codes "limits 1 0 4\nsite http://a.test/\nget 1 0 0 at 0\nget 2 0 0 at 1\nget 3 0 0 at 2\nlimit 0 2 at 5\nlook 0\nlimit 0 1 at 6\nback 1 0 keep at 7\n") (codes "opened 0.1 for 1 at 0\nwaits 2 host 0 at 1\nwaits 3 host 0 at 2\nlimit 0 2 at 5\nopened 0.2 for 2 at 5\nhost 0 open 2 idle 0 leased 2 waiting 1 queued no\nrefused leased 2\nreturned 0.1 by 1 at 7\nleased 0.1 to 3 at 7\n") None

abbrev pub TellsRaiseAndWaitForTheTotal : Type 0
TellsRaiseAndWaitForTheTotal = Tells (codes "limits 1 2 4\nsite http://a.test/\nsite http://b.test/\nget 1 0 0 at 0\nget 2 0 0 at 1\nget 3 1 0 at 1\nlimit 0 2 at 2\nlook 0\nback 3 1 keep at 3\nclaim 2 0\n") (codes "opened 0.1 for 1 at 0\nwaits 2 host 0 at 1\nopened 1.1 for 3 at 1\nlimit 0 2 at 2\nhost 0 open 1 idle 0 leased 1 waiting 1 queued yes\nopened 0.2 for 2 at 3\nreturned 1.1 by 3 at 3\nclosed 1.1 total-room at 3\nclaimed 0.2\n") None

abbrev pub TellsRaiseTheLimitForTwo : Type 0
TellsRaiseTheLimitForTwo = Tells (codes "limits 1 0 4\nsite http://a.test/\nget 1 0 0 at 0\nget 2 0 0 at 1\nget 3 0 0 at 2\nget 4 0 0 at 3\nlimit 0 3 at 5\nlook 0\n") (codes "opened 0.1 for 1 at 0\nwaits 2 host 0 at 1\nwaits 3 host 0 at 2\nwaits 4 host 0 at 3\nlimit 0 3 at 5\nopened 0.2 for 2 at 5\nopened 0.3 for 3 at 5\nhost 0 open 3 idle 0 leased 3 waiting 1 queued no\n") None

abbrev pub TellsNoLimitOnAHost : Type 0
TellsNoLimitOnAHost = Tells (codes "limits 1 0 4\nsite http://a.test/\nget 1 0 0 at 0\nget 2 0 0 at 1\nlimit 0 0 at 5\n") (codes "opened 0.1 for 1 at 0\nwaits 2 host 0 at 1\nlimit 0 65535 at 5\nopened 0.2 for 2 at 5\n") None

abbrev pub TellsUnknownCommand : Type 0
TellsUnknownCommand = Tells (codes "limits 4 0 4\nsite http://a.test/\nget 1 0 0 at 0\nrenew\n") (codes "opened 0.1 for 1 at 0\n") (Some (record { line = 4; kind = Unknown }))

abbrev pub TellsSecondLimits : Type 0
TellsSecondLimits = Tells (codes "limits 4 0 4\nlimits 4 0 4\n") [] (Some (record { line = 2; kind = Place }))

abbrev pub TellsBadSite : Type 0
TellsBadSite = Tells (codes "limits 4 0 4\n\n# a site\nsite ftp://a.test/\n") [] (Some (record { line = 4; kind = BadSite }))

-- with 1,024 sites another is one too many, and one that is there adds none
abbrev pub full_run : Run
full_run = record start { limits = Some (record { host = 4; total = 0; kept = 4 }); sites = replicate 1024 (codes "a.test", 80) }

abbrev pub TellsOneSiteTooMany : Type 0
TellsOneSiteTooMany = line_step full_run (codes "site http://b.test/") ≡ Err TooManySites

abbrev pub TellsASiteThatIsThere : Type 0
TellsASiteThatIsThere = line_step full_run (codes "site http://a.test/") ≡ Ok (full_run, [])

-- a comment of 2,304 bytes is skipped, one of 2,305 bytes is too long
abbrev pub TellsLongestLine : Type 0
TellsLongestLine = Tells (replicate 2304 35) [] None

abbrev pub TellsLineTooLongByOne : Type 0
TellsLineTooLongByOne = Tells (replicate 2305 35) [] (Some (record { line = 1; kind = LineTooLong }))

-- the lines of the log behind a script
abbrev pub TellsEvents : Type 0
TellsEvents = event_lines 0 (log_at (all_behind reuse_then_drop_script) 0) ≡ codes "opened 0.1 for 1 at 0" ∷ codes "returned 0.1 by 1 at 2" ∷ codes "leased 0.1 to 2 at 3" ∷ codes "closed 0.1 dropped at 4" ∷ []

abbrev pub TellsLeases : Type 0
TellsLeases = leased_lines 0 (log_at (all_behind reuse_then_drop_script) 0) ≡ codes "leased 0.1 to 2 at 3" ∷ []

-- the lines that name one host of several, and those of them that tell of leases
abbrev pub two_hosts_script : List ℕ
two_hosts_script = codes "limits 0 0 4\nsite http://a.test/\nsite http://b.test/\nget 1 0 0 at 0\nget 2 1 0 at 1\nback 2 1 keep at 2\nget 1 1 0 at 3\nlook 1\n"

abbrev pub TellsLinesNamingTheSecondHost : Type 0
TellsLinesNamingTheSecondHost = lines_naming 1 two_hosts_script ≡ codes "opened 1.1 for 2 at 1" ∷ codes "returned 1.1 by 2 at 2" ∷ codes "leased 1.1 to 1 at 3" ∷ []

abbrev pub TellsLeasesAtTheSecondHost : Type 0
TellsLeasesAtTheSecondHost = leased_lines 1 (log_at (all_behind two_hosts_script) 1) ≡ codes "leased 1.1 to 1 at 3" ∷ []
