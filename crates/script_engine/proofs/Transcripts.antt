-- The transcript of each script tells of the entries of the logs behind it, line by line.
use Rattle.std.proofs.Common.{◌≡◌, ℕ, zero, suc, ◌+◌, ◌<◌, ◌≤◌, Bool, true, false, ◌&&◌, List, [], ◌∷◌, ◌++◌, length, filter, slice_index_or, replicate, refl, ap, sym, subst, ◌∙◌, arith, Option, Some, None, Result, Ok, Err}
use Rattle.std.proofs.lemmas.List.{length-append, length-replicate}
use Rattle.std.proofs.lemmas.List.Elements.{All-same, All-contains}
use Rattle.std.proofs.lemmas.Bool.{leb-false, true≢false}
use Rattle.std.proofs.Math.Bool.{and-true}
use Rattle.std.specs.Prelude.{nat_lt, nat_le, if◌then◌else◌, codes, is_some, is_none}
use Rattle.conn_log.specs.declared.entry.Want.{Want}
use Rattle.conn_log.specs.declared.entry.Entry.{Entry}
use Rattle.conn_log.specs.Connections.{is_among, held_number}
use Rattle.conn_key.specs.declared.site.Site.{Site}
use Rattle.conn_key.specs.Sites.{with_site, index_of}
use Rattle.budget.specs.Limits.{Bounds}
use Rattle.budget.specs.declared.refusal.Refusal.{Refusal}
use Rattle.budget.specs.declared.refusal.Refusal.TheVariants.{Memory, BadSite, TransferBusy, StrangeLease, StrangeTicket, Exhausted, Busy, PassesMissing, BadLimit}
use Rattle.host_state.specs.Calls.{refusal, limit_refusal}
use Rattle.cache.specs.AllHosts.{AllHosts, log_at, terms}
use Rattle.cache.specs.Calls.{after_giving_back, after_abandoning, after_prune, after_limit_of}
use Rattle.cache.proofs.Growth.{acquire_grows, give_back_grows, abandon_grows, withdraw_grows, prune_grows, limit_grows}
use Rattle.streams.specs.Lines.{lines}
use Rattle.script_text.specs.Printing.{refused}
use Rattle.script_text.specs.Grammar.{reading}
use Rattle.script_text.specs.Site.{site_named}
use Rattle.script_text.specs.declared.command.Limits.{Limits}
use Rattle.script_text.specs.declared.command.Action.{Action}
use Rattle.script_text.specs.declared.command.Action.TheVariants as actions
use Rattle.script_text.specs.declared.command.Command.{Command}
use Rattle.script_text.specs.declared.command.Command.TheVariants as commands
use Rattle.script_text.specs.declared.command.HostCommand.TheVariants as asks
use Rattle.script_text.specs.declared.command.Ending.{Ending}
use Rattle.script_text.specs.declared.fault.FaultKind.{FaultKind}
use Rattle.script_text.specs.declared.fault.FaultKind.TheVariants.{Place, BadLimits, TooManySites, ScriptTooLong}
use Rattle.script_engine.specs.Meaning.{ScriptHosts, AtSite, at_site, AnswerAt, Answer, Run, new_hosts, start, step, bounds_given, facts_of_ending, refusal_word, limit_word, claimed_number, replied, grown, after_getting, get_at, get_unless, claim_at, claim_of, back_at, back_of, drop_at, drop_of, leave_at, after_leaving, limit_at, limit_unless, look_at, stranger, act_at, at_no_host, put_back_at, answer_of, prune_all, upkeep_all, begun, with_limits, are_good, add_site, is_one_too_many, with_url, with_answer, most_sites}
use Rattle.script_engine.specs.Transcript.{Transcript, transcript, whole_text, told, before_others, line_step, line_step_of, LONGEST_SCRIPT}
use Rattle.script_engine.specs.Law.{run_after, after_line, all_behind}
use Rattle.script_engine.specs.TranscriptLines.{is_event_line, names_host, transcript_lines, EveryEventIsTold, EveryEventLineNamesAHost}
use Rattle.script_engine.proofs.WholeLines.{lines-text_of}
use Rattle.script_engine.proofs.EventLines.{NamedBelow, Tells, tells-same, tells-nothing, tells-both, tells-refused, tells-grown, tells-look, tells-claimed, tells-still, tells-upkeep, tells-too-many}

abbrev TellsAt : AllHosts → AnswerAt → Type 0
TellsAt all answer = Tells all answer.here.all answer.text

abbrev TellsAnswer : AllHosts → Answer → Type 0
TellsAnswer all answer = Tells all answer.hosts.all answer.text

tells-stranger : (here : AtSite) → TellsAt here.all (stranger here)
tells-stranger here = tells-refused here.all (codes "stranger") refl

tells-refusal : (here : AtSite) (reason : Refusal) → TellsAt here.all (replied here (refused (refusal_word reason)))
tells-refusal here Memory = tells-refused here.all (codes "memory") refl
tells-refusal here TransferBusy = tells-refused here.all (codes "busy") refl
tells-refusal here Exhausted = tells-refused here.all (codes "exhausted") refl
tells-refusal here BadSite = tells-refused here.all [] refl
tells-refusal here StrangeLease = tells-refused here.all [] refl
tells-refusal here StrangeTicket = tells-refused here.all [] refl
tells-refusal here (Busy n) = tells-refused here.all [] refl
tells-refusal here PassesMissing = tells-refused here.all [] refl
tells-refusal here BadLimit = tells-refused here.all [] refl

tells-limit-refusal : (here : AtSite) (reason : Refusal) → TellsAt here.all (replied here (limit_word reason))
tells-limit-refusal here (Busy held) = tells-too-many here.all held
tells-limit-refusal here Memory = tells-refused here.all (codes "bad-limit") refl
tells-limit-refusal here TransferBusy = tells-refused here.all (codes "bad-limit") refl
tells-limit-refusal here Exhausted = tells-refused here.all (codes "bad-limit") refl
tells-limit-refusal here BadSite = tells-refused here.all (codes "bad-limit") refl
tells-limit-refusal here StrangeLease = tells-refused here.all (codes "bad-limit") refl
tells-limit-refusal here StrangeTicket = tells-refused here.all (codes "bad-limit") refl
tells-limit-refusal here PassesMissing = tells-refused here.all (codes "bad-limit") refl
tells-limit-refusal here BadLimit = tells-refused here.all (codes "bad-limit") refl

-- an action at a site
module _ (limits : Bounds) (site : ℕ) (here : AtSite) (few : length here.all.logs ≤ 1024) where
  tells-get : (want : Want) (moment : ℕ) → TellsAt here.all (get_at limits site want moment here)
  unfolding get_at
  tells-get want moment = by_refusal (refusal (terms limits) (log_at here.all site) [] want)
    where
      by_refusal : (reason : Option Refusal) → TellsAt here.all (get_unless limits site want moment here reason)
      by_refusal (Some r) = tells-refusal here r
      by_refusal None = tells-grown here.all (after_getting limits site want moment here).all few (acquire_grows limits site want moment here.all)

  tells-claim : (transfer : ℕ) → TellsAt here.all (claim_at site transfer here)
  unfolding claim_at
  tells-claim transfer = by_ticket (is_among transfer here.tickets)
    where
      by_held : (held : Option ℕ) → TellsAt here.all (claim_of site transfer here held)
      by_held None = tells-still here.all
      by_held (Some c) = tells-claimed here.all site c

      by_ticket : (ticketed : Bool) → TellsAt here.all (if ticketed then claim_of site transfer here (held_number (log_at here.all site) transfer) else stranger here)
      by_ticket true = by_held (held_number (log_at here.all site) transfer)
      by_ticket false = tells-stranger here

  tells-back : (transfer : ℕ) (ending : Ending) (moment : ℕ) → TellsAt here.all (back_at limits site transfer ending moment here)
  unfolding back_at
  tells-back transfer ending moment = by_leased (claimed_number site here transfer)
    where
      by_leased : (leased : Option ℕ) → TellsAt here.all (back_of limits site ending moment here leased)
      by_leased None = tells-stranger here
      by_leased (Some c) = tells-grown here.all (after_giving_back limits site c (facts_of_ending ending) moment here.all) few (give_back_grows limits site c (facts_of_ending ending) moment here.all)

  tells-drop : (transfer moment : ℕ) → TellsAt here.all (drop_at limits site transfer moment here)
  unfolding drop_at
  tells-drop transfer moment = by_leased (claimed_number site here transfer)
    where
      by_leased : (leased : Option ℕ) → TellsAt here.all (drop_of limits site moment here leased)
      by_leased None = tells-stranger here
      by_leased (Some c) = tells-grown here.all (after_abandoning limits site c moment here.all) few (abandon_grows limits site c moment here.all)

  tells-leave : (transfer moment : ℕ) → TellsAt here.all (leave_at limits site transfer moment here)
  unfolding leave_at
  tells-leave transfer moment = by_ticket (is_among transfer here.tickets)
    where
      left : AtSite
      left = after_leaving limits site transfer moment here

      by_ticket : (ticketed : Bool) → TellsAt here.all (if ticketed then grown here left else stranger here)
      by_ticket true = tells-grown here.all left.all few (withdraw_grows limits site transfer moment here.all)
      by_ticket false = tells-stranger here

  tells-limited : (n moment : ℕ) → TellsAt here.all (limit_at limits site n moment here)
  unfolding limit_at
  tells-limited n moment = by_refusal (limit_refusal n (log_at here.all site))
    where
      by_refusal : (reason : Option Refusal) → TellsAt here.all (limit_unless limits site n moment here reason)
      by_refusal (Some r) = tells-limit-refusal here r
      by_refusal None = tells-grown here.all (after_limit_of limits site n moment here.all) few (limit_grows limits site n moment here.all)

  tells-looked : TellsAt here.all (look_at limits site here)
  unfolding look_at
  tells-looked = tells-look here.all site _ _ _ _ _

  tells-act : (action : Action) → TellsAt here.all (act_at limits site here action)
  tells-act (actions.Get want moment) = tells-get want moment
  tells-act (actions.Claim transfer) = tells-claim transfer
  tells-act (actions.Back transfer ending moment) = tells-back transfer ending moment
  tells-act (actions.Drop transfer moment) = tells-drop transfer moment
  tells-act (actions.Leave transfer moment) = tells-leave transfer moment
  tells-act (actions.Limit n moment) = tells-limited n moment
  tells-act actions.Look = tells-looked

tells-at_no_host : (all : AllHosts) (action : Action) → Tells all all (at_no_host action)
tells-at_no_host all (actions.Get want moment) = tells-refused all (codes "bad-site") refl
tells-at_no_host all (actions.Limit n moment) = tells-refused all (codes "bad-site") refl
tells-at_no_host all actions.Look = tells-refused all (codes "bad-site") refl
tells-at_no_host all (actions.Claim transfer) = tells-refused all (codes "stranger") refl
tells-at_no_host all (actions.Back transfer ending moment) = tells-refused all (codes "stranger") refl
tells-at_no_host all (actions.Drop transfer moment) = tells-refused all (codes "stranger") refl
tells-at_no_host all (actions.Leave transfer moment) = tells-refused all (codes "stranger") refl

-- a command, and what it makes of the run
tells-answer : (limits : Bounds) (hosts : ScriptHosts) (site : ℕ) (action : Action) → length hosts.all.logs ≤ 1024 → TellsAnswer hosts.all (answer_of limits hosts site action)
tells-answer limits hosts site action few = by_test (nat_lt site (length hosts.all.logs))
  where
    by_test : (there : Bool)
        → TellsAnswer hosts.all (if there then put_back_at site hosts (act_at limits site (at_site hosts site) action) else record { hosts = hosts; text = at_no_host action })
    by_test true = tells-act limits site (at_site hosts site) few action
    by_test false = tells-at_no_host hosts.all action

tells-pruned : (limits : Bounds) (max_age max_life moment : ℕ) (hosts : ScriptHosts) → length hosts.all.logs ≤ 1024 → TellsAnswer hosts.all (prune_all limits max_age max_life moment hosts)
unfolding prune_all
tells-pruned limits max_age max_life moment hosts few = tells-grown hosts.all (after_prune limits moment max_age max_life hosts.all) few (prune_grows limits moment max_age max_life hosts.all)

tells-kept-up : (hosts : ScriptHosts) → TellsAnswer hosts.all (upkeep_all hosts)
unfolding upkeep_all
tells-kept-up hosts = tells-upkeep hosts.all 0

-- what stays true of a run: it has no more sites and hosts than there may be, and no hosts before it has begun
record IsSmall (run : Run) : Type 0 where
  few_sites : length run.sites ≤ 1024
  few_hosts : length run.hosts.all.logs ≤ 1024
  not_begun : run.has_begun ≡ false → run.hosts ≡ new_hosts 0

-- what a step makes, if it makes anything
abbrev TellsStep : AllHosts → Result (Run × List ℕ) FaultKind → Type 0
TellsStep all (Err kind) = Unit {0}
TellsStep all (Ok next) = Tells all next.0.hosts.all next.1 × IsSmall next.0

abbrev no_entries : List Entry
no_entries = []

none-in : (n host : ℕ) → slice_index_or (replicate n no_entries) host no_entries ≡ no_entries
none-in zero host = refl
none-in (suc n) zero = refl
none-in (suc n) (suc host) = none-in n host

-- the hosts are there, and nothing is logged
record Begins (run next : Run) : Type 0 where
  tells : Tells run.hosts.all next.hosts.all []
  small : IsSmall next
  marked : next.has_begun ≡ true

begins : (run : Run) → IsSmall run → Begins run (begun run)
begins run small = by_test run.has_begun refl
  where
    made : Run
    made = record run { has_begun = true; hosts = new_hosts (length run.sites) }

    few : length made.hosts.all.logs ≤ 1024
    few = omega (arith, small.few_sites, length-replicate {A = List Entry})

    by_test : (has_begun : Bool) → run.has_begun ≡ has_begun → Begins run (if has_begun then run else made)
    by_test true is = record { tells = tells-nothing run.hosts.all; small = small; marked = is }
    by_test false is = record {
      tells = subst (λ (hosts : ScriptHosts). Tells hosts.all made.hosts.all []) (sym (small.not_begun is)) (tells-same (new_hosts 0).all made.hosts.all (omega arith) few (none-in (length run.sites)));
      small = record { few_sites = small.few_sites; few_hosts = few; not_begun = λ not. absurd (true≢false not) };
      marked = refl;
    }

tells-after : (run : Run) (answer : Bounds → ScriptHosts → Answer)
    → ((limits : Bounds) (hosts : ScriptHosts) → length hosts.all.logs ≤ 1024 → TellsAnswer hosts.all (answer limits hosts))
    → IsSmall run → (limits : Option Limits) → TellsStep run.hosts.all (with_answer run answer limits)
tells-after run answer tells small None = tt
tells-after run answer tells small (Some limits) =
    let first = begins run small in
    let given = tells (bounds_given limits) (begun run).hosts first.small.few_hosts in (
      tells-both run.hosts.all (begun run).hosts.all (answer (bounds_given limits) (begun run).hosts).hosts.all [] (answer (bounds_given limits) (begun run).hosts).text first.tells given,
      record { few_sites = first.small.few_sites; few_hosts = given.few first.small.few_hosts; not_begun = λ not. absurd (true≢false (sym first.marked ∙ not)) },
    )

-- what comes before
tells-limits : (run : Run) (limits : Limits) (old : Option Limits) → IsSmall run → TellsStep run.hosts.all (with_limits run limits old)
tells-limits run limits (Some others) small = tt
tells-limits run limits None small = by_good (are_good limits)
  where
    by_good : (good : Bool) → TellsStep run.hosts.all (if good then Ok (record run { limits = Some limits }, []) else Err BadLimits)
    by_good true = (tells-nothing run.hosts.all, record { few_sites = small.few_sites; few_hosts = small.few_hosts; not_begun = small.not_begun })
    by_good false = tt

-- a site more is one that is there already, or there was room for it
few-with : (sites : List Site) (site : Site) → length sites ≤ 1024 → is_one_too_many sites site ≡ false → length (with_site sites site) ≤ 1024
few-with sites site few not_many = by_index (index_of sites site) not_many
  where
    by_index : (index : Option ℕ) → (nat_le most_sites (length sites) && is_none index) ≡ false → length (if is_some index then sites else sites ++ site ∷ []) ≤ 1024
    by_index (Some i) room = few
    by_index None room =
        let less : length sites < 1024 = leb-false 1024 (length sites) (sym (and-true _) ∙ room) in
        omega (arith, length-append sites (site ∷ []))

tells-named : (run : Run) (site : Option Site) → IsSmall run → TellsStep run.hosts.all (add_site run site)
tells-named run None small = tt
tells-named run (Some site) small = by_test (is_one_too_many run.sites site) refl
  where
    by_test : (too_many : Bool) → is_one_too_many run.sites site ≡ too_many
        → TellsStep run.hosts.all (if too_many then Err TooManySites else Ok (record run { sites = with_site run.sites site }, []))
    by_test true is = tt
    by_test false is = (tells-nothing run.hosts.all, record { few_sites = few-with run.sites site small.few_sites is; few_hosts = small.few_hosts; not_begun = small.not_begun })

tells-site : (run : Run) (word : List ℕ) (old : Option Limits) → IsSmall run → TellsStep run.hosts.all (with_url run word old)
tells-site run word None small = tt
tells-site run word (Some limits) small = by_test run.has_begun
  where
    by_test : (has_begun : Bool) → TellsStep run.hosts.all (if has_begun then Err Place else add_site run (site_named word))
    by_test true = tt
    by_test false = tells-named run (site_named word) small

tells-step : (run : Run) (command : Command) → IsSmall run → TellsStep run.hosts.all (step run command)
unfolding step
tells-step run (commands.Limits limits) small = tells-limits run limits run.limits small
tells-step run (commands.Site word) small = tells-site run word run.limits small
tells-step run (commands.Ask (asks.At site action)) small =
    tells-after run (λ limits hosts. answer_of limits hosts site action) (λ limits hosts few. tells-answer limits hosts site action few) small run.limits
tells-step run (commands.Ask (asks.Prune max_age max_life moment)) small =
    tells-after run (λ limits hosts. prune_all limits max_age max_life moment hosts) (λ limits hosts few. tells-pruned limits max_age max_life moment hosts few) small run.limits
tells-step run (commands.Ask asks.Upkeep) small = tells-after run (λ limits hosts. upkeep_all hosts) (λ limits hosts few. tells-kept-up hosts) small run.limits

tells-line_step : (run : Run) (line : List ℕ) → IsSmall run → TellsStep run.hosts.all (line_step run line)
unfolding line_step
tells-line_step run line small = by_reading (reading line)
  where
    by_reading : (read : Result (Option Command) FaultKind) → TellsStep run.hosts.all (line_step_of run read)
    by_reading (Err kind) = tt
    by_reading (Ok None) = (tells-nothing run.hosts.all, small)
    by_reading (Ok (Some command)) = tells-step run command small

-- the lines of a script, one after another
tells-told : (run : Run) (number : ℕ) (lines : List (List ℕ)) → IsSmall run → Tells run.hosts.all (run_after run lines).hosts.all (whole_text (told run number lines))
tells-told run number [] small = tells-nothing run.hosts.all
tells-told run number (line ∷ others) small = by_step (line_step run line) (tells-line_step run line small) (λ next next_small. tells-told next (number + 1) others next_small)
  where
    by_step : (made : Result (Run × List ℕ) FaultKind) → TellsStep run.hosts.all made
        → ((next : Run) → IsSmall next → Tells next.hosts.all (run_after next others).hosts.all (whole_text (told next (number + 1) others)))
        → Tells run.hosts.all (after_line run made (λ next. run_after next others)).hosts.all (whole_text (before_others number made (λ next. told next (number + 1) others)))
    by_step (Err kind) first rest = tells-nothing run.hosts.all
    by_step (Ok next) first rest =
        tells-both run.hosts.all next.0.hosts.all (run_after next.0 others).hosts.all next.1 (whole_text (told next.0 (number + 1) others)) first.0 (rest next.0 first.1)

abbrev none : AllHosts
none = start.hosts.all

at-start : IsSmall start
at-start = record { few_sites = omega arith; few_hosts = omega arith; not_begun = λ is. refl }

tells-transcript : (script : List ℕ) → Tells none (all_behind script) (whole_text (transcript script))
unfolding transcript
tells-transcript script = by_length (nat_lt LONGEST_SCRIPT (length script))
  where
    too_long : Transcript
    too_long = record { texts = []; fault = Some (record { line = 0; kind = ScriptTooLong }) }

    by_length : (long : Bool) → Tells none (if long then start else run_after start (lines script)).hosts.all (whole_text (if long then too_long else told start 1 (lines script)))
    by_length true = tells-nothing none
    by_length false = tells-told start 1 (lines script) at-start

-- its lines are those that it was put together from
lines-are : (script : List ℕ) → transcript_lines script ≡ (tells-transcript script).parts
lines-are script = let tells = tells-transcript script in ap lines tells.whole ∙ lines-text_of tells.parts tells.one_lines

pub every_event_is_told : EveryEventIsTold
every_event_is_told script host =
    ap (λ parts. filter (names_host host) (filter is_event_line parts)) (lines-are script)
    ∙ sym ((tells-transcript script).events host)

pub every_event_line_names_a_host : EveryEventLineNamesAHost
every_event_line_names_a_host script line among event =
    let named = All-contains (NamedBelow (length (all_behind script).logs)) (transcript_lines script) line
    (All-same (NamedBelow (length (all_behind script).logs)) (transcript_lines script) (tells-transcript script).parts (lines-are script) (tells-transcript script).named)
    among event in
    record { host = named.0; there = named.1; named = named.2 }
