-- Each command leaves all hosts at rest, so the logs behind a script are legal, and nobody waits beside room.
use Rattle.std.proofs.Common.{◌≡◌, ℕ, zero, suc, ◌<◌, Bool, true, false, ◌==◌, ◌&&◌, List, [], ◌∷◌, Option, Some, None, Result, Ok, Err, is_none, refl, sym, subst, ap, ◌∙◌, arith}
use Rattle.std.specs.Prelude.{nat_lt, if◌then◌else◌, cond, length, replicate, slice_index_or}
use Rattle.std.specs.Option.{option_map}
use Rattle.std.proofs.lemmas.Bool.Decides.{nat_tests}
use Rattle.conn_log.specs.declared.entry.Event.{Event}
use Rattle.conn_log.specs.declared.entry.Event.TheVariants.{Opened, Leased, Returned, Closed, Waited, Left, Limit}
use Rattle.conn_log.specs.declared.entry.Want.{Want}
use Rattle.conn_log.specs.declared.entry.Entry.{Entry}
use Rattle.conn_log.specs.Connections.{is_among, is_idle, holder_want, held_number, holds, came_back_persistent}
use Rattle.conn_log.specs.Waiting.{waiting}
use Rattle.conn_log.specs.Fit.{suits}
use Rattle.conn_log.specs.Legal.{LimitAndFirst, IsLegal, Allows, MayStartAmong}
use Rattle.conn_log.proofs.Steps.{idle_open_unheld}
use Rattle.conn_log.proofs.Soundness.{and_left, and_right}
use Rattle.budget.specs.Limits.{Bounds, AreLimits}
use Rattle.budget.specs.declared.refusal.Refusal.{Refusal}
use Rattle.budget.specs.declared.refusal.Refusal.TheVariants as refusals
use Rattle.host_state.specs.Calls.{refusal, limit_refusal, is_busy}
use Rattle.host_state.specs.Steps.{is_exhausted}
use Rattle.cache.specs.AllHosts.{AllHosts, log_at, terms, IsAtRest}
use Rattle.cache.specs.Laws.{NewIsAtRest, AcquireEndsAtRest, GiveBackEndsAtRest, AbandonEndsAtRest, WithdrawEndsAtRest, PruneEndsAtRest, LimitEndsAtRest, NobodyWaitsBesideRoom}
use Rattle.streams.specs.Lines.{lines}
use Rattle.script_text.specs.Grammar.{reading}
use Rattle.script_text.specs.Site.{site_named}
use Rattle.script_engine.specs.Meaning.{ScriptHosts, AtSite, at_site, new_hosts, Answer, Run, start, begun, step, bounds_given, facts_of_ending, claimed_number, stranger, grown, get_at, get_unless, claim_at, claim_of, back_at, back_of, drop_at, drop_of, leave_at, after_leaving, limit_at, limit_unless, look_at, act_at, at_no_host, put_back_at, answer_of, prune_all, upkeep_all, with_limits, add_site, is_one_too_many, with_url, with_answer, are_good}
use Rattle.conn_key.specs.declared.site.Site.{Site}
use Rattle.conn_key.specs.Sites.{with_site}
use Rattle.script_engine.specs.Transcript.{line_step, line_step_of, LONGEST_SCRIPT}
use Rattle.script_engine.specs.Law.{run_after, after_line, run_behind, all_behind, limits_of, AreLegalUnder, AreAtRestUnder, WaitForRoomUnder, WasFree, LeasesFree, EachLeaseWasFree, IsHead, StartsTheHead, EachStartIsOfTheHead, EveryLogIsLegal, EveryScriptEndsAtRest, EveryWaitIsForRoom, EveryLeaseWasFree, EveryStartIsOfTheHead}
use Rattle.script_text.specs.declared.command.Limits.{Limits}
use Rattle.script_text.specs.declared.command.Action.{Action}
use Rattle.script_text.specs.declared.command.Action.TheVariants as actions
use Rattle.script_text.specs.declared.command.Command.{Command}
use Rattle.script_text.specs.declared.command.Command.TheVariants as commands
use Rattle.script_text.specs.declared.command.HostCommand.TheVariants as asks
use Rattle.script_text.specs.declared.command.Ending.{Ending}
use Rattle.script_text.specs.declared.fault.FaultKind.{FaultKind}
use Rattle.script_text.specs.declared.fault.FaultKind.TheVariants.{Place, BadLimits, TooManySites}

-- what the calls keep of all hosts
pub record CallsKeep : Type 0 where
  pub at_first : NewIsAtRest
  pub acquire : AcquireEndsAtRest
  pub give_back : GiveBackEndsAtRest
  pub abandon : AbandonEndsAtRest
  pub withdraw : WithdrawEndsAtRest
  pub prune : PruneEndsAtRest
  pub limit : LimitEndsAtRest

-- all hosts are at rest, under limits that can be kept; without limits there are none
pub record Rests (limits : Bounds) (all : AllHosts) : Type 0 where
  pub some : AreLimits limits
  pub rest : IsAtRest limits all

abbrev pub RestUnder : Option Limits → ScriptHosts → Type 0
RestUnder None hosts = hosts ≡ new_hosts 0
RestUnder (Some limits) hosts = Rests (bounds_given limits) hosts.all

abbrev pub RestRun : Run → Type 0
RestRun run = RestUnder run.limits run.hosts

-- what a step makes, if it makes anything
abbrev pub RestStep : Result (Run × List ℕ) FaultKind → Type 0
RestStep (Err kind) = Unit {0}
RestStep (Ok next) = RestRun next.0

-- limits that are not refused can be kept
good_limits : (limits : Limits) → are_good limits ≡ true → AreLimits (bounds_given limits)
good_limits limits good = by_zeros (limits.host == 0) refl (limits.total == 0) refl
  where
    by_zeros : (none_here : Bool) → (limits.host == 0) ≡ none_here → (none_in_all : Bool) → (limits.total == 0) ≡ none_in_all → AreLimits (bounds_given limits)
    by_zeros none_here here none_in_all in_all = record {
      some_at_a_host = grind (arith, nat_tests, good, here, in_all);
      some_open = grind (arith, nat_tests, good, here, in_all);
      some_kept = grind (arith, nat_tests, good, here, in_all);
      host_fits = grind (arith, nat_tests, good, here, in_all);
      total_fits = grind (arith, nat_tests, good, here, in_all);
      kept_fits = grind (arith, nat_tests, good, here, in_all);
    }

-- new hosts have empty logs
pub none_yet : (n host : ℕ) → (let nothing : List Entry = [] in slice_index_or (replicate n nothing) host nothing ≡ nothing)
none_yet zero host = refl
none_yet (suc n) zero = refl
none_yet (suc n) (suc host) = none_yet n host

-- a transfer that is not refused is not busy
pub accepted_idle : (settings : LimitAndFirst) (log : List Entry) (want : Want) → refusal settings log [] want ≡ None → is_busy log [] want.transfer ≡ false
accepted_idle settings log want e = not_busy (is_busy log [] want.transfer) (is_exhausted settings log 0) e
  where
    not_busy : (busy exhausted : Bool) → cond busy (Some refusals.TransferBusy) (cond exhausted (Some refusals.Exhausted) None) ≡ None → busy ≡ false
    not_busy true exhausted e = cc
    not_busy false exhausted e = refl

-- what a transfer has a lease of, it holds
pub held_where_leased : (ticketed : Bool) (held : Option ℕ) (c : ℕ) → cond ticketed None held ≡ Some c → held ≡ Some c
held_where_leased true held c leased = cc
held_where_leased false held c leased = leased

-- a site that is there
pub is_there : (site hosts : ℕ) → nat_lt site hosts ≡ true → site < hosts
is_there site hosts is = grind (arith, nat_tests, is)

module _ (keep : CallsKeep) (limits : Bounds) (site : ℕ) (here : AtSite) (rests : Rests limits here.all) (there : site < length here.all.logs) where
  rest_get : (want : Want) (moment : ℕ) → IsAtRest limits (get_at limits site want moment here).here.all
  unfolding get_at
  rest_get want moment = by_refusal (refusal (terms limits) (log_at here.all site) [] want) refl
    where
      by_refusal : (reason : Option Refusal) → refusal (terms limits) (log_at here.all site) [] want ≡ reason → IsAtRest limits (get_unless limits site want moment here reason).here.all
      by_refusal (Some r) is = rests.rest
      by_refusal None is = keep.acquire limits site want moment here.all rests.rest.lawful there (accepted_idle (terms limits) (log_at here.all site) want is)

  rest_claim : (transfer : ℕ) → IsAtRest limits (claim_at site transfer here).here.all
  unfolding claim_at
  rest_claim transfer = by_ticket (is_among transfer here.tickets)
    where
      by_held : (held : Option ℕ) → IsAtRest limits (claim_of site transfer here held).here.all
      by_held None = rests.rest
      by_held (Some c) = rests.rest

      by_ticket : (ticketed : Bool) → IsAtRest limits (if ticketed then claim_of site transfer here (held_number (log_at here.all site) transfer) else stranger here).here.all
      by_ticket true = by_held (held_number (log_at here.all site) transfer)
      by_ticket false = rests.rest

  rest_back : (transfer : ℕ) (ending : Ending) (moment : ℕ) → IsAtRest limits (back_at limits site transfer ending moment here).here.all
  unfolding back_at
  rest_back transfer ending moment = by_leased (claimed_number site here transfer) refl
    where
      by_leased : (leased : Option ℕ) → claimed_number site here transfer ≡ leased → IsAtRest limits (back_of limits site ending moment here leased).here.all
      by_leased None is = rests.rest
      by_leased (Some c) is =
          let held = held_where_leased (is_among transfer here.tickets) (held_number (log_at here.all site) transfer) c is in
          keep.give_back limits site transfer c (facts_of_ending ending) moment here.all rests.some rests.rest.lawful there held

  rest_drop : (transfer moment : ℕ) → IsAtRest limits (drop_at limits site transfer moment here).here.all
  unfolding drop_at
  rest_drop transfer moment = by_leased (claimed_number site here transfer) refl
    where
      by_leased : (leased : Option ℕ) → claimed_number site here transfer ≡ leased → IsAtRest limits (drop_of limits site moment here leased).here.all
      by_leased None is = rests.rest
      by_leased (Some c) is =
          let held = held_where_leased (is_among transfer here.tickets) (held_number (log_at here.all site) transfer) c is in
          keep.abandon limits site transfer c moment here.all rests.rest.lawful there held

  rest_leave : (transfer moment : ℕ) → IsAtRest limits (leave_at limits site transfer moment here).here.all
  unfolding leave_at
  rest_leave transfer moment = by_ticket (is_among transfer here.tickets)
    where
      by_ticket : (ticketed : Bool) → IsAtRest limits (if ticketed then grown here (after_leaving limits site transfer moment here) else stranger here).here.all
      by_ticket true = keep.withdraw limits site transfer moment here.all rests.rest.lawful there
      by_ticket false = rests.rest

  rest_limit : (n moment : ℕ) → IsAtRest limits (limit_at limits site n moment here).here.all
  unfolding limit_at
  rest_limit n moment = by_refusal (limit_refusal n (log_at here.all site)) refl
    where
      by_refusal : (reason : Option Refusal) → limit_refusal n (log_at here.all site) ≡ reason → IsAtRest limits (limit_unless limits site n moment here reason).here.all
      by_refusal (Some r) is = rests.rest
      by_refusal None is = keep.limit limits site n moment here.all rests.rest.lawful there is

  rest_look : IsAtRest limits (look_at limits site here).here.all
  unfolding look_at
  rest_look = rests.rest

  rest_act : (action : Action) → IsAtRest limits (act_at limits site here action).here.all
  rest_act (actions.Get want moment) = rest_get want moment
  rest_act (actions.Claim transfer) = rest_claim transfer
  rest_act (actions.Back transfer ending moment) = rest_back transfer ending moment
  rest_act (actions.Drop transfer moment) = rest_drop transfer moment
  rest_act (actions.Leave transfer moment) = rest_leave transfer moment
  rest_act (actions.Limit n moment) = rest_limit n moment
  rest_act actions.Look = rest_look

module _ (keep : CallsKeep) where
  rest_answer : (limits : Bounds) (hosts : ScriptHosts) (site : ℕ) (action : Action) → Rests limits hosts.all → IsAtRest limits (answer_of limits hosts site action).hosts.all
  rest_answer limits hosts site action rests = by_test (nat_lt site (length hosts.all.logs)) refl
    where
      by_test : (there : Bool) → nat_lt site (length hosts.all.logs) ≡ there
          → IsAtRest limits (if there then put_back_at site hosts (act_at limits site (at_site hosts site) action) else record { hosts = hosts; text = at_no_host action }).hosts.all
      by_test true is = rest_act keep limits site (at_site hosts site) rests (is_there site (length hosts.all.logs) is) action
      by_test false is = rests.rest

  rest_prune : (limits : Bounds) (max_age max_life moment : ℕ) (hosts : ScriptHosts) → Rests limits hosts.all → IsAtRest limits (prune_all limits max_age max_life moment hosts).hosts.all
  unfolding prune_all
  rest_prune limits max_age max_life moment hosts rests = keep.prune limits moment max_age max_life hosts.all rests.rest.lawful

  rest_upkeep : (limits : Bounds) (hosts : ScriptHosts) → Rests limits hosts.all → IsAtRest limits (upkeep_all hosts).hosts.all
  unfolding upkeep_all
  rest_upkeep limits hosts rests = rests.rest

  rest_new : (limits : Bounds) (n : ℕ) → IsAtRest limits (new_hosts n).all
  rest_new limits n = keep.at_first limits (new_hosts n).all (none_yet n) refl

  rest_limits : (run : Run) (limits : Limits) (old : Option Limits) → RestUnder old run.hosts → RestStep (with_limits run limits old)
  rest_limits run limits (Some others) rests = tt
  rest_limits run limits None nothing = by_good (are_good limits) refl
    where
      by_good : (good : Bool) → are_good limits ≡ good → RestStep (if good then Ok (record run { limits = Some limits }, []) else Err BadLimits)
      by_good true is = record { some = good_limits limits is; rest = subst (λ (hosts : ScriptHosts). IsAtRest (bounds_given limits) hosts.all) (sym nothing) (rest_new (bounds_given limits) 0) }
      by_good false is = tt

  rest_named : (run : Run) (site : Option Site) → RestRun run → RestStep (add_site run site)
  rest_named run None rests = tt
  rest_named run (Some site) rests = by_test (is_one_too_many run.sites site)
    where
      by_test : (too_many : Bool) → RestStep (if too_many then Err TooManySites else Ok (record run { sites = with_site run.sites site }, []))
      by_test true = tt
      by_test false = rests

  rest_site : (run : Run) (word : List ℕ) (old : Option Limits) → RestRun run → RestStep (with_url run word old)
  rest_site run word None rests = tt
  rest_site run word (Some limits) rests = by_test run.has_begun
    where
      by_test : (begun_already : Bool) → RestStep (if begun_already then Err Place else add_site run (site_named word))
      by_test true = tt
      by_test false = rest_named run (site_named word) rests

  -- as the first command comes the hosts are made
  pub rest_begun : (run : Run) (limits : Limits) → Rests (bounds_given limits) run.hosts.all → Rests (bounds_given limits) (begun run).hosts.all
  rest_begun run limits rests = by_begun run.has_begun
    where
      by_begun : (begun_already : Bool) → Rests (bounds_given limits) (if begun_already then run else record run { has_begun = true; hosts = new_hosts (length run.sites) }).hosts.all
      by_begun true = rests
      by_begun false = record { some = rests.some; rest = rest_new (bounds_given limits) (length run.sites) }

  same_limits : (run : Run) → (begun run).limits ≡ run.limits
  same_limits run = by_begun run.has_begun
    where
      by_begun : (begun_already : Bool) → (if begun_already then run else record run { has_begun = true; hosts = new_hosts (length run.sites) }).limits ≡ run.limits
      by_begun true = refl
      by_begun false = refl

  rest_command : (answer : Bounds → ScriptHosts → Answer) → ((limits : Bounds) (hosts : ScriptHosts) → Rests limits hosts.all → IsAtRest limits (answer limits hosts).hosts.all)
      → (run : Run) (old : Option Limits) → run.limits ≡ old → RestUnder old run.hosts → RestStep (with_answer run answer old)
  rest_command answer keeps run None same rests = tt
  rest_command answer keeps run (Some limits) same rests =
      let before = rest_begun run limits rests in
      subst (λ l. RestUnder l (answer (bounds_given limits) (begun run).hosts).hosts) (sym (same_limits run ∙ same))
      (record { some = rests.some; rest = keeps (bounds_given limits) (begun run).hosts before })

  rest_step : (run : Run) (command : Command) → RestRun run → RestStep (step run command)
  unfolding step
  rest_step run (commands.Limits limits) rests = rest_limits run limits run.limits rests
  rest_step run (commands.Site word) rests = rest_site run word run.limits rests
  rest_step run (commands.Ask (asks.At site action)) rests = rest_command (λ limits hosts. answer_of limits hosts site action) (λ limits hosts before. rest_answer limits hosts site action before) run run.limits refl rests
  rest_step run (commands.Ask (asks.Prune max_age max_life moment)) rests = rest_command (λ limits hosts. prune_all limits max_age max_life moment hosts) (λ limits hosts before. rest_prune limits max_age max_life moment hosts before) run run.limits refl rests
  rest_step run (commands.Ask asks.Upkeep) rests = rest_command (λ limits hosts. upkeep_all hosts) rest_upkeep run run.limits refl rests

  pub rest_line : (run : Run) (line : List ℕ) → RestRun run → RestStep (line_step run line)
  unfolding line_step
  rest_line run line rests = by_reading (reading line)
    where
      by_reading : (read : Result (Option Command) FaultKind) → RestStep (line_step_of run read)
      by_reading (Err kind) = tt
      by_reading (Ok None) = rests
      by_reading (Ok (Some command)) = rest_step run command rests

  rest_after : (run : Run) (lines : List (List ℕ)) → RestRun run → RestRun (run_after run lines)
  rest_after run [] rests = rests
  rest_after run (line ∷ others) rests = by_step (line_step run line) (rest_line run line rests) (λ next next_rests. rest_after next others next_rests)
    where
      by_step : (made : Result (Run × List ℕ) FaultKind) → RestStep made → ((next : Run) → RestRun next → RestRun (run_after next others)) → RestRun (after_line run made (λ next. run_after next others))
      by_step (Err kind) made_rests rest = rests
      by_step (Ok next) made_rests rest = rest next.0 made_rests

  rest_behind : (script : List ℕ) → RestRun (run_behind script)
  rest_behind script = by_length (nat_lt LONGEST_SCRIPT (length script))
    where
      by_length : (too_long : Bool) → RestRun (if too_long then start else run_after start (lines script))
      by_length true = refl
      by_length false = rest_after start (lines script) refl

  pub every_script_ends_at_rest : EveryScriptEndsAtRest
  every_script_ends_at_rest script = under (limits_of script) (run_behind script).hosts (rest_behind script)
    where
      under : (limits : Option Limits) (hosts : ScriptHosts) → RestUnder limits hosts → AreAtRestUnder limits hosts.all
      under None hosts nothing = ap (λ (h : ScriptHosts). h.all) nothing
      under (Some limits) hosts rests = rests.rest

-- at rest each log is legal
pub every_log_is_legal : EveryScriptEndsAtRest → EveryLogIsLegal
every_log_is_legal rests script = under (limits_of script) (all_behind script) (rests script)
  where
    under : (limits : Option Limits) (all : AllHosts) → AreAtRestUnder limits all → AreLegalUnder limits all
    under None all nothing = λ host. ap (λ (a : AllHosts). log_at a host) nothing
    under (Some limits) all rest = λ host there. (rest.lawful.settled host there).sound.legal

-- and nobody waits beside room
pub every_wait_is_for_room : NobodyWaitsBesideRoom → EveryScriptEndsAtRest → EveryWaitIsForRoom
every_wait_is_for_room for_room rests script = under (limits_of script) (all_behind script) (rests script)
  where
    under : (limits : Option Limits) (all : AllHosts) → AreAtRestUnder limits all → WaitForRoomUnder limits all
    under None all nothing = tt
    under (Some limits) all rest = λ host there anyone. for_room (bounds_given limits) all host rest there anyone

-- past the last host there is nothing
pub past_the_last : {A : Type 0} (items : List (List A)) (host : ℕ) → nat_lt host (length items) ≡ false → slice_index_or items host [] ≡ []
past_the_last [] host past = refl
past_the_last (item ∷ items) zero past = grind (arith, nat_tests, past)
past_the_last (item ∷ items) (suc host) past = past_the_last items host (grind (arith, nat_tests, past))

-- what holds of every legal log, and of none, holds of each behind a script
of_each : (Says : List Entry → Type 0) → Says [] → ((settings : LimitAndFirst) (log : List Entry) → IsLegal settings log → Says log)
    → (limits : Option Limits) (all : AllHosts) → AreLegalUnder limits all → (host : ℕ) → Says (log_at all host)
of_each Says none legally None all nothing host = subst Says (sym (nothing host)) none
of_each Says none legally (Some limits) all legal host = by_place (nat_lt host (length all.logs)) refl
  where
    by_place : (there : Bool) → nat_lt host (length all.logs) ≡ there → Says (log_at all host)
    by_place true is = legally (terms (bounds_given limits)) (log_at all host) (legal host (is_there host (length all.logs) is))
    by_place false is = subst Says (sym (past_the_last all.logs host is)) none

-- what may be leased was free
free_if_fit : (before : List Entry) (want : Want) (moment c : ℕ) → (is_idle before c && suits before want moment c) ≡ true → WasFree before c
free_if_fit before want moment c fit =
    let idle = and_left (is_idle before c) (suits before want moment c) fit in
    let suited = and_right (is_idle before c) (suits before want moment c) fit in
    let open_unheld = idle_open_unheld before c idle in
    record {
      opened = open_unheld.0;
      held_by_nobody = nobody (holder_want before c) open_unheld.1;
      persistent = and_right _ (came_back_persistent before c) suited;
    }
  where
    nobody : (w : Option Want) → is_none w ≡ true → option_map (λ (v : Want). v.transfer) w ≡ None
    nobody None e = refl
    nobody (Some v) e = absurd (cc)

leases_free : (settings : LimitAndFirst) (before : List Entry) (moment : ℕ) (event : Event) → Allows settings before moment event → LeasesFree before event
leases_free settings before moment (Opened c want) allowed = tt
leases_free settings before moment (Leased c want) allowed = free_if_fit before want moment c allowed.1.fit
leases_free settings before moment (Returned c facts) allowed = tt
leases_free settings before moment (Closed c cause) allowed = tt
leases_free settings before moment (Waited want) allowed = tt
leases_free settings before moment (Left transfer) allowed = tt
leases_free settings before moment (Limit n) allowed = tt

each_lease : (settings : LimitAndFirst) (log : List Entry) → IsLegal settings log → EachLeaseWasFree log
each_lease settings [] legal = tt
each_lease settings (e ∷ before) legal = (leases_free settings before e.moment e.event legal.1, each_lease settings before legal.2)

pub every_lease_was_free : EveryLogIsLegal → EveryLeaseWasFree
every_lease_was_free each_legal script host = of_each EachLeaseWasFree tt each_lease (limits_of script) (all_behind script) (each_legal script) host

-- what may start is the head
head-starts : (wants : List Want) (is_holding : Bool) (want : Want) → MayStartAmong wants is_holding want → IsHead wants want
head-starts [] is_holding want may = tt
head-starts (head ∷ others) is_holding want may = may

starts_the_head : (settings : LimitAndFirst) (before : List Entry) (moment : ℕ) (event : Event) → Allows settings before moment event → StartsTheHead before event
starts_the_head settings before moment (Opened c want) allowed = head-starts (waiting before) (holds before want.transfer) want allowed.1.start
starts_the_head settings before moment (Leased c want) allowed = head-starts (waiting before) (holds before want.transfer) want allowed.1.start
starts_the_head settings before moment (Returned c facts) allowed = tt
starts_the_head settings before moment (Closed c cause) allowed = tt
starts_the_head settings before moment (Waited want) allowed = tt
starts_the_head settings before moment (Left transfer) allowed = tt
starts_the_head settings before moment (Limit n) allowed = tt

each_start : (settings : LimitAndFirst) (log : List Entry) → IsLegal settings log → EachStartIsOfTheHead log
each_start settings [] legal = tt
each_start settings (e ∷ before) legal = (starts_the_head settings before e.moment e.event legal.1, each_start settings before legal.2)

pub every_start_is_of_the_head : EveryLogIsLegal → EveryStartIsOfTheHead
every_start_is_of_the_head each_legal script host = of_each EachStartIsOfTheHead tt each_start (limits_of script) (all_behind script) (each_legal script) host
