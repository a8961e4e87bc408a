-- What a command means: what it makes of a script's hosts, and the lines that tell of it.
use Rattle.std.specs.Prelude.{ℕ, suc, ◌-◌, Bool, true, false, not, ◌==◌, ◌&&◌, nat_lt, nat_le, if◌then◌else◌, codes, List, [], ◌∷◌, ◌++◌, length, replicate, slice_index_or, slice_set, Option, Some, None, is_none, Result, Ok, Err}
use Rattle.persistence.specs.declared.facts.Facts.{Facts}
use Rattle.persistence.specs.declared.facts.Version.TheVariants.{V10, V11}
use Rattle.persistence.specs.declared.facts.Framing.TheVariants.{Counted, UntilClose}
use Rattle.conn_log.specs.declared.entry.Entry.{Entry}
use Rattle.conn_log.specs.declared.entry.Want.{Want}
use Rattle.conn_log.specs.Connections.{is_among, open_connections, idle_connections, held_number}
use Rattle.conn_log.specs.Waiting.{waiting}
use Rattle.budget.specs.Limits.{Bounds, bounds_of, is_bad_limit}
use Rattle.budget.specs.declared.refusal.Refusal.{Refusal}
use Rattle.budget.specs.declared.refusal.Refusal.TheVariants.{Memory, TransferBusy, Exhausted, Busy}
use Rattle.host_state.specs.Calls.{Reply, waits_on, refusal, limit_refusal, is_queued}
use Rattle.cache.specs.AllHosts.{AllHosts, log_at, terms}
use Rattle.cache.specs.Calls.{after_acquire, reply_of, after_giving_back, after_abandoning, after_withdrawing, after_prune, after_limit_of}
use Rattle.conn_key.specs.declared.site.Site.{Site}
use Rattle.conn_key.specs.Sites.{with_site, index_of}
use Rattle.script_text.specs.Printing.{lines_since, refused, claimed_line, still_line, look_line, upkeep_line, too_many_leased_line}
use Rattle.script_text.specs.Site.{site_named}
use Rattle.script_text.specs.declared.command.Limits.{Limits}
use Rattle.script_text.specs.declared.command.Ending.{Ending}
use Rattle.script_text.specs.declared.command.Ending.TheVariants.{Keep, Close, Old, OldKeep, Eof, Cut, Surplus}
use Rattle.script_text.specs.declared.command.Action.{Action}
use Rattle.script_text.specs.declared.command.Action.TheVariants as actions
use Rattle.script_text.specs.declared.command.Command.{Command}
use Rattle.script_text.specs.declared.command.Command.TheVariants as commands
use Rattle.script_text.specs.declared.command.HostCommand.{HostCommand}
use Rattle.script_text.specs.declared.command.HostCommand.TheVariants as asks
use Rattle.script_text.specs.declared.fault.FaultKind.{FaultKind}
use Rattle.script_text.specs.declared.fault.FaultKind.TheVariants.{Place, BadLimits, BadSite, TooManySites}

-- a response of HTTP/1.1 whose body was counted and read whole
abbrev pub plain : Facts
plain = record { version = V11; close = false; keep_alive = false; request_close = false; framing = Counted; both_lengths = false; upgraded = false; whole = true; surplus = false }

-- the facts of a response, by how it ended
abbrev pub facts_of_ending : Ending → Facts
facts_of_ending Keep = plain
facts_of_ending Close = record plain { close = true }
facts_of_ending Old = record plain { version = V10 }
facts_of_ending OldKeep = record plain { version = V10; keep_alive = true }
facts_of_ending Eof = record plain { framing = UntilClose }
facts_of_ending Cut = record plain { whole = false }
facts_of_ending Surplus = record plain { surplus = true }

-- the limits that a script gives, as they are kept: 0 means none for a host and in total
abbrev pub bounds_given : Limits → Bounds
bounds_given limits = bounds_of limits.host limits.total limits.kept

-- a script's hosts: what each has logged, and which are queued; and of each the transfers that have a ticket which
-- they have not claimed, in ascending order
pub record ScriptHosts : Type 0 where
  pub all : AllHosts
  pub tickets : List (List ℕ)

-- so many hosts without connections
abbrev pub new_hosts : ℕ → ScriptHosts
new_hosts n = record { all = record { logs = replicate n []; queue = [] }; tickets = replicate n [] }

-- all hosts as a command at one site sees them: of that site it has the transfers that have a ticket
pub record AtSite : Type 0 where
  pub all : AllHosts
  pub tickets : List ℕ

abbrev pub at_site : ScriptHosts → ℕ → AtSite
at_site hosts site = record { all = hosts.all; tickets = slice_index_or hosts.tickets site [] }

abbrev pub with_site_as : ℕ → AtSite → ScriptHosts → ScriptHosts
with_site_as site here hosts = record { all = here.all; tickets = slice_set hosts.tickets site here.tickets }

-- a transfer more that has a ticket, and one less
abbrev pub with_ticket : ℕ → List ℕ → List ℕ
with_ticket transfer [] = transfer ∷ []
with_ticket transfer (other ∷ others) =
    if nat_lt transfer other then transfer ∷ other ∷ others else (
    if transfer == other then other ∷ others else other ∷ with_ticket transfer others)

abbrev pub without_ticket : ℕ → List ℕ → List ℕ
without_ticket transfer [] = []
without_ticket transfer (other ∷ others) = if transfer == other then others else other ∷ without_ticket transfer others

-- the connection that a transfer has a lease of: the one that it holds, unless it has yet to claim it
abbrev pub claimed_number : ℕ → AtSite → ℕ → Option ℕ
claimed_number site here transfer = if is_among transfer here.tickets then None else held_number (log_at here.all site) transfer

-- the lines of what was added to the logs, by host; in each in the log's order
abbrev pub lines_from : ℕ → List (List Entry) → List (List Entry) → List ℕ
lines_from host [] logs = []
lines_from host olds [] = []
lines_from host (old ∷ olds) (new ∷ news) = lines_since host old new ++ lines_from (suc host) olds news

abbrev pub lines_of_growth : AllHosts → AllHosts → List ℕ
lines_of_growth old new = lines_from 0 old.logs new.logs

-- what a command at a site makes of all hosts, and the lines that tell of it
pub record AnswerAt : Type 0 where
  pub here : AtSite
  pub text : List ℕ

abbrev pub replied : AtSite → List ℕ → AnswerAt
replied here text = record { here = here; text = text }

abbrev pub grown : AtSite → AtSite → AnswerAt
grown old new = record { here = new; text = lines_of_growth old.all new.all }

-- why an acquire is refused, in a word; it is for no other reason
abbrev pub refusal_word : Refusal → List ℕ
refusal_word Memory = codes "memory"
refusal_word TransferBusy = codes "busy"
refusal_word Exhausted = codes "exhausted"
refusal_word _ = []

-- get: where the transfer waits it has a ticket
abbrev pub tickets_with : ℕ → List ℕ → Reply → List ℕ
tickets_with transfer tickets (waits_on wait) = with_ticket transfer tickets
tickets_with transfer tickets _ = tickets

abbrev pub after_getting : Bounds → ℕ → Want → ℕ → AtSite → AtSite
after_getting limits site want moment here =
    record { all = after_acquire limits site want moment here.all; tickets = tickets_with want.transfer here.tickets (reply_of limits site want moment here.all) }

abbrev pub get_unless : Bounds → ℕ → Want → ℕ → AtSite → Option Refusal → AnswerAt
get_unless limits site want moment here None = grown here (after_getting limits site want moment here)
get_unless limits site want moment here (Some r) = replied here (refused (refusal_word r))

unfoldable pub get_at : Bounds → ℕ → Want → ℕ → AtSite → AnswerAt
get_at limits site want moment here = get_unless limits site want moment here (refusal (terms limits) (log_at here.all site) [] want)

-- a stranger: back and drop need a lease, claim and leave a ticket
abbrev pub stranger : AtSite → AnswerAt
stranger here = replied here (refused (codes "stranger"))

abbrev pub back_of : Bounds → ℕ → Ending → ℕ → AtSite → Option ℕ → AnswerAt
back_of limits site ending moment here None = stranger here
back_of limits site ending moment here (Some c) = grown here (record here { all = after_giving_back limits site c (facts_of_ending ending) moment here.all })

unfoldable pub back_at : Bounds → ℕ → ℕ → Ending → ℕ → AtSite → AnswerAt
back_at limits site transfer ending moment here = back_of limits site ending moment here (claimed_number site here transfer)

abbrev pub drop_of : Bounds → ℕ → ℕ → AtSite → Option ℕ → AnswerAt
drop_of limits site moment here None = stranger here
drop_of limits site moment here (Some c) = grown here (record here { all = after_abandoning limits site c moment here.all })

unfoldable pub drop_at : Bounds → ℕ → ℕ → ℕ → AtSite → AnswerAt
drop_at limits site transfer moment here = drop_of limits site moment here (claimed_number site here transfer)

-- claim: the transfer gets what it was granted, and has spent its ticket; or it still waits
abbrev pub claim_of : ℕ → ℕ → AtSite → Option ℕ → AnswerAt
claim_of site transfer here None = replied here still_line
claim_of site transfer here (Some c) = replied (record here { tickets = without_ticket transfer here.tickets }) (claimed_line site c)

unfoldable pub claim_at : ℕ → ℕ → AtSite → AnswerAt
claim_at site transfer here =
    if is_among transfer here.tickets then claim_of site transfer here (held_number (log_at here.all site) transfer) else stranger here

-- leave: the transfer gives its ticket up
abbrev pub after_leaving : Bounds → ℕ → ℕ → ℕ → AtSite → AtSite
after_leaving limits site transfer moment here = record { all = after_withdrawing limits site transfer moment here.all; tickets = without_ticket transfer here.tickets }

unfoldable pub leave_at : Bounds → ℕ → ℕ → ℕ → AtSite → AnswerAt
leave_at limits site transfer moment here = if is_among transfer here.tickets then grown here (after_leaving limits site transfer moment here) else stranger here

-- limit: the host has a new limit, unless the number is none, or more connections are held than it allows
abbrev pub limit_word : Refusal → List ℕ
limit_word (Busy held) = too_many_leased_line held
limit_word _ = refused (codes "bad-limit")

abbrev pub limit_unless : Bounds → ℕ → ℕ → ℕ → AtSite → Option Refusal → AnswerAt
limit_unless limits site n moment here None = grown here (record here { all = after_limit_of limits site n moment here.all })
limit_unless limits site n moment here (Some r) = replied here (limit_word r)

unfoldable pub limit_at : Bounds → ℕ → ℕ → ℕ → AtSite → AnswerAt
limit_at limits site n moment here = limit_unless limits site n moment here (limit_refusal n (log_at here.all site))

-- look counts
unfoldable pub look_at : Bounds → ℕ → AtSite → AnswerAt
look_at limits site here =
    let log = log_at here.all site in
    let alive = length (open_connections log) in
    let idle = length (idle_connections log) in
    replied here (look_line site alive idle (alive - idle) (length (waiting log)) (is_queued (terms limits) log))

-- an action at a site that is there
abbrev pub act_at : Bounds → ℕ → AtSite → Action → AnswerAt
act_at limits site here (actions.Get want moment) = get_at limits site want moment here
act_at limits site here (actions.Claim transfer) = claim_at site transfer here
act_at limits site here (actions.Back transfer ending moment) = back_at limits site transfer ending moment here
act_at limits site here (actions.Drop transfer moment) = drop_at limits site transfer moment here
act_at limits site here (actions.Leave transfer moment) = leave_at limits site transfer moment here
act_at limits site here (actions.Limit n moment) = limit_at limits site n moment here
act_at limits site here actions.Look = look_at limits site here

-- the line of one at a site that is not there
abbrev pub at_no_host : Action → List ℕ
at_no_host (actions.Get want moment) = refused (codes "bad-site")
at_no_host (actions.Limit n moment) = refused (codes "bad-site")
at_no_host actions.Look = refused (codes "bad-site")
at_no_host (actions.Claim transfer) = refused (codes "stranger")
at_no_host (actions.Back transfer ending moment) = refused (codes "stranger")
at_no_host (actions.Drop transfer moment) = refused (codes "stranger")
at_no_host (actions.Leave transfer moment) = refused (codes "stranger")

-- the hosts after a command, and the lines that tell of it
pub record Answer : Type 0 where
  pub hosts : ScriptHosts
  pub text : List ℕ

abbrev pub put_back_at : ℕ → ScriptHosts → AnswerAt → Answer
put_back_at site hosts answer = record { hosts = with_site_as site answer.here hosts; text = answer.text }

abbrev pub answer_of : Bounds → ScriptHosts → ℕ → Action → Answer
answer_of limits hosts site action =
    if nat_lt site (length hosts.all.logs) then put_back_at site hosts (act_at limits site (at_site hosts site) action) else record { hosts = hosts; text = at_no_host action }

-- a prune is one at all hosts, and an upkeep changes nothing
unfoldable pub prune_all : Bounds → ℕ → ℕ → ℕ → ScriptHosts → Answer
prune_all limits max_age max_life moment hosts =
    let all = after_prune limits moment max_age max_life hosts.all in
    record { hosts = record hosts { all = all }; text = lines_of_growth hosts.all all }

unfoldable pub upkeep_all : ScriptHosts → Answer
upkeep_all hosts = record { hosts = hosts; text = upkeep_line 0 }

-- a run so far: the limits, the sites by host and port, whether a command came after these, and the hosts
pub record Run : Type 0 where
  pub limits : Option Limits
  pub sites : List Site
  pub has_begun : Bool
  pub hosts : ScriptHosts

abbrev pub start : Run
start = record { limits = None; sites = []; has_begun = false; hosts = new_hosts 0 }

-- the hosts are made at the first command after the sites: one for each site
abbrev pub begun : Run → Run
begun run = if run.has_begun then run else record run { has_begun = true; hosts = new_hosts (length run.sites) }

-- limits: those that can be kept
abbrev pub are_good : Limits → Bool
are_good limits = not (is_bad_limit limits.host limits.total limits.kept)

-- what a command makes of a run, and its lines; or why it may not stand here
abbrev pub with_limits : Run → Limits → Option Limits → Result (Run × List ℕ) FaultKind
with_limits run limits (Some others) = Err Place
with_limits run limits None = if are_good limits then Ok (record run { limits = Some limits }, []) else Err BadLimits

-- so many sites there may be; a site that is there already adds none
abbrev pub most_sites : ℕ
most_sites = 1024

abbrev pub is_one_too_many : List Site → Site → Bool
is_one_too_many sites site = nat_le most_sites (length sites) && is_none (index_of sites site)

abbrev pub add_site : Run → Option Site → Result (Run × List ℕ) FaultKind
add_site run None = Err BadSite
add_site run (Some site) = if is_one_too_many run.sites site then Err TooManySites else Ok (record run { sites = with_site run.sites site }, [])

abbrev pub with_url : Run → List ℕ → Option Limits → Result (Run × List ℕ) FaultKind
with_url run word None = Err Place
with_url run word (Some limits) = if run.has_begun then Err Place else add_site run (site_named word)

abbrev pub after_answer : Run → Answer → Run × List ℕ
after_answer run answer = (record run { hosts = answer.hosts }, answer.text)

-- what the hosts answer to a command
abbrev pub asked_answer : HostCommand → Bounds → ScriptHosts → Answer
asked_answer (asks.At site action) = λ limits hosts. answer_of limits hosts site action
asked_answer (asks.Prune max_age max_life moment) = λ limits hosts. prune_all limits max_age max_life moment hosts
asked_answer asks.Upkeep = λ limits hosts. upkeep_all hosts

-- a command after the limits
abbrev pub with_answer : Run → (Bounds → ScriptHosts → Answer) → Option Limits → Result (Run × List ℕ) FaultKind
with_answer run answer None = Err Place
with_answer run answer (Some limits) = Ok (after_answer (begun run) (answer (bounds_given limits) (begun run).hosts))

-- the script's end: where limits are given the run has begun by then
abbrev pub at_script_end : Run → Option Limits → Run
at_script_end run None = run
at_script_end run (Some limits) = begun run

unfoldable pub step : Run → Command → Result (Run × List ℕ) FaultKind
step run (commands.Limits limits) = with_limits run limits run.limits
step run (commands.Site word) = with_url run word run.limits
step run (commands.Ask asked) = with_answer run (asked_answer asked) run.limits
