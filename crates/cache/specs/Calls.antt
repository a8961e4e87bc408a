-- What a call of a pool answers: all hosts after it, and the reply, from all hosts before it.
use Rattle.std.specs.Prelude.{ℕ, ◌-◌, min, true, not, ◌&&◌, if◌then◌else◌, List, length, map}
use Rattle.std.specs.List.{sum_by}
use Rattle.persistence.specs.declared.facts.Facts.{Facts}
use Rattle.budget.specs.Limits.{Bounds}
use Rattle.budget.specs.declared.permits.Try.{Try}
use Rattle.budget.specs.declared.permits.Try.TheVariants.{Got, Full}
use Rattle.conn_log.specs.declared.entry.Want.{Want}
use Rattle.conn_log.specs.declared.entry.Cause.TheVariants.{TotalRoom, CacheFull}
use Rattle.conn_log.specs.declared.entry.Entry.{Entry}
use Rattle.host_state.specs.Steps.{moment_at, picked, without_picked}
use Rattle.host_state.specs.declared.closing.Closing.TheVariants.{Pruned}
use Rattle.host_state.specs.Calls.{Reply, acquired as acquired_at, becomes_idle, after_give_back, after_abandon, after_withdraw, after_limit, kept_limit, starts_due, is_queued}
use Rattle.host_state.specs.Effects.{tidied, asks_for_one}
use Rattle.cache.specs.AllHosts.{AllHosts, log_at, with_log, terms, total, has_room, can_keep, without_oldest, marked, served}

-- all hosts after an acquire, and what it comes to: the start or the wait
pub record Acquired : Type 0 where
  pub all : AllHosts
  pub reply : Reply

-- what is too old for the want is closed at its host
abbrev pub with_tidied : ℕ → Want → ℕ → AllHosts → AllHosts
with_tidied host want now all = let log = log_at all host in with_log host (tidied want (moment_at log now) log) all

-- where the transfer needs one connection more, and the total has no room, the oldest of all makes room
abbrev pub with_room_for : Bounds → ℕ → Want → ℕ → AllHosts → AllHosts
with_room_for limits host want now all =
    let log = log_at all host in
    if asks_for_one (terms limits) log want (moment_at log now) && not (has_room limits all) then without_oldest TotalRoom now all else all

-- the total's answer to whoever asks for one connection more
abbrev pub told_of_total : Bounds → AllHosts → Try
told_of_total limits all = if has_room limits all then Got else Full

-- the transfer starts at its host, or waits there, and the host is queued where the total has no room for it
abbrev pub started : Bounds → ℕ → Want → ℕ → AllHosts → Acquired
started limits host want now all =
    let outcome = acquired_at true (told_of_total limits all) (terms limits) (log_at all host) want now in
    record { all = marked limits host (with_log host outcome.log all); reply = outcome.reply }

-- an acquire: what is too old is closed; the transfer starts, for which the oldest of all makes room where that is
-- needed, or it waits; then turns are taken
abbrev pub acquired : Bounds → ℕ → Want → ℕ → AllHosts → Acquired
acquired limits host want now all = started limits host want now (with_room_for limits host want now (with_tidied host want now all))

abbrev pub after_acquire : Bounds → ℕ → Want → ℕ → AllHosts → AllHosts
after_acquire limits host want now all = served limits now (acquired limits host want now all).all

abbrev pub reply_of : Bounds → ℕ → Want → ℕ → AllHosts → Reply
reply_of limits host want now all = (acquired limits host want now all).reply

-- a call at one host, which may have it come into the queue or leave it; then turns are taken
abbrev pub after_call : Bounds → ℕ → ℕ → List Entry → AllHosts → AllHosts
after_call limits host now log all = served limits now (marked limits host (with_log host log all))

-- where the connection that comes back is to be idle, and as many are kept as may be, the oldest of all is closed
abbrev pub with_room_to_keep : Bounds → ℕ → ℕ → Facts → ℕ → AllHosts → AllHosts
with_room_to_keep limits host c facts now all =
    if becomes_idle (log_at all host) c facts now && not (can_keep limits all) then without_oldest CacheFull now all else all

-- a connection is given back: room is made to keep it where that is needed; then the host's rules, and turns
abbrev pub given_back : Bounds → ℕ → ℕ → Facts → ℕ → AllHosts → AllHosts
given_back limits host c facts now all =
    let roomy = with_room_to_keep limits host c facts now all in
    marked limits host (with_log host (after_give_back (terms limits) (log_at roomy host) c facts now) roomy)

abbrev pub after_giving_back : Bounds → ℕ → ℕ → Facts → ℕ → AllHosts → AllHosts
after_giving_back limits host c facts now all = served limits now (given_back limits host c facts now all)

-- a lease is abandoned
abbrev pub abandoned : Bounds → ℕ → ℕ → ℕ → AllHosts → AllHosts
abandoned limits host c now all = marked limits host (with_log host (after_abandon (terms limits) (log_at all host) c now) all)

abbrev pub after_abandoning : Bounds → ℕ → ℕ → ℕ → AllHosts → AllHosts
after_abandoning limits host c now all = served limits now (abandoned limits host c now all)

-- a ticket is withdrawn
abbrev pub withdrawn : Bounds → ℕ → ℕ → ℕ → AllHosts → AllHosts
withdrawn limits host transfer now all = marked limits host (with_log host (after_withdraw (terms limits) (log_at all host) transfer now) all)

abbrev pub after_withdrawing : Bounds → ℕ → ℕ → ℕ → AllHosts → AllHosts
after_withdrawing limits host transfer now all = served limits now (withdrawn limits host transfer now all)

-- a prune: at each host every idle connection is closed that is too old by two numbers
abbrev pub pruned_log : ℕ → ℕ → ℕ → List Entry → List Entry
pruned_log now max_age max_life log = without_picked (Pruned max_age max_life) (moment_at log now) log

abbrev pub pruned : ℕ → ℕ → ℕ → AllHosts → AllHosts
pruned now max_age max_life all = record all { logs = map (pruned_log now max_age max_life) all.logs }

abbrev pub after_prune : Bounds → ℕ → ℕ → ℕ → AllHosts → AllHosts
after_prune limits now max_age max_life all = served limits now (pruned now max_age max_life all)

-- how many a prune closes
abbrev pub pruned_at : ℕ → ℕ → ℕ → List Entry → ℕ
pruned_at now max_age max_life log = length (picked (Pruned max_age max_life) (moment_at log now) log)

abbrev pub prune_count : ℕ → ℕ → ℕ → AllHosts → ℕ
prune_count now max_age max_life all = sum_by (pruned_at now max_age max_life) all.logs

-- a host's limit becomes that number: unless the host is queued one is opened for each transfer that waits there, as
-- long as the host has room and the total too. Where a transfer waits nothing is idle there, so that none is closed
-- above the new limit to make room for it
abbrev pub limited : Bounds → ℕ → ℕ → ℕ → AllHosts → AllHosts
limited limits host n now all =
    let log = log_at all host in
    let due = starts_due (is_queued (terms limits) log) (kept_limit n) log in
    let given = min due (limits.total - total all) in
    marked limits host (with_log host (after_limit (kept_limit n) given (terms limits) log now) all)

abbrev pub after_limit_of : Bounds → ℕ → ℕ → ℕ → AllHosts → AllHosts
after_limit_of limits host n now all = served limits now (limited limits host n now all)
