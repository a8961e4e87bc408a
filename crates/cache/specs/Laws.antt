-- What the calls of a pool leave, whatever its limits and its hosts: lawful hosts are at rest, logs only grow, and those
-- who hold or wait at other hosts are only served.
use Rattle.std.specs.Prelude.{◌≡◌, ◌≢◌, ℕ, ◌<◌, true, false, ◌||◌, List, [], length, drop, Some, None, is_some, ◌⊎◌}
use Rattle.persistence.specs.declared.facts.Facts.{Facts}
use Rattle.budget.specs.Limits.{Bounds, AreLimits}
use Rattle.conn_log.specs.declared.entry.Want.{Want}
use Rattle.conn_log.specs.declared.entry.Entry.{Entry}
use Rattle.conn_log.specs.Connections.{held_number, idle_connections}
use Rattle.conn_log.specs.Waiting.{waiting, waits}
use Rattle.conn_log.specs.Legal.{limit_in_force, IsAnyone}
use Rattle.host_state.specs.Calls.{Start, Wait, Reply, starts, waits_on, GrowsBy, is_busy, limit_refusal}
use Rattle.host_state.specs.Effects.{open_len}
use Rattle.cache.specs.AllHosts.{AllHosts, log_at, terms, total, kept, served, IsLawful, IsAtRest}
use Rattle.cache.specs.Calls.{after_acquire, reply_of, after_giving_back, after_abandoning, after_withdrawing, after_prune, after_limit_of}

-- hosts without connections are at rest
abbrev pub NewIsAtRest : Type 0
NewIsAtRest =
    (limits : Bounds) (all : AllHosts)
    → ((host : ℕ) → log_at all host ≡ [])
    → all.queue ≡ []
    → IsAtRest limits all

-- lawful hosts are at rest once the turns that are possible were taken
abbrev pub ServingEndsAtRest : Type 0
ServingEndsAtRest =
    (limits : Bounds) (all : AllHosts) (now : ℕ)
    → IsLawful limits all
    → IsAtRest limits (served limits now all)

-- so they are after an acquire of a transfer that is not busy
abbrev pub AcquireEndsAtRest : Type 0
AcquireEndsAtRest =
    (limits : Bounds) (host : ℕ) (want : Want) (now : ℕ) (all : AllHosts)
    → IsLawful limits all
    → host < length all.logs
    → is_busy (log_at all host) [] want.transfer ≡ false
    → IsAtRest limits (after_acquire limits host want now all)

-- after what a transfer holds is given back, or abandoned, and after a ticket is withdrawn
abbrev pub GiveBackEndsAtRest : Type 0
GiveBackEndsAtRest =
    (limits : Bounds) (host transfer c : ℕ) (facts : Facts) (now : ℕ) (all : AllHosts)
    → AreLimits limits
    → IsLawful limits all
    → host < length all.logs
    → held_number (log_at all host) transfer ≡ Some c
    → IsAtRest limits (after_giving_back limits host c facts now all)

abbrev pub AbandonEndsAtRest : Type 0
AbandonEndsAtRest =
    (limits : Bounds) (host transfer c now : ℕ) (all : AllHosts)
    → IsLawful limits all
    → host < length all.logs
    → held_number (log_at all host) transfer ≡ Some c
    → IsAtRest limits (after_abandoning limits host c now all)

abbrev pub WithdrawEndsAtRest : Type 0
WithdrawEndsAtRest =
    (limits : Bounds) (host transfer now : ℕ) (all : AllHosts)
    → IsLawful limits all
    → host < length all.logs
    → IsAtRest limits (after_withdrawing limits host transfer now all)

-- after a prune, and after a change of a host's limit that is not refused
abbrev pub PruneEndsAtRest : Type 0
PruneEndsAtRest =
    (limits : Bounds) (now max_age max_life : ℕ) (all : AllHosts)
    → IsLawful limits all
    → IsAtRest limits (after_prune limits now max_age max_life all)

abbrev pub LimitEndsAtRest : Type 0
LimitEndsAtRest =
    (limits : Bounds) (host n now : ℕ) (all : AllHosts)
    → IsLawful limits all
    → host < length all.logs
    → limit_refusal n (log_at all host) ≡ None
    → IsAtRest limits (after_limit_of limits host n now all)

-- a transfer waits there since its host is at its limit, or since the total is and nothing is idle at any host; and
-- nothing is idle beside it
pub record WaitsForRoom (limits : Bounds) (host : ℕ) (all : AllHosts) : Type 0 where
  pub none_idle : idle_connections (log_at all host) ≡ []
  pub no_room : (open_len (log_at all host) ≡ limit_in_force (terms limits) (log_at all host)) ⊎ ((total all ≡ limits.total) × (kept all ≡ 0))

abbrev pub NobodyWaitsBesideRoom : Type 0
NobodyWaitsBesideRoom =
    (limits : Bounds) (all : AllHosts) (host : ℕ)
    → IsAtRest limits all
    → host < length all.logs
    → IsAnyone (waiting (log_at all host))
    → WaitsForRoom limits host all

-- an acquire comes to a start or a wait of its want, whatever there was before
abbrev pub AnswersWant : Want → Reply → Type 0
AnswersWant want (starts start) = start.want ≡ want
AnswersWant want (waits_on wait) = wait.want ≡ want
AnswersWant want _ = ⊥

abbrev pub AcquireStartsOrWaits : Type 0
AcquireStartsOrWaits =
    (limits : Bounds) (host : ℕ) (want : Want) (now : ℕ) (all : AllHosts)
    → AnswersWant want (reply_of limits host want now all)

-- whoever starts holds that connection after the call, and whoever waits does so still, or was served
abbrev pub AcquireGivesItsStart : Type 0
AcquireGivesItsStart =
    (limits : Bounds) (host : ℕ) (want : Want) (now : ℕ) (all : AllHosts)
    → IsLawful limits all
    → host < length all.logs
    → is_busy (log_at all host) [] want.transfer ≡ false
    → (start : Start)
    → reply_of limits host want now all ≡ starts start
    → held_number (log_at (after_acquire limits host want now all) host) want.transfer ≡ Some start.number

abbrev pub AcquireHasItWait : Type 0
AcquireHasItWait =
    (limits : Bounds) (host : ℕ) (want : Want) (now : ℕ) (all : AllHosts)
    → IsLawful limits all
    → host < length all.logs
    → is_busy (log_at all host) [] want.transfer ≡ false
    → (wait : Wait)
    → reply_of limits host want now all ≡ waits_on wait
    → (let log = log_at (after_acquire limits host want now all) host in
    (waits log want.transfer || is_some (held_number log want.transfer)) ≡ true)

-- the transfer has nothing at that host: it neither holds nor waits
pub record HasNothing (log : List Entry) (transfer : ℕ) : Type 0 where
  pub held : held_number log transfer ≡ None
  pub waits_not : waits log transfer ≡ false

-- so whoever gives back, abandons or withdraws
abbrev pub GiveBackLeavesNothing : Type 0
GiveBackLeavesNothing =
    (limits : Bounds) (host transfer c : ℕ) (facts : Facts) (now : ℕ) (all : AllHosts)
    → AreLimits limits
    → IsLawful limits all
    → host < length all.logs
    → held_number (log_at all host) transfer ≡ Some c
    → HasNothing (log_at (after_giving_back limits host c facts now all) host) transfer

abbrev pub AbandonLeavesNothing : Type 0
AbandonLeavesNothing =
    (limits : Bounds) (host transfer c now : ℕ) (all : AllHosts)
    → IsLawful limits all
    → host < length all.logs
    → held_number (log_at all host) transfer ≡ Some c
    → HasNothing (log_at (after_abandoning limits host c now all) host) transfer

abbrev pub WithdrawLeavesNothing : Type 0
WithdrawLeavesNothing =
    (limits : Bounds) (host transfer now : ℕ) (all : AllHosts)
    → IsLawful limits all
    → host < length all.logs
    → HasNothing (log_at (after_withdrawing limits host transfer now all) host) transfer

-- all logs only grew, and there are as many hosts
pub record Grow (old new : AllHosts) : Type 0 where
  pub count : length new.logs ≡ length old.logs
  pub each : (host : ℕ) → GrowsBy (log_at old host) (log_at new host)

-- so they do by each call, whatever there was before
abbrev pub AcquireGrows : Type 0
AcquireGrows =
    (limits : Bounds) (host : ℕ) (want : Want) (now : ℕ) (all : AllHosts)
    → Grow all (after_acquire limits host want now all)

abbrev pub GiveBackGrows : Type 0
GiveBackGrows =
    (limits : Bounds) (host c : ℕ) (facts : Facts) (now : ℕ) (all : AllHosts)
    → Grow all (after_giving_back limits host c facts now all)

abbrev pub AbandonGrows : Type 0
AbandonGrows =
    (limits : Bounds) (host c now : ℕ) (all : AllHosts)
    → Grow all (after_abandoning limits host c now all)

abbrev pub WithdrawGrows : Type 0
WithdrawGrows =
    (limits : Bounds) (host transfer now : ℕ) (all : AllHosts)
    → Grow all (after_withdrawing limits host transfer now all)

abbrev pub PruneGrows : Type 0
PruneGrows =
    (limits : Bounds) (now max_age max_life : ℕ) (all : AllHosts)
    → Grow all (after_prune limits now max_age max_life all)

abbrev pub LimitGrows : Type 0
LimitGrows =
    (limits : Bounds) (host n now : ℕ) (all : AllHosts)
    → Grow all (after_limit_of limits host n now all)

-- a host is only served: so many of the first that wait there start, the others wait on, whoever holds a connection
-- keeps it, and nobody else gets one
pub record OnlyServed (old new : List Entry) : Type 0 where
  pub number : ℕ
  pub others_wait : waiting new ≡ drop number (waiting old)
  pub holders_keep : (transfer c : ℕ) → held_number old transfer ≡ Some c → held_number new transfer ≡ Some c
  pub first_hold : (transfer : ℕ) → waits old transfer ≡ true → waits new transfer ≡ false → is_some (held_number new transfer) ≡ true
  pub nobody_else : (transfer : ℕ) → held_number old transfer ≡ None → waits old transfer ≡ false → held_number new transfer ≡ None

-- each host, or each but one
pub record AllOnlyServed (old new : AllHosts) : Type 0 where
  pub count : length new.logs ≡ length old.logs
  pub each : (host : ℕ) → host < length old.logs → OnlyServed (log_at old host) (log_at new host)

pub record OthersOnlyServed (one : ℕ) (old new : AllHosts) : Type 0 where
  pub count : length new.logs ≡ length old.logs
  pub each : (host : ℕ) → host < length old.logs → host ≢ one → OnlyServed (log_at old host) (log_at new host)

-- turns only serve
abbrev pub ServingOnlyServes : Type 0
ServingOnlyServes =
    (limits : Bounds) (all : AllHosts) (now : ℕ)
    → IsLawful limits all
    → AllOnlyServed all (served limits now all)

-- and a call only serves the hosts at which nothing is called
abbrev pub AcquireOnlyServesOthers : Type 0
AcquireOnlyServesOthers =
    (limits : Bounds) (host : ℕ) (want : Want) (now : ℕ) (all : AllHosts)
    → IsLawful limits all
    → host < length all.logs
    → is_busy (log_at all host) [] want.transfer ≡ false
    → OthersOnlyServed host all (after_acquire limits host want now all)

abbrev pub GiveBackOnlyServesOthers : Type 0
GiveBackOnlyServesOthers =
    (limits : Bounds) (host transfer c : ℕ) (facts : Facts) (now : ℕ) (all : AllHosts)
    → AreLimits limits
    → IsLawful limits all
    → host < length all.logs
    → held_number (log_at all host) transfer ≡ Some c
    → OthersOnlyServed host all (after_giving_back limits host c facts now all)

abbrev pub AbandonOnlyServesOthers : Type 0
AbandonOnlyServesOthers =
    (limits : Bounds) (host transfer c now : ℕ) (all : AllHosts)
    → IsLawful limits all
    → host < length all.logs
    → held_number (log_at all host) transfer ≡ Some c
    → OthersOnlyServed host all (after_abandoning limits host c now all)

abbrev pub WithdrawOnlyServesOthers : Type 0
WithdrawOnlyServesOthers =
    (limits : Bounds) (host transfer now : ℕ) (all : AllHosts)
    → IsLawful limits all
    → host < length all.logs
    → OthersOnlyServed host all (after_withdrawing limits host transfer now all)

abbrev pub LimitOnlyServesOthers : Type 0
LimitOnlyServesOthers =
    (limits : Bounds) (host n now : ℕ) (all : AllHosts)
    → IsLawful limits all
    → host < length all.logs
    → limit_refusal n (log_at all host) ≡ None
    → OthersOnlyServed host all (after_limit_of limits host n now all)

-- a prune is a call at no host
abbrev pub PruneOnlyServes : Type 0
PruneOnlyServes =
    (limits : Bounds) (now max_age max_life : ℕ) (all : AllHosts)
    → IsLawful limits all
    → AllOnlyServed all (after_prune limits now max_age max_life all)
