-- An acquire comes to a start or a wait.
use Rattle.std.proofs.Common.{ℕ, Bool, true, false, List, [], ◌∷◌, Option, Some, None, refl}
use Rattle.std.specs.Prelude.{if◌then◌else◌}
use Rattle.budget.specs.Limits.{Bounds}
use Rattle.budget.specs.declared.permits.Try.TheVariants.{Got, Full}
use Rattle.conn_log.specs.declared.entry.Want.{Want}
use Rattle.conn_log.specs.declared.entry.Cause.{Cause}
use Rattle.conn_log.specs.declared.entry.Cause.TheVariants.{HostRoom, TotalRoom}
use Rattle.conn_log.specs.declared.entry.Entry.{Entry}
use Rattle.conn_log.specs.Waiting.{waiting}
use Rattle.conn_log.specs.Fit.{newest_fit, oldest}
use Rattle.conn_log.specs.Legal.{LimitAndFirst}
use Rattle.host_state.specs.declared.closing.Closing.TheVariants.{TooOld}
use Rattle.host_state.specs.Steps.{moment_at, is_full, without_picked}
use Rattle.host_state.specs.Calls.{start_in_place_of, start_in_place, start_as_told, start_on, start_behind}
use Rattle.cache.specs.AllHosts.{AllHosts, log_at, terms, has_room}
use Rattle.cache.specs.Calls.{with_tidied, with_room_for, reply_of}
use Rattle.cache.specs.Laws.{AnswersWant}

module _ (settings : LimitAndFirst) (want : Want) (moment : ℕ) (log : List Entry) where
  in_place_answers : (cause : Cause) (first : Option ℕ) → AnswersWant want (start_in_place_of first cause settings want moment log).reply
  in_place_answers cause None = refl
  in_place_answers cause (Some c) = refl

  told_answers : (room : Bool) → AnswersWant want (start_as_told true (if room then Got else Full) settings want moment log).reply
  told_answers true = refl
  told_answers false = in_place_answers TotalRoom (oldest log)

  start_answers : (fit : Option ℕ) (room : Bool) → AnswersWant want (start_on fit true (if room then Got else Full) settings want moment log).reply
  start_answers (Some c) room = refl
  start_answers None room = by_limit (is_full settings log)
    where
      by_limit : (full : Bool) → AnswersWant want (if full then start_in_place HostRoom settings want moment log else start_as_told true (if room then Got else Full) settings want moment log).reply
      by_limit true = in_place_answers HostRoom (oldest log)
      by_limit false = told_answers room

queue_answers : (settings : LimitAndFirst) (want : Want) (moment : ℕ) (log : List Entry) (wants : List Want) (room : Bool) → AnswersWant want (start_behind wants true (if room then Got else Full) settings want moment log).reply
queue_answers settings want moment log [] room =
    let tidy = without_picked (TooOld want) moment log in
    start_answers settings want moment tidy (newest_fit tidy want moment) room
queue_answers settings want moment log (head ∷ others) room = refl

pub acquire_starts_or_waits : (limits : Bounds) (host : ℕ) (want : Want) (now : ℕ) (all : AllHosts) → AnswersWant want (reply_of limits host want now all)
acquire_starts_or_waits limits host want now all =
    let roomy = with_room_for limits host want now (with_tidied host want now all) in
    let log = log_at roomy host in
    queue_answers (terms limits) want (moment_at log now) log (waiting log) (has_room limits roomy)
