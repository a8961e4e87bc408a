-- What an acquire gives is for its want, and of the moment at which it acts.
use Rattle.std.proofs.Common.{◌≡◌, ℕ, Bool, true, false, List, [], ◌∷◌, Option, Some, None, refl}
use Rattle.std.specs.Prelude.{if◌then◌else◌}
use Rattle.budget.specs.declared.permits.Try.{Try}
use Rattle.budget.specs.declared.permits.Try.TheVariants.{Got, Full, Contended}
use Rattle.conn_log.specs.declared.entry.Want.{Want}
use Rattle.conn_log.specs.declared.entry.Cause.{Cause}
use Rattle.conn_log.specs.declared.entry.Cause.TheVariants.{HostRoom, TotalRoom}
use Rattle.conn_log.specs.declared.entry.Entry.{Entry}
use Rattle.conn_log.specs.Waiting.{waiting}
use Rattle.conn_log.specs.Fit.{newest_fit, oldest}
use Rattle.conn_log.specs.Legal.{LimitAndFirst}
use Rattle.host_state.specs.declared.closing.Closing.TheVariants.{TooOld}
use Rattle.host_state.specs.Steps.{moment_at, without_picked, is_full}
use Rattle.host_state.specs.Calls.{Reply, starts, waits_on, no_room, again, start_in_place_of, start_in_place, start_as_told, start_on, start_behind, acquired}

abbrev pub IsReplyFor : Want → ℕ → Reply → Type 0
IsReplyFor want moment (starts start) = (start.want ≡ want) × (start.moment ≡ moment)
IsReplyFor want moment (waits_on wait) = (wait.want ≡ want) × (wait.moment ≡ moment)
IsReplyFor want moment no_room = Unit {0}
IsReplyFor want moment again = Unit {0}

module _ (settings : LimitAndFirst) (want : Want) (moment : ℕ) where
  in_place_for : (cause : Cause) (log : List Entry) (first : Option ℕ) → IsReplyFor want moment (start_in_place_of first cause settings want moment log).reply
  in_place_for cause log None = (refl, refl)
  in_place_for cause log (Some c) = (refl, refl)

  as_told_for : (log : List Entry) (is_last : Bool) (told : Try) → IsReplyFor want moment (start_as_told is_last told settings want moment log).reply
  as_told_for log is_last Got = (refl, refl)
  as_told_for log is_last Contended = tt
  as_told_for log false Full = tt
  as_told_for log true Full = in_place_for TotalRoom log (oldest log)

  start_for : (log : List Entry) (fit : Option ℕ) (is_last : Bool) (told : Try) → IsReplyFor want moment (start_on fit is_last told settings want moment log).reply
  start_for log (Some c) is_last told = (refl, refl)
  start_for log None is_last told = by_room (is_full settings log)
    where
      by_room : (full : Bool) → IsReplyFor want moment (if full then start_in_place HostRoom settings want moment log else start_as_told is_last told settings want moment log).reply
      by_room true = in_place_for HostRoom log (oldest log)
      by_room false = as_told_for log is_last told

pub reply_for : (is_last : Bool) (told : Try) (settings : LimitAndFirst) (log : List Entry) (want : Want) (now : ℕ) → IsReplyFor want (moment_at log now) (acquired is_last told settings log want now).reply
reply_for is_last told settings log want now = by_queue (waiting log)
  where
    by_queue : (wants : List Want) → IsReplyFor want (moment_at log now) (start_behind wants is_last told settings want (moment_at log now) log).reply
    by_queue [] =
        let moment = moment_at log now in
        let young = without_picked (TooOld want) moment log in
        start_for settings want moment young (newest_fit young want moment) is_last told
    by_queue (head ∷ others) = (refl, refl)
