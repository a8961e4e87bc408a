-- The last try of an acquire is halfway only where the budget has to be asked again.
use Rattle.std.proofs.Common.{◌≡◌, ℕ, Bool, true, false, List, [], ◌∷◌, Option, Some, None, refl}
use Rattle.std.specs.Prelude.{if◌then◌else◌}
use Rattle.budget.specs.declared.permits.Try.{Try}
use Rattle.budget.specs.declared.permits.Try.TheVariants.{Got as Given, Full, Contended}
use Rattle.conn_log.specs.declared.entry.Want.{Want}
use Rattle.conn_log.specs.declared.entry.Cause.{Cause}
use Rattle.conn_log.specs.declared.entry.Cause.TheVariants.{HostRoom, TotalRoom}
use Rattle.conn_log.specs.declared.entry.Entry.{Entry}
use Rattle.conn_log.specs.Waiting.{waiting}
use Rattle.conn_log.specs.Fit.{newest_fit, oldest}
use Rattle.conn_log.specs.Legal.{LimitAndFirst}
use Rattle.host_state.specs.declared.closing.Closing.TheVariants.{TooOld}
use Rattle.host_state.specs.Steps.{moment_at, without_picked, is_full}
use Rattle.bundle.specs.declared.answers.Got.{Got}
use Rattle.bundle.specs.declared.answers.Got.TheVariants.{Lease, Wait, NoRoom, Again}
use Rattle.host_state.specs.Calls.{Reply, starts, waits_on, no_room, again, start_in_place_of, start_in_place, start_as_told, start_on, start_behind, acquired}
use Rattle.bundle.specs.Lease.{HostShown}
use Rattle.bundle.specs.Replies.{IsGot, Acquires, is_halfway}

-- it comes to a start or a wait
abbrev Ends : Reply → Type 0
Ends (starts start) = Unit {0}
Ends (waits_on wait) = Unit {0}
Ends no_room = ⊥
Ends again = ⊥

module _ (settings : LimitAndFirst) (want : Want) (moment : ℕ) (told : Try) (not_again : told ≡ Contended → ⊥) where
  in_place_ends : (cause : Cause) (log : List Entry) (first : Option ℕ) → Ends (start_in_place_of first cause settings want moment log).reply
  in_place_ends cause log None = tt
  in_place_ends cause log (Some c) = tt

  as_told_ends : (log : List Entry) (answer : Try) → (answer ≡ Contended → ⊥) → Ends (start_as_told true answer settings want moment log).reply
  as_told_ends log Given never = tt
  as_told_ends log Contended never = absurd (never refl)
  as_told_ends log Full never = in_place_ends TotalRoom log (oldest log)

  start_ends : (log : List Entry) (fit : Option ℕ) → Ends (start_on fit true told settings want moment log).reply
  start_ends log (Some c) = tt
  start_ends log None = by_room (is_full settings log)
    where
      by_room : (full : Bool) → Ends (if full then start_in_place HostRoom settings want moment log else start_as_told true told settings want moment log).reply
      by_room true = in_place_ends HostRoom log (oldest log)
      by_room false = as_told_ends log told not_again

  behind_ends : (log : List Entry) (wants : List Want) → Ends (start_behind wants true told settings want moment log).reply
  behind_ends log [] =
      let young = without_picked (TooOld want) moment log in
      start_ends young (newest_fit young want moment)
  behind_ends log (head ∷ others) = tt

by_reply : {S : Type 0} (host : ℕ) (want : Want) (reply : Reply) (got : Got S) → IsGot host want reply got → Ends reply → is_halfway got ≡ false
by_reply host want reply (Lease lease) is ends = refl
by_reply host want reply (Wait ticket) is ends = refl
by_reply host want (starts start) (NoRoom booking) is ends = absurd is
by_reply host want (waits_on wait) (NoRoom booking) is ends = absurd is
by_reply host want no_room (NoRoom booking) is ends = absurd ends
by_reply host want again (NoRoom booking) is ends = absurd ends
by_reply host want (starts start) (Again booking) is ends = absurd is
by_reply host want (waits_on wait) (Again booking) is ends = absurd is
by_reply host want no_room (Again booking) is ends = absurd ends
by_reply host want again (Again booking) is ends = absurd ends

pub last-ends : {S : Type 0} (told : Try) (old new : HostShown S) (want : Want) (now : ℕ) (got : Got S) → (told ≡ Contended → ⊥) → Acquires true told old new want now got → is_halfway got ≡ false
last-ends told old new want now got not_again does =
    by_reply old.host want (acquired true told old.settings old.log want now).reply got does.got_is (behind_ends old.settings want (moment_at old.log now) told not_again old.log (waiting old.log))
