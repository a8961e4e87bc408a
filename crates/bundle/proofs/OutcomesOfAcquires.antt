-- What an acquire that is not refused, or another try of one, tells of transfers: one starts, or begins to
-- wait, or nothing more is told.
use Rattle.std.proofs.Common.{◌≡◌, ℕ, Bool, false, List, None, sym, subst}
use Rattle.budget.specs.declared.permits.Try.{Try}
use Rattle.conn_log.specs.declared.entry.Want.{Want}
use Rattle.conn_log.specs.declared.entry.Entry.{Entry}
use Rattle.conn_log.specs.Connections.{held_number}
use Rattle.conn_log.specs.Waiting.{waits}
use Rattle.conn_log.specs.Legal.{LimitAndFirst}
use Rattle.conn_log.specs.Sound.{IsSound}
use Rattle.bundle.specs.declared.answers.Got.{Got}
use Rattle.bundle.specs.declared.answers.Got.TheVariants.{Lease, Wait, NoRoom, Again}
use Rattle.host_state.specs.Calls.{Start, Reply, starts, waits_on, no_room, again, acquired}
use Rattle.bundle.specs.Replies.{IsGot}
use Rattle.host_state.proofs.Outcomes.{Starts, Waits, IsHalfway, ComesTo, comes_to}

-- the same, by what it gives
abbrev pub Outcome : {S : Type 0} → Want → List Entry → List Entry → Got S → Type 0
Outcome want log after (Lease lease) = Starts want lease.start log after
Outcome want log after (Wait ticket) = Waits want log after
Outcome want log after (NoRoom booking) = IsHalfway log after
Outcome want log after (Again booking) = IsHalfway log after

module _ {S : Type 0} (host : ℕ) (want : Want) (log after : List Entry) where
  by_reply : (reply : Reply) (got : Got S) → IsGot host want reply got → ComesTo want log after reply → Outcome want log after got
  by_reply (starts start) (Lease lease) is comes = subst (λ (s : Start). Starts want s log after) (sym is.1) comes
  by_reply (starts start) (Wait ticket) is comes = absurd is
  by_reply (starts start) (NoRoom booking) is comes = absurd is
  by_reply (starts start) (Again booking) is comes = absurd is
  by_reply (waits_on wait) (Lease lease) is comes = absurd is
  by_reply (waits_on wait) (Wait ticket) is comes = comes
  by_reply (waits_on wait) (NoRoom booking) is comes = absurd is
  by_reply (waits_on wait) (Again booking) is comes = absurd is
  by_reply no_room (Lease lease) is comes = absurd is
  by_reply no_room (Wait ticket) is comes = absurd is
  by_reply no_room (NoRoom booking) is comes = comes
  by_reply no_room (Again booking) is comes = absurd is
  by_reply again (Lease lease) is comes = absurd is
  by_reply again (Wait ticket) is comes = absurd is
  by_reply again (NoRoom booking) is comes = absurd is
  by_reply again (Again booking) is comes = comes

  pub outcome : (is_last : Bool) (answer : Try) (settings : LimitAndFirst) (now : ℕ) → IsSound settings log → held_number log want.transfer ≡ None → waits log want.transfer ≡ false → (got : Got S) → (let due = acquired is_last answer settings log want now in after ≡ due.log → IsGot host want due.reply got → Outcome want log after got)
  outcome is_last answer settings now sound free new got log_is is =
      let due = acquired is_last answer settings log want now in
      by_reply due.reply got is (subst (λ (l : List Entry). ComesTo want log l due.reply) (sym log_is) (comes_to is_last answer settings log want now sound free new))
