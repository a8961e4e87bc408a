-- An acquire gives what its want asks for.
use Rattle.std.proofs.Common.{ℕ, Bool, ap, ◌∙◌}
use Rattle.budget.specs.declared.permits.Try.{Try}
use Rattle.conn_log.specs.declared.entry.Want.{Want}
use Rattle.host_state.specs.Steps.{moment_at}
use Rattle.bundle.specs.declared.answers.Got.{Got}
use Rattle.bundle.specs.declared.answers.Got.TheVariants.{Lease, Wait, NoRoom, Again}
use Rattle.host_state.specs.Calls.{Reply, starts, waits_on, no_room, again, acquired}
use Rattle.host_state.proofs.RepliesInKind.{IsReplyFor, reply_for}
use Rattle.bundle.specs.Seats.{Tables}
use Rattle.bundle.specs.Lease.{HostShown, Ticketed}
use Rattle.bundle.specs.Replies.{IsGot, IsFor, Acquires}

abbrev waiting_for : Tables → ℕ → Want → ℕ → Ticketed
waiting_for tables host want moment = record { site = host; wait = record { want = want; moment = moment }; tables = tables }

module _ {S : Type 0} (host : ℕ) (want : Want) (moment : ℕ) where
  by_reply : (reply : Reply) (got : Got S) → IsGot host want reply got → IsReplyFor want moment reply → IsFor host want moment got
  by_reply (starts start) (Lease lease) is it = (is.0, ap (λ s. s.want) is.1 ∙ it.0, ap (λ s. s.moment) is.1 ∙ it.1)
  by_reply (starts start) (Wait ticket) is it = absurd is
  by_reply (starts start) (NoRoom booking) is it = absurd is
  by_reply (starts start) (Again booking) is it = absurd is
  by_reply (waits_on wait) (Lease lease) is it = absurd is
  by_reply (waits_on wait) (Wait ticket) is it = is ∙ ap (λ (w : Want). waiting_for ticket.tables host w wait.moment) it.0 ∙ ap (waiting_for ticket.tables host want) it.1
  by_reply (waits_on wait) (NoRoom booking) is it = absurd is
  by_reply (waits_on wait) (Again booking) is it = absurd is
  by_reply no_room (Lease lease) is it = absurd is
  by_reply no_room (Wait ticket) is it = absurd is
  by_reply no_room (NoRoom booking) is it = is
  by_reply no_room (Again booking) is it = absurd is
  by_reply again (Lease lease) is it = absurd is
  by_reply again (Wait ticket) is it = absurd is
  by_reply again (NoRoom booking) is it = absurd is
  by_reply again (Again booking) is it = is

pub acquired_for : {S : Type 0} (is_last : Bool) (told : Try) (old new : HostShown S) (want : Want) (now : ℕ) (got : Got S) → Acquires is_last told old new want now got → IsFor old.host want (moment_at old.log now) got
acquired_for is_last told old new want now got does =
    by_reply old.host want (moment_at old.log now) (acquired is_last told old.settings old.log want now).reply got does.got_is (reply_for is_last told old.settings old.log want now)
