-- What a host holds after an acquire that is not refused, or another try of one.
use Rattle.std.proofs.Common.{◌≡◌, ℕ, Bool, true, false, List, [], ◌++◌, None, is_some, refl, sym, ap, subst, ◌∙◌}
use Rattle.std.specs.Prelude.{◌==◌, if◌then◌else◌}
use Rattle.budget.specs.declared.permits.Try.{Try}
use Rattle.bundle.specs.Seats.{Tables}
use Rattle.conn_log.specs.declared.entry.Want.{Want}
use Rattle.conn_log.specs.declared.entry.Entry.{Entry}
use Rattle.conn_log.specs.Connections.{held_number, holds}
use Rattle.conn_log.specs.Waiting.{waiting}
use Rattle.conn_log.specs.Legal.{LimitAndFirst}
use Rattle.conn_log.specs.Sound.{IsOrderly}
use Rattle.conn_log.proofs.Soundness.{holds_is}
use Rattle.host_state.specs.Idle.{stream_of}
use Rattle.host_state.specs.Steps.{moment_at, is_exhausted}
use Rattle.host_state.specs.State.{HostState, KeepsOpen}
use Rattle.bundle.specs.declared.grant.Grant.{Grant}
use Rattle.bundle.specs.declared.answers.Got.{Got}
use Rattle.bundle.specs.declared.answers.Got.TheVariants.{Lease, Wait, NoRoom, Again}
use Rattle.host_state.specs.Calls.{start_behind, acquired, refusal, is_queued, GrowsBy}
use Rattle.host_state.specs.Laws.{IsSoundAndQuiet}
use Rattle.bundle.specs.Grants.{grant_starts, grant_transfers, grant_streams, GrantsKept}
use Rattle.bundle.specs.Lease.{HostShown}
use Rattle.bundle.specs.Inside.{GivesAt}
use Rattle.bundle.specs.Replies.{IsGot, Acquires, GivesBooking, UnlessBooking}
use Rattle.bundle.specs.Starts.{LeavesHalfway, AcquiresAt}
use Rattle.host_state.proofs.Outcomes.{IsHalfway}
use Rattle.bundle.proofs.Granting.{leased_same, ticketed_same, kept_all}
use Rattle.bundle.proofs.Answering.{kept_begun, begun_lease, begun_ticket, begun_stream, behind_only, behind_same}
use Rattle.host_state.proofs.Bookings.{IsOut}
use Rattle.host_state.proofs.Growth.{grows_acquired}
use Rattle.host_state.proofs.Soundness.{kept_acquired, none_waits}
use Rattle.host_state.proofs.Marks.{mark_acquired}
use Rattle.bundle.proofs.OutcomesOfAcquires.{Outcome, outcome}

-- what it leaves: a log that is sound and quiet, and what that tells by what it gives
pub record Leaves {S : Type 0} (is_last : Bool) (settings : LimitAndFirst) (log after : List Entry) (want : Want) (got : Got S) : Type 0 where
  pub out : IsOut log want.transfer
  pub settled : IsSoundAndQuiet settings after
  pub outcome : Outcome want log after got
  pub grew : GrowsBy log after
  pub mark : is_last ≡ false → is_queued settings after ≡ is_queued settings log

pub leaves : {S : Type 0} (is_last : Bool) (answer : Try) (settings : LimitAndFirst) (log after : List Entry) (want : Want) (now m : ℕ) (host : ℕ) (got : Got S) → IsSoundAndQuiet settings log → IsOut log want.transfer → m ≡ moment_at log now → (let due = start_behind (waiting log) is_last answer settings want m log in after ≡ due.log → IsGot host want due.reply got → Leaves is_last settings log after want got)
leaves {S} is_last answer settings log after want now m host got kept out moment_is log_is is =
    let due = acquired is_last answer settings log want now in
    let log_due : after ≡ due.log = log_is ∙ ap (λ k. (start_behind (waiting log) is_last answer settings want k log).log) moment_is in
    let is_due : IsGot host want due.reply got = subst (λ (k : ℕ). IsGot host want (start_behind (waiting log) is_last answer settings want k log).reply got) moment_is is in
    record {
      out = out;
      settled = subst (IsSoundAndQuiet settings) (sym log_due) (kept_acquired is_last answer settings log want now kept out.free out.waits_not);
      outcome = outcome host want log after is_last answer settings now kept.sound out.free out.waits_not got log_due is_due;
      grew = subst (GrowsBy log) (sym log_due) (grows_acquired is_last answer settings log want now);
      mark = λ first. ap (is_queued settings) log_due ∙ mark_acquired is_last answer settings log want now kept out.free out.waits_not first;
    }

module _ {S : Type 0} (settings : LimitAndFirst) (log after : List Entry) (grants : List (Grant S)) (kept : GrantsKept log grants) (want : Want) (free : held_number log want.transfer ≡ None) where
  -- each grant is kept
  pub grants_after : (got : Got S) → Outcome want log after got → GrantsKept after grants
  grants_after (Lease lease) out = kept_begun settings log after grants kept want free out.others
  grants_after (Wait ticket) out = kept_begun settings log after grants kept want free out.others
  grants_after (NoRoom booking) out = kept_all log after grants out.same kept
  grants_after (Again booking) out = kept_all log after grants out.same kept

-- a host before and after an acquire, or another try of one, and those who are booked then, if it is done and if it is
-- halfway
module _ {S : Type 0} (state new : HostState S) (grants : List (Grant S)) (booked booked' : List ℕ) (tables tables' : Tables) (done halfway : Want → List ℕ → List ℕ) where
  abbrev before : HostShown S
  before = record { log = state.log; cut_away = state.cut_away; settings = state.settings; host = state.host; streams = grant_streams grants ++ state.streams; unclaimed = grant_starts grants; booked = booked; tables = tables }

  abbrev after : List (Grant S) → HostShown S
  after left = record { log = new.log; cut_away = new.cut_away; settings = new.settings; host = new.host; streams = grant_streams left ++ new.streams; unclaimed = grant_starts left; booked = booked'; tables = tables' }

  -- in the words of the host before the call
  pub acquires_at : (want : Want) (left : List (Grant S)) → left ≡ grants → (old : HostShown S) → before ≡ old → (wanted : Want) → want ≡ wanted → (got : Got S) → AcquiresAt before (after grants) want (done want booked) (halfway want booked) got → AcquiresAt old (after left) wanted (done wanted old.booked) (halfway wanted old.booked) got
  acquires_at want left same old view wanted same_want got it =
      let so_left : AcquiresAt before (after left) want (done want booked) (halfway want booked) got = subst (λ gs. AcquiresAt before (after gs) want (done want booked) (halfway want booked) got) (sym same) it in
      let so_old : AcquiresAt old (after left) want (done want old.booked) (halfway want old.booked) got = subst (λ (v : HostShown S). AcquiresAt v (after left) want (done want v.booked) (halfway want v.booked) got) view so_left in
      subst (λ (w : Want). AcquiresAt old (after left) w (done w old.booked) (halfway w old.booked) got) same_want so_old

  module _ (kept : GrantsKept state.log grants) (want : Want) (free : held_number state.log want.transfer ≡ None) (settled : IsSoundAndQuiet state.settings new.log) where
    same_at : (d : ℕ) → stream_of new.streams d ≡ stream_of state.streams d → stream_of (grant_streams grants ++ new.streams) d ≡ stream_of (grant_streams grants ++ state.streams) d
    same_at d same = behind_same (grant_streams grants) new.streams state.streams d same

    halfway_there : IsHalfway state.log new.log → KeepsOpen state new → booked' ≡ halfway want booked → LeavesHalfway before (after grants) (halfway want booked)
    halfway_there out opens books = record {
      streams = λ d still. same_at d (opens d still);
      keeps = record {
        leases = λ u. leased_same state.log new.log (grant_transfers grants) (grant_transfers grants) u (out.same u) refl;
        tickets = λ u. ticketed_same state.log new.log (grant_transfers grants) (grant_transfers grants) u (out.same u) refl;
      };
      books = books;
    }

    pub got_there : (got : Got S) → Outcome want state.log new.log got → GivesAt state new tables got → UnlessBooking got (booked' ≡ done want booked) → GivesBooking got (λ booking. booked' ≡ halfway want booked) → AcquiresAt before (after grants) want (done want booked) (halfway want booked) got
    got_there (Lease lease) out given books stays = record {
      made_here = given.made_here;
      has_stream = given.has_stream;
      stream = given.stream ∙ ap (λ s. if lease.start.reused then s else None) (sym (behind_only (grant_streams grants) state.streams lease.start.number (begun_stream state.settings state.log new.log grants kept want free out.others settled.sound.orderly lease.start.number out.number)));
      streams = λ d other still. same_at d (given.others d other still);
      gets = begun_lease state.settings state.log new.log grants kept want free out.others new.settings state.host new.host (grant_streams grants ++ state.streams) (grant_streams grants ++ new.streams) booked booked' tables tables' state.cut_away new.cut_away lease.start.number out.number out.awaited;
      books = books;
    }
    got_there (Wait ticket) out given books stays = record {
      made_here = given.0;
      streams = λ d still. same_at d (given.1 d still);
      gets = begun_ticket state.settings state.log new.log grants kept want free out.others new.settings state.host new.host (grant_streams grants ++ state.streams) (grant_streams grants ++ new.streams) booked booked' tables tables' state.cut_away new.cut_away out.held out.awaited;
      books = books;
    }
    got_there (NoRoom booking) out given books stays = halfway_there out given stays
    got_there (Again booking) out given books stays = halfway_there out given stays

-- the answer and the log of it, in the words of the host before the call
pub acquires : {S : Type 0} (is_last : Bool) (answer : Try) (settings : LimitAndFirst) (log : List Entry) (host : ℕ) (streams : List (ℕ × S)) (grants : List (Grant S)) (booked : List ℕ) (tables : Tables) (cut_away : ℕ) (old new : HostShown S) (want : Want) (now m : ℕ) (got : Got S) → (let inside : HostShown S = record { log = log; cut_away = cut_away; settings = settings; host = host; streams = streams; unclaimed = grant_starts grants; booked = booked; tables = tables } in inside ≡ old) → m ≡ moment_at log now → (let due = start_behind (waiting log) is_last answer settings want m log in new.log ≡ due.log → IsGot host want due.reply got → Acquires is_last answer old new want now got)
acquires {S} is_last answer settings log host streams grants booked tables cut_away old new want now m got view moment_is log_is is =
    let inside : HostShown S = record { log = log; cut_away = cut_away; settings = settings; host = host; streams = streams; unclaimed = grant_starts grants; booked = booked; tables = tables } in
    subst (λ (v : HostShown S). Acquires is_last answer v new want now got) view (record {
      log = log_is ∙ ap (λ k. (start_behind (waiting log) is_last answer settings want k log).log) moment_is;
      got_is = subst (λ (k : ℕ). IsGot host want (start_behind (waiting log) is_last answer settings want k log).reply got) moment_is is;
    })

-- where nobody waits and nobody is halfway, a transfer that holds nothing is not refused where numbers are left
pub not_refused_at_once : (settings : LimitAndFirst) (log : List Entry) (booked : List ℕ) (want : Want) → IsOrderly settings log → held_number log want.transfer ≡ None → waiting log ≡ [] → booked ≡ [] → is_exhausted settings log 0 ≡ false → refusal settings log booked want ≡ None
not_refused_at_once settings log booked want orderly free nobody none left =
    let held : holds log want.transfer ≡ false = holds_is settings log orderly want.transfer ∙ ap is_some free in
    rw (none, held, none_waits log want.transfer nobody, left) refl
