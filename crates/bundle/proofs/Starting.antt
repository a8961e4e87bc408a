-- Who holds what once a transfer started, or idle connections were closed.
use Rattle.std.proofs.Common.{◌≡◌, ℕ, ◌+◌, ◌-◌, ◌<◌, Bool, true, List, [], ◌∷◌, ◌++◌, length, None, is_some, sym, ap, subst, ◌∙◌, arith}
use Rattle.std.specs.Prelude.{if◌then◌else◌}
use Rattle.budget.specs.Pairs.{HasRoomForPair}
use Rattle.budget.specs.Permits.{held, one_less_open, one_less_kept}
use Rattle.conn_log.specs.declared.entry.Want.{Want}
use Rattle.conn_log.specs.declared.entry.Event.TheVariants.{Opened, Leased, Closed}
use Rattle.conn_log.specs.declared.entry.Entry.{Entry}
use Rattle.conn_log.specs.Connections.{is_among, is_open, held_number, open_connections}
use Rattle.conn_log.specs.Waiting.{waiting}
use Rattle.conn_log.specs.Legal.{LimitAndFirst}
use Rattle.conn_log.specs.Sound.{IsSound}
use Rattle.conn_log.proofs.Soundness.{next_free}
use Rattle.host_state.specs.declared.closing.Closing.{Closing}
use Rattle.host_state.specs.Steps.{add, cause_of, picked, close_each, without_picked}
use Rattle.host_state.specs.Idle.{stream_of}
use Rattle.host_state.specs.State.{HostState, ClosesIdle, KeepsOpen, open_len, idle_len}
use Rattle.bundle.specs.declared.answers.Got.{Got}
use Rattle.bundle.specs.declared.answers.Got.TheVariants.{Lease, Wait, NoRoom, Again}
use Rattle.bundle.specs.declared.grant.Grant.{Grant}
use Rattle.bundle.specs.Grants.{grant_starts}
use Rattle.bundle.specs.Inside.{GivesAt, GivesAnewAt}
use Rattle.bundle.specs.Seats.{Tables, SeatsShown, pair_granted, IsSeated, AreUnclaimed}
use Rattle.conn_log.specs.Starts.{start_count}
use Rattle.host_state.proofs.Soundness.{head_is_next}
use Rattle.bundle.proofs.Seating.{Begins, SameHolders, pair_fits, unclaimed_granted}

-- the first one that waits holds nothing
pub head_free : (settings : LimitAndFirst) (log : List Entry) (head : Want) (others : List Want) → IsSound settings log → waiting log ≡ head ∷ others → held_number log head.transfer ≡ None
head_free settings log head others sound is = next_free settings log sound.orderly head (head_is_next log head others is)

-- a connection was opened for it
pub begins_open : {S : Type 0} (old new : HostState S) (c moment : ℕ) (want : Want) → new.log ≡ add moment (Opened c want) old.log → open_len new ≡ open_len old + 1 → idle_len new ≡ idle_len old → Begins c want.transfer old.log new.log
begins_open old new c moment want is more_open as_many_idle = record {
  taken = λ u. ap (λ log. held_number log u) is;
  lengths = omega (arith, more_open, as_many_idle);
  starts = ap start_count is;
}

-- or an idle one leased
pub begins_lease : {S : Type 0} (old new : HostState S) (c moment : ℕ) (want : Want) → new.log ≡ add moment (Leased c want) old.log → open_len new ≡ open_len old → idle_len old ≡ idle_len new + 1 → Begins c want.transfer old.log new.log
begins_lease old new c moment want is as_many_open fewer_idle = record {
  taken = λ u. ap (λ log. held_number log u) is;
  lengths = omega (arith, as_many_open, fewer_idle);
  starts = ap start_count is;
}

-- only idle ones were closed
pub same_closed : {S : Type 0} (moment : ℕ) (old new : HostState S) → ClosesIdle moment old new → open_len new + idle_len old ≡ open_len old + idle_len new → SameHolders old.log new.log
same_closed moment old new closes as_many = record { same = closes.holders; lengths = omega (arith, as_many); starts = closes.starts }

-- so many of them
pub same_closed_many : {S : Type 0} (moment closed : ℕ) (old new : HostState S) → ClosesIdle moment old new → open_len old ≡ open_len new + closed → idle_len old ≡ idle_len new + closed → SameHolders old.log new.log
same_closed_many moment closed old new closes fewer_open fewer_idle = record { same = closes.holders; lengths = omega (arith, fewer_open, fewer_idle); starts = closes.starts }

-- one pair more can be counted where the number of those that are open is one of the code
pub few_fit : (log : List Entry) (held : SeatsShown) → IsSeated log held → (n : ℕ) → n ≡ length (open_connections log) → n < 4294967296 → HasRoomForPair held.granted held.leased
few_fit log held seated n is few = pair_fits log held seated (omega (arith, is, few))

-- one grant more was written down
pub unclaimed_pushed : {S : Type 0} (grants granted : List (Grant S)) (grant : Grant S) (held now : SeatsShown) → AreUnclaimed (grant_starts grants) held → now ≡ pair_granted (grant.number, grant.want.transfer) held → granted ≡ grants ++ grant ∷ [] → AreUnclaimed (grant_starts granted) now
unclaimed_pushed grants granted grant held now unclaimed is pushed = subst (λ items. AreUnclaimed (grant_starts items) now) (sym pushed) (unclaimed_granted grants grant held now unclaimed is)

-- the first one that a closing picks was closed
pub left_picked : (closing : Closing) (moment : ℕ) (log after : List Entry) (number : ℕ) → picked closing moment log ≡ number ∷ picked closing moment after → after ≡ add moment (Closed number (cause_of closing)) log → without_picked closing moment after ≡ without_picked closing moment log
left_picked closing moment log after number first is =
    let others = picked closing moment after in
    sym (ap (λ numbers. close_each (cause_of closing) moment numbers log) first ∙ ap (close_each (cause_of closing) moment others) (sym is))

-- both permits of a closed one were freed
pub both_freed : (alive kept alive_left kept_left : ℕ) → alive ≡ alive_left + 1 → kept ≡ kept_left + 1 → one_less_open (one_less_kept (held alive kept)) ≡ held alive_left kept_left
both_freed alive kept alive_left kept_left fewer_open fewer_idle =
    let open_is : alive - 1 ≡ alive_left = omega (arith, fewer_open) in
    let idle_is : kept - 1 ≡ kept_left = omega (arith, fewer_idle) in
    ap (λ n. held n (kept - 1)) open_is ∙ ap (held alive_left) idle_is

-- a start after what is too old was closed, by what it gives
module _ {S : Type 0} (moment : ℕ) (before young after : HostState S) (tables : Tables) (closes : ClosesIdle moment before young) (keeps : KeepsOpen young after) where
  stays : (d : ℕ) → is_open after.log d ≡ true → is_open young.log d ≡ true → stream_of after.streams d ≡ stream_of before.streams d
  stays d still open_before = keeps d still ∙ closes.streams d open_before

  pub given_after : (got : Got S) → GivesAnewAt young after tables got → GivesAt before after tables got
  given_after (Lease lease) given = record {
    made_here = given.made_here;
    has_stream = ap is_some given.no_stream ∙ sym given.not_reused;
    stream = given.no_stream ∙ sym (ap (λ (b : Bool). if b then stream_of before.streams lease.start.number else None) given.not_reused);
    others = λ d other still. stays d still (given.opens d other still);
  }
  given_after (Wait ticket) given = (given.0, λ d still. stays d still (ap (is_among d) (sym given.1) ∙ still))
  given_after (NoRoom booking) given = λ d still. stays d still (ap (λ (s : HostState S). is_open s.log d) (sym given) ∙ still)
  given_after (Again booking) given = λ d still. stays d still (ap (λ (s : HostState S). is_open s.log d) (sym given) ∙ still)
