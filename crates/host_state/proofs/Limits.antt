-- Closing so many of the connections that are idle for the longest, and then changing the limit.
use Rattle.std.proofs.Common.{◌≡◌, ℕ, Bool, true, false, zero, suc, ◌+◌, ◌-◌, ◌<◌, ◌≤◌, List, [], ◌∷◌, length, take, drop, get_or, Option, refl, sym, ap, ◌∙◌, arith}
use Rattle.std.specs.List.{remove}
use Rattle.conn_log.specs.declared.entry.Cause.TheVariants.{HostRoom}
use Rattle.conn_log.specs.declared.entry.Event.TheVariants.{Closed, Limit}
use Rattle.conn_log.specs.declared.entry.Entry.{Entry}
use Rattle.conn_log.specs.Connections.{last_moment, open_connections, idle_connections}
use Rattle.conn_log.specs.Legal.{LimitAndFirst, limit_in_force}
use Rattle.host_state.specs.declared.idle.Idle.{Idle}
use Rattle.host_state.specs.declared.held.Held.{Held}
use Rattle.host_state.specs.Steps.{add, close_each}
use Rattle.host_state.specs.Idle.{numbers, streams_of}
use Rattle.host_state.specs.State.{HostState, Replays, ClosesIdle, SetsLimit, entries_of_limit}
use Rattle.host_state.proofs.Replaying.{numbers_in_order}
use Rattle.host_state.proofs.Transitions.{replays_close, closes_one, fewer_open_at, fewer_idle_at, replays_limit}

-- a changed limit adds one entry at most beside those of its closings
pub one_at_most : (has_limit_room : Bool) → entries_of_limit has_limit_room ≤ 1
one_at_most true = omega arith
one_at_most false = omega arith

-- idle connections are closed, and then others are
pub closes_then : {S : Type 0} (moment : ℕ) (old middle new : HostState S) → ClosesIdle moment old middle → ClosesIdle moment middle new → ClosesIdle moment old new
closes_then moment old middle new first then = record {
  opened = then.opened ∙ first.opened;
  starts = then.starts ∙ first.starts;
  still = λ d now. first.still d (then.still d now);
  streams = λ d now. then.streams d now ∙ first.streams d (then.still d now);
  holders = λ t. then.holders t ∙ first.holders t;
  waiting = then.waiting ∙ first.waiting;
  later = then.later;
  booked = then.booked ∙ first.booked;
  same = record { settings = then.same.settings ∙ first.same.settings; host = then.same.host ∙ first.same.host; cut_away = then.same.cut_away ∙ first.same.cut_away };
}

-- the first of a list is closed before so many of the others
pub first_of_each : {S : Type 0} (n moment : ℕ) (idle : List (Idle S)) (x : Idle S) (log : List Entry) → 0 < length idle → x ≡ get_or idle 0 x → close_each HostRoom moment (take (suc n) (numbers idle)) log ≡ close_each HostRoom moment (take n (numbers (remove idle 0))) (add moment (Closed x.number HostRoom) log)
first_of_each n moment [] x log some is = absurd (omega (arith, some))
first_of_each n moment (y ∷ idle) x log some is = ap (λ (z : Idle _). close_each HostRoom moment (take n (numbers idle)) (add moment (Closed z.number HostRoom) log)) (sym is)

pub drop_of_each : {S : Type 0} (n : ℕ) (idle : List (Idle S)) → drop (suc n) idle ≡ drop n (remove idle 0)
drop_of_each zero [] = refl
drop_of_each (suc n) [] = refl
drop_of_each n (y ∷ idle) = refl

-- so many were closed
pub record HasClosed {S : Type 0} (settings : LimitAndFirst) (log : List Entry) (greatest_used : ℕ) (idle : List (Idle S)) (held : ℕ → Option Held) (held_len moment n host booked cut_away : ℕ) (has_limit_room : Bool) (after : List Entry) (left : List (Idle S)) : Type 0 where
  pub replays : Replays settings after greatest_used left held held_len
  pub closes : ClosesIdle moment (record { log = log; cut_away = cut_away; settings = settings; host = host; streams = streams_of idle; booked = booked; has_limit_room = has_limit_room }) (record { log = after; cut_away = cut_away; settings = settings; host = host; streams = streams_of left; booked = booked; has_limit_room = has_limit_room })
  pub fewer_open : length (open_connections log) ≡ length (open_connections after) + n
  pub fewer_idle : length (idle_connections log) ≡ length (idle_connections after) + n
  pub limit : limit_in_force settings after ≡ limit_in_force settings log

pub has_closed : {S : Type 0} (settings : LimitAndFirst) (log : List Entry) (greatest_used : ℕ) (idle : List (Idle S)) (held : ℕ → Option Held) (held_len : ℕ) → Replays settings log greatest_used idle held held_len → (moment n host booked cut_away : ℕ) (has_limit_room : Bool) → last_moment log ≤ moment → n ≤ length idle → HasClosed settings log greatest_used idle held held_len moment n host booked cut_away has_limit_room (close_each HostRoom moment (take n (numbers idle)) log) (drop n idle)
has_closed settings log greatest_used idle held held_len r moment zero host booked cut_away has_limit_room later within = record {
  replays = r;
  closes = record {
    opened = refl;
    starts = refl;
    still = λ d now. now;
    streams = λ d now. refl;
    holders = λ t. refl;
    waiting = refl;
    later = later;
    booked = refl;
    same = record { settings = refl; host = refl; cut_away = refl };
  };
  fewer_open = omega arith;
  fewer_idle = omega arith;
  limit = refl;
}
has_closed settings log greatest_used [] held held_len r moment (suc n) host booked cut_away has_limit_room later within = absurd (omega (arith, within))
has_closed {S} settings log greatest_used (x ∷ idle) held held_len r moment (suc n) host booked cut_away has_limit_room later within =
    let some : 0 < length (x ∷ idle) = omega arith in
    let closed = replays_close settings log greatest_used (x ∷ idle) held held_len r moment later HostRoom 0 x some refl refl in
    let rest = has_closed settings (add moment (Closed x.number HostRoom) log) greatest_used idle held held_len closed moment n host booked cut_away has_limit_room (omega arith) (omega (arith, within)) in
    let first = closes_one settings log greatest_used (x ∷ idle) held held_len r moment HostRoom 0 x host booked cut_away has_limit_room some refl in
    record {
      replays = rest.replays;
      closes = closes_then moment _ _ _ first rest.closes;
      fewer_open = omega (arith, fewer_open_at settings log greatest_used (x ∷ idle) held held_len r moment HostRoom 0 x some refl, rest.fewer_open);
      fewer_idle = omega (arith, fewer_idle_at settings log greatest_used (x ∷ idle) held held_len r moment HostRoom 0 x some refl, rest.fewer_idle);
      limit = rest.limit;
    }

-- and then the limit changed
pub sets_limit : {S : Type 0} (settings : LimitAndFirst) (log : List Entry) (greatest_used : ℕ) (idle : List (Idle S)) (held : ℕ → Option Held) (held_len : ℕ) → Replays settings log greatest_used idle held held_len → (moment n host booked cut_away : ℕ) (had has : Bool) → last_moment log ≤ moment → n ≤ length idle → (most : ℕ) → n ≡ length (open_connections log) - most → SetsLimit most moment n (record { log = log; cut_away = cut_away; settings = settings; host = host; streams = streams_of idle; booked = booked; has_limit_room = had }) (record { log = add moment (Limit most) (close_each HostRoom moment (take n (numbers idle)) log); cut_away = cut_away; settings = settings; host = host; streams = streams_of (drop n idle); booked = booked; has_limit_room = has })
sets_limit settings log greatest_used idle held held_len r moment n host booked cut_away had has later within most above =
    let closed = has_closed settings log greatest_used idle held held_len r moment n host booked cut_away had later within in
    record {
      log = ap (λ ns. add moment (Limit most) (close_each HostRoom moment ns log)) (ap (λ k. take k (numbers idle)) above ∙ ap (take (length (open_connections log) - most)) (numbers_in_order r));
      fewer_open = closed.fewer_open;
      fewer_idle = closed.fewer_idle;
      limit = refl;
      closes = record {
        opened = closed.closes.opened;
        starts = closed.closes.starts;
        still = closed.closes.still;
        streams = closed.closes.streams;
        holders = closed.closes.holders;
        waiting = closed.closes.waiting;
        later = omega arith;
        booked = refl;
        same = record { settings = refl; host = refl; cut_away = refl };
      };
    }

pub replays_set : {S : Type 0} (settings : LimitAndFirst) (log : List Entry) (greatest_used : ℕ) (idle : List (Idle S)) (held : ℕ → Option Held) (held_len : ℕ) → Replays settings log greatest_used idle held held_len → (moment n : ℕ) → last_moment log ≤ moment → n ≤ length idle → (most : ℕ) → length (open_connections log) ≤ most + n → Replays settings (add moment (Limit most) (close_each HostRoom moment (take n (numbers idle)) log)) greatest_used (drop n idle) held held_len
replays_set settings log greatest_used idle held held_len r moment n later within most above =
    let closed = has_closed settings log greatest_used idle held held_len r moment n 0 0 0 true later within in
    replays_limit settings _ greatest_used (drop n idle) held held_len closed.replays moment closed.closes.later most (omega (arith, closed.fewer_open, above))
