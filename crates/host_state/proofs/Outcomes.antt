-- What an acquire comes to, as the log tells of each transfer.
use Rattle.std.proofs.Common.{◌≡◌, ℕ, ◌+◌, ◌≤◌, Bool, true, false, List, [], ◌∷◌, length, filter, Option, Some, None, is_none, refl, ap, ◌∙◌, arith}
use Rattle.std.specs.Prelude.{◌==◌, if◌then◌else◌}
use mathlib.Core.Bool.{false≢true}
use Rattle.budget.specs.declared.permits.Try.{Try}
use Rattle.budget.specs.declared.permits.Try.TheVariants.{Got as Given, Full, Contended}
use Rattle.conn_log.specs.declared.entry.Want.{Want}
use Rattle.conn_log.specs.declared.entry.Cause.{Cause}
use Rattle.conn_log.specs.declared.entry.Cause.TheVariants.{TooOld as ForAge, HostRoom, TotalRoom}
use Rattle.conn_log.specs.declared.entry.Event.TheVariants.{Leased, Closed, Waited}
use Rattle.conn_log.specs.declared.entry.Entry.{Entry}
use Rattle.conn_log.specs.Connections.{idle_connections, is_idle, holder_want, held_number}
use Rattle.conn_log.specs.Waiting.{waiting, waits, without}
use Rattle.conn_log.specs.Fit.{suits, is_idle_longer, newest_fit, is_too_old_in_lane, idle_in_order, oldest}
use Rattle.conn_log.specs.Legal.{LimitAndFirst}
use Rattle.conn_log.specs.Sound.{IsOrderly, IsSound, is_of_idle}
use Rattle.conn_log.proofs.Queues.{length_last}
use Rattle.conn_log.proofs.Steps.{idle_open_unheld, new_not_held, unheld}
use Rattle.conn_log.proofs.Firsts.{first_among}
use Rattle.conn_log.proofs.Soundness.{and_left, next_is_new, idle_may_close, sound_close}
use Rattle.host_state.specs.declared.closing.Closing.TheVariants.{TooOld}
use Rattle.host_state.specs.Queue.{waiting_want}
use Rattle.host_state.specs.Steps.{moment_at, add, close_each, without_picked, is_full, next_number}
use Rattle.host_state.specs.Calls.{Start, Reply, starts, waits_on, no_room, again, Acquired, start_new, start_opened, start_in_place_of, start_in_place, start_as_told, start_on, start_behind, acquired}
use Rattle.host_state.proofs.Soundness.{later, newest_is_fit, AfterClosing, AreIdle, passing_idle, left_idle, first_idle, still_free, closing_keeps, none_waits}
use Rattle.host_state.proofs.Transfers.{Told, told, IsStarted, freed_closed, started_open, started_lease, told_unheld, told_others, told_started, told_waited_others, awaited_last, none_awaited}

-- the transfer starts, and the same is told of the others
pub record Starts (want : Want) (start : Start) (log after : List Entry) : Type 0 where
  pub others : (u : ℕ) → (want.transfer == u) ≡ false → told after u ≡ told log u
  pub number : held_number after want.transfer ≡ Some start.number
  pub awaited : waiting_want (waiting after) want.transfer ≡ None
  pub queue : length (waiting after) ≤ length (waiting log)

-- or begins to wait
pub record Waits (want : Want) (log after : List Entry) : Type 0 where
  pub others : (u : ℕ) → (want.transfer == u) ≡ false → told after u ≡ told log u
  pub held : held_number after want.transfer ≡ None
  pub awaited : waiting_want (waiting after) want.transfer ≡ Some want
  pub queue : length (waiting after) ≤ length (waiting log) + 1

-- or only closings were made, which tell nothing
pub record IsHalfway (log after : List Entry) : Type 0 where
  pub same : (u : ℕ) → told after u ≡ told log u
  pub queue : length (waiting after) ≤ length (waiting log)

abbrev pub ComesTo : Want → List Entry → List Entry → Reply → Type 0
ComesTo want log after (starts start) = Starts want start log after
ComesTo want log after (waits_on wait) = Waits want log after
ComesTo want log after no_room = IsHalfway log after
ComesTo want log after again = IsHalfway log after

nobody : (held : Option Want) → is_none held ≡ true → held ≡ None
nobody None e = refl
nobody (Some want) e = absurd (false≢true e)

pub unheld_idle : (log : List Entry) (c : ℕ) → is_idle log c ≡ true → holder_want log c ≡ None
unheld_idle log c idle = let open_unheld = idle_open_unheld log c idle in nobody (holder_want log c) open_unheld.1

-- nobody holds the next number
next_unheld : (settings : LimitAndFirst) (log : List Entry) → IsSound settings log → holder_want log (next_number settings log) ≡ None
next_unheld settings log sound = let next = next_number settings log in unheld settings log sound.orderly next (new_not_held settings log sound.orderly next (next_is_new settings log sound.orderly next refl))

-- what closing idle ones tells: nothing new
closing_tells : (settings : LimitAndFirst) (cause : Cause) → is_of_idle cause ≡ true → (moment transfer : ℕ) (numbers : List ℕ) (log : List Entry) → AreIdle log numbers → AfterClosing settings moment transfer log → (u : ℕ) → told (close_each cause moment numbers log) u ≡ told log u
closing_tells settings cause fits moment transfer [] log are before u = refl
closing_tells settings cause fits moment transfer (c ∷ numbers) log are before u =
    let idle = first_idle log c numbers are in
    let none = unheld_idle log c idle in
    let same = told_unheld settings log before.sound.orderly c none (add moment (Closed c cause) log) (freed_closed moment c cause log before.sound.orderly.transfers_once) u in
    let closed : AfterClosing settings moment transfer (add moment (Closed c cause) log) = record { sound = sound_close settings log before.sound moment before.later c cause (idle_may_close log c cause fits before.sound.settled idle) idle; later = omega arith; free = still_free settings log before.sound moment c cause transfer idle before.free; nobody = before.nobody } in
    closing_tells settings cause fits moment transfer numbers (add moment (Closed c cause) log) (left_idle moment c cause log numbers are) closed u ∙ same

-- a start after some closings
starts_after : (settings : LimitAndFirst) (log young : List Entry) → ((u : ℕ) → told young u ≡ told log u) → IsOrderly settings young → waiting young ≡ [] → (start : Start) → holder_want young start.number ≡ None → (after : List Entry) → IsStarted start young after → Starts start.want start log after
starts_after settings log young same orderly nobody' start none after started =
    let mine = told_started start young after started in
    record {
      others = λ u other. told_others settings young orderly start none after started u other ∙ same u;
      number = ap (λ (t : Told). t.number) mine;
      awaited = ap (λ (t : Told). t.awaited) mine;
      queue = omega (arith, ap length started.waiting, ap (λ wants. length (without start.want.transfer wants)) nobody');
    }

waits_after : (log young : List Entry) → ((u : ℕ) → told young u ≡ told log u) → length (waiting young) ≤ length (waiting log) → (m : ℕ) (want : Want) → held_number young want.transfer ≡ None → waits young want.transfer ≡ false → Waits want log (add m (Waited want) young)
waits_after log young same no_more m want free new = record {
  others = λ u other. told_waited_others m want young u other ∙ same u;
  held = free;
  awaited = awaited_last want (waiting young) (none_awaited young want.transfer new);
  queue = omega (arith, no_more, length_last want (waiting young));
}

either : (want : Want) (log : List Entry) (first other : Acquired) (b : Bool) → ComesTo want log first.log first.reply → ComesTo want log other.log other.reply → (let due = if b then first else other in ComesTo want log due.log due.reply)
either want log first other true comes also = comes
either want log first other false comes also = also

-- a start where nobody waits, once what is too old is closed
module _ (settings : LimitAndFirst) (log : List Entry) (want : Want) (m : ℕ) where
  comes_opened : (roomy : List Entry) → ((u : ℕ) → told roomy u ≡ told log u) → IsSound settings roomy → waiting roomy ≡ [] → (let due = start_opened settings want m roomy in ComesTo want log due.log due.reply)
  comes_opened roomy same sound nobody' =
      let start : Start = record { number = next_number settings roomy; want = want; moment = m; reused = false } in
      starts_after settings log roomy same sound.orderly nobody' start (next_unheld settings roomy sound) (start_new settings want m roomy) (started_open m (next_number settings roomy) want roomy)

  module _ (young : List Entry) (same : (u : ℕ) → told young u ≡ told log u) (before : AfterClosing settings m want.transfer young) where
    comes_in_place : (cause : Cause) → is_of_idle cause ≡ true → (first : Option ℕ) → oldest young ≡ first → (let due = start_in_place_of first cause settings want m young in ComesTo want log due.log due.reply)
    comes_in_place cause fits None first_is = waits_after log young same (omega (arith, ap length before.nobody)) m want before.free (none_waits young want.transfer before.nobody)
    comes_in_place cause fits (Some c) first_is =
        let idle = first_among (is_idle_longer young) (idle_connections young) c first_is in
        let roomy = add m (Closed c cause) young in
        let sound = sound_close settings young before.sound m before.later c cause (idle_may_close young c cause fits before.sound.settled idle) idle in
        let same' = λ (u : ℕ). told_unheld settings young before.sound.orderly c (unheld_idle young c idle) roomy (freed_closed m c cause young before.sound.orderly.transfers_once) u ∙ same u in
        comes_opened roomy same' sound before.nobody

    halfway : IsHalfway log young
    halfway = record { same = same; queue = omega (arith, ap length before.nobody) }

    comes_as_told : (is_last : Bool) (answer : Try) → (let due = start_as_told is_last answer settings want m young in ComesTo want log due.log due.reply)
    comes_as_told is_last Given = comes_opened young same before.sound before.nobody
    comes_as_told is_last Contended = halfway
    comes_as_told false Full = halfway
    comes_as_told true Full = comes_in_place TotalRoom refl (oldest young) refl

    comes_on : (is_last : Bool) (answer : Try) (fit : Option ℕ) → newest_fit young want m ≡ fit → (let due = start_on fit is_last answer settings want m young in ComesTo want log due.log due.reply)
    comes_on is_last answer (Some c) is =
        let start : Start = record { number = c; want = want; moment = m; reused = true } in
        let idle = and_left (is_idle young c) (suits young want m c) (newest_is_fit settings young before.sound want m c is) in
        starts_after settings log young same before.sound.orderly before.nobody start (unheld_idle young c idle) (add m (Leased c want) young) (started_lease m c want young)
    comes_on is_last answer None is = either want log (start_in_place HostRoom settings want m young) (start_as_told is_last answer settings want m young) (is_full settings young) (comes_in_place HostRoom refl (oldest young) refl) (comes_as_told is_last answer)

pub comes_to : (is_last : Bool) (answer : Try) (settings : LimitAndFirst) (log : List Entry) (want : Want) (now : ℕ) → IsSound settings log → held_number log want.transfer ≡ None → waits log want.transfer ≡ false → (let due = acquired is_last answer settings log want now in ComesTo want log due.log due.reply)
comes_to is_last answer settings log want now sound free new = by_queue (waiting log) refl
  where
    by_queue : (wants : List Want) → waiting log ≡ wants → (let due = start_behind wants is_last answer settings want (moment_at log now) log in ComesTo want log due.log due.reply)
    by_queue [] is =
        let m = moment_at log now in
        let before : AfterClosing settings m want.transfer log = record { sound = sound; later = later log now; free = free; nobody = is } in
        let numbers = filter (is_too_old_in_lane log want m) (idle_in_order log) in
        let are = passing_idle settings log sound (is_too_old_in_lane log want m) in
        let young = without_picked (TooOld want) m log in
        comes_on settings log want m young (closing_tells settings ForAge refl m want.transfer numbers log are before) (closing_keeps settings ForAge refl m want.transfer numbers log are before) is_last answer (newest_fit young want m) refl
    by_queue (head ∷ others) is = waits_after log log (λ u. refl) (omega arith) (moment_at log now) want free new
