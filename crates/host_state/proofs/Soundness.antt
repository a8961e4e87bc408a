-- What a call answers is a sound and quiet log, where the log before it is.
use Rattle.std.proofs.Common.{◌≡◌, ℕ, zero, suc, ◌+◌, ◌-◌, ◌<◌, ◌≤◌, min, Bool, true, false, not, ◌&&◌, ◌||◌, List, [], ◌∷◌, length, filter, take, Option, Some, None, is_some, is_none, refl, sym, ap, subst, inl, inr, ◌∙◌, arith}
use Rattle.std.specs.Prelude.{◌==◌, nat_lt, if◌then◌else◌}
use Rattle.std.specs.Option.{option_map_or}
use Rattle.std.specs.List.{list_any}
use mathlib.Core.Bool.{false≢true}
use Rattle.std.proofs.lemmas.Bool.Decides.{nat_tests, eqb_tells}
use Rattle.std.proofs.lemmas.List.{length-take-le}
use Rattle.persistence.specs.declared.facts.Facts.{Facts}
use Rattle.persistence.specs.Persistent.{is_persistent}
use Rattle.budget.specs.declared.permits.Try.{Try}
use Rattle.budget.specs.declared.permits.Try.TheVariants.{Got, Full, Contended}
use Rattle.budget.specs.declared.refusal.Refusal.{Refusal}
use Rattle.budget.specs.declared.refusal.Refusal.TheVariants.{BadLimit, Busy}
use Rattle.conn_log.specs.declared.entry.Want.{Want}
use Rattle.conn_log.specs.declared.entry.Cause.{Cause}
use Rattle.conn_log.specs.declared.entry.Cause.TheVariants.{TooOld as ForAge, HostRoom, TotalRoom, CacheFull, Dropped, Withdrawn, Pruned as ForPrune}
use Rattle.conn_log.specs.declared.entry.Event.TheVariants.{Leased, Returned, Closed, Waited, Left, Limit}
use Rattle.conn_log.specs.declared.entry.Entry.{Entry}
use Rattle.conn_log.specs.Connections.{last_moment, open_connections, idle_connections, is_among, is_idle, holds, holder_want, held_number, born, since}
use Rattle.conn_log.specs.Waiting.{waiting, waits, without}
use Rattle.conn_log.specs.Fit.{suits, is_fit, is_older, is_idle_longer, first_by, newest_fit, is_too_old_in_lane, idle_in_order, oldest}
use Rattle.conn_log.specs.Legal.{LimitAndFirst, limit_in_force, ends_use, ending_cause, owed, IsAnyone}
use Rattle.conn_log.specs.Sound.{AreDistinct, IsSound, IsNextAmong, IsNext, is_of_holder, is_of_idle, has_number}
use Rattle.conn_log.proofs.Numbers.{is_among-filter, parted}
use Rattle.conn_log.proofs.Sorted.{distinct-filter}
use Rattle.conn_log.proofs.Order.{among_idle_in_order, distinct_idle_in_order, length_idle_in_order}
use Rattle.conn_log.proofs.Holdings.{unless_it_is, number_closed, holder_closed, holder_returned}
use Rattle.conn_log.proofs.Steps.{IsGone, idle_open_unheld, fewer_open, fewer_idle, as_many_idle, as_many_idle_open, more_open, more_idle, fewer_idle_lease, gone_closed, gone_ended, gone_taken, taken_same, is_idle_is, is_open_is}
use Rattle.conn_log.proofs.Firsts.{first_among}
use Rattle.conn_log.proofs.Soundness.{and_left, and_right, holds_is, next_free, next_is_new, sound_open, sound_lease, sound_return, sound_end, sound_drop, sound_wait, sound_leave, sound_limit, sound_close, idle_may_close}
use Rattle.host_state.specs.declared.closing.Closing.TheVariants.{TooOld, Pruned, Above}
use Rattle.host_state.specs.Steps.{moment_at, add, close_each, picked, without_picked, is_full, next_number}
use Rattle.host_state.specs.Calls.{Returning, spent, not_kept, keep_again, start_new, start_in_place_of, start_in_place, start_as_told, start_on, start, start_behind, acquired, open_for, open_for_head, open_for_first, unfit_cause, grant_to, settle, returned, after_give_back, is_anyone, becomes_idle, keep_as_told, given_back, after_close, after_abandon, close_granted, after_withdraw, after_turn, after_limit, kept_limit as limit_kept, greatest_limit, leased_len, limit_refusal, starts_due, is_queued}
use Rattle.host_state.specs.Laws.{IsSoundAndQuiet}

-- the moment of a call is not below the last one
pub later : (log : List Entry) (now : ℕ) → last_moment log ≤ moment_at log now
later log now = omega arith

-- what no refusal says
pub neither : (a b : Bool) → (a || b) ≡ false → (a ≡ false) × (b ≡ false)
neither true b e = absurd (cc)
neither false b e = (refl, e)

pub neither_refused : (first second : Bool) (one other : Refusal) → (if first then Some one else (if second then Some other else None)) ≡ None → (first ≡ false) × (second ≡ false)
neither_refused true second one other e = absurd (cc)
neither_refused false true one other e = absurd (cc)
neither_refused false false one other e = (refl, refl)

-- an empty list, and a list of one
no_length : (numbers : List ℕ) → length numbers ≡ 0 → numbers ≡ []
no_length [] e = refl
no_length (c ∷ numbers) e = absurd (omega (arith, e))

only_one : (numbers : List ℕ) (c : ℕ) → length numbers ≡ 1 → is_among c numbers ≡ true → numbers ≡ c ∷ []
only_one [] c e among = absurd (omega (arith, e))
only_one (d ∷ []) c e among = ap (λ n. n ∷ []) (grind (arith, nat_tests, among))
only_one (d ∷ x ∷ numbers) c e among = absurd (omega (arith, e))

-- the first of none is none
pub none_first : (goes_before : ℕ → ℕ → Bool) (numbers : List ℕ) → first_by goes_before numbers ≡ None → numbers ≡ []
none_first goes_before [] is = refl
none_first goes_before (c ∷ numbers) is = absurd (cc)

-- someone waits, as a test
pub anyone_is : (wants : List Want) → IsAnyone wants → is_anyone wants ≡ true
anyone_is [] anyone = absurd anyone
anyone_is (head ∷ others) anyone = refl

pub is_someone : (wants : List Want) → is_anyone wants ≡ true → IsAnyone wants
is_someone [] anyone = absurd (false≢true anyone)
is_someone (head ∷ others) anyone = tt

pub is_nobody : (wants : List Want) → is_anyone wants ≡ false → wants ≡ []
is_nobody [] nobody = refl
is_nobody (head ∷ others) nobody = absurd (false≢true (sym nobody))

pub someone : (log : List Entry) (head : Want) (others : List Want) → waiting log ≡ head ∷ others → IsAnyone (waiting log)
someone log head others is = subst IsAnyone (sym is) tt

pub waits_someone : (transfer : ℕ) (wants : List Want) → list_any (λ (want : Want). want.transfer == transfer) wants ≡ true → IsAnyone wants
waits_someone transfer [] waits = absurd (false≢true waits)
waits_someone transfer (want ∷ wants) waits = tt

pub none_waits : (log : List Entry) (transfer : ℕ) → waiting log ≡ [] → waits log transfer ≡ false
none_waits log transfer nobody = ap (λ wants. list_any (λ (want : Want). want.transfer == transfer) wants) nobody

-- fewer than may be
not_full_is : (a b : ℕ) → (a == b) ≡ false → a ≤ b → a < b
not_full_is a b e le = grind (arith, nat_tests, e, le)

room_is : (a b : ℕ) → not (a == b) ≡ true → a ≤ b → a < b
room_is a b e le = grind (arith, nat_tests, e, le)

-- a sound log is quiet where nothing is idle if anyone waits
pub settled_by : (settings : LimitAndFirst) (log : List Entry) → IsSound settings log → (IsAnyone (waiting log) → idle_connections log ≡ []) → IsSoundAndQuiet settings log
settled_by settings log sound none = record {
  sound = sound;
  quiet = record {
    none_idle = none;
    no_room = λ anyone. elim (eqb_tells (length (open_connections log)) (limit_in_force settings log)) [
      | inl full ↦ inl full.1
      | inr room ↦ inr (rw (anyone_is (waiting log) anyone, room.0) refl)
    ];
    queued_for = λ queued. (is_someone (waiting log) (and_left (is_anyone (waiting log)) (not (is_full settings log)) queued), room_is (length (open_connections log)) (limit_in_force settings log) (and_right (is_anyone (waiting log)) (not (is_full settings log)) queued) sound.orderly.within);
    settled = sound.settled;
  };
}

-- or where nobody waits
pub nobody_after : (settings : LimitAndFirst) (after : List Entry) → IsSound settings after → waiting after ≡ [] → IsSoundAndQuiet settings after
nobody_after settings after sound nobody = settled_by settings after sound (λ anyone. absurd (subst IsAnyone nobody anyone))

-- the first one that waits is the next to start; where nobody waits one that holds nothing is
pub head_is_next : (log : List Entry) (head : Want) (others : List Want) → waiting log ≡ head ∷ others → IsNext log head
head_is_next log head others is = subst (λ wants. IsNextAmong wants (held_number log head.transfer) head) (sym is) refl

pub free_is_next : (log : List Entry) (want : Want) → waiting log ≡ [] → held_number log want.transfer ≡ None → IsNext log want
free_is_next log want nobody free = subst (λ wants. IsNextAmong wants (held_number log want.transfer) want) (sym nobody) free

module _ (settings : LimitAndFirst) (log : List Entry) (sound : IsSound settings log) where
  pub free_of : (transfer : ℕ) → holds log transfer ≡ false → held_number log transfer ≡ None
  free_of transfer none = nothing (held_number log transfer) (sym (holds_is settings log sound.orderly transfer) ∙ none)
    where
      nothing : (n : Option ℕ) → is_some n ≡ false → n ≡ None
      nothing None e = refl
      nothing (Some c) e = absurd (cc)

  pub newest_is_fit : (want : Want) (moment c : ℕ) → newest_fit log want moment ≡ Some c → is_fit log want moment c ≡ true
  newest_is_fit want moment c is = sym (is_among-filter (suits log want moment) c (idle_connections log)) ∙ first_among (λ c d. is_idle_longer log d c) (filter (suits log want moment) (idle_connections log)) c is

  -- there is room once an idle one has made it
  pub not_full_after : (moment c : ℕ) (cause : Cause) → is_idle log c ≡ true → is_full settings (add moment (Closed c cause) log) ≡ false
  not_full_after moment c cause idle =
      let open_unheld = idle_open_unheld log c idle in
      let fewer = fewer_open settings log sound.orderly c (add moment (Closed c cause) log) (gone_closed moment c cause log) open_unheld.0 in
      differs _ _ (omega (arith, fewer, sound.orderly.within))
    where
      differs : (a b : ℕ) → a < b → (a == b) ≡ false
      differs a b lt = grind (arith, nat_tests, lt)

  pub still_free : (moment c : ℕ) (cause : Cause) (transfer : ℕ) → is_idle log c ≡ true → held_number log transfer ≡ None → held_number (add moment (Closed c cause) log) transfer ≡ None
  still_free moment c cause transfer idle free = number_closed moment c cause log transfer sound.orderly.transfers_once ∙ ap (unless_it_is c) free

  -- one is opened for the next to start, where the host has room
  pub open_with_room : (want : Want) (moment : ℕ) → last_moment log ≤ moment → IsNext log want → is_full settings log ≡ false → IsSound settings (start_new settings want moment log)
  open_with_room want moment le next room =
      sound_open settings log sound moment le (next_number settings log) want refl (not_full_is (length (open_connections log)) (limit_in_force settings log) room sound.orderly.within) next

  -- one is opened for the first that waits: as many are idle, and one more is open
  pub head_idle : (moment : ℕ) (head : Want) (others : List Want) → waiting log ≡ head ∷ others → length (open_connections log) < limit_in_force settings log → length (idle_connections (start_new settings head moment log)) ≡ length (idle_connections log)
  head_idle moment head others is room =
      as_many_idle_open settings log sound.orderly moment (next_number settings log) head (next_is_new settings log sound.orderly (next_number settings log) refl) (next_free settings log sound.orderly head (head_is_next log head others is)) room

  pub head_open : (moment : ℕ) (head : Want) (others : List Want) → waiting log ≡ head ∷ others → length (open_connections log) < limit_in_force settings log → length (open_connections (start_new settings head moment log)) ≡ length (open_connections log) + 1
  head_open moment head others is room =
      more_open settings log sound.orderly moment (next_number settings log) head (next_is_new settings log sound.orderly (next_number settings log) refl) (next_free settings log sound.orderly head (head_is_next log head others is)) room

  -- where nothing is idle and there is room, one is opened for the first that waits
  pub head_opened : (moment : ℕ) → last_moment log ≤ moment → (head : Want) (others : List Want) → waiting log ≡ head ∷ others → idle_connections log ≡ [] → length (open_connections log) < limit_in_force settings log → IsSoundAndQuiet settings (start_new settings head moment log)
  head_opened moment le head others is none room =
      settled_by settings (start_new settings head moment log) (sound_open settings log sound moment le (next_number settings log) head refl room (head_is_next log head others is)) (λ anyone. no_length _ (head_idle moment head others is room ∙ ap length none))

  -- one is opened for the first that waits, if one does
  pub opened_for_head : (moment : ℕ) → last_moment log ≤ moment → (IsAnyone (waiting log) → idle_connections log ≡ []) → (IsAnyone (waiting log) → length (open_connections log) < limit_in_force settings log) → IsSoundAndQuiet settings (open_for_head settings moment log)
  opened_for_head moment le none room = by_queue (waiting log) refl
    where
      by_queue : (wants : List Want) → waiting log ≡ wants → IsSoundAndQuiet settings (open_for settings moment log wants)
      by_queue [] is = nobody_after settings log sound is
      by_queue (head ∷ others) is = let anyone = someone log head others is in head_opened moment le head others is (none anyone) (room anyone)

-- these are idle connections, each once
pub record AreIdle (log : List Entry) (numbers : List ℕ) : Type 0 where
  pub distinct : AreDistinct numbers
  pub idle : (c : ℕ) → is_among c numbers ≡ true → is_idle log c ≡ true

-- the idle ones that pass a test are, and so many of the first
pub passing_idle : (settings : LimitAndFirst) (log : List Entry) → IsSound settings log → (test : ℕ → Bool) → AreIdle log (filter test (idle_in_order log))
passing_idle settings log sound test = record {
  distinct = distinct-filter test (idle_in_order log) (distinct_idle_in_order log sound.orderly.distinct);
  idle = λ c among. sym (among_idle_in_order log c) ∙ and_left (is_among c (idle_in_order log)) (test c) (sym (is_among-filter test c (idle_in_order log)) ∙ among);
}

among-take : (n c : ℕ) (numbers : List ℕ) → is_among c (take n numbers) ≡ true → is_among c numbers ≡ true
among-take zero c numbers among = absurd (false≢true among)
among-take (suc n) c [] among = among
among-take (suc n) c (d ∷ numbers) among = elim (eqb_tells d c) [
  | inl here ↦ rw here.0 refl
  | inr other ↦ rw other.0 (among-take n c numbers (rw other.0 at among))
]

distinct-take : (n : ℕ) (numbers : List ℕ) → AreDistinct numbers → AreDistinct (take n numbers)
distinct-take zero numbers distinct = tt
distinct-take (suc n) [] distinct = tt
distinct-take (suc n) (c ∷ numbers) distinct = (left_out (is_among c (take n numbers)) refl, distinct-take n numbers distinct.1)
  where
    left_out : (b : Bool) → is_among c (take n numbers) ≡ b → is_among c (take n numbers) ≡ false
    left_out false is = is
    left_out true is = absurd (false≢true (sym distinct.0 ∙ among-take n c numbers is))

pub first_idle_ones : (settings : LimitAndFirst) (log : List Entry) → IsSound settings log → (n : ℕ) → AreIdle log (take n (idle_in_order log))
first_idle_ones settings log sound n = record {
  distinct = distinct-take n (idle_in_order log) (distinct_idle_in_order log sound.orderly.distinct);
  idle = λ c among. sym (among_idle_in_order log c) ∙ among-take n c (idle_in_order log) among;
}

-- and those that are left once one is closed
pub left_idle : (moment c : ℕ) (cause : Cause) (log : List Entry) (numbers : List ℕ) → AreIdle log (c ∷ numbers) → AreIdle (add moment (Closed c cause) log) numbers
left_idle moment c cause log numbers are = record {
  distinct = are.distinct.1;
  idle = λ d among.
      let apart = parted c d numbers are.distinct.0 among in
      let was : is_idle log d ≡ true = are.idle d (grind (arith, among)) in
      grind (arith, nat_tests, apart, was, holder_closed moment c cause log d, is_idle_is (add moment (Closed c cause) log) d, is_open_is (add moment (Closed c cause) log) d, is_idle_is log d, is_open_is log d);
}

pub first_idle : (log : List Entry) (c : ℕ) (numbers : List ℕ) → AreIdle log (c ∷ numbers) → is_idle log c ≡ true
first_idle log c numbers are = are.idle c (grind (arith, nat_tests))

-- so many idle connections were closed
pub record HasClosedIdle (settings : LimitAndFirst) (moment n : ℕ) (log after : List Entry) : Type 0 where
  pub sound : IsSound settings after
  pub later : last_moment after ≤ moment
  pub waiting : waiting after ≡ waiting log
  pub held : (transfer : ℕ) → held_number after transfer ≡ held_number log transfer
  pub limit : limit_in_force settings after ≡ limit_in_force settings log
  pub open_fewer : length (open_connections log) ≡ length (open_connections after) + n
  pub idle_fewer : length (idle_connections log) ≡ length (idle_connections after) + n

is_none_is : (w : Option Want) → is_none w ≡ true → w ≡ None
is_none_is None e = refl
is_none_is (Some w) e = absurd (false≢true e)

pub closes_idle : (settings : LimitAndFirst) (cause : Cause) → is_of_idle cause ≡ true → (moment : ℕ) (numbers : List ℕ) (log : List Entry) → IsSound settings log → last_moment log ≤ moment → AreIdle log numbers → HasClosedIdle settings moment (length numbers) log (close_each cause moment numbers log)
closes_idle settings cause fits moment [] log sound le are = record {
  sound = sound;
  later = le;
  waiting = refl;
  held = λ transfer. refl;
  limit = refl;
  open_fewer = omega arith;
  idle_fewer = omega arith;
}
closes_idle settings cause fits moment (c ∷ numbers) log sound le are =
    let idle = first_idle log c numbers are in
    let closed = add moment (Closed c cause) log in
    let gone = gone_closed moment c cause log in
    let open_unheld = idle_open_unheld log c idle in
    let rest = closes_idle settings cause fits moment numbers closed (sound_close settings log sound moment le c cause (idle_may_close log c cause fits sound.settled idle) idle) (omega arith) (left_idle moment c cause log numbers are) in
    record {
      sound = rest.sound;
      later = rest.later;
      waiting = rest.waiting;
      held = λ transfer. rest.held transfer ∙ gone_taken settings log sound.orderly c closed gone transfer ∙ taken_same settings log sound.orderly c (is_none_is (holder_want log c) open_unheld.1) transfer;
      limit = rest.limit;
      open_fewer = omega (arith, rest.open_fewer, fewer_open settings log sound.orderly c closed gone open_unheld.0);
      idle_fewer = omega (arith, rest.idle_fewer, fewer_idle settings log sound.orderly c closed gone idle);
    }

-- where nothing was idle if anyone waits, nothing is
pub still_none_idle : (settings : LimitAndFirst) (moment n : ℕ) (log after : List Entry) → HasClosedIdle settings moment n log after → (IsAnyone (waiting log) → idle_connections log ≡ []) → IsAnyone (waiting after) → idle_connections after ≡ []
still_none_idle settings moment n log after closed none anyone = no_length _ (omega (arith, closed.idle_fewer, ap length (none (subst IsAnyone closed.waiting anyone))))

-- what closing the too old ones keeps, where nobody waits
pub record AfterClosing (settings : LimitAndFirst) (moment transfer : ℕ) (after : List Entry) : Type 0 where
  pub sound : IsSound settings after
  pub later : last_moment after ≤ moment
  pub free : held_number after transfer ≡ None
  pub nobody : waiting after ≡ []

pub closing_keeps : (settings : LimitAndFirst) (cause : Cause) → is_of_idle cause ≡ true → (moment transfer : ℕ) (numbers : List ℕ) (log : List Entry) → AreIdle log numbers → AfterClosing settings moment transfer log → AfterClosing settings moment transfer (close_each cause moment numbers log)
closing_keeps settings cause fits moment transfer numbers log are before =
    let closed = closes_idle settings cause fits moment numbers log before.sound before.later are in
    record {
      sound = closed.sound;
      later = closed.later;
      free = closed.held transfer ∙ before.free;
      nobody = closed.waiting ∙ before.nobody;
    }

-- a start where nobody waits
module _ (settings : LimitAndFirst) (want : Want) (m : ℕ) where
  kept_open : (log : List Entry) → AfterClosing settings m want.transfer log → is_full settings log ≡ false → IsSoundAndQuiet settings (start_new settings want m log)
  kept_open log before room =
      nobody_after settings (start_new settings want m log) (open_with_room settings log before.sound want m before.later (free_is_next log want before.nobody before.free) room) (ap (without want.transfer) before.nobody)

  kept_in_place : (log : List Entry) → AfterClosing settings m want.transfer log → (cause : Cause) → is_of_idle cause ≡ true → (first : Option ℕ) → oldest log ≡ first → IsSoundAndQuiet settings (start_in_place_of first cause settings want m log).log
  kept_in_place log before cause fits None none =
      let no_idle = none_first (is_idle_longer log) (idle_connections log) none in
      settled_by settings (add m (Waited want) log) (sound_wait settings log before.sound m before.later want before.free (none_waits log want.transfer before.nobody) no_idle) (λ anyone. no_idle)
  kept_in_place log before cause fits (Some c) first_is =
      let idle = first_among (is_idle_longer log) (idle_connections log) c first_is in
      kept_open (add m (Closed c cause) log) (record {
        sound = sound_close settings log before.sound m before.later c cause (idle_may_close log c cause fits before.sound.settled idle) idle;
        later = omega arith;
        free = still_free settings log before.sound m c cause want.transfer idle before.free;
        nobody = before.nobody;
      }) (not_full_after settings log before.sound m c cause idle)

  kept_as_told : (log : List Entry) → AfterClosing settings m want.transfer log → (is_last : Bool) (told : Try) → is_full settings log ≡ false → IsSoundAndQuiet settings (start_as_told is_last told settings want m log).log
  kept_as_told log before is_last Got room = kept_open log before room
  kept_as_told log before is_last Contended room = nobody_after settings log before.sound before.nobody
  kept_as_told log before false Full room = nobody_after settings log before.sound before.nobody
  kept_as_told log before true Full room = kept_in_place log before TotalRoom refl (oldest log) refl

  kept_start : (log : List Entry) → AfterClosing settings m want.transfer log → (is_last : Bool) (told : Try) → IsSoundAndQuiet settings (start is_last told settings want m log).log
  kept_start log before is_last told = by_fit (newest_fit log want m) refl
    where
      by_room : (full : Bool) → is_full settings log ≡ full → IsSoundAndQuiet settings (if full then start_in_place HostRoom settings want m log else start_as_told is_last told settings want m log).log
      by_room true is = kept_in_place log before HostRoom refl (oldest log) refl
      by_room false is = kept_as_told log before is_last told is

      by_fit : (fit : Option ℕ) → newest_fit log want m ≡ fit → IsSoundAndQuiet settings (start_on fit is_last told settings want m log).log
      by_fit (Some c) is =
          nobody_after settings (add m (Leased c want) log) (sound_lease settings log before.sound m before.later c want (newest_is_fit settings log before.sound want m c is) (free_is_next log want before.nobody before.free)) (ap (without want.transfer) before.nobody)
      by_fit None is = by_room (is_full settings log) refl

-- the log without what is too old
pub after_closing : (settings : LimitAndFirst) (log : List Entry) (want : Want) (now : ℕ) → IsSound settings log → held_number log want.transfer ≡ None → waiting log ≡ [] → AfterClosing settings (moment_at log now) want.transfer (without_picked (TooOld want) (moment_at log now) log)
after_closing settings log want now sound free nobody =
    let m = moment_at log now in
    closing_keeps settings ForAge refl m want.transfer (filter (is_too_old_in_lane log want m) (idle_in_order log)) log (passing_idle settings log sound (is_too_old_in_lane log want m)) (record { sound = sound; later = later log now; free = free; nobody = nobody })

pub kept_acquired : (is_last : Bool) (told : Try) (settings : LimitAndFirst) (log : List Entry) (want : Want) (now : ℕ) → IsSoundAndQuiet settings log → held_number log want.transfer ≡ None → waits log want.transfer ≡ false → IsSoundAndQuiet settings (acquired is_last told settings log want now).log
kept_acquired is_last told settings log want now kept free new = by_queue (waiting log) refl
  where
    by_queue : (wants : List Want) → waiting log ≡ wants → IsSoundAndQuiet settings (start_behind wants is_last told settings want (moment_at log now) log).log
    by_queue [] is =
        let m = moment_at log now in
        kept_start settings want m (without_picked (TooOld want) m log) (after_closing settings log want now kept.sound free is) is_last told
    by_queue (head ∷ others) is =
        let m = moment_at log now in
        let none = kept.quiet.none_idle (someone log head others is) in
        settled_by settings (add m (Waited want) log) (sound_wait settings log kept.sound m (later log now) want free new none) (λ anyone. none)

-- who holds it, from what the transfer holds
pub held_want : (settings : LimitAndFirst) (log : List Entry) → IsSound settings log → (transfer c : ℕ) → held_number log transfer ≡ Some c → (want : Want) × (holder_want log c ≡ Some want)
held_want settings log sound transfer c held = seen (holder_want log c) refl (sound.orderly.held_once c transfer ∙ ap (λ n. has_number n c) held ∙ grind (arith, nat_tests))
  where
    seen : (w : Option Want) → holder_want log c ≡ w → option_map_or (λ (v : Want). v.transfer == transfer) w false ≡ true → (want : Want) × (holder_want log c ≡ Some want)
    seen None e told = absurd (false≢true told)
    seen (Some w) e told = (w, e)

-- once what was held is gone, nothing is idle where anyone waits, and there is room
pub gone_none_idle : (settings : LimitAndFirst) (log : List Entry) → IsSoundAndQuiet settings log → (c : ℕ) → is_some (holder_want log c) ≡ true → (after : List Entry) → IsGone c log after → IsAnyone (waiting after) → idle_connections after ≡ []
gone_none_idle settings log kept c held after gone anyone =
    no_length _ (as_many_idle settings log kept.sound.orderly c after gone held ∙ ap length (kept.quiet.none_idle (subst IsAnyone gone.waiting anyone)))

pub gone_room : (settings : LimitAndFirst) (log : List Entry) → IsSound settings log → (c : ℕ) → is_some (holder_want log c) ≡ true → (after : List Entry) → IsGone c log after → length (open_connections after) < limit_in_force settings after
gone_room settings log sound c held after gone =
    let fewer = fewer_open settings log sound.orderly c after gone (sound.orderly.held_open c held) in
    omega (arith, fewer, sound.orderly.within, gone.limit settings)

-- one is opened for the first that waits
kept_gone : (settings : LimitAndFirst) (log : List Entry) → IsSoundAndQuiet settings log → (c : ℕ) → is_some (holder_want log c) ≡ true → (after : List Entry) → IsGone c log after → IsSound settings after → (m : ℕ) → last_moment after ≤ m → IsSoundAndQuiet settings (open_for_head settings m after)
kept_gone settings log kept c held after gone sound m le =
    opened_for_head settings after sound m le (gone_none_idle settings log kept c held after gone) (λ anyone. gone_room settings log kept.sound c held after gone)

-- what was held came back and is idle, the only one while someone waits
pub back_is_idle : (settings : LimitAndFirst) (log : List Entry) → IsSound settings log → (c : ℕ) → is_some (holder_want log c) ≡ true → (m : ℕ) (facts : Facts) → is_idle (add m (Returned c facts) log) c ≡ true
back_is_idle settings log sound c held m facts =
    let was_open = sound.orderly.held_open c held in
    grind (arith, nat_tests, is_idle_is (add m (Returned c facts) log) c, holder_returned m c facts log c, was_open)

pub record IsOnlyIdle (after : List Entry) (c : ℕ) : Type 0 where
  pub only : idle_connections after ≡ c ∷ []

pub only_idle : (settings : LimitAndFirst) (log : List Entry) → IsSoundAndQuiet settings log → (c : ℕ) → is_some (holder_want log c) ≡ true → (m : ℕ) (facts : Facts) → IsAnyone (waiting log) → is_persistent facts ≡ true → IsOnlyIdle (add m (Returned c facts) log) c
only_idle settings log kept c held m facts anyone persists =
    let more = more_idle settings log kept.sound.orderly m c facts persists (kept.sound.orderly.held_open c held) held in
    let one : length (idle_connections (add m (Returned c facts) log)) ≡ 1 = omega (arith, more, ap length (kept.quiet.none_idle anyone)) in
    record { only = only_one _ c one (back_is_idle settings log kept.sound c held m facts) }

unfit_of_idle : (too_old full : Bool) → is_of_idle (if too_old then ForAge else (if full then HostRoom else TotalRoom)) ≡ true
unfit_of_idle true full = refl
unfit_of_idle false true = refl
unfit_of_idle false false = refl

pub unfit_is_of_idle : (settings : LimitAndFirst) (log : List Entry) (head : Want) (m c : ℕ) → is_of_idle (unfit_cause settings log head m c) ≡ true
unfit_is_of_idle settings log head m c = unfit_of_idle (is_too_old_in_lane log head m c) (is_full settings log)

-- it goes to the first that waits, or makes room for a new one
kept_passed : (settings : LimitAndFirst) (log : List Entry) → IsSound settings log → (c m : ℕ) → last_moment log ≤ m → (head : Want) (others : List Want) → waiting log ≡ head ∷ others → IsOnlyIdle log c → (fits : Bool) → is_fit log head m c ≡ fits → IsSoundAndQuiet settings (if fits then add m (Leased c head) log else start_new settings head m (add m (Closed c (unfit_cause settings log head m c)) log))
kept_passed settings log sound c m le head others is alone true fit =
    let next = head_is_next log head others is in
    let idle = and_left (is_idle log c) (suits log head m c) fit in
    let fewer = fewer_idle_lease settings log sound.orderly m c head idle (next_free settings log sound.orderly head next) in
    settled_by settings (add m (Leased c head) log) (sound_lease settings log sound m le c head fit next) (λ anyone. no_length _ (omega (arith, fewer, ap length alone.only)))
kept_passed settings log sound c m le head others is alone false unfit =
    let idle : is_idle log c ≡ true = ap (is_among c) alone.only ∙ grind (arith, nat_tests) in
    let cause = unfit_cause settings log head m c in
    let closed = sound_close settings log sound m le c cause (idle_may_close log c cause (unfit_is_of_idle settings log head m c) sound.settled idle) idle in
    let gone = gone_closed m c cause log in
    let fewer = fewer_idle settings log sound.orderly c (add m (Closed c cause) log) gone idle in
    let none : length (idle_connections (add m (Closed c cause) log)) ≡ 0 = omega (arith, fewer, ap length alone.only) in
    let open_unheld = idle_open_unheld log c idle in
    let one_fewer = fewer_open settings log sound.orderly c (add m (Closed c cause) log) gone open_unheld.0 in
    head_opened settings (add m (Closed c cause) log) closed m (omega arith) head others is (no_length _ none) (omega (arith, one_fewer, sound.orderly.within))

pub stays_persistent : (persists forbids : Bool) → not (persists && not forbids) ≡ false → persists ≡ true
stays_persistent true forbids e = refl
stays_persistent false forbids e = absurd (cc)

pub kept_give_back : (settings : LimitAndFirst) (log : List Entry) (transfer c : ℕ) (facts : Facts) (now : ℕ) → IsSoundAndQuiet settings log → held_number log transfer ≡ Some c → IsSoundAndQuiet settings (after_give_back settings log c facts now)
kept_give_back settings log transfer c facts now kept held =
    let m = moment_at log now in
    let w = held_want settings log kept.sound transfer c held in
    rw w.1 (by_end m w.0 w.1 (later log now) (ends_use facts w.0) refl)
  where
    by_queue : (m : ℕ) (w : Want) → holder_want log c ≡ Some w → last_moment log ≤ m → ends_use facts w ≡ false → (wants : List Want) → waiting log ≡ wants → IsSoundAndQuiet settings (grant_to settings c m (add m (Returned c facts) log) wants)
    by_queue m w is le stays [] nobody = nobody_after settings (add m (Returned c facts) log) (sound_return settings log kept.sound m le c facts w is stays) nobody
    by_queue m w is le stays (head ∷ others) queue =
        let alone = only_idle settings log kept c (ap is_some is) m facts (someone log head others queue) (stays_persistent (is_persistent facts) w.forbid_reuse stays) in
        kept_passed settings (add m (Returned c facts) log) (sound_return settings log kept.sound m le c facts w is stays) c m (omega arith) head others queue alone (is_fit (add m (Returned c facts) log) head m c) refl

    by_end : (m : ℕ) (w : Want) → holder_want log c ≡ Some w → last_moment log ≤ m → (ends : Bool) → ends_use facts w ≡ ends → IsSoundAndQuiet settings (settle settings c m (add m (Returned c facts) log) (if ends then Some (c, ending_cause facts w) else None))
    by_end m w is le true ends = kept_gone settings log kept c (ap is_some is) _ (gone_ended m c facts (ending_cause facts w) log) (sound_end settings log kept.sound m le c facts w is ends) m (omega arith)
    by_end m w is le false stays = by_queue m w is le stays (waiting log) refl

-- what came back is to be idle: its use does not end, and nobody waits
pub idle_unowed : (log : List Entry) (c : ℕ) (facts : Facts) (now : ℕ) → becomes_idle log c facts now ≡ true → owed (returned log c facts now) ≡ None
idle_unowed log c facts now idle = nothing (owed (returned log c facts now)) (and_left (is_none (owed (returned log c facts now))) (not (is_anyone (waiting log))) idle)
  where
    nothing : (due : Option (ℕ × Cause)) → is_none due ≡ true → due ≡ None
    nothing None e = refl
    nothing (Some close) e = absurd (false≢true e)

pub idle_nobody : (log : List Entry) (c : ℕ) (facts : Facts) (now : ℕ) → becomes_idle log c facts now ≡ true → waiting log ≡ []
idle_nobody log c facts now idle = none_there (waiting log) (and_right (is_none (owed (returned log c facts now))) (not (is_anyone (waiting log))) idle)
  where
    none_there : (wants : List Want) → not (is_anyone wants) ≡ true → wants ≡ []
    none_there [] e = refl
    none_there (head ∷ others) e = absurd (false≢true e)

pub idle_as_returned : (settings : LimitAndFirst) (log : List Entry) (c : ℕ) (facts : Facts) (now : ℕ) → becomes_idle log c facts now ≡ true → after_give_back settings log c facts now ≡ returned log c facts now
idle_as_returned settings log c facts now idle =
    ap (settle settings c (moment_at log now) (returned log c facts now)) (idle_unowed log c facts now idle)
    ∙ ap (grant_to settings c (moment_at log now) (returned log c facts now)) (idle_nobody log c facts now idle)

pub kept_becoming_idle : (settings : LimitAndFirst) (log : List Entry) (transfer c : ℕ) (facts : Facts) (now : ℕ) → IsSoundAndQuiet settings log → held_number log transfer ≡ Some c → becomes_idle log c facts now ≡ true → IsSoundAndQuiet settings (returned log c facts now)
kept_becoming_idle settings log transfer c facts now kept held idle = subst (IsSoundAndQuiet settings) (idle_as_returned settings log c facts now idle) (kept_give_back settings log transfer c facts now kept held)

-- and is closed at once, since the cache is full
pub kept_unkept : (settings : LimitAndFirst) (log : List Entry) (transfer c : ℕ) (facts : Facts) (now : ℕ) → IsSoundAndQuiet settings log → held_number log transfer ≡ Some c → becomes_idle log c facts now ≡ true → IsSoundAndQuiet settings (add (moment_at log now) (Closed c CacheFull) (returned log c facts now))
kept_unkept settings log transfer c facts now kept held idle =
    let m = moment_at log now in
    let back = returned log c facts now in
    let before = kept_becoming_idle settings log transfer c facts now kept held idle in
    let w = held_want settings log kept.sound transfer c held in
    let idle_now = back_is_idle settings log kept.sound c (ap is_some w.1) m facts in
    nobody_after settings (add m (Closed c CacheFull) back) (sound_close settings back before.sound m (omega arith) c CacheFull (before.sound.settled, idle_now) idle_now) (idle_nobody log c facts now idle)

-- whatever the budget answers
abbrev log_of : List Entry → Returning → List Entry
log_of other (spent log) = log
log_of other not_kept = other
log_of other keep_again = other

pub kept_given_back : (close_if_full : Bool) (told : Try) (settings : LimitAndFirst) (log after : List Entry) (transfer c : ℕ) (facts : Facts) (now : ℕ) → IsSoundAndQuiet settings log → held_number log transfer ≡ Some c → given_back close_if_full told settings log c facts now ≡ spent after → IsSoundAndQuiet settings after
kept_given_back close_if_full told settings log after transfer c facts now kept held is = by_rest (becomes_idle log c facts now) refl is
  where
    by_told : becomes_idle log c facts now ≡ true → (close_if_full : Bool) (told : Try) → keep_as_told close_if_full told c (moment_at log now) (returned log c facts now) ≡ spent after → IsSoundAndQuiet settings after
    by_told idle close_if_full Got is = subst (IsSoundAndQuiet settings) (ap (log_of log) is) (kept_becoming_idle settings log transfer c facts now kept held idle)
    by_told idle close_if_full Contended is = absurd (cc)
    by_told idle true Full is = subst (IsSoundAndQuiet settings) (ap (log_of log) is) (kept_unkept settings log transfer c facts now kept held idle)
    by_told idle false Full is = absurd (cc)

    by_rest : (idle : Bool) → becomes_idle log c facts now ≡ idle → (if idle then keep_as_told close_if_full told c (moment_at log now) (returned log c facts now) else spent (after_give_back settings log c facts now)) ≡ spent after → IsSoundAndQuiet settings after
    by_rest true idle is = by_told idle close_if_full told is
    by_rest false ends is = subst (IsSoundAndQuiet settings) (ap (log_of log) is) (kept_give_back settings log transfer c facts now kept held)

-- what is held is closed by its holder
pub kept_close : (settings : LimitAndFirst) (log : List Entry) (transfer c : ℕ) (cause : Cause) (now : ℕ) → is_of_holder cause ≡ true → IsSoundAndQuiet settings log → held_number log transfer ≡ Some c → IsSoundAndQuiet settings (after_close settings log c cause now)
kept_close settings log transfer c cause now fits kept held =
    let m = moment_at log now in
    let w = held_want settings log kept.sound transfer c held in
    let someones = ap is_some w.1 in
    kept_gone settings log kept c someones (add m (Closed c cause) log) (gone_closed m c cause log) (sound_drop settings log kept.sound m (later log now) c cause fits someones) m (omega arith)

pub kept_abandon : (settings : LimitAndFirst) (log : List Entry) (transfer c now : ℕ) → IsSoundAndQuiet settings log → held_number log transfer ≡ Some c → IsSoundAndQuiet settings (after_abandon settings log c now)
kept_abandon settings log transfer c now kept held = kept_close settings log transfer c Dropped now refl kept held

pub kept_withdraw : (settings : LimitAndFirst) (log : List Entry) (transfer now : ℕ) → IsSoundAndQuiet settings log → IsSoundAndQuiet settings (after_withdraw settings log transfer now)
kept_withdraw settings log transfer now kept = by_wait (waits log transfer) refl
  where
    by_number : (held : Option ℕ) → held_number log transfer ≡ held → IsSoundAndQuiet settings (close_granted settings log held now)
    by_number None is = kept
    by_number (Some c) is = kept_close settings log transfer c Withdrawn now refl kept is

    by_wait : (waits_here : Bool) → waits log transfer ≡ waits_here → IsSoundAndQuiet settings (if waits_here then add (moment_at log now) (Left transfer) log else close_granted settings log (held_number log transfer) now)
    by_wait false is = by_number (held_number log transfer) refl
    by_wait true is =
        let m = moment_at log now in
        settled_by settings (add m (Left transfer) log) (sound_leave settings log kept.sound m (later log now) transfer is) (λ anyone. kept.quiet.none_idle (waits_someone transfer (waiting log) is))

-- a host that is queued has its turn
pub kept_turn : (told : Try) (settings : LimitAndFirst) (log : List Entry) (now : ℕ) → IsSoundAndQuiet settings log → is_queued settings log ≡ true → IsSoundAndQuiet settings (after_turn told settings log now)
kept_turn Got settings log now kept queued =
    let place = kept.quiet.queued_for queued in
    opened_for_head settings log kept.sound (moment_at log now) (later log now) kept.quiet.none_idle (λ anyone. place.1)
kept_turn Full settings log now kept queued = kept
kept_turn Contended settings log now kept queued = kept

-- the oldest idle connection is closed, and all that are too old by two numbers
pub kept_evict : (settings : LimitAndFirst) (log : List Entry) (c : ℕ) (cause : Cause) (now : ℕ) → IsSoundAndQuiet settings log → oldest log ≡ Some c → is_of_idle cause ≡ true → IsSoundAndQuiet settings (add (moment_at log now) (Closed c cause) log)
kept_evict settings log c cause now kept first fits =
    let m = moment_at log now in
    let idle = first_among (is_idle_longer log) (idle_connections log) c first in
    settled_by settings (add m (Closed c cause) log) (sound_close settings log kept.sound m (later log now) c cause (idle_may_close log c cause fits kept.sound.settled idle) idle) (λ anyone. absurd (false≢true (sym (ap (is_among c) (kept.quiet.none_idle anyone)) ∙ idle)))

pub closes_pruned : (settings : LimitAndFirst) (log : List Entry) (max_age max_life now : ℕ) → IsSound settings log → HasClosedIdle settings (moment_at log now) (length (picked (Pruned max_age max_life) (moment_at log now) log)) log (without_picked (Pruned max_age max_life) (moment_at log now) log)
closes_pruned settings log max_age max_life now sound =
    let m = moment_at log now in
    closes_idle settings ForPrune refl m (picked (Pruned max_age max_life) m log) log sound (later log now) (passing_idle settings log sound (λ c. is_older (since log c) (born log c) max_age max_life m))

pub kept_prune : (settings : LimitAndFirst) (log : List Entry) (max_age max_life now : ℕ) → IsSoundAndQuiet settings log → IsSoundAndQuiet settings (without_picked (Pruned max_age max_life) (moment_at log now) log)
kept_prune settings log max_age max_life now kept =
    let closed = closes_pruned settings log max_age max_life now kept.sound in
    settled_by settings (without_picked (Pruned max_age max_life) (moment_at log now) log) closed.sound (still_none_idle settings _ _ log _ closed kept.quiet.none_idle)

-- what is idle above a limit is closed
pub closes_above : (settings : LimitAndFirst) (log : List Entry) (most now : ℕ) → IsSound settings log → HasClosedIdle settings (moment_at log now) (length (picked (Above most) (moment_at log now) log)) log (without_picked (Above most) (moment_at log now) log)
closes_above settings log most now sound =
    let m = moment_at log now in
    closes_idle settings HostRoom refl m (picked (Above most) m log) log sound (later log now) (first_idle_ones settings log sound (length (open_connections log) - most))

-- so many are, where a transfer holds no more than the limit
pub picked_above : (log : List Entry) (most moment : ℕ) → leased_len log ≤ most → length (picked (Above most) moment log) ≡ length (open_connections log) - most
picked_above log most moment leased = length-take-le (length (open_connections log) - most) (idle_in_order log) (omega (arith, leased, length_idle_in_order log))

-- one is opened for each of the first that wait
pub record AfterHead (settings : LimitAndFirst) (moment : ℕ) (log after : List Entry) : Type 0 where
  pub later : last_moment after ≤ moment
  pub limit : limit_in_force settings after ≡ limit_in_force settings log
  pub at_most : length (open_connections after) ≤ length (open_connections log) + 1

pub after_head : (settings : LimitAndFirst) (log : List Entry) → IsSound settings log → (moment : ℕ) → last_moment log ≤ moment → length (open_connections log) < limit_in_force settings log → AfterHead settings moment log (open_for_head settings moment log)
after_head settings log sound moment le room = by_queue (waiting log) refl
  where
    by_queue : (wants : List Want) → waiting log ≡ wants → AfterHead settings moment log (open_for settings moment log wants)
    by_queue [] is = record { later = le; limit = refl; at_most = omega arith }
    by_queue (head ∷ others) is = record { later = omega arith; limit = refl; at_most = omega (arith, head_open settings log sound moment head others is room) }

pub opened_for_first : (given : ℕ) (settings : LimitAndFirst) (moment : ℕ) (log : List Entry) → IsSoundAndQuiet settings log → last_moment log ≤ moment → length (open_connections log) + given ≤ limit_in_force settings log → IsSoundAndQuiet settings (open_for_first given settings moment log)
opened_for_first zero settings moment log kept le room = kept
opened_for_first (suc n) settings moment log kept le room =
    let place : length (open_connections log) < limit_in_force settings log = omega (arith, room) in
    let after = after_head settings log kept.sound moment le place in
    opened_for_first n settings moment (open_for_head settings moment log) (opened_for_head settings log kept.sound moment le kept.quiet.none_idle (λ anyone. place)) after.later (omega (arith, room, after.limit, after.at_most))

-- what no refusal of a limit says, and how many may start under it
not_below : (a b : ℕ) → nat_lt a b ≡ false → b ≤ a
not_below a b e = grind (arith, nat_tests, e)

pub limit_allows : (n : ℕ) (log : List Entry) → limit_refusal n log ≡ None → leased_len log ≤ limit_kept n
limit_allows n log allowed =
    let neither_is = neither_refused (nat_lt greatest_limit n) (nat_lt (limit_kept n) (leased_len log)) BadLimit (Busy (leased_len log)) allowed in
    not_below (limit_kept n) (leased_len log) neither_is.1

starts_due_fits : (queued : Bool) (waiting_len room given : ℕ) → given ≤ (if queued then 0 else min waiting_len room) → given ≤ room
starts_due_fits true waiting_len room given within = omega (arith, within)
starts_due_fits false waiting_len room given within = omega (arith, within)

-- the limit changes
pub kept_new_limit : (settings : LimitAndFirst) (log : List Entry) (n given now : ℕ) → IsSoundAndQuiet settings log → limit_refusal n log ≡ None → given ≤ starts_due (is_queued settings log) (limit_kept n) log → IsSoundAndQuiet settings (after_limit (limit_kept n) given settings log now)
kept_new_limit settings log n given now kept allowed within =
    let m = moment_at log now in
    let most = limit_kept n in
    let young = without_picked (Above most) m log in
    let closed = closes_above settings log most now kept.sound in
    let so_many = picked_above log most m (limit_allows n log allowed) in
    let fits = starts_due_fits (is_queued settings log) (length (waiting log)) (most - length (open_connections log)) given within in
    let limited = sound_limit settings young closed.sound m closed.later most (omega (arith, closed.open_fewer, so_many)) in
    opened_for_first given settings m (add m (Limit most) young) (settled_by settings (add m (Limit most) young) limited (still_none_idle settings _ _ log young closed kept.quiet.none_idle)) (omega arith) (omega (arith, closed.open_fewer, so_many, fits))
