-- How many are open and idle, and who waits, after each call.
use Rattle.std.proofs.Common.{◌≡◌, ℕ, zero, suc, ◌+◌, ◌-◌, ◌<◌, ◌≤◌, min, Bool, true, false, not, ◌&&◌, List, [], ◌∷◌, length, filter, drop, Option, Some, None, is_some, is_none, refl, sym, ap, subst, ◌∙◌, arith}
use Rattle.std.specs.Prelude.{◌==◌, nat_lt, if◌then◌else◌}
use mathlib.Core.Bool.{false≢true}
use Rattle.std.proofs.lemmas.Bool.Decides.{nat_tests}
use Rattle.persistence.specs.declared.facts.Facts.{Facts}
use Rattle.persistence.specs.Persistent.{is_persistent}
use Rattle.budget.specs.declared.permits.Try.{Try}
use Rattle.budget.specs.declared.permits.Try.TheVariants.{Got, Full, Contended}
use Rattle.conn_log.specs.declared.entry.Want.{Want}
use Rattle.conn_log.specs.declared.entry.Cause.{Cause}
use Rattle.conn_log.specs.declared.entry.Cause.TheVariants.{HostRoom, TotalRoom, CacheFull, Dropped, Withdrawn}
use Rattle.conn_log.specs.declared.entry.Event.TheVariants.{Leased, Returned, Closed, Waited, Left, Limit}
use Rattle.conn_log.specs.declared.entry.Entry.{Entry}
use Rattle.conn_log.specs.Connections.{last_moment, open_connections, idle_connections, is_among, is_idle, holder_want, held_number}
use Rattle.conn_log.specs.Waiting.{waiting, waits, without}
use Rattle.conn_log.specs.Fit.{suits, is_fit, is_idle_longer, newest_fit, oldest, is_too_old_in_lane, in_order}
use Rattle.conn_log.specs.Legal.{LimitAndFirst, limit_in_force, ends_use, ending_cause, IsAnyone}
use Rattle.conn_log.specs.Sound.{IsSound, is_of_idle, is_of_holder}
use Rattle.conn_log.proofs.Queues.{without_next}
use Rattle.conn_log.proofs.Steps.{IsGone, idle_open_unheld, fewer_open, fewer_idle, as_many_idle, as_many_idle_open, more_open, more_idle, fewer_idle_lease, gone_closed, gone_ended}
use Rattle.conn_log.proofs.Firsts.{first_among}
use Rattle.conn_log.proofs.Soundness.{and_left, next_free, next_is_new, sound_return, sound_end, sound_drop, sound_close, sound_limit, idle_may_close}
use Rattle.host_state.specs.declared.closing.Closing.TheVariants.{TooOld, Pruned, Above}
use Rattle.host_state.specs.Steps.{moment_at, add, close_each, cause_of, picked, without_picked, is_full, next_number}
use Rattle.host_state.specs.Calls.{Returning, spent, not_kept, keep_again, start_new, start_in_place_of, start_in_place, start_as_told, start_on, start, start_behind, acquired, open_for, open_for_head, open_for_first, unfit_cause, grant_to, settle, returned, after_give_back, is_anyone, becomes_idle, keep_as_told, given_back, after_close, after_abandon, close_granted, after_withdraw, after_turn, after_limit, kept_limit, limit_refusal, starts_due, is_queued, is_freed}
use Rattle.host_state.specs.Laws.{IsSoundAndQuiet}
use Rattle.host_state.specs.Effects.{open_len, idle_len, Closes, OpensForHead, Starts, Waits, Leaves, SpendsOne, ChangesLimit, tidied, asks_for_one, is_got, DoesAs}
use Rattle.host_state.proofs.Soundness.{later, someone, head_is_next, head_open, head_idle, AreIdle, passing_idle, HasClosedIdle, closes_idle, still_none_idle, settled_by, AfterClosing, after_closing, newest_is_fit, held_want, gone_room, not_full_after, still_free, opened_for_head, after_head, back_is_idle, unfit_is_of_idle, stays_persistent, idle_as_returned, kept_acquired, kept_give_back, kept_unkept, kept_close, kept_withdraw, kept_turn, kept_evict, kept_prune, closes_pruned, closes_above, picked_above, limit_allows, kept_new_limit}

-- closing idle ones
closes_is : (settings : LimitAndFirst) (moment n : ℕ) (log after : List Entry) → HasClosedIdle settings moment n log after → IsSoundAndQuiet settings after → Closes n settings log after
closes_is settings moment n log after closed settled = record {
  number_open = closed.open_fewer;
  number_idle = closed.idle_fewer;
  same_wait = closed.waiting;
  settled = settled;
}

one_idle : (log : List Entry) (c : ℕ) → is_idle log c ≡ true → AreIdle log (c ∷ [])
one_idle log c idle = record {
  distinct = (refl, tt);
  idle = λ d among. subst (λ (n : ℕ). is_idle log n ≡ true) (same d among) idle;
}
  where
    same : (d : ℕ) → is_among d (c ∷ []) ≡ true → c ≡ d
    same d among = grind (arith, nat_tests, among)

pub evict_closes : (settings : LimitAndFirst) (log : List Entry) (c : ℕ) (cause : Cause) (now : ℕ) → IsSoundAndQuiet settings log → oldest log ≡ Some c → is_of_idle cause ≡ true → Closes 1 settings log (add (moment_at log now) (Closed c cause) log)
evict_closes settings log c cause now kept first fits =
    let m = moment_at log now in
    let idle = first_among (is_idle_longer log) (idle_connections log) c first in
    closes_is settings m 1 log (add m (Closed c cause) log) (closes_idle settings cause fits m (c ∷ []) log kept.sound (later log now) (one_idle log c idle)) (kept_evict settings log c cause now kept first fits)

pub prune_closes : (settings : LimitAndFirst) (log : List Entry) (max_age max_life now : ℕ) → IsSoundAndQuiet settings log → Closes (length (picked (Pruned max_age max_life) (moment_at log now) log)) settings log (without_picked (Pruned max_age max_life) (moment_at log now) log)
prune_closes settings log max_age max_life now kept =
    let m = moment_at log now in
    closes_is settings m (length (picked (Pruned max_age max_life) m log)) log (without_picked (Pruned max_age max_life) m log) (closes_pruned settings log max_age max_life now kept.sound) (kept_prune settings log max_age max_life now kept)

pub acquire_tidies : (settings : LimitAndFirst) (log : List Entry) (want : Want) (now : ℕ) → IsSoundAndQuiet settings log → Closes (length (picked (TooOld want) (moment_at log now) log)) settings log (tidied want (moment_at log now) log)
acquire_tidies settings log want now kept =
    let m = moment_at log now in
    let numbers = picked (TooOld want) m log in
    let closed = closes_idle settings (cause_of (TooOld want)) refl m numbers log kept.sound (later log now) (passing_idle settings log kept.sound (is_too_old_in_lane log want m)) in
    closes_is settings m (length numbers) log (tidied want m log) closed (settled_by settings (tidied want m log) closed.sound (still_none_idle settings m (length numbers) log (tidied want m log) closed kept.quiet.none_idle))

-- opening one for the first that waits leaves the others
others_left : (settings : LimitAndFirst) (log : List Entry) → IsSound settings log → (head : Want) (others : List Want) → waiting log ≡ head ∷ others → without head.transfer (waiting log) ≡ others
others_left settings log sound head others is = without_next (waiting log) (held_number log head.transfer) head sound.orderly.wait_once (head_is_next log head others is) ∙ ap (drop 1) is

opens_for : (settings : LimitAndFirst) (log : List Entry) → IsSound settings log → (moment : ℕ) (head : Want) (others : List Want) → waiting log ≡ head ∷ others → length (open_connections log) < limit_in_force settings log → IsSoundAndQuiet settings (start_new settings head moment log) → OpensForHead settings log (start_new settings head moment log)
opens_for settings log sound moment head others is room settled = record {
  one_more_open = head_open settings log sound moment head others is room;
  as_many_idle = head_idle settings log sound moment head others is room;
  head = head;
  head_starts = is ∙ ap (λ (wants : List Want). head ∷ wants) (sym (others_left settings log sound head others is));
  settled = settled;
}

opens_for_head : (settings : LimitAndFirst) (log : List Entry) → IsSound settings log → (moment : ℕ) → IsAnyone (waiting log) → length (open_connections log) < limit_in_force settings log → IsSoundAndQuiet settings (open_for_head settings moment log) → OpensForHead settings log (open_for_head settings moment log)
opens_for_head settings log sound moment anyone room = by_queue (waiting log) refl
  where
    by_queue : (wants : List Want) → waiting log ≡ wants → IsSoundAndQuiet settings (open_for settings moment log wants) → OpensForHead settings log (open_for settings moment log wants)
    by_queue [] is settled = absurd (subst IsAnyone is anyone)
    by_queue (head ∷ others) is settled = opens_for settings log sound moment head others is room settled

pub turn_opens : (settings : LimitAndFirst) (log : List Entry) (now : ℕ) → IsSoundAndQuiet settings log → is_queued settings log ≡ true → OpensForHead settings log (after_turn Got settings log now)
turn_opens settings log now kept queued =
    let place = kept.quiet.queued_for queued in
    opens_for_head settings log kept.sound (moment_at log now) place.0 place.1 (kept_turn Got settings log now kept queued)

-- what is spent is freed, kept idle, or the first that waits starts
freed_is : (old_len new_len : ℕ) → old_len ≡ new_len + 1 → nat_lt new_len old_len ≡ true
freed_is old_len new_len fewer = grind (arith, nat_tests, fewer)

not_freed_is : (old_len new_len : ℕ) → new_len ≡ old_len → nat_lt new_len old_len ≡ false
not_freed_is old_len new_len same = grind (arith, nat_tests, same)

spends_freed : (settings : LimitAndFirst) (old new : List Entry) → open_len old ≡ open_len new + 1 → idle_len new ≡ idle_len old → waiting old ≡ [] → waiting new ≡ [] → IsSoundAndQuiet settings new → SpendsOne false settings old new
spends_freed settings old new fewer idle nobody nobody_now settled =
    let freed : is_freed old new ≡ true = freed_is (open_len old) (open_len new) fewer in
    record {
      number_open = rw freed fewer;
      number_idle = omega (arith, idle);
      freed_where = rw (freed, nobody) refl;
      kept_where = λ never. nobody;
      head_starts = nobody_now ∙ sym (ap (drop 1) nobody);
      settled = settled;
    }

spends_kept : (settings : LimitAndFirst) (old new : List Entry) → open_len new ≡ open_len old → idle_len new ≡ idle_len old + 1 → waiting old ≡ [] → waiting new ≡ [] → IsSoundAndQuiet settings new → SpendsOne true settings old new
spends_kept settings old new same idle nobody nobody_now settled =
    let freed : is_freed old new ≡ false = not_freed_is (open_len old) (open_len new) same in
    record {
      number_open = rw freed (omega (arith, same));
      number_idle = idle;
      freed_where = freed;
      kept_where = λ is. nobody;
      head_starts = nobody_now ∙ sym (ap (drop 1) nobody);
      settled = settled;
    }

spends_handed : (settings : LimitAndFirst) (old new : List Entry) → open_len new ≡ open_len old → idle_len new ≡ idle_len old → (head : Want) (others : List Want) → waiting old ≡ head ∷ others → waiting new ≡ others → IsSoundAndQuiet settings new → SpendsOne false settings old new
spends_handed settings old new same idle head others is left settled =
    let freed : is_freed old new ≡ false = not_freed_is (open_len old) (open_len new) same in
    record {
      number_open = rw freed (omega (arith, same));
      number_idle = omega (arith, idle);
      freed_where = rw (freed, is) refl;
      kept_where = λ never. absurd (false≢true never);
      head_starts = left ∙ sym (ap (drop 1) is);
      settled = settled;
    }

-- once what was held is gone one is opened for the first that waits
gone_spends : (settings : LimitAndFirst) (log : List Entry) → IsSound settings log → (c : ℕ) → is_some (holder_want log c) ≡ true → (after : List Entry) → IsGone c log after → IsSound settings after → (m : ℕ) → IsSoundAndQuiet settings (open_for_head settings m after) → SpendsOne false settings log (open_for_head settings m after)
gone_spends settings log sound c held after gone sound_after m = by_queue (waiting after) refl
  where
    fewer : open_len log ≡ open_len after + 1
    fewer = fewer_open settings log sound.orderly c after gone (sound.orderly.held_open c held)

    idle : idle_len after ≡ idle_len log
    idle = as_many_idle settings log sound.orderly c after gone held

    by_queue : (wants : List Want) → waiting after ≡ wants → IsSoundAndQuiet settings (open_for settings m after wants) → SpendsOne false settings log (open_for settings m after wants)
    by_queue [] is settled = spends_freed settings log after fewer idle (sym gone.waiting ∙ is) is settled
    by_queue (head ∷ others) is settled =
        let opens = opens_for settings after sound_after m head others is (gone_room settings log sound c held after gone) settled in
        spends_handed settings log (start_new settings head m after) (omega (arith, fewer, opens.one_more_open)) (opens.as_many_idle ∙ idle) head others (sym gone.waiting ∙ is) (others_left settings after sound_after head others is) settled

-- what is held is closed by its holder
close_spends : (settings : LimitAndFirst) (log : List Entry) (transfer c : ℕ) (cause : Cause) (now : ℕ) → is_of_holder cause ≡ true → IsSoundAndQuiet settings log → held_number log transfer ≡ Some c → SpendsOne false settings log (after_close settings log c cause now)
close_spends settings log transfer c cause now fits kept held =
    let m = moment_at log now in
    let w = held_want settings log kept.sound transfer c held in
    let someones = ap is_some w.1 in
    gone_spends settings log kept.sound c someones (add m (Closed c cause) log) (gone_closed m c cause log) (sound_drop settings log kept.sound m (later log now) c cause fits someones) m (kept_close settings log transfer c cause now fits kept held)

pub abandon_spends : (settings : LimitAndFirst) (log : List Entry) (transfer c now : ℕ) → IsSoundAndQuiet settings log → held_number log transfer ≡ Some c → SpendsOne false settings log (after_abandon settings log c now)
abandon_spends settings log transfer c now kept held = close_spends settings log transfer c Dropped now refl kept held

pub withdraw_spends : (settings : LimitAndFirst) (log : List Entry) (transfer c now : ℕ) → IsSoundAndQuiet settings log → held_number log transfer ≡ Some c → SpendsOne false settings log (after_withdraw settings log transfer now)
withdraw_spends settings log transfer c now kept held = by_wait (waits log transfer) refl
  where
    by_wait : (waits_here : Bool) → waits log transfer ≡ waits_here → SpendsOne false settings log (if waits_here then add (moment_at log now) (Left transfer) log else close_granted settings log (held_number log transfer) now)
    by_wait true is = absurd (cc (held, kept.sound.orderly.waiting_free transfer is))
    by_wait false is = subst (λ (n : Option ℕ). SpendsOne false settings log (close_granted settings log n now)) (sym held) (close_spends settings log transfer c Withdrawn now refl kept held)

pub withdraw_leaves : (settings : LimitAndFirst) (log : List Entry) (transfer now : ℕ) → IsSoundAndQuiet settings log → waits log transfer ≡ true → Leaves transfer settings log (after_withdraw settings log transfer now)
withdraw_leaves settings log transfer now kept there = leaves (waits log transfer) there (kept_withdraw settings log transfer now kept)
  where
    leaves : (waits_here : Bool) → waits_here ≡ true → IsSoundAndQuiet settings (if waits_here then add (moment_at log now) (Left transfer) log else close_granted settings log (held_number log transfer) now) → Leaves transfer settings log (if waits_here then add (moment_at log now) (Left transfer) log else close_granted settings log (held_number log transfer) now)
    leaves false is settled = absurd (false≢true is)
    leaves true is settled = record { as_many_open = refl; as_many_idle = refl; others_wait = refl; settled = settled }

-- what came back goes to the first that waits, where it fits; else it makes room for a new one
module _ (settings : LimitAndFirst) (log : List Entry) (sound : IsSound settings log) (m c : ℕ) (head : Want) (others : List Want) (queue : waiting log ≡ head ∷ others) (idle : is_idle log c ≡ true) (le : last_moment log ≤ m) where
  -- what the two ways have in common
  record Passes (after : List Entry) : Type 0 where
    as_many_open : open_len after ≡ open_len log
    one_fewer_idle : idle_len log ≡ idle_len after + 1
    others_wait : waiting after ≡ others

  passes : (fits : Bool) → Passes (if fits then add m (Leased c head) log else start_new settings head m (add m (Closed c (unfit_cause settings log head m c)) log))
  passes true = record {
    as_many_open = refl;
    one_fewer_idle = fewer_idle_lease settings log sound.orderly m c head idle (next_free settings log sound.orderly head (head_is_next log head others queue));
    others_wait = others_left settings log sound head others queue;
  }
  passes false =
      let cause = unfit_cause settings log head m c in
      let closed = add m (Closed c cause) log in
      let sound_closed = sound_close settings log sound m le c cause (idle_may_close log c cause (unfit_is_of_idle settings log head m c) sound.settled idle) idle in
      let gone = gone_closed m c cause log in
      let open_unheld = idle_open_unheld log c idle in
      let fewer = fewer_open settings log sound.orderly c closed gone open_unheld.0 in
      let room : length (open_connections closed) < limit_in_force settings closed = omega (arith, fewer, sound.orderly.within) in
      record {
        as_many_open = head_open settings closed sound_closed m head others queue room ∙ sym fewer;
        one_fewer_idle = fewer_idle settings log sound.orderly c closed gone idle ∙ ap (λ (n : ℕ). n + 1) (sym (head_idle settings closed sound_closed m head others queue room));
        others_wait = others_left settings closed sound_closed head others queue;
      }

-- what was held is given back
give_back_spends : (settings : LimitAndFirst) (log : List Entry) (transfer c : ℕ) (facts : Facts) (now : ℕ) → IsSoundAndQuiet settings log → held_number log transfer ≡ Some c → SpendsOne (becomes_idle log c facts now) settings log (after_give_back settings log c facts now)
give_back_spends settings log transfer c facts now kept held =
    let m = moment_at log now in
    let w = held_want settings log kept.sound transfer c held in
    let settled = kept_give_back settings log transfer c facts now kept held in
    rw w.1 (by_end m w.0 w.1 (later log now) (ends_use facts w.0) refl (rw w.1 at settled))
  where
    by_queue : (m : ℕ) (w : Want) → holder_want log c ≡ Some w → last_moment log ≤ m → ends_use facts w ≡ false → (wants : List Want) → waiting log ≡ wants → IsSoundAndQuiet settings (grant_to settings c m (add m (Returned c facts) log) wants) → SpendsOne (not (is_anyone wants)) settings log (grant_to settings c m (add m (Returned c facts) log) wants)
    by_queue m w is le stays [] nobody settled =
        let more = more_idle settings log kept.sound.orderly m c facts (stays_persistent (is_persistent facts) w.forbid_reuse stays) (kept.sound.orderly.held_open c (ap is_some is)) (ap is_some is) in
        spends_kept settings log (add m (Returned c facts) log) refl more nobody nobody settled
    by_queue m w is le stays (head ∷ others) queue settled =
        let back = add m (Returned c facts) log in
        let held_now = ap is_some is in
        let more = more_idle settings log kept.sound.orderly m c facts (stays_persistent (is_persistent facts) w.forbid_reuse stays) (kept.sound.orderly.held_open c held_now) held_now in
        let passed = passes settings back (sound_return settings log kept.sound m le c facts w is stays) m c head others queue (back_is_idle settings log kept.sound c held_now m facts) (omega arith) (is_fit back head m c) in
        spends_handed settings log (if is_fit back head m c then add m (Leased c head) back else start_new settings head m (add m (Closed c (unfit_cause settings back head m c)) back)) passed.as_many_open (omega (arith, more, passed.one_fewer_idle)) head others queue passed.others_wait settled

    by_end : (m : ℕ) (w : Want) → holder_want log c ≡ Some w → last_moment log ≤ m → (ends : Bool) → ends_use facts w ≡ ends → IsSoundAndQuiet settings (settle settings c m (add m (Returned c facts) log) (if ends then Some (c, ending_cause facts w) else None)) → SpendsOne (is_none {T = ℕ × Cause} (if ends then Some (c, ending_cause facts w) else None) && not (is_anyone (waiting log))) settings log (settle settings c m (add m (Returned c facts) log) (if ends then Some (c, ending_cause facts w) else None))
    by_end m w is le true ends settled = gone_spends settings log kept.sound c (ap is_some is) _ (gone_ended m c facts (ending_cause facts w) log) (sound_end settings log kept.sound m le c facts w is ends) m settled
    by_end m w is le false stays settled = by_queue m w is le stays (waiting log) refl settled

-- and is closed at once where the cache is full
unkept_spends : (settings : LimitAndFirst) (log : List Entry) (c m : ℕ) (facts : Facts) (now : ℕ) → SpendsOne true settings log (returned log c facts now) → is_idle (returned log c facts now) c ≡ true → IsSoundAndQuiet settings (add m (Closed c CacheFull) (returned log c facts now)) → SpendsOne false settings log (add m (Closed c CacheFull) (returned log c facts now))
unkept_spends settings log c m facts now kept idle settled =
    let back = returned log c facts now in
    let gone = gone_closed m c CacheFull back in
    let open_unheld = idle_open_unheld back c idle in
    let nobody = kept.kept_where refl in
    let fewer = fewer_open settings back kept.settled.sound.orderly c (add m (Closed c CacheFull) back) gone open_unheld.0 in
    let fewer_are_idle = fewer_idle settings back kept.settled.sound.orderly c (add m (Closed c CacheFull) back) gone idle in
    spends_freed settings log (add m (Closed c CacheFull) back) fewer (omega (arith, fewer_are_idle, kept.number_idle)) nobody nobody settled

abbrev log_of : List Entry → Returning → List Entry
log_of other (spent log) = log
log_of other not_kept = other
log_of other keep_again = other

pub given_back_spends : (close_if_full : Bool) (told : Try) (settings : LimitAndFirst) (log after : List Entry) (transfer c : ℕ) (facts : Facts) (now : ℕ) → IsSoundAndQuiet settings log → held_number log transfer ≡ Some c → given_back close_if_full told settings log c facts now ≡ spent after → SpendsOne (becomes_idle log c facts now && is_got told) settings log after
given_back_spends close_if_full told settings log after transfer c facts now kept held is = by_rest (becomes_idle log c facts now) refl is
  where
    spends : (idle : Bool) → becomes_idle log c facts now ≡ idle → SpendsOne idle settings log (after_give_back settings log c facts now)
    spends idle is = subst (λ (b : Bool). SpendsOne b settings log (after_give_back settings log c facts now)) is (give_back_spends settings log transfer c facts now kept held)

    rested : becomes_idle log c facts now ≡ true → SpendsOne true settings log (returned log c facts now)
    rested idle = subst (SpendsOne true settings log) (idle_as_returned settings log c facts now idle) (spends true idle)

    by_told : becomes_idle log c facts now ≡ true → (close_if_full : Bool) (told : Try) → keep_as_told close_if_full told c (moment_at log now) (returned log c facts now) ≡ spent after → SpendsOne (is_got told) settings log after
    by_told idle close_if_full Got is = subst (SpendsOne true settings log) (ap (log_of log) is) (rested idle)
    by_told idle close_if_full Contended is = absurd (cc)
    by_told idle true Full is =
        let w = held_want settings log kept.sound transfer c held in
        let idle_now = back_is_idle settings log kept.sound c (ap is_some w.1) (moment_at log now) facts in
        let m = moment_at log now in
        subst (SpendsOne false settings log) (ap (log_of log) is) (unkept_spends settings log c m facts now (rested idle) idle_now (kept_unkept settings log transfer c facts now kept held idle))
    by_told idle false Full is = absurd (cc)

    by_rest : (idle : Bool) → becomes_idle log c facts now ≡ idle → (if idle then keep_as_told close_if_full told c (moment_at log now) (returned log c facts now) else spent (after_give_back settings log c facts now)) ≡ spent after → SpendsOne (idle && is_got told) settings log after
    by_rest true idle is = by_told idle close_if_full told is
    by_rest false ends is = subst (SpendsOne false settings log) (ap (log_of log) is) (spends false ends)

-- a start where nobody waits
has_room : (a b : ℕ) → (a == b) ≡ false → a ≤ b → a < b
has_room a b e le = grind (arith, nat_tests, e, le)

module _ (settings : LimitAndFirst) (want : Want) (m : ℕ) where
  opened_starts : (log : List Entry) → AfterClosing settings m want.transfer log → is_full settings log ≡ false → IsSoundAndQuiet settings (start_new settings want m log) → Starts true settings log (start_new settings want m log)
  opened_starts log before room settled =
      let c = next_number settings log in
      let new = next_is_new settings log before.sound.orderly c refl in
      let place = has_room (length (open_connections log)) (limit_in_force settings log) room before.sound.orderly.within in
      record {
        number_open = more_open settings log before.sound.orderly m c want new before.free place;
        number_idle = omega (arith, as_many_idle_open settings log before.sound.orderly m c want new before.free place);
        nobody_waited = before.nobody;
        nobody_waits = ap (without want.transfer) before.nobody;
        settled = settled;
      }

  leased_starts : (log : List Entry) → AfterClosing settings m want.transfer log → (c : ℕ) → is_idle log c ≡ true → IsSoundAndQuiet settings (add m (Leased c want) log) → Starts false settings log (add m (Leased c want) log)
  leased_starts log before c idle settled =
      let same : open_len (add m (Leased c want) log) ≡ open_len log = refl in
      record {
        number_open = omega (arith, same);
        number_idle = fewer_idle_lease settings log before.sound.orderly m c want idle before.free;
        nobody_waited = before.nobody;
        nobody_waits = ap (without want.transfer) before.nobody;
        settled = settled;
      }

  replaced_starts : (log : List Entry) → AfterClosing settings m want.transfer log → (cause : Cause) → is_of_idle cause ≡ true → (c : ℕ) → is_idle log c ≡ true → IsSoundAndQuiet settings (start_new settings want m (add m (Closed c cause) log)) → Starts false settings log (start_new settings want m (add m (Closed c cause) log))
  replaced_starts log before cause fits c idle settled =
      let closed = add m (Closed c cause) log in
      let gone = gone_closed m c cause log in
      let open_unheld = idle_open_unheld log c idle in
      let after : AfterClosing settings m want.transfer closed = record {
        sound = sound_close settings log before.sound m before.later c cause (idle_may_close log c cause fits before.sound.settled idle) idle;
        later = omega arith;
        free = still_free settings log before.sound m c cause want.transfer idle before.free;
        nobody = before.nobody;
      } in
      let begins = opened_starts closed after (not_full_after settings log before.sound m c cause idle) settled in
      record {
        number_open = omega (arith, begins.number_open, fewer_open settings log before.sound.orderly c closed gone open_unheld.0);
        number_idle = omega (arith, begins.number_idle, fewer_idle settings log before.sound.orderly c closed gone idle);
        nobody_waited = before.nobody;
        nobody_waits = begins.nobody_waits;
        settled = settled;
      }

  in_place_does : (log : List Entry) → AfterClosing settings m want.transfer log → (asked : Bool) (told : Try) → (asked && is_got told) ≡ false → (asked ≡ true → told ≡ Full) → (cause : Cause) → is_of_idle cause ≡ true → (first : Option ℕ) → oldest log ≡ first → IsSoundAndQuiet settings (start_in_place_of first cause settings want m log).log → DoesAs (start_in_place_of first cause settings want m log).reply asked told want settings log (start_in_place_of first cause settings want m log).log
  in_place_does log before asked told no_more full cause fits None none settled = (record { as_many_open = refl; as_many_idle = refl; waits_last = refl; settled = settled }, full)
  in_place_does log before asked told no_more full cause fits (Some c) first settled = subst (λ (more : Bool). Starts more settings log (start_new settings want m (add m (Closed c cause) log))) (sym no_more) (replaced_starts log before cause fits c (first_among (is_idle_longer log) (idle_connections log) c first) settled)

  told_does : (log : List Entry) → AfterClosing settings m want.transfer log → (is_last : Bool) (told : Try) → is_full settings log ≡ false → IsSoundAndQuiet settings (start_as_told is_last told settings want m log).log → DoesAs (start_as_told is_last told settings want m log).reply true told want settings log (start_as_told is_last told settings want m log).log
  told_does log before is_last Got room settled = opened_starts log before room settled
  told_does log before is_last Contended room settled = (refl, refl, refl)
  told_does log before false Full room settled = (refl, refl, refl)
  told_does log before true Full room settled = in_place_does log before true Full refl (λ asked. refl) TotalRoom refl (oldest log) refl settled

  start_does : (log : List Entry) → AfterClosing settings m want.transfer log → (is_last : Bool) (told : Try) → IsSoundAndQuiet settings (start is_last told settings want m log).log → DoesAs (start is_last told settings want m log).reply (asks_for_one settings log want m) told want settings log (start is_last told settings want m log).log
  start_does log before is_last told settled = asked_by (waiting log) before.nobody (by_fit (newest_fit log want m) refl settled)
    where
      by_room : (full : Bool) → is_full settings log ≡ full → IsSoundAndQuiet settings (if full then start_in_place HostRoom settings want m log else start_as_told is_last told settings want m log).log → DoesAs (if full then start_in_place HostRoom settings want m log else start_as_told is_last told settings want m log).reply (not full) told want settings log (if full then start_in_place HostRoom settings want m log else start_as_told is_last told settings want m log).log
      by_room true is settled = in_place_does log before false told refl (λ never. absurd (false≢true never)) HostRoom refl (oldest log) refl settled
      by_room false is settled = told_does log before is_last told is settled

      by_fit : (fit : Option ℕ) → newest_fit log want m ≡ fit → IsSoundAndQuiet settings (start_on fit is_last told settings want m log).log → DoesAs (start_on fit is_last told settings want m log).reply (is_none {T = ℕ} fit && not (is_full settings log)) told want settings log (start_on fit is_last told settings want m log).log
      by_fit (Some c) is settled = leased_starts log before c (and_left (is_idle log c) (suits log want m c) (newest_is_fit settings log before.sound want m c is)) settled
      by_fit None is settled = by_room (is_full settings log) refl settled

      asked_by : (wants : List Want) → wants ≡ [] → DoesAs (start is_last told settings want m log).reply (is_none {T = ℕ} (newest_fit log want m) && not (is_full settings log)) told want settings log (start is_last told settings want m log).log → DoesAs (start is_last told settings want m log).reply (not (is_anyone wants) && is_none {T = ℕ} (newest_fit log want m) && not (is_full settings log)) told want settings log (start is_last told settings want m log).log
      asked_by [] nobody does = does
      asked_by (head ∷ others) nobody does = absurd (cc)

-- where nothing is idle nothing is too old
nothing_tidied : (want : Want) (moment : ℕ) (log : List Entry) → idle_connections log ≡ [] → tidied want moment log ≡ log
nothing_tidied want moment log none =
    ap (λ (numbers : List ℕ). close_each (cause_of (TooOld want)) moment (filter (is_too_old_in_lane log want moment) (in_order (is_idle_longer log) numbers)) log) none

pub acquired_does : (is_last : Bool) (told : Try) (settings : LimitAndFirst) (log : List Entry) (want : Want) (now : ℕ) → IsSoundAndQuiet settings log → held_number log want.transfer ≡ None → waits log want.transfer ≡ false → (let m = moment_at log now in DoesAs (acquired is_last told settings log want now).reply (asks_for_one settings (tidied want m log) want m) told want settings (tidied want m log) (acquired is_last told settings log want now).log)
acquired_does is_last told settings log want now kept free new = by_queue (waiting log) refl (kept_acquired is_last told settings log want now kept free new)
  where
    unasked : (head : Want) (others : List Want) (old : List Entry) → waiting old ≡ head ∷ others → asks_for_one settings old want (moment_at log now) ≡ false
    unasked head others old is = rw is refl

    by_queue : (wants : List Want) → waiting log ≡ wants → (let m = moment_at log now in IsSoundAndQuiet settings (start_behind wants is_last told settings want m log).log → DoesAs (start_behind wants is_last told settings want m log).reply (asks_for_one settings (tidied want m log) want m) told want settings (tidied want m log) (start_behind wants is_last told settings want m log).log)
    by_queue [] is settled = start_does settings want (moment_at log now) (tidied want (moment_at log now) log) (after_closing settings log want now kept.sound free is) is_last told settled
    by_queue (head ∷ others) is settled =
        let m = moment_at log now in
        let same = nothing_tidied want m log (kept.quiet.none_idle (someone log head others is)) in
        let last : Waits want settings log (add m (Waited want) log) = record { as_many_open = refl; as_many_idle = refl; waits_last = refl; settled = settled } in
        (subst (λ (old : List Entry). Waits want settings old (add m (Waited want) log)) (sym same) last, λ asked. absurd (false≢true (sym (unasked head others (tidied want m log) (ap waiting same ∙ is)) ∙ asked)))

-- one is opened for each of the first that wait
record OpensForFirst (given : ℕ) (settings : LimitAndFirst) (log after : List Entry) : Type 0 where
  number_open : open_len after ≡ open_len log + given
  as_many_idle : idle_len after ≡ idle_len log
  first_start : waiting after ≡ drop given (waiting log)
  limit : limit_in_force settings after ≡ limit_in_force settings log

is_there : (n : ℕ) (wants : List Want) → suc n ≤ length wants → IsAnyone wants
is_there n [] within = absurd (omega (arith, within))
is_there n (head ∷ wants) within = tt

opens_for_first : (given : ℕ) (settings : LimitAndFirst) (moment : ℕ) (log : List Entry) → IsSoundAndQuiet settings log → last_moment log ≤ moment → length (open_connections log) + given ≤ limit_in_force settings log → given ≤ length (waiting log) → OpensForFirst given settings log (open_for_first given settings moment log)
opens_for_first zero settings moment log kept le room there = record { number_open = omega arith; as_many_idle = refl; first_start = refl; limit = refl }
opens_for_first (suc n) settings moment log kept le room there =
    let anyone = is_there n (waiting log) there in
    let place : length (open_connections log) < limit_in_force settings log = omega (arith, room) in
    let after = after_head settings log kept.sound moment le place in
    let settled = opened_for_head settings log kept.sound moment le kept.quiet.none_idle (λ anyone. place) in
    let opens = opens_for_head settings log kept.sound moment anyone place settled in
    let next = open_for_head settings moment log in
    let rest = opens_for_first n settings moment next settled after.later (omega (arith, room, after.limit, after.at_most)) (omega (arith, there, ap length opens.head_starts)) in
    record {
      number_open = omega (arith, rest.number_open, opens.one_more_open);
      as_many_idle = rest.as_many_idle ∙ opens.as_many_idle;
      first_start = rest.first_start ∙ sym (ap (drop (suc n)) opens.head_starts);
      limit = rest.limit ∙ after.limit;
    }

starts_due_within : (queued : Bool) (waiting_len room given : ℕ) → given ≤ (if queued then 0 else min waiting_len room) → (given ≤ waiting_len) × (given ≤ room)
starts_due_within true waiting_len room given within = (omega (arith, within), omega (arith, within))
starts_due_within false waiting_len room given within = (omega (arith, within), omega (arith, within))

pub limit_changes : (settings : LimitAndFirst) (log : List Entry) (n given now : ℕ) → IsSoundAndQuiet settings log → limit_refusal n log ≡ None → given ≤ starts_due (is_queued settings log) (kept_limit n) log → ChangesLimit (kept_limit n) (open_len log - kept_limit n) given settings log (after_limit (kept_limit n) given settings log now)
limit_changes settings log n given now kept allowed within =
    let m = moment_at log now in
    let most = kept_limit n in
    let young = without_picked (Above most) m log in
    let limited = add m (Limit most) young in
    let closed = closes_above settings log most now kept.sound in
    let so_many = picked_above log most m (limit_allows n log allowed) in
    let fits = starts_due_within (is_queued settings log) (length (waiting log)) (most - length (open_connections log)) given within in
    let sound = sound_limit settings young closed.sound m closed.later most (omega (arith, closed.open_fewer, so_many)) in
    let quiet = settled_by settings limited sound (still_none_idle settings _ _ log young closed kept.quiet.none_idle) in
    let first = opens_for_first given settings m limited quiet (omega arith) (omega (arith, closed.open_fewer, so_many, fits.1)) (omega (arith, fits.0, ap length closed.waiting)) in
    record {
      limit = first.limit;
      number_open = omega (arith, first.number_open, closed.open_fewer, so_many);
      number_idle = omega (arith, first.as_many_idle, closed.idle_fewer, so_many);
      first_start = first.first_start ∙ ap (drop given) closed.waiting;
      settled = kept_new_limit settings log n given now kept allowed within;
    }
