-- Whether a host is queued after a call, from whether it was queued before.
use Rattle.std.proofs.Common.{◌≡◌, ℕ, ◌≤◌, Bool, true, false, not, ◌&&◌, List, [], ◌∷◌, ◌++◌, length, Option, Some, None, is_some, refl, sym, ap, ◌∙◌, arith}
use Rattle.std.specs.Prelude.{◌==◌, if◌then◌else◌}
use mathlib.Core.Bool.{false≢true}
use Rattle.std.proofs.lemmas.Bool.Decides.{nat_tests}
use Rattle.persistence.specs.declared.facts.Facts.{Facts}
use Rattle.persistence.specs.Persistent.{is_persistent}
use Rattle.budget.specs.declared.permits.Try.{Try}
use Rattle.budget.specs.declared.permits.Try.TheVariants.{Got, Full, Contended}
use Rattle.conn_log.specs.declared.entry.Want.{Want}
use Rattle.conn_log.specs.declared.entry.Cause.{Cause}
use Rattle.conn_log.specs.declared.entry.Cause.TheVariants.{HostRoom, CacheFull, Dropped, Withdrawn}
use Rattle.conn_log.specs.declared.entry.Event.TheVariants.{Leased, Returned, Closed, Left}
use Rattle.conn_log.specs.declared.entry.Entry.{Entry}
use Rattle.conn_log.specs.Connections.{last_moment, open_connections, idle_connections, is_among, is_idle, holder_want, held_number}
use Rattle.conn_log.specs.Waiting.{waiting, waits, without}
use Rattle.conn_log.specs.Fit.{is_fit, is_idle_longer, newest_fit, oldest}
use Rattle.conn_log.specs.Legal.{LimitAndFirst, limit_in_force, ends_use, ending_cause, IsAnyone}
use Rattle.conn_log.specs.Sound.{IsSound, is_of_holder}
use Rattle.conn_log.proofs.Steps.{IsGone, idle_open_unheld, fewer_open, gone_closed, gone_ended}
use Rattle.conn_log.proofs.Firsts.{first_among}
use Rattle.conn_log.proofs.Soundness.{sound_return, sound_end, sound_drop, sound_close, idle_may_close}
use Rattle.host_state.specs.declared.closing.Closing.TheVariants.{TooOld, Pruned}
use Rattle.host_state.specs.Steps.{moment_at, add, without_picked, is_full}
use Rattle.host_state.specs.Calls.{start_new, start_in_place_of, start_in_place, start_as_told, start_on, start, start_behind, acquired, open_for, open_for_head, unfit_cause, grant_to, settle, returned, after_give_back, is_anyone, becomes_idle, after_close, after_abandon, close_granted, after_withdraw, is_queued}
use Rattle.host_state.specs.Laws.{IsSoundAndQuiet}
use Rattle.host_state.proofs.Soundness.{anyone_is, someone, waits_someone, later, held_want, gone_room, head_open, only_idle, IsOnlyIdle, unfit_is_of_idle, stays_persistent, idle_nobody, after_closing, closes_pruned}

-- it is not queued where nobody waits, or where it is full
pub unqueued_nobody : (settings : LimitAndFirst) (log : List Entry) → waiting log ≡ [] → is_queued settings log ≡ false
unqueued_nobody settings log nobody = ap (λ wants. is_anyone wants && not (is_full settings log)) nobody

full_unqueued : (anyone full : Bool) → full ≡ true → (anyone && not full) ≡ false
full_unqueued anyone full is = grind (arith, is)

pub unqueued_full : (settings : LimitAndFirst) (log : List Entry) → length (open_connections log) ≡ limit_in_force settings log → is_queued settings log ≡ false
unqueued_full settings log full = full_unqueued (is_anyone (waiting log)) (is_full settings log) (same (length (open_connections log)) (limit_in_force settings log) full)
  where
    same : (a b : ℕ) → a ≡ b → (a == b) ≡ true
    same a b is = grind (arith, nat_tests, is)

-- where one waits at a host that is not queued, it is full
pub unqueued_is_full : (settings : LimitAndFirst) (log : List Entry) → is_queued settings log ≡ false → IsAnyone (waiting log) → length (open_connections log) ≡ limit_in_force settings log
unqueued_is_full settings log unqueued anyone = full_is (length (open_connections log)) (limit_in_force settings log) (sym (ap (λ b. b && not (is_full settings log)) (anyone_is (waiting log) anyone)) ∙ unqueued)
  where
    full_is : (a b : ℕ) → not (a == b) ≡ false → a ≡ b
    full_is a b e = grind (arith, nat_tests, e)

-- a start where nobody waits: it is queued only where the budget had no room at the last try
module _ (settings : LimitAndFirst) (want : Want) (m : ℕ) where
  opened_unqueued : (log : List Entry) → waiting log ≡ [] → is_queued settings (start_new settings want m log) ≡ false
  opened_unqueued log nobody = unqueued_nobody settings (start_new settings want m log) (ap (without want.transfer) nobody)

  in_place_unqueued : (log : List Entry) → waiting log ≡ [] → (cause : Cause) → is_full settings log ≡ true → (first : Option ℕ) → is_queued settings (start_in_place_of first cause settings want m log).log ≡ false
  in_place_unqueued log nobody cause full None = full_unqueued (is_anyone (waiting log ++ want ∷ [])) (is_full settings log) full
  in_place_unqueued log nobody cause full (Some c) = opened_unqueued (add m (Closed c cause) log) nobody

  told_unqueued : (log : List Entry) → waiting log ≡ [] → (is_last : Bool) (told : Try) → is_last ≡ false → is_queued settings (start_as_told is_last told settings want m log).log ≡ false
  told_unqueued log nobody is_last Got first = opened_unqueued log nobody
  told_unqueued log nobody is_last Contended first = unqueued_nobody settings log nobody
  told_unqueued log nobody false Full first = unqueued_nobody settings log nobody
  told_unqueued log nobody true Full first = absurd (false≢true (sym first))

  start_unqueued : (log : List Entry) → waiting log ≡ [] → (is_last : Bool) (told : Try) → is_last ≡ false → is_queued settings (start is_last told settings want m log).log ≡ false
  start_unqueued log nobody is_last told first = by_fit (newest_fit log want m)
    where
      by_room : (full : Bool) → is_full settings log ≡ full → is_queued settings (if full then start_in_place HostRoom settings want m log else start_as_told is_last told settings want m log).log ≡ false
      by_room true is = in_place_unqueued log nobody HostRoom is (oldest log)
      by_room false is = told_unqueued log nobody is_last told first

      by_fit : (fit : Option ℕ) → is_queued settings (start_on fit is_last told settings want m log).log ≡ false
      by_fit (Some c) = unqueued_nobody settings (add m (Leased c want) log) (ap (without want.transfer) nobody)
      by_fit None = by_room (is_full settings log) refl

-- an acquire but the last try leaves the mark
pub mark_acquired : (is_last : Bool) (told : Try) (settings : LimitAndFirst) (log : List Entry) (want : Want) (now : ℕ) → IsSoundAndQuiet settings log → held_number log want.transfer ≡ None → waits log want.transfer ≡ false → is_last ≡ false → is_queued settings (acquired is_last told settings log want now).log ≡ is_queued settings log
mark_acquired is_last told settings log want now kept free new first = by_queue (waiting log) refl
  where
    by_queue : (wants : List Want) → waiting log ≡ wants → is_queued settings (start_behind wants is_last told settings want (moment_at log now) log).log ≡ is_queued settings log
    by_queue [] is =
        let m = moment_at log now in
        let closed = after_closing settings log want now kept.sound free is in
        start_unqueued settings want m (without_picked (TooOld want) m log) closed.nobody is_last told first ∙ sym (unqueued_nobody settings log is)
    by_queue (head ∷ others) is = ap (λ wants. is_anyone (wants ++ want ∷ []) && not (is_full settings log)) is ∙ sym (ap (λ wants. is_anyone wants && not (is_full settings log)) is)

-- one is opened for the first that waits: as many are open as before what was held was gone
gone_unqueued : (settings : LimitAndFirst) (log : List Entry) → IsSound settings log → is_queued settings log ≡ false → (c : ℕ) → is_some (holder_want log c) ≡ true → (after : List Entry) → IsGone c log after → IsSound settings after → (m : ℕ) → is_queued settings (open_for_head settings m after) ≡ false
gone_unqueued settings log sound unqueued c held after gone sound_after m = by_queue (waiting after) refl
  where
    by_queue : (wants : List Want) → waiting after ≡ wants → is_queued settings (open_for settings m after wants) ≡ false
    by_queue [] is = unqueued_nobody settings after is
    by_queue (head ∷ others) is =
        let full = unqueued_is_full settings log unqueued (someone log head others (sym gone.waiting ∙ is)) in
        let fewer = fewer_open settings log sound.orderly c after gone (sound.orderly.held_open c held) in
        let more = head_open settings after sound_after m head others is (gone_room settings log sound c held after gone) in
        unqueued_full settings (start_new settings head m after) (more ∙ sym fewer ∙ full ∙ sym (gone.limit settings))

-- what came back goes to the first that waits, or makes room for a new one
passed_unqueued : (settings : LimitAndFirst) (log : List Entry) → IsSound settings log → length (open_connections log) ≡ limit_in_force settings log → (c m : ℕ) → (head : Want) (others : List Want) → last_moment log ≤ m → waiting log ≡ head ∷ others → IsOnlyIdle log c → (fits : Bool) → is_queued settings (if fits then add m (Leased c head) log else start_new settings head m (add m (Closed c (unfit_cause settings log head m c)) log)) ≡ false
passed_unqueued settings log sound full c m head others le is alone true = unqueued_full settings (add m (Leased c head) log) full
passed_unqueued settings log sound full c m head others le is alone false =
    let idle : is_idle log c ≡ true = ap (is_among c) alone.only ∙ grind (arith, nat_tests) in
    let cause = unfit_cause settings log head m c in
    let after = add m (Closed c cause) log in
    let closed = sound_close settings log sound m le c cause (idle_may_close log c cause (unfit_is_of_idle settings log head m c) sound.settled idle) idle in
    let open_unheld = idle_open_unheld log c idle in
    let fewer = fewer_open settings log sound.orderly c after (gone_closed m c cause log) open_unheld.0 in
    let more = head_open settings after closed m head others is (omega (arith, fewer, full)) in
    unqueued_full settings (start_new settings head m after) (more ∙ sym fewer ∙ full)

-- a host that is not queued is not queued after what was held is given back
pub mark_give_back : (settings : LimitAndFirst) (log : List Entry) (transfer c : ℕ) (facts : Facts) (now : ℕ) → IsSoundAndQuiet settings log → held_number log transfer ≡ Some c → is_queued settings log ≡ false → is_queued settings (after_give_back settings log c facts now) ≡ false
mark_give_back settings log transfer c facts now kept held unqueued =
    let m = moment_at log now in
    let w = held_want settings log kept.sound transfer c held in
    rw w.1 (by_end m w.0 w.1 (later log now) (ends_use facts w.0) refl)
  where
    by_queue : (m : ℕ) (w : Want) → holder_want log c ≡ Some w → last_moment log ≤ m → ends_use facts w ≡ false → (wants : List Want) → waiting log ≡ wants → is_queued settings (grant_to settings c m (add m (Returned c facts) log) wants) ≡ false
    by_queue m w is le stays [] nobody = unqueued_nobody settings (add m (Returned c facts) log) nobody
    by_queue m w is le stays (head ∷ others) queue =
        let anyone = someone log head others queue in
        let back = add m (Returned c facts) log in
        let alone = only_idle settings log kept c (ap is_some is) m facts anyone (stays_persistent (is_persistent facts) w.forbid_reuse stays) in
        passed_unqueued settings back (sound_return settings log kept.sound m le c facts w is stays) (unqueued_is_full settings log unqueued anyone) c m head others (omega arith) queue alone (is_fit back head m c)

    by_end : (m : ℕ) (w : Want) → holder_want log c ≡ Some w → last_moment log ≤ m → (ends : Bool) → ends_use facts w ≡ ends → is_queued settings (settle settings c m (add m (Returned c facts) log) (if ends then Some (c, ending_cause facts w) else None)) ≡ false
    by_end m w is le true ends = gone_unqueued settings log kept.sound unqueued c (ap is_some is) _ (gone_ended m c facts (ending_cause facts w) log) (sound_end settings log kept.sound m le c facts w is ends) m
    by_end m w is le false stays = by_queue m w is le stays (waiting log) refl

-- where it is to be idle nobody waits, so neither is it queued once that is closed at once
pub mark_unkept : (settings : LimitAndFirst) (log : List Entry) (c : ℕ) (facts : Facts) (now : ℕ) → becomes_idle log c facts now ≡ true → is_queued settings (add (moment_at log now) (Closed c CacheFull) (returned log c facts now)) ≡ false
mark_unkept settings log c facts now idle = unqueued_nobody settings (add (moment_at log now) (Closed c CacheFull) (returned log c facts now)) (idle_nobody log c facts now idle)

-- after what was held is closed, or abandoned
pub mark_close : (settings : LimitAndFirst) (log : List Entry) (transfer c : ℕ) (cause : Cause) (now : ℕ) → is_of_holder cause ≡ true → IsSoundAndQuiet settings log → held_number log transfer ≡ Some c → is_queued settings log ≡ false → is_queued settings (after_close settings log c cause now) ≡ false
mark_close settings log transfer c cause now fits kept held unqueued =
    let m = moment_at log now in
    let w = held_want settings log kept.sound transfer c held in
    let someones = ap is_some w.1 in
    gone_unqueued settings log kept.sound unqueued c someones (add m (Closed c cause) log) (gone_closed m c cause log) (sound_drop settings log kept.sound m (later log now) c cause fits someones) m

pub mark_abandon : (settings : LimitAndFirst) (log : List Entry) (transfer c now : ℕ) → IsSoundAndQuiet settings log → held_number log transfer ≡ Some c → is_queued settings log ≡ false → is_queued settings (after_abandon settings log c now) ≡ false
mark_abandon settings log transfer c now kept held unqueued = mark_close settings log transfer c Dropped now refl kept held unqueued

-- and after a ticket is withdrawn
pub mark_withdraw : (settings : LimitAndFirst) (log : List Entry) (transfer now : ℕ) → IsSoundAndQuiet settings log → is_queued settings log ≡ false → is_queued settings (after_withdraw settings log transfer now) ≡ false
mark_withdraw settings log transfer now kept unqueued = by_wait (waits log transfer) refl
  where
    by_number : (held : Option ℕ) → held_number log transfer ≡ held → is_queued settings (close_granted settings log held now) ≡ false
    by_number None is = unqueued
    by_number (Some c) is = mark_close settings log transfer c Withdrawn now refl kept is unqueued

    by_wait : (waits_here : Bool) → waits log transfer ≡ waits_here → is_queued settings (if waits_here then add (moment_at log now) (Left transfer) log else close_granted settings log (held_number log transfer) now) ≡ false
    by_wait false is = by_number (held_number log transfer) refl
    by_wait true is = unqueued_full settings (add (moment_at log now) (Left transfer) log) (unqueued_is_full settings log unqueued (waits_someone transfer (waiting log) is))

-- what is idle is closed only where nobody waits, so an eviction and a prune leave the mark
nobody_beside : (settings : LimitAndFirst) (log : List Entry) → IsSoundAndQuiet settings log → (c : ℕ) → is_idle log c ≡ true → waiting log ≡ []
nobody_beside settings log kept c idle = none_there (waiting log) refl
  where
    none_there : (wants : List Want) → waiting log ≡ wants → waiting log ≡ []
    none_there [] is = is
    none_there (head ∷ others) is = absurd (false≢true (sym (ap (is_among c) (kept.quiet.none_idle (someone log head others is))) ∙ idle))

pub mark_evict : (settings : LimitAndFirst) (log : List Entry) (c : ℕ) (cause : Cause) (now : ℕ) → IsSoundAndQuiet settings log → oldest log ≡ Some c → is_queued settings (add (moment_at log now) (Closed c cause) log) ≡ is_queued settings log
mark_evict settings log c cause now kept first =
    let nobody = nobody_beside settings log kept c (first_among (is_idle_longer log) (idle_connections log) c first) in
    unqueued_nobody settings (add (moment_at log now) (Closed c cause) log) nobody ∙ sym (unqueued_nobody settings log nobody)

pub mark_prune : (settings : LimitAndFirst) (log : List Entry) (max_age max_life now : ℕ) → IsSoundAndQuiet settings log → is_queued settings (without_picked (Pruned max_age max_life) (moment_at log now) log) ≡ is_queued settings log
mark_prune settings log max_age max_life now kept = by_queue (waiting log) refl
  where
    by_queue : (wants : List Want) → waiting log ≡ wants → is_queued settings (without_picked (Pruned max_age max_life) (moment_at log now) log) ≡ is_queued settings log
    by_queue [] is =
        let closed = closes_pruned settings log max_age max_life now kept.sound in
        unqueued_nobody settings (without_picked (Pruned max_age max_life) (moment_at log now) log) (closed.waiting ∙ is) ∙ sym (unqueued_nobody settings log is)
    by_queue (head ∷ others) is =
        let m = moment_at log now in
        let closed = closes_pruned settings log max_age max_life now kept.sound in
        let none = kept.quiet.none_idle (someone log head others is) in
        let as_many : length (open_connections (without_picked (Pruned max_age max_life) m log)) ≡ length (open_connections log) = omega (arith, closed.open_fewer, closed.idle_fewer, ap length none) in
        rw (closed.waiting, as_many, closed.limit) refl
