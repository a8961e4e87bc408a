-- Who has a lease or a ticket after a turn of a host, or after idle connections are closed, and the streams
-- that are kept.
use mathlib.Core.Bool.{false≢true}
use Rattle.std.proofs.Common.{◌≡◌, ℕ, zero, suc, ◌<◌, Bool, true, false, ◌||◌, List, is_some, [], ◌∷◌, Some, None, refl, sym, ap, subst, ◌∙◌, arith}
use Rattle.std.specs.Prelude.{◌==◌, if◌then◌else◌}
use Rattle.std.specs.List.{list_any}
use Rattle.budget.specs.declared.permits.Try.TheVariants.{Got}
use Rattle.bundle.specs.Seats.{Tables}
use Rattle.conn_log.specs.declared.entry.Want.{Want}
use Rattle.conn_log.specs.declared.entry.Cause.{Cause}
use Rattle.conn_log.specs.declared.entry.Cause.TheVariants.{NotPersistent, Cut, Forbidden, TooOld, HostRoom, TotalRoom, CacheFull, Dropped, Withdrawn, Pruned as ForPrune}
use Rattle.conn_log.specs.declared.entry.Event.TheVariants.{Closed}
use Rattle.conn_log.specs.declared.entry.Entry.{Entry}
use Rattle.conn_log.specs.Connections.{held_number, holder_want}
use Rattle.conn_log.specs.Waiting.{waiting, waits}
use Rattle.conn_log.specs.Fit.{oldest}
use Rattle.conn_log.specs.Legal.{LimitAndFirst}
use Rattle.conn_log.specs.Sound.{IsSound, is_of_idle}
use Rattle.conn_log.proofs.Holdings.{holder_closed}
use Rattle.host_state.specs.Steps.{add, moment_at, next_number, close_each, picked, without_picked}
use Rattle.host_state.specs.declared.closing.Closing.TheVariants.{Pruned}
use Rattle.host_state.specs.Idle.{stream_of}
use Rattle.host_state.specs.Queue.{waiting_want}
use Rattle.bundle.specs.declared.grant.Grant.{Grant}
use Rattle.host_state.specs.Calls.{last_start, start_new, open_for, open_for_head, open_for_first, is_queued, makes_room_for_others, GrowsBy}
use Rattle.bundle.specs.Grants.{grant_starts, grant_streams, GrantsKept, with_new, with_first}
use Rattle.host_state.specs.Laws.{IsSoundAndQuiet}
use Rattle.bundle.specs.Lease.{HostShown, KeepsAll}
use Rattle.host_state.specs.Bookings.{AreBooked}
use Rattle.host_state.proofs.Growth.{grows_turn, grows_evict, grows_prune}
use Rattle.host_state.proofs.Soundness.{held_want, kept_turn, kept_evict, kept_prune}
use Rattle.host_state.proofs.Transfers.{Told, told, same_told, granted_same, told_others, started_open, awaited_waits}
use Rattle.bundle.proofs.Granting.{Grants, grants_nothing, grants_then}
use Rattle.bundle.proofs.Passing.{new_unheld, grants_new}
use Rattle.bundle.proofs.Answering.{with_new_streams}

pub waits_told : (log after : List Entry) (t : ℕ) → told after t ≡ told log t → waits after t ≡ waits log t
waits_told log after t same = sym (awaited_waits t (waiting after)) ∙ ap (λ (told : Told). is_some told.awaited) same ∙ awaited_waits t (waiting log)

-- those whose acquire is halfway stay so, where the same is told of them
pub booked_same : (log after : List Entry) (booked : List ℕ) → ((t : ℕ) → waits log t ≡ false → told after t ≡ told log t) → AreBooked log booked → AreBooked after booked
booked_same log after [] same are = tt
booked_same log after (t ∷ others) same are =
    let it = same t are.1 in
    (ap (λ (told : Told). told.number) it ∙ are.0, waits_told log after t it ∙ are.1, are.2, booked_same log after others same are.3)

module _ {S : Type 0} (settings : LimitAndFirst) (moment : ℕ) where
  -- one is opened for each of the first that wait
  pub grants_first : (n : ℕ) (log : List Entry) → ((k : ℕ) → k < n → IsSound settings (open_for_first k settings moment log)) → (grants : List (Grant S)) → GrantsKept log grants → Grants log grants (open_for_first n settings moment log) (with_first n settings moment log grants)
  grants_first zero log sound grants kept = grants_nothing log log grants (λ u. refl) kept
  grants_first (suc n) log sound grants kept =
      let after = open_for_head settings moment log in
      let granted = with_new settings moment log (waiting log) grants in
      let one = grants_new settings log (sound 0 (omega arith)) grants kept moment in
      grants_then log grants after granted (open_for_first n settings moment after) (with_first n settings moment after granted) one (grants_first n after (λ k within. sound (suc k) (omega (arith, within))) granted one.kept)

  pub with_first_streams : (n : ℕ) (log : List Entry) (grants : List (Grant S)) (d : ℕ) → stream_of (grant_streams (with_first n settings moment log grants)) d ≡ stream_of (grant_streams grants) d
  with_first_streams zero log grants d = refl
  with_first_streams (suc n) log grants d = with_first_streams n (open_for_head settings moment log) (with_new settings moment log (waiting log) grants) d ∙ with_new_streams settings moment log (waiting log) grants d

-- the same is told of those that do not wait
told_turn : (settings : LimitAndFirst) (moment : ℕ) (log : List Entry) → IsSound settings log → (t : ℕ) → waits log t ≡ false → told (open_for_head settings moment log) t ≡ told log t
told_turn settings moment log sound t out = by_queue (waiting log) refl
  where
    first_is : (a b : Bool) → (a || b) ≡ false → a ≡ false
    first_is true b never = absurd (cc)
    first_is false b is = refl

    by_queue : (wants : List Want) → waiting log ≡ wants → told (open_for settings moment log wants) t ≡ told log t
    by_queue [] is = refl
    by_queue (head ∷ others) is =
        let none : waits_among (head ∷ others) ≡ false = ap waits_among (sym is) ∙ out in
        told_others settings log sound.orderly (record { number = next_number settings log; want = head; moment = moment; reused = false }) (new_unheld settings log sound) (start_new settings head moment log) (started_open moment (next_number settings log) head log) t (first_is (head.transfer == t) (waits_among others) none)
      where
        waits_among : List Want → Bool
        waits_among wants = list_any (λ (want : Want). want.transfer == t) wants

pub told_first : (settings : LimitAndFirst) (moment n : ℕ) (log : List Entry) → ((k : ℕ) → k < n → IsSound settings (open_for_first k settings moment log)) → (t : ℕ) → waits log t ≡ false → told (open_for_first n settings moment log) t ≡ told log t
told_first settings moment zero log sound t out = refl
told_first settings moment (suc n) log sound t out =
    let after = open_for_head settings moment log in
    let one = told_turn settings moment log (sound 0 (omega arith)) t out in
    told_first settings moment n after (λ k within. sound (suc k) (omega (arith, within))) t (waits_told log after t one ∙ out) ∙ one

-- closing tells of no other start, and of no holder that was not
closed_start : (cause : Cause) (moment : ℕ) (numbers : List ℕ) (log : List Entry) (t : ℕ) → last_start (close_each cause moment numbers log) t ≡ last_start log t
closed_start cause moment [] log t = refl
closed_start cause moment (c ∷ numbers) log t = closed_start cause moment numbers (add moment (Closed c cause) log) t

was_held : (moment c : ℕ) (cause : Cause) (log : List Entry) (d : ℕ) (want : Want) → holder_want (add moment (Closed c cause) log) d ≡ Some want → holder_want log d ≡ Some want
was_held moment c cause log d want is = by_number (c == d) (sym (holder_closed moment c cause log d) ∙ is)
  where
    by_number : (b : Bool) → (if b then None else holder_want log d) ≡ Some want → holder_want log d ≡ Some want
    by_number true never = absurd (cc)
    by_number false held = held

closed_holder : (cause : Cause) (moment : ℕ) (numbers : List ℕ) (log : List Entry) (d : ℕ) (want : Want) → holder_want (close_each cause moment numbers log) d ≡ Some want → holder_want log d ≡ Some want
closed_holder cause moment [] log d want is = is
closed_holder cause moment (c ∷ numbers) log d want is = was_held moment c cause log d want (closed_holder cause moment numbers (add moment (Closed c cause) log) d want is)

-- where idle connections are closed, the same is told of everyone
pub told_closed : (settings : LimitAndFirst) (log : List Entry) → IsSound settings log → (cause : Cause) (moment : ℕ) (numbers : List ℕ) → (let after = close_each cause moment numbers log in IsSound settings after → ((t : ℕ) → held_number after t ≡ held_number log t) → waiting after ≡ waiting log → (u : ℕ) → told after u ≡ told log u)
told_closed settings log before cause moment numbers sound same_held same_waiting u =
    let after = close_each cause moment numbers log in
    let granted = granted_same settings log before.orderly after u (same_held u) (λ d is.
    let held = held_want settings after sound u d (same_held u ∙ is) in
    held.1 ∙ sym (closed_holder cause moment numbers log d held.0 held.1)) in
    same_told _ _ _ _ _ _ _ _ (same_held u) granted (closed_start cause moment numbers log u) (ap (λ wants. waiting_want wants u) same_waiting)

-- what a turn leaves
pub record AfterTurn {S : Type 0} (settings : LimitAndFirst) (log after : List Entry) (grants granted : List (Grant S)) (booked : List ℕ) : Type 0 where
  pub settled : IsSoundAndQuiet settings after
  pub same : Grants log grants after granted
  pub halfway : AreBooked after booked
  pub streams : (d : ℕ) → stream_of (grant_streams granted) d ≡ stream_of (grant_streams grants) d
  pub grew : GrowsBy log after

pub turn_keeps : {S : Type 0} (settings settings' : LimitAndFirst) (log after : List Entry) (grants granted : List (Grant S)) (booked : List ℕ) (now moment : ℕ) → IsSoundAndQuiet settings log → is_queued settings log ≡ true → GrantsKept log grants → AreBooked log booked → settings' ≡ settings → moment ≡ moment_at log now → after ≡ open_for_head settings moment log → granted ≡ with_new settings moment log (waiting log) grants → AfterTurn settings' log after grants granted booked
turn_keeps settings settings' log after grants granted booked now moment kept queued grants_kept are same_settings same_moment is_after is_granted =
    let turned = open_for_head settings moment log in
    let settled : IsSoundAndQuiet settings turned = subst (λ k. IsSoundAndQuiet settings (open_for_head settings k log)) (sym same_moment) (kept_turn Got settings log now kept queued) in
    let grew : GrowsBy log turned = subst (λ k. GrowsBy log (open_for_head settings k log)) (sym same_moment) (grows_turn Got settings log now) in
    let all = grants_new settings log kept.sound grants grants_kept moment in
    record {
      settled = subst (λ s. IsSoundAndQuiet s after) (sym same_settings) (subst (λ l. IsSoundAndQuiet settings l) (sym is_after) settled);
      same = subst (λ l. Grants log grants l granted) (sym is_after) (subst (λ gs. Grants log grants turned gs) (sym is_granted) all);
      halfway = subst (λ l. AreBooked l booked) (sym is_after) (booked_same log turned booked (told_turn settings moment log kept.sound) are);
      streams = λ d. ap (λ gs. stream_of (grant_streams gs) d) is_granted ∙ with_new_streams settings moment log (waiting log) grants d;
      grew = subst (λ l. GrowsBy log l) (sym is_after) grew;
    }

-- what closing idle ones leaves
pub record AfterClosings {S : Type 0} (settings : LimitAndFirst) (log after : List Entry) (grants : List (Grant S)) (booked : List ℕ) : Type 0 where
  pub settled : IsSoundAndQuiet settings after
  pub same : Grants log grants after grants
  pub halfway : AreBooked after booked
  pub grew : GrowsBy log after

closings_keep : {S : Type 0} (settings : LimitAndFirst) (log : List Entry) → IsSound settings log → (cause : Cause) (moment : ℕ) (numbers : List ℕ) → (let after = close_each cause moment numbers log in (grants : List (Grant S)) (booked : List ℕ) → GrantsKept log grants → AreBooked log booked → IsSoundAndQuiet settings after → ((t : ℕ) → held_number after t ≡ held_number log t) → waiting after ≡ waiting log → GrowsBy log after → AfterClosings settings log after grants booked)
closings_keep settings log before cause moment numbers grants booked grants_kept are settled same_held same_waiting grew =
    let after = close_each cause moment numbers log in
    let same = told_closed settings log before cause moment numbers settled.sound same_held same_waiting in
    record {
      settled = settled;
      same = grants_nothing log after grants same grants_kept;
      halfway = booked_same log after booked (λ t out. same t) are;
      grew = grew;
    }

-- what makes room for others is idle
pub of_idle_for_others : (cause : Cause) → makes_room_for_others cause ≡ true → is_of_idle cause ≡ true
of_idle_for_others NotPersistent fits = absurd (false≢true fits)
of_idle_for_others Cut fits = absurd (false≢true fits)
of_idle_for_others Forbidden fits = absurd (false≢true fits)
of_idle_for_others TooOld fits = refl
of_idle_for_others HostRoom fits = refl
of_idle_for_others TotalRoom fits = refl
of_idle_for_others CacheFull fits = refl
of_idle_for_others Dropped fits = absurd (false≢true fits)
of_idle_for_others Withdrawn fits = absurd (false≢true fits)
of_idle_for_others ForPrune fits = refl

module _ {S : Type 0} (settings settings' : LimitAndFirst) (log after : List Entry) (grants : List (Grant S)) (booked : List ℕ) (now moment : ℕ) (kept : IsSoundAndQuiet settings log) (grants_kept : GrantsKept log grants) (are : AreBooked log booked) (same_settings : settings' ≡ settings) (same_moment : moment ≡ moment_at log now) (same_held : (t : ℕ) → held_number after t ≡ held_number log t) (same_waiting : waiting after ≡ waiting log) where
  at_settings : AfterClosings settings log after grants booked → AfterClosings settings' log after grants booked
  at_settings closings = subst (λ s. AfterClosings s log after grants booked) (sym same_settings) closings

  pub evict_keeps : (c : ℕ) (cause : Cause) → oldest log ≡ Some c → is_of_idle cause ≡ true → after ≡ add moment (Closed c cause) log → AfterClosings settings' log after grants booked
  evict_keeps c cause first fits is =
      let now_is : after ≡ add (moment_at log now) (Closed c cause) log = is ∙ ap (λ k. add k (Closed c cause) log) same_moment in
      let closed = add (moment_at log now) (Closed c cause) log in
      let held : (t : ℕ) → held_number closed t ≡ held_number log t = λ t. ap (λ l. held_number l t) (sym now_is) ∙ same_held t in
      at_settings (subst (λ l. AfterClosings settings log l grants booked) (sym now_is) (closings_keep settings log kept.sound cause (moment_at log now) (c ∷ []) grants booked grants_kept are (kept_evict settings log c cause now kept first fits) held refl (grows_evict log c cause now)))

  pub prune_keeps : (max_age max_life : ℕ) → after ≡ without_picked (Pruned max_age max_life) moment log → AfterClosings settings' log after grants booked
  prune_keeps max_age max_life is =
      let now_is : after ≡ without_picked (Pruned max_age max_life) (moment_at log now) log = is ∙ ap (λ k. without_picked (Pruned max_age max_life) k log) same_moment in
      let closed = without_picked (Pruned max_age max_life) (moment_at log now) log in
      let held : (t : ℕ) → held_number closed t ≡ held_number log t = λ t. ap (λ l. held_number l t) (sym now_is) ∙ same_held t in
      let waits_same : waiting closed ≡ waiting log = ap waiting (sym now_is) ∙ same_waiting in
      at_settings (subst (λ l. AfterClosings settings log l grants booked) (sym now_is) (closings_keep settings log kept.sound ForPrune (moment_at log now) (picked (Pruned max_age max_life) (moment_at log now) log) grants booked grants_kept are (kept_prune settings log max_age max_life now kept) held waits_same (grows_prune log max_age max_life now)))

-- who has a lease or a ticket is who had it, seen from outside
pub keeps_at : {S : Type 0} (inner outer after : HostShown S) → inner ≡ outer → KeepsAll inner after → KeepsAll outer after
keeps_at inner outer after same keeps = subst (λ v. KeepsAll v after) same keeps

pub grows_at : (log outer after : List Entry) → log ≡ outer → GrowsBy log after → GrowsBy outer after
grows_at log outer after same grew = subst (λ l. GrowsBy l after) same grew

-- who has a lease or a ticket is who had it
pub grants_keep : {S : Type 0} (log : List Entry) (grants : List (Grant S)) (after : List Entry) (granted : List (Grant S)) (settings settings' : LimitAndFirst) (host host' : ℕ) (streams streams' : List (ℕ × S)) (booked booked' : List ℕ) (tables tables' : Tables) (cut_away cut_away' : ℕ) → Grants log grants after granted → KeepsAll (record { log = log; cut_away = cut_away; settings = settings; host = host; streams = streams; unclaimed = grant_starts grants; booked = booked; tables = tables }) (record { log = after; cut_away = cut_away'; settings = settings'; host = host'; streams = streams'; unclaimed = grant_starts granted; booked = booked'; tables = tables' })
grants_keep log grants after granted settings settings' host host' streams streams' booked booked' tables tables' cut_away cut_away' same = record { leases = same.leases; tickets = same.tickets }
