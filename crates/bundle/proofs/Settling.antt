-- What a host holds once a transfer gave back or closed what it held, and the first that waits was served.
use Rattle.std.proofs.Common.{◌≡◌, ℕ, Bool, true, false, List, [], ◌∷◌, ◌++◌, Some, None, is_some, refl, sym, ap, subst, ◌∙◌, arith}
use Rattle.std.specs.Prelude.{◌==◌, if◌then◌else◌}
use Rattle.std.specs.Option.{option_and_then}
use mathlib.Core.Bool.{false≢true}
use Rattle.persistence.specs.declared.facts.Facts.{Facts}
use Rattle.persistence.specs.Persistent.{is_persistent}
use Rattle.budget.specs.Lobby.{Queue}
use Rattle.conn_log.specs.declared.entry.Want.{Want}
use Rattle.conn_log.specs.declared.entry.Cause.{Cause}
use Rattle.conn_log.specs.declared.entry.Cause.TheVariants.{CacheFull, Withdrawn}
use Rattle.conn_log.specs.declared.entry.Event.TheVariants.{Returned, Closed, Left}
use Rattle.conn_log.specs.declared.entry.Entry.{Entry}
use Rattle.conn_log.specs.Connections.{is_open, idle_connections, held_number, holder_want}
use Rattle.conn_log.specs.Waiting.{waiting, waits}
use Rattle.conn_log.specs.Legal.{LimitAndFirst, IsAnyone, owed, owed_for}
use Rattle.conn_log.specs.Sound.{IsOrderly, IsSound, is_of_holder, held_facts}
use Rattle.conn_log.proofs.Steps.{gone_closed, gone_ended}
use Rattle.conn_log.proofs.Soundness.{sound_return, sound_end, sound_drop}
use Rattle.bundle.specs.declared.grant.Grant.{Grant}
use Rattle.host_state.specs.declared.held.Held.{Held}
use Rattle.host_state.specs.Steps.{add, moment_at, is_full}
use Rattle.host_state.specs.Calls.{open_for_head, grant_to, settle, close_granted, after_withdraw, returned, becomes_idle, is_queued, GrowsBy}
use Rattle.bundle.specs.Grants.{without_grant, grant_streams, GrantsKept, with_new, with_granted, IsAlone}
use Rattle.host_state.specs.Idle.{stream_of}
use Rattle.host_state.specs.Orders.{IsMarked}
use Rattle.host_state.specs.Laws.{IsSoundAndQuiet}
use Rattle.host_state.specs.State.{facts_of_held}
use Rattle.host_state.proofs.Soundness.{later, held_want, only_idle, stays_persistent, kept_close, kept_give_back, kept_unkept}
use Rattle.host_state.proofs.Growth.{grows_same, grows_by_one, grows_close, grows_give_back}
use Rattle.host_state.proofs.Marks.{mark_close, mark_give_back, mark_unkept}
use Rattle.host_state.proofs.Transfers.{freed_closed, freed_returned, freed_ended}
use Rattle.bundle.proofs.Granting.{Freed, Grants, frees, freed_then, stream_of-without}
use Rattle.bundle.proofs.Passing.{grants_new, grants_passed}
use Rattle.bundle.proofs.Answering.{known, came_back_alone, both_same, with_new_streams, with_granted_streams, passed_stream, freed_stream, closed_not_open, left_freed}
use Rattle.host_state.proofs.EndsOfUses.{room_gone, owed_ends, owed_stays, holder_waits_not}

module _ {S : Type 0} where
  -- the host after it: sound and quiet, with each grant kept, and the streams of the others
  pub record Settled (settings : LimitAndFirst) (log : List Entry) (grants : List (Grant S)) (streams : List (ℕ × S)) (t c : ℕ) (after : List Entry) (left : List (Grant S)) (kept_streams : List (ℕ × S)) : Type 0 where
    pub settled : IsSoundAndQuiet settings after
    pub freed : Freed t log grants after left
    pub grew : GrowsBy log after
    pub mark : is_queued settings log ≡ false → is_queued settings after ≡ false
    pub others : (d : ℕ) → (c == d) ≡ false → is_open after d ≡ true → stream_of (grant_streams left ++ kept_streams) d ≡ stream_of (grant_streams grants ++ streams) d

  moved : (settings : LimitAndFirst) (log : List Entry) (grants : List (Grant S)) (streams : List (ℕ × S)) (t c n : ℕ) (closed' : List Entry) → Settled settings log grants streams t c (open_for_head settings n closed') (with_new settings n closed' (waiting closed') (without_grant t grants)) streams → (settings' : LimitAndFirst) → settings' ≡ settings → (m : ℕ) → m ≡ n → (closed : List Entry) → closed ≡ closed' → (left : List (Grant S)) → left ≡ without_grant t grants → (after : List Entry) → after ≡ open_for_head settings' m closed → (granted : List (Grant S)) → granted ≡ with_new settings' m closed (waiting closed) left → (streams' : List (ℕ × S)) → streams' ≡ streams → Settled settings log grants streams t c after granted streams'
  moved settings log grants streams t c n closed' base settings' e_terms m e_m closed e_closed left e_left after e_after granted e_granted streams' e_streams =
      let after_is : after ≡ open_for_head settings n closed' = e_after ∙ ap (λ tm. open_for_head tm m closed) e_terms ∙ ap (λ k. open_for_head settings k closed) e_m ∙ ap (open_for_head settings n) e_closed in
      let granted_is : granted ≡ with_new settings n closed' (waiting closed') (without_grant t grants) = e_granted ∙ ap (λ tm. with_new tm m closed (waiting closed) left) e_terms ∙ ap (λ k. with_new settings k closed (waiting closed) left) e_m ∙ ap (λ l. with_new settings n l (waiting l) left) e_closed ∙ ap (with_new settings n closed' (waiting closed')) e_left in
      let first = subst (λ l. Settled settings log grants streams t c l (with_new settings n closed' (waiting closed') (without_grant t grants)) streams) (sym after_is) base in
      let second = subst (λ gs. Settled settings log grants streams t c after gs streams) (sym granted_is) first in
      subst (λ ss. Settled settings log grants streams t c after granted ss) (sym e_streams) second

  module _ (settings : LimitAndFirst) (log : List Entry) (grants : List (Grant S)) (kept : IsSoundAndQuiet settings log) (grants_kept : GrantsKept log grants) (streams : List (ℕ × S)) (t c : ℕ) (mine : held_number log t ≡ Some c) (now : ℕ) where
    holder : (want : Want) × (holder_want log c ≡ Some want)
    holder = held_want settings log kept.sound t c mine

    others_new : (closed : List Entry) (d : ℕ) → (c == d) ≡ false → stream_of (grant_streams (with_new settings (moment_at log now) closed (waiting closed) (without_grant t grants)) ++ streams) d ≡ stream_of (grant_streams grants ++ streams) d
    others_new closed d other =
        both_same (grant_streams (with_new settings (moment_at log now) closed (waiting closed) (without_grant t grants))) (grant_streams grants) streams streams d (with_new_streams settings (moment_at log now) closed (waiting closed) (without_grant t grants) d ∙ stream_of-without log grants t c d grants_kept mine other) refl

    -- it was closed, and one was opened for the first that waits
    closed_out : (cause : Cause) → is_of_holder cause ≡ true → (let closed = add (moment_at log now) (Closed c cause) log in Settled settings log grants streams t c (open_for_head settings (moment_at log now) closed) (with_new settings (moment_at log now) closed (waiting closed) (without_grant t grants)) streams)
    closed_out cause fits =
        let closed = add (moment_at log now) (Closed c cause) log in
        let sound = sound_drop settings log kept.sound (moment_at log now) (later log now) c cause fits (ap is_some holder.1) in
        let freed = frees settings log kept.sound.orderly grants grants_kept c t mine closed (freed_closed (moment_at log now) c cause log kept.sound.orderly.transfers_once) in
        record {
          settled = kept_close settings log t c cause now fits kept mine;
          freed = freed_then t log grants closed (without_grant t grants) (open_for_head settings (moment_at log now) closed) (with_new settings (moment_at log now) closed (waiting closed) (without_grant t grants)) freed (grants_new settings closed sound (without_grant t grants) freed.kept (moment_at log now));
          grew = grows_close settings log c cause now;
          mark = mark_close settings log t c cause now fits kept mine;
          others = λ d other still. others_new closed d other;
        }

    -- its use ended, and one was opened for the first that waits
    ended_out : (facts : Facts) (cause : Cause) → owed (add (moment_at log now) (Returned c facts) log) ≡ Some (c, cause) → (let closed = add (moment_at log now) (Closed c cause) (add (moment_at log now) (Returned c facts) log) in Settled settings log grants streams t c (open_for_head settings (moment_at log now) closed) (with_new settings (moment_at log now) closed (waiting closed) (without_grant t grants)) streams)
    ended_out facts cause owes =
        let returned = add (moment_at log now) (Returned c facts) log in
        let closed = add (moment_at log now) (Closed c cause) returned in
        let ends = owed_ends c facts cause holder.0 (sym (ap (option_and_then (owed_for c facts)) holder.1) ∙ owes) in
        let sound = subst (λ (r : Cause). IsSound settings (add (moment_at log now) (Closed c r) returned)) ends.1 (sound_end settings log kept.sound (moment_at log now) (later log now) c facts holder.0 holder.1 ends.0) in
        let freed = frees settings log kept.sound.orderly grants grants_kept c t mine closed (freed_ended (moment_at log now) c facts cause log kept.sound.orderly.transfers_once) in
        record {
          settled = subst (λ l. IsSoundAndQuiet settings l) (ap (settle settings c (moment_at log now) returned) owes) (kept_give_back settings log t c facts now kept mine);
          freed = freed_then t log grants closed (without_grant t grants) (open_for_head settings (moment_at log now) closed) (with_new settings (moment_at log now) closed (waiting closed) (without_grant t grants)) freed (grants_new settings closed sound (without_grant t grants) freed.kept (moment_at log now));
          grew = subst (λ l. GrowsBy log l) (ap (settle settings c (moment_at log now) returned) owes) (grows_give_back settings log c facts now);
          mark = λ unmarked. ap (is_queued settings) (sym (ap (settle settings c (moment_at log now) returned) owes)) ∙ mark_give_back settings log t c facts now kept mine unmarked;
          others = λ d other still. others_new closed d other;
        }

    -- it came back, and went to the first that waits
    passed_out : (facts : Facts) (stream : S) (xs ys : List (ℕ × S)) → owed (add (moment_at log now) (Returned c facts) log) ≡ None → stream_of xs c ≡ Some stream → (let returned = add (moment_at log now) (Returned c facts) log in ((d : ℕ) → (c == d) ≡ false → is_open (grant_to settings c (moment_at log now) returned (waiting returned)) d ≡ true → stream_of ys d ≡ stream_of streams d) → Settled settings log grants streams t c (grant_to settings c (moment_at log now) returned (waiting returned)) (with_granted settings c (moment_at log now) (stream_of xs c) returned (waiting returned) (without_grant t grants)) ys)
    passed_out facts stream xs ys unowed kept_is others =
        let returned = add (moment_at log now) (Returned c facts) log in
        let left = without_grant t grants in
        let after = grant_to settings c (moment_at log now) returned (waiting returned) in
        let stays = owed_stays c facts holder.0 (sym (ap (option_and_then (owed_for c facts)) holder.1) ∙ unowed) in
        let persists = stays_persistent (is_persistent facts) holder.0.forbid_reuse stays in
        let sound = sound_return settings log kept.sound (moment_at log now) (later log now) c facts holder.0 holder.1 stays in
        let freed = frees settings log kept.sound.orderly grants grants_kept c t mine returned (freed_returned (moment_at log now) c facts log kept.sound.orderly.transfers_once) in
        let passed = grants_passed settings returned sound left freed.kept c (moment_at log now) (omega arith) stream (alone facts persists) in
        let granted = subst (λ s. Grants returned left after (with_granted settings c (moment_at log now) s returned (waiting returned) left)) (sym kept_is) passed in
        record {
          settled = subst (λ l. IsSoundAndQuiet settings l) (ap (settle settings c (moment_at log now) returned) unowed) (kept_give_back settings log t c facts now kept mine);
          freed = freed_then t log grants returned left after (with_granted settings c (moment_at log now) (stream_of xs c) returned (waiting returned) left) freed granted;
          grew = subst (λ l. GrowsBy log l) (ap (settle settings c (moment_at log now) returned) unowed) (grows_give_back settings log c facts now);
          mark = λ unmarked. ap (is_queued settings) (sym (ap (settle settings c (moment_at log now) returned) unowed)) ∙ mark_give_back settings log t c facts now kept mine unmarked;
          others = λ d other still. both_same (grant_streams (with_granted settings c (moment_at log now) (stream_of xs c) returned (waiting returned) left)) (grant_streams grants) ys streams d (with_granted_streams settings c (moment_at log now) (stream_of xs c) returned (waiting returned) left d other ∙ stream_of-without log grants t c d grants_kept mine other) (others d other still);
        }
      where
        alone : (facts : Facts) → is_persistent facts ≡ true → (let returned = add (moment_at log now) (Returned c facts) log in IsAnyone (waiting returned) → idle_connections returned ≡ c ∷ [])
        alone facts persists anyone = let it = only_idle settings log kept c (ap is_some holder.1) (moment_at log now) facts anyone persists in it.only

    -- the same of the state after its steps
    pub settled_closed : (cause : Cause) → is_of_holder cause ≡ true → (settings' : LimitAndFirst) → settings' ≡ settings → (m : ℕ) → m ≡ moment_at log now → (closed : List Entry) → closed ≡ add m (Closed c cause) log → (left : List (Grant S)) → left ≡ without_grant t grants → (after : List Entry) → after ≡ open_for_head settings' m closed → (granted : List (Grant S)) → granted ≡ with_new settings' m closed (waiting closed) left → (streams' : List (ℕ × S)) → streams' ≡ streams → Settled settings log grants streams t c after granted streams'
    settled_closed cause fits settings' e_terms m e_m closed e_closed left e_left after e_after granted e_granted streams' e_streams =
        let closed' = add (moment_at log now) (Closed c cause) log in
        let e : closed ≡ closed' = e_closed ∙ ap (λ k. add k (Closed c cause) log) e_m in
        moved settings log grants streams t c (moment_at log now) closed' (closed_out cause fits) settings' e_terms m e_m closed e left e_left after e_after granted e_granted streams' e_streams

    pub settled_ended : (facts : Facts) (cause : Cause) (settings' : LimitAndFirst) → settings' ≡ settings → (m : ℕ) → m ≡ moment_at log now → owed (add m (Returned c facts) log) ≡ Some (c, cause) → (closed : List Entry) → closed ≡ add m (Closed c cause) (add m (Returned c facts) log) → (left : List (Grant S)) → left ≡ without_grant t grants → (after : List Entry) → after ≡ open_for_head settings' m closed → (granted : List (Grant S)) → granted ≡ with_new settings' m closed (waiting closed) left → (streams' : List (ℕ × S)) → streams' ≡ streams → Settled settings log grants streams t c after granted streams'
    settled_ended facts cause settings' e_terms m e_m owes closed e_closed left e_left after e_after granted e_granted streams' e_streams =
        let closed' = add (moment_at log now) (Closed c cause) (add (moment_at log now) (Returned c facts) log) in
        let e : closed ≡ closed' = e_closed ∙ ap (λ k. add k (Closed c cause) (add k (Returned c facts) log)) e_m in
        moved settings log grants streams t c (moment_at log now) closed' (ended_out facts cause owes) settings' e_terms m e_m closed e left e_left after e_after granted e_granted streams' e_streams

    pub settled_passed : (facts : Facts) (stream : S) (settings' : LimitAndFirst) → settings' ≡ settings → (m : ℕ) → m ≡ moment_at log now → (returned : List Entry) → returned ≡ add m (Returned c facts) log → owed returned ≡ None → (xs : List (ℕ × S)) → stream_of xs c ≡ Some stream → (left : List (Grant S)) → left ≡ without_grant t grants → (after : List Entry) → after ≡ grant_to settings' c m returned (waiting returned) → (granted : List (Grant S)) → granted ≡ with_granted settings' c m (stream_of xs c) returned (waiting returned) left → (ys : List (ℕ × S)) → ((d : ℕ) → (c == d) ≡ false → is_open after d ≡ true → stream_of ys d ≡ stream_of streams d) → Settled settings log grants streams t c after granted ys
    settled_passed facts stream settings' e_terms m e_m returned e_returned unowed xs kept_is left e_left after e_after granted e_granted ys others =
        let n = moment_at log now in
        let returned' = add n (Returned c facts) log in
        let e : returned ≡ returned' = e_returned ∙ ap (λ k. add k (Returned c facts) log) e_m in
        let after_is : after ≡ grant_to settings c n returned' (waiting returned') = e_after ∙ ap (λ tm. grant_to tm c m returned (waiting returned)) e_terms ∙ ap (λ k. grant_to settings c k returned (waiting returned)) e_m ∙ ap (λ l. grant_to settings c n l (waiting l)) e in
        let granted_is : granted ≡ with_granted settings c n (stream_of xs c) returned' (waiting returned') (without_grant t grants) = e_granted ∙ ap (λ tm. with_granted tm c m (stream_of xs c) returned (waiting returned) left) e_terms ∙ ap (λ k. with_granted settings c k (stream_of xs c) returned (waiting returned) left) e_m ∙ ap (λ l. with_granted settings c n (stream_of xs c) l (waiting l) left) e ∙ ap (with_granted settings c n (stream_of xs c) returned' (waiting returned')) e_left in
        let base = passed_out facts stream xs ys (ap owed (sym e) ∙ unowed) kept_is (λ d other still. others d other (ap (λ l. is_open l d) after_is ∙ still)) in
        let first = subst (λ l. Settled settings log grants streams t c l (with_granted settings c n (stream_of xs c) returned' (waiting returned') (without_grant t grants)) ys) (sym after_is) base in
        subst (λ gs. Settled settings log grants streams t c after gs ys) (sym granted_is) first

    -- it came back, and was closed at once, since the cache is full
    unkept_out : (facts : Facts) → becomes_idle log c facts now ≡ true → Settled settings log grants streams t c (add (moment_at log now) (Closed c CacheFull) (returned log c facts now)) (without_grant t grants) streams
    unkept_out facts idle =
        let m = moment_at log now in
        let freed = frees settings log kept.sound.orderly grants grants_kept c t mine (add m (Closed c CacheFull) (returned log c facts now)) (freed_ended m c facts CacheFull log kept.sound.orderly.transfers_once) in
        record {
          settled = kept_unkept settings log t c facts now kept mine idle;
          freed = freed;
          grew = grows_by_one m (Closed c CacheFull) log (returned log c facts now) (grows_by_one m (Returned c facts) log log (grows_same log));
          mark = λ unmarked. mark_unkept settings log c facts now idle;
          others = λ d other still. both_same (grant_streams (without_grant t grants)) (grant_streams grants) streams streams d (stream_of-without log grants t c d grants_kept mine other) refl;
        }

    pub settled_unkept : (facts : Facts) → becomes_idle log c facts now ≡ true → (m : ℕ) → m ≡ moment_at log now → (left : List (Grant S)) → left ≡ without_grant t grants → (after : List Entry) → after ≡ add m (Closed c CacheFull) (add m (Returned c facts) log) → (streams' : List (ℕ × S)) → streams' ≡ streams → Settled settings log grants streams t c after left streams'
    settled_unkept facts idle m e_m left e_left after e_after streams' e_streams =
        let after_is : after ≡ add (moment_at log now) (Closed c CacheFull) (returned log c facts now) = e_after ∙ ap (λ k. add k (Closed c CacheFull) (add k (Returned c facts) log)) e_m in
        let first = subst (λ l. Settled settings log grants streams t c l (without_grant t grants) streams) (sym after_is) (unkept_out facts idle) in
        let second = subst (λ gs. Settled settings log grants streams t c after gs streams) (sym e_left) first in
        subst (λ ss. Settled settings log grants streams t c after left ss) (sym e_streams) second

    -- there is room for one more
    pub room_closed : (cause : Cause) (settings' : LimitAndFirst) → settings' ≡ settings → (m : ℕ) (closed : List Entry) → closed ≡ add m (Closed c cause) log → is_full settings' closed ≡ false
    room_closed cause settings' e_terms m closed e_closed =
        ap (λ tm. is_full tm closed) e_terms ∙ ap (is_full settings) e_closed ∙ room_gone settings log kept c (ap is_some holder.1) (add m (Closed c cause) log) (gone_closed m c cause log)

    pub room_ended : (facts : Facts) (cause : Cause) (settings' : LimitAndFirst) → settings' ≡ settings → (m : ℕ) (closed : List Entry) → closed ≡ add m (Closed c cause) (add m (Returned c facts) log) → is_full settings' closed ≡ false
    room_ended facts cause settings' e_terms m closed e_closed =
        ap (λ tm. is_full tm closed) e_terms ∙ ap (is_full settings) e_closed ∙ room_gone settings log kept c (ap is_some holder.1) (add m (Closed c cause) (add m (Returned c facts) log)) (gone_ended m c facts cause log)

    -- the connection that came back keeps its stream, where it stays open
    pub passed_kept : (stream : S) (settings' : LimitAndFirst) (m : ℕ) (returned : List Entry) (xs : List (ℕ × S)) → stream_of xs c ≡ Some stream → (left : List (Grant S)) → left ≡ without_grant t grants → (after : List Entry) → after ≡ grant_to settings' c m returned (waiting returned) → (granted : List (Grant S)) → granted ≡ with_granted settings' c m (stream_of xs c) returned (waiting returned) left → (ys : List (ℕ × S)) → (waiting returned ≡ [] → ys ≡ xs) → is_open after c ≡ true → stream_of (grant_streams granted ++ ys) c ≡ Some stream
    passed_kept stream settings' m returned xs kept_is left e_left after e_after granted e_granted ys nobody still =
        let none : stream_of (grant_streams left) c ≡ None = ap (λ gs. stream_of (grant_streams gs) c) e_left ∙ freed_stream settings log kept.sound.orderly grants grants_kept c t mine in
        ap (λ gs. stream_of (grant_streams gs ++ ys) c) e_granted ∙ passed_stream settings' c m returned left stream xs ys none kept_is nobody (ap (λ l. is_open l c) (sym e_after) ∙ still)

-- it is the only idle one once it has come back, where someone waits
pub alone_passed : (settings : LimitAndFirst) (log : List Entry) → IsSoundAndQuiet settings log → (t : ℕ) (held : Held) → held_facts log t ≡ Some (facts_of_held held) → (m : ℕ) (facts : Facts) (returned : List Entry) → returned ≡ add m (Returned held.number facts) log → owed returned ≡ None → IsAnyone (waiting returned) → IsAlone returned held.number held.lane held.born m
alone_passed settings log kept t held is m facts returned e_returned unowed anyone =
    let it = known log t held is in
    let holder = held_want settings log kept.sound t held.number it.number in
    let stays = owed_stays held.number facts holder.0 (sym (ap (option_and_then (owed_for held.number facts)) holder.1) ∙ ap owed (sym e_returned) ∙ unowed) in
    let persists = stays_persistent (is_persistent facts) holder.0.forbid_reuse stays in
    subst (λ l. IsAlone l held.number held.lane held.born m) (sym e_returned) (came_back_alone settings log kept t held m facts is persists (subst (λ l. IsAnyone (waiting l)) e_returned anyone))

-- a connection that was closed is not open
pub gone_open : (c : ℕ) (cause : Cause) (settings' : LimitAndFirst) (m : ℕ) (log closed : List Entry) → closed ≡ add m (Closed c cause) log → (after : List Entry) → after ≡ open_for_head settings' m closed → is_open after c ≡ false
gone_open c cause settings' m log closed e_closed after e_after =
    ap (λ l. is_open l c) (e_after ∙ ap (open_for_head settings' m) e_closed) ∙ closed_not_open settings' m c cause log (waiting log)

pub ended_gone : (c : ℕ) (cause : Cause) (settings' : LimitAndFirst) (m : ℕ) (log closed : List Entry) → closed ≡ add m (Closed c cause) log → (after : List Entry) → after ≡ open_for_head settings' m closed → is_open after c ≡ true → ⊥
ended_gone c cause settings' m log closed e_closed after e_after still = false≢true (sym (gone_open c cause settings' m log closed e_closed after e_after) ∙ still)

-- who has what once a transfer that waits has left
pub left_moved : {S : Type 0} (settings : LimitAndFirst) (log : List Entry) → IsOrderly settings log → (grants : List (Grant S)) → GrantsKept log grants → (m t : ℕ) → waits log t ≡ true → (after : List Entry) → after ≡ add m (Left t) log → (left : List (Grant S)) → left ≡ grants → Freed t log grants after left
left_moved settings log orderly grants kept m t waits_here after e_after left e_left =
    subst (λ gs. Freed t log grants after gs) (sym e_left) (subst (λ l. Freed t log grants l grants) (sym e_after) (left_freed settings log orderly grants kept m t waits_here))

-- the log after a ticket is withdrawn
pub left_log : (settings : LimitAndFirst) (log : List Entry) (t now m : ℕ) (after : List Entry) → waits log t ≡ true → m ≡ moment_at log now → after ≡ add m (Left t) log → after ≡ after_withdraw settings log t now
left_log settings log t now m after waits_here e_m is =
    is ∙ ap (λ k. add k (Left t) log) e_m ∙ sym (ap (λ b. if b then add (moment_at log now) (Left t) log else close_granted settings log (held_number log t) now) waits_here)

pub withdrawn_log : (settings : LimitAndFirst) (log : List Entry) → IsSound settings log → (t c : ℕ) → held_number log t ≡ Some c → (now : ℕ) (settings' : LimitAndFirst) → settings' ≡ settings → (m : ℕ) → m ≡ moment_at log now → (closed : List Entry) → closed ≡ add m (Closed c Withdrawn) log → (after : List Entry) → after ≡ open_for_head settings' m closed → after ≡ after_withdraw settings log t now
withdrawn_log settings log sound t c mine now settings' e_terms m e_m closed e_closed after e_after =
    e_after ∙ ap (λ tm. open_for_head tm m closed) e_terms ∙ ap (open_for_head settings m) e_closed ∙ ap (λ k. open_for_head settings k (add k (Closed c Withdrawn) log)) e_m
    ∙ sym (ap (λ n. close_granted settings log n now) mine) ∙ sym (ap (λ b. if b then add (moment_at log now) (Left t) log else close_granted settings log (held_number log t) now) (holder_waits_not settings log sound t c mine))

-- a log grows from one that is the old one
pub grows_from : (inner old after : List Entry) → inner ≡ old → GrowsBy inner after → GrowsBy old after
grows_from inner old after same grew = (grew.0, grew.1 ∙ ap (λ before. grew.0 ++ before) same)

-- where the host was not marked it is not
pub unmarked_from : (inner settings outer : LimitAndFirst) (log old after : List Entry) → outer ≡ inner → inner ≡ settings → log ≡ old → (is_queued inner log ≡ false → is_queued inner after ≡ false) → is_queued settings old ≡ false → is_queued outer after ≡ false
unmarked_from inner settings outer log old after e_outer e_settings e_log mark unmarked = ap (λ tm. is_queued tm after) e_outer ∙ mark (ap (λ tm. is_queued tm log) e_settings ∙ ap (is_queued settings) e_log ∙ unmarked)

-- and its mark in the lobby is that of the host as it was
pub marked_as : (inner host : ℕ) (told was is : Bool) (old new : Queue) → inner ≡ host → told ≡ was → IsMarked inner told is old new → IsMarked host was is old new
marked_as inner host told was is old new e_host e_was marked = subst (λ (h : ℕ). IsMarked h was is old new) e_host (subst (λ b. IsMarked inner b is old new) e_was marked)
