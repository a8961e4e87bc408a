-- What a budget's part holds once a connection is gone, and whether a permit was freed.
use Rattle.std.proofs.Common.{◌≡◌, ℕ, ◌+◌, ◌<◌, Bool, true, false, not, List, [], ◌∷◌, length, Some, is_some, refl, sym, ap, subst, ◌∙◌, arith}
use Rattle.std.specs.Prelude.{◌==◌, ◌≤◌, nat_lt}
use Rattle.std.proofs.lemmas.Bool.Decides.{nat_tests}
use Rattle.std.specs.Option.{option_and_then}
use Rattle.persistence.specs.declared.facts.Facts.{Facts}
use Rattle.budget.specs.Permits.{held, one_more_open}
use Rattle.conn_log.specs.declared.entry.Want.{Want}
use Rattle.conn_log.specs.declared.entry.Cause.{Cause}
use Rattle.conn_log.specs.declared.entry.Event.TheVariants.{Returned, Closed}
use Rattle.conn_log.specs.declared.entry.Entry.{Entry}
use Rattle.conn_log.specs.Connections.{last_moment, open_connections, idle_connections, holder_want, held_number}
use Rattle.conn_log.specs.Waiting.{waiting}
use Rattle.conn_log.specs.Legal.{LimitAndFirst, limit_in_force, IsAnyone, owed, owed_for}
use Rattle.conn_log.specs.Sound.{IsSound, is_of_holder}
use Rattle.conn_log.proofs.Steps.{IsGone, gone_closed, gone_ended, more_open, fewer_open}
use Rattle.conn_log.proofs.Soundness.{next_is_new, next_free, sound_drop, sound_end}
use Rattle.host_state.specs.Steps.{add, moment_at, is_full, next_number}
use Rattle.host_state.specs.Calls.{open_for, open_for_head, is_freed}
use Rattle.host_state.specs.Laws.{IsSoundAndQuiet}
use Rattle.host_state.specs.Counts.{held_by}
use Rattle.host_state.proofs.Soundness.{later, head_is_next, held_want}
use Rattle.host_state.proofs.EndsOfUses.{room_gone, owed_ends}

-- one fewer is open: what was held is one more for an open connection
pub part_fewer : (old new : List Entry) → length (open_connections old) ≡ length (open_connections new) + 1 → length (idle_connections new) ≡ length (idle_connections old) → held_by old ≡ one_more_open (held_by new)
part_fewer old new fewer as_many = ap (λ n. held n (length (idle_connections old))) fewer ∙ ap (λ n. held (length (open_connections new) + 1) n) (sym as_many)

not_at : (a b : ℕ) → (a == b) ≡ false → a ≤ b → a < b
not_at a b apart le = grind (arith, nat_tests, apart, le)

-- a permit is freed where nobody waits; else it goes to the one that is opened
pub freed_opened : (settings : LimitAndFirst) (log : List Entry) → IsSound settings log → is_full settings log ≡ false → (m before : ℕ) → before ≡ length (open_connections log) + 1 → (someone : Bool) → (someone ≡ true → IsAnyone (waiting log)) → (someone ≡ false → waiting log ≡ []) → not someone ≡ nat_lt (length (open_connections (open_for_head settings m log))) before
freed_opened settings log sound room m before more someone = by_queue (waiting log) refl
  where
    none_waits : (b : Bool) → (b ≡ true → IsAnyone []) → not b ≡ nat_lt (length (open_connections log)) before
    none_waits true never = absurd (never refl)
    none_waits false _ = grind (arith, nat_tests, more)

    one_waits : (head : Want) (others : List Want) (b : Bool) → (b ≡ false → head ∷ others ≡ []) → (opened : ℕ) → opened ≡ before → not b ≡ nat_lt opened before
    one_waits head others true _ opened same = grind (arith, nat_tests, same)
    one_waits head others false never opened same = let none : head ∷ others ≡ [] = never refl in absurd (cc)

    by_queue : (wants : List Want) → waiting log ≡ wants → (someone ≡ true → IsAnyone wants) → (someone ≡ false → wants ≡ []) → not someone ≡ nat_lt (length (open_connections (open_for settings m log wants))) before
    by_queue [] is if_so if_not = none_waits someone if_so
    by_queue (head ∷ others) is if_so if_not =
        let new = next_is_new settings log sound.orderly (next_number settings log) refl in
        let free = next_free settings log sound.orderly head (head_is_next log head others is) in
        let there = not_at (length (open_connections log)) (limit_in_force settings log) room sound.orderly.within in
        one_waits head others someone if_not _ (more_open settings log sound.orderly m (next_number settings log) head new free there ∙ sym more)

-- the same where what a transfer held is closed, or its use ended
module _ (settings : LimitAndFirst) (log : List Entry) (kept : IsSoundAndQuiet settings log) (t c : ℕ) (mine : held_number log t ≡ Some c) (now : ℕ) (settings' : LimitAndFirst) (e_terms : settings' ≡ settings) (m : ℕ) (e_m : m ≡ moment_at log now) (closed : List Entry) (after : List Entry) (e_after : after ≡ open_for_head settings' m closed) (someone : Bool) (if_so : someone ≡ true → IsAnyone (waiting closed)) (if_not : someone ≡ false → waiting closed ≡ []) where
  holder : (want : Want) × (holder_want log c ≡ Some want)
  holder = held_want settings log kept.sound t c mine

  freed_gone : (closed' : List Entry) → closed ≡ closed' → IsGone c log closed' → IsSound settings closed' → not someone ≡ is_freed log after
  freed_gone closed' e_closed gone sound =
      let room = ap (is_full settings) e_closed ∙ room_gone settings log kept c (ap is_some holder.1) closed' gone in
      let fewer = fewer_open settings log kept.sound.orderly c closed' gone (kept.sound.orderly.held_open c (ap is_some holder.1)) in
      let more : length (open_connections log) ≡ length (open_connections closed) + 1 = fewer ∙ ap (λ l. length (open_connections l) + 1) (sym e_closed) in
      freed_opened settings closed (subst (λ l. IsSound settings l) (sym e_closed) sound) room m (length (open_connections log)) more someone if_so if_not
      ∙ sym (ap (λ l. nat_lt (length (open_connections l)) (length (open_connections log))) (e_after ∙ ap (λ tm. open_for_head tm m closed) e_terms))

  pub freed_close : (cause : Cause) → is_of_holder cause ≡ true → closed ≡ add m (Closed c cause) log → not someone ≡ is_freed log after
  freed_close cause fits e_closed =
      let le : last_moment log ≤ m = subst (λ k. last_moment log ≤ k) (sym e_m) (later log now) in
      freed_gone (add m (Closed c cause) log) e_closed (gone_closed m c cause log) (sound_drop settings log kept.sound m le c cause fits (ap is_some holder.1))

  pub freed_end : (facts : Facts) (cause : Cause) → owed (add m (Returned c facts) log) ≡ Some (c, cause) → closed ≡ add m (Closed c cause) (add m (Returned c facts) log) → not someone ≡ is_freed log after
  freed_end facts cause owes e_closed =
      let le : last_moment log ≤ m = subst (λ k. last_moment log ≤ k) (sym e_m) (later log now) in
      let ends = owed_ends c facts cause holder.0 (sym (ap (option_and_then (owed_for c facts)) holder.1) ∙ owes) in
      let sound = subst (λ (r : Cause). IsSound settings (add m (Closed c r) (add m (Returned c facts) log))) ends.1 (sound_end settings log kept.sound m le c facts holder.0 holder.1 ends.0) in
      freed_gone (add m (Closed c cause) (add m (Returned c facts) log)) e_closed (gone_ended m c facts cause log) sound
