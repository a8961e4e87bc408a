-- The logs of starts, and the lists of those that wait.
use Rattle.std.proofs.Common.{◌≡◌, ℕ, suc, ◌+◌, ◌-◌, ◌<◌, ◌≤◌, true, false, List, [], ◌∷◌, length, Some, refl, sym, ap, subst, inl, inr, ◌∙◌, arith}
use Rattle.std.specs.Prelude.{◌==◌}
use Rattle.std.proofs.lemmas.Bool.Decides.{nat_tests, eqb_tells}
use Rattle.conn_log.specs.declared.entry.Want.{Want}
use Rattle.conn_log.specs.declared.entry.Entry.{Entry}
use Rattle.conn_log.specs.Connections.{last_moment, opened, greatest, idle_connections}
use Rattle.conn_log.specs.Waiting.{waiting, without}
use Rattle.conn_log.specs.Fit.{is_idle_longer, oldest}
use Rattle.conn_log.specs.Legal.{LimitAndFirst, limit_in_force, IsAnyone}
use Rattle.conn_log.specs.Sound.{WaitOnce}
use Rattle.conn_log.proofs.Queues.{once_without, first_waits, length_without}
use Rattle.conn_log.proofs.Numbers.{le-greatest}
use Rattle.conn_log.proofs.Steps.{opened_not_closed, idle_open_unheld}
use Rattle.conn_log.proofs.Firsts.{first_among}
use Rattle.host_state.specs.Steps.{next_number}
use Rattle.host_state.specs.Idle.{stream_of}
use Rattle.host_state.specs.State.{HostState, KeepsOpen, OpensOnly}
use Rattle.bundle.specs.declared.grant.Grant.{Grant}
use Rattle.host_state.specs.Calls.{open_for, open_for_head, open_for_first}
use Rattle.bundle.specs.Grants.{with_new, with_first}

-- a transfer that starts waits no more
pub fewer_without : (transfer : ℕ) (wants : List Want) → length (without transfer wants) ≤ length wants
fewer_without transfer [] = omega arith
fewer_without transfer (want ∷ wants) = grind (arith, fewer_without transfer wants)

pub fewer_after_head : (head : Want) (others wants : List Want) → wants ≡ head ∷ others → length (without head.transfer wants) + 1 ≤ length wants
fewer_after_head head others wants is =
    let it : (head.transfer == head.transfer) ≡ true = grind (arith, nat_tests) in
    subst (λ ws. length (without head.transfer ws) + 1 ≤ length ws) (sym is) (rw it (omega (arith, fewer_without head.transfer others)))

-- the oldest idle one has not the number of the next one
pub oldest_not_next : (settings : LimitAndFirst) (log after : List Entry) (c n : ℕ) → oldest log ≡ Some c → opened after ≡ opened log → n ≡ next_number settings after → (c == n) ≡ false
oldest_not_next settings log after c n is same number =
    let idle = first_among (is_idle_longer log) (idle_connections log) c is in
    let among = opened_not_closed log c (idle_open_unheld log c idle).0 in
    let below = le-greatest settings.first c (opened log) among.0 in
    let above : n ≡ greatest settings.first (opened log) + 1 = number ∙ ap (λ numbers. greatest settings.first numbers + 1) same in
    grind (arith, nat_tests, below, above)

-- one is closed, and one of another number is opened
pub keeps_all_but_closed : {S : Type 0} (old closed new : HostState S) (c n : ℕ) → (c == n) ≡ false → ((d : ℕ) → (c == d) ≡ false → stream_of closed.streams d ≡ stream_of old.streams d) → KeepsOpen old closed → OpensOnly n closed.log new.log → new.streams ≡ closed.streams → KeepsOpen old new
keeps_all_but_closed old closed new c n apart others keeps only same d still =
    ap (λ streams. stream_of streams d) same ∙ elim (eqb_tells n d) [
      | inl it ↦ others d (subst (λ (k : ℕ). (c == k) ≡ false) it.1 apart)
      | inr other ↦ keeps d (only d other.0 still)
    ]

-- one was opened for the first transfer that waited: it waits no more, and each other one once
pub record HeadStarts (settings : LimitAndFirst) (m : ℕ) (log after : List Entry) : Type 0 where
  pub fewer_wait : length (waiting log) ≡ length (waiting after) + 1
  pub wait_once : WaitOnce (waiting after)
  pub limit : limit_in_force settings after ≡ limit_in_force settings log
  pub last : last_moment after ≡ m

pub head_starts : (settings : LimitAndFirst) (m : ℕ) (log after : List Entry) → WaitOnce (waiting log) → 0 < length (waiting log) → after ≡ open_for_head settings m log → HeadStarts settings m log after
head_starts settings m log after once some is = subst (HeadStarts settings m log) (sym is) (by_queue (waiting log) refl once some)
  where
    by_queue : (wants : List Want) → waiting log ≡ wants → WaitOnce wants → 0 < length wants → HeadStarts settings m log (open_for settings m log wants)
    by_queue [] queue once' some' = absurd (omega (arith, some'))
    by_queue (head ∷ others) queue once' some' = record {
      fewer_wait = ap length queue ∙ length_without head.transfer (head ∷ others) once' (first_waits head others) ∙ ap (λ wants. length (without head.transfer wants) + 1) (sym queue);
      wait_once = subst (λ wants. WaitOnce (without head.transfer wants)) (sym queue) (once_without head.transfer (head ∷ others) once');
      limit = refl;
      last = refl;
    }

pub someone_waits : (wants : List Want) → 0 < length wants → IsAnyone wants
someone_waits [] some = absurd (omega (arith, some))
someone_waits (head ∷ others) some = tt

-- what is still to be opened from there on is what is due, and is due once the first of it is opened
module _ (settings : LimitAndFirst) (m opened count : ℕ) (more : opened < count) (log after : List Entry) (is : after ≡ open_for_head settings m log) where
  one_fewer : count - opened ≡ suc (count - (opened + 1))
  one_fewer = omega (arith, more)

  pub log_left : open_for_first (count - (opened + 1)) settings m after ≡ open_for_first (count - opened) settings m log
  log_left = ap (open_for_first (count - (opened + 1)) settings m) is ∙ sym (ap (λ n. open_for_first n settings m log) one_fewer)

  pub grants_left : {S : Type 0} (grants granted : List (Grant S)) → granted ≡ with_new settings m log (waiting log) grants → with_first (count - (opened + 1)) settings m after granted ≡ with_first (count - opened) settings m log grants
  grants_left grants granted new =
      ap (λ l. with_first (count - (opened + 1)) settings m l granted) is
      ∙ ap (with_first (count - (opened + 1)) settings m (open_for_head settings m log)) new
      ∙ sym (ap (λ n. with_first n settings m log grants) one_fewer)
