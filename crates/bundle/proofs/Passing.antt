-- Who has what once what came back, or a new connection, went to the first transfer that waits.
use Rattle.std.proofs.Common.{◌≡◌, ℕ, ◌≤◌, Bool, true, false, List, [], ◌∷◌, ◌++◌, Option, Some, None, is_none, refl, ap, subst, ◌∙◌, arith}
use Rattle.std.specs.Prelude.{if◌then◌else◌}
use mathlib.Core.Bool.{false≢true}
use Rattle.std.proofs.lemmas.Bool.Decides.{nat_tests}
use Rattle.conn_log.specs.declared.entry.Want.{Want}
use Rattle.conn_log.specs.declared.entry.Event.TheVariants.{Leased, Closed}
use Rattle.conn_log.specs.declared.entry.Entry.{Entry}
use Rattle.conn_log.specs.Connections.{last_moment, is_among, is_idle, idle_connections, holder_want}
use Rattle.conn_log.specs.Waiting.{waiting}
use Rattle.conn_log.specs.Fit.{is_fit}
use Rattle.conn_log.specs.Legal.{LimitAndFirst, IsAnyone}
use Rattle.conn_log.specs.Sound.{IsSound}
use Rattle.conn_log.proofs.Steps.{idle_open_unheld, new_not_held, unheld}
use Rattle.conn_log.proofs.Soundness.{next_is_new, idle_may_close, sound_close}
use Rattle.bundle.specs.declared.grant.Grant.{Grant}
use Rattle.host_state.specs.Steps.{add, next_number}
use Rattle.host_state.specs.Calls.{start_new, open_for, open_for_head, unfit_cause, grant_to}
use Rattle.bundle.specs.Grants.{with_new, with_granted, GrantsKept}
use Rattle.host_state.proofs.Soundness.{head_is_next, unfit_is_of_idle}
use Rattle.host_state.proofs.Transfers.{told_unheld, freed_closed, started_open, started_lease}
use Rattle.bundle.proofs.Granting.{Grants, grants_nothing, grants_then, grants_head}

-- the next number has no holder
pub new_unheld : (settings : LimitAndFirst) (log : List Entry) → IsSound settings log → holder_want log (next_number settings log) ≡ None
new_unheld settings log sound = unheld settings log sound.orderly (next_number settings log) (new_not_held settings log sound.orderly (next_number settings log) (next_is_new settings log sound.orderly (next_number settings log) refl))

module _ {S : Type 0} (settings : LimitAndFirst) (log : List Entry) (sound : IsSound settings log) where
  -- one is opened for the first that waits, if one does
  pub grants_new : (grants : List (Grant S)) → GrantsKept log grants → (m : ℕ) → Grants log grants (open_for_head settings m log) (with_new settings m log (waiting log) grants)
  grants_new grants kept m = by_queue (waiting log) refl
    where
      by_queue : (wants : List Want) → waiting log ≡ wants → Grants log grants (open_for settings m log wants) (with_new settings m log wants grants)
      by_queue [] is = grants_nothing log log grants (λ u. refl) kept
      by_queue (head ∷ others) is =
          let grant : Grant S = record { want = head; number = next_number settings log; moment = m; stream = None } in
          grants_head settings log sound.orderly grants kept grant others is (head_is_next log head others is) (new_unheld settings log sound) (start_new settings head m log) (started_open m (next_number settings log) head log)

module _ {S : Type 0} (settings : LimitAndFirst) (log : List Entry) (sound : IsSound settings log) where
  -- what came back goes to the first that waits, or makes room for a new one
  pub grants_passed : (grants : List (Grant S)) → GrantsKept log grants → (c m : ℕ) → last_moment log ≤ m → (stream : S) → (IsAnyone (waiting log) → idle_connections log ≡ c ∷ []) → Grants log grants (grant_to settings c m log (waiting log)) (with_granted settings c m (Some stream) log (waiting log) grants)
  grants_passed grants kept c m le stream alone = by_queue (waiting log) refl alone
    where
      by_fit : (head : Want) (others : List Want) → waiting log ≡ head ∷ others → is_idle log c ≡ true → (fits : Bool) → is_fit log head m c ≡ fits → Grants log grants (if fits then add m (Leased c head) log else start_new settings head m (add m (Closed c (unfit_cause settings log head m c)) log)) (if fits then grants ++ record { want = head; number = c; moment = m; stream = Some stream } ∷ [] else with_new settings m log (head ∷ others) grants)
      by_fit head others is idle true fit =
          let grant : Grant S = record { want = head; number = c; moment = m; stream = Some stream } in
          let open_unheld = idle_open_unheld log c idle in
          grants_head settings log sound.orderly grants kept grant others is (head_is_next log head others is) (nobody (holder_want log c) open_unheld.1) (add m (Leased c head) log) (started_lease m c head log)
        where
          nobody : (held : Option Want) → is_none held ≡ true → held ≡ None
          nobody None e = refl
          nobody (Some want) e = absurd (false≢true e)
      by_fit head others is idle false unfit =
          let cause = unfit_cause settings log head m c in
          let between = add m (Closed c cause) log in
          let closed = sound_close settings log sound m le c cause (idle_may_close log c cause (unfit_is_of_idle settings log head m c) sound.settled idle) idle in
          let open_unheld = idle_open_unheld log c idle in
          let same = told_unheld settings log sound.orderly c (nobody (holder_want log c) open_unheld.1) between (freed_closed m c cause log sound.orderly.transfers_once) in
          let first = grants_nothing log between grants same kept in
          let second = grants_new settings between closed grants first.kept m in
          grants_then log grants between grants (start_new settings head m between) (with_new settings m log (head ∷ others) grants) first (subst (λ wants. Grants between grants (open_for settings m between wants) (with_new settings m between wants grants)) is second)
        where
          nobody : (held : Option Want) → is_none held ≡ true → held ≡ None
          nobody None e = refl
          nobody (Some want) e = absurd (false≢true e)

      by_queue : (wants : List Want) → waiting log ≡ wants → (IsAnyone wants → idle_connections log ≡ c ∷ []) → Grants log grants (grant_to settings c m log wants) (with_granted settings c m (Some stream) log wants grants)
      by_queue [] is alone' = grants_nothing log log grants (λ u. refl) kept
      by_queue (head ∷ others) is alone' =
          let idle : is_idle log c ≡ true = ap (is_among c) (alone' tt) ∙ grind (arith, nat_tests) in
          by_fit head others is idle (is_fit log head m c) refl
