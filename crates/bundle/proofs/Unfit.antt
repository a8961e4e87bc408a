-- A connection that came back and does not fit the first transfer that waits: it is closed, and one is opened.
use Rattle.std.proofs.Common.{◌≡◌, ℕ, Bool, true, false, not, ◌&&◌, List, [], ◌∷◌, ◌++◌, Option, Some, None, refl, sym, ap, ◌∙◌}
use Rattle.std.specs.Prelude.{◌==◌, if◌then◌else◌, filter}
use Rattle.conn_log.specs.declared.entry.Want.{Want}
use Rattle.conn_log.specs.declared.entry.Cause.{Cause}
use Rattle.conn_log.specs.declared.entry.Cause.TheVariants.{TooOld as ForAge, HostRoom, TotalRoom}
use Rattle.conn_log.specs.declared.entry.Event.TheVariants.{Leased, Closed}
use Rattle.conn_log.specs.declared.entry.Entry.{Entry}
use Rattle.conn_log.specs.Connections.{is_idle, lane, since}
use Rattle.conn_log.specs.Waiting.{waiting}
use Rattle.conn_log.specs.Fit.{is_older, suits, is_fit, is_idle_longer, first_by, newest_fit, oldest}
use Rattle.conn_log.specs.Legal.{LimitAndFirst}
use Rattle.host_state.specs.Steps.{add, is_full}
use Rattle.bundle.specs.declared.grant.Grant.{Grant}
use Rattle.host_state.specs.Calls.{start_new, open_for, open_for_head, unfit_cause, grant_to}
use Rattle.bundle.specs.Grants.{IsAlone, with_new, with_granted}

-- the cause as the code computes it of what was kept of the connection
abbrev cause_by : Bool → Want → ℕ → ℕ → ℕ → ℕ → Cause
cause_by full head m lane_is since_is born_is = if (lane_is == head.lane) && not head.fresh && is_older since_is born_is head.max_age head.max_life m then ForAge else (if full then HostRoom else TotalRoom)

module _ (settings : LimitAndFirst) (log : List Entry) (head : Want) (others : List Want) (back in_lane born_at m : ℕ) (queue : waiting log ≡ head ∷ others) (alone : IsAlone log back in_lane born_at m) (unfit : newest_fit log head m ≡ None) where
  not_fit : is_fit log head m back ≡ false
  not_fit = and_false (is_idle log back) (suits log head m back) (picks (suits log head m back) (ap (λ cs. first_by (λ c d. is_idle_longer log d c) (filter (suits log head m) cs)) (sym alone.only) ∙ unfit))
    where
      and_false : (a b : Bool) → b ≡ false → (a && b) ≡ false
      and_false true b is = is
      and_false false b is = refl

      picks : (b : Bool) → first_by (λ c d. is_idle_longer log d c) (if b then back ∷ [] else []) ≡ None → b ≡ false
      picks true found = absurd (cc)
      picks false found = refl

  is_oldest : (n : ℕ) → oldest log ≡ Some n → n ≡ back
  is_oldest n first = the_same n back (sym first ∙ ap (first_by (is_idle_longer log)) alone.only)
    where
      the_same : (a b : ℕ) → Some a ≡ Some b → a ≡ b
      the_same a b e = cc

  cause_is : cause_by (is_full settings log) head m in_lane m born_at ≡ unfit_cause settings log head m back
  cause_is =
      let c = back in
      let by = cause_by (is_full settings log) head m in
      ap (λ l. by l m born_at) (sym alone.lane) ∙ ap (λ s. by (lane log c) s born_at) (sym alone.since) ∙ ap (λ b. by (lane log c) (since log c) b) (sym alone.born)

  pub unfit_closed : (n : ℕ) (full : Bool) (cause : Cause) (closed after : List Entry) → oldest log ≡ Some n → full ≡ is_full settings log → cause ≡ cause_by full head m in_lane m born_at → closed ≡ add m (Closed n cause) log → after ≡ open_for_head settings m closed → after ≡ grant_to settings back m log (waiting log)
  unfit_closed n full cause closed after first same_full told is opened =
      let due = add m (Closed back (unfit_cause settings log head m back)) log in
      let cause_due = told ∙ ap (λ b. cause_by b head m in_lane m born_at) same_full ∙ cause_is in
      let closed_due : closed ≡ due = is ∙ ap (λ k. add m (Closed k cause) log) (is_oldest n first) ∙ ap (λ why. add m (Closed back why) log) cause_due in
      opened
      ∙ ap (open_for_head settings m) closed_due
      ∙ ap (open_for settings m due) queue
      ∙ sym (ap (grant_to settings back m log) queue ∙ ap (λ b. if b then add m (Leased back head) log else start_new settings head m due) not_fit)

  pub unfit_granted : {S : Type 0} (n : ℕ) (cause : Cause) (closed : List Entry) (grants granted : List (Grant S)) (stream : Option S) → closed ≡ add m (Closed n cause) log → granted ≡ with_new settings m closed (waiting closed) grants → granted ≡ with_granted settings back m stream log (waiting log) grants
  unfit_granted n cause closed grants granted stream is new =
      new
      ∙ ap (λ l. with_new settings m l (waiting l) grants) is
      ∙ ap (λ wants. with_new settings m log wants grants) queue
      ∙ sym (ap (λ wants. with_granted settings back m stream log wants grants) queue ∙ ap (λ b. if b then grants ++ record { want = head; number = back; moment = m; stream = stream } ∷ [] else with_new settings m log (head ∷ others) grants) not_fit)
