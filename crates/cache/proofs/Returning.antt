-- What a give back tells under a budget of one thread: whether the connection is kept, and how many are kept then.
use Rattle.std.proofs.Common.{◌≡◌, ℕ, ◌+◌, ◌<◌, Bool, true, false, cond, ◌&&◌, List, [], length, map, slice_set, slice_index_or, Option, Some, None, refl, sym, ap, subst, ◌∙◌, arith}
use Rattle.std.specs.Prelude.{nat_lt}
use Rattle.std.specs.List.{sum_by}
use Rattle.std.proofs.lemmas.Bool.{eqb-true}
use Rattle.std.proofs.lemmas.Bool.Decides.{nat_tests}
use Rattle.std.proofs.lemmas.List.{length-map}
use Rattle.std.proofs.lemmas.List.Sums.{sum_by-set}
use Rattle.persistence.specs.declared.facts.Facts.{Facts}
use Rattle.budget.specs.Plain.{Plain, IsWithin, TellsOfKept, kept_in}
use Rattle.budget.specs.Limits.{Bounds}
use Rattle.budget.specs.declared.permits.Try.{Try}
use Rattle.budget.specs.declared.permits.Try.TheVariants.{Got as Given, Full, Contended}
use Rattle.conn_log.specs.declared.entry.Entry.{Entry}
use Rattle.conn_log.specs.Connections.{held_number, is_held_by}
use Rattle.conn_log.specs.Legal.{LimitAndFirst}
use Rattle.conn_log.specs.Sound.{IsSound, has_number}
use Rattle.host_state.specs.Steps.{moment_at}
use Rattle.bundle.specs.declared.answers.Back.{Back}
use Rattle.bundle.specs.declared.answers.Back.TheVariants.{Spent, NoKeep, Again, Strange}
use Rattle.host_state.specs.Calls.{spent, returned, after_give_back, becomes_idle, keep_as_told, given_back}
use Rattle.host_state.specs.Effects.{idle_len, one_if}
use Rattle.host_state.specs.Laws.{IsSoundAndQuiet}
use Rattle.bundle.specs.Lease.{HostShown, Leasing}
use Rattle.host_state.specs.Counts.{held_by}
use Rattle.bundle.specs.Replies.{IsBack, GivesBack}
use Rattle.host_state.proofs.Soundness.{idle_as_returned}
use Rattle.host_state.proofs.Counts.{given_back_spends}
use Rattle.cache.specs.Pools.{logs_of}
use Rattle.cache.proofs.HostParts.{ChangesPart}
use Rattle.cache.proofs.OneHost.{log_was, logs_changed, parts_changed}
use Rattle.cache.proofs.SameLog.{hosts_same}
use Rattle.cache.proofs.Sums.{kept_is}

-- what the budget keeps is what it is asked to keep, and else nothing is asked
as_kept : (settings : LimitAndFirst) (log : List Entry) (c : ℕ) (facts : Facts) (now : ℕ) → given_back false Given settings log c facts now ≡ spent (after_give_back settings log c facts now)
as_kept settings log c facts now = by_rest (becomes_idle log c facts now) refl
  where
    by_rest : (b : Bool) → becomes_idle log c facts now ≡ b → cond b (spent (returned log c facts now)) (spent (after_give_back settings log c facts now)) ≡ spent (after_give_back settings log c facts now)
    by_rest true is = ap spent (sym (idle_as_returned settings log c facts now is))
    by_rest false is = refl

-- the holder's connection is the one that the transfer holds
held_as : (number : Option ℕ) (c : ℕ) → has_number number c ≡ true → number ≡ Some c
held_as None c e = absurd (cc)
held_as (Some d) c e = ap Some (eqb-true d c e)

pub held_of : (settings : LimitAndFirst) (log : List Entry) → IsSound settings log → (transfer c : ℕ) → is_held_by log transfer c ≡ true → held_number log transfer ≡ Some c
held_of settings log sound transfer c held = held_as (held_number log transfer) c (sym (sound.orderly.held_once c transfer) ∙ held)

-- one that is to be idle is one more that is kept
pub one_more_idle : (settings : LimitAndFirst) (log : List Entry) (transfer c : ℕ) (facts : Facts) (now : ℕ) → IsSoundAndQuiet settings log → is_held_by log transfer c ≡ true → becomes_idle log c facts now ≡ true
    → idle_len (after_give_back settings log c facts now) ≡ idle_len log + 1
one_more_idle settings log transfer c facts now settled held idle =
    let spends = given_back_spends false Given settings log (after_give_back settings log c facts now) transfer c facts now settled (held_of settings log settled.sound transfer c held) (as_kept settings log c facts now) in
    spends.number_idle ∙ ap (λ (b : Bool). idle_len log + one_if (b && true)) idle

module _ {S : Type 0} (old new : HostShown S) (budget : Plain) (lease : Leasing S) (facts : Facts) (now : ℕ) where
  -- what the bundle tells of a give back under this budget
  abbrev pub Gave : Back S → Type 0
  Gave back = (told : Try) × TellsOfKept budget told × GivesBack false told old new lease facts now back

  abbrev idle : Bool
  idle = becomes_idle old.log lease.start.number facts now

  abbrev after_back : List Entry
  after_back = after_give_back old.settings old.log lease.start.number facts now

  abbrev back_log : List Entry
  back_log = returned old.log lease.start.number facts now

  pub gave_log : (freed : Bool) → Gave (Spent freed) → new.log ≡ after_give_back old.settings old.log lease.start.number facts now
  gave_log freed gave = by_rest idle refl gave.0 gave.2
    where
      by_rest : (b : Bool) → becomes_idle old.log lease.start.number facts now ≡ b → (told : Try)
          → IsBack old new lease (cond b (keep_as_told false told lease.start.number (moment_at old.log now) back_log) (spent after_back)) (Spent freed) → new.log ≡ after_back
      by_rest true is Given back = back.0 ∙ sym (idle_as_returned old.settings old.log lease.start.number facts now is)
      by_rest true is Full back = absurd back
      by_rest true is Contended back = absurd back
      by_rest false is told back = back.0

  -- a lease comes back where the connection is to be idle and the budget keeps none
  pub record KeepsNone (same : Leasing S) : Type 0 where
    pub same_lease : same ≡ lease
    pub same_host : new ≡ old
    pub is_idle : becomes_idle old.log lease.start.number facts now ≡ true
    pub full : kept_in budget.hosts ≡ budget.limits.connects

  pub gave_none : (same : Leasing S) → Gave (NoKeep same) → KeepsNone same
  gave_none same gave = by_rest idle refl gave.0 gave.1 gave.2
    where
      by_rest : (b : Bool) → becomes_idle old.log lease.start.number facts now ≡ b → (told : Try) → TellsOfKept budget told
          → IsBack old new lease (cond b (keep_as_told false told lease.start.number (moment_at old.log now) back_log) (spent after_back)) (NoKeep same) → KeepsNone same
      by_rest true is Given tells back = absurd back
      by_rest true is Full tells back = record { same_lease = back.0; same_host = back.1; is_idle = is; full = tells }
      by_rest true is Contended tells back = absurd back
      by_rest false is told tells back = absurd back

  pub gave_again : (same : Leasing S) → Gave (Again same) → ⊥
  gave_again same gave = by_rest idle gave.0 gave.1 gave.2
    where
      by_rest : (b : Bool) (told : Try) → TellsOfKept budget told → IsBack old new lease (cond b (keep_as_told false told lease.start.number (moment_at old.log now) back_log) (spent after_back)) (Again same) → ⊥
      by_rest true Given tells back = back
      by_rest true Full tells back = back
      by_rest true Contended tells back = tells
      by_rest false told tells back = back

  pub gave_strange : (stray : Leasing S) → Gave (Strange stray) → ⊥
  gave_strange stray gave = by_rest idle gave.0 gave.2
    where
      by_rest : (b : Bool) (told : Try) → IsBack old new lease (cond b (keep_as_told false told lease.start.number (moment_at old.log now) back_log) (spent after_back)) (Strange stray) → ⊥
      by_rest true Given back = back
      by_rest true Full back = back
      by_rest true Contended back = back
      by_rest false told back = back

lower : (n limit : ℕ) → n < limit → nat_lt n limit ≡ true
lower n limit lt = grind (arith, nat_tests, lt)

module _ {S : Type 0} (site : ℕ) (hosts : List (HostShown S)) (was new : HostShown S) (budget later : Plain)
    (there : site < length hosts) (read : was ≡ slice_index_or hosts site was)
    (parts : budget.hosts ≡ map (λ (h : HostShown S). held_by h.log) hosts) (part : ChangesPart site budget later (held_by new.log)) (within : IsWithin later) where
  connects : later.limits.connects ≡ budget.limits.connects
  connects = ap (λ (b : Bounds). b.connects) part.others.limits

  kept_now : kept_in later.hosts ≡ sum_by idle_len (logs_of (slice_set hosts site new))
  kept_now = kept_is (slice_set hosts site new) later (parts_changed hosts site new budget later there parts part)

  -- the budget keeps none where as many are kept as may be
  pub full_kept : new ≡ was → kept_in later.hosts ≡ later.limits.connects → (sum_by idle_len (logs_of hosts) ≡ budget.limits.connects) × (0 < sum_by idle_len (logs_of hosts))
  full_kept same full =
      let as_many : kept_in later.hosts ≡ sum_by idle_len (logs_of hosts) = kept_now ∙ ap (λ (l : List (HostShown S)). sum_by idle_len (logs_of l)) (hosts_same site hosts was new read same) in
      (sym as_many ∙ full ∙ connects, omega (arith, as_many, full, within.limits.some_kept))

  -- where one more is kept there was room for it
  pub room_kept : idle_len new.log ≡ idle_len was.log + 1 → nat_lt (sum_by idle_len (logs_of hosts)) budget.limits.connects ≡ true
  room_kept more =
      let moved = sum_by-set idle_len (logs_of hosts) site new.log [] (subst (λ (n : ℕ). site < n) (sym (length-map hosts (λ (h : HostShown S). h.log))) there) in
      let here : idle_len (slice_index_or (logs_of hosts) site []) ≡ idle_len was.log = ap idle_len (sym (log_was hosts site was there read)) in
      let sum : sum_by idle_len (logs_of (slice_set hosts site new)) ≡ sum_by idle_len (slice_set (logs_of hosts) site new.log) = ap (λ (logs : List (List Entry)). sum_by idle_len logs) (logs_changed hosts site new) in
      lower (sum_by idle_len (logs_of hosts)) budget.limits.connects (omega (arith, moved, here, sum, kept_now, more, connects, within.kept))
