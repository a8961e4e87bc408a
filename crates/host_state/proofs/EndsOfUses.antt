-- What an owed close tells of the use, and that there is room once what was held is gone.
use Rattle.std.proofs.Common.{◌≡◌, ℕ, ◌<◌, Bool, true, false, List, length, Option, Some, None, is_some, refl, sym, ap, ◌∙◌, arith}
use Rattle.std.specs.Prelude.{◌==◌, if◌then◌else◌}
use Rattle.std.proofs.lemmas.Bool.Decides.{nat_tests}
use Rattle.persistence.specs.declared.facts.Facts.{Facts}
use Rattle.conn_log.specs.declared.entry.Want.{Want}
use Rattle.conn_log.specs.declared.entry.Cause.{Cause}
use Rattle.conn_log.specs.declared.entry.Entry.{Entry}
use Rattle.conn_log.specs.Connections.{open_connections, held_number, holder_want}
use Rattle.conn_log.specs.Waiting.{waits}
use Rattle.conn_log.specs.Legal.{LimitAndFirst, limit_in_force, ends_use, ending_cause, owed_for}
use Rattle.conn_log.specs.Sound.{IsSound}
use Rattle.conn_log.proofs.Steps.{IsGone, fewer_open}
use Rattle.host_state.specs.Steps.{is_full, moment_at}
use Rattle.host_state.specs.Laws.{IsSoundAndQuiet}
use Rattle.budget.specs.declared.permits.Try.TheVariants.{Got}
use Rattle.host_state.specs.Calls.{spent, returned, after_give_back, becomes_idle, keep_as_told, given_back}
use Rattle.host_state.proofs.Soundness.{idle_as_returned}

-- there is room once what was held is gone
pub room_gone : (settings : LimitAndFirst) (log : List Entry) → IsSoundAndQuiet settings log → (c : ℕ) → is_some (holder_want log c) ≡ true → (after : List Entry) → IsGone c log after → is_full settings after ≡ false
room_gone settings log kept c held after gone =
    let fewer = fewer_open settings log kept.sound.orderly c after gone (kept.sound.orderly.held_open c held) in
    differs (length (open_connections after)) (limit_in_force settings after) (omega (arith, fewer, kept.sound.orderly.within, gone.limit settings))
  where
    differs : (a b : ℕ) → a < b → (a == b) ≡ false
    differs a b lt = grind (arith, nat_tests, lt)

-- what an owed close tells of the use
abbrev close_if : Bool → ℕ → Cause → Option (ℕ × Cause)
close_if true c cause = Some (c, cause)
close_if false c cause = None

abbrev cause_of : Option (ℕ × Cause) → Cause → Cause
cause_of None cause = cause
cause_of (Some close) cause = close.1

close_when : (ends : Bool) (c : ℕ) (cause : Cause) (close : Option (ℕ × Cause)) → (let owes : Option (ℕ × Cause) = if ends then Some (c, cause) else None in owes ≡ close) → close_if ends c cause ≡ close
close_when true c cause close is = is
close_when false c cause close is = is

pub owed_ends : (c : ℕ) (facts : Facts) (cause : Cause) (want : Want) → owed_for c facts want ≡ Some (c, cause) → (ends_use facts want ≡ true) × (ending_cause facts want ≡ cause)
owed_ends c facts cause want is = by_end (ends_use facts want) (close_when (ends_use facts want) c (ending_cause facts want) (Some (c, cause)) is)
  where
    by_end : (ends : Bool) → close_if ends c (ending_cause facts want) ≡ Some (c, cause) → (ends ≡ true) × (ending_cause facts want ≡ cause)
    by_end true e = (refl, ap (λ close. cause_of close cause) e)
    by_end false e = absurd (cc)

pub owed_stays : (c : ℕ) (facts : Facts) (want : Want) → owed_for c facts want ≡ None → ends_use facts want ≡ false
owed_stays c facts want is = by_end (ends_use facts want) (close_when (ends_use facts want) c (ending_cause facts want) None is)
  where
    by_end : (ends : Bool) → close_if ends c (ending_cause facts want) ≡ None → ends ≡ false
    by_end true e = absurd (cc)
    by_end false e = refl

pub holder_waits_not : (settings : LimitAndFirst) (log : List Entry) → IsSound settings log → (t c : ℕ) → held_number log t ≡ Some c → waits log t ≡ false
holder_waits_not settings log sound t c mine = by_wait (waits log t) refl
  where
    by_wait : (b : Bool) → waits log t ≡ b → b ≡ false
    by_wait false is = refl
    by_wait true is = let never : None ≡ Some c = sym (sound.orderly.waiting_free t is) ∙ mine in absurd (cc)

-- where the budget gave a permit, or was not asked
pub got_is_spent : (close_if_full : Bool) (settings : LimitAndFirst) (log : List Entry) (c : ℕ) (facts : Facts) (now : ℕ) → given_back close_if_full Got settings log c facts now ≡ spent (after_give_back settings log c facts now)
got_is_spent close_if_full settings log c facts now = by_rest (becomes_idle log c facts now) refl
  where
    by_rest : (idle : Bool) → becomes_idle log c facts now ≡ idle → (if idle then keep_as_told close_if_full Got c (moment_at log now) (returned log c facts now) else spent (after_give_back settings log c facts now)) ≡ spent (after_give_back settings log c facts now)
    by_rest true idle = ap spent (sym (idle_as_returned settings log c facts now idle))
    by_rest false idle = refl
