-- A return whose close is due, beside the tables that leave it out.
use Rattle.std.proofs.Common.{◌≡◌, ℕ, ◌+◌, ◌≤◌, Bool, true, false, List, [], ◌∷◌, length, filter, Option, Some, None, is_some, is_none, refl, sym, ap, inl, inr, ◌∙◌, arith}
use Rattle.persistence.specs.declared.facts.Facts.{Facts}
use Rattle.persistence.specs.declared.facts.Version.TheVariants.{V11}
use Rattle.persistence.specs.declared.facts.Framing.TheVariants.{NoBody}
use Rattle.conn_log.specs.declared.entry.Cause.{Cause}
use Rattle.conn_log.specs.declared.entry.Entry.{Entry}
use Rattle.conn_log.specs.Connections.{last_moment, open_connections, holder_want, idle_connections}
use Rattle.conn_log.specs.Waiting.{waiting}
use Rattle.conn_log.specs.Legal.{LimitAndFirst, limit_in_force, Allows}
use Rattle.conn_log.specs.Sound.{IsSound}
use Rattle.conn_log.proofs.Sorted.{told}
use Rattle.conn_log.proofs.Steps.{more_idle}
use Rattle.log_judge.specs.declared.due.Due.{Due}
use Rattle.log_judge.specs.Rules.{of_debt, first_broken}
use Rattle.log_judge.specs.Tables.{IsDue, entry_of, with_due}
use Rattle.log_judge.proofs.AllowedEvents.{unbroken_parts, allows}

-- an entry that breaks no rule may be taken: where a close is due it is that close
pub may_take : (settings : LimitAndFirst) (log : List Entry) (e : Entry) → IsSound settings log → first_broken settings log e ≡ None → (last_moment log ≤ e.moment) × Allows settings log e.moment e.event
may_take settings log e sound none =
    let parts = unbroken_parts settings log e none in
    (parts.0, allows settings log sound e.moment e.event (sym (ap (λ (d : Option (ℕ × Cause)). of_debt settings log d e.moment e.event) sound.settled) ∙ parts.1))

-- no more are idle than open
pub idle_open : (log : List Entry) → length (idle_connections log) ≤ length (open_connections log)
idle_open log = some_of (λ c. is_none (holder_want log c)) (open_connections log)
  where
    some_of : (p : ℕ → Bool) (xs : List ℕ) → length (filter p xs) ≤ length xs
    some_of p [] = omega arith
    some_of p (x ∷ xs) = elim (told (p x)) [
      | inl passes ↦ rw passes (omega (arith, some_of p xs))
      | inr fails ↦ rw fails (omega (arith, some_of p xs))
    ]

-- what it changes: one more is idle, and nothing else
pub open_due : (due : Option Due) (log : List Entry) → open_connections (with_due due log) ≡ open_connections log
open_due None log = refl
open_due (Some due) log = refl

pub waiting_due : (due : Option Due) (log : List Entry) → waiting (with_due due log) ≡ waiting log
waiting_due None log = refl
waiting_due (Some due) log = refl

pub limit_due : (settings : LimitAndFirst) (due : Option Due) (log : List Entry) → limit_in_force settings (with_due due log) ≡ limit_in_force settings log
limit_due settings None log = refl
limit_due settings (Some due) log = refl

-- some facts that let a connection persist
abbrev persistent : Facts
persistent = record { version = V11; close = false; keep_alive = false; request_close = false; framing = NoBody; both_lengths = false; upgraded = false; whole = true; surplus = false }

pub idle_due : (settings : LimitAndFirst) (log : List Entry) (due : Due) → IsSound settings log → IsDue log due → length (idle_connections (entry_of due ∷ log)) ≡ length (idle_connections log) + 1
idle_due settings log due sound is =
    let is_held = ap is_some is.held in
    more_idle settings log sound.orderly due.moment due.connection persistent refl (sound.orderly.held_open due.connection is_held) is_held
