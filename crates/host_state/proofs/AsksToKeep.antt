-- A give back asks to keep what is to be idle.
use Rattle.std.proofs.Common.{◌≡◌, ℕ, Bool, true, false, eqb, ◌&&◌, List, Option, Some, None, refl, sym, ap, ◌∙◌, arith}
use Rattle.std.proofs.lemmas.Bool.Decides.{nat_tests}
use Rattle.std.specs.Prelude.{not, is_none, if◌then◌else◌}
use Rattle.std.specs.Option.{option_and_then}
use Rattle.persistence.specs.declared.facts.Facts.{Facts}
use Rattle.persistence.specs.Persistent.{is_persistent}
use Rattle.conn_log.specs.declared.entry.Want.{Want}
use Rattle.conn_log.specs.declared.entry.Cause.{Cause}
use Rattle.conn_log.specs.declared.entry.Entry.{Entry}
use Rattle.conn_log.specs.Connections.{holder_want}
use Rattle.conn_log.specs.Waiting.{waiting}
use Rattle.conn_log.specs.Legal.{owed_for, ending_cause}
use Rattle.host_state.specs.Calls.{Start, is_anyone, becomes_idle}
use Rattle.host_state.specs.Asks.{forbids_for, may_be_kept}

-- a want that forbids reuse, and is the recorded one too, forbids it
same_twice : (persists forbids anyone : Bool) (close : ℕ × Cause) → (not anyone && (persists && not (forbids && forbids))) ≡ (is_none {T = ℕ × Cause} (if not (persists && not forbids) then Some close else None) && not anyone)
same_twice true true true close = refl
same_twice true true false close = refl
same_twice true false true close = refl
same_twice true false false close = refl
same_twice false true true close = refl
same_twice false true false close = refl
same_twice false false true close = refl
same_twice false false false close = refl

same_number : (n : ℕ) → eqb n n ≡ true
same_number n = grind (arith, nat_tests)

pub kept_is_idle : (log : List Entry) (start : Start) (facts : Facts) (now : ℕ) → holder_want log start.number ≡ Some start.want → may_be_kept log start facts ≡ becomes_idle log start.number facts now
kept_is_idle log start facts now recorded =
    let want = start.want in
    ap (λ (held : Option Want). not (is_anyone (waiting log)) && (is_persistent facts && not (want.forbid_reuse && forbids_for want.transfer held))) recorded
    ∙ ap (λ (own : Bool). not (is_anyone (waiting log)) && (is_persistent facts && not (want.forbid_reuse && (own && want.forbid_reuse)))) (same_number want.transfer)
    ∙ same_twice (is_persistent facts) want.forbid_reuse (is_anyone (waiting log)) (start.number, ending_cause facts want)
    ∙ sym (ap (λ (held : Option Want). is_none {T = ℕ × Cause} (option_and_then (owed_for start.number facts) held) && not (is_anyone (waiting log))) recorded)
