-- What a log tells of a transfer, entry by entry.
use Rattle.std.proofs.Common.{◌≡◌, ℕ, Bool, true, false, List, [], ◌∷◌, ◌++◌, Option, Some, None, is_some, refl, sym, ap, inl, inr, ◌∙◌, arith}
use Rattle.std.specs.Prelude.{◌==◌, if◌then◌else◌}
use Rattle.std.specs.Option.{option_and_then}
use Rattle.std.specs.List.{list_any}
use mathlib.Core.Bool.{false≢true}
use Rattle.std.proofs.lemmas.Bool.Decides.{nat_tests, eqb_tells}
use Rattle.persistence.specs.declared.facts.Facts.{Facts}
use Rattle.conn_log.specs.declared.entry.Want.{Want}
use Rattle.conn_log.specs.declared.entry.Cause.{Cause}
use Rattle.conn_log.specs.declared.entry.Event.TheVariants.{Opened, Leased, Returned, Closed, Waited, Left}
use Rattle.conn_log.specs.declared.entry.Entry.{Entry}
use Rattle.conn_log.specs.Connections.{transfers_of, holdings, number_among, held_number, holder_want, is_held_by}
use Rattle.conn_log.specs.Waiting.{waiting, waits, without}
use Rattle.conn_log.specs.Legal.{LimitAndFirst}
use Rattle.conn_log.specs.Sound.{AreDistinct, IsOrderly, has_number}
use Rattle.conn_log.proofs.Holdings.{unless_it_is, number_without, number_closed, number_returned, holder_closed, holder_returned}
use Rattle.conn_log.proofs.Steps.{gone_ended, taken_end, taken_same}
use Rattle.host_state.specs.Steps.{add}
use Rattle.host_state.specs.Calls.{Start, last_start}
use Rattle.host_state.specs.Queue.{waiting_want}
use Rattle.host_state.specs.Grants.{granted_want}

-- the connection that it holds, what that was granted for, its last start, and what it waits for
pub record Told : Type 0 where
  pub number : Option ℕ
  pub granted : Option Want
  pub start : Option Start
  pub awaited : Option Want

abbrev pub told : List Entry → ℕ → Told
told log transfer = record { number = held_number log transfer; granted = granted_want log transfer; start = last_start log transfer; awaited = waiting_want (waiting log) transfer }

pub same_told : (n n' : Option ℕ) (g g' : Option Want) (s s' : Option Start) (a a' : Option Want) → n ≡ n' → g ≡ g' → s ≡ s' → a ≡ a' → (let first : Told = record { number = n; granted = g; start = s; awaited = a } in let second : Told = record { number = n'; granted = g'; start = s'; awaited = a' } in first ≡ second)
same_told n n' g g' s s' a a' e1 e2 e3 e4 = cc

-- what transfers wait for, after one started or left, and after one began to wait
pub awaited_others : (transfer u : ℕ) (wants : List Want) → (transfer == u) ≡ false → waiting_want (without transfer wants) u ≡ waiting_want wants u
awaited_others transfer u [] other = refl
awaited_others transfer u (want ∷ wants) other = elim (eqb_tells want.transfer transfer) [
  | inl same ↦
      let apart : (want.transfer == u) ≡ false = ap (λ (n : ℕ). n == u) same.1 ∙ other in
      rw (same.0, apart) (awaited_others transfer u wants other)
  | inr differs ↦ rw differs.0 (ap (λ rest. if want.transfer == u then Some want else rest) (awaited_others transfer u wants other))
]

pub awaited_none : (transfer : ℕ) (wants : List Want) → waiting_want (without transfer wants) transfer ≡ None
awaited_none transfer [] = refl
awaited_none transfer (want ∷ wants) = elim (eqb_tells want.transfer transfer) [
  | inl same ↦ rw same.0 (awaited_none transfer wants)
  | inr differs ↦ rw differs.0 (rw differs.0 (awaited_none transfer wants))
]

pub awaited_last_others : (want : Want) (u : ℕ) (wants : List Want) → (want.transfer == u) ≡ false → waiting_want (wants ++ want ∷ []) u ≡ waiting_want wants u
awaited_last_others want u [] other = rw other refl
awaited_last_others want u (x ∷ wants) other = ap (λ rest. if x.transfer == u then Some x else rest) (awaited_last_others want u wants other)

pub awaited_last : (want : Want) (wants : List Want) → waiting_want wants want.transfer ≡ None → waiting_want (wants ++ want ∷ []) want.transfer ≡ Some want
awaited_last want [] new =
    let it : (want.transfer == want.transfer) ≡ true = grind (arith, nat_tests) in
    rw it refl
awaited_last want (x ∷ wants) new = elim (eqb_tells x.transfer want.transfer) [
  | inl same ↦ let never : Some x ≡ None = rw same.0 at new in absurd (cc)
  | inr differs ↦
      let rest : waiting_want wants want.transfer ≡ None = rw differs.0 at new in
      rw differs.0 (awaited_last want wants rest)
]

-- a transfer waits where it waits for something
pub awaited_waits : (transfer : ℕ) (wants : List Want) → is_some (waiting_want wants transfer) ≡ list_any (λ (want : Want). want.transfer == transfer) wants
awaited_waits transfer [] = refl
awaited_waits transfer (want ∷ wants) = elim (eqb_tells want.transfer transfer) [
  | inl same ↦ rw same.0 refl
  | inr differs ↦ rw differs.0 (awaited_waits transfer wants)
]

pub none_awaited : (log : List Entry) (transfer : ℕ) → waits log transfer ≡ false → waiting_want (waiting log) transfer ≡ None
none_awaited log transfer out = nothing (waiting_want (waiting log) transfer) (awaited_waits transfer (waiting log) ∙ out)
  where
    nothing : (want : Option Want) → is_some want ≡ false → want ≡ None
    nothing None e = refl
    nothing (Some want) e = absurd (cc)

-- a connection is nobody's any more
pub record IsFreed (c : ℕ) (log after : List Entry) : Type 0 where
  pub taken : (transfer : ℕ) → held_number after transfer ≡ unless_it_is c (held_number log transfer)
  pub held : (d : ℕ) → holder_want after d ≡ (if c == d then None else holder_want log d)
  pub waiting : waiting after ≡ waiting log
  pub start : (transfer : ℕ) → last_start after transfer ≡ last_start log transfer

pub freed_closed : (moment c : ℕ) (cause : Cause) (log : List Entry) → AreDistinct (transfers_of (holdings log)) → IsFreed c log (add moment (Closed c cause) log)
freed_closed moment c cause log once = record {
  taken = λ transfer. number_closed moment c cause log transfer once;
  held = holder_closed moment c cause log;
  waiting = refl;
  start = λ transfer. refl;
}

pub freed_returned : (moment c : ℕ) (facts : Facts) (log : List Entry) → AreDistinct (transfers_of (holdings log)) → IsFreed c log (add moment (Returned c facts) log)
freed_returned moment c facts log once = record {
  taken = λ transfer. number_returned moment c facts log transfer once;
  held = holder_returned moment c facts log;
  waiting = refl;
  start = λ transfer. refl;
}

pub freed_ended : (moment c : ℕ) (facts : Facts) (cause : Cause) (log : List Entry) → AreDistinct (transfers_of (holdings log)) → IsFreed c log (add moment (Closed c cause) (add moment (Returned c facts) log))
freed_ended moment c facts cause log once =
    let gone = gone_ended moment c facts cause log in
    record {
      taken = λ transfer. ap (λ held. number_among held transfer) gone.holdings ∙ number_without c transfer (holdings log) once;
      held = gone.held;
      waiting = refl;
      start = λ transfer. refl;
    }

-- a transfer starts
pub record IsStarted (start : Start) (log after : List Entry) : Type 0 where
  pub taken : (transfer : ℕ) → held_number after transfer ≡ (if start.want.transfer == transfer then Some start.number else held_number log transfer)
  pub held : (d : ℕ) → holder_want after d ≡ (if start.number == d then Some start.want else holder_want log d)
  pub waiting : waiting after ≡ without start.want.transfer (waiting log)
  pub begun : (transfer : ℕ) → last_start after transfer ≡ (if start.want.transfer == transfer then Some start else last_start log transfer)

pub started_open : (moment c : ℕ) (want : Want) (log : List Entry) → IsStarted (record { number = c; want = want; moment = moment; reused = false }) log (add moment (Opened c want) log)
started_open moment c want log = record { taken = λ transfer. refl; held = λ d. refl; waiting = refl; begun = λ transfer. refl }

pub started_lease : (moment c : ℕ) (want : Want) (log : List Entry) → IsStarted (record { number = c; want = want; moment = moment; reused = true }) log (add moment (Leased c want) log)
started_lease moment c want log = record { taken = λ transfer. refl; held = λ d. refl; waiting = refl; begun = λ transfer. refl }

module _ (settings : LimitAndFirst) (log : List Entry) (orderly : IsOrderly settings log) where
  pub held_here : (transfer c : ℕ) → held_number log transfer ≡ Some c → is_held_by log transfer c ≡ true
  held_here transfer c is = orderly.held_once c transfer ∙ ap (λ held. has_number held c) is ∙ grind (arith, nat_tests)

  -- what it was granted for stays where the connection's holder does
  pub granted_same : (after : List Entry) (u : ℕ) → held_number after u ≡ held_number log u → ((d : ℕ) → held_number log u ≡ Some d → holder_want after d ≡ holder_want log d) → granted_want after u ≡ granted_want log u
  granted_same after u number holders = ap (option_and_then (holder_want after)) number ∙ by_number (held_number log u) refl
    where
      by_number : (held : Option ℕ) → held_number log u ≡ held → option_and_then (holder_want after) held ≡ option_and_then (holder_want log) held
      by_number None is = refl
      by_number (Some d) is = holders d is

  -- a connection that nobody holds is not the one that a transfer holds
  pub apart_unheld : (c u d : ℕ) → holder_want log c ≡ None → held_number log u ≡ Some d → (c == d) ≡ false
  apart_unheld c u d none is = elim (eqb_tells c d) [
    | inl same ↦
        let nobody : is_held_by log u d ≡ false = rw (sym (ap (holder_want log) same.1) ∙ none) refl in
        absurd (false≢true (sym nobody ∙ held_here u d is))
    | inr other ↦ other.0
  ]

  -- two transfers hold two connections
  pub apart_held : (t u c d : ℕ) → (t == u) ≡ false → held_number log t ≡ Some c → held_number log u ≡ Some d → (c == d) ≡ false
  apart_held t u c d other mine theirs =
      let kept : unless_it_is c (Some d) ≡ Some d = sym (ap (unless_it_is c) theirs) ∙ taken_end settings log orderly c t mine u ∙ ap (λ b. if b then None else held_number log u) other ∙ theirs in
      differs kept
    where
      differs : unless_it_is c (Some d) ≡ Some d → (c == d) ≡ false
      differs kept = elim (eqb_tells d c) [
        | inl same ↦ let never : None ≡ Some d = rw same.0 at kept in absurd (cc)
        | inr apart ↦ grind (arith, nat_tests, apart.0)
      ]

  -- one that nobody held is closed: nothing else is told
  pub told_unheld : (c : ℕ) → holder_want log c ≡ None → (after : List Entry) → IsFreed c log after → (u : ℕ) → told after u ≡ told log u
  told_unheld c none after freed u =
      let number = freed.taken u ∙ taken_same settings log orderly c none u in
      let granted = granted_same after u number (λ d is. freed.held d ∙ ap (λ b. if b then None else holder_want log d) (apart_unheld c u d none is)) in
      same_told _ _ _ _ _ _ _ _ number granted (freed.start u) (ap (λ wants. waiting_want wants u) freed.waiting)

  -- what a transfer held is nobody's: the same is told of others
  pub told_ended : (c t : ℕ) → held_number log t ≡ Some c → (after : List Entry) → IsFreed c log after → (u : ℕ) → (t == u) ≡ false → told after u ≡ told log u
  told_ended c t mine after freed u other =
      let number = freed.taken u ∙ taken_end settings log orderly c t mine u ∙ ap (λ b. if b then None else held_number log u) other in
      let granted = granted_same after u number (λ d is. freed.held d ∙ ap (λ b. if b then None else holder_want log d) (apart_held t u c d other mine is)) in
      same_told _ _ _ _ _ _ _ _ number granted (freed.start u) (ap (λ wants. waiting_want wants u) freed.waiting)

  -- and it holds nothing, and does not wait
  pub ended_number : (c t : ℕ) → held_number log t ≡ Some c → (after : List Entry) → IsFreed c log after → held_number after t ≡ None
  ended_number c t mine after freed =
      let it : (c == c) ≡ true = grind (arith, nat_tests) in
      freed.taken t ∙ ap (unless_it_is c) mine ∙ ap (λ b. if b then None else Some c) it

  pub holder_awaits_nothing : (c t : ℕ) → held_number log t ≡ Some c → waiting_want (waiting log) t ≡ None
  holder_awaits_nothing c t mine = none_awaited log t (waits_not (waits log t) refl)
    where
      waits_not : (b : Bool) → waits log t ≡ b → b ≡ false
      waits_not true is = let never : None ≡ Some c = sym (orderly.waiting_free t is) ∙ mine in absurd (cc)
      waits_not false is = refl

  -- a transfer starts on a connection that nobody holds: the same is told of others
  pub told_others : (start : Start) → holder_want log start.number ≡ None → (after : List Entry) → IsStarted start log after → (u : ℕ) → (start.want.transfer == u) ≡ false → told after u ≡ told log u
  told_others start none after started u other =
      let number = started.taken u ∙ ap (λ b. if b then Some start.number else held_number log u) other in
      let granted = granted_same after u number (λ d is. started.held d ∙ ap (λ b. if b then Some start.want else holder_want log d) (apart_unheld start.number u d none is)) in
      let begun = started.begun u ∙ ap (λ b. if b then Some start else last_start log u) other in
      let awaited = ap (λ wants. waiting_want wants u) started.waiting ∙ awaited_others start.want.transfer u (waiting log) other in
      same_told _ _ _ _ _ _ _ _ number granted begun awaited

-- what is told of the transfer that starts
pub told_started : (start : Start) (log after : List Entry) → IsStarted start log after → told after start.want.transfer ≡ record { number = Some start.number; granted = Some start.want; start = Some start; awaited = None }
told_started start log after started =
    let it : (start.want.transfer == start.want.transfer) ≡ true = grind (arith, nat_tests) in
    let here : (start.number == start.number) ≡ true = grind (arith, nat_tests) in
    let number = started.taken start.want.transfer ∙ ap (λ b. if b then Some start.number else held_number log start.want.transfer) it in
    let granted = ap (option_and_then (holder_want after)) number ∙ started.held start.number ∙ ap (λ b. if b then Some start.want else holder_want log start.number) here in
    let begun = started.begun start.want.transfer ∙ ap (λ b. if b then Some start else last_start log start.want.transfer) it in
    let awaited = ap (λ wants. waiting_want wants start.want.transfer) started.waiting ∙ awaited_none start.want.transfer (waiting log) in
    same_told _ _ _ _ _ _ _ _ number granted begun awaited

-- a transfer begins to wait
pub told_waited_others : (moment : ℕ) (want : Want) (log : List Entry) (u : ℕ) → (want.transfer == u) ≡ false → told (add moment (Waited want) log) u ≡ told log u
told_waited_others moment want log u other = same_told _ _ _ _ _ _ _ _ refl refl refl (awaited_last_others want u (waiting log) other)

-- a transfer leaves
pub told_left_others : (moment transfer : ℕ) (log : List Entry) (u : ℕ) → (transfer == u) ≡ false → told (add moment (Left transfer) log) u ≡ told log u
told_left_others moment transfer log u other = same_told _ _ _ _ _ _ _ _ refl refl refl (awaited_others transfer u (waiting log) other)
