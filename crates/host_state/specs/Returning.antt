-- What a return answers, by the case of the answer.
use Rattle.host_state.specs.declared.held.Held.{Held}
use Rattle.host_state.specs.declared.returned.Returned.{Returned}
use Rattle.host_state.specs.declared.returned.Returned.TheVariants.{Idle, Ended, Unkept, Strange}

-- where the transfer holds it
abbrev pub OnHeld : {S : Type 0} → Returned S → Type 0 → Type 0
OnHeld (Strange stream) P = Unit {0}
OnHeld _ P = P

-- where it is idle
abbrev pub IfIdle : {S : Type 0} → Returned S → (Held → Type 0) → Type 0
IfIdle (Idle held) P = P held
IfIdle _ P = Unit {0}

-- where its use ended
abbrev pub OnEnded : {S : Type 0} → Returned S → Type 0 → Type 0
OnEnded Ended P = P
OnEnded _ P = Unit {0}

-- where it may not be kept
abbrev pub IfUnkept : {S : Type 0} → Returned S → (S → Type 0) → Type 0
IfUnkept (Unkept stream) P = P stream
IfUnkept _ P = Unit {0}

-- where the transfer does not hold it
abbrev pub IfStrange : {S : Type 0} → Returned S → (S → Type 0) → Type 0
IfStrange (Strange stream) P = P stream
IfStrange _ P = Unit {0}
