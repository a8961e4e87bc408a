-- Refusals that are handed on.
use Rattle.std.specs.Prelude.{◌≡◌, Result, Ok, Err, IfErr, IsErrAnd}
use Rattle.std.proofs.Common.{subst, sym}
use Rattle.command_line.specs.Refusals.{IsWhy}
use Rattle.command_line.specs.declared.refusal.Refusal.{Refusal}
use Rattle.command_line.specs.declared.refusal.Refusal.TheVariants.{Memory, Wrong}

-- words are refused for a reason that follows
pub why-else : (Holds Other : Type 0) (refusal : Refusal) → (Holds → Other) → IsWhy Holds refusal → IsWhy Other refusal
why-else Holds Other Memory follows why = tt
why-else Holds Other (Wrong text) follows why = follows why

-- a refusal that is handed on has the same reason
pub handed-on : {A : Type 0} (Holds : Type 0) (refusal : Refusal) (result : Result A Refusal) → IsErrAnd result (λ other. other ≡ refusal) → IsWhy Holds refusal → IfErr result (IsWhy Holds)
handed-on Holds refusal (Ok done) same why = tt
handed-on Holds refusal (Err other) same why = subst (IsWhy Holds) (sym same) why

-- a refusal for a reason that holds
pub why-holds : (Holds : Type 0) (refusal : Refusal) → Holds → IsWhy Holds refusal
why-holds Holds Memory holds = tt
why-holds Holds (Wrong text) holds = holds
