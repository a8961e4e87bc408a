-- An error that is handed on is refused for what it was refused for.
use Rattle.std.proofs.Common.{◌≡◌, sym, subst, ℕ, Result, Ok, Err, IfErr}
use Rattle.std.specs.Prelude.{IsErrAnd}
use Rattle.load_run.specs.declared.error.LoadError.{LoadError}
use Rattle.load_run.specs.Loading.{IsLoadRefusedFor}

pub handed_on : {T : Type 0} (workers : ℕ) (error : LoadError) (result : Result T LoadError) → IsErrAnd result (λ other. other ≡ error) → IsLoadRefusedFor workers error → IfErr result (IsLoadRefusedFor workers)
handed_on workers error (Ok done) same refused = tt
handed_on workers error (Err other) same refused = subst (IsLoadRefusedFor workers) (sym same) refused
