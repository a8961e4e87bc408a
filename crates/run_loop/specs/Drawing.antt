-- What a draw of a job tells.
use Rattle.std.specs.Prelude.{◌≡◌, ℕ, ◌<◌, List, [], ◌∷◌, ◌++◌, Option, Some, None}
use Rattle.std.specs.List.{All}
use Rattle.run_loop.specs.declared.jobs.Draw.{Draw}
use Rattle.run_loop.specs.declared.jobs.Draw.TheVariants.{Job, Later, Over}

-- a number above all that were drawn before is drawn, if any is
abbrev pub DrawsNumber : Option ℕ → List ℕ → List ℕ → Type 0
DrawsNumber (Some number) old new = All (λ n. n < number) old × (new ≡ old ++ number ∷ [])
DrawsNumber None old new = new ≡ old

-- the number that a draw gives, if it gives one
abbrev pub drawn_number : Draw → Option ℕ
drawn_number (Job number) = Some number
drawn_number (Later due) = None
drawn_number Over = None

-- once no job is left, this holds
abbrev pub IfOver : Draw → Type 0 → Type 0
IfOver Over P = P
IfOver _ P = Unit {0}
