-- The numbers that a worker draws for many jobs at once. One whose job is not due yet is held, and not given out.
use Rattle.std.specs.Prelude.{◌≡◌, ℕ, ◌-◌, ◌<◌, List, [], ◌∷◌, ◌++◌, take, length, Bool, true, false, Option, Some, None}
use Rattle.std.specs.Option.{ForSome}
use Rattle.std.specs.List.{All}
use Rattle.run_loop.specs.Draws.{Jobs, Drawn}

abbrev pub all_but_last : List ℕ → List ℕ
all_but_last numbers = take (length numbers - 1) numbers

-- the numbers that were given out: all that the seat drew, but for the one that is held
abbrev pub given_out : Option ℕ → List ℕ → List ℕ
given_out None drawn = drawn
given_out (Some number) drawn = all_but_last drawn

-- a number was drawn last, and is above all others
pub record IsLast (drawn : List ℕ) (number : ℕ) : Type 0 where
  pub is : drawn ≡ all_but_last drawn ++ number ∷ []
  pub above : All (λ n. n < number) (all_but_last drawn)

-- the seat of a worker, at its run's claim: once a number past the jobs was drawn, no more is
pub record IsDrawing (claim : Jobs) (seat : Drawn) (held : Option ℕ) (is_over : Bool) : Type 0 where
  pub at : seat.claim ≡ claim
  pub over : is_over ≡ true → 0 < seat.past
  pub not_over : is_over ≡ false → seat.past ≡ 0
  pub last : ForSome held (IsLast seat.drawn)

-- what draws leave as it is: the claim, the seat's share
abbrev pub fixed_of : Drawn → Jobs × ℕ
fixed_of seat = (seat.claim, seat.share)
