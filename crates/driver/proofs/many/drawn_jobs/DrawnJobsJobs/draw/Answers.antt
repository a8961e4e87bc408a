-- The number that is held was drawn last, and is above all others.
use Rattle.std.proofs.Common.{rules, ◌≡◌, ◌<◌, ◌++◌, ◌∷◌, [], ℕ, List, Some, subst}
use Rattle.std.specs.List.{All}
use Rattle.driver.specs.ManyJobs.{given_out, all_but_last, IsLast}
use Rattle.driver.proofs.ManyWork.{is_last_of}
use Rattle.driver.proofs.many.drawn_jobs.DrawnJobsJobs.draw.Goals as goal

pub returns-clause-draws : goal.returns-clause-draws
returns-clause-draws g c =
    let new = c.hold_next.new.self in
    let was = given_out c.args.self.now.held c.args.self.now.seat.drawn in
    let number = c.in-Some.number in
    let held : new.held ≡ Some number = search rules in
    let same : given_out new.held new.seat.drawn ≡ was = search rules in
    let given : all_but_last new.seat.drawn ≡ was = subst (λ h. given_out h new.seat.drawn ≡ was) held same in
    let last : IsLast new.seat.drawn number = is_last_of new.seat.drawn number new.held held new.drawing.last in
    (subst (All (λ n. n < number)) given last.above, subst (λ (l : List ℕ). new.seat.drawn ≡ l ++ number ∷ []) given last.is)
