-- The first host of a queue is one that there is.
use Rattle.std.proofs.Common.{◌≡◌, ℕ, ◌<◌, Option, Some, None, not, false, sym, ap, subst, IfSome, arith}
use Rattle.std.specs.Prelude.{slice_get}
use Rattle.std.specs.Option.{option_eq}
use Rattle.std.proofs.Math.Dec.{eqb}
use Rattle.std.proofs.lemmas.Bool.Decides.{nat_tests}
use mathlib.Core.Bool.{false≢true}
use Rattle.budget.specs.Lobby.{Queue, IsQueue}
use Rattle.budget.proofs.Queues.{listed_first}

pub first_there : (queue : Queue) (first : Option ℕ) (hosts : ℕ) → first ≡ slice_get queue.order 0 → IsQueue queue → queue.hosts ≡ hosts → IfSome first (λ site. site < hosts)
first_there queue None hosts is there same = tt
first_there queue (Some site) hosts is there same = subst (λ (n : ℕ). site < n) same (there.there site (listed_first queue.order site (sym is)))

-- what is not found to be another than a host is that host
pub not_another : (first : Option ℕ) (host : ℕ) → not (option_eq eqb first (Some host)) ≡ false → first ≡ Some host
not_another None host same = absurd (false≢true (sym same))
not_another (Some one) host same = ap (λ (n : ℕ). Some n) (grind (arith, nat_tests, same))
