-- The places of hosts.
use Rattle.std.specs.Prelude.{◌≡◌, ℕ, true, Result, IfOk}
use Rattle.crawl.specs.Hosts.{KeepsInUse, is_in_use}
use Rattle.crawl.specs.declared.hosts.Hosts.{Hosts}
use Rattle.crawl.specs.declared.placed.Placed.{Placed}
use Rattle.crawl.specs.declared.placed.Placed.TheVariants.{At}

-- this is true of the place, if there is one
abbrev pub IfAt : (ℕ → Type 0) → Placed → Type 0
IfAt P (At place) = P place
IfAt P _ = Unit {0}

-- hosts with transfers keep their places, and the place that is given is in use
pub record GivesPlace {E : Type 0} (old new : Hosts) (result : Result Placed E) : Type 0 where
  pub keeps : KeepsInUse old.table new.table old.in_use.items new.in_use.items
  pub in_use : IfOk result (IfAt (λ place. is_in_use new.in_use.items place ≡ true))
