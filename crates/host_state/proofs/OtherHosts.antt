-- What becomes of another host's place in the lobby as one host is marked, or had its turn.
use Rattle.std.proofs.Common.{◌≡◌, ℕ, Bool, true, false, ◌==◌, List, refl, ◌∙◌, arith}
use Rattle.std.proofs.lemmas.Bool.Decides.{nat_tests}
use Rattle.budget.specs.Lobby.{Queue, is_listed}
use Rattle.budget.proofs.Queues.{listed_last, listed_without, listed_turned}
use Rattle.host_state.specs.Orders.{Lists, IsMarked, HadTurn, order_after, order_after_turn}

pub still_listed : (host other : ℕ) (was is : Bool) (order : List ℕ) → (host == other) ≡ false → is_listed (order_after host was is order) other ≡ is_listed order other
still_listed host other false false order apart = refl
still_listed host other false true order apart = grind (arith, nat_tests, listed_last order host other, apart)
still_listed host other true false order apart = grind (arith, nat_tests, listed_without order host other, apart)
still_listed host other true true order apart = refl

pub listed_after_turn : (host other : ℕ) (is : Bool) (order : List ℕ) → (host == other) ≡ false → is_listed (order_after_turn host is order) other ≡ is_listed order other
listed_after_turn host other true order apart = listed_turned order other
listed_after_turn host other false order apart = grind (arith, nat_tests, listed_without order host other, apart)

-- the lobby still lists another host exactly where that is queued
pub lists_other : (host other : ℕ) (was is queued : Bool) (old new : Queue) → (host == other) ≡ false → IsMarked host was is old new → Lists other queued old → Lists other queued new
lists_other host other was is queued old new apart marked lists = record {
  there = rw marked.hosts lists.there;
  listed = rw marked.order (still_listed host other was is old.order apart ∙ lists.listed);
}

pub lists_other_after_turn : (host other : ℕ) (is queued : Bool) (old new : Queue) → (host == other) ≡ false → HadTurn host is old new → Lists other queued old → Lists other queued new
lists_other_after_turn host other is queued old new apart turn lists = record {
  there = rw turn.hosts lists.there;
  listed = rw turn.order (listed_after_turn host other is old.order apart ∙ lists.listed);
}
