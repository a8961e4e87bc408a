-- What one host's part of a plain budget changes of the sums over all hosts.
use Rattle.std.proofs.Common.{◌≡◌, ◌≢◌, ℕ, zero, suc, ◌+◌, ◌<◌, List, [], ◌∷◌, length, refl, ap, arith}
use Rattle.std.specs.List.{sum_by}
use Rattle.std.proofs.lemmas.List.Sums.{sum_by-cons}
use Rattle.budget.specs.declared.permits.Held.{Held}
use Rattle.budget.specs.Plain.{Plain, KeepsOtherHosts, held_at_host, alive_in, kept_in}

module _ (f : Held → ℕ) where
  -- hosts of which each holds the same hold as much
  same_sum : (xs ys : List Held) → length ys ≡ length xs → ((host : ℕ) → held_at_host ys host ≡ held_at_host xs host) → sum_by f ys ≡ sum_by f xs
  same_sum [] [] count same = refl
  same_sum [] (y ∷ ys) count same = absurd (omega (arith, count))
  same_sum (x ∷ xs) [] count same = absurd (omega (arith, count))
  same_sum (x ∷ xs) (y ∷ ys) count same =
      omega (arith, sum_by-cons f x xs, sum_by-cons f y ys, ap f (same 0), same_sum xs ys (omega (arith, count)) (λ host. same (suc host)))

  -- where the others hold the same, the sums differ by what that host holds
  moved : (xs ys : List Held) (host : ℕ) → host < length xs → length ys ≡ length xs → ((other : ℕ) → other ≢ host → held_at_host ys other ≡ held_at_host xs other)
      → sum_by f ys + f (held_at_host xs host) ≡ sum_by f xs + f (held_at_host ys host)
  moved [] ys host there count others = absurd (omega (arith, there))
  moved (x ∷ xs) [] host there count others = absurd (omega (arith, count))
  moved (x ∷ xs) (y ∷ ys) zero there count others =
      omega (arith, sum_by-cons f x xs, sum_by-cons f y ys, same_sum xs ys (omega (arith, count)) (λ other. others (suc other) (λ e. absurd (omega (arith, e)))))
  moved (x ∷ xs) (y ∷ ys) (suc host) there count others =
      let first : f y ≡ f x = ap f (others 0 (λ e. absurd (omega (arith, e)))) in
      omega (arith, first, sum_by-cons f x xs, sum_by-cons f y ys, moved xs ys host (omega (arith, there)) (omega (arith, count)) (λ other n. others (suc other) (λ e. n (omega (arith, e)))))

pub alive_moved : (host : ℕ) (old new : Plain) → host < length old.hosts → KeepsOtherHosts host old new
    → alive_in new.hosts + (held_at_host old.hosts host).alive ≡ alive_in old.hosts + (held_at_host new.hosts host).alive
alive_moved host old new there keeps = moved (λ (h : Held). h.alive) old.hosts new.hosts host there keeps.count keeps.others

pub kept_moved : (host : ℕ) (old new : Plain) → host < length old.hosts → KeepsOtherHosts host old new
    → kept_in new.hosts + (held_at_host old.hosts host).kept ≡ kept_in old.hosts + (held_at_host new.hosts host).kept
kept_moved host old new there keeps = moved (λ (h : Held). h.kept) old.hosts new.hosts host there keeps.count keeps.others
