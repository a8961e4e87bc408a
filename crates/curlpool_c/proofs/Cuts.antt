-- The logs of the first hosts are cut, one after the other.
use Rattle.std.proofs.Common.{◌≡◌, ◌⊎◌, ℕ, ◌+◌, ◌<◌, ◌≤◌, List, [], ◌∷◌, ◌++◌, length, drop, take, get_or, map, Option, Some, None, inl, inr, refl, ap, ap₂, sym, ◌∙◌, arith, length-append, length-drop}
use Rattle.std.proofs.Common.{set}
use Rattle.std.proofs.lemmas.List.{length-map, length-take, drop_at, get_or-drop, get_or_default, take_all, drop_all, append-nil, set_past}
use Rattle.std.proofs.lemmas.Option.{slice_get_cases}
use Rattle.std.specs.List.{slice_get}
use Rattle.std.proofs.lemmas.List.Edits.{map_over_more}
use Rattle.bundle.specs.Lease.{HostShown}
use Rattle.cache.specs.Pools.{PoolShown, no_host, host_at, cut_at, cut_host}
use Rattle.held_pool.specs.Calls.{HeldShown}
use Rattle.curlpool_c.specs.Logs.{CutsOne, cut_first, untold, untold_first}

module _ {X : Type 0} (f : X → X) (xs : List X) (i : ℕ) (below : i < length xs) where
  front_length : length (map f (take i xs)) ≡ i
  front_length = length-map (take i xs) f ∙ omega (arith, length-take i xs, below)

  part_length : length (map f (take i xs) ++ drop i xs) ≡ length xs
  part_length = omega (arith, length-append (map f (take i xs)) (drop i xs), front_length, length-drop i xs, below)

  -- what stands there is not changed yet
  at_part : (d : X) → get_or (map f (take i xs) ++ drop i xs) i d ≡ get_or xs i d
  at_part d =
      let none : i + 0 ≡ i = omega arith in
      ap (λ n. get_or (map f (take i xs) ++ drop i xs) n d) (sym none) ∙ sym (get_or-drop i (map f (take i xs) ++ drop i xs) 0 d)
      ∙ ap (λ rest. get_or rest 0 d) (drop_at (map f (take i xs)) (drop i xs) i front_length) ∙ get_or-drop i xs 0 d ∙ ap (λ n. get_or xs n d) none

  -- it is changed next
  one_more : (d : X) → set (map f (take i xs) ++ drop i xs) i (f (get_or (map f (take i xs) ++ drop i xs) i d)) ≡ map f (take (i + 1) xs) ++ drop (i + 1) xs
  one_more d =
      let changed = map f (take i xs) ++ drop i xs in
      map_over_more f xs changed i (get_or changed i d) below refl (get_or_default changed i d (get_or changed i d) (omega (arith, part_length, below)))

module _ (pool : PoolShown ℕ) (site : ℕ) (there : site < length pool.hosts) where
  pub cut_length : length (cut_first site pool).hosts ≡ length pool.hosts
  cut_length = part_length cut_host pool.hosts site there

  pub cut_at_next : host_at (cut_first site pool) site ≡ host_at pool site
  cut_at_next = at_part cut_host pool.hosts site there no_host

  pub cut_more : cut_at site (cut_first site pool) ≡ cut_first (site + 1) pool
  cut_more = ap (λ hosts. record pool { hosts = hosts }) (one_more cut_host pool.hosts site there no_host)

-- of a list of counts, which may be shorter
pub untold_more : (told : List ℕ) (site : ℕ) → set (untold_first site told) site 0 ≡ untold_first (site + 1) told
untold_more told site = by_case (slice_get_cases told site).1
  where
    past_first : (n : ℕ) → length told ≤ n → untold_first n told ≡ map untold told
    past_first n past = ap₂ (λ front rest. map untold front ++ rest) (take_all n told past) (drop_all n told past) ∙ append-nil (map untold told)

    by_case : ((x : ℕ) × (site < length told) × (slice_get told site ≡ Some x) × (get_or told site x ≡ x)) ⊎ ((length told ≤ site) × (slice_get told site ≡ None)) → set (untold_first site told) site 0 ≡ untold_first (site + 1) told
    by_case (inl some) = one_more untold told site some.1 0
    by_case (inr past) =
        let short : length (map untold told) ≤ site = omega (arith, past.0, length-map told untold) in
        ap (λ front. set front site 0) (past_first site past.0) ∙ set_past (map untold told) site 0 short ∙ sym (past_first (site + 1) (omega (arith, past.0)))
