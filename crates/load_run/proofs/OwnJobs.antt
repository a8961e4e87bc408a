-- The requests and URLs of a load's own server that are made so far.
use Rattle.std.proofs.Common.{◌≡◌, ◌⊎◌, inl, inr, ◌∙◌, ◌<◌, ◌≤◌, ℕ, ◌+◌, ◌%◌, max, min, List, [], ◌∷◌, ◌++◌, ap, get_or, length, map, subst, sym, take, arith}
use Rattle.std.proofs.Math.Nat.{mod-eq_of_lt}
use Rattle.std.proofs.lemmas.List.{map-append, take_more}
use Rattle.std.proofs.lemmas.Nat.{mod_below}
use Rattle.exchange.specs.declared.job.Job.{Job}
use Rattle.load_run.specs.LoadJobs.{AreOwnJobs, IsOwnJob, own_url}
use Rattle.commands.specs.Numbering.{AreNumbered}
use Rattle.commands.specs.declared.load_settings.LoadFlags.{LoadFlags}

-- one more request
pub own_jobs_more : (flags : LoadFlags) (ports : List ℕ) (number : ℕ) (jobs : List Job) (job : Job) → AreOwnJobs flags ports number jobs → IsOwnJob flags ports (number + length jobs) job → AreOwnJobs flags ports number (jobs ++ job ∷ [])
own_jobs_more flags ports number [] job so_far one = (subst (λ n. IsOwnJob flags ports n job) (omega arith) one, tt)
own_jobs_more flags ports number (j ∷ jobs) job so_far one =
    (so_far.0, own_jobs_more flags ports (number + 1) jobs job so_far.1 (subst (λ n. IsOwnJob flags ports n job) (omega arith) one))

-- one more URL
pub own_urls_more : (ports : List ℕ) (place : ℕ) (urls more : List (List ℕ)) (url : List ℕ) → place < length ports → urls ≡ map own_url (take place ports) → more ≡ urls ++ url ∷ [] → url ≡ own_url (get_or ports place 0) → more ≡ map own_url (take (place + 1) ports)
own_urls_more ports place urls more url below so_far added its =
    added
    ∙ ap (λ (l : List (List ℕ)). l ++ url ∷ []) so_far
    ∙ ap (λ (u : List ℕ). map own_url (take place ports) ++ u ∷ []) its
    ∙ sym (map-append own_url (take place ports) (get_or ports place 0 ∷ []))
    ∙ ap (map own_url) (sym (take_more ports place 0 below))

-- the sites of these requests are numbered
next_own : (number count : ℕ) → 0 < count → (number % count ≤ min number count) × (max (min number count) (number % count + 1) ≡ min (number + 1) count)
next_own number count some = by_order (order number count)
  where
    order : (n m : ℕ) → (n < m) ⊎ (m ≤ n)
    order n m = search arith

    by_order : (number < count) ⊎ (count ≤ number) → (number % count ≤ min number count) × (max (min number count) (number % count + 1) ≡ min (number + 1) count)
    by_order (inl below) = let same = mod-eq_of_lt below in (omega (arith, below, same), omega (arith, below, same))
    by_order (inr past) = let least = mod_below number count some in (omega (arith, past, least), omega (arith, past, least))

pub own_numbered : (flags : LoadFlags) (ports : List ℕ) (number : ℕ) (jobs : List Job) → 0 < length ports → AreOwnJobs flags ports number jobs → AreNumbered (min number (length ports)) jobs
own_numbered flags ports number [] some are = tt
own_numbered flags ports number (job ∷ jobs) some are =
    let count = length ports in
    let at : job.site ≡ number % count = ap (λ (j : Job). j.site) are.0.is_job in
    let next = next_own number count some in (
      subst (λ n. n ≤ min number count) (sym at) next.0,
      subst (λ n. AreNumbered n jobs) (sym (ap (λ n. max (min number count) (n + 1)) at ∙ next.1)) (own_numbered flags ports (number + 1) jobs some are.1),
    )
