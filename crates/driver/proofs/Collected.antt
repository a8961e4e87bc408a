-- The results of workers, put in the order of their jobs one worker after another.
use Rattle.std.proofs.Common.{◌≡◌, refl, sym, subst, ap, ◌∙◌, ℕ, zero, suc, set, take, get_or, ◌+◌, ◌<◌, ◌==◌, ◌⊎◌, inl, inr, List, [], ◌∷◌, ◌++◌, length, map, Option, Some, None, IsSomeAnd, arith}
use Rattle.std.specs.Prelude.{slice_get, IfNone, IsSome}
use Rattle.std.specs.List.{All, Contains}
use Rattle.std.proofs.lemmas.List.{append-nil, map-append, length-append, length-set, take_more}
use Rattle.std.proofs.lemmas.List.Elements.{All-append, All-push, All-nil, All-pop, All-contains, All-weaker, Contains-append_left, Contains-append_right, Contains-push}
use Rattle.std.proofs.lemmas.List.Sums.{sum_by-append}
use Rattle.std.proofs.lemmas.List.Concat.{flat_map-append}
use Rattle.std.proofs.lemmas.Option.{slice_get_within}
use Rattle.std.proofs.lemmas.Bool.{cases_eq}
use Rattle.std.proofs.lemmas.Bool.Decides.{nat_tests}
use Rattle.budget.proofs.Sums.{one_if}
use Rattle.budget.specs.Words.{whole}
use Rattle.run_loop.specs.Draws.{Drawn, Jobs, times, AreFirst, first_seat, together}
use Rattle.exchange.specs.declared.job.Job.{Job}
use Rattle.exchange.specs.declared.done.Done.{Done}
use Rattle.exchange.specs.Worlds.{World}
use Rattle.bundle.specs.Passes.{Accounts}
use Rattle.shared_cache.specs.Names.{CacheNames}
use Rattle.shared_cache.specs.Passes.{IsPassOf}
use Rattle.driver.specs.declared.quit.Quit.{Quit}
use Rattle.driver.specs.declared.quit.Quit.TheVariants.{Memory, Poll, Told}
use Rattle.driver.specs.Quits.{first_quit}
use Rattle.run_loop.specs.Running.{numbers_of}
use Rattle.driver.specs.Results.{IsResultOf, IsResultAt}
use Rattle.driver.specs.Workers.{WorkerShown, left_with, AreResults}
use Rattle.driver.specs.Running.{Work, IsWork, results_of, results_of_all, pass_of}
use Rattle.driver.specs.Hiring.{HasWorked, IsPlaced}

abbrev Result : Type 0
Result = ℕ × Done

-- there is something where it holds of it
pub some_from : {X : Type 0} (P : X → Type 0) (at : Option X) → IsSomeAnd at P → IsSome at
some_from P (Some x) is = refl
some_from P None is = absurd is

-- how often a number stands among the numbers of results
pub numbers_both : (some more : List Result) → numbers_of (some ++ more) ≡ numbers_of some ++ numbers_of more
numbers_both some more = map-append (λ (result : Result). result.0) some more

times_both : (job : ℕ) (some more : List Result) → times job (numbers_of (some ++ more)) ≡ times job (numbers_of some) + times job (numbers_of more)
times_both job some more = ap (times job) (numbers_both some more) ∙ sum_by-append (λ n. one_if (job == n)) (numbers_of some) (numbers_of more)

-- the place of a number has a result of that number
abbrev pub IsHeld : List Done → List Result → ℕ → Type 0
IsHeld results all job = IsSomeAnd (slice_get results job) (λ done. Contains all (job, done))

-- each number that stands among them has one
abbrev pub AreHeld : List Done → List Result → Type 0
AreHeld results all = (job : ℕ) → 0 < times job (numbers_of all) → IsHeld results all job

held_by_more : (all own : List Result) (job : ℕ) (at : Option Done) → IsSomeAnd at (λ done. Contains all (job, done)) → IsSomeAnd at (λ done. Contains (all ++ own) (job, done))
held_by_more all own job (Some done) is = Contains-append_left all own (job, done) is
held_by_more all own job None is = absurd is

held_by_last : (all own : List Result) (job : ℕ) (at : Option Done) → IsSomeAnd at (λ done. Contains own (job, done)) → IsSomeAnd at (λ done. Contains (all ++ own) (job, done))
held_by_last all own job (Some done) is = Contains-append_right all own (job, done) is
held_by_last all own job None is = absurd is

-- what stands in a list where one place is written
got_there : (results : List Done) (number : ℕ) (done : Done) → number < length results → slice_get (set results number done) number ≡ Some done
got_there [] number done there = absurd (omega (arith, there))
got_there (first ∷ others) zero done there = refl
got_there (first ∷ others) (suc number) done there = got_there others number done (omega (arith, there))

got_elsewhere : (results : List Done) (number job : ℕ) (done : Done) → (job ≡ number → ⊥) → slice_get (set results number done) job ≡ slice_get results job
got_elsewhere [] number job done apart = refl
got_elsewhere (first ∷ others) zero zero done apart = absurd (apart refl)
got_elsewhere (first ∷ others) zero (suc job) done apart = refl
got_elsewhere (first ∷ others) (suc number) zero done apart = refl
got_elsewhere (first ∷ others) (suc number) (suc job) done apart = got_elsewhere others number job done (λ same. apart (ap suc same))

-- a number stands not more often among the numbers of results with one of another number
not_more : (job number : ℕ) (done : Done) (own : List Result) → (job ≡ number → ⊥) → times job (numbers_of own) ≡ 0 → times job (numbers_of (own ++ (number, done) ∷ [])) ≡ 0
not_more job number done own apart none =
    let both = times_both job own ((number, done) ∷ []) in
    let other : times job (number ∷ []) ≡ 0 = grind (arith, nat_tests) in
    omega (arith, both, other, none)

-- one result more is put in its place
just_put : (own : List Result) (now : List Done) (number : ℕ) (done : Done) → number < length now → IsHeld (set now number done) (own ++ (number, done) ∷ []) number
just_put own now number done there =
    subst (λ (at : Option Done). IsSomeAnd at (λ done'. Contains (own ++ (number, done) ∷ []) (number, done'))) (sym (got_there now number done there)) (Contains-push own (number, done))

put_elsewhere : (own : List Result) (old now : List Done) (number job : ℕ) (done : Done) → (job ≡ number → ⊥)
    → IsSomeAnd (slice_get now job) (λ done. Contains own (job, done)) ⊎ ((slice_get now job ≡ slice_get old job) × (times job (numbers_of own) ≡ 0))
    → IsSomeAnd (slice_get (set now number done) job) (λ found. Contains (own ++ (number, done) ∷ []) (job, found)) ⊎ ((slice_get (set now number done) job ≡ slice_get old job) × (times job (numbers_of (own ++ (number, done) ∷ [])) ≡ 0))
put_elsewhere own old now number job done apart (inl held) =
    inl (subst (λ (at : Option Done). IsSomeAnd at (λ found. Contains (own ++ (number, done) ∷ []) (job, found))) (sym (got_elsewhere now number job done apart)) (held_by_more own ((number, done) ∷ []) job (slice_get now job) held))
put_elsewhere own old now number job done apart (inr same) =
    inr (got_elsewhere now number job done apart ∙ same.0, not_more job number done own apart same.1)

placed_at : (own : List Result) (old now : List Done) (number : ℕ) (done : Done) → IsPlaced own old now → number < length now → (job : ℕ) → (job ≡ number) ⊎ (job ≡ number → ⊥)
    → IsSomeAnd (slice_get (set now number done) job) (λ found. Contains (own ++ (number, done) ∷ []) (job, found)) ⊎ ((slice_get (set now number done) job ≡ slice_get old job) × (times job (numbers_of (own ++ (number, done) ∷ [])) ≡ 0))
placed_at own old now number done placed there job (inl same) = inl (subst (IsHeld (set now number done) (own ++ (number, done) ∷ [])) (sym same) (just_put own now number done there))
placed_at own old now number done placed there job (inr apart) = put_elsewhere own old now number job done apart (placed.each job)

pub placed_more : (own : List Result) (old now : List Done) (number : ℕ) (done : Done) → IsPlaced own old now → number < length now → IsPlaced (own ++ (number, done) ∷ []) old (set now number done)
placed_more own old now number done placed there = record {
  number = length-set now number done ∙ placed.number;
  each = λ job. placed_at own old now number done placed there job (cases_eq job number);
}

pub placed_next : (own : List Result) (place : ℕ) (otherwise : Result) (old now : List Done) → All (λ (result : Result). result.0 < length old) own → place < length own → IsPlaced (take place own) old now
    → IsPlaced (take (place + 1) own) old (set now (get_or own place otherwise).0 (get_or own place otherwise).1)
placed_next own place otherwise old now within there placed =
    let result = get_or own place otherwise in
    let inside = within place otherwise there in
    let same = placed.number in
    subst (λ (some : List Result). IsPlaced some old (set now result.0 result.1)) (sym (take_more own place otherwise there)) (placed_more (take place own) old now result.0 result.1 placed (omega (arith, inside, same)))

pub none_placed : (results : List Done) → IsPlaced [] results results
none_placed results = record { number = refl; each = λ job. inr (refl, refl) }

-- results of one worker more are put in their places
held_more : (old new : List Done) (all own : List Result) → AreHeld old all → IsPlaced own old new → AreHeld new (all ++ own)
held_more old new all own held placed job stands = placed_or_held (placed.each job)
  where
    placed_or_held : IsSomeAnd (slice_get new job) (λ done. Contains own (job, done)) ⊎ ((slice_get new job ≡ slice_get old job) × (times job (numbers_of own) ≡ 0)) → IsHeld new (all ++ own) job
    placed_or_held (inl is) = held_by_last all own job (slice_get new job) is
    placed_or_held (inr same) =
        let both = times_both job all own in
        let none = same.1 in
        subst (λ (at : Option Done). IsSomeAnd at (λ done. Contains (all ++ own) (job, done))) (sym same.0) (held_by_more all own job (slice_get old job) (held job (omega (arith, both, none, stands))))

-- the results of all workers, with those of one more
results_last : (all_work : List Work) (work : Work) → results_of_all (all_work ++ work ∷ []) ≡ results_of_all all_work ++ work.results
results_last all_work work = flat_map-append results_of all_work (work ∷ []) ∙ ap (λ last. results_of_all all_work ++ last) (append-nil work.results)

module _ {W : Type 0} (world : World W) (may_stop : ℕ → Type 0) (names : CacheNames) (jobs : List Job) where
  -- what some of the workers have done: their passes, what they drew, and where their results are
  pub record IsCollected (seat : Drawn) (results : List Done) (passes : List Accounts) : Type 0 where
    pub all_work : List Work
    pub worked : All (IsWork world may_stop names jobs) all_work
    pub passes_are : passes ≡ map pass_of all_work
    pub drawn : seat.drawn ≡ numbers_of (results_of_all all_work)
    pub held : AreHeld results (results_of_all all_work)
    pub fits : AreResults world may_stop jobs (results_of_all all_work)

  -- nothing was done yet
  pub none_collected : (seat : Drawn) (results : List Done) → seat.drawn ≡ [] → IsCollected seat results []
  none_collected seat results none = record {
    all_work = [];
    worked = All-nil (IsWork world may_stop names jobs);
    passes_are = refl;
    drawn = none;
    held = λ job stands. absurd (omega (arith, stands));
    fits = All-nil (λ (result : Result). IsResultAt world may_stop jobs result.0 result.1);
  }

  -- one worker more
  pub collected_more : (seat other : Drawn) (old new : List Done) (passes : List Accounts) (work : Work) → IsCollected seat old passes
      → IsWork world may_stop names jobs work → other.drawn ≡ numbers_of work.results → AreResults world may_stop jobs work.results → IsPlaced work.results old new
      → IsCollected (together seat other) new (passes ++ work.pass ∷ [])
  collected_more seat other old new passes work so_far does drawn fits placed =
      let all = results_of_all so_far.all_work in
      let last : results_of_all (so_far.all_work ++ work ∷ []) ≡ all ++ work.results = results_last so_far.all_work work in
      record {
        all_work = so_far.all_work ++ work ∷ [];
        worked = All-push (IsWork world may_stop names jobs) so_far.all_work work so_far.worked does;
        passes_are = ap (λ (some : List Accounts). some ++ work.pass ∷ []) so_far.passes_are ∙ sym (map-append pass_of so_far.all_work (work ∷ []));
        drawn = ap (λ (some : List ℕ). some ++ other.drawn) so_far.drawn ∙ ap (λ (more : List ℕ). numbers_of all ++ more) drawn ∙ sym (numbers_both all work.results) ∙ ap numbers_of (sym last);
        held = subst (AreHeld new) (sym last) (held_more old new all work.results so_far.held placed);
        fits = subst (AreResults world may_stop jobs) (sym last) (All-append (λ (result : Result). IsResultAt world may_stop jobs result.0 result.1) all work.results so_far.fits fits);
      }

  -- the place of each job has its result, once each number was drawn
  first_stands : (job : ℕ) (numbers : List ℕ) → AreFirst (length jobs) numbers → job < length jobs → 0 < times job numbers
  first_stands job numbers once there =
      let stands = once job in
      grind (arith, nat_tests)

  fits_at : (job : ℕ) (all : List Result) (at : Option Done) → AreResults world may_stop jobs all → IsSomeAnd at (λ done. Contains all (job, done)) → IsSomeAnd at (λ done. Contains all (job, done) × IsResultAt world may_stop jobs job done)
  fits_at job all (Some done) fits is = (is, All-contains (λ (result : Result). IsResultAt world may_stop jobs result.0 result.1) all (job, done) fits is)
  fits_at job all None fits is = absurd is

  pub each_fits : (results : List Done) (all : List Result) (numbers : List ℕ) → numbers ≡ numbers_of all → AreHeld results all → AreResults world may_stop jobs all → AreFirst (length jobs) numbers
      → (job : ℕ) → job < length jobs → IsSomeAnd (slice_get results job) (λ done. Contains all (job, done) × IsResultAt world may_stop jobs job done)
  each_fits results all numbers same held fits once job there =
      fits_at job all (slice_get results job) fits (held job (first_stands job (numbers_of all) (subst (AreFirst (length jobs)) same once) there))

-- how far the end of a run is: some workers have left, with their seats, their passes and their results
module _ {W : Type 0} (world : World W) (may_stop : ℕ → Type 0) (names : CacheNames) (jobs : List Job) (claim : Jobs) (all : ℕ) where
  pub record IsGoing (seat : Drawn) (workers : List WorkerShown) (results : List Done) (passes : List Accounts) (quit : Option Quit) : Type 0 where
    pub claim_is : seat.claim ≡ claim
    pub share : seat.share + length workers ≡ whole
    pub number : length results ≡ length jobs
    pub worked : All (HasWorked world may_stop names claim jobs) workers
    pub passes_of : All (IsPassOf names) passes
    pub passes_number : length passes + length workers ≡ all
    pub past : IfNone quit ((length workers ≡ all) ⊎ (0 < seat.past))
    pub collected : IfNone quit (IsCollected world may_stop names jobs seat results passes)

  pub none_left_yet : (seat : Drawn) (workers : List WorkerShown) (results : List Done) → seat ≡ record (first_seat claim) { share = seat.share } → seat.share + length workers ≡ whole → length results ≡ length jobs
      → All (HasWorked world may_stop names claim jobs) workers → length workers ≡ all → IsGoing seat workers results [] None
  none_left_yet seat workers results is share number worked count = record {
    claim_is = ap (λ (s : Drawn). s.claim) is;
    share = share;
    number = number;
    worked = worked;
    passes_of = All-nil (IsPassOf names);
    passes_number = omega (arith, count);
    past = inl count;
    collected = none_collected world may_stop names jobs seat results (ap (λ (s : Drawn). s.drawn) is);
  }

  -- what the last of them has done
  pub last_worked : (workers rest : List WorkerShown) (worker : WorkerShown) → workers ≡ rest ++ worker ∷ [] → All (HasWorked world may_stop names claim jobs) workers → HasWorked world may_stop names claim jobs worker
  last_worked workers rest worker is worked = (All-pop (HasWorked world may_stop names claim jobs) workers rest (Some worker) is worked).1

  -- nothing is asked where one has given up
  has_quit : (P : Type 0) (quit : Quit) (earlier : Option Quit) → IfNone (first_quit (Some quit) earlier) P
  has_quit P Memory earlier = tt
  has_quit P Poll earlier = tt
  has_quit P Told None = tt
  has_quit P Told (Some quit) = tt

  next_past : (seat other : Drawn) (met quit : Option Quit) (rest : List WorkerShown) → IfNone met (0 < other.past) → IfNone (first_quit met quit) ((length rest ≡ all) ⊎ (0 < (together seat other).past))
  next_past seat other (Some one) quit rest past = has_quit _ one quit
  next_past seat other None (Some one) rest past = tt
  next_past seat other None None rest past = inr (omega (arith, past))

  next_collected : (opened failed : ℕ) (seat other : Drawn) (results placed : List Done) (passes : List Accounts) (pass : Accounts) (own : List Result) (met quit : Option Quit)
      → HasWorked world may_stop names claim jobs (left_with opened failed other pass own met) → IsPlaced own results placed → IfNone quit (IsCollected world may_stop names jobs seat results passes)
      → IfNone (first_quit met quit) (IsCollected world may_stop names jobs (together seat other) placed (passes ++ pass ∷ []))
  next_collected opened failed seat other results placed passes pass own (Some one) quit has put so_far = has_quit _ one quit
  next_collected opened failed seat other results placed passes pass own None (Some one) has put so_far = tt
  next_collected opened failed seat other results placed passes pass own None None has put so_far =
      collected_more world may_stop names jobs seat other results placed passes (record { results = own; pass = pass }) so_far has.work has.drawn has.fit put

  -- one worker more has left
  pub next_going : (opened failed : ℕ) (seat other : Drawn) (workers rest : List WorkerShown) (results placed : List Done) (passes : List Accounts) (pass : Accounts) (own : List Result) (met quit : Option Quit)
      → workers ≡ rest ++ left_with opened failed other pass own met ∷ [] → IsPlaced own results placed → IsGoing seat workers results passes quit → IsGoing (together seat other) rest placed (passes ++ pass ∷ []) (first_quit met quit)
  next_going opened failed seat other workers rest results placed passes pass own met quit is put going =
      let has = last_worked workers rest (left_with opened failed other pass own met) is going.worked in
      let fewer = ap (λ (some : List WorkerShown). length some) is ∙ length-append rest (left_with opened failed other pass own met ∷ []) in
      let more = length-append passes (pass ∷ []) in
      let share = going.share in
      let one = has.share_is in
      let count = going.passes_number in
      record {
        claim_is = going.claim_is;
        share = omega (arith, fewer, share, one);
        number = put.number ∙ going.number;
        worked = (All-pop (HasWorked world may_stop names claim jobs) workers rest (Some (left_with opened failed other pass own met)) is going.worked).0;
        passes_of = All-push (IsPassOf names) passes pass going.passes_of has.pass_is;
        passes_number = omega (arith, fewer, more, count);
        past = next_past seat other met quit rest has.past;
        collected = next_collected opened failed seat other results placed passes pass own met quit has put going.collected;
      }

  -- with what a call says of each part
  pub same_going : (seat same_seat : Drawn) (workers : List WorkerShown) (results same_results : List Done) (passes same_passes : List Accounts) (quit same_quit : Option Quit)
      → same_seat ≡ seat → same_results ≡ results → same_passes ≡ passes → same_quit ≡ quit → IsGoing seat workers results passes quit → IsGoing same_seat workers same_results same_passes same_quit
  same_going seat same_seat workers results same_results passes same_passes quit same_quit seats_are results_are passes_are quits_are going =
      subst (λ (s : Drawn). IsGoing s workers same_results same_passes same_quit) (sym seats_are)
      (subst (λ (r : List Done). IsGoing seat workers r same_passes same_quit) (sym results_are)
      (subst (λ (p : List Accounts). IsGoing seat workers results p same_quit) (sym passes_are)
      (subst (λ (q : Option Quit). IsGoing seat workers results passes q) (sym quits_are) going)))

  -- once all have left, at least one of them drew a number past the jobs
  pub drew_past : (seat : Drawn) (workers : List WorkerShown) → length workers ≡ 0 → 0 < all → (length workers ≡ all) ⊎ (0 < seat.past) → 0 < seat.past
  drew_past seat workers none some (inl same) = absurd (omega (arith, none, some, same))
  drew_past seat workers none some (inr past) = past

  -- each result has a place
  in_jobs : (number : ℕ) (at : Option Job) (done : Done) → slice_get jobs number ≡ at → IsSomeAnd at (λ job. IsResultOf world (may_stop number) job done) → number < length jobs
  in_jobs number (Some job) done is fits = slice_get_within jobs number job is
  in_jobs number None done is fits = absurd fits

  result_within : (results : List Done) → length results ≡ length jobs → (result : Result) → IsResultAt world may_stop jobs result.0 result.1 → result.0 < length results
  result_within results same result fits =
      let inside = in_jobs result.0 (slice_get jobs result.0) result.1 refl fits in
      omega (arith, inside, same)

  pub places_within : (own same_own : List Result) (results same_results : List Done) → same_own ≡ own → same_results ≡ results → AreResults world may_stop jobs own → length results ≡ length jobs → All (λ (result : Result). result.0 < length same_results) same_own
  places_within own same_own results same_results own_is results_is fit same =
      subst (λ (list : List Result). All (λ (result : Result). result.0 < length same_results) list) (sym own_is)
      (subst (λ (list : List Done). All (λ (result : Result). result.0 < length list) own) (sym results_is)
      (All-weaker (λ (result : Result). IsResultAt world may_stop jobs result.0 result.1) (λ (result : Result). result.0 < length results) (result_within results same) own fit))
