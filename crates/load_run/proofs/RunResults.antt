-- Each result of a load without a warm-up, a duration and `--fail` is counted, so its report has the sums of its results.
use Rattle.std.proofs.Common.{◌≡◌, ◌∙◌, ◌+◌, ◌-◌, ◌*◌, ◌<◌, ℕ, Bool, true, false, not, ◌&&◌, ◌==◌, if◌then◌else◌, is_some, string_bytes, Option, None, List, [], ◌∷◌, ◌++◌, All, flat_map, get_or, length, map, reverse, ap, refl, subst, sym, arith}
use Rattle.std.proofs.lemmas.Bool.Decides.{nat_tests}
use Rattle.std.proofs.lemmas.List.{get_or-map, length-map, map-append, reverse-append}
use Rattle.std.proofs.lemmas.List.Elements.{All-head, All-tail}
use Rattle.load_report.specs.Accounts.{lines_text, report_text, sums_of}
use Rattle.driver.specs.ManyWork.{back_of, begun_of, told_of}
use Rattle.exchange.specs.Worlds.{World}
use Rattle.exchange.specs.declared.done.Done.{Done}
use Rattle.exchange.specs.declared.done.Done.TheVariants.{Good, Bad}
use Rattle.exchange.specs.declared.done.Fault.TheVariants.{Dial, Read, Write, BadResponse, Cut, Cancelled, Refused, Memory}
use Rattle.load_figures.specs.Counts.{capped, counted, no_job}
use Rattle.load_figures.specs.Figures.{JobFigures, no_figures}
use Rattle.load_figures.specs.Outcomes.{outcome_of}
use Rattle.load_figures.specs.declared.job_counts.JobCounts.{JobCounts}
use Rattle.load_figures.specs.declared.outcome.Outcome.{Outcome}
use Rattle.load_run.specs.Counting.{AddsAll, AddsFigures, IsUncounted, Takes, has_not_begun, latency_of, limit_of, warm_of}
use Rattle.load_run.specs.ManyLoads.{counting_of, jobs_of, results_of}
use Rattle.load_run.specs.declared.loading.LoadedMany.{LoadedMany}
use Rattle.run_loop.specs.Moments.{TakesTimed}
use Rattle.run_loop.specs.Running.{numbers_of}
use Rattle.run_loop.specs.Taking.{AllTaken, JobResult, ends_of}
use Rattle.run_loop.specs.declared.results.Span.{Span}
use Rattle.load_run.proofs.FirstNumbers.{length_first}
use Rattle.load_run.proofs.LoadResults.{Tallies, tallies_bad, tallies_both, tallies_good, tallies_none, tallies_skip}
use Rattle.load_run.specs.LoadRuns.{CountsAll, RunsMany, ends_in, job_sums, jobs_planned, lacks_jobs, load_lines, results_in}
use Rattle.load_run.specs.declared.load.outcome.LoadOutcome.{LoadOutcome}
use Rattle.commands.specs.declared.load_plan.LoadPlan.{LoadPlan}

-- a result with any outcome, without `--fail`
tallies_late : (b : Bool) (latency : ℕ) (results : List Done) (counts : JobCounts) → Tallies results counts → Tallies (Bad Cancelled ∷ results) (counted (Bad Cancelled) (if b then Outcome.Failed else Outcome.Stopped) latency counts)
tallies_late true latency results counts so_far = tallies_bad Cancelled latency results counts so_far
tallies_late false latency results counts so_far = tallies_skip (Bad Cancelled) results counts _ refl refl so_far

tallies_one : (done : Done) (took limit latency : ℕ) (results : List Done) (counts : JobCounts) → Tallies results counts → Tallies (done ∷ results) (counted done (outcome_of done took limit false) latency counts)
tallies_one (Good answer) took limit latency results counts so_far = tallies_good answer latency results counts so_far
tallies_one (Bad Dial) took limit latency results counts so_far = tallies_bad Dial latency results counts so_far
tallies_one (Bad Read) took limit latency results counts so_far = tallies_bad Read latency results counts so_far
tallies_one (Bad Write) took limit latency results counts so_far = tallies_bad Write latency results counts so_far
tallies_one (Bad BadResponse) took limit latency results counts so_far = tallies_bad BadResponse latency results counts so_far
tallies_one (Bad Cut) took limit latency results counts so_far = tallies_bad Cut latency results counts so_far
tallies_one (Bad Cancelled) took limit latency results counts so_far = tallies_late _ latency results counts so_far
tallies_one (Bad (Refused refusal)) took limit latency results counts so_far = tallies_bad (Refused refusal) latency results counts so_far
tallies_one (Bad Memory) took limit latency results counts so_far = tallies_bad Memory latency results counts so_far

tallies_any : (done : Done) (took limit latency : ℕ) (fails : Bool) (results : List Done) (counts : JobCounts) → fails ≡ false → Tallies results counts → Tallies (done ∷ results) (counted done (outcome_of done took limit fails) latency counts)
tallies_any done took limit latency fails results counts plain so_far =
    subst (λ b. Tallies (done ∷ results) (counted done (outcome_of done took limit b) latency counts)) (sym plain) (tallies_one done took limit latency results counts so_far)

-- each element of a list is so
abbrev Each : {A : Type 0} → List A → (A → Type 0) → Type 0
Each xs P = All P xs

each_head : {A : Type 0} (x : A) (xs : List A) (P : A → Type 0) → Each (x ∷ xs) P → P x
each_head x xs P each = All-head P x xs each

each_tail : {A : Type 0} (x : A) (xs : List A) (P : A → Type 0) → Each (x ∷ xs) P → Each xs P
each_tail x xs P each = All-tail P x xs each

each_map : {A B : Type 0} (f : A → B) (xs : List A) (ys : List B) → map f xs ≡ ys → (P : B → Type 0) → All P ys → Each xs (λ x. P (f x))
each_map f xs ys same P all = λ k d within. subst P (get_or-map f xs k d (f d) within) (subst (All P) (sym same) all k (f d) (subst (λ n. k < n) (sym (length-map xs f)) within))

-- one more result of a thread, whose rules stay
takes_one : (number : ℕ) (done : Done) (span : Span) (results : List Done) (old : _) (new : _) → Takes old new number done span → old.counting.fails_statuses ≡ false → warm_of old.counting.times ≡ 0 → Tallies results old.figures.all
    → Tallies (done ∷ results) new.figures.all × (new.counting ≡ old.counting)
takes_one number done span results old new takes plain cold so_far = by_start (has_not_begun done span) refl
  where
    by_start : (b : Bool) → has_not_begun done span ≡ b → Tallies (done ∷ results) new.figures.all × (new.counting ≡ old.counting)
    by_start true is =
        let same = takes.not_begun is in
        (tallies_skip done results old.figures.all new.figures.all (rw same refl) (rw same refl) so_far, rw same refl)
    by_start false is =
        let counts = takes.counts is (omega (arith, cold)) in
        let any = tallies_any done (span.ended - span.began) (limit_of old.counting.times.timeout) (latency_of old.counting.times number span) old.counting.fails_statuses results old.figures.all plain so_far in
        (subst (λ (c : JobCounts). Tallies (done ∷ results) c) (sym counts.figures.all) any, counts.counting)

-- all results of a thread
thread_counted : (is_reading : ℕ → Type 0) (begun : _) (ended : _) (results : List JobResult) → AllTaken (TakesTimed is_reading Takes) begun ended results → begun.figures.all ≡ no_job → begun.counting.fails_statuses ≡ false → warm_of begun.counting.times ≡ 0
    → Tallies (ends_in (ends_of results)) ended.figures.all × (ended.counting ≡ begun.counting)
thread_counted is_reading begun ended [] taken none plain cold =
    let same : no_job ≡ ended.figures.all = rw taken (sym none) in
    (subst (Tallies []) same tallies_none, rw taken refl)
thread_counted is_reading begun ended (result ∷ earlier) taken none plain cold =
    let before = thread_counted is_reading begun taken.0 earlier taken.1 none plain cold in
    let one = takes_one result.number result.done result.span (ends_in (ends_of earlier)) taken.0 ended taken.2.0 (rw before.1 plain) (rw before.1 cold) before.0 in
    (one.0, one.1 ∙ before.1)

-- the figures of all threads
adds_last : (first new : JobFigures) (others : _) (own : _) → AddsAll first (others ++ own ∷ []) new → (middle : JobFigures) × AddsAll first others middle × AddsFigures middle own.figures new
adds_last first new [] own adds = (first, refl, subst (AddsFigures first own.figures) (sym adds.2) adds.1)
adds_last first new (other ∷ others) own adds = let rest = adds_last adds.0 new others own adds.2 in (rest.0, (adds.0, adds.1, rest.1), rest.2)

all_counted : (first figures : JobFigures) (works : _) → AddsAll first (reverse (map results_of (map back_of works))) figures → first.all ≡ no_job → Each works (λ work. Tallies (ends_in (told_of work)) work.ended.figures.all)
    → Tallies (ends_in (flat_map told_of works)) figures.all
all_counted first figures [] adds none each = subst (λ (f : JobFigures). Tallies [] f.all) (sym adds) (subst (Tallies []) (sym none) tallies_none)
all_counted first figures (work ∷ works) adds none each =
    let others = map results_of (map back_of works) in
    let last = adds_last first figures (reverse others) work.ended (subst (λ l. AddsAll first l figures) (reverse-append (work.ended ∷ []) others) adds) in
    let rest = all_counted first last.0 works last.1 none (each_tail work works (λ w. Tallies (ends_in (told_of w)) w.ended.figures.all) each) in
    let both = tallies_both (ends_in (told_of work)) (ends_in (flat_map told_of works)) last.0.all work.ended.figures.all rest (each_head work works (λ w. Tallies (ends_in (told_of w)) w.ended.figures.all) each) in
    subst (λ (l : List Done). Tallies l figures.all) (sym (map-append (λ (r : ℕ × Done). r.1) (told_of work) (flat_map told_of works)))
    (subst (Tallies (ends_in (told_of work) ++ ends_in (flat_map told_of works))) (sym last.2.all) both)

-- the numbers of a load that counted as many results as it has jobs
pub sums_of_results : {W : Type 0} (world : World W) (plan : LoadPlan) (loaded : LoadedMany) (ran : RunsMany world plan loaded) → plan.numbers.seconds ≡ None → plan.numbers.warmup ≡ 0 → plan.flags.fail ≡ false
    → capped (loaded.figures.all.good + loaded.figures.all.failed) ≡ plan.options.jobs → job_sums loaded.figures.all ≡ sums_of (results_in world plan loaded ran)
sums_of_results world plan loaded ran no_end no_warmup no_fail all =
    let many = ran.many in
    let by = ran.is_loaded.by_them in
    let carried = by.ran.carried_out in
    let works = carried.ran.all_work in
    let cold : warm_of many.times ≡ 0 = ap (λ n. n * 1000000) (ran.planned.warmup ∙ no_warmup) in
    let plain : many.fails_statuses ≡ false = ran.planned.fails ∙ no_fail in
    let start = each_map begun_of works _ carried.ran.begun_is (λ own. IsUncounted many.sites (counting_of many) own.0) carried.uncounted in
    let each : Each works (λ work. Tallies (ends_in (told_of work)) work.ended.figures.all) = λ k d within.
    let work = get_or works k d in
    let none = start k d within in
    (thread_counted _ work.begun work.ended work.told (carried.ran.worked k d within).taken (ap (λ (f : JobFigures). f.all) none.figures) (rw none.counting_is plain) (rw none.counting_is cold)).0 in
    let adds = subst (λ l. AddsAll (no_figures many.sites) (reverse (map results_of l)) by.collected.figures) (sym carried.ran.back_is) carried.figures_are in
    let tallies = subst (λ (f : JobFigures). Tallies (results_in world plan loaded ran) f.all) (sym by.figures_are) (all_counted (no_figures many.sites) by.collected.figures works adds refl each) in
    let long : length (results_in world plan loaded ran) ≡ loaded.drawn =
    length-map (flat_map told_of works) (λ (r : ℕ × Done). r.1) ∙ sym (length-map (flat_map told_of works) (λ (r : ℕ × Done). r.0)) ∙ length_first loaded.drawn (numbers_of (flat_map told_of works)) carried.ran.once in
    let most : jobs_of many.jobs ≡ plan.options.jobs = ap jobs_of (ran.planned.jobs ∙ ap (λ (s : Option ℕ). jobs_planned plan.options s) no_end) in
    tallies.whole (omega (arith, all, tallies.most, long, most, carried.ran.within)) (omega (arith, all, tallies.most, long, most, carried.ran.within))

has_all : (seconds : Option ℕ) (warmup done jobs : ℕ) → seconds ≡ None → warmup ≡ 0 → (not (is_some seconds) && ((warmup == 0) && not (done == jobs))) ≡ false → done ≡ jobs
has_all seconds warmup done jobs no_end no_warmup lacks =
    let no_seconds = rw no_end at lacks in
    let all = rw no_warmup at no_seconds in
    grind (arith, nat_tests)

-- its report is the report of its results
pub of_all_results : {W : Type 0} (world : World W) (plan : LoadPlan) (loaded : LoadedMany) (ran : RunsMany world plan loaded) (outcome : LoadOutcome) → lacks_jobs plan loaded ≡ false
    → (plan.flags.json ≡ false → string_bytes outcome.report ≡ load_lines loaded) → CountsAll plan outcome → plan.flags.json ≡ false
    → string_bytes outcome.report ≡ report_text loaded.hosts.items (results_in world plan loaded ran)
unfolding report_text
of_all_results world plan loaded ran outcome lacks report counts text =
    let done = capped (loaded.figures.all.good + loaded.figures.all.failed) in
    let all = has_all plan.numbers.seconds plan.numbers.warmup done plan.options.jobs counts.no_duration counts.no_warmup lacks in
    report text ∙ ap (lines_text loaded.hosts.items) (sums_of_results world plan loaded ran counts.no_duration counts.no_warmup counts.no_fail all)
