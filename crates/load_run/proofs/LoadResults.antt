-- The numbers that a load reports are the sums of its results.
use Rattle.std.proofs.Common.{◌≡◌, ◌∙◌, ◌+◌, ◌^◌, ◌<◌, ◌≤◌, ℕ, suc, Bool, true, false, List, [], ◌∷◌, ◌++◌, count_by, length, cond, sum_by, ap, refl, sym, arith}
use Rattle.std.proofs.lemmas.List.{length-append}
use Rattle.std.proofs.lemmas.List.Sums.{count_by-le-length, sum_by-append, sum_by-cons}
use Rattle.load_report.specs.Accounts.{body_len, is_bad, is_retried, is_reused, sums_of}
use Rattle.load_report.specs.declared.account_sums.JobSums.{JobSums}
use Rattle.exchange.specs.declared.done.Answer.{Answer}
use Rattle.exchange.specs.declared.done.Done.{Done}
use Rattle.exchange.specs.declared.done.Done.TheVariants.{Good, Bad}
use Rattle.exchange.specs.declared.done.Fault.{Fault}
use Rattle.load_figures.specs.Counts.{capped, counted, joined, more_if, no_job}
use Rattle.load_figures.specs.declared.job_counts.JobCounts.{JobCounts}
use Rattle.load_figures.specs.declared.outcome.Outcome.{Outcome}
use Rattle.load_run.specs.LoadRuns.{job_sums}

-- the sums of one more result
module _ (done : Done) (results : List Done) where
  abbrev one : (Done → Bool) → ℕ
  one p = cond (p done) 1 0

  count_more : (p : Done → Bool) → count_by p (done ∷ results) ≡ one p + count_by p results
  count_more p = sum_by-cons (λ d. cond (p d) 1 0) done results

  bytes_more : sum_by body_len (done ∷ results) ≡ body_len done + sum_by body_len results
  bytes_more = sum_by-cons body_len done results

-- equal sums
sums_eq : (a b : JobSums) → a.jobs ≡ b.jobs → a.failed ≡ b.failed → a.reused ≡ b.reused → a.retried ≡ b.retried → a.bytes ≡ b.bytes → a ≡ b
sums_eq a b jobs failed reused retried bytes =
    ap (λ n. record { jobs = n; failed = a.failed; reused = a.reused; retried = a.retried; bytes = a.bytes }) jobs
    ∙ ap (λ n. record { jobs = b.jobs; failed = n; reused = a.reused; retried = a.retried; bytes = a.bytes }) failed
    ∙ ap (λ n. record { jobs = b.jobs; failed = b.failed; reused = n; retried = a.retried; bytes = a.bytes }) reused
    ∙ ap (λ n. record { jobs = b.jobs; failed = b.failed; reused = b.reused; retried = n; bytes = a.bytes }) retried
    ∙ ap (λ n. record { jobs = b.jobs; failed = b.failed; reused = b.reused; retried = b.retried; bytes = n }) bytes

-- At most these results were counted as good or failed; if all were, and there are fewer than 2^64, the numbers are their
-- sums.
pub record Tallies (results : List Done) (counts : JobCounts) : Type 0 where
  pub most : counts.good + counts.failed ≤ length results
  pub whole : length results < 2 ^ 64 → counts.good + counts.failed ≡ length results → job_sums counts ≡ sums_of results

pub tallies_none : Tallies [] no_job
tallies_none = record { most = omega arith; whole = λ _ _. refl }

-- a result that is not counted
pub tallies_skip : (done : Done) (results : List Done) (counts new : JobCounts) → new.good ≡ counts.good → new.failed ≡ counts.failed → Tallies results counts → Tallies (done ∷ results) new
tallies_skip done results counts new good failed tallies = record {
  most = omega (arith, tallies.most, good, failed);
  whole = λ few all. absurd (omega (arith, tallies.most, good, failed, all));
}

more_counted : (b : Bool) (count n : ℕ) → count ≤ n → suc n < 2 ^ 64 → more_if b count ≡ cond b 1 0 + count
more_counted true count n most few = omega (arith, most, few)
more_counted false count n most few = omega arith

-- a good response
pub tallies_good : (answer : Answer) (latency : ℕ) (results : List Done) (counts : JobCounts) → Tallies results counts → Tallies (Good answer ∷ results) (counted (Good answer) Outcome.Good latency counts)
tallies_good answer latency results counts tallies = record { most = omega (arith, tallies.most); whole = whole }
  where
    done : Done
    done = Good answer

    whole : suc (length results) < 2 ^ 64 → capped (counts.good + 1) + counts.failed ≡ suc (length results)
        → job_sums (counted (Good answer) Outcome.Good latency counts) ≡ sums_of (Good answer ∷ results)
    whole few all =
        let before : counts.good + counts.failed ≡ length results = omega (arith, tallies.most, few, all) in
        let same = tallies.whole (omega (arith, few)) before in
        let reused = count_by-le-length is_reused results in
        let retried = count_by-le-length is_retried results in
        sums_eq (job_sums (counted (Good answer) Outcome.Good latency counts)) (sums_of (Good answer ∷ results))
        (omega (arith, few, all))
        (ap (λ (s : JobSums). s.failed) same ∙ sym (count_more done results is_bad ∙ omega arith))
        (ap (more_if answer.reused) (ap (λ (s : JobSums). s.reused) same) ∙ more_counted answer.reused (count_by is_reused results) (length results) reused few ∙ sym (count_more done results is_reused))
        (ap (more_if answer.retried) (ap (λ (s : JobSums). s.retried) same) ∙ more_counted answer.retried (count_by is_retried results) (length results) retried few ∙ sym (count_more done results is_retried))
        (ap (λ n. capped (n + answer.body_len)) (ap (λ (s : JobSums). s.bytes) same) ∙ omega (arith, bytes_more done results))

-- a failed transfer
pub tallies_bad : (fault : Fault) (latency : ℕ) (results : List Done) (counts : JobCounts) → Tallies results counts → Tallies (Bad fault ∷ results) (counted (Bad fault) Outcome.Failed latency counts)
tallies_bad fault latency results counts tallies = record { most = omega (arith, tallies.most); whole = whole }
  where
    done : Done
    done = Bad fault

    whole : suc (length results) < 2 ^ 64 → counts.good + capped (counts.failed + 1) ≡ suc (length results)
        → job_sums (counted (Bad fault) Outcome.Failed latency counts) ≡ sums_of (Bad fault ∷ results)
    whole few all =
        let before : counts.good + counts.failed ≡ length results = omega (arith, tallies.most, few, all) in
        let same = tallies.whole (omega (arith, few)) before in
        let failed = ap (λ (s : JobSums). s.failed) same in
        sums_eq (job_sums (counted (Bad fault) Outcome.Failed latency counts)) (sums_of (Bad fault ∷ results))
        (omega (arith, few, all))
        (omega (arith, few, all, before, failed, count_more done results is_bad))
        (ap (λ (s : JobSums). s.reused) same ∙ sym (count_more done results is_reused ∙ omega arith))
        (ap (λ (s : JobSums). s.retried) same ∙ sym (count_more done results is_retried ∙ omega arith))
        (ap (λ (s : JobSums). s.bytes) same ∙ omega (arith, bytes_more done results))

-- the results of two threads
count_both : (p : Done → Bool) (own others : List Done) → count_by p (own ++ others) ≡ count_by p own + count_by p others
count_both p own others = sum_by-append (λ d. cond (p d) 1 0) own others

pub tallies_both : (own others : List Done) (counts more : JobCounts) → Tallies others counts → Tallies own more → Tallies (own ++ others) (joined counts more)
tallies_both own others counts more tallies adds = record { most = omega (arith, tallies.most, adds.most, length-append own others); whole = whole }
  where
    whole : length (own ++ others) < 2 ^ 64 → capped (counts.good + more.good) + capped (counts.failed + more.failed) ≡ length (own ++ others)
        → job_sums (joined counts more) ≡ sums_of (own ++ others)
    whole few all =
        let long = length-append own others in
        let one : counts.good + counts.failed ≡ length others = omega (arith, tallies.most, adds.most, all, long) in
        let two : more.good + more.failed ≡ length own = omega (arith, tallies.most, adds.most, all, long) in
        let a = tallies.whole (omega (arith, few, long)) one in
        let b = adds.whole (omega (arith, few, long)) two in
        let both : (p : Done → Bool) (x y : ℕ) → x ≡ count_by p others → y ≡ count_by p own → capped (x + y) ≡ count_by p (own ++ others) =
        λ p x y is are. omega (arith, few, long, is, are, count_both p own others, count_by-le-length p others, count_by-le-length p own) in
        sums_eq (job_sums (joined counts more)) (sums_of (own ++ others))
        (omega (arith, few, all))
        (both is_bad counts.failed more.failed (ap (λ (s : JobSums). s.failed) a) (ap (λ (s : JobSums). s.failed) b))
        (both is_reused counts.reused more.reused (ap (λ (s : JobSums). s.reused) a) (ap (λ (s : JobSums). s.reused) b))
        (both is_retried counts.retried more.retried (ap (λ (s : JobSums). s.retried) a) (ap (λ (s : JobSums). s.retried) b))
        (omega (arith, ap (λ (s : JobSums). s.bytes) a, ap (λ (s : JobSums). s.bytes) b, sum_by-append body_len own others))
