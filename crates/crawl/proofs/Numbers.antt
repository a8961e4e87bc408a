-- The numbers of jobs.
use Rattle.std.proofs.Common.{◌≡◌, ◌⊎◌, ℕ, ◌+◌, ◌<◌, ◌≤◌, suc, zero, List, [], ◌∷◌, ◌++◌, length, get_or, append_assoc, ap, sym, ◌∙◌, subst, refl, arith, inl, inr}
use Rattle.std.specs.Prelude.{◌==◌, false}
use Rattle.exchange.specs.declared.job.Job.{Job}
use Rattle.std.specs.List.{All}
use Rattle.std.proofs.lemmas.Bool.Decides.{nat_tests}
use Rattle.std.proofs.lemmas.List.{length-append, map-append}
use Rattle.std.proofs.lemmas.List.Elements.{All-append, All-cons, All-nil, All-push, All-weaker}
use Rattle.std.proofs.lemmas.List.Folds.{list_any_none}
use Rattle.conn_log.specs.Connections.{is_among}
use Rattle.conn_log.specs.Sound.{AreDistinct}
use Rattle.crawl.specs.Results.{AreNumbered, HaveNumbers, first_number, job_number, job_numbers, numbers_from}

-- n numbers from one on are below their sum
pub all_below : (first n : ℕ) → All (λ k. k < first + n) (numbers_from first n)
all_below first zero = All-nil (λ k. k < first + zero)
all_below first (suc n) = All-push (λ k. k < first + suc n) (numbers_from first n) (first + n) (λ k d lt. omega (arith, all_below first n k d lt)) (omega arith)

-- the number of the first job
pub first_is : (jobs : List Job) (job : Job) → 0 < length jobs → job ≡ get_or jobs 0 job → first_number jobs ≡ job.want.transfer
first_is [] job some there = absurd (omega (arith, some))
first_is (j ∷ jobs) job some there = ap (λ (one : Job). one.want.transfer) (sym there)

pub first_none : (jobs : List Job) → length jobs ≡ 0 → first_number jobs ≡ 0
first_none [] none = refl
first_none (j ∷ jobs) none = absurd (omega (arith, none))

-- one more job has the next number
pub one_numbered : (first next after : ℕ) (jobs : List Job) (job : Job) → HaveNumbers first next jobs → job.want.transfer ≡ next → after ≡ next + 1 → HaveNumbers first after (jobs ++ job ∷ [])
one_numbered first next after jobs job are number is =
    let more : length (jobs ++ job ∷ []) ≡ suc (length jobs) = omega (arith, length-append jobs (job ∷ [])) in
    record {
      numbers = map-append job_number jobs (job ∷ []) ∙ ap (λ (l : List ℕ). l ++ job.want.transfer ∷ []) are.numbers ∙ ap (λ n. numbers_from first (length jobs) ++ n ∷ []) (number ∙ are.after) ∙ ap (numbers_from first) (sym more);
      after = omega (arith, is, are.after, more);
    }

-- a number that is not in a list
not_among : (number : ℕ) (others : List ℕ) → All (λ k. (k < number) ⊎ (number < k)) others → is_among number others ≡ false
not_among number others apart = list_any_none (λ k. k == number) others (All-weaker (λ k. (k < number) ⊎ (number < k)) (λ k. (k == number) ≡ false) (λ k is. differs k is) others apart)
  where
    differs : (k : ℕ) → (k < number) ⊎ (number < k) → (k == number) ≡ false
    differs k (inl less) = grind (arith, nat_tests, less)
    differs k (inr more) = grind (arith, nat_tests, more)

-- n numbers from one on are distinct, also from others that are not among them
distinct_on : (first n : ℕ) (others : List ℕ) → AreDistinct others → All (λ k. (k < first) ⊎ (first + n ≤ k)) others → AreDistinct (numbers_from first n ++ others)
distinct_on first zero others once apart = once
distinct_on first (suc n) others once apart =
    let new : is_among (first + n) others ≡ false = not_among (first + n) others (All-weaker (λ k. (k < first) ⊎ (first + suc n ≤ k)) (λ k. (k < first + n) ⊎ (first + n < k)) (λ k is. beside k is) others apart) in
    subst AreDistinct (sym (append_assoc (numbers_from first n) ((first + n) ∷ []) others))
    (distinct_on first n ((first + n) ∷ others) (new, once)
    (All-cons (λ k. (k < first) ⊎ (first + n ≤ k)) (first + n) others (inr (omega arith)) (All-weaker (λ k. (k < first) ⊎ (first + suc n ≤ k)) (λ k. (k < first) ⊎ (first + n ≤ k)) (λ k is. past k is) others apart)))
  where
    beside : (k : ℕ) → (k < first) ⊎ (first + suc n ≤ k) → (k < first + n) ⊎ (first + n < k)
    beside k (inl less) = inl (omega (arith, less))
    beside k (inr more) = inr (omega (arith, more))

    past : (k : ℕ) → (k < first) ⊎ (first + suc n ≤ k) → (k < first) ⊎ (first + n ≤ k)
    past k (inl less) = inl less
    past k (inr more) = inr (omega (arith, more))

pub none_numbered : (next : ℕ) → AreNumbered next []
none_numbered next = record { distinct = tt; below = All-nil (λ number. number < next) }

-- more jobs have the next numbers
pub more_numbered : (next after : ℕ) (more jobs : List Job) → AreNumbered next jobs → HaveNumbers next after more → AreNumbered after (more ++ jobs)
more_numbered next after more jobs are have =
    let n = length more in
    let numbers : job_numbers (more ++ jobs) ≡ numbers_from next n ++ job_numbers jobs = map-append job_number more jobs ∙ ap (λ (l : List ℕ). l ++ job_numbers jobs) have.numbers in
    let apart : All (λ k. (k < next) ⊎ (next + n ≤ k)) (job_numbers jobs) = All-weaker (λ k. k < next) (λ k. (k < next) ⊎ (next + n ≤ k)) (λ k less. inl less) (job_numbers jobs) are.below in
    record {
      distinct = subst AreDistinct (sym numbers) (distinct_on next n (job_numbers jobs) are.distinct apart);
      below = subst (All (λ number. number < after)) (sym numbers)
          (All-append (λ number. number < after) (numbers_from next n) (job_numbers jobs)
          (subst (λ m. All (λ number. number < m) (numbers_from next n)) (sym have.after) (all_below next n))
          (All-weaker (λ k. k < next) (λ k. k < after) (λ k less. omega (arith, less, have.after)) (job_numbers jobs) are.below));
    }
