-- What workers with many jobs at once leave, gathered one after another from the last one on.
use Rattle.std.proofs.Common.{◌≡◌, refl, sym, subst, ap, ◌∙◌, ℕ, ◌+◌, ◌<◌, ◌≤◌, ◌==◌, ◌⊎◌, inl, inr, List, [], ◌∷◌, ◌++◌, length, map, reverse, Option, Some, None, IsSomeAnd, arith}
use Rattle.std.specs.Prelude.{IsSome}
use Rattle.std.specs.List.{All, flat_map}
use Rattle.std.proofs.lemmas.List.{append-nil, map-append, length-map, reverse-append, append_assoc}
use Rattle.std.proofs.lemmas.List.Elements.{All-nil, All-push, All-pop, All-head, All-tail}
use Rattle.std.proofs.lemmas.List.Sums.{sum_by-append}
use Rattle.std.proofs.lemmas.List.Concat.{flat_map-append, flat_map-cons}
use Rattle.budget.proofs.Sums.{one_if}
use Rattle.run_loop.specs.Draws.{Jobs, Drawn, times, AreFirst, together}
use Rattle.bundle.specs.Passes.{Accounts}
use Rattle.exchange.specs.declared.job.Job.{Job}
use Rattle.exchange.specs.declared.done.Done.{Done}
use Rattle.exchange.specs.Worlds.{World}
use Rattle.shared_cache.specs.Names.{CacheNames}
use Rattle.shared_cache.specs.Passes.{IsPassOf}
use Rattle.run_loop.specs.declared.run_end.RunEnd.{RunEnd}
use Rattle.run_loop.specs.declared.run_end.RunEnd.TheVariants.{Complete, Stopped, TurnFailed, BrokenOff}
use Rattle.run_loop.specs.Going.{worse_end, IfComplete}
use Rattle.run_loop.specs.Running.{numbers_of}
use Rattle.run_loop.specs.declared.results.Span.{Span}
use Rattle.driver.specs.declared.many.worker.Finished.{Finished}
use Rattle.driver.specs.ManyWork.{LoopWork, begun_of, back_of, told_of, drawn_of, end_of, IsLoopWork, worst_from, handed_back, LeftShown, LoopShown, LeavesAs, HasLeft, AllLeft, HaveLooped, IsManyRun}

abbrev Result : Type 0
Result = ℕ × Done

-- the worst of ends, one of which is added behind
worst_last : (end : RunEnd) (ends : List RunEnd) (last : RunEnd) → worst_from end (ends ++ last ∷ []) ≡ worse_end last (worst_from end ends)
worst_last end [] last = refl
worst_last end (other ∷ others) last = worst_last (worse_end other end) others last

-- what holds once all are complete
past_more : (own end : RunEnd) (P Q R : Type 0) → IfComplete own P → IfComplete end Q → (P → R) → IfComplete (worse_end own end) R
past_more Complete Complete P Q R past so_far then = then past
past_more Complete Stopped P Q R past so_far then = tt
past_more Complete TurnFailed P Q R past so_far then = tt
past_more Complete BrokenOff P Q R past so_far then = tt
past_more Stopped Complete P Q R past so_far then = tt
past_more Stopped Stopped P Q R past so_far then = tt
past_more Stopped TurnFailed P Q R past so_far then = tt
past_more Stopped BrokenOff P Q R past so_far then = tt
past_more TurnFailed Complete P Q R past so_far then = tt
past_more TurnFailed Stopped P Q R past so_far then = tt
past_more TurnFailed TurnFailed P Q R past so_far then = tt
past_more TurnFailed BrokenOff P Q R past so_far then = tt
past_more BrokenOff Complete P Q R past so_far then = tt
past_more BrokenOff Stopped P Q R past so_far then = tt
past_more BrokenOff TurnFailed P Q R past so_far then = tt
past_more BrokenOff BrokenOff P Q R past so_far then = tt

pub complete_then : (end : RunEnd) (P Q : Type 0) → IfComplete end P → (P → Q) → IfComplete end Q
complete_then Complete P Q holds then = then holds
complete_then Stopped P Q holds then = tt
complete_then TurnFailed P Q holds then = tt
complete_then BrokenOff P Q holds then = tt

-- how often a number stands among those of results
times_both : (job : ℕ) (some more : List Result) → times job (numbers_of (some ++ more)) ≡ times job (numbers_of some) + times job (numbers_of more)
times_both job some more = ap (times job) (map-append (λ (result : Result). result.0) some more) ∙ sum_by-append (λ n. one_if (job == n)) (numbers_of some) (numbers_of more)

-- the last worker that has left, and its work
pub record LastLeft {W F : Type 0} (claim : Jobs) (works : List (LoopWork F)) (rest : List (LoopShown W F)) (worker : LoopShown W F) : Type 0 where
  pub earlier : List (LoopWork F)
  pub work : LoopWork F
  pub is : works ≡ earlier ++ work ∷ []
  pub rest_left : AllLeft claim earlier rest
  pub its : HasLeft claim work worker

pub last_left : {W F : Type 0} (claim : Jobs) (works : List (LoopWork F)) (rest : List (LoopShown W F)) (worker : LoopShown W F) → AllLeft claim works (rest ++ worker ∷ []) → LastLeft claim works rest worker
last_left claim [] [] worker left = absurd left
last_left claim [] (other ∷ others) worker left = absurd left
last_left claim (work ∷ []) [] worker left = record { earlier = []; work = work; is = refl; rest_left = tt; its = left.0 }
last_left claim (work ∷ next ∷ works) [] worker left = absurd left.1
last_left claim (work ∷ works) (other ∷ others) worker left =
    let more = last_left claim works others worker left.1 in
    record {
      earlier = work ∷ more.earlier;
      work = more.work;
      is = ap (λ l. work ∷ l) more.is;
      rest_left = (left.0, more.rest_left);
      its = more.its;
    }

none_left : {W F : Type 0} (claim : Jobs) (works : List (LoopWork F)) (left : List (LoopShown W F)) → length left ≡ 0 → AllLeft claim works left → works ≡ []
none_left claim [] left none is = refl
none_left claim (work ∷ works) [] none is = absurd is
none_left claim (work ∷ works) (worker ∷ rest) none is = absurd (omega (arith, none))

module _ {W F : Type 0} (world : World W) (may_stop : ℕ → Type 0) (names : CacheNames) (job_at : ℕ → ℕ → Job) (took : F → F → ℕ → Done → Span → Type 0) where
  -- each number that was drawn has a result, as often
  told_as_drawn : (works : List (LoopWork F)) → All (IsLoopWork world may_stop names job_at took) works → (job : ℕ) → times job (numbers_of (flat_map told_of works)) ≡ times job (flat_map drawn_of works)
  told_as_drawn [] worked job = refl
  told_as_drawn (work ∷ works) worked job =
      let its = All-head (IsLoopWork world may_stop names job_at took) work works worked in
      let rest = told_as_drawn works (All-tail (IsLoopWork world may_stop names job_at took) work works worked) job in
      let told = ap (λ l. times job (numbers_of l)) (flat_map-cons told_of work works) ∙ times_both job (told_of work) (flat_map told_of works) in
      let drawn = ap (times job) (flat_map-cons drawn_of work works) ∙ sum_by-append (λ n. one_if (job == n)) work.drawn (flat_map drawn_of works) in
      let counted : times job work.drawn ≡ times job (numbers_of (told_of work)) + 0 = its.running.counted job in
      omega (arith, told, drawn, counted, rest)

  module _ {D : Type 0} (failures : D → ℕ) (claim : Jobs) (begun : List (F × ℕ)) where
    pub record IsGathered (seat : Drawn) (left : List (LoopShown W F)) (finished : List (Finished D F)) (end : RunEnd) : Type 0 where
      pub front : List (LoopWork F)
      pub so_far : List (LoopWork F)
      pub front_worked : All (IsLoopWork world may_stop names job_at took) front
      pub worked : All (IsLoopWork world may_stop names job_at took) so_far
      pub left_is : AllLeft claim front left
      pub begun_is : map begun_of so_far ++ reverse (map begun_of front) ≡ reverse begun
      pub back_is : map back_of so_far ≡ handed_back failures finished
      pub drawn_is : seat.drawn ≡ flat_map drawn_of so_far
      pub ends : end ≡ worst_from Complete (map end_of so_far)
      pub past : IfComplete end ((so_far ≡ []) ⊎ (0 < seat.past))

    some_left : (work : LoopWork F) (left : Option (LeftShown F)) → IsSomeAnd left (LeavesAs claim work) → IsSome left
    some_left work (Some left) is = refl
    some_left work None is = absurd is

    its_left : (work : LoopWork F) (worker : LoopShown W F) (left : LeftShown F) → worker.left ≡ Some left → HasLeft claim work worker → LeavesAs claim work left
    its_left work worker left shown has = subst (λ (l : Option (LeftShown F)). IsSomeAnd l (LeavesAs claim work)) shown has.left

    pub none_gathered : (seat : Drawn) (left : List (LoopShown W F)) (finished : List (Finished D F)) → seat.drawn ≡ [] → finished ≡ [] → HaveLooped world may_stop names job_at took claim begun left → IsGathered seat left finished Complete
    none_gathered seat left finished none empty looped = record {
      front = looped.all_work;
      so_far = [];
      front_worked = looped.worked;
      worked = All-nil (IsLoopWork world may_stop names job_at took);
      left_is = looped.left_is;
      begun_is = ap (λ (l : List (F × ℕ)). reverse l) looped.begun_is;
      back_is = ap (handed_back failures) (sym empty);
      drawn_is = none;
      ends = refl;
      past = inl refl;
    }

    -- one more has left
    pub one_gathered : (seat : Drawn) (workers rest : List (LoopShown W F)) (worker : LoopShown W F) (left : LeftShown F) (finished : List (Finished D F)) (own : Finished D F) (end : RunEnd)
        → workers ≡ rest ++ worker ∷ [] → worker.left ≡ Some left → own.results ≡ left.results → failures own.dial ≡ left.failed → own.pass ≡ left.pass
        → IsGathered seat workers finished end → IsGathered (together seat left.seat) rest (finished ++ own ∷ []) (worse_end left.end end)
    one_gathered seat workers rest worker left finished own end is shown results failed pass so =
        let last = last_left claim so.front rest worker (subst (AllLeft claim so.front) is so.left_is) in
        let work = last.work in
        let its = its_left work worker left shown last.its in
        let front_is : map begun_of so.front ≡ map begun_of last.earlier ++ begun_of work ∷ [] = ap (map begun_of) last.is ∙ map-append begun_of last.earlier (work ∷ []) in
        let popped = All-pop (IsLoopWork world may_stop names job_at took) so.front last.earlier (Some work) last.is so.front_worked in
        let back : ◌≡◌ {A = F × ℕ × Accounts} (back_of work) (own.results, failures own.dial, own.pass) = back_same work.ended own.results work.failed_now (failures own.dial) work.pass own.pass (sym its.results ∙ sym results) (sym its.failed ∙ sym failed) (sym its.pass ∙ sym pass) in
        record {
          front = last.earlier;
          so_far = so.so_far ++ work ∷ [];
          front_worked = popped.0;
          worked = All-push (IsLoopWork world may_stop names job_at took) so.so_far work so.worked popped.1;
          left_is = last.rest_left;
          begun_is = ap (λ (l : List (F × ℕ)). l ++ reverse (map begun_of last.earlier)) (map-append begun_of so.so_far (work ∷ [])) ∙ turned (map begun_of so.so_far) (map begun_of last.earlier) (begun_of work) (map begun_of so.front) (reverse begun) front_is so.begun_is;
          back_is = map-append back_of so.so_far (work ∷ []) ∙ ap (λ l. l ++ back_of work ∷ []) so.back_is ∙ ap (λ b. handed_back failures finished ++ b ∷ []) back ∙ sym (map-append _ finished (own ∷ []));
          drawn_is = ap (λ (l : List ℕ). l ++ left.seat.drawn) so.drawn_is ∙ ap (λ (l : List ℕ). flat_map drawn_of so.so_far ++ l) (its.drawn ∙ sym (append-nil work.drawn)) ∙ sym (flat_map-append drawn_of so.so_far (work ∷ []));
          ends = ap (worse_end left.end) so.ends ∙ ap (λ e. worse_end e (worst_from Complete (map end_of so.so_far))) its.end ∙ sym (ap (worst_from Complete) (map-append end_of so.so_far (work ∷ [])) ∙ worst_last Complete (map end_of so.so_far) work.end);
          past = past_more left.end end (0 < left.seat.past) ((so.so_far ≡ []) ⊎ (0 < seat.past)) _ its.past so.past (λ past. inr (omega (arith, past)));
        }
      where
        back_same : (a b : F) (m n : ℕ) (p q : Accounts) → a ≡ b → m ≡ n → p ≡ q → ◌≡◌ {A = F × ℕ × Accounts} (a, m, p) (b, n, q)
        back_same a b m n p q first second third i = (first i, second i, third i)

        turned : (gone earlier : List (F × ℕ)) (x : F × ℕ) (front all : List (F × ℕ)) → front ≡ earlier ++ x ∷ [] → gone ++ reverse front ≡ all → (gone ++ x ∷ []) ++ reverse earlier ≡ all
        turned gone earlier x front all split is =
            let back : reverse front ≡ x ∷ reverse earlier = ap (λ (l : List (F × ℕ)). reverse l) split ∙ reverse-append earlier (x ∷ []) in
            append_assoc gone (x ∷ []) (reverse earlier) ∙ ap (λ l. gone ++ l) (sym back) ∙ is

    -- the last of them has left, and its pass is the cache's
    pub has_last : (seat : Drawn) (workers rest : List (LoopShown W F)) (worker : LoopShown W F) (finished : List (Finished D F)) (end : RunEnd) → workers ≡ rest ++ worker ∷ [] → IsGathered seat workers finished end → (worker.hired ≡ None) × IsSome worker.left
    has_last seat workers rest worker finished end is so =
        let last = last_left claim so.front rest worker (subst (AllLeft claim so.front) is so.left_is) in
        (last.its.none, some_left last.work worker.left last.its.left)

    pub pass_of_last : (seat : Drawn) (workers rest : List (LoopShown W F)) (worker : LoopShown W F) (left : LeftShown F) (finished : List (Finished D F)) (end : RunEnd) → workers ≡ rest ++ worker ∷ [] → worker.left ≡ Some left → IsGathered seat workers finished end
        → IsPassOf names left.pass × (left.seat.claim ≡ claim) × (left.seat.share ≡ 1)
    pass_of_last seat workers rest worker left finished end is shown so =
        let last = last_left claim so.front rest worker (subst (AllLeft claim so.front) is so.left_is) in
        let its = its_left last.work worker left shown last.its in
        let popped = All-pop (IsLoopWork world may_stop names job_at took) so.front last.earlier (Some last.work) last.is so.front_worked in
        (subst (IsPassOf names) (sym its.pass) popped.1.of_cache, its.at, its.share)

    -- all have left
    pub all_gathered : (seat : Drawn) (workers : List (LoopShown W F)) (finished : List (Finished D F)) (end : RunEnd) (drawn : ℕ)
        → length workers ≡ 0 → 0 < length finished → AreFirst drawn seat.drawn → drawn ≤ claim.jobs → (0 < seat.past → drawn ≡ claim.jobs)
        → IsGathered seat workers finished end → IsManyRun world may_stop names job_at took claim.jobs (reverse begun) (handed_back failures finished) end drawn
    all_gathered seat workers finished end drawn none some once within all so =
        let empty = none_left claim so.front workers none so.left_is in
        let begun_all : map begun_of so.so_far ++ [] ≡ reverse begun = subst (λ (l : List (LoopWork F)). map begun_of so.so_far ++ reverse (map begun_of l) ≡ reverse begun) empty so.begun_is in
        let many : 0 < length so.so_far = subst (λ n. 0 < n) (sym (length-map finished _) ∙ sym (ap (λ l. length l) so.back_is) ∙ length-map so.so_far back_of) some in
        record {
          all_work = so.so_far;
          worked = so.worked;
          begun_is = sym (append-nil (map begun_of so.so_far)) ∙ begun_all;
          back_is = so.back_is;
          once = λ job. told_as_drawn so.so_far so.worked job ∙ ap (times job) (sym so.drawn_is) ∙ once job;
          within = within;
          ends = so.ends;
          complete = complete_then end ((so.so_far ≡ []) ⊎ (0 < seat.past)) (drawn ≡ claim.jobs) so.past (λ past. all (drew so.so_far seat.past many past));
        }
      where
        drew : (works : List (LoopWork F)) (past : ℕ) → 0 < length works → (works ≡ []) ⊎ (0 < past) → 0 < past
        drew works past some (inl is) =
            let none : length works ≡ 0 = ap (λ (l : List (LoopWork F)). length l) is in
            absurd (omega (arith, some, none))
        drew works past some (inr more) = more
