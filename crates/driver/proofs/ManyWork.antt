-- Many jobs at once: what one worker did, what all workers did, and what is gathered of them.
use Rattle.std.proofs.Common.{◌≡◌, refl, sym, subst, ap, ◌∙◌, ℕ, suc, get_or, ◌<◌, List, [], ◌∷◌, ◌++◌, length, reverse, Option, Some, None, IsSomeAnd, arith}
use Rattle.std.specs.Option.{ForSome}
use Rattle.std.proofs.lemmas.List.{append-nil, map-append, reverse-append, reverse-reverse, append_assoc}
use Rattle.std.proofs.lemmas.List.Elements.{All-nil, All-cons}
use Rattle.run_loop.specs.Draws.{Jobs, new_seat}
use Rattle.exchange.specs.declared.job.Job.{Job}
use Rattle.exchange.specs.declared.done.Done.{Done}
use Rattle.exchange.specs.Worlds.{World}
use Rattle.shared_cache.specs.Names.{CacheNames}
use Rattle.shared_cache.specs.Passes.{IsPassOf, IsNewPass}
use Rattle.run_loop.specs.declared.run_end.RunEnd.{RunEnd}
use Rattle.run_loop.specs.declared.run_end.RunEnd.TheVariants.{Complete, Stopped, TurnFailed, BrokenOff}
use Rattle.run_loop.specs.Going.{IfComplete, IfIncomplete}
use Rattle.run_loop.specs.declared.results.Span.{Span}
use Rattle.driver.specs.declared.many.worker.Tools.{Tools}
use Rattle.driver.specs.ManyJobs.{IsLast}
use Rattle.driver.specs.ManyWork.{LoopWork, begun_of, IsLoopWork, handed_in, HiredShown, LeftShown, LoopShown, IsNewWorker, IsHiredLoop, BeginsAs, AllBegin, LeavesAs, Loops, LoopsFrom, HasLeft, HaveLooped}

-- the number that is held was drawn last
pub is_last_of : (drawn : List ℕ) (number : ℕ) (held : Option ℕ) → held ≡ Some number → ForSome held (IsLast drawn) → IsLast drawn number
is_last_of drawn number held is last = last number is

-- how a loop ended tells that no number is held, and, if it is complete, that no job is left
pub nothing_held : (end : RunEnd) (A B : Type 0) → IfComplete end (A × B) → IfIncomplete end B → B
nothing_held Complete A B complete incomplete = complete.1
nothing_held Stopped A B complete incomplete = incomplete
nothing_held TurnFailed A B complete incomplete = incomplete
nothing_held BrokenOff A B complete incomplete = incomplete

pub none_left : (end : RunEnd) (A B : Type 0) → IfComplete end (A × B) → IfComplete end A
none_left Complete A B complete = complete.0
none_left Stopped A B complete = tt
none_left TurnFailed A B complete = tt
none_left BrokenOff A B complete = tt

-- one more worker, behind all others
pub one_begins : {W F : Type 0} (begun : List (F × ℕ)) (workers : List (LoopShown W F)) (first : F × ℕ) (worker : LoopShown W F) → AllBegin begun workers → BeginsAs first worker → AllBegin (begun ++ first ∷ []) (workers ++ worker ∷ [])
one_begins [] [] first worker all its = (its, tt)
one_begins [] (other ∷ rest) first worker all its = absurd all
one_begins (some ∷ others) [] first worker all its = absurd all
one_begins (some ∷ others) (other ∷ rest) first worker all its = (all.0, one_begins others rest first worker all.1 its)

-- what is handed in is taken from its end, and what is hired grows in the reverse order
pub moved_one : {X : Type 0} (all rest gone : List X) (x : X) → (rest ++ x ∷ []) ++ reverse gone ≡ all → rest ++ reverse (gone ++ x ∷ []) ≡ all
moved_one all rest gone x is =
    let back : reverse (gone ++ x ∷ []) ≡ x ∷ reverse gone = reverse-append gone (x ∷ []) in
    ap (λ l. rest ++ l) back ∙ sym (append_assoc rest (x ∷ []) (reverse gone)) ∙ is

module _ {W F : Type 0} (world : World W) (may_stop : ℕ → Type 0) (names : CacheNames) (job_at : ℕ → ℕ → Job) (took : F → F → ℕ → Done → Span → Type 0) (claim : Jobs) where
  -- what each worker did, in the order of the workers
  abbrev pub EachLoops : List (LoopShown W F) → List (LoopShown W F) → Type 0
  EachLoops old new = (place : ℕ) (other : LoopShown W F) → place < length old → LoopsFrom world may_stop names job_at took claim (get_or old place other) (get_or new place other)

  has_left : (work : LoopWork F) (left : LeftShown F) (worker : LoopShown W F) → worker ≡ record { hired = None; left = Some left } → LeavesAs claim work left → HasLeft claim work worker
  has_left work left worker is leaves = subst (HasLeft claim work) (sym is) (record { none = refl; left = leaves })

  pub all_loop : (begun : List (F × ℕ)) (old new : List (LoopShown W F)) → AllBegin begun old → length new ≡ length old → EachLoops old new → HaveLooped world may_stop names job_at took claim begun new
  all_loop [] [] [] begins same each = record { all_work = []; worked = All-nil (IsLoopWork world may_stop names job_at took); begun_is = refl; left_is = tt }
  all_loop [] [] (y ∷ ys) begins same each = absurd (omega (arith, same))
  all_loop [] (x ∷ xs) new begins same each = absurd begins
  all_loop (b ∷ bs) [] new begins same each = absurd begins
  all_loop (b ∷ bs) (x ∷ xs) [] begins same each = absurd (omega (arith, same))
  all_loop (b ∷ bs) (x ∷ xs) (y ∷ ys) begins same each =
      let first = each 0 x (omega arith) in
      let its = first.loops b begins.0 in
      let rest = all_loop bs xs ys begins.1 (omega (arith, same)) (λ place other there. each (suc place) other (omega (arith, there))) in
      record {
        all_work = its.work ∷ rest.all_work;
        worked = All-cons (IsLoopWork world may_stop names job_at took) its.work rest.all_work its.worked rest.worked;
        begun_is = ap (λ (l : List (F × ℕ)). begun_of its.work ∷ l) rest.begun_is ∙ ap (λ (h : F × ℕ). h ∷ bs) its.begun_is;
        left_is = (has_left its.work first.left y first.is its.leaves, rest.left_is);
      }

  -- what a worker that was hired was handed is what its loop began with
  pub loops_from : (old new : LoopShown W F) (hired : HiredShown W F) (left : LeftShown F) → old.hired ≡ Some hired → new ≡ record { hired = None; left = Some left } → Loops world may_stop names job_at took claim (hired.results, hired.failed) left → LoopsFrom world may_stop names job_at took claim old new
  loops_from old new hired left was is loops = record {
    left = left;
    is = is;
    loops = λ begun begins. subst (λ b. Loops world may_stop names job_at took claim b left) (sym (subst (λ (h : Option (HiredShown W F)). IsSomeAnd h (λ it. ◌≡◌ {A = F × ℕ} begun (it.results, it.failed))) was begins)) loops;
  }

-- what makes a worker one that was hired
pub is_hired : {W F : Type 0} (names : CacheNames) (claim : Jobs) (worker : LoopShown W F) (hired : HiredShown W F) → worker.hired ≡ Some hired → worker.left ≡ None → hired.places ≡ [] → IsPassOf names hired.pass → IsNewPass hired.pass → hired.seat ≡ new_seat claim → IsHiredLoop names claim worker
is_hired {W} {F} names claim worker hired shown none empty of_cache is_new seat = record {
  hired = subst (λ (h : Option (HiredShown W F)). IsSomeAnd h (IsNewWorker names claim)) (sym shown) (record { empty = empty; of_cache = of_cache; new_pass = is_new; seat_is = seat });
  none = none;
}

-- a worker that was hired is new
pub is_new : {W F : Type 0} (names : CacheNames) (claim : Jobs) (worker : LoopShown W F) (hired : HiredShown W F) → IsHiredLoop names claim worker → worker.hired ≡ Some hired → IsNewWorker names claim hired
is_new {W} {F} names claim worker hired its was = subst (λ (h : Option (HiredShown W F)). IsSomeAnd h (IsNewWorker names claim)) was its.hired

-- some of the tools are left, and the others have workers, in the reverse order
pub record IsHiring {W D F : Type 0} (failures : D → ℕ) (all left : List (Tools D F)) (workers : List (LoopShown W F)) : Type 0 where
  pub begun : List (F × ℕ)
  pub moved : handed_in failures left ++ reverse begun ≡ handed_in failures all
  pub begins : AllBegin begun workers

pub none_hired : {W D F : Type 0} (failures : D → ℕ) (all : List (Tools D F)) (workers : List (LoopShown W F)) → workers ≡ [] → IsHiring failures all all workers
none_hired failures all workers empty = record {
  begun = [];
  moved = append-nil (handed_in failures all);
  begins = subst (AllBegin []) (sym empty) tt;
}

pub one_hired : {W D F : Type 0} (failures : D → ℕ) (all left rest : List (Tools D F)) (own : Tools D F) (workers : List (LoopShown W F)) (worker : LoopShown W F) (hired : HiredShown W F) → left ≡ rest ++ own ∷ [] → worker.hired ≡ Some hired → hired.results ≡ own.results → hired.failed ≡ failures own.dial
    → IsHiring failures all left workers → IsHiring failures all rest (workers ++ worker ∷ [])
one_hired {W} {D} {F} failures all left rest own workers worker hired is shown results failed so =
    let first : F × ℕ = (own.results, failures own.dial) in
    let split : handed_in failures left ≡ handed_in failures rest ++ first ∷ [] = ap (handed_in failures) is ∙ map-append _ rest (own ∷ []) in
    let all_of : (handed_in failures rest ++ first ∷ []) ++ reverse so.begun ≡ handed_in failures all = subst (λ (l : List (F × ℕ)). l ++ reverse so.begun ≡ handed_in failures all) split so.moved in
    let same : ◌≡◌ {A = F × ℕ} first (hired.results, hired.failed) = pair own.results hired.results (failures own.dial) hired.failed (sym results) (sym failed) in
    record {
      begun = so.begun ++ first ∷ [];
      moved = moved_one (handed_in failures all) (handed_in failures rest) so.begun first all_of;
      begins = one_begins so.begun workers first worker so.begins (subst (λ (h : Option (HiredShown W F)). IsSomeAnd h (λ it. ◌≡◌ {A = F × ℕ} first (it.results, it.failed))) (sym shown) same);
    }
  where
    pair : (a b : F) (m n : ℕ) → a ≡ b → m ≡ n → ◌≡◌ {A = F × ℕ} (a, m) (b, n)
    pair a b m n one other i = (one i, other i)

pub all_hired : {W D F : Type 0} (failures : D → ℕ) (all left : List (Tools D F)) (workers : List (LoopShown W F)) → length left ≡ 0 → IsHiring failures all left workers → AllBegin (reverse (handed_in failures all)) workers
all_hired {W} {D} {F} failures all [] workers none so = subst (λ (l : List (F × ℕ)). AllBegin l workers) (sym (reverse-reverse so.begun) ∙ ap (λ (l : List (F × ℕ)). reverse l) so.moved) so.begins
all_hired failures all (own ∷ rest) workers none so = absurd (omega (arith, none))
