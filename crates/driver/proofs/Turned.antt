-- The failed turns of all workers' dials together: over a call of each worker, as workers are hired, and as they leave.
use Rattle.std.proofs.Common.{◌≡◌, refl, ap, ◌∙◌, ℕ, suc, take, get_or, ◌+◌, ◌<◌, ◌≤◌, ◌⊎◌, inl, inr, List, [], ◌∷◌, ◌++◌, length, Option, Some, None, arith}
use Rattle.std.specs.List.{sum_by}
use Rattle.std.proofs.lemmas.List.{length-append}
use Rattle.std.proofs.lemmas.List.Sums.{sum_by-cons, sum_by_push, sum_by_more}
use Rattle.driver.specs.declared.quit.Quit.{Quit}
use Rattle.driver.specs.declared.quit.Quit.TheVariants.{Memory, Poll, Told}
use Rattle.driver.specs.Quits.{QuitsSo, fault_of, first_quit}
use Rattle.driver.specs.Workers.{WorkerShown}
use Rattle.driver.specs.Turns.{one_if_quit, one_if_polled, quits, polls, failed_of, RisesTogether, TurnedTogether, FaultTurns}

-- each worker's count of failed turns changed as its end says
abbrev pub EachTurned : List WorkerShown → List WorkerShown → Type 0
EachTurned old new = (place : ℕ) (other : WorkerShown) → place < length old → QuitsSo (get_or new place other).quit (get_or old place other).failed (get_or new place other).failed

one_still : (quit : Option Quit) (old new : ℕ) → one_if_quit quit ≡ 0 → QuitsSo quit old new → new ≡ old
one_still None old new none so = so
one_still (Some quit) old new none so = absurd (omega (arith, none))

still_each : (old new : List WorkerShown) → length new ≡ length old → EachTurned old new → sum_by quits new ≡ 0 → sum_by failed_of new ≡ sum_by failed_of old
still_each [] [] same each none = refl
still_each [] (y ∷ ys) same each none = absurd (omega (arith, same))
still_each (x ∷ xs) [] same each none = absurd (omega (arith, same))
still_each (x ∷ xs) (y ∷ ys) same each none =
    let quitting : sum_by quits (y ∷ ys) ≡ one_if_quit y.quit + sum_by quits ys = sum_by-cons quits y ys in
    let before : sum_by failed_of (x ∷ xs) ≡ x.failed + sum_by failed_of xs = sum_by-cons failed_of x xs in
    let after : sum_by failed_of (y ∷ ys) ≡ y.failed + sum_by failed_of ys = sum_by-cons failed_of y ys in
    let first : y.failed ≡ x.failed = one_still y.quit x.failed y.failed (omega (arith, none, quitting)) (each 0 x (omega arith)) in
    let rest : sum_by failed_of ys ≡ sum_by failed_of xs = still_each xs ys (omega (arith, same)) (λ place other there. each (suc place) other (omega (arith, there))) (omega (arith, none, quitting)) in
    omega (arith, before, after, first, rest)

-- a sum of counts rises by so many, or one of these counts is at the greatest number
abbrev RisesBy : ℕ → ℕ → ℕ → Type 0
RisesBy count old new = (18446744073709551615 ≤ new) ⊎ (old + count ≤ new)

one_rises : (quit : Option Quit) (old new : ℕ) → QuitsSo quit old new → RisesBy (one_if_polled quit) old new
one_rises None old new so = inr (omega (arith, so))
one_rises (Some Memory) old new so = inr (omega (arith, so))
one_rises (Some Told) old new so = inr (omega (arith, so))
one_rises (Some Poll) old new (inl less) = inr (omega (arith, less))
one_rises (Some Poll) old new (inr most) = inl (omega (arith, most))

both_rise : (count counts old olds new news all_counts all_old all_new : ℕ) → all_counts ≡ count + counts → all_old ≡ old + olds → all_new ≡ new + news → RisesBy count old new → RisesBy counts olds news → RisesBy all_counts all_old all_new
both_rise count counts old olds new news all_counts all_old all_new counted before after (inl most) rest = inl (omega (arith, most, after))
both_rise count counts old olds new news all_counts all_old all_new counted before after (inr more) (inl most) = inl (omega (arith, most, after))
both_rise count counts old olds new news all_counts all_old all_new counted before after (inr more) (inr rest) = inr (omega (arith, counted, before, after, more, rest))

each_rises : (old new : List WorkerShown) → length new ≡ length old → EachTurned old new → RisesBy (sum_by polls new) (sum_by failed_of old) (sum_by failed_of new)
each_rises [] [] same each = inr (omega arith)
each_rises [] (y ∷ ys) same each = absurd (omega (arith, same))
each_rises (x ∷ xs) [] same each = absurd (omega (arith, same))
each_rises (x ∷ xs) (y ∷ ys) same each =
    both_rise (polls y) (sum_by polls ys) x.failed (sum_by failed_of xs) y.failed (sum_by failed_of ys) (sum_by polls (y ∷ ys)) (sum_by failed_of (x ∷ xs)) (sum_by failed_of (y ∷ ys))
    (sum_by-cons polls y ys) (sum_by-cons failed_of x xs) (sum_by-cons failed_of y ys)
    (one_rises y.quit x.failed y.failed (each 0 x (omega arith))) (each_rises xs ys (omega (arith, same)) (λ place other there. each (suc place) other (omega (arith, there))))

some_rise : (count old new : ℕ) → 0 < count → RisesBy count old new → RisesTogether old new
some_rise count old new some (inl most) = inr most
some_rise count old new some (inr more) = inl (omega (arith, some, more))

pub together : (old new : List WorkerShown) → length new ≡ length old → EachTurned old new → TurnedTogether (sum_by failed_of old) new
together old new same each = record {
  still = still_each old new same each;
  risen = λ some. some_rise (sum_by polls new) (sum_by failed_of old) (sum_by failed_of new) some (each_rises old new same each);
}

-- why a run ends, by the workers that have left: so many of all gave up, and so many of those left do
abbrev pub QuitsSoFar : Option Quit → ℕ → ℕ → ℕ → Type 0
QuitsSoFar None polled all left = all ≡ left
QuitsSoFar (Some Poll) polled all left = 0 < polled
QuitsSoFar _ polled all left = Unit {0}

pub record HaveQuit (all left : List WorkerShown) (quit : Option Quit) : Type 0 where
  pub few : sum_by polls left ≤ sum_by polls all
  pub so_far : QuitsSoFar quit (sum_by polls all) (sum_by quits all) (sum_by quits left)

pub none_quit : (all : List WorkerShown) → HaveQuit all all None
none_quit all = record { few = omega arith; so_far = refl }

next_quit : (met quit : Option Quit) (polled all polled_left left polled_rest rest : ℕ) → polled_left ≤ polled → polled_left ≡ polled_rest + one_if_polled met → left ≡ rest + one_if_quit met
    → QuitsSoFar quit polled all left → QuitsSoFar (first_quit met quit) polled all rest
next_quit None None polled all polled_left left polled_rest rest few fewer less so_far = omega (arith, less, so_far)
next_quit None (Some Memory) polled all polled_left left polled_rest rest few fewer less so_far = tt
next_quit None (Some Told) polled all polled_left left polled_rest rest few fewer less so_far = tt
next_quit None (Some Poll) polled all polled_left left polled_rest rest few fewer less so_far = so_far
next_quit (Some Memory) quit polled all polled_left left polled_rest rest few fewer less so_far = tt
next_quit (Some Poll) quit polled all polled_left left polled_rest rest few fewer less so_far = omega (arith, few, fewer)
next_quit (Some Told) None polled all polled_left left polled_rest rest few fewer less so_far = tt
next_quit (Some Told) (Some Memory) polled all polled_left left polled_rest rest few fewer less so_far = tt
next_quit (Some Told) (Some Told) polled all polled_left left polled_rest rest few fewer less so_far = tt
next_quit (Some Told) (Some Poll) polled all polled_left left polled_rest rest few fewer less so_far = so_far

pub one_quits : (all workers rest : List WorkerShown) (worker : WorkerShown) (quit : Option Quit) → workers ≡ rest ++ worker ∷ [] → HaveQuit all workers quit → HaveQuit all rest (first_quit worker.quit quit)
one_quits all workers rest worker quit is have =
    let fewer : sum_by polls workers ≡ sum_by polls rest + one_if_polled worker.quit = ap (sum_by polls) is ∙ sum_by_push polls rest worker in
    let less : sum_by quits workers ≡ sum_by quits rest + one_if_quit worker.quit = ap (sum_by quits) is ∙ sum_by_push quits rest worker in
    let few = have.few in
    record {
      few = omega (arith, fewer, few);
      so_far = next_quit worker.quit quit (sum_by polls all) (sum_by quits all) (sum_by polls workers) (sum_by quits workers) (sum_by polls rest) (sum_by quits rest) few fewer less have.so_far;
    }

sum_of_none : (f : WorkerShown → ℕ) (left : List WorkerShown) → length left ≡ 0 → sum_by f left ≡ 0
sum_of_none f [] none = refl
sum_of_none f (x ∷ xs) none = absurd (omega (arith, none))

-- once all have left
pub all_still : (before : ℕ) (all left : List WorkerShown) → length left ≡ 0 → HaveQuit all left None → TurnedTogether before all → sum_by failed_of all ≡ before
all_still before all left none have turned = turned.still (have.so_far ∙ sum_of_none quits left none)

pub fault_turns : (before : ℕ) (all left : List WorkerShown) (quit : Quit) → HaveQuit all left (Some quit) → TurnedTogether before all → FaultTurns (fault_of quit) before (sum_by failed_of all)
fault_turns before all left Memory have turned = tt
fault_turns before all left Told have turned = tt
fault_turns before all left Poll have turned = turned.risen have.so_far

-- the dials of those that have left
module _ {D : Type 0} (failures : D → ℕ) where
  pub record DialsLeft (all left : List WorkerShown) : Type 0 where
    pub dials : List D
    pub number : length dials + length left ≡ length all
    pub failed : sum_by failures dials + sum_by failed_of left ≡ sum_by failed_of all

  pub no_dials_left : (all : List WorkerShown) → DialsLeft all all
  no_dials_left all = record { dials = []; number = omega arith; failed = omega arith }

  pub one_dial_more : (all workers rest : List WorkerShown) (worker : WorkerShown) (dial : D) → workers ≡ rest ++ worker ∷ [] → failures dial ≡ worker.failed → DialsLeft all workers → DialsLeft all rest
  one_dial_more all workers rest worker dial is its left =
      let fewer : length workers ≡ length rest + 1 = ap (λ (some : List WorkerShown). length some) is ∙ length-append rest (worker ∷ []) in
      let more : length (left.dials ++ dial ∷ []) ≡ length left.dials + 1 = length-append left.dials (dial ∷ []) in
      let before : sum_by failed_of workers ≡ sum_by failed_of rest + worker.failed = ap (sum_by failed_of) is ∙ sum_by_push failed_of rest worker in
      let after : sum_by failures (left.dials ++ dial ∷ []) ≡ sum_by failures left.dials + failures dial = sum_by_push failures left.dials dial in
      let number = left.number in
      let failed = left.failed in
      record {
        dials = left.dials ++ dial ∷ [];
        number = omega (arith, fewer, more, number);
        failed = omega (arith, before, after, its, failed);
      }

  pub all_dials : (all left : List WorkerShown) → length left ≡ 0 → (gone : DialsLeft all left) → (length gone.dials ≡ length all) × (sum_by failures gone.dials ≡ sum_by failed_of all)
  all_dials all left none gone =
      let number = gone.number in
      let failed = gone.failed in
      let nothing = sum_of_none failed_of left none in
      (omega (arith, none, number), omega (arith, nothing, failed))

  -- one dial more has a worker
  pub one_hired : (workers more : List WorkerShown) (worker : WorkerShown) (dials : List D) (place : ℕ) (dial : D) → more ≡ workers ++ worker ∷ [] → worker.failed ≡ failures dial → dial ≡ get_or dials place dial → place < length dials
      → sum_by failed_of workers ≡ sum_by failures (take place dials) → sum_by failed_of more ≡ sum_by failures (take (place + 1) dials)
  one_hired workers more worker dials place dial is failed at there so_far =
      let pushed : sum_by failed_of more ≡ sum_by failed_of workers + worker.failed = ap (sum_by failed_of) is ∙ sum_by_push failed_of workers worker in
      let next = sum_by_more failures dials place dial there in
      let its : failures dial ≡ failures (get_or dials place dial) = ap failures at in
      omega (arith, pushed, next, its, failed, so_far)
