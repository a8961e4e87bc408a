-- Why a load whose run did not begin has no account.
use Rattle.std.proofs.Common.{◌≡◌, ◌∙◌, sym, subst, ℕ, ◌≤◌, Bool, true, false, ◌||◌, nat_lt, Result, Ok, Err, refl, arith}
use Rattle.std.proofs.lemmas.Bool.Decides.{nat_tests}
use Rattle.std.specs.Prelude.{OnOk}
use Rattle.driver.specs.declared.fault.DriverFault.{DriverFault}
use Rattle.driver.specs.declared.fault.DriverFault.TheVariants.{Memory, BadWorkers, Poll, Doubled, Missing, Spawn}
use Rattle.driver.specs.Faults.{are_bad_workers}
use Rattle.driver.specs.ManyWork.{IsNotBegunFor, are_bad_tools}
use Rattle.driver.specs.Running.{IsRefusedFor}
use Rattle.load_run.specs.declared.error.LoadError.{LoadError}
use Rattle.load_run.specs.declared.error.LoadError.TheVariants.{Run}
use Rattle.load_run.specs.Loading.{IsLoadRefusedFor}

-- one of both is true, and not the second
first_one : (a b : Bool) → b ≡ false → a || b ≡ true → a ≡ true
first_one true b other is = refl
first_one false b other is = let bad : false ≡ true = sym other ∙ is in cc

-- neither of both is true
first_false : (a b : Bool) → a || b ≡ false → a ≡ false
first_false true b is = let bad : true ≡ false = is in cc
first_false false b is = refl

-- no more tools than places are bad only as workers are
for_fault : (tools places : ℕ) (fault : DriverFault) → tools ≤ places → IsNotBegunFor tools places fault → IsRefusedFor tools fault
for_fault tools places Memory few refused = tt
for_fault tools places Poll few refused = tt
for_fault tools places BadWorkers few refused =
    let no : nat_lt places tools ≡ false = grind (arith, nat_tests, few) in
    first_one (are_bad_workers tools) (nat_lt places tools) no refused
for_fault tools places Doubled few refused = let no : Doubled ≡ Memory = refused in cc
for_fault tools places Missing few refused = let no : Missing ≡ Memory = refused in cc
for_fault tools places Spawn few refused = let no : Spawn ≡ Memory = refused in cc

pub not_begun : (tools places workers : ℕ) (fault : DriverFault) (error : LoadError) → tools ≡ workers → tools ≤ places → error ≡ Run fault → IsNotBegunFor tools places fault → IsLoadRefusedFor workers error
not_begun tools places workers fault error same few is refused = subst (λ n. IsLoadRefusedFor n error) same (subst (IsLoadRefusedFor tools) (sym is) (for_fault tools places fault few refused))

-- a run that began had good workers
not_true : (b : Bool) → (b ≡ true → ⊥) → b ≡ false
not_true true never = absurd (never refl)
not_true false never = refl

pub good_workers : {T E : Type 0} (tools places workers : ℕ) (result : Result T E) → tools ≡ workers → (are_bad_tools tools places ≡ true → ⊥) → OnOk result (are_bad_workers workers ≡ false)
good_workers tools places workers (Ok done) same began = subst (λ n. are_bad_workers n ≡ false) same (first_false (are_bad_workers tools) (nat_lt places tools) (not_true (are_bad_tools tools places) began))
good_workers tools places workers (Err error) same began = tt
