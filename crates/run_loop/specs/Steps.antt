-- What the steps of the loop answer.
use Rattle.std.specs.Prelude.{◌≡◌, ℕ, List, Option, Bool, true, false}
use Rattle.exchange.specs.declared.job.Job.{Job}
use Rattle.exchange.specs.declared.job.Prepared.{Prepared}
use Rattle.exchange.specs.Transfers.{TransferShown}
use Rattle.exchange.specs.Answers.{IsPrepared}
use Rattle.transfer_slab.specs.Rounds.{Joins}
use Rattle.run_loop.specs.declared.run_loop.Next.{Next}
use Rattle.run_loop.specs.declared.run_loop.Next.TheVariants.{Never}

-- a transfer of the job of that number joined
pub record JoinsAs {W : Type 0} (job : Job) (number : ℕ) (slots more : List (Option (TransferShown W))) : Type 0 where
  pub parts : Prepared
  pub prepared : IsPrepared job parts
  pub bears : parts.want.transfer ≡ number
  pub place : ℕ
  pub joins : Joins slots more parts place

-- it did, or none joined
abbrev pub JoinsIf : {W : Type 0} → Bool → Job → ℕ → List (Option (TransferShown W)) → List (Option (TransferShown W)) → Type 0
JoinsIf true job number slots more = JoinsAs job number slots more
JoinsIf false job number slots more = more ≡ slots

-- this holds if no job is left
abbrev pub IfNever : Next → Type 0 → Type 0
IfNever Never P = P
IfNever _ P = Unit {0}
