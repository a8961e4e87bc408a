-- What calls tell the pass that they are lent, and what is spent with it.
use Rattle.std.specs.Prelude.{◌≡◌, ℕ, ◌+◌, ◌≤◌, List, [], ◌∷◌, ◌++◌, Option, Some, None, Result, Ok, Err}
use Rattle.std.specs.List.{sum_by}
use Rattle.budget.specs.declared.pass.Account.{Account}
use Rattle.budget.specs.declared.refusal.Refusal.{Refusal}
use Rattle.budget.specs.declared.refusal.Refusal.TheVariants.{TransferBusy, Exhausted as NoNumberLeft, Busy as TooManyHeld}
use Rattle.budget.specs.Accounts.{change_at, told, spent_once, spent_at}
use Rattle.conn_log.specs.declared.entry.Cause.TheVariants.{Withdrawn}
use Rattle.conn_log.specs.declared.entry.Event.{Event}
use Rattle.conn_log.specs.declared.entry.Event.TheVariants.{Closed, Left, Limit}
use Rattle.conn_log.specs.declared.entry.Entry.{Entry}
use Rattle.bundle.specs.declared.answers.Got.{Got}
use Rattle.bundle.specs.declared.answers.Got.TheVariants.{Lease, Wait as Waits, NoRoom, Again}
use Rattle.bundle.specs.declared.answers.Claimed.{Claimed as ClaimAnswer}
use Rattle.bundle.specs.declared.answers.Claimed.TheVariants.{Lease as Granted, Still as StillWaits}
use Rattle.bundle.specs.declared.answers.Changed.{Changed}
use Rattle.bundle.specs.declared.answers.Changed.TheVariants.{Done, Again as ChangeAgain}
use Rattle.bundle.specs.declared.did.Did.{Did}
use Rattle.bundle.specs.declared.did.Did.TheVariants.{Wrote, Claimed, Still, Busy, Exhausted, Stranger, Held}
use Rattle.host_state.specs.Calls.{Start, start_entry, wait_entry}
use Rattle.bundle.specs.Lease.{HostShown, Ticketed}
use Rattle.bundle.specs.Seats.{gone}
use Rattle.conn_log.specs.Starts.{start_count}

-- what a pass remembers of each host
abbrev pub Accounts : Type 0
Accounts = List (Account Did)

-- a pass is told so, or nothing
abbrev pub tells : ℕ → Option Did → Accounts → Accounts
tells host None pass = pass
tells host (Some did) pass = change_at pass host (told did)

-- a lease is spent with it, and it is told the entry that says so
abbrev pub spends : ℕ → ℕ → Event → Accounts → Accounts
spends host moment event pass = change_at pass host (spent_once (Wrote (record { moment = moment; event = event })))

-- an acquire tells the start or the wait of what it gives; nothing where it is halfway
abbrev pub got_did : {S : Type 0} → Got S → Option Did
got_did (Lease lease) = Some (Wrote (start_entry lease.start))
got_did (Waits ticket) = Some (Wrote (wait_entry ticket.wait))
got_did (NoRoom booking) = None
got_did (Again booking) = None

-- it tells why it is refused, but for want of memory
abbrev pub refusal_did : ℕ → Refusal → Option Did
refusal_did transfer TransferBusy = Some (Busy transfer)
refusal_did transfer NoNumberLeft = Some (Exhausted transfer)
refusal_did transfer _ = None

abbrev pub acquire_did : {S : Type 0} → ℕ → Result (Got S) Refusal → Option Did
acquire_did transfer (Ok got) = got_did got
acquire_did transfer (Err refusal) = refusal_did transfer refusal

-- a claim tells whether the transfer has its lease, waits on, or has a strange ticket
abbrev pub claim_did : {S : Type 0} → ℕ → Result (ClaimAnswer S) Ticketed → Option Did
claim_did transfer (Ok (Granted lease)) = Some (Claimed transfer)
claim_did transfer (Ok (StillWaits ticket)) = Some (Still transfer)
claim_did transfer (Err stray) = Some (Stranger transfer)

-- a wait ends: its transfer leaves; or the start that it was granted is spent
abbrev pub withdraws : ℕ → ℕ → ℕ → Option Start → Accounts → Accounts
withdraws host moment transfer None pass = tells host (Some (Wrote (record { moment = moment; event = Left transfer }))) pass
withdraws host moment transfer (Some granted) pass = spends host moment (Closed granted.number Withdrawn) pass

-- a new limit is refused: it tells how many are held that it does not allow
abbrev pub held_did : Refusal → Option Did
held_did (TooManyHeld held) = Some (Held held)
held_did _ = None

-- a change of the limit tells the entry that says so
abbrev pub limit_did : ℕ → ℕ → Result Changed Refusal → Option Did
limit_did most moment (Ok (Done freed)) = Some (Wrote (record { moment = moment; event = Limit most }))
limit_did most moment (Ok ChangeAgain) = None
limit_did most moment (Err refusal) = held_did refusal

-- as many starts more are spent with the pass at the host as are gone there more
abbrev pub AccountsForStarts : {S : Type 0} → HostShown S → HostShown S → Accounts → Accounts → Type 0
AccountsForStarts old new before after = gone new.log + spent_at before old.host ≡ gone old.log + spent_at after old.host

-- how many leases of the host were spent, with all of these passes
abbrev pub spent_with : ℕ → List Accounts → ℕ
spent_with host passes = sum_by (λ (pass : Accounts). spent_at pass host) passes

-- what the passes have spent is the starts whose leases are gone, and stays so where one of them spends as many as
-- are gone more
abbrev pub PassesSpendWhatIsGone : Type 0
PassesSpendWhatIsGone =
    (host : ℕ) (log after : List Entry) (lent told : Accounts) (some others : List Accounts)
    → gone after + spent_at lent host ≡ gone log + spent_at told host
    → spent_with host (some ++ lent ∷ others) ≡ gone log
    → spent_with host (some ++ told ∷ others) ≡ gone after

-- nothing is gone at a new host, so passes without a seat there, or with a new one, have spent what is gone
abbrev pub NothingIsGoneAtFirst : Type 0
NothingIsGoneAtFirst = gone [] ≡ 0

-- what one of them has spent is part of the starts
abbrev pub EachSpendsSomeStarts : Type 0
EachSpendsSomeStarts =
    (log : List Entry) (host : ℕ) (pass : Accounts) (some others : List Accounts)
    → spent_with host (some ++ pass ∷ others) ≡ gone log
    → spent_at pass host ≤ start_count log
