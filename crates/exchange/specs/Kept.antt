-- What an exchange keeps of its transfer holds in one way at most.
use Rattle.std.specs.Prelude.{List, Option, Some, None}
use Rattle.std.specs.Coded.{Coded, Coded-set, coded_ℕ, coded_bool, coded_option, ×_prop, le_prop, Unit-prop}
use mathlib.Core.HLevel.{⊥_prop}
use Rattle.bundle.specs.Seats.{Tables, tables_coded}
use Rattle.bundle.specs.Lease.{Leasing, Ticketed}
use Rattle.exchange.specs.declared.job.Prepared.{Prepared}
use Rattle.exchange.specs.declared.state.State.{State}
use Rattle.exchange.specs.declared.state.State.TheVariants.{Asking, Waiting, Dialling, Sending, Reading, Finished}
use Rattle.exchange.specs.Transfers.{TransferShown}
use Rattle.exchange.specs.Owning.{ReaderGoesOn, OwnsLease, OwnsTicket, OwnsWire, OwnsAt, Owns}

reader_prop : (p : Prepared) → IsProp (ReaderGoesOn p)
reader_prop p = Coded-set coded_bool _ _

lease_prop : {W : Type 0} (home : List Tables) (lease : Leasing W) → IsProp (OwnsLease home lease)
lease_prop home lease = Coded-set (coded_option tables_coded) _ _

ticket_prop : (home : List Tables) (ticket : Ticketed) → IsProp (OwnsTicket home ticket)
ticket_prop home ticket = Coded-set (coded_option tables_coded) _ _

wire_prop : {W : Type 0} (home : List Tables) (lease : Leasing W) → IsProp (OwnsWire home lease)
wire_prop home lease = ×_prop (lease_prop home lease) (Coded-set coded_bool _ _)

owns_at_prop : {W : Type 0} (code : Coded W) (home : List Tables) (p : Prepared) (state : State W) → IsProp (OwnsAt home p state)
owns_at_prop code home p Asking = reader_prop p
owns_at_prop code home p (Waiting ticket) = ×_prop (ticket_prop home ticket) (×_prop (Coded-set coded_ℕ _ _) (reader_prop p))
owns_at_prop code home p (Dialling lease) = ×_prop (lease_prop home lease) (×_prop (Coded-set (coded_option code) _ _) (×_prop (Coded-set coded_bool _ _) (×_prop (Coded-set coded_ℕ _ _) (reader_prop p))))
owns_at_prop code home p (Sending lease sent) = ×_prop (wire_prop home lease) (×_prop le_prop (reader_prop p))
owns_at_prop code home p (Reading lease) = ×_prop (wire_prop home lease) (reader_prop p)
owns_at_prop code home p (Finished done) = Unit-prop

owns_some_prop : {W : Type 0} (code : Coded W) (home : List Tables) (p : Prepared) (state : Option (State W)) → IsProp (Owns home p state)
owns_some_prop code home p (Some state) = owns_at_prop code home p state
owns_some_prop code home p None = ⊥_prop

-- a transfer has what was made there
abbrev pub OwnsIts : {W : Type 0} → List Tables → TransferShown W → Type 0
OwnsIts home transfer = Owns home transfer.parts transfer.state

pub owns_prop : {W : Type 0} (code : Coded W) (home : List Tables) (transfer : TransferShown W) → IsProp (OwnsIts home transfer)
owns_prop code home transfer = owns_some_prop code home transfer.parts transfer.state
