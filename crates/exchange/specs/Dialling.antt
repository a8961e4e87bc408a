-- What a dial shows, and what wires, dials and turns answer and leave.
use Rattle.std.specs.Prelude.{◌≡◌, ◌≢◌, ℕ, ◌+◌, ◌⊎◌}
use Rattle.streams.specs.RisingCounts.{Rises}
use Rattle.exchange.specs.declared.wire.Read.{Read}
use Rattle.exchange.specs.declared.wire.Read.TheVariants.{Fault as ReadFault}
use Rattle.exchange.specs.declared.wire.Written.{Written}
use Rattle.exchange.specs.declared.wire.Written.TheVariants.{Fault as WriteFault}
use Rattle.exchange.specs.declared.wire.Dialled.{Dialled}
use Rattle.exchange.specs.declared.wire.Dialled.TheVariants.{Up, NotYet, Fault as DialFault}
use Rattle.exchange.specs.declared.wire.Turned.{Turned}
use Rattle.exchange.specs.declared.wire.Turned.TheVariants.{Fault as TurnFault}

-- what a dial shows: how often a dial failed, how many connections it opened, how often a turn failed, for which transfers
-- a connection may be begun that is not open yet, and the name of its source
pub record DialShown : Type 1 where
  pub failures : ℕ
  pub opened : ℕ
  pub turn_failures : ℕ
  pub begun : ℕ → Type 0
  pub source_name : ℕ

-- what a dial shows whose connections are open at once, or never: nothing is begun there
abbrev pub shows_counts : ℕ → ℕ → ℕ → ℕ → DialShown
shows_counts failures opened turn_failures source_name = record {
  failures = failures;
  opened = opened;
  turn_failures = turn_failures;
  begun = λ transfer. ⊥;
  source_name = source_name;
}

-- how often a turn of a dial failed
abbrev pub failed_turns : {D : Type 0} → (D → DialShown) → D → ℕ
failed_turns shown dial = (shown dial).turn_failures

abbrev pub OnReadFault : Read → Type 0 → Type 0
OnReadFault ReadFault P = P
OnReadFault _ P = Unit {0}

abbrev pub OnWriteFault : Written → Type 0 → Type 0
OnWriteFault WriteFault P = P
OnWriteFault _ P = Unit {0}

abbrev pub IfUp : {W : Type 0} → Dialled W → (W → Type 0) → Type 0
IfUp (Up wire) P = P wire
IfUp _ P = Unit {0}

-- the connection is open, or cannot be opened
abbrev pub IfOver : {W : Type 0} → Dialled W → Type 0 → Type 0
IfOver NotYet P = Unit {0}
IfOver _ P = P

-- the count of failed dials rises if this one failed, and only then
abbrev pub CountsDial : {W : Type 0} → Dialled W → ℕ → ℕ → Type 0
CountsDial DialFault old new = Rises old new
CountsDial _ old new = new ≡ old

-- the count of connections opened rises by one if this one was opened, or stays at the greatest number that it can say;
-- and only then
abbrev pub RisesByOne : ℕ → ℕ → Type 0
RisesByOne old new = (new ≡ old + 1) ⊎ ((old ≡ 18446744073709551615) × (new ≡ 18446744073709551615))

abbrev pub OpensOne : {W : Type 0} → Dialled W → ℕ → ℕ → Type 0
OpensOne (Up wire) old new = RisesByOne old new
OpensOne _ old new = new ≡ old

-- for no other transfer a connection was begun, and what was begun for others still is; for this one it is begun only
-- while it is not open yet
pub record CountsBegun {W : Type 0} (dialled : Dialled W) (transfer : ℕ) (old new : ℕ → Type 0) : Type 0 where
  pub others : (other : ℕ) → other ≢ transfer → new other → old other
  pub kept : (other : ℕ) → other ≢ transfer → old other → new other
  pub own : IfOver dialled (new transfer → ⊥)

-- the count of failed turns rises if this one failed, and only then
abbrev pub CountsTurn : Turned → ℕ → ℕ → Type 0
CountsTurn TurnFault old new = Rises old new
CountsTurn _ old new = new ≡ old

-- nothing was counted, begun or given up at a dial, and its source has the same name
pub record KeepsDial (old new : DialShown) : Type 0 where
  pub counted : new.failures ≡ old.failures
  pub opens : new.opened ≡ old.opened
  pub turns : new.turn_failures ≡ old.turn_failures
  pub begun : (other : ℕ) → new.begun other → old.begun other
  pub kept : (other : ℕ) → old.begun other → new.begun other
  pub source : new.source_name ≡ old.source_name

-- nothing was counted at a dial
pub record KeepsCounts (old new : DialShown) : Type 0 where
  pub counted : new.failures ≡ old.failures
  pub opens : new.opened ≡ old.opened
  pub turns : new.turn_failures ≡ old.turn_failures

-- a connection was asked for, for a transfer, with that answer
pub record DialsFor {W : Type 0} (dialled : Dialled W) (transfer : ℕ) (old new : DialShown) : Type 0 where
  pub counted : CountsDial dialled old.failures new.failures
  pub opens : OpensOne dialled old.opened new.opened
  pub turns : new.turn_failures ≡ old.turn_failures
  pub begun : CountsBegun dialled transfer old.begun new.begun
  pub source : new.source_name ≡ old.source_name

-- what was begun for a transfer was given up, and for no other anything was begun or given up
pub record GivesUpFor (transfer : ℕ) (old new : DialShown) : Type 0 where
  pub counted : new.failures ≡ old.failures
  pub opens : new.opened ≡ old.opened
  pub turns : new.turn_failures ≡ old.turn_failures
  pub none : new.begun transfer → ⊥
  pub begun : (other : ℕ) → new.begun other → old.begun other
  pub kept : (other : ℕ) → other ≢ transfer → old.begun other → new.begun other
  pub source : new.source_name ≡ old.source_name

-- a turn was taken, with that answer, and nothing else was counted, begun or given up
pub record TakesTurn (turned : Turned) (old new : DialShown) : Type 0 where
  pub counted : new.failures ≡ old.failures
  pub opens : new.opened ≡ old.opened
  pub fault : CountsTurn turned old.turn_failures new.turn_failures
  pub begun : (other : ℕ) → new.begun other → old.begun other
  pub kept : (other : ℕ) → old.begun other → new.begun other
  pub source : new.source_name ≡ old.source_name

-- a dial took a turn, with that answer, and told of it
pub record TurnsDial {D : Type 0} (shown : D → DialShown) (turned : D → D → Type 0) (answer : Turned) (old new : D) : Type 0 where
  pub middle : D
  pub takes : turned old middle
  pub tells : KeepsDial (shown middle) (shown new)
  pub turn : TakesTurn answer (shown old) (shown new)
