-- What happens on a connection over a socket, and what it does to what is known of it.
use Rattle.std.specs.Prelude.{◌≡◌, ◌≢◌, ℕ, Bool, true, false, List, Contains}
use Rattle.std.specs.declared.net.socket_addr.SocketAddr.{SocketAddr}
use Rattle.streams.specs.RisingCounts.{Rises}
use Rattle.exchange.specs.Wires.{Happening}
use Rattle.exchange.specs.Wires.Happening.{nothing, is_adopted, takes, gives, ends, fails_to_read, fails_to_write}
use Rattle.socket.specs.declared.connection.Condition.{Condition}
use Rattle.socket.specs.declared.connection.Condition.TheVariants.{Untouched, Used, Unfit}
use Rattle.socket.specs.declared.connection.Connection.{Connection}

-- it was dialled to the host of that site for that transfer, and nothing has happened on it yet
pub record IsUntouched (connection : Connection) (site transfer : ℕ) : Type 0 where
  pub its_site : connection.site ≡ site
  pub its_transfer : connection.transfer ≡ transfer
  pub untouched : connection.condition ≡ Untouched

-- it was dialled so, to one of these addresses
pub record IsDialledTo (addresses : List SocketAddr) (connection : Connection) (site transfer : ℕ) : Type 0 where
  pub untouched : IsUntouched connection site transfer
  pub to : Contains addresses connection.address

-- its socket was used, and so it was fit for use
pub record IsUsed (old new : Connection) : Type 0 where
  pub fit : old.condition ≢ Unfit
  pub used : new ≡ record old { condition = Used }

-- a read or a write failed
pub record Fails (old new : Connection) : Type 0 where
  pub counted : Rises old.failures new.failures
  pub touched : new.condition ≢ Untouched
  pub others : new ≡ record old { condition = new.condition; failures = new.failures; reason = new.reason }
  pub stays_unfit : old.condition ≡ Unfit → new.condition ≡ Unfit

-- another transfer is about to use it: it is looked at, and found fit or not; what is unfit stays so
pub record IsLookedAt (old new : Connection) : Type 0 where
  pub touched : new.condition ≢ Untouched
  pub others : new ≡ record old { condition = new.condition }
  pub stays_unfit : old.condition ≡ Unfit → new.condition ≡ Unfit

-- what its look before another use makes of it: a socket that is readable then makes it unfit, and nothing makes it fit
-- again
abbrev pub judged : Bool → Condition → Condition
judged true condition = Unfit
judged false Unfit = Unfit
judged false condition = Used

abbrev pub Judges : Bool → Connection → Connection → Type 0
Judges readable old new = new ≡ record old { condition = judged readable old.condition }

-- from the one time to the other this happened: once it was found unfit, each read and each write fails
abbrev pub HappensTo : Connection → Connection → Happening → Type 0
HappensTo old new nothing = (new ≡ old) × (old.condition ≢ Unfit)
HappensTo old new is_adopted = IsLookedAt old new
HappensTo old new (takes bytes) = IsUsed old new
HappensTo old new (gives bytes) = IsUsed old new
HappensTo old new ends = IsUsed old new
HappensTo old new fails_to_read = Fails old new
HappensTo old new fails_to_write = Fails old new
