-- What a desk is seen as.
use Rattle.std.specs.Prelude.{Option, None, Some}
use Rattle.bundle.specs.Lease.{Leasing}
use Rattle.bundle.specs.Passes.{Accounts}

-- a desk: what its pass remembers of each host, and the stream of the connection that went back last, as it then was
pub record DeskShown (S : Type 0) : Type 0 where
  pub pass : Accounts
  pub wire : Option S

-- the stream of a lease, if there is one
abbrev pub wire_of : {S : Type 0} → Option (Leasing S) → Option S
wire_of None = None
wire_of (Some lease) = lease.stream
