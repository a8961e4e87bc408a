-- What a dial over sockets shows, and how it answers.
use Rattle.std.specs.Prelude.{◌≡◌, ℕ, Contains}
use Rattle.std.specs.HashMap.{HashMap}
use Rattle.exchange.specs.Dialling.{DialShown, DialsFor, IfUp}
use Rattle.exchange.specs.declared.wire.Dialled.{Dialled}
use Rattle.socket.specs.declared.counts.Counts.{Counts}
use Rattle.socket.specs.declared.pending.Attempt.{Attempt}
use Rattle.socket.specs.declared.connection.Connection.{Connection}
use Rattle.socket.specs.declared.connector.Connector.{Connector}
use Rattle.socket.specs.Hosts.{addresses_at}
use Rattle.socket.specs.Pending.{IfNotYet, IsPending}
use Rattle.socket.specs.Sockets.{IsUntouched}

-- its counts, for which transfers a connection is begun, and the name of its source
abbrev pub dial_shown : {S : Type 0} → Counts → HashMap ℕ Attempt S → ℕ → DialShown
dial_shown counts pending source = record {
  failures = counts.failures;
  opened = counts.opened;
  turn_failures = counts.turn_failures;
  begun = IsPending pending;
  source_name = source;
}

-- a dial was asked for the connection of a transfer at a site, with that answer: an open connection is untouched, and leads
-- to one of the addresses of the site's host; `connection_of` is the connection of a wire, and the names are those of the
-- dial's source
pub record DialsSocket {W N E P : Type 0} (connection_of : W → Connection) (answer : Dialled W) (site transfer : ℕ) (old new : Connector N E P) (old_name new_name : ℕ) : Type 0 where
  pub up : IfUp answer (λ wire. IsUntouched (connection_of wire) site transfer)
  pub to : IfUp answer (λ wire. Contains (addresses_at old.addresses.hosts.items site) (connection_of wire).address)
  pub dials : DialsFor answer transfer (dial_shown old.counts old.pending old_name) (dial_shown new.counts new.pending new_name)
  pub waits : IfNotYet answer (IsPending new.pending transfer)
  pub addresses : new.addresses ≡ old.addresses
