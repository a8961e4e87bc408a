-- For which transfers a connection was begun.
use Rattle.std.specs.Prelude.{ℕ, nat_eq, IsSome}
use Rattle.std.specs.HashMap.{get, HashMap}
use Rattle.exchange.specs.declared.wire.Dialled.{Dialled}
use Rattle.exchange.specs.declared.wire.Dialled.TheVariants.{NotYet}
use Rattle.socket.specs.declared.pending.Attempt.{Attempt}
use Rattle.socket.specs.declared.dialled_socket.DialledSocket.{DialledSocket}
use Rattle.socket.specs.declared.connector.Opening.{Opening}
use Rattle.socket.specs.declared.connector.Opening.TheVariants.{Open, Begun, Failed}

-- a connection was begun for that transfer
abbrev pub IsPending : {S : Type 0} → HashMap ℕ Attempt S → ℕ → Type 0
IsPending pending transfer = IsSome (get nat_eq pending transfer)

-- if there is a socket, open or begun, this holds of it
abbrev pub IfSocket : Opening → (DialledSocket → Type 0) → Type 0
IfSocket (Open socket) P = P socket
IfSocket (Begun attempt) P = P attempt.socket
IfSocket (Failed reason) P = Unit {0}

-- if it is not open yet, this holds
abbrev pub IfNotYet : {W : Type 0} → Dialled W → Type 0 → Type 0
IfNotYet NotYet P = P
IfNotYet _ P = Unit {0}
