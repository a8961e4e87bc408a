-- Answers of look-ups.
use Rattle.std.specs.Prelude.{◌≡◌, ◌⊎◌, [], ℕ, List}
use Rattle.std.specs.declared.net.socket_addr.SocketAddr.{SocketAddr}

-- the addresses were found for that name, or there are none
abbrev pub IsAnswer : (List ℕ → List SocketAddr → Type 0) → List ℕ → List SocketAddr → Type 0
IsAnswer found name addresses = (addresses ≡ []) ⊎ found name addresses
