-- The addresses that values of `--resolve` give for hosts: HOST:PORT:ADDRESS.
use Rattle.std.specs.Prelude.{◌≡◌, ◌⊎◌, ◌==◌, ℕ, Bool, nat_lt, codes, List, [], ◌∷◌, ◌++◌, length, string_bytes, Option, None, Some, if◌then◌else◌}
use Rattle.std.specs.List.{after_first, before_first, position_or_len, slice_index}
use Rattle.std.specs.Option.{option_and_then, option_map}
use Rattle.std.specs.Net.Grammar.{IsIpText}
use Rattle.std.specs.Net.Socket.{socket_ip, IsPlainSocket}
use Rattle.std.specs.declared.net.ip_addr.IpAddr.{IpAddr}
use Rattle.clap.specs.Words.{Text}
use Rattle.socket.specs.Hosts.{IsLiteral}
use Rattle.commands.specs.declared.resolved.Resolved.{Resolved}
use Rattle.command_line.specs.Numbers.{whole_in}
use Rattle.command_line.specs.declared.resolve.ResolveText.{ResolveText}

abbrev pub is_colon : ℕ → Bool
is_colon byte = byte == 58

abbrev pub is_close : ℕ → Bool
is_close byte = byte == 93

-- what stands before the first such byte, and what stands after it
abbrev pub cut_at : (ℕ → Bool) → Text → Option (Text × Text)
cut_at is text =
    if nat_lt (position_or_len is text) (length text) then Some (before_first is text, after_first is text) else None

-- a name in brackets ends with the closing one, and a colon follows immediately
abbrev pub if_next : Text → Text × Text → Option (Text × Text)
if_next name ([], rest) = Some (name ++ codes "]", rest)
if_next name (byte ∷ between, rest) = None

abbrev pub close_host : Text × Text → Option (Text × Text)
close_host (name, rest) = option_and_then (if_next name) (cut_at is_colon rest)

-- another host is not empty
abbrev pub if_named : Text × Text → Option (Text × Text)
if_named ([], rest) = None
if_named (byte ∷ host, rest) = Some (byte ∷ host, rest)

-- the host, up to the first colon or with its brackets, and what follows its colon
abbrev pub host_said : Text → Option (Text × Text)
host_said text =
    if slice_index text 0 == 91 then option_and_then close_host (cut_at is_close text)
    else option_and_then if_named (cut_at is_colon text)

-- a host, a port, and the text of an address
pub record ResolveSaid : Type 0 where
  pub host : Text
  pub port : ℕ
  pub address : Text

abbrev pub with_port : Text → Text × Text → Option ResolveSaid
with_port host (port, address) =
    option_map (λ number. record { host = host; port = number; address = address }) (whole_in 1 65535 port)

abbrev pub with_host : Text × Text → Option ResolveSaid
with_host (host, rest) = option_and_then (with_port host) (cut_at is_colon rest)

abbrev pub resolve_said : Text → Option ResolveSaid
resolve_said text = option_and_then with_host (host_said text)

-- the text writes this address: IPv4 or IPv6, which may stand in brackets as in a URL
abbrev pub IsAddressText : Text → IpAddr → Type 0
IsAddressText text ip = IsIpText text ip ⊎ IsLiteral text ip

-- a value gives this host, and this address with this port
pub record Resolves (text : Text) (given : Resolved) : Type 0 where
  pub said : ResolveSaid
  pub reads : resolve_said text ≡ Some said
  pub host : string_bytes given.host ≡ said.host
  pub address : IsAddressText said.address (socket_ip given.address)
  pub port : IsPlainSocket given.address said.port

-- a value has another form, or an address that is none
abbrev pub IsNoResolve : Text → Type 0
IsNoResolve text = (said : ResolveSaid) → resolve_said text ≡ Some said → (ip : IpAddr) → IsAddressText said.address ip → ⊥

-- each value gives one
abbrev pub AreResolved : List Text → List Resolved → Type 0
AreResolved [] [] = Unit {0}
AreResolved (text ∷ texts) (given ∷ rest) = Resolves text given × AreResolved texts rest
AreResolved _ _ = ⊥

-- what the parts of a value say
abbrev pub said_by : ResolveText → ResolveSaid
said_by parts = record { host = parts.name.now ++ parts.end.now; port = parts.port; address = parts.address.now }

-- small values
abbrev pub ReadsResolves : Type 0
ReadsResolves =
    (resolve_said (codes "a:80:127.0.0.1") ≡ Some (record { host = codes "a"; port = 80; address = codes "127.0.0.1" }))
    × (resolve_said (codes "a:080:::1") ≡ Some (record { host = codes "a"; port = 80; address = codes "::1" }))
    × (resolve_said (codes "[::1]:65535:[::1]") ≡ Some (record { host = codes "[::1]"; port = 65535; address = codes "[::1]" }))

abbrev pub RefusesResolves : Type 0
RefusesResolves = (resolve_said (codes "a:0:::1") ≡ None) × (resolve_said (codes "a:65536:::1") ≡ None)
    × (resolve_said (codes ":80:::1") ≡ None) × (resolve_said (codes "a:80") ≡ None) × (resolve_said (codes "[::1]80:::1") ≡ None)
    × (resolve_said (codes "[::1:80:::1") ≡ None)
