-- The addresses that the host of a target names.
use Rattle.std.specs.Prelude.{◌≡◌, ◌≢◌, ◌⊎◌, ℕ, codes, List, [], ◌∷◌, ◌++◌, Option, None, Some}
use Rattle.std.specs.List.{slice_get}
use Rattle.std.specs.Global.{Vec}
use Rattle.std.specs.declared.net.ipv4_addr.Ipv4Addr.{Ipv4Addr}
use Rattle.std.specs.declared.net.ipv6_addr.Ipv6Addr.{Ipv6Addr}
use Rattle.std.specs.declared.net.ip_addr.IpAddr.{IpAddr}
use Rattle.std.specs.declared.net.ip_addr.IpAddr.TheVariants as Ip
use Rattle.std.specs.declared.net.socket_addr.SocketAddr.{SocketAddr}
use Rattle.std.specs.Net.Addr.{ipv4_octets, ipv6_segments}
use Rattle.std.specs.Net.Socket.{socket_ip, IsPlainSocket}
use Rattle.std.specs.Net.Grammar.{IsIpv4Text, IsIpv6Text}

-- a text in brackets
abbrev pub in_brackets : List ℕ → List ℕ
in_brackets inside = 91 ∷ (inside ++ (93 ∷ []))

-- the host writes this address: an IPv4 address, or an IPv6 address in brackets (RFC 3986, section 3.2.2)
abbrev pub IsLiteral : List ℕ → IpAddr → Type 0
IsLiteral host (Ip.V4 ip) = IsIpv4Text host ip
IsLiteral host (Ip.V6 ip) = (inside : List ℕ) × (host ≡ in_brackets inside) × IsIpv6Text inside ip

-- an address and a port
abbrev pub IsAt : IpAddr → ℕ → SocketAddr → Type 0
IsAt ip port address = (socket_ip address ≡ ip) × IsPlainSocket address port

-- 127.0.0.1
abbrev pub IsLoopbackV4 : IpAddr → Type 0
IsLoopbackV4 ip = (v4 : Ipv4Addr) × (ip ≡ Ip.V4 v4) × (ipv4_octets v4 ≡ 127 ∷ 0 ∷ 0 ∷ 1 ∷ [])

-- ::1
abbrev pub IsLoopbackV6 : IpAddr → Type 0
IsLoopbackV6 ip = (v6 : Ipv6Addr) × (ip ≡ Ip.V6 v6) × (ipv6_segments v6 ≡ 0 ∷ 0 ∷ 0 ∷ 0 ∷ 0 ∷ 0 ∷ 0 ∷ 1 ∷ [])

-- 127.0.0.1 and then ::1, at that port
pub record AreLoopback (port : ℕ) (addresses : List SocketAddr) : Type 0 where
  pub first : SocketAddr
  pub second : SocketAddr
  pub both : addresses ≡ first ∷ second ∷ []
  pub v4 : (ip : IpAddr) × IsLoopbackV4 ip × IsAt ip port first
  pub v6 : (ip : IpAddr) × IsLoopbackV6 ip × IsAt ip port second

-- the one address that the host writes, at that port
pub record IsWritten (host : List ℕ) (port : ℕ) (addresses : List SocketAddr) : Type 0 where
  pub ip : IpAddr
  pub literal : IsLiteral host ip
  pub address : SocketAddr
  pub one : addresses ≡ address ∷ []
  pub at : IsAt ip port address

-- the addresses of that host at that port, in the order in which they are tried: localhost stands for those of the
-- loopback interface (RFC 6761, section 6.3)
abbrev pub Names : List ℕ → ℕ → List SocketAddr → Type 0
Names host port addresses = ((host ≡ codes "localhost") × AreLoopback port addresses) ⊎ IsWritten host port addresses

-- the host is no address, and not localhost
pub record HasNoAddress (host : List ℕ) : Type 0 where
  pub other : host ≢ codes "localhost"
  pub none : (ip : IpAddr) → IsLiteral host ip → ⊥

-- the lists of the hosts that are there stay, and the next one has this
pub record AddsHost (old new : List (Vec SocketAddr)) (Has : List SocketAddr → Type 0) : Type 0 where
  pub next : Vec SocketAddr
  pub added : new ≡ old ++ (next ∷ [])
  pub has : Has next.items

-- the addresses at a place, none if there is no such place
abbrev pub list_of : Option (Vec SocketAddr) → List SocketAddr
list_of None = []
list_of (Some addresses) = addresses.items

abbrev pub addresses_at : List (Vec SocketAddr) → ℕ → List SocketAddr
addresses_at hosts site = list_of (slice_get hosts site)

-- each host has the addresses that it had
abbrev pub KeepsHosts : List (Vec SocketAddr) → List (Vec SocketAddr) → Type 0
KeepsHosts old new = (site : ℕ) → addresses_at new site ≡ addresses_at old site
