-- Addresses by the values of `--resolve`.
use Rattle.std.proofs.Common.{◌≡◌, ℕ, ◌<◌, List, [], ◌∷◌, ◌++◌, length, get_or, drop, map, ap, sym, refl, ◌∙◌, subst, inl, inr, string_bytes}
use Rattle.std.specs.Prelude.{String, Option, None, Some, IfNone, MatchOption}
use Rattle.std.specs.Global.{Global}
use Rattle.std.specs.List.{Any}
use Rattle.std.specs.Net.Grammar.{IsIpText, IsIpv6Text}
use Rattle.std.specs.declared.net.ip_addr.IpAddr.{IpAddr}
use Rattle.std.specs.declared.net.ip_addr.IpAddr.TheVariants as Ip
use Rattle.std.specs.declared.net.ipv6_addr.Ipv6Addr.{Ipv6Addr}
use Rattle.std.proofs.lemmas.List.{append_cancel_right, length-map, get_or-map}
use Rattle.clap.specs.Words.{Text}
use Rattle.commands.specs.declared.resolved.Resolved.{Resolved}
use Rattle.socket.specs.Hosts.{in_brackets}
use Rattle.command_line.specs.Resolving.{AreResolved, IsAddressText, IsNoResolve, Resolves, cut_at, host_said, is_colon, resolve_said}
use Rattle.command_line.specs.Numbers.{whole_in}

-- one value more
pub resolved_more : (texts : List Text) (hosts : List Resolved) (text : Text) (host : Resolved) → AreResolved texts hosts → Resolves text host → AreResolved (texts ++ text ∷ []) (hosts ++ host ∷ [])
resolved_more [] [] text host so_far one = (one, tt)
resolved_more [] (h ∷ hosts) text host so_far one = absurd so_far
resolved_more (t ∷ texts) [] text host so_far one = absurd so_far
resolved_more (t ∷ texts) (h ∷ hosts) text host so_far one = (so_far.0, resolved_more texts hosts text host so_far.1 one)

-- a value of another form is one of them
pub other_among : (values : List (String Global)) (k : ℕ) (value : String Global) → k < length values → value ≡ get_or values k value
    → IsNoResolve (string_bytes value) → Any IsNoResolve (map string_bytes values)
other_among values k value below at other =
    (k, string_bytes value, subst (λ n. k < n) (sym (length-map values string_bytes)) below, get_or-map string_bytes values k value (string_bytes value) below ∙ ap string_bytes (sym at), other)

-- a value with these parts
pub parts_said : (text host rest port address : Text) (number : ℕ) → host_said text ≡ Some (host, rest) → cut_at is_colon rest ≡ Some (port, address) → whole_in 1 65535 port ≡ Some number
    → Some (record { host = host; port = number; address = address }) ≡ resolve_said text
parts_said text host rest port address number named cut read = rw (named, cut, read) refl

-- a text that is no address, and has no brackets or no IPv6 address in them
pub no_brackets : (text : Text) → ((ip : IpAddr) → IsIpText text ip → ⊥) → ((inside : Text) → text ≡ in_brackets inside → ⊥) → (ip : IpAddr) → IsAddressText text ip → ⊥
no_brackets text other none ip (inl plain) = other ip plain
no_brackets text other none (Ip.V4 ip) (inr written) = other (Ip.V4 ip) written
no_brackets text other none (Ip.V6 ip) (inr written) = none written.0 written.1

pub no_inside : (text inside : Text) → text ≡ in_brackets inside → ((ip : IpAddr) → IsIpText text ip → ⊥) → ((ip : Ipv6Addr) → IsIpv6Text inside ip → ⊥) → (ip : IpAddr) → IsAddressText text ip → ⊥
no_inside text inside is other none ip (inl plain) = other ip plain
no_inside text inside is other none (Ip.V4 ip) (inr written) = other (Ip.V4 ip) written
no_inside text inside is other none (Ip.V6 ip) (inr written) =
    let same : written.0 ≡ inside = append_cancel_right written.0 inside (93 ∷ []) (ap (drop 1) (sym written.1 ∙ is)) in
    none ip (subst (λ (t : Text). IsIpv6Text t ip) same written.2)

pub if_none : {A : Type 0} (o : Option A) (P : Type 0) → P → IfNone o P
if_none None P p = p
if_none (Some a) P p = tt

-- a value that gives nothing
pub if-unread : {A : Type 0} (o : Option A) (None-holds : Type 0) (Some-holds : A → Type 0) → MatchOption o None-holds Some-holds → ((a : A) → o ≡ Some a → ⊥) → None-holds
if-unread None N S found not = found
if-unread (Some a) N S found not = absurd (not a refl)
