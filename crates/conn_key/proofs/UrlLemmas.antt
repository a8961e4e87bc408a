-- An http URL has a host.
use Rattle.std.proofs.Common.{◌≡◌, true, false, not, List, ℕ, [], codes, Option, Some, None, is_some, option_map, unwrap_or, refl, arith, rules, ap, if◌then◌else◌, IsSome, option_copied}
use denote.Ref.{Bor}
use Rattle.std.specs.Option.{MatchOption}
use Rattle.std.proofs.lemmas.Grind.{common_steps}
use Rattle.url.specs.declared.host.Host.{Host}
use Rattle.url.specs.declared.host.Host.TheVariants.{Domain, Ipv4, Ipv6}
use Rattle.url.specs.declared.scheme.SchemeType.{SchemeType}
use Rattle.url.specs.declared.scheme.SchemeType.TheVariants.{File, SpecialNotFile, NotSpecial}
use Rattle.url.specs.Scheme.{scheme_type, default_port, is_special}
use Rattle.url.specs.Host.{IsHostOf, is_empty_host, host_text}
use Rattle.url.specs.Parts.{Parts, IsValid, kind_of, nonempty_host}
use Rattle.conn_key.specs.Target.{IsHttp}

-- http is a web scheme
scheme_type-http : (scheme : List ℕ) → scheme ≡ codes "http" → scheme_type scheme ≡ SpecialNotFile
unfolding scheme_type default_port
scheme_type-http scheme e = rw e refl

-- a host that isn't empty
some-nonempty : (host : Host (List ℕ)) → is_empty_host host ≡ false
    → is_some (if not (is_empty_host host) then Some host else None) ≡ true
some-nonempty host e = ap (λ b. is_some (if not b then Some host else None)) e

-- a URL of a web scheme has a host that isn't empty
host_of_web : (host : Option (Host (List ℕ))) (kind : SchemeType) → kind ≡ SpecialNotFile
    → MatchOption host (is_special kind ≡ false) (IsHostOf kind)
    → is_some (if not (is_empty_host (unwrap_or host (Domain []))) then host else None) ≡ true
host_of_web None SpecialNotFile e fits = grind (arith, fits)
host_of_web (Some (Domain domain)) SpecialNotFile e fits =
    some-nonempty (Domain domain) (grind (arith, common_steps, fits.1))
host_of_web (Some (Ipv4 address)) kind e fits = refl
host_of_web (Some (Ipv6 address)) kind e fits = refl
host_of_web host File e fits = grind (arith, e)
host_of_web host NotSpecial e fits = grind (arith, e)

-- what is there in one of two equal options is there in the other
is_some-option_map : {X Y : Type 0} (f : X → Y) (o : Option (Bor Y)) (p : Option X)
    → option_copied o ≡ option_map f p → is_some p ≡ true → IsSome o
is_some-option_map f None None e some = grind (arith, some)
is_some-option_map f None (Some x) e some = grind (arith, e)
is_some-option_map f (Some y) p e some = search rules

-- so its text is there
pub IsSome-host_text : (url : Parts) → IsValid url → IsHttp url
    → (text : Option (Bor (List ℕ))) → option_copied text ≡ option_map host_text (nonempty_host url)
    → IsSome text
IsSome-host_text url valid http text e =
    is_some-option_map host_text text (nonempty_host url) e
    (host_of_web url.host (kind_of url) (scheme_type-http url.scheme http) valid.head.host)
