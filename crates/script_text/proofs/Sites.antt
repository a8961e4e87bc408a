-- The site of a word, from what its target says.
use Rattle.std.proofs.Common.{◌≡◌, ℕ, ◌≤◌, ◌<◌, Bool, true, false, cond, List, length, codes, refl, ap, sym, ◌∙◌, arith, Option, Some, None, option_map, unwrap_or, string_bytes, Ok, Err, inl, inr}
use Rattle.std.specs.Prelude.{◌&&◌, ◌⊎◌, nat_le, bytes_eq}
use Rattle.std.specs.Str.{is_utf8, IsUtf8}
use Rattle.std.specs.Result.{IsErr}
use Rattle.std.proofs.lemmas.Str.{IsUtf8-from_is_utf8, is_utf8-from_IsUtf8}
use Rattle.std.proofs.lemmas.Bool.Decides.{nat_tests}
use Rattle.std.proofs.lemmas.Bool.{le-leb}
use Rattle.std.proofs.lemmas.Slice.Eq.{bytes_eq-Decides}
use Rattle.url.specs.Parser.{Parsed, parse_url}
use Rattle.url.specs.Parts.{Parts, nonempty_host}
use Rattle.url.specs.Host.{host_text}
use Rattle.url.specs.declared.host.Host.{Host}
use Rattle.conn_key.specs.declared.target.Target.{Target}
use Rattle.conn_key.specs.declared.target.KeyError.{KeyError}
use Rattle.conn_key.specs.declared.target.KeyError.TheVariants as key_errors
use Rattle.conn_key.specs.declared.site.Site.{Site}
use Rattle.conn_key.specs.Site.{site_of}
use Rattle.conn_key.specs.Target.{LeadsTo, GivesTarget, Refuses}
use Rattle.script_text.specs.Site.{site_named, site_of_url, site_of_parsed, fault_of}
use Rattle.script_text.specs.declared.fault.FaultKind.TheVariants.{Memory, BadSite}

-- a word that is not UTF-8 names nothing
pub bytes-name-nothing : (word : List ℕ) → ¬ (IsUtf8 word) → site_named word ≡ None
unfolding site_named
bytes-name-nothing word not-text = at (is_utf8 word) refl
  where
    at : (b : Bool) → is_utf8 word ≡ b → cond (b && nat_le (length word) 2048) (site_of_parsed (parse_url None word)) None ≡ None
    at true e = absurd (not-text (IsUtf8-from_is_utf8 word e))
    at false e = refl

-- a text is as its parser has it, where it is short
short-text : (word : List ℕ) → IsUtf8 word → length word ≤ 2048 → site_named word ≡ site_of_parsed (parse_url None word)
unfolding site_named
short-text word text short =
    ap (λ b. cond (b && nat_le (length word) 2048) (site_of_parsed (parse_url None word)) None) (is_utf8-from_IsUtf8 word text)
    ∙ ap (λ b. cond b (site_of_parsed (parse_url None word)) None) (le-leb (length word) 2048 short)

long-text : (word : List ℕ) → IsUtf8 word → 2048 < length word → site_named word ≡ None
unfolding site_named
long-text word text long =
    ap (λ b. cond (b && nat_le (length word) 2048) (site_of_parsed (parse_url None word)) None) (is_utf8-from_IsUtf8 word text)
    ∙ ap (λ b. cond b (site_of_parsed (parse_url None word)) None) (too-long (length word) long)
  where
    too-long : (n : ℕ) → 2048 < n → nat_le n 2048 ≡ false
    too-long n h = grind (arith, nat_tests)

-- the host and port of an http URL are those of its target
host-and-port : (host : Option (Host (List ℕ))) (named : List ℕ) (port : ℕ) → Some named ≡ option_map host_text host → option_map {U = Site} (λ h. (host_text h, port)) host ≡ Some (named, port)
host-and-port None named port e = cc
host-and-port (Some h) named port e = let same : named ≡ host_text h = cc in ap (λ n. Some (n, port)) (sym same)

same-bytes : (a b : List ℕ) → a ≡ b → bytes_eq a b ≡ true
same-bytes a b e = grind (arith, bytes_eq-Decides)

other-bytes : (a b : List ℕ) → (a ≡ b → ⊥) → bytes_eq a b ≡ false
other-bytes a b e = grind (arith, bytes_eq-Decides)

site-of-target : (url : Parts) (target : Target) → url.scheme ≡ codes "http" → LeadsTo url target → site_of_url url ≡ Some (site_of target)
site-of-target url target http leads =
    ap (λ b. cond b (option_map {U = Site} (λ host. (host_text host, unwrap_or url.port 80)) (nonempty_host url)) None) (same-bytes url.scheme (codes "http") http)
    ∙ host-and-port (nonempty_host url) (string_bytes target.host) (unwrap_or url.port 80) leads.host
    ∙ ap (λ p. Some (string_bytes target.host, p)) (sym leads.port)

pub names-site : (word : List ℕ) (target : Target) → IsUtf8 word → GivesTarget word target → site_named word ≡ Some (site_of target)
names-site word target text (short, (url, is, http, leads)) =
    short-text word text short ∙ ap site_of_parsed is ∙ site-of-target url target http leads

-- what is refused, and not for want of memory, names nothing
unparsed : (parsed : Parsed Parts) → IsErr parsed → site_of_parsed parsed ≡ None
unparsed (Ok url) err = cc
unparsed (Err error) err = refl

pub refused-word : (word : List ℕ) (error : KeyError) → IsUtf8 word → Refuses word error
    → (fault_of error ≡ Memory) ⊎ ((fault_of error ≡ BadSite) × (site_named word ≡ None))
refused-word word key_errors.Memory text refuses = inl refl
refused-word word key_errors.NotUrl text refuses = inr (refl, short-text word text refuses.0 ∙ unparsed (parse_url None word) refuses.1)
refused-word word key_errors.NotHttp text (short, (url, is, other-scheme)) = inr (
  refl,
  short-text word text short ∙ ap site_of_parsed is
      ∙ ap (λ b. cond b (option_map {U = Site} (λ host. (host_text host, unwrap_or url.port 80)) (nonempty_host url)) None) (other-bytes url.scheme (codes "http") other-scheme),
)
refused-word word key_errors.TooLong text refuses = inr (refl, long-text word text refuses)
