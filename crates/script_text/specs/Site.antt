-- The site that the word of a site line names.
use Rattle.std.specs.Prelude.{ℕ, ◌&&◌, nat_le, bytes_eq, if◌then◌else◌, codes, List, length, Option, None, unwrap_or, option_map, Ok, Err}
use Rattle.std.specs.Str.{is_utf8}
use Rattle.url.specs.Parser.{Parsed, parse_url}
use Rattle.url.specs.Parts.{Parts, nonempty_host}
use Rattle.url.specs.Host.{host_text}
use Rattle.conn_key.specs.declared.site.Site.{Site}
use Rattle.conn_key.specs.declared.target.KeyError.{KeyError}
use Rattle.conn_key.specs.declared.target.KeyError.TheVariants as key_errors
use Rattle.script_text.specs.declared.fault.FaultKind.{FaultKind}
use Rattle.script_text.specs.declared.fault.FaultKind.TheVariants.{Memory, BadSite}

-- the site of a URL of the scheme http: its host, and its port or else 80 (RFC 9110, section 4.2.1)
abbrev pub site_of_url : Parts → Option Site
site_of_url url = if bytes_eq url.scheme (codes "http") then option_map (λ host. (host_text host, unwrap_or url.port 80)) (nonempty_host url) else None

abbrev pub site_of_parsed : Parsed Parts → Option Site
site_of_parsed (Ok url) = site_of_url url
site_of_parsed (Err error) = None

-- the site that a word names: UTF-8 of at most 2,048 bytes that is such a URL (URL Standard, section 4.4:
-- the basic URL parser with no base)
unfoldable pub site_named : List ℕ → Option Site
site_named word = if is_utf8 word && nat_le (length word) 2048 then site_of_parsed (parse_url None word) else None

-- the fault of a word that is refused so
abbrev pub fault_of : KeyError → FaultKind
fault_of key_errors.Memory = Memory
fault_of key_errors.NotUrl = BadSite
fault_of key_errors.NotHttp = BadSite
fault_of key_errors.TooLong = BadSite
