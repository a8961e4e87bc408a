-- What a URL says of where a transfer leads to.
use Rattle.std.specs.Prelude.{◌≡◌, ◌≢◌, ℕ, ◌<◌, ◌≤◌, List, [], ◌++◌, length, codes, string_bytes, Option, None, Some, unwrap_or, option_map, Ok}
use Rattle.std.specs.Result.{IsErr}
use Rattle.url.specs.Parser.{parse_url}
use Rattle.url.specs.Parts.{Parts, nonempty_host}
use Rattle.url.specs.Host.{host_text}
use Rattle.conn_key.specs.declared.target.Target.{Target}
use Rattle.conn_key.specs.declared.target.KeyError.{KeyError}
use Rattle.conn_key.specs.declared.target.KeyError.TheVariants.{Memory, NotUrl, NotHttp, TooLong}

-- a query as a request writes it behind the path: with its `?`, or nothing where there is none
-- (RFC 9112, section 3.2.1)
abbrev pub query_text : Option (List ℕ) → List ℕ
query_text None = []
query_text (Some query) = codes "?" ++ query

-- the URL leads to the target: its host, which isn't empty, its port or else 80 (RFC 9110, section
-- 4.2.1), and its path and query; user data and fragment don't count
pub record LeadsTo (url : Parts) (target : Target) : Type 0 where
  pub host : Some (string_bytes target.host) ≡ option_map host_text (nonempty_host url)
  pub port : target.port ≡ unwrap_or url.port 80
  pub path : string_bytes target.path ≡ url.path ++ query_text url.query

-- the text is this URL (URL Standard, section 4.4: the basic URL parser with no base)
abbrev pub IsUrl : List ℕ → Parts → Type 0
IsUrl text url = parse_url None text ≡ Ok url

-- the URL is of the scheme http
abbrev pub IsHttp : Parts → Type 0
IsHttp url = url.scheme ≡ codes "http"

-- the text has at most 2,048 bytes
abbrev pub IsShort : List ℕ → Type 0
IsShort text = length text ≤ 2048

-- the text is a short http URL that leads to the target
abbrev pub GivesTarget : List ℕ → Target → Type 0
GivesTarget text target =
    IsShort text × ((url : Parts) × IsUrl text url × IsHttp url × LeadsTo url target)

-- what each refusal says of the text; want of memory says only that it is short
abbrev pub Refuses : List ℕ → KeyError → Type 0
Refuses text Memory = IsShort text
Refuses text NotUrl = IsShort text × IsErr (parse_url None text)
Refuses text NotHttp = IsShort text × ((url : Parts) × IsUrl text url × (url.scheme ≢ codes "http"))
Refuses text TooLong = 2048 < length text
