-- The URLs of a crawl, and the addresses that are given for hosts.
use Rattle.std.specs.Prelude.{ℕ, List, map, string_bytes, ◌≡◌, ◌⊎◌, ◌∷◌, [], Option, Some, None}
use Rattle.commands.specs.declared.resolved.Resolved.{Resolved}
use Rattle.commands.specs.declared.url.CrawlUrl.{CrawlUrl}
use Rattle.std.specs.Char.{to_ascii_lowercase}
use Rattle.std.specs.Net.Socket.{socket_port}
use Rattle.std.specs.declared.net.socket_addr.SocketAddr.{SocketAddr}

abbrev pub url_text : CrawlUrl → List ℕ
url_text url = string_bytes url.text

abbrev pub url_texts : List CrawlUrl → List (List ℕ)
url_texts urls = map url_text urls

-- an address is given for that port and host, which are compared without regard to case
abbrev pub IsGivenFor : List ℕ → ℕ → Resolved → Type 0
IsGivenFor host port given =
    (socket_port given.address ≡ port) × (map to_ascii_lowercase (string_bytes given.host) ≡ map to_ascii_lowercase host)

-- the address of the first entry for that host and port; none if there is no entry
abbrev pub IsGivenAddress : List ℕ → ℕ → List Resolved → Option SocketAddr → Type 0
IsGivenAddress host port [] found = found ≡ None
IsGivenAddress host port (given ∷ rest) found =
    (IsGivenFor host port given × (found ≡ Some given.address))
    ⊎ ((IsGivenFor host port given → ⊥) × IsGivenAddress host port rest found)
