-- The text of a request (RFC 9112, sections 2.1, 3 and 3.2; RFC 9110, sections 7.2 and 7.6.1).
use Rattle.std.specs.Prelude.{ℕ, Bool, true, false, codes, ◌==◌, if◌then◌else◌, List, [], ◌++◌}
use Rattle.std.specs.Fmt.{decimal}
use Rattle.persistence.specs.declared.method.Method.{Method}
use Rattle.persistence.specs.declared.method.Method.TheVariants.{Get, Head}

abbrev pub method_word : Method → List ℕ
method_word Get = codes "GET"
method_word Head = codes "HEAD"

-- the port of a Host field, left out if it is that of the scheme
abbrev pub port_text : ℕ → List ℕ
port_text port = if port == 80 then [] else codes ":" ++ decimal port

-- the connection option `close`, if the connection may not be used again
abbrev pub close_line : Bool → List ℕ
close_line true = codes "Connection: close\r\n"
close_line false = []

-- the request line, the Host field, the option, and the empty line
abbrev pub request_text : Method → List ℕ → List ℕ → ℕ → Bool → List ℕ
request_text method path host port close =
    method_word method ++ (codes " " ++ (path ++ (codes " HTTP/1.1\r\nHost: " ++ (host ++ (port_text port ++ (codes "\r\n" ++ (close_line close ++ codes "\r\n")))))))
