-- What a request's text is, by the parts that are written.
use Rattle.std.proofs.Common.{◌≡◌, ◌≢◌, ℕ, Bool, codes, List, [], ◌++◌, refl, Result, OnOk}
use Rattle.std.specs.Fmt.{decimal}
use Rattle.std.proofs.lemmas.Bool.{ne_eqb}
use Rattle.persistence.specs.declared.method.Method.{Method}
use Rattle.exchange.specs.Request.{method_word, close_line, request_text}

-- at the port of the scheme, the host alone
text_without_port : (method : Method) (path host : List ℕ) (port : ℕ) (close : Bool) (word p h option : List ℕ) → word ≡ method_word method → p ≡ path → h ≡ host → option ≡ close_line close → port ≡ 80 → word ++ (codes " " ++ (p ++ (codes " HTTP/1.1\r\nHost: " ++ (h ++ (codes "\r\n" ++ (option ++ codes "\r\n")))))) ≡ request_text method path host port close
text_without_port method path host port close word p h option a b d e is = rw (a, b, d, e, is) refl

-- at another port, the host and the port
text_with_port : (method : Method) (path host : List ℕ) (port : ℕ) (close : Bool) (word p h option : List ℕ) → word ≡ method_word method → p ≡ path → h ≡ host → option ≡ close_line close → port ≢ 80 → word ++ (codes " " ++ (p ++ (codes " HTTP/1.1\r\nHost: " ++ (h ++ (codes ":" ++ (decimal port ++ (codes "\r\n" ++ (option ++ codes "\r\n")))))))) ≡ request_text method path host port close
text_with_port method path host port close word p h option a b d e isnt = let other = ne_eqb port 80 isnt in rw (a, b, d, e, other) refl

-- a text that was written so is the request's
pub written_without_port : {U E : Type 0} (r : Result U E) (old new : List ℕ) (method : Method) (path host : List ℕ) (port : ℕ) (close : Bool) (word p h option : List ℕ) → old ≡ [] → word ≡ method_word method → p ≡ path → h ≡ host → option ≡ close_line close → port ≡ 80 → OnOk r (new ≡ old ++ (word ++ (codes " " ++ (p ++ (codes " HTTP/1.1\r\nHost: " ++ (h ++ (codes "\r\n" ++ (option ++ codes "\r\n")))))))) → OnOk r (new ≡ request_text method path host port close)
written_without_port r old new method path host port close word p h option none a b d e is given = let joined = text_without_port method path host port close word p h option a b d e is in rw (none, joined) at given

pub written_with_port : {U E : Type 0} (r : Result U E) (old new : List ℕ) (method : Method) (path host : List ℕ) (port : ℕ) (close : Bool) (word p h option : List ℕ) → old ≡ [] → word ≡ method_word method → p ≡ path → h ≡ host → option ≡ close_line close → port ≢ 80 → OnOk r (new ≡ old ++ (word ++ (codes " " ++ (p ++ (codes " HTTP/1.1\r\nHost: " ++ (h ++ (codes ":" ++ (decimal port ++ (codes "\r\n" ++ (option ++ codes "\r\n")))))))))) → OnOk r (new ≡ request_text method path host port close)
written_with_port r old new method path host port close word p h option none a b d e isnt given = let joined = text_with_port method path host port close word p h option a b d e isnt in rw (none, joined) at given
