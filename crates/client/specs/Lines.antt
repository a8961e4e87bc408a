-- The line of a fetched URL.
use Rattle.std.specs.Prelude.{◌≡◌, ℕ, List, Bool, true, false, codes, if◌then◌else◌, ◌++◌}
use Rattle.std.specs.Fmt.{decimal}
use Rattle.persistence.specs.declared.facts.Facts.{Facts}
use Rattle.client.specs.declared.fetched.Fetched.{Fetched}
use Rattle.exchange.specs.declared.done.Done.{Done}
use Rattle.exchange.specs.declared.done.Done.TheVariants.{Good, Bad}
use Rattle.exchange.specs.declared.done.Fault.TheVariants.{Dial, Cut, Cancelled}
use Rattle.exchange.specs.Faults.{fault_name}

-- a text, as its bytes
abbrev pub Text : Type 0
Text = List ℕ

-- the words for a connection that was used before, and for a request that was sent again
abbrev pub reuse_word : Bool → Text
reuse_word reused = if reused then codes "reused" else codes "new"

abbrev pub retry_word : Bool → Text
retry_word retried = if retried then codes " retried" else codes ""

-- the result of a transfer: status, length of the body in bytes, word of its connection; or the name of its fault
abbrev pub end_text : Done → Text
end_text (Good answer) = decimal answer.status ++ (codes " " ++ (decimal answer.body_len ++ (codes " " ++ reuse_word answer.reused)))
end_text (Bad fault) = fault_name fault

-- the line of a fetch: its result, whether the request was sent again, and the URL
abbrev pub line_of : Text → Fetched → Text
line_of url fetched = end_text fetched.done ++ (retry_word fetched.retried ++ (codes " " ++ (url ++ codes "\n")))

-- the result of a job; a response records whether its request was sent again
abbrev pub fetched_as : Bool → Done → Fetched
fetched_as retried (Good answer) = record { done = Good answer; retried = answer.retried }
fetched_as retried (Bad fault) = record { done = Bad fault; retried = retried }

-- small lines
abbrev pub ResponseLines : Type 0
ResponseLines = (facts : Facts)
    → (line_of (codes "http://[::1]/") (record { done = Good (record { status = 200; body_len = 1048576; facts = facts; reused = false; retried = false }); retried = false }) ≡ codes "200 1048576 new http://[::1]/\n")
    × (line_of (codes "http://[::1]/") (record { done = Good (record { status = 404; body_len = 0; facts = facts; reused = true; retried = true }); retried = true }) ≡ codes "404 0 reused retried http://[::1]/\n")

abbrev pub FaultLines : Type 0
FaultLines =
    (line_of (codes "http://127.0.0.1:9/") (record { done = Bad Dial; retried = false }) ≡ codes "Dial http://127.0.0.1:9/\n")
    × (line_of (codes "HTTP://Localhost") (record { done = Bad Cancelled; retried = false }) ≡ codes "Cancelled HTTP://Localhost\n")
    × (line_of (codes "http://[::1]/a") (record { done = Bad Cut; retried = true }) ≡ codes "Cut retried http://[::1]/a\n")
