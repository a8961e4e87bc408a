-- Reports that were worked out by hand.
use Rattle.std.specs.Prelude.{◌≡◌, ℕ, ◌-◌, ◌^◌, Bool, true, false, [], ◌∷◌, codes}
use Rattle.shared_cache.specs.declared.gathered.HostCount.{HostCount}
use Rattle.exchange.specs.declared.done.Answer.{Answer}
use Rattle.exchange.specs.declared.done.Done.{Done}
use Rattle.exchange.specs.declared.done.Done.TheVariants.{Good, Bad}
use Rattle.exchange.specs.declared.done.Fault.TheVariants.{Dial, Cut}
use Rattle.load_report.specs.Accounts.{in_places, report_text}

-- what happened at a host
abbrev pub host : ℕ → ℕ → ℕ → ℕ → ℕ → HostCount
host opened reused closed waited alive = record { opened = opened; reused = reused; closed = closed; waited = waited; alive = alive }

-- a response with a body of so many bytes, whatever else it tells
abbrev pub good : Answer → ℕ → Bool → Bool → Done
good answer body_len reused retried = Good (record answer { body_len = body_len; reused = reused; retried = retried })

-- numbers of one, seven, eight, nine and twenty digits
abbrev pub GivesPlaces : Type 0
GivesPlaces = (in_places 0 ≡ codes "       0")
    × (in_places 1234567 ≡ codes " 1234567")
    × (in_places 12345678 ≡ codes "12345678")
    × (in_places 123456789 ≡ codes "123456789")
    × (in_places (2 ^ 64 - 1) ≡ codes "18446744073709551615")

-- without hosts and transfers
abbrev pub ReportsNothing : Type 0
ReportsNothing = report_text [] [] ≡ codes "all        0       0       0       0       0       0\njobs       0       0       0       0       0\n"

-- five transfers to one host, three of which found a connection that was used before
abbrev pub ReportsReuse : Type 0
ReportsReuse = (answer : Answer) → (let new = good answer 2 false false in let again = good answer 2 true false in
    report_text (host 2 3 2 1 0 ∷ []) (new ∷ again ∷ new ∷ again ∷ again ∷ [])
    ≡ codes "host       0       2       3       2       1       0\nall        1       2       3       2       1       0\njobs       5       0       3       0      10\n")

-- two hosts, and transfers that failed or were sent once more
abbrev pub ReportsFailures : Type 0
ReportsFailures = (answer : Answer) →
    report_text (host 3 1 1 0 2 ∷ host 12345678 123456789 7 8 9 ∷ []) (Bad Dial ∷ good answer 1048576 false true ∷ Bad Cut ∷ good answer 0 true false ∷ [])
    ≡ codes "host       0       3       1       1       0       2\nhost       112345678123456789       7       8       9\nall        212345681123456790       8       8      11\njobs       4       2       1       1 1048576\n"

-- sums past the greatest u64
abbrev pub ReportsGreatest : Type 0
ReportsGreatest = (answer : Answer) → (let greatest = 2 ^ 64 - 1 in
    report_text (host greatest 0 0 0 1 ∷ host greatest 0 1 0 0 ∷ []) (good answer greatest false false ∷ good answer 1 true true ∷ [])
    ≡ codes "host       018446744073709551615       0       0       0       1\nhost       118446744073709551615       0       1       0       0\nall        218446744073709551615       0       1       0       1\njobs       2       0       1       118446744073709551615\n")
