-- The options and operands of the commands. The four lists are made by `tools/options` of the rows in
-- src/options.rt.
use Rattle.std.specs.Prelude.{ℕ, Bool, true, false, List, [], ◌∷◌, Option, None, Some, codes}
use Rattle.clap.specs.Words.{Text}
use Rattle.command_line.specs.declared.options.OptionRow.{OptionRow}
use Rattle.command_line.specs.declared.options.Takes.{Takes}
use Rattle.command_line.specs.declared.options.Takes.TheVariants as takes

-- an option: names, kind, range of its number; `is_plain` if a load with it prints only its report
pub record OptionFacts : Type 0 where
  pub name : Text
  pub short : Option ℕ
  pub takes : Takes
  pub least : ℕ
  pub greatest : ℕ
  pub is_plain : Bool

-- a row of the table without its texts for help
abbrev pub facts_of : OptionRow → OptionFacts
facts_of row = record { name = row.name.now; short = row.short; takes = row.takes; least = row.least; greatest = row.greatest; is_plain = row.is_plain }

abbrev pub option : Takes → Text → OptionFacts
option takes name = record { name = name; short = None; takes = takes; least = 0; greatest = 0; is_plain = false }

abbrev pub flag : Text → OptionFacts
flag name = option takes.Nothing name

abbrev pub within : ℕ → ℕ → OptionFacts → OptionFacts
within least greatest facts = record facts { least = least; greatest = greatest }

abbrev pub plain : OptionFacts → OptionFacts
plain facts = record facts { is_plain = true }

abbrev pub short : ℕ → OptionFacts → OptionFacts
short letter facts = record facts { short = Some letter }

abbrev pub get_options : List OptionFacts
get_options =
    flag (codes "head")
    ∷ within 0 18446744073709551615 (option takes.Seconds (codes "max-age"))
    ∷ within 1 3600 (option takes.Seconds (codes "timeout"))
    ∷ option takes.Text (codes "file")
    -- P
    ∷ short 80 (within 1 256 (option takes.Number (codes "parallel")))
    ∷ plain (within 0 65535 (option takes.Number (codes "host-limit")))
    ∷ plain (within 0 65535 (option takes.Number (codes "total")))
    ∷ within 0 18446744073709551615 (option takes.Seconds (codes "max-life"))
    ∷ option takes.Texts (codes "resolve")
    ∷ flag (codes "fresh")
    ∷ flag (codes "skip-bad")
    ∷ flag (codes "fail")
    ∷ flag (codes "json")
    ∷ option takes.Operands (codes "URL")
    ∷ []

abbrev pub load_options : List OptionFacts
load_options =
    plain (within 1 8 (option takes.Number (codes "sites")))
    -- n
    ∷ short 110 (plain (within 1 4294967295 (option takes.Number (codes "jobs"))))
    -- t
    ∷ short 116 (plain (within 1 64 (option takes.Number (codes "workers"))))
    ∷ plain (within 0 65535 (option takes.Number (codes "host-limit")))
    ∷ plain (within 0 65535 (option takes.Number (codes "total")))
    ∷ plain (within 1 65535 (option takes.Number (codes "connects")))
    ∷ plain (option takes.Text (codes "trace"))
    ∷ option takes.Text (codes "picture")
    ∷ option takes.Texts (codes "url")
    ∷ option takes.Texts (codes "resolve")
    -- c
    ∷ short 99 (within 1 1024 (option takes.Number (codes "connections")))
    -- d
    ∷ short 100 (within 1 86400 (option takes.Seconds (codes "seconds")))
    ∷ within 0 3600 (option takes.Seconds (codes "warmup"))
    -- R
    ∷ short 82 (within 1 1000000 (option takes.Number (codes "rate")))
    ∷ within 1 3600 (option takes.Seconds (codes "timeout"))
    ∷ within 0 10000 (option takes.Percent (codes "fail-above"))
    ∷ flag (codes "head")
    ∷ flag (codes "forbid-reuse")
    ∷ flag (codes "fail")
    ∷ flag (codes "json")
    ∷ flag (codes "quiet")
    ∷ flag (codes "no-progress")
    ∷ option takes.Operands (codes "URL")
    ∷ []

abbrev pub script_options : List OptionFacts
script_options =
    flag (codes "trace")
    ∷ option takes.Text (codes "picture")
    ∷ option takes.Operand (codes "FILE")
    ∷ []

abbrev pub audit_options : List OptionFacts
audit_options =
    flag (codes "all")
    ∷ flag (codes "json")
    ∷ flag (codes "state")
    ∷ option takes.Operand (codes "FILE")
    ∷ []
