-- Small command lines, with their faults and values.
use Rattle.std.specs.Prelude.{◌≡◌, true, false, List, [], ◌∷◌, codes, Some, None, unwrap_or}
use Rattle.std.specs.Option.{option_map}
use Rattle.clap.specs.Words.{Kinds, Row, Text}
use Rattle.clap.specs.Walk.{first_of}
use Rattle.clap.specs.declared.error.kind.ErrorKind.TheVariants as kinds
use Rattle.command_line.specs.CommandLine.{faults_of, read_words, rows_after}
use Rattle.command_line.specs.Inputs.{file_of}
use Rattle.command_line.specs.LoadUrls.{urls_said}
use Rattle.command_line.specs.Options.{flag_said, number_said, texts_said}
use Rattle.command_line.specs.declared.options.Takes.TheVariants.{Number, Percent, Seconds}

abbrev pub faults_after : List Text → Kinds
faults_after words = faults_of (codes "curlpool" ∷ words)

-- the rows of the subcommand that they name
abbrev pub row_part : Text × List Row → List Row
row_part entered = entered.1

abbrev pub small_rows : List Text → List Row
small_rows words = unwrap_or (option_map row_part (rows_after (codes "curlpool" ∷ words))) []

abbrev pub TakesScript : Type 0
TakesScript = faults_after (codes "script" ∷ []) ≡ []

abbrev pub WantsSubcommand : Type 0
WantsSubcommand = faults_after [] ≡ kinds.MissingSubcommand ∷ []

abbrev pub TellsHelpOnHelp : Type 0
TellsHelpOnHelp = faults_after (codes "--help" ∷ []) ≡ kinds.DisplayHelp ∷ []

-- help on the program and on each subcommand, by the word help as by the option
abbrev pub TellsHelpOnWord : Type 0
TellsHelpOnWord = (read_words (codes "curlpool" ∷ codes "help" ∷ []) ≡ codes "curlpool" ∷ codes "--help" ∷ [])
    × (read_words (codes "curlpool" ∷ codes "help" ∷ codes "get" ∷ []) ≡ codes "curlpool" ∷ codes "get" ∷ codes "--help" ∷ [])
    × (faults_after (codes "help" ∷ codes "load" ∷ []) ≡ kinds.DisplayHelp ∷ [])

abbrev pub TellsVersionOnVersion : Type 0
TellsVersionOnVersion = faults_after (codes "--version" ∷ []) ≡ kinds.DisplayVersion ∷ []

abbrev pub RefusesAnotherWord : Type 0
RefusesAnotherWord = faults_after (codes "script" ∷ codes "a" ∷ codes "again" ∷ []) ≡ kinds.UnknownArgument ∷ []

abbrev pub TakesFile : Type 0
TakesFile = (faults_after (codes "script" ∷ codes "a" ∷ []) ≡ []) × (file_of (small_rows (codes "script" ∷ codes "a" ∷ [])) ≡ Some (codes "a"))

abbrev pub TakesStandardInput : Type 0
TakesStandardInput = (file_of (small_rows (codes "script" ∷ [])) ≡ None) × (file_of (small_rows (codes "script" ∷ codes "-" ∷ [])) ≡ None)

abbrev pub TakesDash : Type 0
TakesDash = faults_after (codes "script" ∷ codes "-" ∷ []) ≡ []

abbrev pub TakesTraceFlag : Type 0
TakesTraceFlag = (faults_after (codes "script" ∷ codes "a" ∷ codes "--trace" ∷ []) ≡ [])
    × (flag_said (codes "trace") (small_rows (codes "script" ∷ codes "a" ∷ codes "--trace" ∷ [])) ≡ true)
    × (flag_said (codes "trace") (small_rows (codes "script" ∷ codes "a" ∷ [])) ≡ false)

abbrev pub a_picture : List Text
a_picture = codes "script" ∷ codes "--picture" ∷ codes "a" ∷ codes "b" ∷ []

abbrev pub TakesPicture : Type 0
TakesPicture = (faults_after a_picture ≡ []) × (first_of (codes "picture") (small_rows a_picture) ≡ Some (codes "a")) × (file_of (small_rows a_picture) ≡ Some (codes "b"))

abbrev pub a_get : List Text
a_get = codes "get" ∷ codes "--head" ∷ codes "a" ∷ codes "--timeout" ∷ codes "2m" ∷ codes "b" ∷ []

abbrev pub TakesUrls : Type 0
TakesUrls = (faults_after a_get ≡ []) × (flag_said (codes "head") (small_rows a_get) ≡ true)
    × (number_said (codes "timeout") Seconds 1 3600 (small_rows a_get) ≡ Some 120) × (texts_said (codes "URL") (small_rows a_get) ≡ codes "a" ∷ codes "b" ∷ [])

abbrev pub a_crawl : List Text
a_crawl = codes "get" ∷ codes "--file=-" ∷ codes "-P" ∷ codes "8" ∷ codes "--resolve" ∷ codes "a:1:::1" ∷ codes "--fail" ∷ codes "--resolve=b:2:::1" ∷ []

abbrev pub TakesCrawl : Type 0
TakesCrawl = (faults_after a_crawl ≡ []) × (first_of (codes "file") (small_rows a_crawl) ≡ Some (codes "-"))
    × (number_said (codes "parallel") Number 1 256 (small_rows a_crawl) ≡ Some 8)
    × (texts_said (codes "resolve") (small_rows a_crawl) ≡ codes "a:1:::1" ∷ codes "b:2:::1" ∷ []) × (flag_said (codes "fail") (small_rows a_crawl) ≡ true)

abbrev pub RefusesTwice : Type 0
RefusesTwice = faults_after (codes "get" ∷ codes "--max-age=1" ∷ codes "--max-age=2" ∷ codes "a" ∷ []) ≡ kinds.ArgumentConflict ∷ []

abbrev pub a_load : List Text
a_load = codes "load" ∷ codes "--jobs" ∷ codes "3" ∷ codes "--connects=07" ∷ codes "--trace" ∷ codes "a" ∷ []

abbrev pub TakesNumbers : Type 0
TakesNumbers = (faults_after a_load ≡ []) × (number_said (codes "jobs") Number 1 10000 (small_rows a_load) ≡ Some 3)
    × (number_said (codes "connects") Number 1 65535 (small_rows a_load) ≡ Some 7) × (first_of (codes "trace") (small_rows a_load) ≡ Some (codes "a"))

abbrev pub a_long_load : List Text
a_long_load = codes "load" ∷ codes "--url" ∷ codes "a" ∷ codes "-d1s" ∷ codes "--json" ∷ codes "--url=b" ∷ codes "c" ∷ codes "--fail-above" ∷ codes "1.5" ∷ []

abbrev pub TakesMeasured : Type 0
TakesMeasured = (faults_after a_long_load ≡ []) × (urls_said (small_rows a_long_load) ≡ codes "a" ∷ codes "b" ∷ codes "c" ∷ [])
    × (number_said (codes "seconds") Seconds 1 86400 (small_rows a_long_load) ≡ Some 1)
    × (number_said (codes "fail-above") Percent 0 10000 (small_rows a_long_load) ≡ Some 150) × (flag_said (codes "json") (small_rows a_long_load) ≡ true)

abbrev pub RefusesNumberTwice : Type 0
RefusesNumberTwice = faults_after (codes "load" ∷ codes "--total=1" ∷ codes "--total=1" ∷ []) ≡ kinds.ArgumentConflict ∷ []

abbrev pub WantsNumber : Type 0
WantsNumber = faults_after (codes "load" ∷ codes "--sites" ∷ []) ≡ kinds.InvalidValue ∷ []

abbrev pub an_audit : List Text
an_audit = codes "audit" ∷ codes "--all" ∷ codes "a" ∷ codes "--state" ∷ []

abbrev pub TakesTrace : Type 0
TakesTrace = (faults_after an_audit ≡ []) × (flag_said (codes "all") (small_rows an_audit) ≡ true) × (flag_said (codes "json") (small_rows an_audit) ≡ false)
    × (flag_said (codes "state") (small_rows an_audit) ≡ true) × (file_of (small_rows an_audit) ≡ Some (codes "a"))

abbrev pub RefusesFlagTwice : Type 0
RefusesFlagTwice = faults_after (codes "audit" ∷ codes "--json" ∷ codes "--json" ∷ []) ≡ kinds.ArgumentConflict ∷ []
