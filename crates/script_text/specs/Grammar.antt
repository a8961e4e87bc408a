-- What a line of a script says.
use Rattle.std.specs.Prelude.{ℕ, ◌^◌, Bool, true, false, ◌||◌, ◌==◌, nat_lt, if◌then◌else◌, codes, List, [], ◌∷◌, length, Option, Some, None, is_some, unwrap_or, Result, Ok, Err}
use Rattle.std.specs.Option.{option_map}
use Rattle.std.specs.Str.{bytes_eq}
use Rattle.conn_log.specs.Wants.{default_max_age}
use Rattle.conn_log.specs.declared.entry.Want.{Want}
use Rattle.streams.specs.Words.{words, number, number_first, text_first, is_none_left}
use Rattle.script_text.specs.declared.options.Options.{Options}
use Rattle.script_text.specs.declared.command.Ending.{Ending}
use Rattle.script_text.specs.declared.command.Ending.TheVariants.{Keep, Close, Old, OldKeep, Eof, Cut, Surplus}
use Rattle.script_text.specs.declared.command.Command.{Command}
use Rattle.script_text.specs.declared.command.Command.TheVariants as commands
use Rattle.script_text.specs.declared.command.HostCommand.TheVariants as asks
use Rattle.script_text.specs.declared.command.Action.TheVariants as actions
use Rattle.script_text.specs.declared.fault.FaultKind.{FaultKind}
use Rattle.script_text.specs.declared.fault.FaultKind.TheVariants.{LineTooLong, Unknown, Form}

-- a form takes a part from the words, and goes on with those after it
infixl 10 ◌>>=◌
abbrev pub ◌>>=◌ : {A B : Type 0} → Option A → (A → Option B) → Option B
None >>= f = None
(Some x) >>= f = f x

-- KIND: how a response ended
unfoldable pub ending_of : List ℕ → Option Ending
ending_of word =
    if bytes_eq word (codes "keep") then Some Keep else (
    if bytes_eq word (codes "close") then Some Close else (
    if bytes_eq word (codes "old") then Some Old else (
    if bytes_eq word (codes "old-keep") then Some OldKeep else (
    if bytes_eq word (codes "eof") then Some Eof else (
    if bytes_eq word (codes "cut") then Some Cut else (
    if bytes_eq word (codes "surplus") then Some Surplus else None))))))

abbrev pub ending_first : List (List ℕ) → Option (Ending × List (List ℕ))
ending_first [] = None
ending_first (word ∷ others) = option_map (λ ending. (ending, others)) (ending_of word)

-- no word is left
abbrev pub if_none_left : List (List ℕ) → Command → Option Command
if_none_left rest command = if is_none_left rest then Some command else None

-- limits H T C
unfoldable pub limits_form : List (List ℕ) → Option Command
limits_form rest = do
  host ← number_first (2 ^ 32) rest
  total ← number_first (2 ^ 32) host.1
  kept ← number_first (2 ^ 32) total.1
  if_none_left kept.1 (commands.Limits (record { host = host.0; total = total.0; kept = kept.0 }))

-- site URL
unfoldable pub site_form : List (List ℕ) → Option Command
site_form [] = None
site_form (word ∷ rest) = if_none_left rest (commands.Site word)

-- no option of get is given yet
abbrev pub no_options : Options
no_options = record { age = None; life = None; fresh = false; forbid = false }

-- age N and life N, where they were not given before
abbrev pub with_age : Options → ℕ → Option Options
with_age options n = if is_some options.age then None else Some (record options { age = Some n })

abbrev pub with_life : Options → ℕ → Option Options
with_life options n = if is_some options.life then None else Some (record options { life = Some n })

abbrev pub takes_number : List ℕ → Bool
takes_number name = bytes_eq name (codes "age") || bytes_eq name (codes "life")

unfoldable pub with_number : List ℕ → Options → ℕ → Option Options
with_number name options n =
    if bytes_eq name (codes "age") then with_age options n else (
    if bytes_eq name (codes "life") then with_life options n else None)

-- fresh and forbid, where they were not given before
abbrev pub with_fresh : Options → Option Options
with_fresh options = if options.fresh then None else Some (record options { fresh = true })

abbrev pub with_forbid : Options → Option Options
with_forbid options = if options.forbid then None else Some (record options { forbid = true })

unfoldable pub with_word : List ℕ → Options → Option Options
with_word name options =
    if bytes_eq name (codes "fresh") then with_fresh options else (
    if bytes_eq name (codes "forbid") then with_forbid options else None)

-- the options of get with those that the words add, in any order, until no word is left
abbrev pub options_of : Options → List (List ℕ) → Option Options
options_of options [] = Some options
options_of options (name ∷ []) = if takes_number name then None else with_word name options
options_of options (name ∷ word ∷ rest) =
    if takes_number name
    then (number (2 ^ 64) word >>= with_number name options >>= λ more. options_of more rest)
    else (with_word name options >>= λ more. options_of more (word ∷ rest))

-- what get wants: if the options say no other, the default age, and a lifetime of 0, which is no limit
abbrev pub want_of : ℕ → ℕ → Options → Want
want_of transfer lane options = record {
  transfer = transfer;
  lane = lane;
  max_age = unwrap_or options.age default_max_age;
  max_life = unwrap_or options.life 0;
  fresh = options.fresh;
  forbid_reuse = options.forbid;
}

-- get T S L at M, and options
unfoldable pub get_form : List (List ℕ) → Option Command
get_form rest = do
  transfer ← number_first (2 ^ 64) rest
  site ← number_first (2 ^ 32) transfer.1
  lane ← number_first (2 ^ 32) site.1
  at ← text_first (codes "at") lane.1
  moment ← number_first (2 ^ 64) at
  options ← options_of no_options moment.1
  Some (commands.Ask (asks.At site.0 (actions.Get (want_of transfer.0 lane.0 options) moment.0)))

-- claim T S
unfoldable pub claim_form : List (List ℕ) → Option Command
claim_form rest = do
  transfer ← number_first (2 ^ 64) rest
  site ← number_first (2 ^ 32) transfer.1
  if_none_left site.1 (commands.Ask (asks.At site.0 (actions.Claim transfer.0)))

-- back T S KIND at M
unfoldable pub back_form : List (List ℕ) → Option Command
back_form rest = do
  transfer ← number_first (2 ^ 64) rest
  site ← number_first (2 ^ 32) transfer.1
  ending ← ending_first site.1
  at ← text_first (codes "at") ending.1
  moment ← number_first (2 ^ 64) at
  if_none_left moment.1 (commands.Ask (asks.At site.0 (actions.Back transfer.0 ending.0 moment.0)))

-- drop T S at M
unfoldable pub drop_form : List (List ℕ) → Option Command
drop_form rest = do
  transfer ← number_first (2 ^ 64) rest
  site ← number_first (2 ^ 32) transfer.1
  at ← text_first (codes "at") site.1
  moment ← number_first (2 ^ 64) at
  if_none_left moment.1 (commands.Ask (asks.At site.0 (actions.Drop transfer.0 moment.0)))

-- leave T S at M
unfoldable pub leave_form : List (List ℕ) → Option Command
leave_form rest = do
  transfer ← number_first (2 ^ 64) rest
  site ← number_first (2 ^ 32) transfer.1
  at ← text_first (codes "at") site.1
  moment ← number_first (2 ^ 64) at
  if_none_left moment.1 (commands.Ask (asks.At site.0 (actions.Leave transfer.0 moment.0)))

-- limit S N at M
unfoldable pub limit_form : List (List ℕ) → Option Command
limit_form rest = do
  site ← number_first (2 ^ 32) rest
  limit ← number_first (2 ^ 32) site.1
  at ← text_first (codes "at") limit.1
  moment ← number_first (2 ^ 64) at
  if_none_left moment.1 (commands.Ask (asks.At site.0 (actions.Limit limit.0 moment.0)))

-- prune A F at M
unfoldable pub prune_form : List (List ℕ) → Option Command
prune_form rest = do
  max_age ← number_first (2 ^ 64) rest
  max_life ← number_first (2 ^ 64) max_age.1
  at ← text_first (codes "at") max_life.1
  moment ← number_first (2 ^ 64) at
  if_none_left moment.1 (commands.Ask (asks.Prune max_age.0 max_life.0 moment.0))

-- upkeep
unfoldable pub upkeep_form : List (List ℕ) → Option Command
upkeep_form rest = if_none_left rest (commands.Ask asks.Upkeep)

-- look S
unfoldable pub look_form : List (List ℕ) → Option Command
look_form rest = do
  site ← number_first (2 ^ 32) rest
  if_none_left site.1 (commands.Ask (asks.At site.0 actions.Look))

-- a known command has its form, or else it is wrong
abbrev pub formed : Option Command → Result Command FaultKind
formed None = Err Form
formed (Some command) = Ok command

unfoldable pub command_of : List ℕ → List (List ℕ) → Result Command FaultKind
command_of name rest =
    if bytes_eq name (codes "limits") then formed (limits_form rest) else (
    if bytes_eq name (codes "site") then formed (site_form rest) else (
    if bytes_eq name (codes "get") then formed (get_form rest) else (
    if bytes_eq name (codes "claim") then formed (claim_form rest) else (
    if bytes_eq name (codes "back") then formed (back_form rest) else (
    if bytes_eq name (codes "drop") then formed (drop_form rest) else (
    if bytes_eq name (codes "leave") then formed (leave_form rest) else (
    if bytes_eq name (codes "limit") then formed (limit_form rest) else (
    if bytes_eq name (codes "prune") then formed (prune_form rest) else (
    if bytes_eq name (codes "upkeep") then formed (upkeep_form rest) else (
    if bytes_eq name (codes "look") then formed (look_form rest) else Err Unknown))))))))))

-- a line holds so many bytes at most, without its line end
abbrev pub LONGEST_LINE : ℕ
LONGEST_LINE = 2304

-- skipped: a line without words, or with # as its first byte
abbrev pub is_comment : List ℕ → Bool
is_comment [] = false
is_comment (byte ∷ bytes) = byte == 35

abbrev pub present : {E : Type 0} → Result Command E → Result (Option Command) E
present (Ok command) = Ok (Some command)
present (Err kind) = Err kind

abbrev pub reading_of : List (List ℕ) → Result (Option Command) FaultKind
reading_of [] = Ok None
reading_of (name ∷ rest) = present (command_of name rest)

unfoldable pub reading : List ℕ → Result (Option Command) FaultKind
reading line = if nat_lt LONGEST_LINE (length line) then Err LineTooLong else (if is_comment line then Ok None else reading_of (words line))
