-- The input of a script or an audit, and the words after `script` and `audit`.
use Rattle.std.specs.Prelude.{◌≡◌, codes, string_bytes, List, Option, None, Some, if◌then◌else◌}
use Rattle.std.specs.Str.{bytes_eq}
use Rattle.std.specs.Option.{option_map}
use Rattle.clap.specs.Words.{Row, Text}
use Rattle.clap.specs.Walk.{first_of}
use Rattle.command_line.specs.Options.{flag_said}
use Rattle.command_line.specs.declared.audit_words.AuditWords.{AuditWords}
use Rattle.command_line.specs.declared.input.Input.{Input}
use Rattle.command_line.specs.declared.input.Input.TheVariants.{Standard, File}
use Rattle.command_line.specs.declared.script_words.ScriptWords.{ScriptWords}

-- the file to be read, if the words name that one; none is standard input, which `-` names too
abbrev pub asked_file : Option Text → Option Text
asked_file None = None
asked_file (Some name) = if bytes_eq name (codes "-") then None else Some name

abbrev pub name_of : Input → Option Text
name_of Standard = None
name_of (File name) = Some (string_bytes name)

abbrev pub file_of : List Row → Option Text
file_of rows = asked_file (first_of (codes "FILE") rows)

-- the words after `script` give a flag, the file of a picture, and the script's file
pub record AreScriptWords (rows : List Row) (words : ScriptWords) : Type 0 where
  pub traced : words.is_traced ≡ flag_said (codes "trace") rows
  pub picture : option_map string_bytes words.picture ≡ first_of (codes "picture") rows
  pub file : name_of words.input ≡ file_of rows

-- the words after `audit` give three flags and the trace's file
pub record AreAuditWords (rows : List Row) (words : AuditWords) : Type 0 where
  pub all : words.telling.all ≡ flag_said (codes "all") rows
  pub json : words.telling.json ≡ flag_said (codes "json") rows
  pub state : words.telling.state ≡ flag_said (codes "state") rows
  pub file : name_of words.input ≡ file_of rows
