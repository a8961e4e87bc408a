-- URLs that can be fetched.
use Rattle.std.specs.Prelude.{◌≡◌, ◌≢◌, ◌⊎◌, ◌<◌, ℕ, true, false, List, length, take, IsUtf8}
use Rattle.std.specs.List.{list_any}
use Rattle.std.specs.Str.{chars}
use Rattle.std.specs.Str.Lossy.{utf8_lossy}
use Rattle.conn_key.specs.Target.{Refuses}
use Rattle.conn_key.specs.declared.target.KeyError.{KeyError}
use Rattle.conn_key.specs.declared.target.KeyError.TheVariants.{Memory}
use Rattle.commands.specs.Printable.{is_unprintable}
use Rattle.commands.specs.declared.url.UrlFault.{UrlFault}
use Rattle.commands.specs.declared.url.UrlFault.TheVariants as faults

-- a text that a terminal prints as it is
abbrev pub IsPrintable : List ℕ → Type 0
IsPrintable text = list_any is_unprintable (chars text) ≡ false

-- the text is no URL that leads to a target; or it has a control character
abbrev pub IsBadUrl : List ℕ → Type 0
IsBadUrl url = ((error : KeyError) × Refuses url error × (error ≢ Memory)) ⊎ (list_any is_unprintable (chars url) ≡ true)

-- the text of a line that is longer than 2,048 bytes, or not UTF-8: its first 2,048 bytes, with U+FFFD for each byte
-- that is not UTF-8
pub record IsBadLine (text : List ℕ) : Type 0 where
  pub line : List ℕ
  pub text_is : text ≡ utf8_lossy (take 2048 line)
  pub bad : (2048 < length line) ⊎ (IsUtf8 line → ⊥)

-- the text of a bad URL, or of a bad line
abbrev pub IsBadText : List ℕ → Type 0
IsBadText text = IsBadUrl text ⊎ IsBadLine text

-- a URL that is refused is bad, if memory did not run out
abbrev pub IsUrlFault : List ℕ → UrlFault → Type 0
IsUrlFault url faults.Memory = Unit {0}
IsUrlFault url faults.Unprintable = IsBadUrl url
IsUrlFault url (faults.NoTarget error) = IsBadUrl url
