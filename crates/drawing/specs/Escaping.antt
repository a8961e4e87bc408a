-- How a character stands in XML, between tags or in double quotes.
use Rattle.std.specs.Prelude.{◌||◌, ◌&&◌, ◌==◌, not, ℕ, Bool, nat_le, codes, List, if◌then◌else◌}
use Rattle.std.specs.Char.{encode_utf8}

-- XML 1.0, production 2, leaves these out: control characters but tab, line feed and carriage return; U+FFFE and U+FFFF
abbrev pub is_refused : ℕ → Bool
is_refused code = (nat_le code 0x1f && (not (code == 0x9) && (not (code == 0xa) && not (code == 0xd)))) || ((code == 0xfffe) || (code == 0xffff))

-- the characters that markup begins or ends with are references (section 2.4), and what is left out is U+FFFD
abbrev pub escape : ℕ → List ℕ
escape c =
    if c == 0x26 then codes "&amp;" else (
    if c == 0x3c then codes "&lt;" else (
    if c == 0x3e then codes "&gt;" else (
    if c == 0x22 then codes "&quot;" else (
    if is_refused c then encode_utf8 0xfffd else encode_utf8 c))))
