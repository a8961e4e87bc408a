-- Characters that a terminal obeys in place of printing them.
use Rattle.std.specs.Prelude.{◌||◌, ◌&&◌, ℕ, Bool, nat_le}

-- a control character (the Unicode Standard, section 23.1, C0, DELETE and C1), or one that turns the direction of text
-- (Unicode Standard Annex 9, section 2: explicit embeddings and overrides, explicit isolates)
abbrev pub is_unprintable : ℕ → Bool
is_unprintable code = nat_le code 0x1f || ((nat_le 0x7f code && nat_le code 0x9f) || ((nat_le 0x202a code && nat_le code 0x202e) || (nat_le 0x2066 code && nat_le code 0x2069)))
