-- The last byte of a text, and the bytes before it.
use Rattle.std.proofs.Common.{◌≡◌, ◌∙◌, ◌-◌, ◌^◌, ℕ, List, [], ◌∷◌, ◌++◌, length, take, refl, ap, arith}
use Rattle.std.specs.Prelude.{◌==◌, false, Option, None, Some}
use Rattle.std.specs.List.{last_or}
use Rattle.std.proofs.lemmas.List.{length-append}
use Rattle.streams.specs.Words.{number}
use Rattle.command_line.specs.Numbers.{seconds_at, seconds_in, seconds_with}

last-is : (o : Option ℕ) (front : List ℕ) (byte : ℕ) → last_or o (front ++ byte ∷ []) ≡ Some byte
last-is o [] byte = refl
last-is o (first ∷ front) byte = last-is (Some first) front byte

take-front : (front : List ℕ) (byte : ℕ) → take (length front) (front ++ byte ∷ []) ≡ front
take-front [] byte = refl
take-front (first ∷ front) byte = ap (λ l. first ∷ l) (take-front front byte)

-- a duration by its last byte
pub by-last : (text front : List ℕ) (byte : ℕ) → text ≡ front ++ byte ∷ [] → seconds_in text ≡ seconds_at byte front text
by-last text front byte is =
    let longer : length text - 1 ≡ length front = omega (arith, ap length is, length-append front (byte ∷ [])) in
    rw (ap (last_or None) is ∙ last-is None front byte, longer, ap (take (length front)) is ∙ take-front front byte) refl

-- a duration in hours, minutes or seconds, and one without a unit
pub in-hours : (text front : List ℕ) (byte : ℕ) → text ≡ front ++ byte ∷ [] → byte ≡ 104 → seconds_in text ≡ seconds_with 3600 front
in-hours text front byte is hours = by-last text front byte is ∙ rw hours refl

pub in-minutes : (text front : List ℕ) (byte : ℕ) → text ≡ front ++ byte ∷ [] → byte ≡ 109 → seconds_in text ≡ seconds_with 60 front
in-minutes text front byte is minutes = by-last text front byte is ∙ rw minutes refl

pub in-seconds : (text front : List ℕ) (byte : ℕ) → text ≡ front ++ byte ∷ [] → byte ≡ 115 → seconds_in text ≡ number (2 ^ 64) front
in-seconds text front byte is seconds = by-last text front byte is ∙ rw seconds refl

pub without-unit : (text front : List ℕ) (byte : ℕ) → text ≡ front ++ byte ∷ [] → (byte == 104) ≡ false → (byte == 109) ≡ false → (byte == 115) ≡ false → seconds_in text ≡ number (2 ^ 64) text
without-unit text front byte is hours minutes seconds = by-last text front byte is ∙ rw (hours, minutes, seconds) refl
