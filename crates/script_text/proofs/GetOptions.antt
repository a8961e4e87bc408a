-- The first option of a get, and those after it.
use Rattle.std.proofs.Common.{◌≡◌, ℕ, ◌≤◌, ◌^◌, true, false, cond, List, [], ◌∷◌, length, ap, ◌∙◌, arith, Option, Some, None}
use Rattle.std.specs.Option.{option_map}
use Rattle.streams.specs.Words.{number, number_first}
use Rattle.script_text.specs.Grammar.{◌>>=◌, options_of, takes_number, with_number, with_word}
use Rattle.script_text.specs.declared.options.Options.{Options}

-- what is read as a number, and what is left
number-read : (read : Option ℕ) (rest others : List (List ℕ)) (n : ℕ) → option_map {U = ℕ × List (List ℕ)} (λ m. (m, rest)) read ≡ Some (n, others) → (read ≡ Some n) × (rest ≡ others)
number-read None rest others n e = cc
number-read (Some m) rest others n e = let same : (m, rest) ≡ (n, others) = cc in (ap (λ (p : ℕ × List (List ℕ)). Some p.0) same, ap (λ (p : ℕ × List (List ℕ)). p.1) same)

-- an option with its number
pub numbered-option : (options more : Options) (name : List ℕ) (rest others : List (List ℕ)) (n : ℕ) → takes_number name ≡ true → number_first (2 ^ 64) rest ≡ Some (n, others)
    → with_number name options n ≡ Some more → (options_of options (name ∷ rest) ≡ options_of more others) × (length others ≤ length rest)
numbered-option options more name [] others n takes read with = cc
numbered-option options more name (word ∷ rest) others n takes read with =
    let parts = number-read (number (2 ^ 64) word) rest others n read in (
      ap (λ b. cond b (number (2 ^ 64) word >>= with_number name options >>= λ more. options_of more rest) (with_word name options >>= λ more. options_of more (word ∷ rest))) takes
          ∙ ap (λ o. o >>= with_number name options >>= λ more. options_of more rest) parts.0
          ∙ ap (λ o. o >>= λ more. options_of more rest) with
          ∙ ap (options_of more) parts.1,
      omega (arith, ap length parts.1),
    )

-- an option that stands alone
pub lone-option : (options more : Options) (name : List ℕ) (rest : List (List ℕ)) → takes_number name ≡ false → with_word name options ≡ Some more
    → options_of options (name ∷ rest) ≡ options_of more rest
lone-option options more name [] takes with = ap (λ b. cond b None (with_word name options)) takes ∙ with
lone-option options more name (word ∷ rest) takes with =
    ap (λ b. cond b (number (2 ^ 64) word >>= with_number name options >>= λ more. options_of more rest) (with_word name options >>= λ more. options_of more (word ∷ rest))) takes
    ∙ ap (λ o. o >>= λ more. options_of more (word ∷ rest)) with
