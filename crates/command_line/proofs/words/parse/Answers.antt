use Rattle.std.proofs.Common.{rules, ◌≡◌, ◌∙◌, ap, Bool, true, false, refl, subst, sym, codes, List, map}
use Rattle.std.specs.Borrow.{Bor}
use Rattle.std.specs.Str.{bytes_eq}
use Rattle.clap.specs.Words.{App, HasKind, Text, app_of, fault_of, is_simple, is_simple_and_free, subcommand_of}
use Rattle.clap.proofs.OnLiterals.{clap_on_literals}
use Rattle.command_line.specs.CommandLine.{curlpool, curlpool_with, first_word}
use Rattle.command_line.proofs.words.parse.Goals as goal

is_exact_with : (s g l a : Bool) → is_simple_and_free (curlpool_with s g l a) ≡ true
unfolding clap_on_literals
is_exact_with false false false false = refl
is_exact_with true false false false = refl
is_exact_with false true false false = refl
is_exact_with true true false false = refl
is_exact_with false false true false = refl
is_exact_with true false true false = refl
is_exact_with false true true false = refl
is_exact_with true true true false = refl
is_exact_with false false false true = refl
is_exact_with true false false true = refl
is_exact_with false true false true = refl
is_exact_with true true false true = refl
is_exact_with false false true true = refl
is_exact_with true false true true = refl
is_exact_with false true true true = refl
is_exact_with true true true true = refl

has_matches_with : (s g l a : Bool) → is_simple (curlpool_with s g l a) ≡ true
unfolding clap_on_literals
has_matches_with false false false false = refl
has_matches_with true false false false = refl
has_matches_with false true false false = refl
has_matches_with true true false false = refl
has_matches_with false false true false = refl
has_matches_with true false true false = refl
has_matches_with false true true false = refl
has_matches_with true true true false = refl
has_matches_with false false false true = refl
has_matches_with true false false true = refl
has_matches_with false true false true = refl
has_matches_with true true false true = refl
has_matches_with false false true true = refl
has_matches_with true false true true = refl
has_matches_with false true true true = refl
has_matches_with true true true true = refl

is_exact : (first : Text) → is_simple_and_free (curlpool first) ≡ true
is_exact first = is_exact_with (bytes_eq first (codes "script")) (bytes_eq first (codes "get")) (bytes_eq first (codes "load")) (bytes_eq first (codes "audit"))

has_matches : (first : Text) → is_simple (curlpool first) ≡ true
has_matches first = has_matches_with (bytes_eq first (codes "script")) (bytes_eq first (codes "get")) (bytes_eq first (codes "load")) (bytes_eq first (codes "audit"))

-- the command line that was built is the one for the first word
made-for : (command : App) (words : List Text) (first : Text) → command ≡ curlpool first → first ≡ first_word words → command ≡ curlpool (first_word words)
made-for command words first is same = is ∙ ap curlpool same

pub returns-clause-fails : goal.returns-clause-fails
returns-clause-fails c =
    let words = map (λ (word : Bor Text). word.now) c.args.words.now in
    let made = made-for (app_of c.in_ok-command.command) words _ c.in_ok-command.ensures c.first_of.ensures in
    ap (λ (app : App). fault_of app words) (sym made) ∙ c.in_ok-matches.ensures.kinds (ap is_simple_and_free made ∙ is_exact (first_word words))

pub returns-in_err-matches-clause-fails : goal.returns-in_err-matches-clause-fails
returns-in_err-matches-clause-fails c =
    let words = map (λ (word : Bor Text). word.now) c.args.words.now in
    let made = made-for (app_of c.in_ok-command.command) words _ c.in_ok-command.ensures c.first_of.ensures in
    let fails = subst (λ (app : App). HasKind (fault_of app words) c.in_err-matches.field-0.0) made (c.in_err-matches.ensures.kinds (ap is_simple_and_free made ∙ is_exact (first_word words))) in
    search (rules, fails)

pub returns-clause-rows : goal.returns-clause-rows
returns-clause-rows c =
    let words = map (λ (word : Bor Text). word.now) c.args.words.now in
    let made = made-for (app_of c.in_ok-command.command) words _ c.in_ok-command.ensures c.first_of.ensures in
    let found = c.in_ok-matches.ensures.matches (ap is_simple made ∙ has_matches (first_word words)) in
    found.1 ∙ ap (λ (app : App). subcommand_of app words) made
