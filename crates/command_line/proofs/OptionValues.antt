-- Values of options.
use Rattle.std.proofs.Common.{◌≡◌, ◌∙◌, List, [], Option, None, Some, ap, map}
use Rattle.std.specs.Prelude.{option_map, unwrap_or}
use Rattle.std.specs.Borrow.{Bor}
use Rattle.clap.specs.Words.{Text}

-- the texts behind a list that is borrowed, or none
pub texts-read : (given : Option (Bor (List (Bor Text)))) (read empty : Bor (List (Bor Text))) → empty.now ≡ [] → read ≡ unwrap_or given empty
    → map (λ (text : Bor Text). text.now) read.now ≡ unwrap_or (option_map (λ (texts : Bor (List (Bor Text))). map (λ (text : Bor Text). text.now) texts.now) given) []
texts-read None read empty none is = ap (λ (b : Bor (List (Bor Text))). map (λ (text : Bor Text). text.now) b.now) is ∙ ap (map (λ (text : Bor Text). text.now)) none
texts-read (Some texts) read empty none is = ap (λ (b : Bor (List (Bor Text))). map (λ (text : Bor Text). text.now) b.now) is
