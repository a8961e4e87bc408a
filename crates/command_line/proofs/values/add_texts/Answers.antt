use Rattle.std.proofs.Common.{◌∙◌, ◌++◌, List, [], Option, ap, map, refl, string_bytes}
use Rattle.std.proofs.lemmas.List.{take_all}
use Rattle.std.specs.Borrow.{Bor}
use Rattle.std.specs.Prelude.{unwrap_or}
use Rattle.clap.specs.Words.{Text, found_of}
use Rattle.clap.proofs.WalkLemmas.{raw_values-rows}
use Rattle.command_line.proofs.OptionValues.{texts-read}
use Rattle.command_line.proofs.values.add_texts.Goals as goal

pub returns : goal.returns
returns c =
    let old = map string_bytes c.args.copies.now.items in
    let texts = c.unwrap_or-texts.result.now in
    let copied = c.loop-text.invariant ∙ ap (λ (some : List (Bor Text)). old ++ map (λ (text : Bor Text). text.now) some) (take_all c.loop-text.text-index texts c.loop-text-test.false) in
    let read = texts-read c.get_raw.result c.unwrap_or-texts.result _ refl c.unwrap_or-texts.ensures
    ∙ ap (λ (o : Option (List Text)). unwrap_or o []) (c.get_raw.ensures ∙ raw_values-rows (found_of c.args.given.now) c.args.option.now.name.now) in
    copied ∙ ap (λ (texts : List Text). old ++ texts) read
