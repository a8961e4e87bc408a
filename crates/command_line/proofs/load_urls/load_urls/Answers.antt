use Rattle.std.proofs.Common.{◌∙◌, ◌++◌, List, ap, codes}
use Rattle.clap.specs.Words.{Text, found_of, rows_of}
use Rattle.command_line.specs.Options.{texts_said}
use Rattle.command_line.proofs.load_urls.load_urls.Goals as goal

pub returns : goal.returns
returns c = c.in_ok-add_texts.ensures ∙ ap (λ (urls : List Text). urls ++ texts_said (codes "URL") (rows_of (found_of c.args.given.now))) c.in_ok-urls.ensures
