use Rattle.std.proofs.Common.{rules, ◌≡◌, ◌∙◌, ap, false}
use Rattle.clap.specs.Simple.{app_of_fields}
use Rattle.clap.specs.Words.{App, app_of, with_subcommand}
use Rattle.clap.specs.declared.builder.command.Command.TheViews.{out-Command}
use Rattle.command_line.proofs.words.with_command.Goals as goal

pub returns : goal.returns
returns c =
    let local : (out-Command c.after_help-described.result).has_globals ≡ false = search rules in
    let same : app_of c.after_help-described.result ≡ app_of c.args.command = ap app_of_fields c.after_help-described.ensures ∙ ap app_of_fields c.about.ensures in
    c.in_ok-whole.ensures.shape local ∙ ap (λ (app : App). with_subcommand (app_of c.args.program) app.top) same
