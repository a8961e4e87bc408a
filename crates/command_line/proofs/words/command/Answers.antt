use Rattle.std.proofs.Common.{◌≡◌, ◌∙◌, Bool, List, ap, ap₂, codes}
use Rattle.clap.specs.Words.{App, Text, with_subcommand}
use Rattle.command_line.specs.CommandLine.{options_if}
use Rattle.command_line.specs.OptionTable.{OptionFacts}
use Rattle.command_line.specs.Options.{command_app}
use Rattle.command_line.proofs.words.command.Goals as goal

-- a command that has the options of its table if it is named
with-options : (name : Text) (command : App) (made all options : List OptionFacts) (given named : Bool)
    → command ≡ command_app name made → made ≡ options_if given all → all ≡ options → given ≡ named → command ≡ command_app name (options_if named options)
with-options name command made all options given named is same table met = is ∙ ap (command_app name) (same ∙ ap₂ options_if met table)

pub returns : goal.returns
returns c =
    let script = with-options (codes "script") _ _ _ _ _ _ c.in_ok-script.ensures.app c.options_if.ensures c.script_options.ensures c.eq.ensures in
    let get = with-options (codes "get") _ _ _ _ _ _ c.in_ok-get.ensures.app c.options_if-2.ensures c.get_options.ensures c.eq-2.ensures in
    let load = with-options (codes "load") _ _ _ _ _ _ c.in_ok-load.ensures.app c.options_if-3.ensures c.load_options.ensures c.eq-3.ensures in
    let audit = with-options (codes "audit") _ _ _ _ _ _ c.in_ok-audit.ensures.app c.options_if-4.ensures c.audit_options.ensures c.eq-4.ensures in
    let join : App → App → App = λ program command. with_subcommand program command.top in
    c.in_ok-program-5.ensures
    ∙ ap₂ join (c.in_ok-program-4.ensures ∙ ap₂ join (c.in_ok-program-3.ensures ∙ ap₂ join (c.in_ok-program-2.ensures ∙ ap₂ join c.in_ok-program.ensures script) get) load) audit
