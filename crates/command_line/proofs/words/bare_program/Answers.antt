use Rattle.std.proofs.Common.{◌≡◌, ◌∙◌, ap, codes, true}
use Rattle.clap.specs.Simple.{app_of_fields}
use Rattle.clap.specs.Words.{App, app_of, new_app}
use Rattle.command_line.proofs.words.bare_program.Goals as goal

abbrev with_version : App → App
with_version app = record app { top = record app.top { has_version = true } }

abbrev needs_a_subcommand : App → App
needs_a_subcommand app = record app { top = record app.top { subcommand_required = true } }

abbrev without_help : App → App
without_help app = record app { top = record app.top { disable_help_subcommand = true } }

pub returns : goal.returns
returns c =
    let named : app_of c.in_ok-bin_name.field-0 ≡ new_app (codes "curlpool") = ap app_of_fields c.in_ok-bin_name.ensures.0 ∙ c.new.ensures.app in
    let versioned = ap app_of_fields c.version-2.ensures ∙ ap with_version named in
    let described = ap app_of_fields c.after_help.ensures ∙ ap app_of_fields c.about.ensures ∙ versioned in
    let needing = ap app_of_fields c.subcommand_required.ensures ∙ ap needs_a_subcommand described in
    ap app_of_fields c.disable_help_subcommand-program.ensures ∙ ap without_help needing
