use Rattle.std.proofs.Common.{rules, ◌≡◌, ◌∙◌, length, ap, subst, sym}
use Rattle.std.specs.Prelude.{◌==◌, List, vec_len}
use Rattle.std.specs.List.{All}
use Rattle.clap.specs.Words.{found_of, rows_of}
use Rattle.commands.specs.declared.crawl_options.CrawlFlags.{CrawlFlags}
use Rattle.command_line.specs.GetPlans.{IsGoodUrl}
use Rattle.command_line.specs.OptionTable.{OptionFacts}
use Rattle.command_line.specs.Options.{has_bad}
use Rattle.command_line.proofs.Plans.{has-file, has-url}
use Rattle.command_line.proofs.get_plan.get_plan.Goals as goal
use Rattle.command_line.proofs.get_plan.get_plan.Goals.{else-is_empty-via-then-is_empty+else-is_none, else-is_empty-via-else-is_empty}

pub returns-clause-plan : goal.returns-clause-plan
returns-clause-plan c =
    let rows = rows_of (found_of c.args.given.now) in
    let urls = c.in_ok-urls.urls in
    let counted : vec_len urls ≡ length urls.items = search rules in
    let skips = ap (λ (flags : CrawlFlags). flags.skip_bad) c.options_of-options.ensures.flags_are in
    record {
      numbers_good = sym (ap (λ (options : List OptionFacts). has_bad options rows) c.get_options.ensures) ∙ c.in_ok-check_numbers.ensures.ok;
      options_are = c.options_of-options.ensures;
      urls_are = c.in_ok-urls-2.ensures.texts ∙ c.in_ok-urls.ensures;
      file_is = c.in_ok-file.ensures;
      resolved_are = c.in_ok-resolved.ensures.hosts;
      some = λ none. elim c.else-is_empty.branch [
        | else-is_empty-via-then-is_empty+else-is_none w ↦ has-file c.in_ok-file.file w.if-is_none.ensures (c.in_ok-file.ensures ∙ none.1)
        | else-is_empty-via-else-is_empty w ↦ has-url urls.items (w.if-is_empty.ensures ∙ ap (λ n. n == 0) counted) (c.in_ok-urls.ensures ∙ none.0)
      ];
      good = λ kept. subst (All IsGoodUrl) c.in_ok-urls.ensures (c.in_ok-urls-2.ensures.good (skips ∙ kept));
    }
