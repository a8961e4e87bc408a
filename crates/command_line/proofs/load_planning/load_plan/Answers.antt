use Rattle.std.proofs.Common.{rules, ◌≡◌, ◌∙◌, false, ap, List, map, string_bytes, subst}
use Rattle.std.specs.Prelude.{String}
use Rattle.std.specs.Global.{Global}
use Rattle.clap.specs.Words.{Text, found_of, rows_of}
use Rattle.command_line.specs.LoadPlans.{has_conflict}
use Rattle.command_line.specs.LoadUrls.{ArePlannedUrls}
use Rattle.command_line.proofs.UrlJobs.{planned_numbered}
use Rattle.command_line.proofs.load_planning.load_plan.Goals as goal

pub invariant_of-result : goal.invariant_of-result
invariant_of-result c = record { numbered = planned_numbered c.flags_of-flags.result _ c.in_ok-jobs.jobs.items c.in_ok-jobs.ensures.jobs }

pub returns-clause-plan : goal.returns-clause-plan
returns-clause-plan c =
    let rows = rows_of (found_of c.args.given.now) in
    let agree : has_conflict rows ≡ false = search rules in
    let texts_are : map string_bytes c.as_slice.result.now ≡ map string_bytes c.in_ok-urls.urls.items = ap (λ (urls : List (String Global)). map string_bytes urls) c.as_slice.ensures.value in
    record {
      options_are = c.in_ok-options.ensures.options;
      agree = agree;
      numbers_are = c.numbers_of.ensures;
      flags_are = c.flags_of-flags.ensures;
      urls_are = c.in_ok-urls.ensures;
      jobs_are = subst (λ (texts : List Text). ArePlannedUrls c.flags_of-flags.result texts c.in_ok-jobs.jobs.items) (texts_are ∙ c.in_ok-urls.ensures) c.in_ok-jobs.ensures.jobs;
      hosts_are = c.in_ok-resolved.ensures.hosts;
      trace_is = c.in_ok-trace.ensures;
      picture_is = c.in_ok-picture.ensures;
      plain_is = c.is_plain.ensures;
    }
