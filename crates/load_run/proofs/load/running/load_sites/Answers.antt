-- The load ran, or a host is unknown.
use Rattle.std.proofs.Common.{◌≡◌, ◌∙◌, ap, false, inr, subst, sym}
use Rattle.load_run.specs.LoadRuns.{RunsMany, lacks_jobs, polled_world}
use Rattle.load_run.specs.LoadSites.{IsNameIn, IsUnknownIn}
use Rattle.load_run.specs.declared.load.sites.SiteFault.{SiteFault}
use Rattle.load_run.proofs.RunResults.{of_all_results}
use Rattle.load_run.proofs.UnknownSites.{if_ok_left, unknown_of}
use Rattle.load_run.proofs.load.running.load_sites.Goals as goal

pub returns-in-Err-Unknown : goal.returns-in-Err-Unknown
returns-in-Err-Unknown g c =
    let jobs = c.args.plan.now.jobs.items in
    let resolved = c.args.plan.now.resolved.items in
    let unknown = unknown_of jobs c.deref.result.now resolved c.deref-2.result.now c.in-Err-Unknown.field-0 c.deref.ensures.value c.deref-2.ensures.value c.in-Err-Unknown.ensures.unknown in
    let known = subst (λ (fault : SiteFault). IsUnknownIn jobs resolved fault) c.in-Err-Unknown.field-0-is unknown in
    if_ok_left c.unknown.result _ _ (c.unknown.ensures c.args.plan.now (subst (IsNameIn jobs resolved) (sym (ap (λ host. host.now) c.in-Err-Unknown.host-is)) known))

pub returns-then-is_interrupted : goal.returns-then-is_interrupted
returns-then-is_interrupted g c =
    let plan = c.args.plan.now in
    let loaded = c.in-Ok-ended.loaded in
    let ran : RunsMany polled_world plan loaded = record { many = c.in_ok-many.many; planned = c.in_ok-many.ensures; is_loaded = c.in-Ok-ended.ensures.ok } in
    inr (record {
      loaded = loaded;
      ran = ran;
      outcome_is = record {
        report_is = c.in_ok-outcome.ensures.report_is;
        by_results = c.in_ok-outcome.ensures.by_results;
        results_are = c.in_ok-outcome.ensures.results_are;
        status_is = inr (inr c.code.ensures);
      };
      whole = λ other. absurd (other c.code.ensures);
      of_results = λ counts _. absurd (counts.whole c.code.ensures);
    })

pub returns : goal.returns
returns g c =
    let plan = c.args.plan.now in
    let loaded = c.in-Ok-ended.loaded in
    let ran : RunsMany polled_world plan loaded = record { many = c.in_ok-many.many; planned = c.in_ok-many.ensures; is_loaded = c.in-Ok-ended.ensures.ok } in
    let outcome = c.in_ok-outcome.outcome in
    let lacks : lacks_jobs plan loaded ≡ false = sym c.lacks_jobs.ensures ∙ c.if-lacks_jobs.false in
    inr (record {
      loaded = loaded;
      ran = ran;
      outcome_is = c.in_ok-outcome.ensures;
      whole = λ other. lacks;
      of_results = of_all_results polled_world plan loaded ran outcome lacks c.in_ok-outcome.ensures.report_is;
    })
