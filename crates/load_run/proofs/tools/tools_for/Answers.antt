use Rattle.std.proofs.Common.{rules, sym, subst}
use Rattle.std.specs.List.{All}
use Rattle.std.proofs.lemmas.List.Elements.{All-push}
use Rattle.load_run.specs.Counting.{IsUncounted}
use Rattle.load_run.proofs.Refusals.{handed_on}
use Rattle.load_run.proofs.tools.tools_for.Goals as goal

pub returns-in_err-dial-clause-refused : goal.returns-in_err-dial-clause-refused
returns-in_err-dial-clause-refused c = λ workers. handed_on workers c.in_err-dial.field-0.0 c.from_residual.result c.from_residual.ensures.1 (c.in_err-dial.ensures.refused workers)

pub returns-in_err-results-clause-refused : goal.returns-in_err-results-clause-refused
returns-in_err-results-clause-refused c = λ workers. handed_on workers c.in_err-results.field-0.0 c.from_residual-in_err-results.result c.from_residual-in_err-results.ensures.1 (c.in_err-results.ensures.refused workers)

pub loop-last-preserved : goal.loop-last-preserved
loop-last-preserved c = record {
  number = search rules;
  room = search rules;
  uncounted = subst (λ tools. All (λ own. IsUncounted c.args.hosts c.args.counting own.results) tools) (sym c.push_reserved.ensures.items)
      (All-push (λ own. IsUncounted c.args.hosts c.args.counting own.results) c.loop-last.tools.items _ c.loop-last.invariant.uncounted c.in_ok-results.ensures.ok);
}
