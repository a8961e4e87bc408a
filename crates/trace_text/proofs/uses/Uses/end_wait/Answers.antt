use Rattle.std.proofs.Common.{rules}
use Rattle.std.proofs.lemmas.Fn.{filter_same}
use Rattle.trace_text.proofs.uses.Uses.end_wait.Goals as goal

pub returns-clause-waiting : goal.returns-clause-waiting
returns-clause-waiting c = filter_same _ _ _ (λ x b f' k. search rules) _ _ c.retain.ensures.filtered
