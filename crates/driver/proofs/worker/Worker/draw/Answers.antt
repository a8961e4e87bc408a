use Rattle.std.proofs.Common.{rules, ap, ◌∙◌, ℕ, ◌++◌, ◌∷◌, [], List}
use Rattle.exchange.specs.declared.done.Done.{Done}
use Rattle.driver.specs.Workers.{WorkerShown}
use Rattle.driver.proofs.worker.Worker.draw.Goals as goal

pub returns-clause-goes : goal.returns-clause-goes
returns-clause-goes g c =
    let one : ℕ × Done = (c.in-Some.number, c.in_ok-done.done) in
    record {
      number = c.in-Some.number;
      done = c.in_ok-done.done;
      above = search rules;
      drawn = search rules;
      added = c.push_reserved.ensures.items ∙ (ap (λ (some : List (ℕ × Done)). some ++ one ∷ []) c.reserve.ensures.items ∙ ap (λ (worker : WorkerShown). worker.results ++ one ∷ []) c.self.view_is);
      result_is = search rules;
      carried = search rules;
    }
