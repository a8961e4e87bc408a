use Rattle.std.proofs.Common.{◌∙◌, ℕ, Option, ap}
use Rattle.std.specs.Prelude.{unwrap_or}
use Rattle.conn_log.specs.Wants.{default_max_age}
use Rattle.commands.specs.LoadJob.{method_said}
use Rattle.command_line.proofs.get_plan.options_of.Goals as goal

pub returns : goal.returns
returns c = record {
  method_is = c.method_of.ensures ∙ ap method_said c.flag.ensures;
  parallel_is = c.unwrap_or.ensures ∙ ap (λ (n : Option ℕ). unwrap_or n 1) c.count.ensures.given;
  host_limit_is = c.unwrap_or-2.ensures ∙ ap (λ (n : Option ℕ). unwrap_or n 0) c.count-2.ensures.given;
  total_is = c.unwrap_or-3.ensures ∙ ap (λ (n : Option ℕ). unwrap_or n 0) c.count-3.ensures.given;
  max_age_is = c.unwrap_or-4.ensures ∙ ap (λ (n : Option ℕ). unwrap_or n default_max_age) c.number.ensures.given;
  max_life_is = c.unwrap_or-5.ensures ∙ ap (λ (n : Option ℕ). unwrap_or n 0) c.number-2.ensures.given;
  timeout_is = c.unwrap_or-6.ensures ∙ ap (λ (n : Option ℕ). unwrap_or n 30) c.count-4.ensures.given;
  flags_are = c.flags_of.ensures;
}
