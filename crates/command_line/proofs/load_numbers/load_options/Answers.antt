use Rattle.std.proofs.Common.{◌∙◌, ℕ, List, Option, ap, ap₂, codes, sym}
use Rattle.std.specs.Prelude.{unwrap_or}
use Rattle.clap.specs.Words.{found_of, rows_of}
use Rattle.command_line.specs.OptionTable.{OptionFacts}
use Rattle.command_line.specs.Options.{has_bad, is_outside, number_said}
use Rattle.command_line.specs.declared.options.Takes.TheVariants.{Number}
use Rattle.command_line.proofs.load_numbers.load_options.Goals as goal

pub returns-clause-options : goal.returns-clause-options
returns-clause-options c =
    let rows = rows_of (found_of c.args.given.now) in
    record {
      numbers_good = sym (ap (λ (options : List OptionFacts). has_bad options rows) c.load_options.ensures) ∙ c.in_ok-check_numbers.ensures.ok;
      jobs_good = sym (ap (λ (most : ℕ). is_outside (codes "jobs") Number 1 most rows) c.most_jobs.ensures.most) ∙ c.in_ok-check_number.ensures.ok;
      sites_is = c.unwrap_or.ensures ∙ ap (λ (n : Option ℕ). unwrap_or n 2) c.count-2.ensures.given;
      jobs_is = c.unwrap_or-jobs.ensures ∙ ap (λ (n : Option ℕ). unwrap_or n 20) (c.count.ensures.given ∙ ap (λ (most : ℕ). number_said (codes "jobs") Number 1 most rows) c.most_jobs.ensures.most);
      workers_is = c.unwrap_or-2.ensures ∙ ap (λ (n : Option ℕ). unwrap_or n 4) c.count-3.ensures.given;
      host_limit_is = c.unwrap_or-3.ensures ∙ ap (λ (n : Option ℕ). unwrap_or n 0) c.count-4.ensures.given;
      total_is = c.unwrap_or-4.ensures ∙ ap (λ (n : Option ℕ). unwrap_or n 0) c.count-5.ensures.given;
      connects_is = c.unwrap_or-5.ensures ∙ ap₂ unwrap_or c.count-6.ensures.given c.default_connects.ensures.connects;
    }
