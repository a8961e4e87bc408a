use Rattle.std.proofs.Common.{◌≡◌, ◌∙◌, ℕ, Bool, Option, Some, None, true, false, ap, ap₂, refl}
use Rattle.std.specs.Prelude.{if◌then◌else◌, unwrap_or}
use Rattle.std.specs.Option.{option_or}
use Rattle.std.specs.Bool.{then_some}
use Rattle.command_line.proofs.load_measured.numbers_of.Goals as goal

default_is : (has_urls : Bool) → then_some {T = ℕ} has_urls 30 ≡ (if has_urls then Some 30 else None)
default_is true = refl
default_is false = refl

pub returns : goal.returns
returns c = record {
  connections_is = c.count.ensures.given;
  seconds_is = c.count-2.ensures.given;
  warmup_is = c.unwrap_or.ensures ∙ ap (λ (n : Option ℕ). unwrap_or n 0) c.count-3.ensures.given;
  rate_is = c.count-4.ensures.given;
  timeout_is = c.or.ensures ∙ ap₂ option_or c.count-5.ensures.given (c.then_some.ensures ∙ default_is _ ∙ ap (λ (has : Bool). if has then Some 30 else None) c.has_urls.ensures);
  fail_above_is = c.count-6.ensures.given;
}
