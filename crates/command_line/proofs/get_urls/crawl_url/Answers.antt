use Rattle.std.proofs.Common.{subst}
use Rattle.command_line.specs.GetPlans.{IsGoodUrl}
use Rattle.command_line.proofs.get_urls.crawl_url.Goals as goal

pub returns-clause-good : goal.returns-clause-good
returns-clause-good c = λ kept. subst IsGoodUrl c.as_str.ensures.value c.in_ok-checked_target.ensures.good
