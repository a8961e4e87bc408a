-- The text at a URL's place is that of its request.
use Rattle.std.proofs.Common.{◌∙◌, string_bytes}
use Rattle.std.proofs.lemmas.Nat.{mod_below}
use Rattle.exchange.specs.Answers.{job_text}
use Rattle.load_run.proofs.RequestTexts.{mapped_at}
use Rattle.load_run.proofs.url_jobs.UrlJobsJobSource.prepare.Goals as goal

pub new_as-requires : goal.new_as-requires
new_as-requires c =
    let jobs = c.args.self.now in
    record {
      text = c.as_str-text.ensures.value
          ∙ mapped_at string_bytes job_text jobs.texts.items jobs.urls.now _ c.index.result.now c.index-self-index.result jobs.written (mod_below c.args.number _ jobs.some) c.index.ensures;
    }

pub again_as-requires-clause-text : goal.again_as-requires-clause-text
again_as-requires-clause-text c =
    let jobs = c.args.self.now in
    c.as_str-text.ensures.value
    ∙ mapped_at string_bytes job_text jobs.texts.items jobs.urls.now _ c.index.result.now c.index-self-index.result jobs.written (mod_below c.args.number _ jobs.some) c.index.ensures
