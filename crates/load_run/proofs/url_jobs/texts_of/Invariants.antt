use Rattle.std.proofs.Common.{◌≡◌, map, string_bytes, take}
use Rattle.exchange.specs.Answers.{job_text}
use Rattle.load_run.proofs.url_jobs.texts_of.Given as goal

-- the texts so far
abbrev pub invariant-loop-url : goal.invariant-loop-url
invariant-loop-url l = map string_bytes l.texts.items ≡ map job_text (take l.url-index l.urls)
