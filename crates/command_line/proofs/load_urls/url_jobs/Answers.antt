use Rattle.std.proofs.Common.{◌∙◌, ◌<◌, List, ℕ, arith, length, map, string_bytes, subst, take}
use Rattle.conn_key.specs.Target.{GivesTarget}
use Rattle.commands.specs.Urls.{IsBadUrl, IsPrintable}
use Rattle.command_line.specs.LoadUrls.{AreBadUrls}
use Rattle.command_line.specs.Refusals.{IsWhy}
use Rattle.command_line.proofs.Refusals.{handed-on}
use Rattle.command_line.proofs.Plans.{texts-more}
use Rattle.command_line.proofs.UrlJobs.{bad-among, url-jobs-more}
use Rattle.command_line.proofs.load_urls.url_jobs.Goals as goal

pub returns-in_err-target-clause-refused : goal.returns-in_err-target-clause-refused
returns-in_err-target-clause-refused c =
    let urls = c.args.urls.now in
    let error = c.in_err-target.field-0.0 in
    let bad = subst (λ (url : List ℕ). IsWhy (IsBadUrl url) error) c.as_str.ensures.value c.in_err-target.ensures.refused in
    handed-on (AreBadUrls (map string_bytes urls)) error c.from_residual.result c.from_residual.ensures.1
    (bad-among urls c.loop-url.url-index c.url-item.result error c.loop-url-test.true c.url-item.is bad)

pub loop-url-preserved : goal.loop-url-preserved
loop-url-preserved c =
    let urls = c.args.urls.now in
    let k = c.loop-url.url-index in
    let url = c.url-item.result in
    let target = c.in_ok-target.target in
    let jobs = c.loop-url.jobs.items in
    let room : length jobs < 8 = omega (arith, c.loop-url.invariant.few, c.if-len-eq-MOST_URLS.false, c.len.ensures ∙ c.loop-url.jobs.ok.0) in
    let gives = subst (λ (text : List ℕ). IsPrintable text × GivesTarget text target) c.as_str.ensures.value (c.in_ok-target.ensures.good.0, c.in_ok-target.ensures.target) in
    rw (texts-more urls k url c.loop-url-test.true c.url-item.is, c.in-Ok-push.ensures.items)
    (url-jobs-more c.args.flags (map string_bytes (take k urls)) jobs c.loop-url.sites c.add.new.self (string_bytes url) c.in-Ok-add.site target c.job_of.result
    c.loop-url.invariant room gives c.in-Ok-add.ensures.index c.job_of.ensures c.in-Ok-add.ensures.added)
