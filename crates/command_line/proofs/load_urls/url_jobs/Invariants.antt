use Rattle.std.proofs.Common.{map, string_bytes, take}
use Rattle.command_line.proofs.UrlJobs.{UrlJobsSoFar}
use Rattle.command_line.proofs.load_urls.url_jobs.Given as goal

abbrev pub invariant-loop-url : goal.invariant-loop-url
invariant-loop-url l = UrlJobsSoFar l.flags (map string_bytes (take l.url-index l.urls)) l.jobs.items l.sites
