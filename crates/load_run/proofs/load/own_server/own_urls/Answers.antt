use Rattle.std.proofs.Common.{◌∙◌, [], ◌∷◌, ap, map, string_bytes}
use Rattle.std.proofs.lemmas.List.{map-append}
use Rattle.load_run.proofs.OwnJobs.{own_urls_more}
use Rattle.load_run.proofs.load.own_server.own_urls.Goals as goal

pub loop-port-preserved : goal.loop-port-preserved
loop-port-preserved c =
    let urls = c.loop-port.urls.items in
    let url = c.in_ok-url.url in
    own_urls_more c.args.ports.now c.loop-port.port-index (map string_bytes urls) (map string_bytes c.push.new.self.items) (string_bytes url) c.loop-port-test.true c.loop-port.invariant
    (ap (map string_bytes) c.in_ok-push.ensures.items ∙ map-append string_bytes urls (url ∷ [])) c.in_ok-url.ensures.ok
