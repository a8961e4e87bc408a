use Rattle.std.proofs.Common.{◌≡◌, map, string_bytes, take}
use Rattle.load_run.specs.LoadJobs.{own_url}
use Rattle.load_run.proofs.load.own_server.own_urls.Given as goal

-- the URLs of the sites so far
abbrev pub invariant-loop-port : goal.invariant-loop-port
invariant-loop-port l = map string_bytes l.urls.items ≡ map own_url (take l.port-index l.ports)
