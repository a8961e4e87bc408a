use Rattle.std.proofs.Common.{◌≡◌, false, take}
use Rattle.std.specs.List.{list_any}
use Rattle.loopback_server.specs.Requests.{has_close_at}
use Rattle.loopback_server.proofs.request.have_close.Given as goal

abbrev pub invariant-loop-span : goal.invariant-loop-span
invariant-loop-span l = list_any (has_close_at l.bytes) (take l.span-index l.spans) ≡ false
