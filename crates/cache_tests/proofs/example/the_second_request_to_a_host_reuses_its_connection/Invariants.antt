use Rattle.std.proofs.Common.{◌≡◌, false}
use Rattle.cache_tests.proofs.example.the_second_request_to_a_host_reuses_its_connection.Given as goal

abbrev pub invariant-loop-piece : goal.invariant-loop-piece
invariant-loop-piece g l = l.reader.ended ≡ false
