-- One log more.
use Rattle.std.proofs.Common.{ℕ, ◌+◌, List, [], ◌∷◌, ◌++◌, length, subst, arith}
use Rattle.std.specs.Global.{Vec}
use Rattle.conn_log.specs.declared.entry.Entry.{Entry}
use Rattle.shared_cache.specs.Names.{CacheNames}
use Rattle.load_run.specs.Logs.{AreLogsFrom, IsLogOf}

pub logs-more : (S : Type 0) (names : CacheNames) (site : ℕ) (logs : List (Vec Entry)) (log : Vec Entry) → AreLogsFrom S names site logs → IsLogOf S names (site + length logs) log.items → AreLogsFrom S names site (logs ++ log ∷ [])
logs-more S names site [] log so_far one = (subst (λ n. IsLogOf S names n log.items) (omega arith) one, tt)
logs-more S names site (l ∷ logs) log so_far one = (so_far.0, logs-more S names (site + 1) logs log so_far.1 (subst (λ n. IsLogOf S names n log.items) (omega arith) one))
