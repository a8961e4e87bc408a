-- The sums over all hosts: what the budget holds, and what becomes of them where one host's log changes.
use Rattle.std.proofs.Common.{◌≡◌, ℕ, ◌+◌, ◌<◌, true, false, ◌==◌, List, [], ◌∷◌, length, map, refl, sym, ap, subst, ◌∙◌, arith}
use Rattle.std.specs.Prelude.{nat_lt}
use Rattle.std.specs.List.{sum_by}
use Rattle.std.proofs.lemmas.Bool.Decides.{nat_tests}
use Rattle.std.proofs.lemmas.List.{length-map}
use Rattle.std.proofs.lemmas.List.Sums.{sum_by-cons, sum_by-set}
use Rattle.budget.specs.Plain.{Plain, alive_in, kept_in}
use Rattle.budget.specs.declared.permits.Held.{Held}
use Rattle.conn_log.specs.declared.entry.Entry.{Entry}
use Rattle.host_state.specs.Effects.{open_len, idle_len, Closes, OpensForHead}
use Rattle.bundle.specs.Lease.{HostShown}
use Rattle.host_state.specs.Counts.{held_by}
use Rattle.conn_log.specs.Legal.{LimitAndFirst}
use Rattle.cache.specs.AllHosts.{AllHosts, log_at, with_log, total, total_waiting, waiting_len}
use Rattle.cache.specs.Pools.{logs_of}
use Rattle.cache.specs.Turns.{IsOneFewer}

module _ {S : Type 0} where
  -- what the budget holds is what the logs count
  pub alive_is : (hosts : List (HostShown S)) → alive_in (map (λ (h : HostShown S). held_by h.log) hosts) ≡ sum_by open_len (logs_of hosts)
  alive_is [] = refl
  alive_is (h ∷ hosts) =
      omega (
        arith,
        alive_is hosts,
        sum_by-cons (λ (p : Held). p.alive) (held_by h.log) (map (λ (x : HostShown S). held_by x.log) hosts),
        sum_by-cons open_len h.log (logs_of hosts),
      )

  pub kept_is : (hosts : List (HostShown S)) → kept_in (map (λ (h : HostShown S). held_by h.log) hosts) ≡ sum_by idle_len (logs_of hosts)
  kept_is [] = refl
  kept_is (h ∷ hosts) =
      omega (
        arith,
        kept_is hosts,
        sum_by-cons (λ (p : Held). p.kept) (held_by h.log) (map (λ (x : HostShown S). held_by x.log) hosts),
        sum_by-cons idle_len h.log (logs_of hosts),
      )

  pub total_is : (hosts : List (HostShown S)) (budget : Plain) → budget.hosts ≡ map (λ (h : HostShown S). held_by h.log) hosts → alive_in budget.hosts ≡ sum_by open_len (logs_of hosts)
  total_is hosts budget parts = ap alive_in parts ∙ alive_is hosts

  pub all_kept_is : (hosts : List (HostShown S)) (budget : Plain) → budget.hosts ≡ map (λ (h : HostShown S). held_by h.log) hosts → kept_in budget.hosts ≡ sum_by idle_len (logs_of hosts)
  all_kept_is hosts budget parts = ap kept_in parts ∙ kept_is hosts

  -- each host has its part
  pub part_there : (hosts : List (HostShown S)) (budget : Plain) (site : ℕ) → budget.hosts ≡ map (λ (h : HostShown S). held_by h.log) hosts → site < length hosts → site < length budget.hosts
  part_there hosts budget site parts there = subst (λ (n : ℕ). site < n) (sym (ap length parts ∙ length-map hosts (λ (h : HostShown S). held_by h.log))) there

-- one host's log becomes another
pub summed : (f : List Entry → ℕ) (site : ℕ) (log : List Entry) (all : AllHosts) → site < length all.logs → sum_by f (with_log site log all).logs + f (log_at all site) ≡ sum_by f all.logs + f log
summed f site log all there = sum_by-set f all.logs site log [] there

module _ (site : ℕ) (log : List Entry) (all : AllHosts) (settings : LimitAndFirst) (there : site < length all.logs) where
  pub one_fewer : Closes 1 settings (log_at all site) log → IsOneFewer all (with_log site log all)
  one_fewer closes = record {
    number_open = omega (arith, closes.number_open, summed open_len site log all there);
    number_kept = omega (arith, closes.number_idle, summed idle_len site log all there);
    same_wait = omega (arith, ap length closes.same_wait, summed waiting_len site log all there);
  }

  pub one_waits_less : OpensForHead settings (log_at all site) log → total_waiting (with_log site log all) + 1 ≡ total_waiting all
  one_waits_less opens = omega (arith, ap length opens.head_starts, summed waiting_len site log all there)

-- at its limit the total has no room
pub no_room_at_limit : (n total limit : ℕ) → n ≡ total → (n == limit) ≡ true → nat_lt total limit ≡ false
no_room_at_limit n total limit same full = grind (arith, nat_tests, same, full)
