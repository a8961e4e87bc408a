-- The numbers of a budget are those of all logs, each of which is sound and quiet.
use Rattle.std.proofs.Common.{◌≡◌, ℕ, ◌<◌, ◌≤◌, List, [], ◌∷◌, length, map, slice_index_or, Option, refl, sym, ap, subst, ◌∙◌, arith}
use Rattle.std.specs.List.{sum_by}
use Rattle.std.proofs.Math.ListN.{get_or-map}
use Rattle.std.proofs.lemmas.List.Sums.{sum_by-cons}
use Rattle.budget.specs.Lobby.{Queue}
use Rattle.budget.specs.Plain.{Plain, IsWithin, alive_in, kept_in}
use Rattle.budget.specs.declared.permits.Held.{Held}
use Rattle.conn_log.specs.declared.entry.Entry.{Entry}
use Rattle.host_state.specs.Effects.{open_len, idle_len}
use Rattle.conn_log.specs.declared.stamp.Stamp.{Stamp}
use Rattle.conn_log.specs.Legal.{LimitAndFirst}
use Rattle.host_state.specs.Laws.{IsSoundAndQuiet}
use Rattle.bundle.specs.Lease.{HostShown}
use Rattle.host_state.specs.Counts.{held_by}
use Rattle.bundle.specs.Passes.{Accounts}
use Rattle.cache.specs.AllHosts.{terms}
use Rattle.cache.specs.Pools.{no_host, host_in, logs_of, AreKept}

module _ {S : Type 0} where
  -- the total of the budget is that of the logs, and so is what is kept
  pub total_of : (hosts : List (HostShown S)) → alive_in (map (λ (h : HostShown S). held_by h.log) hosts) ≡ sum_by open_len (logs_of hosts)
  total_of [] = refl
  total_of (h ∷ hosts) =
      let held_of : HostShown S → Held = λ (h : HostShown S). held_by h.log in
      omega (arith, total_of hosts, sum_by-cons (λ (x : Held). x.alive) (held_of h) (map held_of hosts), sum_by-cons open_len h.log (logs_of hosts))

  pub kept_of : (hosts : List (HostShown S)) → kept_in (map (λ (h : HostShown S). held_by h.log) hosts) ≡ sum_by idle_len (logs_of hosts)
  kept_of [] = refl
  kept_of (h ∷ hosts) =
      let held_of : HostShown S → Held = λ (h : HostShown S). held_by h.log in
      omega (arith, kept_of hosts, sum_by-cons (λ (x : Held). x.kept) (held_of h) (map held_of hosts), sum_by-cons idle_len h.log (logs_of hosts))

  pub total_is : (hosts : List (HostShown S)) (budget : Plain) → budget.hosts ≡ map (λ (h : HostShown S). held_by h.log) hosts → alive_in budget.hosts ≡ sum_by open_len (logs_of hosts)
  total_is hosts budget parts = ap alive_in parts ∙ total_of hosts

  pub kept_is : (hosts : List (HostShown S)) (budget : Plain) → budget.hosts ≡ map (λ (h : HostShown S). held_by h.log) hosts → kept_in budget.hosts ≡ sum_by idle_len (logs_of hosts)
  kept_is hosts budget parts = ap kept_in parts ∙ kept_of hosts

  -- no more are kept than fit into a limit
  pub kept_fits : (hosts : List (HostShown S)) (budget : Plain) → budget.hosts ≡ map (λ (h : HostShown S). held_by h.log) hosts → IsWithin budget → sum_by idle_len (logs_of hosts) ≤ 65535
  kept_fits hosts budget parts within = omega (arith, kept_is hosts budget parts, within.kept, within.limits.kept_fits)

  -- the log of each host is sound, and quiet with its mark
  pub settled_at : (hosts : List (HostShown S)) (budget : Plain) (lobby : Queue) (pass : Accounts) (noted : List (Option Stamp)) (site : ℕ) → AreKept hosts budget lobby pass noted → site < length hosts
      → IsSoundAndQuiet (terms budget.limits) (slice_index_or (logs_of hosts) site [])
  settled_at hosts budget lobby pass noted site kept there =
      let it = kept.each site there in
      subst (λ (l : List Entry). IsSoundAndQuiet (terms budget.limits) l) (sym (get_or-map (λ (h : HostShown S). h.log) hosts site no_host))
      (subst (λ (s : LimitAndFirst). IsSoundAndQuiet s (host_in hosts site).log) it.settings it.settled)
