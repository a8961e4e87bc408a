-- The logs of a pool and its queue are lawful.
use Rattle.std.proofs.Common.{◌≡◌, ℕ, ◌<◌, List, length, Option, sym, ap, ◌∙◌, arith}
use Rattle.std.proofs.Math.ListN.{get_or-map}
use Rattle.std.proofs.lemmas.List.{length-map}
use Rattle.budget.specs.Lobby.{Queue, IsQueue, is_listed}
use Rattle.budget.specs.Plain.{Plain, IsWithin}
use Rattle.conn_log.specs.declared.stamp.Stamp.{Stamp}
use Rattle.host_state.specs.Calls.{is_queued}
use Rattle.bundle.specs.Lease.{HostShown}
use Rattle.bundle.specs.Passes.{Accounts}
use Rattle.cache.specs.AllHosts.{IsLawful, terms, log_at}
use Rattle.cache.specs.Pools.{no_host, host_in, logs_of, AreKept}
use Rattle.cache.proofs.Sums.{total_is, kept_is, settled_at}

module _ {S : Type 0} (hosts : List (HostShown S)) (budget : Plain) (lobby : Queue) (pass : Accounts) (noted : List (Option Stamp)) where
  pub lawful : AreKept hosts budget lobby pass noted → IsQueue lobby → IsWithin budget → IsLawful budget.limits (record { logs = logs_of hosts; queue = lobby.order })
  lawful kept queue within = record {
    settled = λ host inside. settled_at hosts budget lobby pass noted host kept (shorter host inside);
    distinct = queue.distinct;
    there = λ host listed. omega (arith, queue.there host listed, kept.lobby_hosts, long);
    queued = λ host inside. queued host (shorter host inside);
    total_within = omega (arith, total_is hosts budget kept.parts, within.total);
    kept_within = omega (arith, kept_is hosts budget kept.parts, within.kept);
  }
    where
      long : length (logs_of hosts) ≡ length hosts
      long = length-map hosts (λ (h : HostShown S). h.log)

      shorter : (host : ℕ) → host < length (logs_of hosts) → host < length hosts
      shorter host inside = omega (arith, inside, long)

      queued : (host : ℕ) → host < length hosts → is_listed lobby.order host ≡ is_queued (terms budget.limits) (log_at (record { logs = logs_of hosts; queue = lobby.order }) host)
      queued host inside =
          let it = kept.each host inside in
          it.listed ∙ ap (λ s. is_queued s (host_in hosts host).log) it.settings ∙ ap (is_queued (terms budget.limits)) (sym (get_or-map (λ (h : HostShown S). h.log) hosts host no_host))
