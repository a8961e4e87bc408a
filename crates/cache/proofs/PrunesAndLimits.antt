-- All hosts stay lawful as too old connections are pruned, and as a host's limit changes.
use Rattle.std.proofs.Common.{◌≡◌, ℕ, zero, suc, ◌-◌, ◌<◌, ◌≤◌, min, List, [], ◌∷◌, length, map, slice_index_or, None, sym, ap, subst, ◌∙◌, arith}
use Rattle.std.specs.List.{sum_by, filter}
use Rattle.std.proofs.lemmas.List.{length-map}
use Rattle.std.proofs.lemmas.List.Sums.{sum_by-cons}
use Rattle.std.proofs.Math.ListN.{get_or-map}
use Rattle.budget.specs.Limits.{Bounds}
use Rattle.conn_log.specs.declared.entry.Entry.{Entry}
use Rattle.conn_log.specs.Connections.{idle_connections, born, since}
use Rattle.conn_log.specs.Fit.{is_older, is_idle_longer, in_order}
use Rattle.host_state.specs.Steps.{moment_at, close_each, cause_of}
use Rattle.host_state.specs.declared.closing.Closing.TheVariants.{Pruned}
use Rattle.host_state.specs.Calls.{kept_limit, limit_refusal, after_limit, starts_due, is_queued}
use Rattle.host_state.specs.Effects.{open_len, idle_len}
use Rattle.host_state.specs.Laws.{IsSoundAndQuiet}
use Rattle.host_state.proofs.Counts.{prune_closes, limit_changes}
use Rattle.cache.specs.AllHosts.{AllHosts, log_at, terms, total, IsLawful, IsAtRest}
use Rattle.cache.specs.Calls.{pruned_log, pruned, after_prune, limited, after_limit_of}
use Rattle.cache.proofs.Lawfulness.{lawful_marked, queued_same}
use Rattle.cache.proofs.Turns.{serving_ends_at_rest}

module _ (limits : Bounds) (now max_age max_life : ℕ) where
  -- what a prune leaves of a log
  record PrunesLog (old new : List Entry) : Type 0 where
    settled : IsSoundAndQuiet (terms limits) new
    open_less : open_len new ≤ open_len old
    idle_less : idle_len new ≤ idle_len old
    mark : is_queued (terms limits) new ≡ is_queued (terms limits) old

  nothing_pruned : (log : List Entry) → idle_connections log ≡ [] → pruned_log now max_age max_life log ≡ log
  nothing_pruned log none =
      let m = moment_at log now in
      ap (λ (numbers : List ℕ). close_each (cause_of (Pruned max_age max_life)) m (filter (λ (c : ℕ). is_older (since log c) (born log c) max_age max_life m) (in_order (is_idle_longer log) numbers)) log) none

  prunes_log : (log : List Entry) → IsSoundAndQuiet (terms limits) log → PrunesLog log (pruned_log now max_age max_life log)
  prunes_log log settled =
      let closes = prune_closes (terms limits) log max_age max_life now settled in
      record {
        settled = closes.settled;
        open_less = omega (arith, closes.number_open);
        idle_less = omega (arith, closes.number_idle);
        mark = queued_same (terms limits) log (pruned_log now max_age max_life log) settled closes.same_wait (nothing_pruned log);
      }

  -- and of all of them
  sums_less : (logs : List (List Entry)) → ((host : ℕ) → host < length logs → IsSoundAndQuiet (terms limits) (slice_index_or logs host []))
      → (sum_by open_len (map (pruned_log now max_age max_life) logs) ≤ sum_by open_len logs) × (sum_by idle_len (map (pruned_log now max_age max_life) logs) ≤ sum_by idle_len logs)
  sums_less [] settled = (omega arith, omega arith)
  sums_less (log ∷ logs) settled =
      let new = pruned_log now max_age max_life log in
      let after = map (pruned_log now max_age max_life) logs in
      let here = prunes_log log (settled zero (omega arith)) in
      let rest = sums_less logs (λ host there. settled (suc host) (omega (arith, there))) in
      (omega (arith, here.open_less, rest.0, sum_by-cons open_len log logs, sum_by-cons open_len new after), omega (arith, here.idle_less, rest.1, sum_by-cons idle_len log logs, sum_by-cons idle_len new after))

  pub pruned_lawful : (all : AllHosts) → IsLawful limits all → IsLawful limits (pruned now max_age max_life all)
  pruned_lawful all lawful =
      let less = sums_less all.logs lawful.settled in
      record {
        settled = λ host there. subst (IsSoundAndQuiet (terms limits)) (sym (at_host host)) (at_each host (was_there host there)).settled;
        distinct = lawful.distinct;
        there = λ host listed. omega (arith, lawful.there host listed, length-map all.logs (pruned_log now max_age max_life));
        queued = λ host there. lawful.queued host (was_there host there) ∙ sym (at_each host (was_there host there)).mark ∙ ap (is_queued (terms limits)) (sym (at_host host));
        total_within = omega (arith, less.0, lawful.total_within);
        kept_within = omega (arith, less.1, lawful.kept_within);
      }
    where
      was_there : (host : ℕ) → host < length (map (pruned_log now max_age max_life) all.logs) → host < length all.logs
      was_there host there = omega (arith, there, length-map all.logs (pruned_log now max_age max_life))

      at_host : (host : ℕ) → slice_index_or (map (pruned_log now max_age max_life) all.logs) host [] ≡ pruned_log now max_age max_life (log_at all host)
      at_host host = get_or-map (pruned_log now max_age max_life) all.logs host []

      at_each : (host : ℕ) → host < length all.logs → PrunesLog (log_at all host) (pruned_log now max_age max_life (log_at all host))
      at_each host there = prunes_log (log_at all host) (lawful.settled host there)

pub prune_ends_at_rest : (limits : Bounds) (now max_age max_life : ℕ) (all : AllHosts) → IsLawful limits all → IsAtRest limits (after_prune limits now max_age max_life all)
prune_ends_at_rest limits now max_age max_life all lawful = serving_ends_at_rest limits (pruned now max_age max_life all) now (pruned_lawful limits now max_age max_life all lawful)

-- a host's limit changes, and no more start than the total has room for
pub limited_lawful : (limits : Bounds) (host n now : ℕ) (all : AllHosts) → IsLawful limits all → host < length all.logs → limit_refusal n (log_at all host) ≡ None → IsLawful limits (limited limits host n now all)
limited_lawful limits host n now all lawful there allowed =
    let settings = terms limits in
    let log = log_at all host in
    let due = starts_due (is_queued settings log) (kept_limit n) log in
    let given = min due (limits.total - total all) in
    let new = after_limit (kept_limit n) given settings log now in
    let changes = limit_changes settings log n given now (lawful.settled host there) allowed (least_first due (limits.total - total all)) in
    lawful_marked limits all lawful host there new changes.settled
    (omega (arith, changes.number_open, least_second due (limits.total - total all), lawful.total_within)) (omega (arith, changes.number_idle, lawful.kept_within))
  where
    least_first : (a b : ℕ) → min a b ≤ a
    least_first a b = omega arith

    least_second : (a b : ℕ) → min a b ≤ b
    least_second a b = omega arith

pub limit_ends_at_rest : (limits : Bounds) (host n now : ℕ) (all : AllHosts) → IsLawful limits all → host < length all.logs → limit_refusal n (log_at all host) ≡ None → IsAtRest limits (after_limit_of limits host n now all)
limit_ends_at_rest limits host n now all lawful there allowed = serving_ends_at_rest limits (limited limits host n now all) now (limited_lawful limits host n now all lawful there allowed)
