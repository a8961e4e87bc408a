-- Hosts without connections are at rest.
use Rattle.std.proofs.Common.{◌≡◌, ℕ, zero, suc, List, [], ◌∷◌, slice_index_or, refl, sym, ap, subst, ◌∙◌, arith}
use mathlib.Core.Bool.{false≢true}
use Rattle.std.specs.List.{sum_by}
use Rattle.std.proofs.lemmas.List.Sums.{sum_by-cons}
use Rattle.budget.specs.Limits.{Bounds}
use Rattle.budget.specs.Lobby.{is_listed, AreDistinctHosts}
use Rattle.conn_log.specs.declared.entry.Entry.{Entry}
use Rattle.conn_log.proofs.Soundness.{sound_empty}
use Rattle.host_state.specs.Calls.{is_queued}
use Rattle.host_state.specs.Effects.{open_len, idle_len}
use Rattle.host_state.specs.Laws.{IsSoundAndQuiet}
use Rattle.host_state.proofs.Soundness.{nobody_after}
use Rattle.cache.specs.AllHosts.{AllHosts, log_at, terms, is_any, IsLawful, IsAtRest}

none_counted : (count : List Entry → ℕ) → count [] ≡ 0 → (logs : List (List Entry)) → ((host : ℕ) → slice_index_or logs host [] ≡ []) → sum_by count logs ≡ 0
none_counted count none [] empty = refl
none_counted count none (log ∷ logs) empty =
    let here : count log ≡ 0 = ap count (empty zero) ∙ none in
    omega (arith, here, none_counted count none logs (λ host. empty (suc host)), sum_by-cons count log logs)

new_lawful : (limits : Bounds) (all : AllHosts) → ((host : ℕ) → log_at all host ≡ []) → all.queue ≡ [] → IsLawful limits all
new_lawful limits all empty none = record {
  settled = λ host there. subst (IsSoundAndQuiet (terms limits)) (sym (empty host)) (nobody_after (terms limits) [] (sound_empty (terms limits)) refl);
  distinct = subst AreDistinctHosts (sym none) tt;
  there = λ host listed. absurd (false≢true (sym (ap (λ (queue : List ℕ). is_listed queue host) none) ∙ listed));
  queued = λ host there. ap (λ (queue : List ℕ). is_listed queue host) none ∙ sym (ap (is_queued (terms limits)) (empty host));
  total_within = omega (arith, none_counted open_len refl all.logs empty);
  kept_within = omega (arith, none_counted idle_len refl all.logs empty);
}

pub new_is_at_rest : (limits : Bounds) (all : AllHosts) → ((host : ℕ) → log_at all host ≡ []) → all.queue ≡ [] → IsAtRest limits all
new_is_at_rest limits all empty none = record {
  lawful = new_lawful limits all empty none;
  served = record {
    at_limit = λ any. absurd (false≢true (sym (ap is_any none) ∙ any));
    none_idle = λ any. absurd (false≢true (sym (ap is_any none) ∙ any));
  };
}
