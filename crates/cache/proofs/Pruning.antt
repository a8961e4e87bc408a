-- What a prune leaves of all hosts.
use Rattle.std.proofs.Common.{◌≡◌, ℕ, zero, suc, ◌+◌, ◌<◌, ◌≤◌, List, [], ◌∷◌, ◌++◌, length, map, take, drop, slice_set, slice_index_or, refl, sym, ap, subst, ◌∙◌, inl, inr, arith}
use Rattle.std.specs.List.{sum_by}
use Rattle.std.proofs.lemmas.Bool.Decides.{eqb_tells}
use Rattle.std.proofs.lemmas.List.{length-map}
use Rattle.std.proofs.lemmas.List.Sums.{sum_by-cons, sum_by-set}
use Rattle.budget.specs.Limits.{Bounds}
use Rattle.conn_log.specs.declared.entry.Entry.{Entry}
use Rattle.conn_log.specs.Legal.{LimitAndFirst}
use Rattle.host_state.specs.Effects.{idle_len}
use Rattle.host_state.specs.Laws.{IsSoundAndQuiet}
use Rattle.bundle.specs.Lease.{HostShown}
use Rattle.host_state.proofs.Counts.{prune_closes}
use Rattle.cache.specs.AllHosts.{AllHosts, log_at, with_log, kept}
use Rattle.cache.specs.Calls.{pruned, pruned_log, pruned_at, prune_count}
use Rattle.cache.specs.Pools.{PoolShown, host_in, logs_of, all_hosts, KeepsHost, StaysPool, KeepsHosts}
use Rattle.cache.specs.PoolCalls.{IsCallAtAll}
use Rattle.cache.proofs.Keeping.{keeps_hosts, keeps_hosts_on, stays_pool, stays_pool_on}
use Rattle.cache.proofs.OneHost.{read_is, logs_changed, host_changed, other_host, keeps_from_start}

module _ {S : Type 0} (limits : Bounds) (hosts : List (HostShown S)) (site : ℕ) (was new : HostShown S) where
  -- all hosts keep all where the one that changes does
  pub all_keep : (queue later : List ℕ) → site < length hosts → was ≡ slice_index_or hosts site was → KeepsHost was new
      → KeepsHosts (record { limits = limits; hosts = hosts; queue = queue }) (record { limits = limits; hosts = slice_set hosts site new; queue = later })
  all_keep queue later there read keeps other inside = elim (eqb_tells other site) [
    | inl same ↦ subst (λ (i : ℕ). KeepsHost (host_in hosts i) (host_in (slice_set hosts site new) i)) (sym same.1) here
    | inr apart ↦ subst (λ (h : HostShown S). KeepsHost (host_in hosts other) h) (sym (other_host hosts site other new apart.1)) (keeps_from_start (host_in hosts other))
  ]
    where
      here : KeepsHost (host_in hosts site) (host_in (slice_set hosts site new) site)
      here = subst (λ (h : HostShown S). KeepsHost (host_in hosts site) h) (sym (host_changed hosts site new there)) (subst (λ (h : HostShown S). KeepsHost h new) (read_is hosts site was there read) keeps)

  -- all hosts once the one has another log and the queue is as it was
  pub all_stepped : (queue : List ℕ) → all_hosts (record { limits = limits; hosts = slice_set hosts site new; queue = queue }) ≡ with_log site new.log (record { logs = logs_of hosts; queue = queue })
  all_stepped queue = ap with_logs (logs_changed hosts site new)
    where
      with_logs : List (List Entry) → AllHosts
      with_logs logs = record { logs = logs; queue = queue }

-- so many of the first are changed, and the others are as they were
module _ {A : Type 0} (change : A → A) (d : A) where
  pub next_is : (n : ℕ) (items : List A) → slice_index_or (map change (take n items) ++ drop n items) n d ≡ slice_index_or items n d
  next_is zero items = refl
  next_is (suc n) [] = refl
  next_is (suc n) (x ∷ items) = next_is n items

  next_changed : (n : ℕ) (items : List A) → n < length items → slice_set (map change (take n items) ++ drop n items) n (change (slice_index_or items n d)) ≡ map change (take (suc n) items) ++ drop (suc n) items
  next_changed n [] inside = absurd (omega (arith, inside))
  next_changed zero (x ∷ items) inside = refl
  next_changed (suc n) (x ∷ items) inside = ap (λ (rest : List A). change x ∷ rest) (next_changed n items (omega (arith, inside)))

  pub one_more_changed : (n : ℕ) (items nows : List A) → n < length items → nows ≡ map change (take n items) ++ drop n items
      → slice_set nows n (change (slice_index_or nows n d)) ≡ map change (take (n + 1) items) ++ drop (n + 1) items
  one_more_changed n items nows inside are =
      let one_more : suc n ≡ n + 1 = omega arith in
      rw are (ap (λ (x : A). slice_set (map change (take n items) ++ drop n items) n (change x)) (next_is n items) ∙ next_changed n items inside ∙ ap (λ (k : ℕ). map change (take k items) ++ drop k items) one_more)

  pub all_changed : (n : ℕ) (items : List A) → length items ≤ n → map change (take n items) ++ drop n items ≡ map change items
  all_changed zero [] all = refl
  all_changed zero (x ∷ items) all = absurd (omega (arith, all))
  all_changed (suc n) [] all = refl
  all_changed (suc n) (x ∷ items) all = ap (λ (rest : List A). change x ∷ rest) (all_changed n items (omega (arith, all)))

module _ {A : Type 0} (number : A → ℕ) (d : A) where
  next_counted : (n : ℕ) (items : List A) → n < length items → sum_by number (take (suc n) items) ≡ sum_by number (take n items) + number (slice_index_or items n d)
  next_counted n [] inside = absurd (omega (arith, inside))
  next_counted zero (x ∷ items) inside = omega (arith, sum_by-cons number x [])
  next_counted (suc n) (x ∷ items) inside =
      omega (arith, next_counted n items (omega (arith, inside)), sum_by-cons number x (take (suc n) items), sum_by-cons number x (take n items))

  pub one_more_counted : (n : ℕ) (items : List A) → n < length items → sum_by number (take (n + 1) items) ≡ sum_by number (take n items) + number (slice_index_or items n d)
  one_more_counted n items inside =
      let one_more : suc n ≡ n + 1 = omega arith in
      sym (ap (λ (k : ℕ). sum_by number (take k items)) one_more) ∙ next_counted n items inside

  pub all_counted : (n : ℕ) (items : List A) → length items ≤ n → sum_by number (take n items) ≡ sum_by number items
  all_counted zero [] all = refl
  all_counted zero (x ∷ items) all = absurd (omega (arith, all))
  all_counted (suc n) [] all = refl
  all_counted (suc n) (x ∷ items) all = omega (arith, all_counted n items (omega (arith, all)), sum_by-cons number x (take n items), sum_by-cons number x items)

-- a prune of one host closes so many
pub fewer_kept : (now max_age max_life : ℕ) (settings : LimitAndFirst) (site : ℕ) (logs : List (List Entry)) → site < length logs → IsSoundAndQuiet settings (slice_index_or logs site [])
    → sum_by idle_len (slice_set logs site (pruned_log now max_age max_life (slice_index_or logs site []))) + pruned_at now max_age max_life (slice_index_or logs site []) ≡ sum_by idle_len logs
fewer_kept now max_age max_life settings site logs inside settled =
    let log = slice_index_or logs site [] in
    omega (arith, (prune_closes settings log max_age max_life now settled).number_idle, sum_by-set idle_len logs site (pruned_log now max_age max_life log) [] inside)

module _ {S : Type 0} (now max_age max_life : ℕ) where
  -- so many of the first hosts are pruned, by which so many connections were closed; and the others are as they were
  pub record ArePruned (site closed : ℕ) (old new : PoolShown S) : Type 0 where
    pub within : site ≤ length old.hosts
    pub logs : logs_of new.hosts ≡ map (pruned_log now max_age max_life) (take site (logs_of old.hosts)) ++ drop site (logs_of old.hosts)
    pub queue : new.queue ≡ old.queue
    pub count : closed ≡ sum_by (pruned_at now max_age max_life) (take site (logs_of old.hosts))
    pub fits : closed + kept (all_hosts new) ≤ 65535
    pub keeps : KeepsHosts old new
    pub stays : StaysPool old new

  pub none_pruned : (pool : PoolShown S) → kept (all_hosts pool) ≤ 65535 → ArePruned 0 0 pool pool
  none_pruned pool fits = record { within = omega arith; logs = refl; queue = refl; count = refl; fits = omega (arith, fits); keeps = keeps_hosts pool; stays = stays_pool pool }

  module _ (site closed more : ℕ) (old pool new : PoolShown S) (settings : LimitAndFirst) where
    pub one_more_pruned : ArePruned site closed old pool → site < length pool.hosts → IsSoundAndQuiet settings (log_at (all_hosts pool) site)
        → IsCallAtAll (with_log site (pruned_log now max_age max_life (log_at (all_hosts pool) site)) (all_hosts pool)) pool new → more ≡ pruned_at now max_age max_life (log_at (all_hosts pool) site)
        → ArePruned (site + 1) (closed + more) old new
    one_more_pruned so_far inside settled done counted =
        let prune = pruned_log now max_age max_life in
        let olds = logs_of old.hosts in
        let nows = logs_of pool.hosts in
        let long : site < length olds = omega (arith, inside, so_far.stays.count, length-map old.hosts (λ (h : HostShown S). h.log)) in
        let longer : site < length nows = omega (arith, inside, length-map pool.hosts (λ (h : HostShown S). h.log)) in
        let logs : logs_of new.hosts ≡ slice_set nows site (prune (slice_index_or nows site [])) = ap (λ (a : AllHosts). a.logs) done.all in
        let same : slice_index_or nows site [] ≡ slice_index_or olds site [] = ap (λ (l : List (List Entry)). slice_index_or l site []) so_far.logs ∙ next_is prune [] site olds in
        record {
          within = omega (arith, inside, so_far.stays.count);
          logs = logs ∙ one_more_changed prune [] site olds nows long so_far.logs;
          queue = ap (λ (a : AllHosts). a.queue) done.all ∙ so_far.queue;
          count = omega (arith, so_far.count, counted, ap (pruned_at now max_age max_life) same, one_more_counted (pruned_at now max_age max_life) [] site olds long);
          fits = omega (arith, so_far.fits, counted, ap (sum_by idle_len) logs, fewer_kept now max_age max_life settings site nows longer settled);
          keeps = keeps_hosts_on old pool new so_far.stays so_far.keeps done.keeps;
          stays = stays_pool_on old pool new so_far.stays done.stays;
        }

  pub all_pruned : (site closed : ℕ) (old new : PoolShown S) → ArePruned site closed old new → length new.hosts ≤ site → IsCallAtAll (pruned now max_age max_life (all_hosts old)) old new
  all_pruned site closed old new so_far all =
      let long : length (logs_of old.hosts) ≤ site = omega (arith, all, so_far.stays.count, length-map old.hosts (λ (h : HostShown S). h.log)) in
      record {
        all = ap (λ (l : List (List Entry)). both l new.queue) (so_far.logs ∙ all_changed (pruned_log now max_age max_life) [] site (logs_of old.hosts) long) ∙ ap (both (map (pruned_log now max_age max_life) (logs_of old.hosts))) so_far.queue;
        keeps = so_far.keeps;
        stays = so_far.stays;
      }
    where
      both : List (List Entry) → List ℕ → AllHosts
      both logs queue = record { logs = logs; queue = queue }

  pub all_pruned_counted : (site closed : ℕ) (old new : PoolShown S) → ArePruned site closed old new → length new.hosts ≤ site → closed ≡ prune_count now max_age max_life (all_hosts old)
  all_pruned_counted site closed old new so_far all =
      let long : length (logs_of old.hosts) ≤ site = omega (arith, all, so_far.stays.count, length-map old.hosts (λ (h : HostShown S). h.log)) in
      so_far.count ∙ all_counted (pruned_at now max_age max_life) [] site (logs_of old.hosts) long
