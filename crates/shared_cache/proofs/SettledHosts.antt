-- Hosts that may be gathered: each is the cache's own, and their sums are those of their logs.
use Rattle.std.proofs.Common.{◌≡◌, ℕ, zero, suc, ◌+◌, ◌≤◌, List, [], ◌∷◌, ◌++◌, length, map, Option, Some, None, refl, sym, ap, subst, ◌∙◌, arith, rules}
use Rattle.std.specs.Prelude.{slice_get, is_none, IfNone}
use Rattle.std.specs.List.{All}
use Rattle.std.proofs.lemmas.List.Sums.{sum_by-cons, length-filter, count_by-le-length}
use Rattle.std.proofs.lemmas.List.{length-map}
use Rattle.conn_log.specs.declared.entry.Entry.{Entry}
use Rattle.conn_log.specs.declared.entry.Want.{Want}
use Rattle.conn_log.specs.Connections.{open_connections, idle_connections, holder_want}
use Rattle.conn_log.specs.Legal.{IsLegal}
use Rattle.conn_log.specs.Counts.{counts}
use Rattle.conn_log.specs.Starts.{start_count}
use Rattle.conn_log.proofs.CountSums.{counts_add_up}
use Rattle.bundle.specs.Passes.{Accounts, spent_with}
use Rattle.bundle.specs.Seats.{Tables}
use Rattle.shared_cache.specs.Names.{CacheNames, terms_of}
use Rattle.shared_cache.specs.Locked.{HostUnder}
use Rattle.bundle.specs.Lease.{HostShown}
use Rattle.shared_cache.specs.Counting.{tables_of, logs_of, host_count}
use Rattle.shared_cache.specs.declared.gathered.Gathered.{Gathered}
use Rattle.shared_cache.specs.Gathering.{IsGathered, IsFree, IsSettledAt, AreSettledFrom, hosts_under, open_at_all, idle_at_all, opened_at_all, closed_at_all}
use Rattle.shared_cache.proofs.NewHosts.{all_from}

-- lists of one length, each element of the one at its place in the other
same_lists : {X : Type 0} (xs ys : List X) → length xs ≡ length ys → ((k : ℕ) (x : X) → slice_get xs k ≡ Some x → slice_get ys k ≡ Some x) → xs ≡ ys
same_lists [] [] same each = refl
same_lists [] (y ∷ ys) same each = absurd (omega (arith, same))
same_lists (x ∷ xs) [] same each = absurd (omega (arith, same))
same_lists (x ∷ xs) (y ∷ ys) same each = let first : Some y ≡ Some x = each 0 x refl in let rest = same_lists xs ys (omega (arith, same)) (λ k. each (suc k)) in search rules

-- what stands in a list of images is the image of what stands there
image_at : {X Y : Type 0} (f : X → Y) (xs : List X) (k : ℕ) (y : Y) → slice_get (map f xs) k ≡ Some y → (x : X) × (slice_get xs k ≡ Some x) × (f x ≡ y)
image_at f [] k y at = absurd (search rules)
image_at f (x ∷ xs) zero y at = (x, refl, search rules)
image_at f (x ∷ xs) (suc k) y at = image_at f xs k y at

-- where there is none
pub if_none : {X : Type 0} (o : Option X) (P : Type 0) → ((x : X) → o ≡ Some x → ⊥) → IfNone o P → P
if_none None P none it = it
if_none (Some x) P none it = absurd (none x refl)

module _ {S : Type 0} (names : CacheNames) (passes : List Accounts) where
  -- one host more
  pub one_more_settled : (place : ℕ) (hosts : List (HostUnder S)) (under : HostUnder S) → AreSettledFrom names passes place hosts → IsSettledAt names passes (place + length hosts) under → AreSettledFrom names passes place (hosts ++ under ∷ [])
  one_more_settled place [] under so_far new = (subst (λ (p : ℕ). IsSettledAt names passes p under) (omega arith) new, tt)
  one_more_settled place (host ∷ hosts) under so_far new = (so_far.0, one_more_settled (suc place) hosts under so_far.1 (subst (λ (p : ℕ). IsSettledAt names passes p under) (omega arith) new))

  settled_at : (place : ℕ) (hosts : List (HostUnder S)) → AreSettledFrom names passes place hosts → (k : ℕ) (under : HostUnder S) → slice_get hosts k ≡ Some under → IsSettledAt names passes (place + k) under
  settled_at place [] settled zero under at = absurd (search rules)
  settled_at place [] settled (suc k) under at = absurd (search rules)
  settled_at place (host ∷ hosts) settled zero under at = subst (λ (p : ℕ). IsSettledAt names passes p under) (omega arith) (subst (IsSettledAt names passes place) (search rules) settled.0)
  settled_at place (host ∷ hosts) settled (suc k) under at = subst (λ (p : ℕ). IsSettledAt names passes p under) (omega arith) (settled_at (suc place) hosts settled.1 k under at)

  log_under : HostUnder S → List Entry
  log_under under = under.host.log

  module _ (hosts : List (HostUnder S)) (settled : AreSettledFrom names passes 0 hosts) where
    -- the host whose log, or whose tables, stand there
    host_at_log : (k : ℕ) (log : List Entry) → slice_get (logs_of (hosts_under hosts)) k ≡ Some log → (under : HostUnder S) × (slice_get hosts k ≡ Some under) × (under.host.log ≡ log)
    host_at_log k log at =
        let counted = image_at (λ (h : HostShown S). h.log) (hosts_under hosts) k log at in
        let found = image_at (λ (under : HostUnder S). under.host) hosts k counted.0 counted.1 in
        (found.0, found.1, ap (λ (h : HostShown S). h.log) found.2 ∙ counted.2)

    pub all_own : length hosts ≡ length names.hosts → tables_of (hosts_under hosts) ≡ names.hosts
    all_own number = same_lists (tables_of (hosts_under hosts)) names.hosts (length-map (hosts_under hosts) (λ (h : HostShown S). h.tables) ∙ length-map hosts (λ (under : HostUnder S). under.host) ∙ number) each
      where
        each : (k : ℕ) (tables : Tables) → slice_get (tables_of (hosts_under hosts)) k ≡ Some tables → slice_get names.hosts k ≡ Some tables
        each k tables at =
            let counted = image_at (λ (h : HostShown S). h.tables) (hosts_under hosts) k tables at in
            let found = image_at (λ (under : HostUnder S). under.host) hosts k counted.0 counted.1 in
            let it = settled_at 0 hosts settled k found.0 found.1 in
            let place : found.0.host.host ≡ k = it.place_is ∙ omega arith in
            subst (λ (p : ℕ). slice_get names.hosts p ≡ Some tables) place (it.under_its_lock.tables ∙ ap Some (ap (λ (h : HostShown S). h.tables) found.2 ∙ counted.2))

    pub all_legal : All (IsLegal (terms_of names.limits)) (logs_of (hosts_under hosts))
    all_legal = all_from (IsLegal (terms_of names.limits)) (logs_of (hosts_under hosts)) (λ k log at.
        let found = host_at_log k log at in subst (IsLegal (terms_of names.limits)) found.2 (settled_at 0 hosts settled k found.0 found.1).legal)

    pub all_free : All IsFree (logs_of (hosts_under hosts))
    all_free = all_from IsFree (logs_of (hosts_under hosts)) (λ k log at.
        let found = host_at_log k log at in subst IsFree found.2 (settled_at 0 hosts settled k found.0 found.1).free)

    pub all_spent : (host : ℕ) (log : List Entry) → slice_get (logs_of (hosts_under hosts)) host ≡ Some log → spent_with host passes ≡ start_count log
    all_spent host log at =
        let found = host_at_log host log at in
        let it = (settled_at 0 hosts settled host found.0 found.1).spent in
        subst (λ (p : ℕ). spent_with p passes ≡ start_count log) (omega arith) (it ∙ ap start_count found.2)

  -- of each log the open ones and those closed are those opened, and all that are open are idle
  pub totals : (place : ℕ) (hosts : List (HostUnder S)) → AreSettledFrom names passes place hosts → open_at_all (logs_of (hosts_under hosts)) + closed_at_all (logs_of (hosts_under hosts)) ≡ opened_at_all (logs_of (hosts_under hosts))
  totals place [] settled = refl
  totals place (host ∷ hosts) settled =
      let log = host.host.log in
      let rest = logs_of (hosts_under hosts) in
      omega (
        arith,
        totals (suc place) hosts settled.1,
        counts_add_up (terms_of names.limits) log settled.0.legal,
        sum_by-cons (λ (l : List Entry). length (open_connections l)) log rest,
        sum_by-cons (λ (l : List Entry). (counts l).closed) log rest,
        sum_by-cons (λ (l : List Entry). (counts l).opened) log rest,
      )

  pub all_idle : (place : ℕ) (hosts : List (HostUnder S)) → AreSettledFrom names passes place hosts → idle_at_all (logs_of (hosts_under hosts)) ≡ open_at_all (logs_of (hosts_under hosts))
  all_idle place [] settled = refl
  all_idle place (host ∷ hosts) settled =
      let log = host.host.log in
      let rest = logs_of (hosts_under hosts) in
      let idle : length (idle_connections log) ≤ length (open_connections log) = omega (arith, length-filter (λ (c : ℕ). is_none {T = Want} (holder_want log c)) (open_connections log), count_by-le-length (λ (c : ℕ). is_none {T = Want} (holder_want log c)) (open_connections log)) in
      omega (
        arith,
        all_idle (suc place) hosts settled.1,
        settled.0.free.none_held,
        idle,
        sum_by-cons (λ (l : List Entry). length (open_connections l)) log rest,
        sum_by-cons (λ (l : List Entry). length (idle_connections l)) log rest,
      )

  -- what was counted of such hosts, with what their seats hold, is the cache's account
  pub gathered : (hosts : List (HostUnder S)) → AreSettledFrom names passes 0 hosts → length hosts ≡ length names.hosts
      → (it : Gathered S)
      → it.bundles.items ≡ hosts_under hosts
      → it.hosts.items ≡ map host_count (logs_of (hosts_under hosts))
      → it.total ≡ open_at_all (logs_of (hosts_under hosts))
      → it.kept ≡ idle_at_all (logs_of (hosts_under hosts))
      → it.total ≤ names.limits.total → it.kept ≤ names.limits.connects
      → IsGathered names passes it
  gathered hosts settled number it same counts_are total_is kept_is total_fits kept_fits = record {
    own = ap tables_of same ∙ all_own hosts settled number;
    legal = subst (λ (hs : List (HostShown S)). All (IsLegal (terms_of names.limits)) (logs_of hs)) (sym same) (all_legal hosts settled);
    free = subst (λ (hs : List (HostShown S)). All IsFree (logs_of hs)) (sym same) (all_free hosts settled);
    hosts_counted = counts_are ∙ ap (λ (hs : List (HostShown S)). map host_count (logs_of hs)) (sym same);
    total_open = total_is ∙ ap (λ (hs : List (HostShown S)). open_at_all (logs_of hs)) (sym same);
    total_left = subst (λ (hs : List (HostShown S)). it.total + closed_at_all (logs_of hs) ≡ opened_at_all (logs_of hs)) (sym same) (omega (arith, total_is, totals 0 hosts settled));
    total_within = total_fits;
    kept_idle = kept_is ∙ ap (λ (hs : List (HostShown S)). idle_at_all (logs_of hs)) (sym same);
    all_kept = kept_is ∙ all_idle 0 hosts settled ∙ sym total_is;
    kept_within = kept_fits;
    spent = λ host log at. all_spent hosts settled host log (subst (λ (hs : List (HostShown S)). slice_get (logs_of hs) host ≡ Some log) same at);
  }
