-- What becomes of all that is kept at the sites where a call changes the pool, and what is kept at one of them.
use Rattle.std.proofs.Common.{◌≡◌, ◌≢◌, ℕ, zero, suc, ◌<◌, List, [], ◌∷◌, ◌++◌, length, map, replicate, slice_set, slice_index_or, refl, sym, ap, subst, ◌∙◌, inl, inr, Some, Result, Ok, Err, arith}
use Rattle.std.specs.Prelude.{slice_get}
use Rattle.std.specs.BTreeMap.{keys, is_at, IsEmpty}
use Rattle.std.specs.List.Sorted.{IsStrictlySortedBy}
use Rattle.std.specs.Map.{keys_of, lookup}
use Rattle.std.specs.Option.{option_map}
use Rattle.std.specs.Ordering.{nat_cmp}
use Rattle.std.proofs.lemmas.Bool.Decides.{eqb_tells}
use Rattle.std.proofs.lemmas.List.{get_or-set_same, get_or-set_other, get_or_default, map-set, set-get_or, length-set, length-map}
use Rattle.std.proofs.lemmas.Option.{slice_get_read, slice_get_within, slice_get_cases, get_or_from_slice_get}
use Rattle.std.proofs.Math.ListN.{get_or-map}
use Rattle.budget.specs.Limits.{Bounds}
use Rattle.conn_log.specs.declared.entry.Entry.{Entry}
use Rattle.bundle.specs.Lease.{HostShown, IsNewHost, Leasing, Ticketed}
use Rattle.cache.specs.AllHosts.{AllHosts, terms}
use Rattle.cache.specs.Calls.{after_prune}
use Rattle.cache.specs.Pools.{PoolShown, IsNewPool, host_in, host_at, logs_of, all_hosts, KeepsHosts, KeepsOtherHosts, StaysPool}
use Rattle.script_text.specs.Printing.{GivesText, upkeep_line}
use Rattle.script_text.specs.declared.command.Action.{Action}
use Rattle.script_text.specs.declared.fault.FaultKind.{FaultKind}
use Rattle.script_text.specs.declared.command.HostCommand.TheVariants as asks
use Rattle.script_engine.specs.declared.site_leases.SiteLeases.{SiteLeases}
use Rattle.script_engine.specs.Meaning.{new_hosts, at_site, act_at, grown, replied, lines_of_growth, asked_answer, prune_all, upkeep_all}
use Rattle.script_engine.specs.Telling.{AllGrowAfter, WereTold, lines_told}
use Rattle.script_engine.specs.Hosted.{Hosted, Gives, GivesAt, GivesAll, KeepsDue, KeepsAllDue, NoneIsCut, AreHosted, NothingIsKept, kept_at, tickets_kept, lease_facts, leases_of, tickets_of, wanted}
use Rattle.script_engine.proofs.Answering.{gives-answer, gives-grown}
use Rattle.script_engine.proofs.GrowthOfAll.{lines-of-growth, were-told, pruned-grow}
use Rattle.script_engine.proofs.Spending.{due-stays}

-- what the callers see of a pool, and of what is kept at its sites
abbrev pub shown : PoolShown (Unit {0}) → List SiteLeases → Hosted
shown pool kept = record { limits = pool.limits; hosts = record { all = all_hosts pool; tickets = tickets_kept kept } }

-- what is read where one was replaced
pub set-here : {A : Type 0} (items : List A) (site : ℕ) (new one : A) → site < length items → slice_get (slice_set items site new) site ≡ Some one → new ≡ one
set-here items site new one there is = sym (get_or-set_same items site new one there) ∙ get_or_from_slice_get (slice_set items site new) site one one is

pub set-other : {A : Type 0} (items : List A) (site other : ℕ) (new one : A) → other ≢ site → slice_get (slice_set items site new) other ≡ Some one → slice_get items other ≡ Some one
set-other items site other new one apart is =
    let within : other < length items = subst (λ (n : ℕ). other < n) (length-set items site new) (slice_get_within (slice_set items site new) other one is) in
    slice_get_read items (length items) other one refl within
    (sym (get_or_from_slice_get (slice_set items site new) other one one is) ∙ get_or-set_other items site other new one apart)

-- all hosts keep what they have
pub all-due : (pool new : PoolShown (Unit {0})) (kept : List SiteLeases) → KeepsAllDue pool kept → KeepsHosts pool new → StaysPool pool new → KeepsAllDue new kept
all-due pool new kept due keeps stays = record {
  count = due.count ∙ sym stays.count;
  each = λ site here is. due-stays (host_at pool site) (host_at new site) here (keeps site (subst (λ (n : ℕ). site < n) due.count (slice_get_within kept site here is))) (due.each site here is);
}

-- so nothing was cut away from their logs
pub none-cut : (pool : PoolShown (Unit {0})) (kept : List SiteLeases) → KeepsAllDue pool kept → NoneIsCut pool
none-cut pool kept due site there = elim (slice_get_cases kept site).1 [
  | inl found ↦ (due.each site found.0 found.2).uncut
  | inr past ↦ absurd (omega (arith, there, due.count, past.0))
]

module _ (pool : PoolShown (Unit {0})) (kept : List SiteLeases) (due : KeepsAllDue pool kept) (site : ℕ) where
  -- the site is there
  pub host-there : site < length (logs_of pool.hosts) → site < length pool.hosts
  host-there there = subst (λ (n : ℕ). site < n) (length-map pool.hosts (λ (h : HostShown (Unit {0})). h.log)) there

  pub kept-there : site < length (logs_of pool.hosts) → site < length kept
  kept-there there = subst (λ (n : ℕ). site < n) (sym due.count) (host-there there)

  -- what is kept of it
  pub due-at : (here : SiteLeases) → site < length kept → here ≡ slice_index_or kept site here → KeepsDue (host_at pool site) here
  due-at here there is = due.each site here (slice_get_read kept (length kept) site here refl there is)

  -- all of it once the site and the pool have changed
  pub due-after : (new : PoolShown (Unit {0})) (here : SiteLeases) → site < length kept → KeepsOtherHosts site pool new → StaysPool pool new → KeepsDue (host_at new site) here
      → KeepsAllDue new (slice_set kept site here)
  due-after new here there others stays keeps = record {
    count = length-set kept site here ∙ due.count ∙ sym stays.count;
    each = λ other one is. elim (eqb_tells other site) [
      | inl same ↦
          let at : here ≡ one = set-here kept site here one there (subst (λ (k : ℕ). slice_get (slice_set kept site here) k ≡ Some one) same.1 is) in
          subst (λ (k : SiteLeases). KeepsDue (host_at new other) k) at (subst (λ (k : ℕ). KeepsDue (host_at new k) here) (sym same.1) keeps)
      | inr apart ↦
          let was = set-other kept site other here one apart.1 is in
          let within = subst (λ (n : ℕ). other < n) due.count (slice_get_within kept other one was) in
          due-stays (host_at pool other) (host_at new other) one (others other within apart.1) (due.each other one was)
    ];
  }

  -- the transfers whose tickets are kept
  pub tickets-at : (was : SiteLeases) → site < length kept → was ≡ slice_index_or kept site was → slice_index_or (tickets_kept kept) site [] ≡ keys was.tickets
  tickets-at was there is =
      let tickets : SiteLeases → List ℕ = λ k. keys k.tickets in
      get_or_default (tickets_kept kept) site [] (tickets was) (subst (λ (n : ℕ). site < n) (sym (length-map kept tickets)) there)
      ∙ get_or-map tickets kept site was ∙ ap tickets (sym is)

  -- an action at the site
  pub gives-at : {T : Type 0} (bytes : T → List ℕ) (action : Action) (result : Result T FaultKind) (new : PoolShown (Unit {0})) (was here : SiteLeases)
      → site < length kept → was ≡ slice_index_or kept site was → StaysPool pool new
      → Gives bytes pool.limits site (kept_at pool was) action result (kept_at new here)
      → GivesAt bytes (shown pool kept) site action result (shown new (slice_set kept site here))
  gives-at bytes action result new was here there is stays gives = record {
    here = kept_at new here;
    gives = subst (λ (tickets : List ℕ). Gives bytes pool.limits site (record { all = all_hosts pool; tickets = tickets }) action result (kept_at new here)) (sym (tickets-at was there is)) gives;
    left = ap (λ (limits : Bounds). with_hosts limits (tickets_kept (slice_set kept site here))) stays.limits
        ∙ ap (with_hosts pool.limits) (map-set (λ (k : SiteLeases). keys k.tickets) kept site here);
  }
    where
      with_hosts : Bounds → List (List ℕ) → Hosted
      with_hosts limits tickets = record { limits = limits; hosts = record { all = all_hosts new; tickets = tickets } }

-- the lines of what the logs have more than was told
pub text-of-growth : {T : Type 0} (bytes : T → List ℕ) (by : ℕ) (old new : AllHosts) (told : List ℕ) (r : Result T FaultKind) → told ≡ map length old.logs → AllGrowAfter by old new
    → GivesText bytes (lines_told by 0 told new.logs) r → GivesText bytes (lines_of_growth old new) r
text-of-growth bytes by old new told (Ok text) all_told grow gives = gives ∙ ap (λ (tolds : List ℕ). lines_told by 0 tolds new.logs) all_told ∙ lines-of-growth by old new grow
text-of-growth bytes by old new told (Err kind) all_told grow gives = gives

pub told-before : (by : ℕ) (old new : AllHosts) (told : List ℕ) → told ≡ map length old.logs → AllGrowAfter by old new → WereTold told new.logs
told-before by old new told all_told grow = subst (λ (tolds : List ℕ). WereTold tolds new.logs) (sym all_told) (were-told by old new grow)

-- the same from what a method of the pooled hosts knows: they are what its callers see
module _ (pool : PoolShown (Unit {0})) (kept : List SiteLeases) (told : List ℕ) (are : AreHosted pool kept told) (now : Hosted) (seen : shown pool kept ≡ now) where
  pub seen-host : (site : ℕ) → site < length now.hosts.all.logs → site < length pool.hosts
  seen-host site there = host-there pool kept are.due_kept site (subst (λ (h : Hosted). site < length h.hosts.all.logs) (sym seen) there)

  pub seen-kept : (site : ℕ) → site < length now.hosts.all.logs → site < length kept
  seen-kept site there = kept-there pool kept are.due_kept site (subst (λ (h : Hosted). site < length h.hosts.all.logs) (sym seen) there)

  pub seen-due : (site : ℕ) (was : SiteLeases) → site < length now.hosts.all.logs → was ≡ slice_index_or kept site was → KeepsDue (host_at pool site) was
  seen-due site was there is = due-at pool kept are.due_kept site was (seen-kept site there) is

  pub hosted-after : (site : ℕ) (new : PoolShown (Unit {0})) (here : SiteLeases) (tolds : List ℕ) → site < length now.hosts.all.logs
      → KeepsOtherHosts site pool new → StaysPool pool new → KeepsDue (host_at new site) here → tolds ≡ map length (logs_of new.hosts)
      → AreHosted new (slice_set kept site here) tolds
  hosted-after site new here tolds there others stays keeps all_told = record {
    due_kept = due-after pool kept are.due_kept site new here (seen-kept site there) others stays keeps;
    all_told = all_told;
  }

  -- and before they are told
  pub seen-uncut : (site : ℕ) (new : PoolShown (Unit {0})) (here : SiteLeases) → site < length now.hosts.all.logs → KeepsOtherHosts site pool new → StaysPool pool new → KeepsDue (host_at new site) here → NoneIsCut new
  seen-uncut site new here there others stays keeps = none-cut new (slice_set kept site here) (due-after pool kept are.due_kept site new here (seen-kept site there) others stays keeps)

  pub seen-gives : {T : Type 0} (bytes : T → List ℕ) (site : ℕ) (action : Action) (result : Result T FaultKind) (new : PoolShown (Unit {0})) (was here : SiteLeases)
      → site < length now.hosts.all.logs → was ≡ slice_index_or kept site was → StaysPool pool new
      → Gives bytes pool.limits site (kept_at pool was) action result (kept_at new here)
      → GivesAt bytes now site action result (shown new (slice_set kept site here))
  seen-gives bytes site action result new was here there is stays gives =
      subst (λ (h : Hosted). GivesAt bytes h site action result (shown new (slice_set kept site here))) seen
      (gives-at pool kept are.due_kept site bytes action result new was here (seen-kept site there) is stays gives)

  -- where the entries that were added are written
  pub seen-grown : {T : Type 0} (bytes : T → List ℕ) (site : ℕ) (action : Action) (by : ℕ) (result : Result T FaultKind) (new : PoolShown (Unit {0})) (was here : SiteLeases)
      → site < length now.hosts.all.logs → was ≡ slice_index_or kept site was → StaysPool pool new
      → act_at pool.limits site (kept_at pool was) action ≡ grown (kept_at pool was) (kept_at new here)
      → AllGrowAfter by (all_hosts pool) (all_hosts new) → GivesText bytes (lines_told by 0 told (logs_of new.hosts)) result
      → GivesAt bytes now site action result (shown new (slice_set kept site here))
  seen-grown bytes site action by result new was here there is stays acts grow text =
      seen-gives bytes site action result new was here there is stays
      (gives-grown bytes pool.limits site (kept_at pool was) action (kept_at new here) result acts
      (text-of-growth bytes by (all_hosts pool) (all_hosts new) told result are.all_told grow text))

  -- where nothing changed at the site, and a line is answered
  pub seen-replied : {T : Type 0} (bytes : T → List ℕ) (site : ℕ) (action : Action) (line : List ℕ) (result : Result T FaultKind) (new : PoolShown (Unit {0})) (was here : SiteLeases)
      → site < length now.hosts.all.logs → was ≡ slice_index_or kept site was → StaysPool pool new
      → act_at pool.limits site (kept_at pool was) action ≡ replied (kept_at new here) line → GivesText bytes line result
      → GivesAt bytes now site action result (shown new (slice_set kept site here))
  seen-replied bytes site action line result new was here there is stays acts text =
      seen-gives bytes site action result new was here there is stays
      (gives-answer bytes pool.limits site (kept_at pool was) action (kept_at new here) line result acts text)

  -- where what is kept stays as it was
  pub seen-beside : {T : Type 0} (bytes : T → List ℕ) (site : ℕ) (action : Action) (result : Result T FaultKind) (new : PoolShown (Unit {0})) → StaysPool pool new
      → Gives bytes pool.limits site (at_site (shown pool kept).hosts site) action result (record (at_site (shown pool kept).hosts site) { all = all_hosts new })
      → GivesAt bytes now site action result (shown new kept)
  seen-beside bytes site action result new stays gives = subst (λ (h : Hosted). GivesAt bytes h site action result (shown new kept)) seen (record {
    here = record (at_site (shown pool kept).hosts site) { all = all_hosts new };
    gives = gives;
    left = ap (λ (limits : Bounds). with_hosts limits (tickets_kept kept)) stays.limits ∙ ap (with_hosts pool.limits) (sym (set-get_or (tickets_kept kept) site []));
  })
    where
      with_hosts : Bounds → List (List ℕ) → Hosted
      with_hosts limits tickets = record { limits = limits; hosts = record { all = all_hosts new; tickets = tickets } }

  -- a prune and an upkeep
  pub seen-pruned : {T : Type 0} (bytes : T → List ℕ) (max_age max_life moment : ℕ) (result : Result T FaultKind) (new : PoolShown (Unit {0})) → StaysPool pool new
      → all_hosts new ≡ after_prune pool.limits moment max_age max_life (all_hosts pool) → GivesText bytes (lines_told 0 0 told (logs_of new.hosts)) result
      → GivesAll bytes now (asked_answer (asks.Prune max_age max_life moment)) result (shown new kept)
  unfolding prune_all
  seen-pruned bytes max_age max_life moment result new stays all text = subst (λ (h : Hosted). GivesAll bytes h (asked_answer (asks.Prune max_age max_life moment)) result (shown new kept)) seen (record {
    text = subst (λ (a : AllHosts). GivesText bytes (lines_of_growth (all_hosts pool) a) result) all (text-of-growth bytes 0 (all_hosts pool) (all_hosts new) told result are.all_told (pruned-after new moment max_age max_life all) text);
    left = ap (λ (limits : Bounds). record { limits = limits; hosts = (shown new kept).hosts }) stays.limits ∙ ap with_all all;
  })
    where
      with_all : AllHosts → Hosted
      with_all all = record { limits = pool.limits; hosts = record { all = all; tickets = tickets_kept kept } }

      pruned-after : (new : PoolShown (Unit {0})) (moment max_age max_life : ℕ) → all_hosts new ≡ after_prune pool.limits moment max_age max_life (all_hosts pool) → AllGrowAfter 0 (all_hosts pool) (all_hosts new)
      pruned-after new moment max_age max_life all = subst (AllGrowAfter 0 (all_hosts pool)) (sym all) (pruned-grow 0 pool.limits moment max_age max_life (all_hosts pool))

  pub seen-upkept : {T : Type 0} (bytes : T → List ℕ) (result : Result T FaultKind) (new : PoolShown (Unit {0})) (count : ℕ) → new ≡ pool → count ≡ 0 → GivesText bytes (upkeep_line count) result
      → GivesAll bytes now (asked_answer asks.Upkeep) result (shown new kept)
  unfolding upkeep_all
  seen-upkept bytes result new count same none text = subst (λ (h : Hosted). GivesAll bytes h (asked_answer asks.Upkeep) result (shown new kept)) seen (record {
    text = subst (λ (n : ℕ). GivesText bytes (upkeep_line n) result) none text;
    left = ap (λ (p : PoolShown (Unit {0})). shown p kept) same;
  })

-- nobody has anything at a site that is added
pub nothing-more : (kept : List SiteLeases) (here : SiteLeases) → NothingIsKept kept → IsEmpty here.leases → IsEmpty here.tickets → NothingIsKept (kept ++ here ∷ [])
nothing-more [] here none no_lease no_ticket zero one is =
    let same : here ≡ one = cc in
    subst (λ (k : SiteLeases). IsEmpty k.leases × IsEmpty k.tickets) same (no_lease, no_ticket)
nothing-more [] here none no_lease no_ticket (suc s) one is = absurd (cc)
nothing-more (first ∷ kept) here none no_lease no_ticket zero one is = none zero one is
nothing-more (first ∷ kept) here none no_lease no_ticket (suc s) one is = nothing-more kept here (λ k. none (suc k)) no_lease no_ticket s one is

none-ordered : IsStrictlySortedBy nat_cmp []
unfolding IsStrictlySortedBy
none-ordered = tt

-- and at a new host nobody is due to
new-due : (limit index first : ℕ) (host : HostShown (Unit {0})) (here : SiteLeases) → IsNewHost limit index first host → IsEmpty here.leases → IsEmpty here.tickets → KeepsDue host here
new-due limit index first host here new no_lease no_ticket = record {
  keeps = record {
    leases = λ t. ap (λ (entries : List (ℕ × Leasing (Unit {0}))). option_map lease_facts (lookup (is_at (nat_cmp t)) entries)) no_lease ∙ sym (ap (λ (h : HostShown (Unit {0})). leases_of h t) new);
    tickets = λ t. ap (λ (entries : List (ℕ × Ticketed)). option_map wanted (lookup (is_at (nat_cmp t)) entries)) no_ticket ∙ sym (ap (λ (h : HostShown (Unit {0})). tickets_of h t) new);
  };
  holders = subst (λ (entries : List (ℕ × Leasing (Unit {0}))). IsStrictlySortedBy nat_cmp (keys_of entries)) (sym no_lease) none-ordered;
  waiters = subst (λ (entries : List (ℕ × Ticketed)). IsStrictlySortedBy nat_cmp (keys_of entries)) (sym no_ticket) none-ordered;
  uncut = ap (λ (h : HostShown (Unit {0})). h.cut_away) new;
}

none-logged : (hosts : List (HostShown (Unit {0}))) → ((host : ℕ) → (host_in hosts host).log ≡ []) → logs_of hosts ≡ replicate (length hosts) []
none-logged [] none = refl
none-logged (first ∷ hosts) none =
    ap (λ (log : List Entry). log ∷ logs_of hosts) (none 0) ∙ ap (λ (logs : List (List Entry)). [] ∷ logs) (none-logged hosts (λ k. none (suc k)))

no-lengths : (n : ℕ) → map length (replicate {A = List Entry} n []) ≡ replicate n 0
no-lengths zero = refl
no-lengths (suc n) = ap (λ (l : List ℕ). 0 ∷ l) (no-lengths n)

no-tickets : (kept : List SiteLeases) → NothingIsKept kept → tickets_kept kept ≡ replicate (length kept) []
no-tickets [] none = refl
no-tickets (first ∷ kept) none =
    ap (λ (entries : List (ℕ × Ticketed)). keys_of entries ∷ tickets_kept kept) (none 0 first refl).1
    ∙ ap (λ (l : List (List ℕ)). [] ∷ l) (no-tickets kept (λ k. none (suc k)))

-- the hosts of a new pool, where nothing is kept or told
module _ (limits : Bounds) (sites : ℕ) (pool : PoolShown (Unit {0})) (kept : List SiteLeases) (told : List ℕ) (new : IsNewPool limits sites pool) (count : length kept ≡ sites) (none : NothingIsKept kept) where
  pub new-hosted : told ≡ replicate sites 0 → AreHosted pool kept told
  new-hosted is = record {
    due_kept = record {
      count = count ∙ sym new.count;
      each = λ site here at.
          let empty = none site here at in
          new-due limits.host site (terms limits).first (host_at pool site) here (new.each site (subst (λ (n : ℕ). site < n) count (slice_get_within kept site here at))) empty.0 empty.1;
    };
    all_told = is ∙ sym (no-lengths sites) ∙ ap (map length) (sym logs);
  }
    where
      logs : logs_of pool.hosts ≡ replicate sites []
      logs = none-logged pool.hosts new.none_logged ∙ ap (λ (n : ℕ). replicate n []) new.count

  pub new-shown : shown pool kept ≡ record { limits = limits; hosts = new_hosts sites }
  new-shown =
      ap (λ (l : Bounds). as_hosted l (logs_of pool.hosts) pool.queue (tickets_kept kept)) new.limits_are
      ∙ ap (λ (l : List (List Entry)). as_hosted limits l pool.queue (tickets_kept kept)) (none-logged pool.hosts new.none_logged ∙ ap (λ (n : ℕ). replicate n []) new.count)
      ∙ ap (λ (q : List ℕ). as_hosted limits (replicate sites []) q (tickets_kept kept)) new.none_queued
      ∙ ap (as_hosted limits (replicate sites []) []) (no-tickets kept none ∙ ap (λ (n : ℕ). replicate n []) count)
    where
      as_hosted : Bounds → List (List Entry) → List ℕ → List (List ℕ) → Hosted
      as_hosted l logs queue tickets = record { limits = l; hosts = record { all = record { logs = logs; queue = queue }; tickets = tickets } }
