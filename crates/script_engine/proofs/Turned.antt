-- The end of a script: at one site after another all give up what they have.
use Rattle.std.proofs.Common.{◌≡◌, ℕ, suc, ◌+◌, ◌<◌, ◌≤◌, List, [], ◌∷◌, length, map, drop, slice_set, slice_index_or, refl, sym, ap, subst, ◌∙◌, inl, inr, ◌⊎◌, arith, add-one, Some, None}
use Rattle.std.specs.Prelude.{slice_get}
use Rattle.std.specs.BTreeMap.{keys, IsEmpty}
use Rattle.std.proofs.Math.ListN.{get_or-map}
use Rattle.std.proofs.Math.Seq.{drop-cons}
use Rattle.std.proofs.lemmas.Bool.Decides.{eqb_tells}
use Rattle.std.proofs.lemmas.List.{get_or-set_other, get_or_default, length-set, length-map, drop_all}
use Rattle.std.proofs.lemmas.Map.Keys.{IsStrictlyIncreasing-from_sorted}
use Rattle.std.proofs.lemmas.Option.{slice_get_within, slice_get_cases}
use Rattle.budget.specs.Limits.{Bounds}
use Rattle.cache.specs.AllHosts.{IsAtRest}
use Rattle.cache.specs.Pools.{PoolShown, host_at, logs_of, all_hosts, AreInPlace, KeepsOtherHosts, StaysPool}
use Rattle.cache.proofs.Keeping.{stays_pool, stays_pool_on}
use Rattle.cache.proofs.OneHost.{log_is}
use Rattle.script_engine.specs.declared.site_leases.SiteLeases.{SiteLeases}
use Rattle.script_engine.specs.Meaning.{AtSite}
use Rattle.script_engine.specs.Ending.{AreThoseLeft, after_all_at, after_all_from, IsEnding}
use Rattle.script_engine.specs.Hosted.{KeepsDue, KeepsAllDue, NothingIsKept, kept_at, tickets_kept, merged}
use Rattle.script_engine.proofs.Ending.{sorted-merged, each-left}
use Rattle.script_engine.proofs.Spending.{sound-at}
use Rattle.script_engine.proofs.PooledSites.{set-here, set-other, due-after, tickets-at}

-- the transfers that have something at a site, and at each site
abbrev pub those : SiteLeases → List ℕ
those here = merged (keys here.leases) (keys here.tickets)

abbrev pub leaving : List SiteLeases → List (List ℕ)
leaving kept = map those kept

pub those-left : (pool : PoolShown (Unit {0})) (site : ℕ) (here : SiteLeases) → site < length pool.hosts → IsAtRest pool.limits (all_hosts pool) → AreInPlace pool → KeepsDue (host_at pool site) here
    → AreThoseLeft site (kept_at pool here) (those here)
those-left pool site here there rest places keeps = record {
  ascending = IsStrictlyIncreasing-from_sorted (those here) (sorted-merged (keys here.leases) (keys here.tickets) keeps.holders);
  each = λ t. each-left (host_at pool site) (sound-at pool site there rest places) site (all_hosts pool) (log_is pool site) t here.leases.entries here.tickets.entries keeps.keeps.leases keeps.keeps.tickets;
}

-- those before a site gave up what they had, the others have it still, and what is left to do leads to what is due
pub record AreTurned (site : ℕ) (start pool : PoolShown (Unit {0})) (first kept : List SiteLeases) : Type 0 where
  pub due : KeepsAllDue pool kept
  pub stays : StaysPool start pool
  pub count : length kept ≡ length first
  pub rest : (s : ℕ) (d : SiteLeases) → site ≤ s → slice_index_or kept s d ≡ slice_index_or first s d
  pub spent : (s : ℕ) (here : SiteLeases) → s < site → slice_get kept s ≡ Some here → IsEmpty here.leases × IsEmpty here.tickets
  pub left : after_all_from start.limits site (all_hosts pool) (drop site (tickets_kept first)) (drop site (leaving first)) ≡ after_all_from start.limits 0 (all_hosts start) (tickets_kept first) (leaving first)

pub none-turned : (start : PoolShown (Unit {0})) (first : List SiteLeases) → KeepsAllDue start first → AreTurned 0 start start first first
none-turned start first due = record {
  due = due;
  stays = stays_pool start;
  count = refl;
  rest = λ s d le. refl;
  spent = λ s here lt is. absurd (omega (arith, lt));
  left = refl;
}

-- what is next, read from a list
next-of : {A : Type 0} (of : SiteLeases → A) (first : List SiteLeases) (site : ℕ) (was : SiteLeases) (none : A) → site < length first → slice_index_or first site was ≡ was
    → drop site (map of first) ≡ of was ∷ drop (suc site) (map of first)
next-of of first site was none there is =
    let within : site < length (map of first) = subst (λ (n : ℕ). site < n) (sym (length-map first of)) there in
    drop-cons (map of first) site (of was) within ∙ ap (λ x. x ∷ drop (suc site) (map of first)) (get_or-map of first site was ∙ ap of is)

module _ (site : ℕ) (start pool new : PoolShown (Unit {0})) (first kept : List SiteLeases) (was here : SiteLeases) where
  -- one site more
  pub one-turned : AreTurned site start pool first kept → site < length kept → was ≡ slice_index_or kept site was
      → kept_at new here ≡ after_all_at pool.limits site (kept_at pool was) (those was) → IsEmpty here.leases → IsEmpty here.tickets
      → KeepsDue (host_at new site) here → KeepsOtherHosts site pool new → StaysPool pool new
      → AreTurned (site + 1) start new first (slice_set kept site here)
  one-turned turned there read all no_lease no_ticket keeps others stays = record {
    due = due-after pool kept turned.due site new here there others stays keeps;
    stays = stays_pool_on start pool new turned.stays stays;
    count = length-set kept site here ∙ turned.count;
    rest = λ s d le. get_or-set_other kept site s here d (λ e. omega (arith, le, e)) ∙ turned.rest s d (omega (arith, le));
    spent = λ s one lt is. elim (eqb_tells s site) [
      | inl same ↦ subst (λ (k : SiteLeases). IsEmpty k.leases × IsEmpty k.tickets) (set-here kept site here one there (subst (λ (i : ℕ). slice_get (slice_set kept site here) i ≡ Some one) same.1 is)) (no_lease, no_ticket)
      | inr apart ↦ turned.spent s one (omega (arith, lt, apart.1)) (set-other kept site s here one apart.1 is)
    ];
    left = ap (λ (n : ℕ). after_all_from start.limits n (all_hosts new) (drop n tickets) (drop n transfers)) (add-one site)
        ∙ ap (λ (a : AtSite). after_all_from start.limits (suc site) a.all (drop (suc site) tickets) (drop (suc site) transfers)) all_is
        ∙ ap (λ (l : List (List ℕ)). after_all_from start.limits site (all_hosts pool) l (those was ∷ drop (suc site) transfers)) (sym (next-of (λ (k : SiteLeases). keys k.tickets) first site was [] there_first read_first))
        ∙ ap (λ (l : List (List ℕ)). after_all_from start.limits site (all_hosts pool) (drop site tickets) l) (sym (next-of those first site was [] there_first read_first))
        ∙ turned.left;
  }
    where
      tickets : List (List ℕ)
      tickets = tickets_kept first

      transfers : List (List ℕ)
      transfers = leaving first

      there_first : site < length first
      there_first = subst (λ (n : ℕ). site < n) turned.count there

      read_first : slice_index_or first site was ≡ was
      read_first = sym (turned.rest site was (omega arith)) ∙ sym read

      all_is : kept_at new here ≡ after_all_at start.limits site (kept_at pool was) (those was)
      all_is = all ∙ ap (λ (l : Bounds). after_all_at l site (kept_at pool was) (those was)) turned.stays.limits

module _ (start pool : PoolShown (Unit {0})) (first kept : List SiteLeases) (due : KeepsAllDue start first) (last : ℕ) (all : length first ≤ last) (turned : AreTurned last start pool first kept) where
  pub nothing-kept : NothingIsKept kept
  nothing-kept s here is = turned.spent s here (omega (arith, slice_get_within kept s here is, turned.count, all)) is

  pub all-turned : IsAtRest start.limits (all_hosts start) → AreInPlace start → IsEnding start.limits (record { all = all_hosts start; tickets = tickets_kept first }) (all_hosts pool)
  all-turned rest places = record {
    transfers = leaving first;
    count = length-map first those ∙ many;
    those = λ site there. left_at site (subst (λ (n : ℕ). site < n) (sym many) there) (slice_get_cases first site).1;
    left = sym (ap (λ (l : List (List ℕ)). after_all_from start.limits last (all_hosts pool) l (drop last (leaving first))) none_left) ∙ turned.left;
  }
    where
      many : length first ≡ length (logs_of start.hosts)
      many = due.count ∙ sym (length-map start.hosts (λ h. h.log))

      none_left : drop last (tickets_kept first) ≡ []
      none_left = drop_all last (tickets_kept first) (omega (arith, all, length-map first (λ (k : SiteLeases). keys k.tickets)))

      left_at : (site : ℕ) → site < length first → ((here : SiteLeases) × (site < length first) × (slice_get first site ≡ Some here) × (slice_index_or first site here ≡ here)) ⊎ ((length first ≤ site) × (slice_get first site ≡ None))
          → AreThoseLeft site (record { all = all_hosts start; tickets = slice_index_or (tickets_kept first) site [] }) (slice_index_or (leaving first) site [])
      left_at site there (inl found) =
          let here = found.0 in
          let transfers : slice_index_or (leaving first) site [] ≡ those here =
          get_or_default (leaving first) site [] (those here) (subst (λ (n : ℕ). site < n) (sym (length-map first those)) there) ∙ get_or-map those first site here ∙ ap those found.3 in
          subst (λ (l : List ℕ). AreThoseLeft site (record { all = all_hosts start; tickets = slice_index_or (tickets_kept first) site [] }) l) (sym transfers)
          (subst (λ (l : List ℕ). AreThoseLeft site (record { all = all_hosts start; tickets = l }) (those here)) (sym (tickets-at start first due site here there (sym found.3)))
          (those-left start site here (subst (λ (n : ℕ). site < n) due.count there) rest places (due.each site here found.2)))
      left_at site there (inr past) = absurd (omega (arith, past.0, there))
