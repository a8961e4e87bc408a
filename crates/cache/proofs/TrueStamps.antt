-- The stamps noted for the hosts of a pool, and the true ones of their oldest idle connections.
use Rattle.std.proofs.Common.{◌≡◌, ◌≢◌, ◌⊎◌, ℕ, zero, suc, ◌+◌, ◌<◌, true, false, List, [], ◌∷◌, length, map, slice_index_or, slice_set, Option, Some, None, refl, sym, ap, subst, inl, inr, ◌∙◌, arith}
use Rattle.std.specs.Option.{IfSome}
use Rattle.std.specs.Prelude.{◌==◌}
use Rattle.std.proofs.lemmas.Bool.Decides.{eqb_tells}
use Rattle.std.proofs.lemmas.List.{get_or_default, get_or-set_same, get_or-set_other, length-map, length-set}
use Rattle.std.proofs.lemmas.List.Sums.{sum_by-cons}
use Rattle.std.proofs.Math.ListN.{get_or-map}
use Rattle.budget.specs.declared.permits.Held.{Held}
use Rattle.budget.specs.Lobby.{Queue}
use Rattle.budget.specs.Plain.{Plain, kept_in}
use Rattle.conn_log.specs.declared.entry.Entry.{Entry}
use Rattle.conn_log.specs.declared.stamp.Stamp.{Stamp}
use Rattle.conn_log.specs.Connections.{idle_connections}
use Rattle.conn_log.specs.Fit.{is_idle_longer, first_by, oldest, oldest_stamp}
use Rattle.bundle.specs.Lease.{HostShown}
use Rattle.host_state.specs.Counts.{held_by}
use Rattle.bundle.specs.Passes.{Accounts}
use Rattle.cache.specs.Oldest.{is_before, earliest, stamp_at, stamps_from}
use Rattle.cache.specs.Pools.{PoolShown, no_host, host_in, logs_of, AreKept}
use Rattle.cache.proofs.NotedStamps.{not_before_itself}
use Rattle.cache.proofs.StampOrder.{earliest_noted, none_noted, there_at, before_true, stale, fewer_stale, length_stamps, stamp_from, own_host, none_oldest}

-- what the pool shows
abbrev pub shown_as : {S : Type 0} → List (HostShown S) → Plain → Queue → PoolShown S
shown_as hosts budget lobby = record { limits = budget.limits; hosts = hosts; queue = lobby.order }

abbrev pub true_stamps : {S : Type 0} → List (HostShown S) → List (Option Stamp)
true_stamps hosts = stamps_from 0 (logs_of hosts)

-- where nothing is kept no host has an oldest
none_idle : {S : Type 0} (hosts : List (HostShown S)) → kept_in (map (λ (h : HostShown S). held_by h.log) hosts) ≡ 0 → (place : ℕ) → oldest (slice_index_or (logs_of hosts) place []) ≡ None
none_idle {S} [] none place = refl
none_idle {S} (host ∷ hosts) none zero =
    let sum : length (idle_connections host.log) + kept_in (map (λ (h : HostShown S). held_by h.log) hosts) ≡ 0 = sym (sum_by-cons (λ (h : Held). h.kept) (held_by host.log) (map (λ (h : HostShown S). held_by h.log) hosts)) ∙ none in
    no_first (idle_connections host.log) (omega (arith, sum))
  where
    no_first : (numbers : List ℕ) → length numbers ≡ 0 → first_by (is_idle_longer host.log) numbers ≡ None
    no_first [] empty = refl
    no_first (c ∷ numbers) empty = absurd (omega arith)
none_idle {S} (host ∷ hosts) none (suc place) =
    let sum : length (idle_connections host.log) + kept_in (map (λ (h : HostShown S). held_by h.log) hosts) ≡ 0 = sym (sum_by-cons (λ (h : Held). h.kept) (held_by host.log) (map (λ (h : HostShown S). held_by h.log) hosts)) ∙ none in
    none_idle hosts (omega (arith, sum)) place

pub none_kept : {S : Type 0} (hosts : List (HostShown S)) (budget : Plain) (kept : ℕ) → budget.hosts ≡ map (λ (h : HostShown S). held_by h.log) hosts → kept ≡ kept_in budget.hosts → kept ≡ 0 → earliest (true_stamps hosts) ≡ None
none_kept hosts budget kept parts is none = none_oldest 0 (logs_of hosts) (λ place there. none_idle hosts (sym (ap kept_in parts) ∙ sym is ∙ none) place)

module _ {S : Type 0} (hosts : List (HostShown S)) (budget : Plain) (lobby : Queue) (pass : Accounts) (noted : List (Option Stamp)) (kept : AreKept hosts budget lobby pass noted) where
  count : length (true_stamps hosts) ≡ length hosts
  count = length_stamps 0 (logs_of hosts) ∙ length-map hosts (λ (h : HostShown S). h.log)

  true_at : (host : ℕ) → host < length hosts → stamp_at (true_stamps hosts) host ≡ oldest_stamp (host_in hosts host).log host
  true_at host there =
      stamp_from 0 (logs_of hosts) host (omega (arith, there, length-map hosts (λ (h : HostShown S). h.log)))
      ∙ ap (λ (log : List Entry). oldest_stamp log (0 + host)) (get_or-map (λ (h : HostShown S). h.log) hosts host no_host)
      ∙ ap (oldest_stamp (host_in hosts host).log) (omega arith)

  not_later : (host : ℕ) → host < length (true_stamps hosts) → is_before (stamp_at (true_stamps hosts) host) (stamp_at noted host) ≡ false
  not_later host there =
      let here : host < length hosts = omega (arith, there, count) in
      ap (λ x. is_before x (stamp_at noted host)) (true_at host here) ∙ (kept.each host here).not_later

  -- the stamp that a host's bundle tells is the true one
  pub told_true : (host : ℕ) → host < length hosts → (was : HostShown S) → was ≡ slice_index_or hosts host was → (stamp : Option Stamp) → stamp ≡ oldest_stamp was.log was.host → stamp ≡ stamp_at (true_stamps hosts) host
  told_true host there was read stamp told =
      let here : was ≡ host_in hosts host = read ∙ get_or_default hosts host was no_host there in
      told ∙ ap (λ (h : HostShown S). oldest_stamp h.log h.host) here ∙ ap (oldest_stamp (host_in hosts host).log) (kept.each host there).place ∙ sym (true_at host there)

  pub noted_there : (stamp : Stamp) → stamp_at noted stamp.host ≡ Some stamp → stamp.host < length hosts
  noted_there stamp own = omega (arith, there_at noted stamp.host stamp own, kept.stamps)

  pub own_stamp : (host : ℕ) → host < length hosts → (stamp : Option Stamp) → stamp ≡ stamp_at (true_stamps hosts) host → IfSome stamp (λ (s : Stamp). s.host ≡ host)
  own_stamp host there stamp is = subst (λ (x : Option Stamp). IfSome x (λ (s : Stamp). s.host ≡ host)) (sym (is ∙ true_at host there)) (own_host (host_in hosts host).log host)

  -- the earliest noted is the earliest of all where it is true
  pub found : (first : Option Stamp) (stamp : Stamp) → first ≡ Some stamp → first ≡ earliest noted → (told : Option Stamp) → told ≡ stamp_at (true_stamps hosts) stamp.host → told ≡ Some stamp → told ≡ earliest (true_stamps hosts)
  found first stamp some is told truly same =
      same ∙ sym (earliest_noted noted (true_stamps hosts) (kept.stamps ∙ sym count) not_later stamp (sym is ∙ some) (sym truly ∙ same))

  pub found_none : (first : Option Stamp) → first ≡ None → first ≡ earliest noted → None ≡ earliest (true_stamps hosts)
  found_none first none is = sym (none_noted noted (true_stamps hosts) (kept.stamps ∙ sym count) not_later (sym is ∙ none))

  module _ (host : ℕ) (there : host < length hosts) (stamp : Option Stamp) (is : stamp ≡ stamp_at (true_stamps hosts) host) (after : List (Option Stamp)) (set : after ≡ slice_set noted host stamp) where
    -- one that is not true gets true
    pub fewer_left : (first : Stamp) → stamp_at noted host ≡ Some first → stamp ≢ Some first → stale after (true_stamps hosts) < stale noted (true_stamps hosts)
    fewer_left first here apart =
        let within : host < length (true_stamps hosts) = omega (arith, there, count) in
        let before = before_true (stamp_at noted host) (stamp_at (true_stamps hosts) host) (not_later host within) (λ e. apart (is ∙ e ∙ here)) in
        let same : after ≡ slice_set noted host (stamp_at (true_stamps hosts) host) = set ∙ ap (λ (x : Option Stamp). slice_set noted host x) is in
        subst (λ (stamps : List (Option Stamp)). stale stamps (true_stamps hosts) < stale noted (true_stamps hosts)) (sym same) (fewer_stale noted (true_stamps hosts) host (kept.stamps ∙ sym count) within before)

    -- and all is kept
    pub kept_noting : AreKept hosts budget lobby pass after
    kept_noting = subst (λ (stamps : List (Option Stamp)). AreKept hosts budget lobby pass stamps) (sym set) (record {
      few = kept.few;
      parts = kept.parts;
      lobby_hosts = kept.lobby_hosts;
      accounts = kept.accounts;
      stamps = length-set noted host stamp ∙ kept.stamps;
      each = λ index lt. let it = kept.each index lt in record {
        place = it.place;
        settings = it.settings;
        settled = it.settled;
        listed = it.listed;
        enrolled = it.enrolled;
        spent = it.spent;
        not_later = at_index index lt (eqb_tells index host);
      };
    })
      where
        at_index : (index : ℕ) → index < length hosts → (((index == host) ≡ true) × (index ≡ host)) ⊎ (((index == host) ≡ false) × (index ≢ host)) → is_before (oldest_stamp (host_in hosts index).log index) (stamp_at (slice_set noted host stamp) index) ≡ false
        at_index index lt (inl same) =
            let now : stamp_at (slice_set noted host stamp) index ≡ stamp = ap (stamp_at (slice_set noted host stamp)) same.1 ∙ get_or-set_same noted host stamp None (omega (arith, there, kept.stamps)) in
            let it : oldest_stamp (host_in hosts index).log index ≡ stamp = sym (true_at index lt) ∙ ap (stamp_at (true_stamps hosts)) same.1 ∙ sym is in
            ap (is_before (oldest_stamp (host_in hosts index).log index)) now ∙ ap (λ x. is_before x stamp) it ∙ not_before_itself stamp
        at_index index lt (inr other) = ap (is_before (oldest_stamp (host_in hosts index).log index)) (get_or-set_other noted host index stamp None other.1) ∙ (kept.each index lt).not_later
