-- What becomes of all that a pool keeps where one of its hosts changes.
use Rattle.std.proofs.Common.{◌≡◌, ◌≢◌, ℕ, ◌<◌, ◌≤◌, Bool, true, false, List, [], length, map, slice_set, slice_index_or, Option, refl, sym, ap, subst, ◌∙◌, inl, inr, arith}
use Rattle.std.proofs.lemmas.Bool.Decides.{eqb_tells}
use Rattle.std.proofs.lemmas.List.{get_or-set_same, get_or-set_other, get_or_default, map-set, length-set, ext_get_or, length-map}
use Rattle.std.proofs.Math.ListN.{get_or-map}
use Rattle.budget.specs.Limits.{Bounds}
use Rattle.budget.specs.Lobby.{Queue, is_listed}
use Rattle.budget.specs.Plain.{Plain, held_at_host}
use Rattle.budget.specs.Permits.{held}
use Rattle.budget.specs.declared.permits.Held.{Held}
use Rattle.budget.specs.Accounts.{account_at, IsEnrolledAt, spent_at}
use Rattle.budget.proofs.Queues.{without_absent}
use Rattle.conn_log.specs.declared.stamp.Stamp.{Stamp}
use Rattle.conn_log.specs.declared.entry.Entry.{Entry}
use Rattle.conn_log.specs.Fit.{oldest_stamp}
use Rattle.conn_log.specs.Legal.{LimitAndFirst}
use Rattle.host_state.specs.Calls.{is_queued}
use Rattle.host_state.specs.Laws.{IsSoundAndQuiet}
use Rattle.bundle.specs.Lease.{HostShown, StaysThere}
use Rattle.host_state.specs.Counts.{held_by}
use Rattle.host_state.specs.Orders.{order_after}
use Rattle.bundle.specs.Passes.{Accounts}
use Rattle.bundle.specs.Seats.{gone}
use Rattle.cache.specs.Oldest.{is_before, stamp_at}
use Rattle.cache.specs.AllHosts.{AllHosts, terms, log_at, with_log, queue_after, marked}
use Rattle.cache.proofs.HostParts.{ChangesPart}
use Rattle.cache.specs.Pools.{PoolShown, no_host, host_in, host_at, logs_of, all_hosts, IsKeptHost, AreKept, KeepsHost, KeepsOtherHosts}

module _ {S : Type 0} where
  -- the log of a host
  pub log_is : (pool : PoolShown S) (host : ℕ) → log_at (all_hosts pool) host ≡ (host_at pool host).log
  log_is pool host = get_or-map (λ (h : HostShown S). h.log) pool.hosts host no_host

  -- a host that the pool shows is one of those inside
  pub there_inside : {shown pool : PoolShown S} (site : ℕ) → shown ≡ pool → site < length pool.hosts → site < length shown.hosts
  there_inside site is there = rw is there

  -- the host that was read is the one of that index
  pub read_is : (hosts : List (HostShown S)) (site : ℕ) (was : HostShown S) → site < length hosts → was ≡ slice_index_or hosts site was → was ≡ host_in hosts site
  read_is hosts site was there read = read ∙ get_or_default hosts site was no_host there

  -- the logs once a host has changed
  pub logs_changed : (hosts : List (HostShown S)) (site : ℕ) (new : HostShown S) → logs_of (slice_set hosts site new) ≡ slice_set (logs_of hosts) site new.log
  logs_changed hosts site new = map-set (λ (h : HostShown S). h.log) hosts site new

  pub host_changed : (hosts : List (HostShown S)) (site : ℕ) (new : HostShown S) → site < length hosts → host_in (slice_set hosts site new) site ≡ new
  host_changed hosts site new there = get_or-set_same hosts site new no_host there

  pub other_host : (hosts : List (HostShown S)) (site other : ℕ) (new : HostShown S) → other ≢ site → host_in (slice_set hosts site new) other ≡ host_in hosts other
  other_host hosts site other new apart = get_or-set_other hosts site other new no_host apart

  -- a host that is as it was keeps all
  pub keeps_from_start : (host : HostShown S) → KeepsHost host host
  keeps_from_start host = record {
    stays = record { same = record { settings = refl; host = refl; tables = refl; cut_away = refl }; booked = refl; grew = ([], refl) };
    keeps = record { leases = λ t. refl; tickets = λ t. refl };
    streams = λ c was is. refl;
  }

  pub others_keep : (limits : Bounds) (queue later : List ℕ) (hosts : List (HostShown S)) (site : ℕ) (new : HostShown S)
      → KeepsOtherHosts site (record { limits = limits; hosts = hosts; queue = queue }) (record { limits = limits; hosts = slice_set hosts site new; queue = later })
  others_keep limits queue later hosts site new other there apart = subst (λ (h : HostShown S). KeepsHost (host_in hosts other) h) (sym (other_host hosts site other new apart)) (keeps_from_start (host_in hosts other))

  -- the parts of the budget are what the hosts hold
  pub parts_changed : (hosts : List (HostShown S)) (site : ℕ) (new : HostShown S) (budget later : Plain) → site < length hosts
      → budget.hosts ≡ map (λ (h : HostShown S). held_by h.log) hosts → ChangesPart site budget later (held_by new.log)
      → later.hosts ≡ map (λ (h : HostShown S). held_by h.log) (slice_set hosts site new)
  parts_changed hosts site new budget later there parts part =
      let held_of : HostShown S → Held = λ (h : HostShown S). held_by h.log in
      let were = map held_of hosts in
      let long : length later.hosts ≡ length hosts = part.others.count ∙ ap length parts ∙ length-map hosts held_of in
      let longer : length later.hosts ≡ length (slice_set were site (held_of new)) = long ∙ sym (length-map hosts held_of) ∙ sym (length-set were site (held_of new)) in
      let each : (i : ℕ) → i < length later.hosts → slice_index_or later.hosts i (held 0 0) ≡ slice_index_or (slice_set were site (held_of new)) i (held 0 0) =
      (λ i lt. elim (eqb_tells i site) [
        | inl same ↦ ap (held_at_host later.hosts) same.1 ∙ part.own ∙ sym (get_or-set_same were site (held_of new) (held 0 0) (omega (arith, there, length-map hosts held_of))) ∙ ap (λ k. slice_index_or (slice_set were site (held_of new)) k (held 0 0)) (sym same.1)
        | inr other ↦ part.others.others i other.1 ∙ ap (λ (l : List Held). held_at_host l i) parts ∙ sym (get_or-set_other were site i (held_of new) (held 0 0) other.1)
      ]) in
      ext_get_or (held 0 0) later.hosts (slice_set were site (held_of new)) longer each ∙ sym (map-set held_of hosts site new)

  -- what a call tells of the host that it changes, and of what is kept beside it
  pub record ChangesHost (site : ℕ) (was new : HostShown S) (budget later : Plain) (lobby after : Queue) (pass told : Accounts) (noted lowered : List (Option Stamp)) : Type 0 where
    pub same : StaysThere was new
    pub settled : IsSoundAndQuiet new.settings new.log
    pub part : ChangesPart site budget later (held_by new.log)
    pub lobby_hosts : after.hosts ≡ lobby.hosts
    pub listed : is_listed after.order site ≡ is_queued new.settings new.log
    pub others_listed : (other : ℕ) → other ≢ site → is_listed after.order other ≡ is_listed lobby.order other
    pub enrolled : IsEnrolledAt told was.host was.tables.starts
    pub spent : spent_at told was.host ≡ gone new.log
    pub accounts : length told ≡ length pass
    pub other_accounts : (other : ℕ) → other ≢ site → account_at told other ≡ account_at pass other
    pub stamps : length lowered ≡ length noted
    pub other_stamps : (other : ℕ) → other ≢ site → stamp_at lowered other ≡ stamp_at noted other
    pub not_later : is_before (oldest_stamp new.log site) (stamp_at lowered site) ≡ false

  -- all is kept
  module _ (site : ℕ) (hosts : List (HostShown S)) (was new : HostShown S) (budget later : Plain) (lobby after : Queue) (pass told : Accounts) (noted lowered : List (Option Stamp)) where
    pub kept_changed : AreKept hosts budget lobby pass noted → site < length hosts → was ≡ slice_index_or hosts site was
        → ChangesHost site was new budget later lobby after pass told noted lowered
        → AreKept (slice_set hosts site new) later after told lowered
    kept_changed kept there read change = record {
      few = subst (λ (n : ℕ). n ≤ 1024) (sym long) kept.few;
      parts = parts_changed hosts site new budget later there kept.parts change.part;
      lobby_hosts = change.lobby_hosts ∙ kept.lobby_hosts ∙ sym long;
      accounts = change.accounts ∙ kept.accounts ∙ sym long;
      stamps = change.stamps ∙ kept.stamps ∙ sym long;
      each = λ index lt. elim (eqb_tells index site) [
        | inl same ↦ subst (λ (i : ℕ). KeptAt i) (sym same.1) here
        | inr other ↦ at_other index (subst (λ (n : ℕ). index < n) long lt) other.1
      ];
    }
      where
        long : length (slice_set hosts site new) ≡ length hosts
        long = length-set hosts site new

        KeptAt : ℕ → Type 0
        KeptAt index = IsKeptHost later.limits index (host_in (slice_set hosts site new) index) after.order told (stamp_at lowered index)

        were : IsKeptHost budget.limits site was lobby.order pass (stamp_at noted site)
        were = subst (λ (h : HostShown S). IsKeptHost budget.limits site h lobby.order pass (stamp_at noted site)) (sym (read_is hosts site was there read)) (kept.each site there)

        now_is : IsKeptHost later.limits site new after.order told (stamp_at lowered site)
        now_is = record {
          place = change.same.host ∙ were.place;
          settings = change.same.settings ∙ were.settings ∙ ap terms (sym change.part.others.limits);
          settled = change.settled;
          listed = change.listed;
          enrolled = rw change.same.host (rw change.same.tables change.enrolled);
          spent = ap (spent_at told) change.same.host ∙ change.spent;
          not_later = change.not_later;
        }

        here : KeptAt site
        here = subst (λ (h : HostShown S). IsKeptHost later.limits site h after.order told (stamp_at lowered site)) (sym (host_changed hosts site new there)) now_is

        at_other : (index : ℕ) → index < length hosts → index ≢ site → KeptAt index
        at_other index lt apart =
            let host = host_in hosts index in
            let it = kept.each index lt in
            let account = change.other_accounts index apart in
            let still : IsKeptHost later.limits index host after.order told (stamp_at lowered index) = record {
              place = it.place;
              settings = it.settings ∙ ap terms (sym change.part.others.limits);
              settled = it.settled;
              listed = change.others_listed index apart ∙ it.listed;
              enrolled = still_enrolled index host apart it.place it.enrolled;
              spent = still_spent index host apart it.place ∙ it.spent;
              not_later = ap (is_before (oldest_stamp host.log index)) (change.other_stamps index apart) ∙ it.not_later;
            } in
            subst (λ (h : HostShown S). IsKeptHost later.limits index h after.order told (stamp_at lowered index)) (sym (other_host hosts site index new apart)) still
          where
            still_enrolled : (index : ℕ) (host : HostShown S) → index ≢ site → host.host ≡ index → IsEnrolledAt pass host.host host.tables.starts → IsEnrolledAt told host.host host.tables.starts
            still_enrolled index host apart place seat =
                let same = change.other_accounts host.host (λ e. apart (sym place ∙ e)) in
                (seat.0, ap (λ a. a.seat) same ∙ seat.1)

            still_spent : (index : ℕ) (host : HostShown S) → index ≢ site → host.host ≡ index → spent_at told host.host ≡ spent_at pass host.host
            still_spent index host apart place =
                let same = change.other_accounts host.host (λ e. apart (sym place ∙ e)) in
                ap (λ a. Rattle.budget.specs.Accounts.spent_by a.seat) same

-- the queue has the host exactly where it is queued
pub queue_marked : (host : ℕ) (was is : Bool) (order : List ℕ) → is_listed order host ≡ was → order_after host was is order ≡ queue_after host is order
queue_marked host false false order listed = sym (without_absent order host listed)
queue_marked host false true order listed = rw listed refl
queue_marked host true false order listed = refl
queue_marked host true true order listed = rw listed refl

module _ {S : Type 0} where
  -- all hosts once one of them has that log and is marked
  pub all_marked : (limits : Bounds) (hosts : List (HostShown S)) (site : ℕ) (was new : HostShown S) (order after : List ℕ) → site < length hosts
      → was.host ≡ site → new.settings ≡ terms limits → is_listed order site ≡ is_queued was.settings was.log
      → after ≡ order_after was.host (is_queued was.settings was.log) (is_queued new.settings new.log) order
      → all_hosts (record { limits = limits; hosts = slice_set hosts site new; queue = after }) ≡ marked limits site (with_log site new.log (all_hosts (record { limits = limits; hosts = hosts; queue = order })))
  all_marked limits hosts site was new order after there place settings listed marked_is =
      let logs = logs_changed hosts site new in
      let log_there : log_at (with_log site new.log (all_hosts (record { limits = limits; hosts = hosts; queue = order }))) site ≡ new.log =
      get_or-set_same (logs_of hosts) site new.log [] (omega (arith, there, length-map hosts (λ (h : HostShown S). h.log))) in
      let is : is_queued new.settings new.log ≡ is_queued (terms limits) (log_at (with_log site new.log (all_hosts (record { limits = limits; hosts = hosts; queue = order }))) site) =
      ap (λ s. is_queued s new.log) settings ∙ ap (is_queued (terms limits)) (sym log_there) in
      let queue : after ≡ queue_after site (is_queued (terms limits) (log_at (with_log site new.log (all_hosts (record { limits = limits; hosts = hosts; queue = order }))) site)) order =
      marked_is ∙ ap (λ h. order_after h (is_queued was.settings was.log) (is_queued new.settings new.log) order) place
      ∙ queue_marked site (is_queued was.settings was.log) (is_queued new.settings new.log) order listed ∙ ap (λ b. queue_after site b order) is in
      ap (λ (l : List (List Entry)). both l after) logs ∙ ap (both (slice_set (logs_of hosts) site new.log)) queue
    where
      both : List (List Entry) → List ℕ → AllHosts
      both logs queue = record { logs = logs; queue = queue }

  -- the log of the host that was read
  pub log_was : (hosts : List (HostShown S)) (site : ℕ) (was : HostShown S) → site < length hosts → was ≡ slice_index_or hosts site was → was.log ≡ slice_index_or (logs_of hosts) site []
  log_was hosts site was there read = ap (λ (h : HostShown S). h.log) (read_is hosts site was there read) ∙ sym (get_or-map (λ (h : HostShown S). h.log) hosts site no_host)

  -- a step of the host's log is one of all hosts, which read the log by its index
  pub stepped : (step : LimitAndFirst → List Entry → List Entry) (limits : Bounds) (hosts : List (HostShown S)) (queue : List ℕ) (site : ℕ) (was : HostShown S) (log : List Entry) → site < length hosts → was ≡ slice_index_or hosts site was
      → was.settings ≡ terms limits → log ≡ step was.settings was.log
      → with_log site log (record { logs = logs_of hosts; queue = queue }) ≡ with_log site (step (terms limits) (log_at (record { logs = logs_of hosts; queue = queue }) site)) (record { logs = logs_of hosts; queue = queue })
  stepped step limits hosts queue site was log there read settings is =
      ap (λ l. with_log site l (record { logs = logs_of hosts; queue = queue })) (is ∙ ap (λ s. step s was.log) settings ∙ ap (step (terms limits)) (log_was hosts site was there read))
