-- What becomes of all that a pool keeps where the log of the one host that changes stays as it was.
use Rattle.std.proofs.Common.{◌≡◌, ℕ, ◌<◌, Bool, true, false, List, [], length, map, slice_set, slice_index_or, Option, Result, Ok, Err, refl, sym, ap, subst, ◌∙◌}
use Rattle.std.specs.Prelude.{OnOk, OnErr}
use Rattle.std.proofs.Math.Seq.{map-set_same}
use Rattle.std.proofs.lemmas.List.{get_or_default, set-get_or, length-map}
use Rattle.std.proofs.Math.ListN.{get_or-map}
use Rattle.budget.specs.Limits.{Bounds}
use Rattle.budget.specs.Lobby.{Queue}
use Rattle.budget.specs.Plain.{Plain, held_at_host}
use Rattle.budget.specs.Permits.{held}
use Rattle.budget.specs.declared.permits.Held.{Held}
use Rattle.budget.specs.Accounts.{KeepsSeats}
use Rattle.conn_log.specs.declared.stamp.Stamp.{Stamp}
use Rattle.conn_log.specs.declared.entry.Entry.{Entry}
use Rattle.conn_log.specs.Fit.{oldest_stamp}
use Rattle.conn_log.specs.Legal.{LimitAndFirst}
use Rattle.bundle.specs.declared.did.Did.{Did}
use Rattle.host_state.specs.Calls.{Start, is_queued}
use Rattle.host_state.specs.Laws.{IsSoundAndQuiet}
use Rattle.bundle.specs.Lease.{HostShown, StaysThere}
use Rattle.host_state.specs.Counts.{held_by}
use Rattle.host_state.specs.Orders.{IsMarked, order_after}
use Rattle.bundle.specs.Passes.{Accounts, tells, withdraws, AccountsForStarts}
use Rattle.cache.specs.AllHosts.{AllHosts}
use Rattle.cache.specs.Oldest.{is_before, stamp_at}
use Rattle.cache.specs.Pools.{PoolShown, no_host, logs_of, all_hosts, AreKept}
use Rattle.cache.proofs.HostParts.{ChangesPart}
use Rattle.cache.proofs.OneHost.{read_is}
use Rattle.cache.proofs.Calling.{TellsOne, NotesOne, marks_nothing, kept_called, was_kept, told_so, told_withdrawing}

module _ {S : Type 0} (site : ℕ) (hosts : List (HostShown S)) (was new : HostShown S) (budget : Plain) (lobby : Queue) (pass told : Accounts) (noted : List (Option Stamp)) where
  -- the budget, the queue and the stamps that are noted need not change
  pub kept_same_log : AreKept hosts budget lobby pass noted → site < length hosts → was ≡ slice_index_or hosts site was
      → StaysThere was new → new.log ≡ was.log
      → TellsOne was.host pass told → KeepsSeats pass told → AccountsForStarts was new pass told
      → AreKept (slice_set hosts site new) budget lobby told noted
  kept_same_log kept there read same log one seats account =
      let it = was_kept site hosts was new budget budget lobby lobby pass told noted noted kept there read in
      let settled : IsSoundAndQuiet new.settings new.log =
      subst (λ (l : List Entry). IsSoundAndQuiet new.settings l) (sym log) (subst (λ (s : LimitAndFirst). IsSoundAndQuiet s was.log) (sym same.settings) it.settled) in
      let part : ChangesPart site budget budget (held_by new.log) = record { others = record { limits = refl; count = refl; others = λ other apart. refl }; own = own } in
      let mark : is_queued new.settings new.log ≡ is_queued was.settings was.log = ap (λ (s : LimitAndFirst). is_queued s new.log) same.settings ∙ ap (is_queued was.settings) log in
      let marks = marks_nothing site (is_queued was.settings was.log) (is_queued new.settings new.log) lobby it.listed mark in
      let notes : NotesOne site noted noted (oldest_stamp new.log site) = record {
        stamps = refl;
        other_stamps = λ other apart. refl;
        not_later = ap (λ (l : List Entry). is_before (oldest_stamp l site) (stamp_at noted site)) log ∙ it.not_later;
      } in
      kept_called site hosts was new budget budget lobby lobby pass told noted noted kept there read same settled part marks one seats account notes
    where
      own : held_at_host budget.hosts site ≡ held_by new.log
      own =
          ap (λ (l : List Held). held_at_host l site) kept.parts
          ∙ get_or_default (map (λ (h : HostShown S). held_by h.log) hosts) site (held 0 0) (held_by []) (subst (λ (n : ℕ). site < n) (sym (length-map hosts (λ (h : HostShown S). held_by h.log))) there)
          ∙ get_or-map (λ (h : HostShown S). held_by h.log) hosts site no_host
          ∙ ap (λ (h : HostShown S). held_by h.log) (sym (read_is hosts site was there read))
          ∙ ap held_by (sym log)

module _ {S : Type 0} (site : ℕ) (hosts : List (HostShown S)) (was new : HostShown S) where
  -- nothing more is logged at any host
  pub logs_same : site < length hosts → was ≡ slice_index_or hosts site was → new.log ≡ was.log → logs_of (slice_set hosts site new) ≡ logs_of hosts
  logs_same there read log = map-set_same (λ (h : HostShown S). h.log) hosts site new no_host (log ∙ ap (λ (h : HostShown S). h.log) (read_is hosts site was there read))

  pub all_same : (limits : Bounds) (queue : List ℕ) → site < length hosts → was ≡ slice_index_or hosts site was → new.log ≡ was.log
      → all_hosts (record { limits = limits; hosts = slice_set hosts site new; queue = queue }) ≡ all_hosts (record { limits = limits; hosts = hosts; queue = queue })
  all_same limits queue there read log = ap (λ (logs : List (List Entry)). with_queue logs) (logs_same there read log)
    where
      with_queue : List (List Entry) → AllHosts
      with_queue logs = record { logs = logs; queue = queue }

  -- a host that is as it was, written back
  pub hosts_same : was ≡ slice_index_or hosts site was → new ≡ was → slice_set hosts site new ≡ hosts
  hosts_same read same = ap (slice_set hosts site) (same ∙ read) ∙ set-get_or hosts site was

-- a mark that stays leaves the queue
pub order_same : (host : ℕ) (queued : Bool) (order : List ℕ) → order_after host queued queued order ≡ order
order_same host true order = refl
order_same host false order = refl

pub queue_same : {S : Type 0} (was new : HostShown S) (lobby after : Queue) → new ≡ was → IsMarked was.host (is_queued was.settings was.log) (is_queued new.settings new.log) lobby after → after.order ≡ lobby.order
queue_same {S} was new lobby after same marked =
    marked.order ∙ ap (λ (h : HostShown S). order_after was.host (is_queued was.settings was.log) (is_queued h.settings h.log) lobby.order) same
    ∙ order_same was.host (is_queued was.settings was.log) lobby.order

-- a pool in which a host is as it was is as it was
abbrev pub shown_as : {S : Type 0} → Bounds → List (HostShown S) → List ℕ → PoolShown S
shown_as limits hosts queue = record { limits = limits; hosts = hosts; queue = queue }

pub pool_same : {S : Type 0} (limits later : Bounds) (site : ℕ) (hosts : List (HostShown S)) (was new : HostShown S) (lobby after : Queue)
    → later ≡ limits → was ≡ slice_index_or hosts site was → new ≡ was → IsMarked was.host (is_queued was.settings was.log) (is_queued new.settings new.log) lobby after
    → shown_as later (slice_set hosts site new) after.order ≡ shown_as limits hosts lobby.order
pool_same {S} limits later site hosts was new lobby after bounds read same marked =
    ap (λ (b : Bounds). shown_as b (slice_set hosts site new) after.order) bounds
    ∙ ap (λ (l : List (HostShown S)). shown_as limits l after.order) (hosts_same site hosts was new read same)
    ∙ ap (λ (q : List ℕ). shown_as limits hosts q) (queue_same was new lobby after same marked)

-- a withdrawal tells of one host, whether the ticket is taken back or is a stranger
pub told_either : {A E : Type 0} (r : Result A E) (host moment transfer : ℕ) (granted : Option Start) (did : Option Did) (pass told : Accounts)
    → OnOk r (told ≡ withdraws host moment transfer granted pass) → OnErr r (told ≡ tells host did pass) → TellsOne host pass told
told_either (Ok a) host moment transfer granted did pass told ok err = told_withdrawing host moment transfer granted pass told ok
told_either (Err e) host moment transfer granted did pass told ok err = told_so host did pass told err
