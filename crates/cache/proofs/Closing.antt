-- The oldest of all is closed at the host that its stamp names.
use Rattle.std.proofs.Common.{◌≡◌, ℕ, ◌<◌, Bool, true, false, List, length, slice_set, slice_index_or, Option, Some, refl, sym, ap, subst, ◌∙◌}
use Rattle.std.proofs.lemmas.List.{length-map}
use Rattle.budget.specs.Limits.{Bounds}
use Rattle.conn_log.specs.declared.stamp.Stamp.{Stamp}
use Rattle.conn_log.specs.declared.entry.Cause.{Cause}
use Rattle.conn_log.specs.declared.entry.Event.TheVariants.{Closed}
use Rattle.conn_log.specs.declared.entry.Entry.{Entry}
use Rattle.conn_log.specs.Fit.{oldest, oldest_stamp}
use Rattle.host_state.specs.Steps.{moment_at, add}
use Rattle.host_state.specs.Calls.{makes_room_for_others}
use Rattle.host_state.specs.Effects.{Closes}
use Rattle.host_state.specs.Laws.{IsSoundAndQuiet}
use Rattle.bundle.specs.Lease.{HostShown}
use Rattle.host_state.proofs.Counts.{evict_closes}
use Rattle.bundle.proofs.TurnLogs.{of_idle_for_others}
use Rattle.cache.specs.AllHosts.{AllHosts, log_at, with_log, closed_of, without_oldest, oldest_of_all}
use Rattle.cache.specs.Pools.{PoolShown, host_in, all_hosts}
use Rattle.cache.specs.Turns.{IsOneFewer}
use Rattle.cache.proofs.OldestOfAll.{oldest_is}
use Rattle.cache.proofs.OneHost.{log_is, logs_changed, read_is}
use Rattle.cache.proofs.HostSums.{one_fewer}

-- what cannot fail is done
pub is_done : {P : Type 0} (result : Bool) → (result ≡ false → P → ⊥) → P → result ≡ true
is_done true fails it = refl
is_done false fails it = absurd (fails refl it)

module _ {S : Type 0} where
  -- the host that the stamp names has it as its oldest
  pub record IsFoundAt (hosts : List (HostShown S)) (stamp : Stamp) : Type 0 where
    pub there : stamp.host < length hosts
    pub own : oldest_stamp (host_in hosts stamp.host).log stamp.host ≡ Some stamp
    pub first : oldest (host_in hosts stamp.host).log ≡ Some stamp.number

  pub found_at : (pool : PoolShown S) (stamp : Stamp) → oldest_of_all (all_hosts pool) ≡ Some stamp → IsFoundAt pool.hosts stamp
  found_at pool stamp e =
      let it = oldest_is (all_hosts pool) stamp e in
      let log = log_is pool stamp.host in
      record {
        there = subst (λ (n : ℕ). stamp.host < n) (length-map pool.hosts (λ (h : HostShown S). h.log)) it.there;
        own = ap (λ (l : List Entry). oldest_stamp l stamp.host) (sym log) ∙ it.own;
        first = ap oldest (sym log) ∙ it.first;
      }

  -- so it has it where it was read
  pub own_stamp : (hosts : List (HostShown S)) (stamp : Stamp) (was : HostShown S) → IsFoundAt hosts stamp → was ≡ slice_index_or hosts stamp.host was → was.host ≡ stamp.host → oldest_stamp was.log was.host ≡ Some stamp
  own_stamp hosts stamp was found read place =
      ap (oldest_stamp was.log) place ∙ ap (λ (h : HostShown S). oldest_stamp h.log stamp.host) (read_is hosts stamp.host was found.there read) ∙ found.own

  -- all hosts without it
  module _ (limits : Bounds) (queue : List ℕ) (hosts : List (HostShown S)) (stamp : Stamp) (new : HostShown S) (cause : Cause) (now : ℕ) where
    abbrev before : PoolShown S
    before = record { limits = limits; hosts = hosts; queue = queue }

    abbrev after : PoolShown S
    after = record { limits = limits; hosts = slice_set hosts stamp.host new; queue = queue }

    all_changed : all_hosts after ≡ with_log stamp.host new.log (all_hosts before)
    all_changed = ap (λ (logs : List (List Entry)). made logs) (logs_changed hosts stamp.host new)
      where
        made : List (List Entry) → AllHosts
        made logs = record { logs = logs; queue = queue }

    pub all_without : oldest_of_all (all_hosts before) ≡ Some stamp → (was : HostShown S) → was ≡ host_in hosts stamp.host → new.log ≡ add (moment_at was.log now) (Closed stamp.number cause) was.log
        → all_hosts after ≡ without_oldest cause now (all_hosts before)
    all_without e was read log =
        let was_is : was.log ≡ log_at (all_hosts before) stamp.host = ap (λ (h : HostShown S). h.log) read ∙ sym (log_is before stamp.host) in
        all_changed
        ∙ ap (λ (l : List Entry). with_log stamp.host l (all_hosts before)) (log ∙ ap (λ (l : List Entry). add (moment_at l now) (Closed stamp.number cause) l) was_is)
        ∙ ap (λ (found : Option Stamp). closed_of cause now found (all_hosts before)) (sym e)

    pub fewer_without : (was : HostShown S) → IsFoundAt hosts stamp → was ≡ host_in hosts stamp.host → new.log ≡ add (moment_at was.log now) (Closed stamp.number cause) was.log
        → IsSoundAndQuiet was.settings was.log → makes_room_for_others cause ≡ true → IsOneFewer (all_hosts before) (all_hosts after)
    fewer_without was found read log settled fits =
        let was_is : was.log ≡ log_at (all_hosts before) stamp.host = ap (λ (h : HostShown S). h.log) read ∙ sym (log_is before stamp.host) in
        let first : oldest was.log ≡ Some stamp.number = ap (λ (h : HostShown S). oldest h.log) read ∙ found.first in
        let closes : Closes 1 was.settings was.log new.log = subst (Closes 1 was.settings was.log) (sym log) (evict_closes was.settings was.log stamp.number cause now settled first (of_idle_for_others cause fits)) in
        let there : stamp.host < length (all_hosts before).logs = subst (λ (n : ℕ). stamp.host < n) (sym (length-map hosts (λ (h : HostShown S). h.log))) found.there in
        subst (IsOneFewer (all_hosts before)) (sym all_changed)
        (one_fewer stamp.host new.log (all_hosts before) was.settings there (subst (λ (l : List Entry). Closes 1 was.settings l new.log) was_is closes))
