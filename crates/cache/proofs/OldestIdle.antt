-- The oldest of all is idle, and goes before each other idle connection at any host.
use Rattle.std.proofs.Common.{◌≡◌, ◌≢◌, ℕ, ◌<◌, ◌≤◌, Bool, true, false, List, [], length, Option, Some, None, refl, sym, ap, subst, inl, inr, ◌∙◌, arith}
use Rattle.std.specs.Option.{option_map, option_map_or}
use mathlib.Core.Bool.{false≢true}
use Rattle.std.proofs.lemmas.Bool.Decides.{nat_tests, eqb_tells}
use Rattle.std.proofs.Math.ListN.{get_or-eq_default}
use Rattle.conn_log.specs.declared.stamp.Stamp.{Stamp}
use Rattle.conn_log.specs.declared.entry.Entry.{Entry}
use Rattle.conn_log.specs.Connections.{is_among, idle_connections, is_idle}
use Rattle.conn_log.specs.Fit.{is_earlier, is_idle_longer, stamp_of, oldest, oldest_stamp}
use Rattle.conn_log.proofs.Firsts.{first_among}
use Rattle.conn_log.proofs.Extremes.{none_first, first_before}
use Rattle.conn_log.proofs.Order.{idle_longer_strict}
use Rattle.cache.specs.Oldest.{is_before, stamp_at, stamps_from}
use Rattle.cache.proofs.NotedStamps.{not_before_itself}
use Rattle.cache.proofs.StampOrder.{within, not_before_onward, before_tie, earliest_before, stamp_from}
use Rattle.cache.proofs.EarliestStamps.{no_earliest}
use Rattle.cache.specs.AllHosts.{AllHosts, log_at, oldest_of_all}
use Rattle.cache.specs.OldestLaws.{IsOfIdle, IsIdleBefore, OldestOfAllGoesFirst, NoOldestOfAllIfNoneIsIdle}
use Rattle.cache.proofs.OldestOfAll.{oldest_is}

-- a stamp that is earlier is of a connection idle before
idle_before : (x y : Stamp) → is_earlier x y ≡ true → IsIdleBefore x y
idle_before x y earlier = elim (eqb_tells x.since y.since) [
  | inl same ↦ inr (
    same.1,
    elim (eqb_tells x.host y.host) [
      | inl here ↦ inr (here.1, grind (arith, nat_tests, earlier, same.1, here.1))
      | inr apart ↦ inl (grind (arith, nat_tests, earlier, same.1, apart.1))
    ],
  )
  | inr other ↦ inl (grind (arith, nat_tests, earlier, other.1))
]

-- of two stamps that differ one is before the other where the other is not before it
earlier_stamp : (x y : Stamp) → is_before (Some y) (Some x) ≡ false → y ≢ x → is_earlier x y ≡ true
earlier_stamp x y later apart = by_test (is_earlier x y) refl
  where
    stamp_in : Option Stamp → Stamp
    stamp_in None = x
    stamp_in (Some s) = s

    by_test : (b : Bool) → is_earlier x y ≡ b → b ≡ true
    by_test true is = refl
    by_test false is = absurd (apart (ap stamp_in (before_tie (Some y) (Some x) later is)))

-- a host without a stamp has no oldest
no_oldest : (log : List Entry) (host : ℕ) → oldest_stamp log host ≡ None → oldest log ≡ None
no_oldest log host = of_found (oldest log)
  where
    of_found : (found : Option ℕ) → option_map (stamp_of log host) found ≡ None → found ≡ None
    of_found None none = refl
    of_found (Some c) none = absurd (cc)

-- no idle connection of a host is earlier than the host's oldest
module _ (log : List Entry) (host c : ℕ) (idle : is_idle log c ≡ true) where
  later_here : (d : ℕ) → is_idle_longer log d c ≡ true → is_earlier (stamp_of log host c) (stamp_of log host d) ≡ false
  later_here d longer = grind (arith, nat_tests, longer)

  not_before_oldest : is_before (Some (stamp_of log host c)) (oldest_stamp log host) ≡ false
  not_before_oldest = by_oldest (oldest log) refl
    where
      by_oldest : (found : Option ℕ) → oldest log ≡ found → is_before (Some (stamp_of log host c)) (option_map (stamp_of log host) found) ≡ false
      by_oldest None none = absurd (false≢true (sym (ap (is_among c) (none_first (is_idle_longer log) (idle_connections log) none)) ∙ idle))
      by_oldest (Some d) is = elim (eqb_tells d c) [
        | inl same ↦ subst (λ (n : ℕ). is_before (Some (stamp_of log host c)) (Some (stamp_of log host n)) ≡ false) (sym same.1) (not_before_itself (Some (stamp_of log host c)))
        | inr other ↦ later_here d (first_before (is_idle_longer log) (idle_longer_strict log) (idle_connections log) d is c idle other.0)
      ]

module _ (all : AllHosts) where
  -- each host's oldest stands at its place
  at_host : (host : ℕ) → host < length all.logs → stamp_at (stamps_from 0 all.logs) host ≡ oldest_stamp (log_at all host) host
  at_host host there = stamp_from 0 all.logs host there ∙ ap (oldest_stamp (log_at all host)) (omega arith)

  -- a host that is not there has no log
  no_log : (host : ℕ) → length all.logs ≤ host → log_at all host ≡ []
  no_log host past = get_or-eq_default all.logs [] past

  there_if_idle : (host c : ℕ) → is_idle (log_at all host) c ≡ true → host < length all.logs
  there_if_idle host c idle = elim (within host (length all.logs)) [
    | inl there ↦ there
    | inr past ↦ absurd (false≢true (ap (λ (log : List Entry). is_idle log c) (sym (no_log host past)) ∙ idle))
  ]

  own_stamp : (stamp : Stamp) → IsOfIdle all stamp → stamp ≡ stamp_of (log_at all stamp.host) stamp.host stamp.number
  own_stamp stamp of_idle = ap (λ (n : ℕ). record { since = n; host = stamp.host; number = stamp.number }) of_idle.since

  not_before_first : (stamp other : Stamp) → oldest_of_all all ≡ Some stamp → IsOfIdle all other → is_before (Some other) (Some stamp) ≡ false
  not_before_first stamp other first of_idle =
      let log = log_at all other.host in
      let there : other.host < length all.logs = there_if_idle other.host other.number of_idle.idle in
      let not_first : is_before (oldest_stamp log other.host) (Some stamp) ≡ false =
      ap (λ x. is_before x (Some stamp)) (sym (at_host other.host there)) ∙ ap (is_before (stamp_at (stamps_from 0 all.logs) other.host)) (sym first) ∙ earliest_before (stamps_from 0 all.logs) other.host in
      not_before_onward (Some other) (oldest_stamp log other.host) (Some stamp)
      (ap (λ x. is_before (Some x) (oldest_stamp log other.host)) (own_stamp other of_idle) ∙ not_before_oldest log other.host other.number of_idle.idle)
      not_first

  first_of_idle : (stamp : Stamp) → oldest_of_all all ≡ Some stamp → IsOfIdle all stamp
  first_of_idle stamp first =
      let log = log_at all stamp.host in
      let its_own = oldest_is all stamp first in
      let same : Some (stamp_of log stamp.host stamp.number) ≡ Some stamp = ap (option_map (stamp_of log stamp.host)) (sym its_own.first) ∙ its_own.own in
      record {
        idle = first_among (is_idle_longer log) (idle_connections log) stamp.number its_own.first;
        since = ap (λ x. option_map_or (λ (s : Stamp). s.since) x 0) (sym same);
      }

pub oldest_first : OldestOfAllGoesFirst
oldest_first all stamp first = record {
  of_idle = first_of_idle all stamp first;
  first = λ other of_idle apart. idle_before stamp other (earlier_stamp stamp other (not_before_first all stamp other first of_idle) apart);
}

pub none_first_of_all : NoOldestOfAllIfNoneIsIdle
none_first_of_all all host none = elim (within host (length all.logs)) [
  | inl there ↦
      let log = log_at all host in
      none_first (is_idle_longer log) (idle_connections log) (no_oldest log host (sym (at_host all host there) ∙ no_earliest (stamps_from 0 all.logs) none host))
  | inr past ↦ ap idle_connections (no_log all host past)
]
