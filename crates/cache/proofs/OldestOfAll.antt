-- The oldest of all is its own host's oldest, and there is one where anything is idle.
use Rattle.std.proofs.Common.{◌≡◌, ℕ, suc, ◌+◌, ◌<◌, Bool, true, false, List, [], ◌∷◌, length, slice_index_or, Option, Some, None, is_some, refl, sym, ap, subst, ◌∙◌, arith}
use Rattle.std.specs.Prelude.{nat_lt, if◌then◌else◌}
use Rattle.std.specs.Option.{option_map, option_map_or}
use Rattle.std.specs.List.{sum_by}
use Rattle.std.proofs.lemmas.Bool.Decides.{nat_tests}
use Rattle.std.proofs.lemmas.List.Sums.{sum_by-cons, get_or-le-sum_by}
use Rattle.conn_log.specs.declared.stamp.Stamp.{Stamp}
use Rattle.conn_log.specs.declared.entry.Entry.{Entry}
use Rattle.conn_log.specs.Connections.{idle_connections}
use Rattle.conn_log.specs.Fit.{first_by, is_earlier, is_idle_longer, oldest, oldest_stamp, stamp_of}
use Rattle.host_state.specs.Effects.{idle_len}
use Rattle.cache.specs.Oldest.{earlier_of, earliest, stamps_from}
use Rattle.cache.specs.AllHosts.{AllHosts, log_at, kept, oldest_of_all}

-- a host without an oldest has nothing idle
none_first : (goes_before : ℕ → ℕ → Bool) (numbers : List ℕ) → first_by goes_before numbers ≡ None → length numbers ≡ 0
none_first goes_before [] e = refl
none_first goes_before (c ∷ numbers) e = absurd (cc)

some_first : (goes_before : ℕ → ℕ → Bool) (numbers : List ℕ) (c : ℕ) → first_by goes_before numbers ≡ Some c → 0 < length numbers
some_first goes_before [] c e = absurd (cc)
some_first goes_before (d ∷ numbers) c e = omega arith

pub none_idle_at : (log : List Entry) (host : ℕ) → oldest_stamp log host ≡ None → idle_len log ≡ 0
none_idle_at log host e = by_first (oldest log) refl e
  where
    by_first : (first : Option ℕ) → oldest log ≡ first → option_map (stamp_of log host) first ≡ None → idle_len log ≡ 0
    by_first None is none = none_first (is_idle_longer log) (idle_connections log) is
    by_first (Some c) is none = absurd (cc)

pub none_oldest : (log : List Entry) (host : ℕ) → idle_connections log ≡ [] → oldest_stamp log host ≡ None
none_oldest log host e = ap (λ (numbers : List ℕ). option_map (stamp_of log host) (first_by (is_idle_longer log) numbers)) e

-- what its stamp tells
pub record IsOldestAt (log : List Entry) (host : ℕ) (stamp : Stamp) : Type 0 where
  pub first : oldest log ≡ Some stamp.number
  pub host_is : stamp.host ≡ host
  pub some_idle : 0 < idle_len log

pub stamped : (log : List Entry) (host : ℕ) (stamp : Stamp) → oldest_stamp log host ≡ Some stamp → IsOldestAt log host stamp
stamped log host stamp e = by_first (oldest log) refl e
  where
    by_first : (first : Option ℕ) → oldest log ≡ first → option_map (stamp_of log host) first ≡ Some stamp → IsOldestAt log host stamp
    by_first None is some = absurd (cc)
    by_first (Some c) is some = record {
      first = is ∙ ap (λ (s : Option Stamp). option_map (λ (x : Stamp). x.number) s) some;
      host_is = sym (ap (λ (s : Option Stamp). option_map_or (λ (x : Stamp). x.host) s host) some);
      some_idle = some_first (is_idle_longer log) (idle_connections log) c is;
    }

-- the earliest stamp is that of a host
pub record IsOneOf (from : ℕ) (logs : List (List Entry)) (stamp : Stamp) : Type 0 where
  pub place : ℕ
  pub there : place < length logs
  pub host_is : stamp.host ≡ from + place
  pub own : oldest_stamp (slice_index_or logs place []) stamp.host ≡ Some stamp

here_first : (from : ℕ) (log : List Entry) (logs : List (List Entry)) (stamp : Stamp) → oldest_stamp log from ≡ Some stamp → IsOneOf from (log ∷ logs) stamp
here_first from log logs stamp e =
    let it = stamped log from stamp e in
    record { place = 0; there = omega arith; host_is = omega (arith, it.host_is); own = ap (oldest_stamp log) it.host_is ∙ e }

later_one : (from : ℕ) (log : List Entry) (logs : List (List Entry)) (stamp : Stamp) → IsOneOf (suc from) logs stamp → IsOneOf from (log ∷ logs) stamp
later_one from log logs stamp it = record { place = suc it.place; there = omega (arith, it.there); host_is = omega (arith, it.host_is); own = it.own }

pub earliest_is : (from : ℕ) (logs : List (List Entry)) (stamp : Stamp) → earliest (stamps_from from logs) ≡ Some stamp → IsOneOf from logs stamp
earliest_is from [] stamp e = absurd (cc)
earliest_is from (log ∷ logs) stamp e = by_both (earliest_is (suc from) logs stamp) (oldest_stamp log from) refl (earliest (stamps_from (suc from) logs)) refl e
  where
    by_both : (earliest (stamps_from (suc from) logs) ≡ Some stamp → IsOneOf (suc from) logs stamp) → (own : Option Stamp) → oldest_stamp log from ≡ own → (rest : Option Stamp) → earliest (stamps_from (suc from) logs) ≡ rest → earlier_of own rest ≡ Some stamp → IsOneOf from (log ∷ logs) stamp
    by_both later None is rest rest_is some = later_one from log logs stamp (later (rest_is ∙ some))
    by_both later (Some x) is None rest_is some = here_first from log logs stamp (is ∙ some)
    by_both later (Some x) is (Some y) rest_is some = by_order (is_earlier y x) some
      where
        by_order : (sooner : Bool) → (if sooner then Some y else Some x) ≡ Some stamp → IsOneOf from (log ∷ logs) stamp
        by_order true it = later_one from log logs stamp (later (rest_is ∙ it))
        by_order false it = here_first from log logs stamp (is ∙ it)

-- where there is none nothing is idle
earliest_none : (from : ℕ) (logs : List (List Entry)) → earliest (stamps_from from logs) ≡ None → sum_by idle_len logs ≡ 0
earliest_none from [] e = refl
earliest_none from (log ∷ logs) e = by_both (earliest_none (suc from) logs) (oldest_stamp log from) refl (earliest (stamps_from (suc from) logs)) refl e
  where
    by_both : (earliest (stamps_from (suc from) logs) ≡ None → sum_by idle_len logs ≡ 0) → (own : Option Stamp) → oldest_stamp log from ≡ own → (rest : Option Stamp) → earliest (stamps_from (suc from) logs) ≡ rest → earlier_of own rest ≡ None → sum_by idle_len (log ∷ logs) ≡ 0
    by_both later None is rest rest_is none = omega (arith, sum_by-cons idle_len log logs, none_idle_at log from is, later (rest_is ∙ none))
    by_both later (Some x) is None rest_is none = absurd (cc)
    by_both later (Some x) is (Some y) rest_is none = by_order (is_earlier y x) none
      where
        by_order : (sooner : Bool) → (if sooner then Some y else Some x) ≡ None → sum_by idle_len (log ∷ logs) ≡ 0
        by_order true it = absurd (cc)
        by_order false it = absurd (cc)

module _ (all : AllHosts) where
  pub record IsOldestOfAll (stamp : Stamp) : Type 0 where
    pub there : stamp.host < length all.logs
    pub own : oldest_stamp (log_at all stamp.host) stamp.host ≡ Some stamp
    pub first : oldest (log_at all stamp.host) ≡ Some stamp.number

  pub oldest_is : (stamp : Stamp) → oldest_of_all all ≡ Some stamp → IsOldestOfAll stamp
  oldest_is stamp e =
      let it = earliest_is 0 all.logs stamp e in
      let place : it.place ≡ stamp.host = omega (arith, it.host_is) in
      let own : oldest_stamp (log_at all stamp.host) stamp.host ≡ Some stamp = subst (λ (p : ℕ). oldest_stamp (slice_index_or all.logs p []) stamp.host ≡ Some stamp) place it.own in
      record {
        there = subst (λ (p : ℕ). p < length all.logs) place it.there;
        own = own;
        first = (stamped (log_at all stamp.host) stamp.host stamp own).first;
      }

  -- there is an oldest exactly where anything is idle
  pub oldest_if_kept : is_some (oldest_of_all all) ≡ nat_lt 0 (kept all)
  oldest_if_kept = by_stamp (oldest_of_all all) refl
    where
      positive : (n : ℕ) → 0 < n → true ≡ nat_lt 0 n
      positive n some = grind (arith, nat_tests, some)

      by_stamp : (found : Option Stamp) → oldest_of_all all ≡ found → is_some found ≡ nat_lt 0 (kept all)
      by_stamp None is = ap (nat_lt 0) (sym (earliest_none 0 all.logs is))
      by_stamp (Some stamp) is =
          let it = oldest_is stamp is in
          let some = (stamped (log_at all stamp.host) stamp.host stamp it.own).some_idle in
          positive (kept all) (omega (arith, some, get_or-le-sum_by idle_len all.logs stamp.host [] it.there))
