-- The first place of the earliest stamp, as the stamps are read one after the other.
use Rattle.std.proofs.Common.{◌≡◌, ◌⊎◌, ◌≢◌, ℕ, ◌+◌, ◌<◌, ◌≤◌, true, false, List, length, Option, Some, None, refl, sym, ap, inl, inr, ◌∙◌, arith}
use Rattle.std.specs.Option.{IfSome, IfNone}
use Rattle.std.specs.Prelude.{◌==◌}
use Rattle.std.proofs.lemmas.Bool.Decides.{eqb_tells}
use Rattle.std.proofs.Math.ListN.{get_or-eq_default}
use Rattle.conn_log.specs.declared.stamp.Stamp.{Stamp}
use Rattle.cache.specs.Oldest.{is_before, stamp_at, IsFirstEarliest, HaveNone}
use Rattle.cache.proofs.NotedStamps.{not_before_itself}
use Rattle.cache.proofs.StampOrder.{before_one_way, before_beyond, within}

-- of those before this place the first is the earliest, which stands first at that place
pub record IsFirstOf (stamps : List (Option Stamp)) (end : ℕ) (first : Option Stamp) (place : ℕ) : Type 0 where
  pub there : place < end
  pub stamp : Stamp
  pub first_is : first ≡ Some stamp
  pub here : stamp_at stamps place ≡ first
  pub others_later : (other : ℕ) → other < place → is_before first (stamp_at stamps other) ≡ true

pub record IsRead (stamps : List (Option Stamp)) (end : ℕ) (first : Option Stamp) (oldest : Option ℕ) : Type 0 where
  pub none_earlier : (other : ℕ) → other < end → is_before (stamp_at stamps other) first ≡ false
  pub found : IfSome oldest (IsFirstOf stamps end first)
  pub none : IfNone oldest (first ≡ None)

pub nothing_read : (stamps : List (Option Stamp)) → IsRead stamps 0 None None
nothing_read stamps = record {
  none_earlier = λ other there. absurd (omega arith);
  found = tt;
  none = refl;
}

module _ (stamps : List (Option Stamp)) (end : ℕ) (first : Option Stamp) (oldest : Option ℕ) (read : IsRead stamps end first oldest) where
  -- one that is not before the first
  pub reads_later : (stamp : Option Stamp) → stamp_at stamps end ≡ stamp → is_before stamp first ≡ false → IsRead stamps (end + 1) first oldest
  reads_later stamp is later = record {
    none_earlier = λ other there. at_place other there (eqb_tells other end);
    found = still oldest read.found;
    none = read.none;
  }
    where
      at_place : (other : ℕ) → other < end + 1 → (((other == end) ≡ true) × (other ≡ end)) ⊎ (((other == end) ≡ false) × (other ≢ end)) → is_before (stamp_at stamps other) first ≡ false
      at_place other there (inl same) = ap (λ (p : ℕ). is_before (stamp_at stamps p) first) same.1 ∙ ap (λ x. is_before x first) is ∙ later
      at_place other there (inr apart) = read.none_earlier other (omega (arith, apart.1))

      still : (place : Option ℕ) → IfSome place (IsFirstOf stamps end first) → IfSome place (IsFirstOf stamps (end + 1) first)
      still None found = tt
      still (Some place) found = record {
        there = omega (arith, found.there);
        stamp = found.stamp;
        first_is = found.first_is;
        here = found.here;
        others_later = found.others_later;
      }

  -- one that is
  pub reads_earlier : (stamp : Option Stamp) → stamp_at stamps end ≡ stamp → is_before stamp first ≡ true → IsRead stamps (end + 1) stamp (Some end)
  reads_earlier None is before = absurd (cc)
  reads_earlier (Some stamp) is before = record {
    none_earlier = λ other there. at_place other there (eqb_tells other end);
    found = record {
      there = omega arith;
      stamp = stamp;
      first_is = refl;
      here = is;
      others_later = λ other there. before_beyond (Some stamp) first (stamp_at stamps other) before (read.none_earlier other there);
    };
    none = tt;
  }
    where
      at_place : (other : ℕ) → other < end + 1 → (((other == end) ≡ true) × (other ≡ end)) ⊎ (((other == end) ≡ false) × (other ≢ end)) → is_before (stamp_at stamps other) (Some stamp) ≡ false
      at_place other there (inl same) = ap (λ (p : ℕ). is_before (stamp_at stamps p) (Some stamp)) same.1 ∙ ap (λ x. is_before x (Some stamp)) is ∙ not_before_itself (Some stamp)
      at_place other there (inr apart) = before_one_way (Some stamp) (stamp_at stamps other) (before_beyond (Some stamp) first (stamp_at stamps other) before (read.none_earlier other (omega (arith, apart.1))))

-- once all are read
module _ (stamps : List (Option Stamp)) (end : ℕ) (all : length stamps ≤ end) (in_range : end ≤ length stamps) (first : Option Stamp) where
  pub found_first : (oldest : Option ℕ) → IsRead stamps end first oldest → IfSome oldest (IsFirstEarliest stamps)
  found_first None read = tt
  found_first (Some place) read = record {
    there = omega (arith, read.found.there);
    stamp = read.found.stamp;
    here = read.found.here ∙ read.found.first_is;
    none_earlier = λ other there. ap (is_before (stamp_at stamps other)) read.found.here ∙ read.none_earlier other (omega arith);
    others_later = λ other there. ap (λ x. is_before x (stamp_at stamps other)) read.found.here ∙ read.found.others_later other there;
  }

  pub found_none : (oldest : Option ℕ) → IsRead stamps end first oldest → IfNone oldest (HaveNone stamps)
  found_none (Some place) read = tt
  found_none None read = λ place. elim (within place end) [
    | inl there ↦ not_before_none (stamp_at stamps place) (sym (ap (is_before (stamp_at stamps place)) read.none) ∙ read.none_earlier place there)
    | inr past ↦ get_or-eq_default stamps None (omega arith)
  ]
    where
      not_before_none : (x : Option Stamp) → is_before x None ≡ false → x ≡ None
      not_before_none None later = refl
      not_before_none (Some x) later = absurd (cc)
