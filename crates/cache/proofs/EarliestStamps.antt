-- The earliest of some stamps is one of them, and none is before it.
use Rattle.std.proofs.Common.{◌≡◌, false, Option, Some, None, refl, sym, ap, ◌∙◌}
use mathlib.Core.Bool.{false≢true}
use Rattle.conn_log.specs.declared.stamp.Stamp.{Stamp}
use Rattle.cache.specs.Oldest.{is_before, stamp_at}
use Rattle.cache.specs.StampLaws.{EarliestGoesFirst, NoEarliestOfNone}
use Rattle.cache.proofs.StampOrder.{earliest_before, earliest_among}

pub earliest_first : EarliestGoesFirst
earliest_first stamps stamp is =
    let found = earliest_among stamps stamp is in
    record {
      place = found.0;
      there = found.1;
      here = found.2;
      none_before = λ other. ap (is_before (stamp_at stamps other)) (sym is) ∙ earliest_before stamps other;
    }

-- what is not before none is none
not_before_none : (stamp : Option Stamp) → is_before stamp None ≡ false → stamp ≡ None
not_before_none None later = refl
not_before_none (Some x) later = absurd (false≢true (sym later))

pub no_earliest : NoEarliestOfNone
no_earliest stamps none place =
    not_before_none (stamp_at stamps place) (ap (is_before (stamp_at stamps place)) (sym none) ∙ earliest_before stamps place)
