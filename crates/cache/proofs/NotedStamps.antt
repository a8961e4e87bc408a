-- The stamp noted for a host is no later than that of its oldest, once it was lowered to that or set to it.
use Rattle.std.proofs.Common.{◌≡◌, ℕ, ◌<◌, Bool, true, false, List, length, slice_set, Option, Some, None, refl, sym, ap, ◌∙◌, arith}
use Rattle.std.proofs.lemmas.Bool.Decides.{nat_tests}
use Rattle.std.proofs.lemmas.List.{get_or-set_same}
use Rattle.conn_log.specs.declared.stamp.Stamp.{Stamp}
use Rattle.conn_log.specs.Fit.{is_earlier}
use Rattle.cache.specs.Oldest.{earlier_of, is_before, stamp_at}

not_earlier_itself : (s : Stamp) → is_earlier s s ≡ false
not_earlier_itself s = grind (arith, nat_tests)

pub not_before_itself : (stamp : Option Stamp) → is_before stamp stamp ≡ false
not_before_itself None = refl
not_before_itself (Some s) = not_earlier_itself s

pub not_before_earlier : (noted stamp : Option Stamp) → is_before stamp (earlier_of noted stamp) ≡ false
not_before_earlier None stamp = not_before_itself stamp
not_before_earlier (Some x) None = refl
not_before_earlier (Some x) (Some y) = by_order (is_earlier y x) refl
  where
    by_order : (b : Bool) → is_earlier y x ≡ b → is_before (Some y) (earlier_of (Some x) (Some y)) ≡ false
    by_order true is = rw is (not_earlier_itself y)
    by_order false is = rw is is

-- so it is once it was lowered
pub lowered_not_later : (noted : List (Option Stamp)) (host : ℕ) (stamp oldest : Option Stamp) → host < length noted → stamp ≡ oldest → is_before oldest (stamp_at (slice_set noted host (earlier_of (stamp_at noted host) stamp)) host) ≡ false
lowered_not_later noted host stamp oldest there is =
    ap (λ o. is_before o (stamp_at (slice_set noted host (earlier_of (stamp_at noted host) stamp)) host)) (sym is)
    ∙ ap (is_before stamp) (get_or-set_same noted host (earlier_of (stamp_at noted host) stamp) None there) ∙ not_before_earlier (stamp_at noted host) stamp

-- and once it was set
pub set_not_later : (noted : List (Option Stamp)) (host : ℕ) (stamp oldest : Option Stamp) → host < length noted → stamp ≡ oldest → is_before oldest (stamp_at (slice_set noted host stamp) host) ≡ false
set_not_later noted host stamp oldest there is =
    ap (λ o. is_before o (stamp_at (slice_set noted host stamp) host)) (sym is)
    ∙ ap (is_before stamp) (get_or-set_same noted host stamp None there) ∙ not_before_itself stamp
