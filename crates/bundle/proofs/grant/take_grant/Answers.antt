use Rattle.std.proofs.Common.{◌≡◌, ℕ, ◌<◌, List, length, false, get_or, arith, sym, subst, ◌∙◌}
use Rattle.std.specs.Prelude.{◌==◌}
use Rattle.bundle.specs.declared.grant.Grant.{Grant}
use Rattle.bundle.specs.Grants.{IsPlaceOf}
use Rattle.bundle.proofs.Granted.{none_granted, without_none, grant_at, removed_at}
use Rattle.bundle.proofs.grant.take_grant.Goals as goal

pub returns-in_default-clause-grant : goal.returns-in_default-clause-grant
returns-in_default-clause-grant g c =
    let none = subst (λ (grants : List (Grant g.row.S.Denot)). (k : ℕ) (d : Grant g.row.S.Denot) → k < length grants → ((get_or grants k d).want.transfer == c.args.transfer) ≡ false) c.deref.ensures.value c.in_default.ensures.no_grant in
    sym (none_granted c.args.grants.now.items c.args.transfer none)

pub returns-in_default-clause-grants : goal.returns-in_default-clause-grants
returns-in_default-clause-grants g c =
    let none = subst (λ (grants : List (Grant g.row.S.Denot)). (k : ℕ) (d : Grant g.row.S.Denot) → k < length grants → ((get_or grants k d).want.transfer == c.args.transfer) ≡ false) c.deref.ensures.value c.in_default.ensures.no_grant in
    sym (without_none c.args.grants.now.items c.args.transfer none)

pub remove-requires : goal.remove-requires
remove-requires g c =
    let found = subst (λ (grants : List (Grant g.row.S.Denot)). IsPlaceOf c.args.transfer grants c.in-Some.place) c.deref.ensures.value c.in-Some.ensures.place in
    omega (arith, found.in_range)

pub returns-clause-grant : goal.returns-clause-grant
returns-clause-grant g c =
    let found = subst (λ (grants : List (Grant g.row.S.Denot)). IsPlaceOf c.args.transfer grants c.in-Some.place) c.deref.ensures.value c.in-Some.ensures.place in
    sym (grant_at c.args.grants.now.items c.args.transfer c.in-Some.place c.remove.result found c.remove.ensures.value)

pub returns-clause-grants : goal.returns-clause-grants
returns-clause-grants g c =
    let found = subst (λ (grants : List (Grant g.row.S.Denot)). IsPlaceOf c.args.transfer grants c.in-Some.place) c.deref.ensures.value c.in-Some.ensures.place in
    c.remove.ensures.items ∙ removed_at c.args.grants.now.items c.args.transfer c.in-Some.place c.remove.result found
