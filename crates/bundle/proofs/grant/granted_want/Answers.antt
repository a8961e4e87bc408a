use Rattle.std.proofs.Common.{Some, sym, ap, ◌∙◌}
use Rattle.std.specs.Option.{option_map}
use Rattle.bundle.specs.declared.grant.Grant.{Grant}
use Rattle.bundle.proofs.Granted.{none_granted, grant_at}
use Rattle.bundle.proofs.grant.granted_want.Goals as goal

pub returns-in_default : goal.returns-in_default
returns-in_default g c = sym (ap (option_map (λ (grant : Grant g.row.S.Denot). grant.want)) (none_granted c.args.grants.now c.args.transfer c.in_default.ensures.no_grant))

pub returns : goal.returns
returns g c =
    let found = grant_at c.args.grants.now c.args.transfer c.in-Some.place c.index-grants-place.result c.in-Some.ensures.place c.index-grants-place.is in
    ap (λ (grant : Grant g.row.S.Denot). Some grant.want) (sym c.index-grants-place.is) ∙ sym (ap (option_map (λ (grant : Grant g.row.S.Denot). grant.want)) found)
