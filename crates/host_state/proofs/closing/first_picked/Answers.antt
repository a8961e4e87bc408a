use Rattle.std.proofs.Common.{◌≡◌, [], sym, subst}
use Rattle.std.specs.Option.{IfSome, IfNone}
use Rattle.host_state.specs.declared.closing.Closing.{Closing}
use Rattle.host_state.specs.Idle.{picked_items, PicksFirst}
use Rattle.host_state.proofs.Picking.{where_some, where_none, picks_too_old, picks_older, picks_no_too_old, picks_no_older}
use Rattle.host_state.proofs.closing.first_picked.Goals as goal

pub returns-in-TooOld-clause-found : goal.returns-in-TooOld-clause-found
returns-in-TooOld-clause-found g c =
    subst (λ (closing : Closing). IfSome c.first_too_old.result (PicksFirst closing c.args.moment c.args.open_len c.args.idle.now.items)) (sym c.in-TooOld.is)
    (where_some _ (picks_too_old c.in-TooOld.want c.args.moment c.args.open_len c.args.idle.now.items) c.first_too_old.ensures.found)

pub returns-in-TooOld-clause-none : goal.returns-in-TooOld-clause-none
returns-in-TooOld-clause-none g c =
    subst (λ (closing : Closing). IfNone c.first_too_old.result (picked_items closing c.args.moment c.args.open_len c.args.idle.now.items ≡ [])) (sym c.in-TooOld.is)
    (where_none _ (picks_no_too_old c.in-TooOld.want c.args.moment c.args.open_len c.args.idle.now.items) c.first_too_old.ensures.none)

pub returns-in-Pruned-clause-found : goal.returns-in-Pruned-clause-found
returns-in-Pruned-clause-found g c =
    subst (λ (closing : Closing). IfSome c.first_older.result (PicksFirst closing c.args.moment c.args.open_len c.args.idle.now.items)) (sym c.in-Pruned.is)
    (where_some _ (picks_older c.in-Pruned.max_age c.in-Pruned.max_life c.args.moment c.args.open_len c.args.idle.now.items) c.first_older.ensures.found)

pub returns-in-Pruned-clause-none : goal.returns-in-Pruned-clause-none
returns-in-Pruned-clause-none g c =
    subst (λ (closing : Closing). IfNone c.first_older.result (picked_items closing c.args.moment c.args.open_len c.args.idle.now.items ≡ [])) (sym c.in-Pruned.is)
    (where_none _ (picks_no_older c.in-Pruned.max_age c.in-Pruned.max_life c.args.moment c.args.open_len c.args.idle.now.items) c.first_older.ensures.none)
