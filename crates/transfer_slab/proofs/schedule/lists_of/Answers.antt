-- Room for more keys puts none into a list.
use Rattle.std.proofs.Common.{◌∙◌}
use Rattle.transfer_slab.proofs.schedule.lists_of.Goals as goal

pub returns-clause-unlisted : goal.returns-clause-unlisted
returns-clause-unlisted c = λ key. c.reserve_key.ensures.same.keys key ∙ c.in_ok-lists.ensures.no_keys key
