use Rattle.std.proofs.Common.{rules}
use Rattle.budget.proofs.Keeps.{total_word, looks}
use Rattle.budget.proofs.words.budget.load_total.Goals as goal

pub load-requires : goal.load-requires
load-requires g c = (search rules, search rules, looks _ (total_word _) _ _ _ _ c.requires.limit c.requires.share)
