use Rattle.std.proofs.Common.{rules}
use Rattle.budget.proofs.Keeps.{kept_word, looks}
use Rattle.budget.proofs.words.budget.load_kept.Goals as goal

pub load-requires : goal.load-requires
load-requires g c = (search rules, search rules, looks _ (kept_word _) _ _ _ _ c.requires.limit c.requires.share)
