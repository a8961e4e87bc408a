use Rattle.std.proofs.Common.{ℕ, List, sym, ap, ◌∙◌}
use Rattle.std.specs.Prelude.{slice_get}
use Rattle.std.specs.Option.{option_map}
use Rattle.std.specs.Map.Iter.{deref_pair}
use Rattle.conn_log.specs.declared.entry.Want.{Want}
use Rattle.log_judge.proofs.WaitersInOrder.{first_is}
use Rattle.log_judge.proofs.waiters.Waiters.first.Goals as goal

pub returns-in-Some : goal.returns-in-Some
returns-in-Some c = ap (λ r. option_map (λ (e : ℕ × Want). e.1) (option_map deref_pair r)) (sym c.in-Some.is) ∙ ap (option_map (λ (e : ℕ × Want). e.1)) c.peek_lru.ensures ∙ sym (first_is c.self.inside.by_transfer.entries) ∙ ap (λ (wants : List Want). slice_get wants 0) c.self.view_is

pub returns-in-None : goal.returns-in-None
returns-in-None c = ap (λ r. option_map (λ (e : ℕ × Want). e.1) (option_map deref_pair r)) (sym c.in-None.is) ∙ ap (option_map (λ (e : ℕ × Want). e.1)) c.peek_lru.ensures ∙ sym (first_is c.self.inside.by_transfer.entries) ∙ ap (λ (wants : List Want). slice_get wants 0) c.self.view_is
