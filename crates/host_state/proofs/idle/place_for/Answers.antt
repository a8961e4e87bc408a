use Rattle.std.proofs.Common.{◌≡◌, ◌-◌, ◌<◌, get_or, is_some, true, refl, sym, ap, ◌∙◌, arith}
use Rattle.std.specs.VecDeque.{deque_len}
use mathlib.Core.Bool.{false≢true}
use Rattle.host_state.proofs.Order.{all_before}
use Rattle.host_state.proofs.idle.place_for.Goals as goal
use Rattle.host_state.proofs.idle.place_for.Goals.{in-Some+else-not-goes_before, in_default}

pub returns : goal.returns
returns g c = elim c.match-back.branch [
  | in-Some+else-not-goes_before w ↦
      let last = w.in-Some.last.now in
      let test : w.goes_before.result ≡ true = grind (arith, w.if-not-goes_before.false) in
      let read = w.in-Some.ensures.lookup ∙ ap (λ n. get_or c.args.idle.now.items (n - 1) last) (sym c.len.ensures) in
      let some : 0 < deque_len c.args.idle.now = w.in-Some.ensures.variant.0 refl in
      all_before _ _ _ _ c.requires (omega (arith, c.len.ensures)) (omega (arith, c.len.ensures, some)) last read (sym w.goes_before.ensures ∙ test) (λ k d from below. absurd (omega (arith, c.len.ensures, from, below)))
  | in_default w ↦
      let none : 0 < deque_len c.args.idle.now → ⊥ = λ some. false≢true (sym (ap is_some w.in_default.is) ∙ c.back.ensures.variant.1 some) in
      record {
        in_range = omega (arith, c.len.ensures);
        before = λ k d below. absurd (none (omega (arith, c.len.ensures, below)));
        after = λ k d from below. absurd (none (omega (arith, below)));
      }
]
