use Rattle.std.proofs.Common.{◌≡◌, ◌⊎◌, ◌+◌, ◌<◌, ◌≤◌, min, ap, ◌∙◌, arith, refl, length, take, inl, inr, List, ℕ}
use Rattle.std.specs.Prelude.{◌==◌, true, Some}
use Rattle.std.specs.List.{position_or_len}
use Rattle.client.specs.FileLines.{ends_line, lines_shown, urls_on}
use Rattle.client.proofs.FileLines.{next_line, no_end, place_after, some_left}
use Rattle.client.proofs.lines.UrlLines.next.Goals.{else-end-rest-via-then-end-rest+else-not-self, else-end-rest-via-else-end-rest}
use Rattle.client.proofs.lines.UrlLines.next.Goals as goal

pub returns-then-not-self-clause-next : goal.returns-then-not-self-clause-next
returns-then-not-self-clause-next c = (
  refl,
  record {
    has_more = c.if-not-self.true;
    no_end = no_end (lines_shown c.args.self.now).pending c.place_of-end.result (c.place_of-end.ensures.value ∙ ap (position_or_len ends_line) c.pending-rest.ensures)
        (c.if-end-rest.true ∙ ap length c.pending-rest.ensures);
  },
)

pub returns-clause-next : goal.returns-clause-next
returns-clause-next c =
    let old = lines_shown c.args.self.now in
    let n = c.place_of-end.result in
    let rest = c.pending-rest.ensures in
    let len = ap length rest in
    let within : n ≤ length old.pending = omega (arith, len, c.place_of-end.ensures.bound) in
    let there : (n < length old.pending) ⊎ (old.is_at_end ≡ true) = elim c.else-end-rest.branch [
      | else-end-rest-via-then-end-rest+else-not-self w ↦ inr (w.if-not-self.false)
      | else-end-rest-via-else-end-rest w ↦ inl (omega (arith, len, within, w.if-end-rest.false))
    ] in
    let some : 0 < length old.pending = some_left old.pending c.is_empty.result (c.is_empty.ensures ∙ ap (λ (l : List ℕ). length l == 0) rest) c.if-is_empty.false in
    let few : length c.args.self.now.bytes.items < 18446744073709551615 = omega arith in
    next_line c.in_ok-line.line old _ n (c.in_ok-line.ensures.urls ∙ ap (λ (l : List ℕ). Some (urls_on l)) (c.split_at.ensures.front ∙ ap (take n) rest))
    (c.place_of-end.ensures.value ∙ ap (position_or_len ends_line) rest) within there
    (place_after c.args.self.now.bytes.items c.args.self.now.from n 18446744073709551615 c.saturating_add-self.result within some few
    (c.saturating_add-self.ensures ∙ ap (λ (k : ℕ). min (k + 1) 18446744073709551615) c.saturating_add.ensures)) refl
