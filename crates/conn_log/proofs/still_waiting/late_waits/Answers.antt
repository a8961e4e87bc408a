use Rattle.std.proofs.Common.{◌++◌, refl, sym, ap, inl, inr, ◌∙◌, drop, reverse}
use Rattle.std.proofs.lemmas.List.{reverse-append}
use Rattle.conn_log.proofs.Waits.{found_none, found_before, late_gone, late_stays, noted}
use Rattle.conn_log.proofs.still_waiting.late_waits.Goals as goal

pub loop-place-init : goal.loop-place-init
loop-place-init c = rw c.new-wants.ensures.items (found_none c.args.rest.now _ (λ t. rw c.new-gone.ensures.empty refl))

pub loop-place-preserved-else-not-contains : goal.loop-place-preserved-else-not-contains
loop-place-preserved-else-not-contains c =
    let loop = c.loop-place in
    let want = c.in-Waited.want in
    let later = drop loop.place c.args.rest.now in
    let gone = late_gone want later (sym (loop.invariant.ends want.transfer) ∙ sym c.contains.ensures ∙ c.if-not-contains.false) in
    found_before c.args.rest.now loop.place _ _ _ _ _ _ loop.invariant c.loop-place-test.true c.in-Waited.is (sym (ap (λ late. late ++ reverse loop.wants.items) gone)) (λ t. refl)

pub loop-place-preserved-in_ok-push-in-Waited : goal.loop-place-preserved-in_ok-push-in-Waited
loop-place-preserved-in_ok-push-in-Waited c =
    let loop = c.loop-place in
    let want = c.in-Waited.want in
    let later = drop loop.place c.args.rest.now in
    let stays = late_stays want later (sym (loop.invariant.ends want.transfer) ∙ sym c.contains.ensures ∙ c.if-not-contains.true) in
    let pushed = ap reverse c.in_ok-push-in-Waited.ensures.items ∙ reverse-append loop.wants.items _ in
    found_before c.args.rest.now loop.place _ _ _ _ _ _ loop.invariant c.loop-place-test.true c.in-Waited.is (pushed ∙ sym (ap (λ late. late ++ reverse loop.wants.items) stays)) (λ t. refl)

pub loop-place-preserved-in-Left-1 : goal.loop-place-preserved-in-Left-1
loop-place-preserved-in-Left-1 c =
    found_before c.args.rest.now c.loop-place.place _ _ _ _ _ _ c.loop-place.invariant c.loop-place-test.true c.in-Left.is refl (noted c.in-Left.transfer _ _ c.in_ok-insert-in-Left.ensures.updates.0)

pub loop-place-preserved-in-Returned-1 : goal.loop-place-preserved-in-Returned-1
loop-place-preserved-in-Returned-1 c = elim c.in-Returned.is [
  | inl returned ↦ found_before c.args.rest.now c.loop-place.place _ _ _ _ _ _ c.loop-place.invariant c.loop-place-test.true returned.2 refl (λ t. refl)
  | inr (inl closed) ↦ found_before c.args.rest.now c.loop-place.place _ _ _ _ _ _ c.loop-place.invariant c.loop-place-test.true closed.2 refl (λ t. refl)
  | inr (inr limit) ↦ found_before c.args.rest.now c.loop-place.place _ _ _ _ _ _ c.loop-place.invariant c.loop-place-test.true limit.1 refl (λ t. refl)
]

pub loop-place-preserved : goal.loop-place-preserved
loop-place-preserved c =
    let transfer = c.in-Opened.want.transfer in
    elim c.in-Opened.is [
      | inl opened ↦ found_before c.args.rest.now c.loop-place.place _ _ _ _ _ _ c.loop-place.invariant c.loop-place-test.true opened.1 refl (noted transfer _ _ c.in_ok-insert-in-Opened.ensures.updates.0)
      | inr leased ↦ found_before c.args.rest.now c.loop-place.place _ _ _ _ _ _ c.loop-place.invariant c.loop-place-test.true leased.1 refl (noted transfer _ _ c.in_ok-insert-in-Opened.ensures.updates.0)
    ]
