use Rattle.std.proofs.Common.{◌≡◌, ◌+◌, true, false, not, List, [], reverse, take, length, sym, ap, subst, ◌++◌, ◌∙◌, Vec, Global, arith}
use Rattle.conn_log.specs.declared.entry.Want.{Want}
use Rattle.std.proofs.lemmas.List.{reverse-append, take_all}
use Rattle.std.proofs.lemmas.Bool.Decides.{nat_tests}
use Rattle.conn_log.specs.Waiting.{waiting_since}
use Rattle.conn_log.specs.Scan.{left_waiting}
use Rattle.conn_log.proofs.Logs.{empty}
use Rattle.conn_log.proofs.Waits.{nobody_waits_after, waiting_split, looked_at}
use Rattle.conn_log.proofs.still_waiting.waiting_since.Goals as goal
use Rattle.conn_log.proofs.still_waiting.waiting_since.Goals.{then-not-contains+in_ok-push, else-not-contains}

pub returns-then-not-begins_any_wait : goal.returns-then-not-begins_any_wait
returns-then-not-begins_any_wait c =
    let waiting = c.args.waiting.now in
    let none : waiting.items ≡ [] = empty waiting.items (grind (arith, nat_tests, waiting.ok, c.if-is_empty.ensures)) in
    rw (c.new.ensures.items, none) (sym (nobody_waits_after c.args.rest.now (sym c.if-not-begins_any_wait.ensures)))

pub loop-want-preserved : goal.loop-want-preserved
loop-want-preserved c =
    let loop = c.loop-want in
    let rest = c.args.rest.now in
    let late = waiting_since [] (reverse rest) in
    let items = c.deref-want-items.result.now in
    let value = c.deref-want-items.ensures.value in
    let found = subst (λ (ys : List Want). reverse loop.wants.items ≡ left_waiting (reverse rest) (reverse (take loop.want-index ys)) ++ late) (sym value) loop.invariant.found in
    let ended = sym (loop.invariant.gone _) ∙ sym c.contains.ensures in
    record {
      found = subst (λ (ys : List Want). reverse c.if-not-contains.wants.items ≡ left_waiting (reverse rest) (reverse (take (loop.want-index + 1) ys)) ++ late) value (elim c.if-not-contains.branch [
        | then-not-contains+in_ok-push w ↦
            looked_at rest items late loop.want-index _ loop.wants.items c.if-not-contains.wants.items true c.loop-want-test.true found
            (sym (ap not (ended ∙ w.if-not-contains.true)))
            (ap (λ (v : Vec Want Global). reverse v.items) w.wants-is ∙ ap reverse w.in_ok-push.ensures.items ∙ reverse-append loop.wants.items _)
        | else-not-contains w ↦
            looked_at rest items late loop.want-index _ loop.wants.items c.if-not-contains.wants.items false c.loop-want-test.true found
            (sym (ap not (ended ∙ w.if-not-contains.false)))
            (ap (λ (v : Vec Want Global). reverse v.items) w.wants-is)
      ]);
      gone = loop.invariant.gone;
    }

pub returns : goal.returns
returns c =
    let items = c.args.waiting.now.items in
    let rest = reverse c.args.rest.now in
    let all = take_all c.loop-want.want-index items (omega (arith, c.loop-want-test.false, ap length c.deref-want-items.ensures.value)) in
    c.loop-want.invariant.found ∙ ap (λ wants. left_waiting rest (reverse wants) ++ waiting_since [] rest) all ∙ sym (waiting_split (reverse items) rest)
