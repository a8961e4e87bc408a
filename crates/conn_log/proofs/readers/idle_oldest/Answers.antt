use Rattle.std.proofs.Common.{ℕ, List, reverse, take, sym, ap, ◌∙◌}
use Rattle.conn_log.specs.declared.entry.Event.{Event}
use Rattle.conn_log.specs.declared.entry.Entry.{Entry}
use Rattle.conn_log.specs.Connections.{opened_after}
use Rattle.conn_log.proofs.Opens.{opened_behind_more, none_opened}
use Rattle.std.proofs.lemmas.List.{take_all, reverse-reverse}
use Rattle.conn_log.specs.Bases.{Summary, summary, past_of, rest_of}
use Rattle.conn_log.specs.Behind.{oldest_among, opened_behind, oldest_stamp_behind}
use Rattle.conn_log.proofs.Rests.{tells_of}
use Rattle.conn_log.proofs.readers.idle_oldest.Goals as goal
use Rattle.conn_log.proofs.readers.idle_oldest.Goals.{in-Opened, in_default}

pub loop-entry-preserved : goal.loop-entry-preserved
loop-entry-preserved c =
    let rest = c.rest-rest.result.now in
    let base = c.base-base.result.now in
    let i = c.loop-entry.entry-index in
    let before = opened_behind base (reverse (take i rest)) in
    let more = λ (d : Entry). opened_behind_more base rest i d c.loop-entry-test.true in
    let found = λ (numbers : List ℕ). oldest_among base (reverse rest) c.args.host numbers in
    elim c.match-entry.branch [
      | in-Opened w ↦ w.oldest-is ∙ w.oldest_with-oldest.ensures before c.loop-entry.invariant ∙ ap found (sym (more _ ∙ ap (λ (event : Event). opened_after event before) w.in-Opened.is))
      | in_default w ↦ w.oldest-is ∙ c.loop-entry.invariant ∙ ap found (sym (more _ ∙ none_opened _ w.in_default.not-Opened before))
    ]

pub returns-clause-behind : goal.returns-clause-behind
returns-clause-behind c =
    let rest = c.rest-rest.result.now in
    let base = c.base-base.result.now in
    let host = c.args.host in
    let turned = ap reverse c.rest-rest.ensures.entries ∙ reverse-reverse (rest_of c.args.log.now) in
    c.loop-entry.invariant ∙ ap (λ xs. oldest_among base (reverse rest) host (opened_behind base (reverse xs))) (take_all c.loop-entry.entry-index rest c.loop-entry-test.false)
    ∙ ap (λ (b : Summary). oldest_stamp_behind b (reverse rest) host) c.base-base.ensures ∙ ap (λ log. oldest_stamp_behind (summary (past_of c.args.log.now)) log host) turned

pub returns-clause-whole : goal.returns-clause-whole
returns-clause-whole c settings legal = returns-clause-behind c ∙ (tells_of c.args.log.now settings legal).oldest c.args.host
