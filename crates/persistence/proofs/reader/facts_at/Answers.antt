use Rattle.std.proofs.Common.{sym, ap, subst, ◌∙◌, Option}
use Rattle.persistence.specs.declared.head.Head.{Head}
use Rattle.persistence.specs.declared.facts.Facts.{Facts}
use Rattle.persistence.specs.Told.{facts_of_head, TellsFacts, TellsFactsAfterFault}
use Rattle.persistence.specs.Reader.{TellsWhole}
use Rattle.persistence.specs.ReadingStages.{TellsFinalHead}
use Rattle.persistence.proofs.StageLemmas.{heads_tell, at_stage, body_facts, body_facts_whole, never_facts, faulty_facts}
use Rattle.persistence.proofs.reader.facts_at.Goals as goal

pub returns-in-Heads-clause-told : goal.returns-in-Heads-clause-told
returns-in-Heads-clause-told c = λ bytes kept reached none.
    subst (TellsFacts c.args.method c.args.request_close bytes c.args.ended) (sym c.facts_before_head.ensures)
    (heads_tell c.args.method c.args.request_close bytes c.args.ended c.in-Heads.skipped kept (at_stage c.args.method bytes kept c.args.stage.now _ c.in-Heads.is reached)).facts

pub returns-in-Body-clause-told : goal.returns-in-Body-clause-told
returns-in-Body-clause-told c = λ bytes kept reached none.
    body_facts c.args.method bytes kept c.in-Body.head c.in-Body.body (at_stage c.args.method bytes kept c.args.stage.now _ c.in-Body.is reached) c.args.request_close c.args.ended
    c.is_whole.result c.facts.result c.is_whole.ensures
    (λ head says. c.facts.ensures head says ∙ ap (λ b. facts_of_head c.args.method c.args.request_close head c.is_whole.result b) c.has_surplus.ensures)

pub returns-in-None-clause-after_fault : goal.returns-in-None-clause-after_fault
returns-in-None-clause-after_fault c = λ bytes kept reached fault is.
    subst (TellsFactsAfterFault c.args.method c.args.request_close bytes) (sym c.facts_before_head-in-None.ensures)
    (never_facts c.args.method c.args.request_close bytes
    (subst (λ (head : Option Head). TellsFinalHead bytes head) c.in-None.is (at_stage c.args.method bytes kept c.args.stage.now _ c.in-Fault.is reached).tells))

pub returns-in-Some-clause-after_fault : goal.returns-in-Some-clause-after_fault
returns-in-Some-clause-after_fault c = λ bytes kept reached fault is.
    faulty_facts c.args.method c.args.request_close bytes c.in-Some.head c.facts-in-Some.result
    (subst (λ (head : Option Head). TellsFinalHead bytes head) c.in-Some.is (at_stage c.args.method bytes kept c.args.stage.now _ c.in-Fault.is reached).tells) c.facts-in-Some.ensures

pub returns-in-Heads-clause-whole : goal.returns-in-Heads-clause-whole
returns-in-Heads-clause-whole c = λ bytes kept reached none.
    subst (λ (facts : Facts). TellsWhole c.args.method bytes c.args.ended facts.whole) (sym c.facts_before_head.ensures)
    (heads_tell c.args.method c.args.request_close bytes c.args.ended c.in-Heads.skipped kept (at_stage c.args.method bytes kept c.args.stage.now _ c.in-Heads.is reached)).whole

pub returns-in-Body-clause-whole : goal.returns-in-Body-clause-whole
returns-in-Body-clause-whole c = λ bytes kept reached none.
    body_facts_whole c.args.method bytes kept c.in-Body.head c.in-Body.body (at_stage c.args.method bytes kept c.args.stage.now _ c.in-Body.is reached) c.args.request_close c.args.ended
    c.is_whole.result c.facts.result c.is_whole.ensures
    (λ head says. c.facts.ensures head says ∙ ap (λ b. facts_of_head c.args.method c.args.request_close head c.is_whole.result b) c.has_surplus.ensures)
