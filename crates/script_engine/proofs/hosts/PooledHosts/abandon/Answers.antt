use Rattle.std.proofs.Common.{◌<◌, sym, subst, length, slice_set, string_bytes}
use Rattle.script_text.specs.declared.command.Action.TheVariants as actions
use Rattle.script_engine.specs.Hosted.{Hosted, GivesAt}
use Rattle.script_engine.proofs.PooledSites.{shown, due-at, kept-there}
use Rattle.script_engine.proofs.SpentAtSite.{hosted-told, hosted-same, lines-due, lines-uncut, gives-spent, gives-stranger}
use Rattle.script_engine.proofs.hosts.PooledHosts.abandon.Goals as goal

pub abandon-requires-clause-keeps : goal.abandon-requires-clause-keeps
abandon-requires-clause-keeps c =
    let there = subst (λ (h : Hosted). c.args.site < length h.hosts.all.logs) (sym c.self.view_is) c.requires.there in
    due-at c.self.inside.pool c.self.inside.kept.items c.self.invariant.due_kept c.args.site c.index_mut.result.now (kept-there c.self.inside.pool c.self.inside.kept.items c.self.invariant.due_kept c.args.site there) c.index_mut.ensures.value

pub lines-requires-clause-told : goal.lines-requires-clause-told
lines-requires-clause-told c =
    let there = subst (λ (h : Hosted). c.args.site < length h.hosts.all.logs) (sym c.self.view_is) c.requires.there in
    lines-due c.self.inside.pool c.abandon.new.pool c.self.inside.kept.items c.self.inside.told.items c.self.invariant c.args.site there c.index_mut.result.now c.abandon.new.self c.index_mut.ensures.value c.args.transfer
    c.abandon.ensures.grow c.abandon.ensures.keeps c.abandon.ensures.others c.abandon.ensures.stays

pub lines-requires-clause-uncut : goal.lines-requires-clause-uncut
lines-requires-clause-uncut c =
    let there = subst (λ (h : Hosted). c.args.site < length h.hosts.all.logs) (sym c.self.view_is) c.requires.there in
    lines-uncut c.self.inside.pool c.abandon.new.pool c.self.inside.kept.items c.self.inside.told.items c.self.invariant c.args.site there c.index_mut.result.now c.abandon.new.self c.index_mut.ensures.value c.args.transfer
    c.abandon.ensures.grow c.abandon.ensures.keeps c.abandon.ensures.others c.abandon.ensures.stays

pub invariant_of-self : goal.invariant_of-self
invariant_of-self c =
    let there = subst (λ (h : Hosted). c.args.site < length h.hosts.all.logs) (sym c.self.view_is) c.requires.there in
    hosted-told c.self.inside.pool c.abandon.new.pool c.self.inside.kept.items c.self.inside.told.items c.self.invariant c.args.site there c.index_mut.result.now c.abandon.new.self c.index_mut.ensures.value c.args.transfer
    c.abandon.ensures.grow c.abandon.ensures.keeps c.abandon.ensures.others c.abandon.ensures.stays c.lines.new.told.items c.lines.ensures.told

pub invariant_of-self-else-abandon : goal.invariant_of-self-else-abandon
invariant_of-self-else-abandon c =
    let there = subst (λ (h : Hosted). c.args.site < length h.hosts.all.logs) (sym c.self.view_is) c.requires.there in
    hosted-same c.self.inside.pool c.abandon.new.pool c.self.inside.kept.items c.self.inside.told.items c.self.invariant c.args.site there c.index_mut.result.now c.abandon.new.self c.index_mut.ensures.value c.args.transfer
    c.abandon.ensures.grow c.abandon.ensures.keeps c.abandon.ensures.others c.abandon.ensures.stays (c.abandon.ensures.none c.if-abandon.false)

pub returns-then-abandon : goal.returns-then-abandon
returns-then-abandon c =
    let there = subst (λ (h : Hosted). c.args.site < length h.hosts.all.logs) (sym c.self.view_is) c.requires.there in
    let after = shown c.abandon.new.pool (slice_set c.self.inside.kept.items c.args.site c.abandon.new.self) in
    subst (λ (h : Hosted). GivesAt string_bytes h c.args.site (actions.Drop c.args.transfer c.args.moment) c.lines.result after) c.self.view_is
    (gives-spent c.self.inside.pool c.abandon.new.pool c.self.inside.kept.items c.self.inside.told.items c.self.invariant c.args.site there c.index_mut.result.now c.abandon.new.self c.index_mut.ensures.value c.args.transfer
    c.abandon.ensures.grow c.abandon.ensures.keeps c.abandon.ensures.others c.abandon.ensures.stays string_bytes (actions.Drop c.args.transfer c.args.moment) c.abandon.result c.abandon.ensures.answer c.lines.result c.if-abandon.true c.lines.ensures.text)

pub returns-else-abandon : goal.returns-else-abandon
returns-else-abandon c =
    let there = subst (λ (h : Hosted). c.args.site < length h.hosts.all.logs) (sym c.self.view_is) c.requires.there in
    let after = shown c.abandon.new.pool (slice_set c.self.inside.kept.items c.args.site c.abandon.new.self) in
    subst (λ (h : Hosted). GivesAt string_bytes h c.args.site (actions.Drop c.args.transfer c.args.moment) c.reply.result after) c.self.view_is
    (gives-stranger c.self.inside.pool c.abandon.new.pool c.self.inside.kept.items c.self.inside.told.items c.self.invariant c.args.site there c.index_mut.result.now c.abandon.new.self c.index_mut.ensures.value c.args.transfer
    c.abandon.ensures.grow c.abandon.ensures.keeps c.abandon.ensures.others c.abandon.ensures.stays string_bytes (actions.Drop c.args.transfer c.args.moment) c.abandon.result c.abandon.ensures.answer c.reply.result c.if-abandon.false c.reply.ensures)
