use Rattle.std.proofs.Common.{◌<◌, sym, subst, length, slice_set, string_bytes}
use Rattle.script_text.specs.declared.command.Action.TheVariants as actions
use Rattle.script_engine.specs.Hosted.{Hosted, GivesAt}
use Rattle.script_engine.proofs.PooledSites.{shown, due-at, kept-there}
use Rattle.script_engine.proofs.SpentAtSite.{hosted-told, hosted-same, lines-due, lines-uncut, gives-spent, gives-stranger}
use Rattle.script_engine.proofs.hosts.PooledHosts.back.Goals as goal

pub give_back-requires-clause-keeps : goal.give_back-requires-clause-keeps
give_back-requires-clause-keeps c =
    let there = subst (λ (h : Hosted). c.args.site < length h.hosts.all.logs) (sym c.self.view_is) c.requires.there in
    due-at c.self.inside.pool c.self.inside.kept.items c.self.invariant.due_kept c.args.site c.index_mut-kept.result.now (kept-there c.self.inside.pool c.self.inside.kept.items c.self.invariant.due_kept c.args.site there) c.index_mut-kept.ensures.value

pub lines-requires-clause-told : goal.lines-requires-clause-told
lines-requires-clause-told c =
    let there = subst (λ (h : Hosted). c.args.site < length h.hosts.all.logs) (sym c.self.view_is) c.requires.there in
    lines-due c.self.inside.pool c.give_back.new.pool c.self.inside.kept.items c.self.inside.told.items c.self.invariant c.args.site there c.index_mut-kept.result.now c.give_back.new.self c.index_mut-kept.ensures.value c.args.transfer
    c.give_back.ensures.grow c.give_back.ensures.keeps c.give_back.ensures.others c.give_back.ensures.stays

pub lines-requires-clause-uncut : goal.lines-requires-clause-uncut
lines-requires-clause-uncut c =
    let there = subst (λ (h : Hosted). c.args.site < length h.hosts.all.logs) (sym c.self.view_is) c.requires.there in
    lines-uncut c.self.inside.pool c.give_back.new.pool c.self.inside.kept.items c.self.inside.told.items c.self.invariant c.args.site there c.index_mut-kept.result.now c.give_back.new.self c.index_mut-kept.ensures.value c.args.transfer
    c.give_back.ensures.grow c.give_back.ensures.keeps c.give_back.ensures.others c.give_back.ensures.stays

pub invariant_of-self : goal.invariant_of-self
invariant_of-self c =
    let there = subst (λ (h : Hosted). c.args.site < length h.hosts.all.logs) (sym c.self.view_is) c.requires.there in
    hosted-told c.self.inside.pool c.give_back.new.pool c.self.inside.kept.items c.self.inside.told.items c.self.invariant c.args.site there c.index_mut-kept.result.now c.give_back.new.self c.index_mut-kept.ensures.value c.args.transfer
    c.give_back.ensures.grow c.give_back.ensures.keeps c.give_back.ensures.others c.give_back.ensures.stays c.lines.new.told.items c.lines.ensures.told

pub invariant_of-self-else-give_back : goal.invariant_of-self-else-give_back
invariant_of-self-else-give_back c =
    let there = subst (λ (h : Hosted). c.args.site < length h.hosts.all.logs) (sym c.self.view_is) c.requires.there in
    hosted-same c.self.inside.pool c.give_back.new.pool c.self.inside.kept.items c.self.inside.told.items c.self.invariant c.args.site there c.index_mut-kept.result.now c.give_back.new.self c.index_mut-kept.ensures.value c.args.transfer
    c.give_back.ensures.grow c.give_back.ensures.keeps c.give_back.ensures.others c.give_back.ensures.stays (c.give_back.ensures.none c.if-give_back.false)

pub returns-then-give_back : goal.returns-then-give_back
returns-then-give_back c =
    let there = subst (λ (h : Hosted). c.args.site < length h.hosts.all.logs) (sym c.self.view_is) c.requires.there in
    let after = shown c.give_back.new.pool (slice_set c.self.inside.kept.items c.args.site c.give_back.new.self) in
    subst (λ (h : Hosted). GivesAt string_bytes h c.args.site (actions.Back c.args.transfer c.args.ending c.args.moment) c.lines.result after) c.self.view_is
    (gives-spent c.self.inside.pool c.give_back.new.pool c.self.inside.kept.items c.self.inside.told.items c.self.invariant c.args.site there c.index_mut-kept.result.now c.give_back.new.self c.index_mut-kept.ensures.value c.args.transfer
    c.give_back.ensures.grow c.give_back.ensures.keeps c.give_back.ensures.others c.give_back.ensures.stays string_bytes (actions.Back c.args.transfer c.args.ending c.args.moment) c.give_back.result c.give_back.ensures.answer c.lines.result c.if-give_back.true c.lines.ensures.text)

pub returns-else-give_back : goal.returns-else-give_back
returns-else-give_back c =
    let there = subst (λ (h : Hosted). c.args.site < length h.hosts.all.logs) (sym c.self.view_is) c.requires.there in
    let after = shown c.give_back.new.pool (slice_set c.self.inside.kept.items c.args.site c.give_back.new.self) in
    subst (λ (h : Hosted). GivesAt string_bytes h c.args.site (actions.Back c.args.transfer c.args.ending c.args.moment) c.reply.result after) c.self.view_is
    (gives-stranger c.self.inside.pool c.give_back.new.pool c.self.inside.kept.items c.self.inside.told.items c.self.invariant c.args.site there c.index_mut-kept.result.now c.give_back.new.self c.index_mut-kept.ensures.value c.args.transfer
    c.give_back.ensures.grow c.give_back.ensures.keeps c.give_back.ensures.others c.give_back.ensures.stays string_bytes (actions.Back c.args.transfer c.args.ending c.args.moment) c.give_back.result c.give_back.ensures.answer c.reply.result c.if-give_back.false c.reply.ensures)
