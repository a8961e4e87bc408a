use Rattle.std.proofs.Common.{sym, ap}
use Rattle.bundle.specs.Lease.{HostShown}
use Rattle.cache.proofs.OneHost.{there_inside}
use Rattle.cache.proofs.SameLog.{all_same}
use Rattle.cache.proofs.CutHosts.{cut_or_not, kept_cut, booked_cut, shown_cut, shown_refused}
use Rattle.cache.proofs.hosts.Hosts.cut.Goals as goal

pub invariant_of-self : goal.invariant_of-self
invariant_of-self g c =
    let inside = c.self.inside in
    let there = there_inside c.args.site c.self.view_is c.requires.there in
    let same = cut_or_not c.index_mut.result.now c.cut.new.self c.cut.result c.cut.ensures.all_cut c.cut.ensures.err in
    kept_cut c.args.site inside.bundles.items c.index_mut.result.now c.cut.new.self inside.budget inside.lobby inside.pass inside.noted c.self.invariant there c.index_mut.ensures.value same

pub returns-clause-done : goal.returns-clause-done
returns-clause-done g c =
    let inside = c.self.inside in
    let there = there_inside c.args.site c.self.view_is c.requires.there in
    let same = cut_or_not c.index_mut.result.now c.cut.new.self c.cut.result c.cut.ensures.all_cut c.cut.ensures.err in
    let all = all_same c.args.site inside.bundles.items c.index_mut.result.now c.cut.new.self inside.budget.limits inside.lobby.order there c.index_mut.ensures.value (ap (λ (h : HostShown g.row.S.Denot). h.log) same) in
    rw (sym c.self.view_is) (shown_cut c.args.site inside.bundles.items c.index_mut.result.now c.cut.new.self c.cut.result inside.budget.limits inside.lobby.order there c.index_mut.ensures.value all c.cut.ensures.part c.cut.ensures.all_cut)

pub returns-clause-refused : goal.returns-clause-refused
returns-clause-refused g c =
    let inside = c.self.inside in
    let there = there_inside c.args.site c.self.view_is c.requires.there in
    rw (sym c.self.view_is) (shown_refused c.args.site inside.bundles.items c.index_mut.result.now c.cut.new.self c.cut.result inside.budget.limits inside.lobby.order there c.index_mut.ensures.value c.cut.ensures.refusal c.cut.ensures.err)

pub returns-clause-booked : goal.returns-clause-booked
returns-clause-booked g c =
    let inside = c.self.inside in
    let there = there_inside c.args.site c.self.view_is c.requires.there in
    let same = cut_or_not c.index_mut.result.now c.cut.new.self c.cut.result c.cut.ensures.all_cut c.cut.ensures.err in
    rw (sym c.self.view_is) (booked_cut c.args.site inside.bundles.items c.index_mut.result.now c.cut.new.self there c.index_mut.ensures.value same)
