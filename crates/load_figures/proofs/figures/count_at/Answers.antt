use Rattle.std.proofs.Common.{slice_set, ap, ◌∙◌}
use Rattle.load_figures.proofs.Hosts.{counted_past, counted_there}
use Rattle.load_figures.proofs.figures.count_at.Goals as goal

pub returns-then-place-hosts : goal.returns-then-place-hosts
returns-then-place-hosts c =
    ap (λ counts. slice_set c.args.hosts.now c.args.host counts) c.count.ensures
    ∙ counted_there c.args.host c.args.done.now c.args.outcome c.args.latency_us c.args.hosts.now c.index-hosts-place.result c.if-place-hosts.true

pub returns-else-place-hosts : goal.returns-else-place-hosts
returns-else-place-hosts c = counted_past c.args.host c.args.done.now c.args.outcome c.args.latency_us c.args.hosts.now c.if-place-hosts.false
