use Rattle.std.proofs.Common.{slice_set, ap, ◌∙◌, arith}
use Rattle.load_figures.proofs.Lists.{each_joined, each_past, each_up_to, each_up_to-all}
use Rattle.load_figures.specs.Counts.{joined}
use Rattle.load_figures.proofs.figures.join_each.Goals.{then-place-hosts, else-place-hosts}
use Rattle.load_figures.proofs.figures.join_each.Goals as goal

pub loop-place-preserved : goal.loop-place-preserved
loop-place-preserved c = elim c.if-place-hosts.branch [
  | then-place-hosts w ↦
      w.hosts-is
      ∙ ap (λ counts. slice_set c.loop-place.hosts c.loop-place.place counts) w.join.ensures
      ∙ each_joined c.loop-place.place joined c.args.hosts.now c.args.others.now c.loop-place.hosts w.index-hosts-place.result c.index-others-place.result c.loop-place.invariant
      (omega (arith, w.if-place-hosts.true, c.loop-place.auto.hosts)) (omega arith) c.index-others-place.is
  | else-place-hosts w ↦
      w.hosts-is
      ∙ each_past c.loop-place.place joined c.args.hosts.now c.args.others.now c.loop-place.hosts c.loop-place.invariant (omega (arith, w.if-place-hosts.false, c.loop-place.auto.hosts))
]

pub returns : goal.returns
returns c =
    c.loop-place.invariant
    ∙ ap (λ n. each_up_to n joined c.args.hosts.now c.args.others.now) (omega arith)
    ∙ each_up_to-all joined c.args.hosts.now c.args.others.now
