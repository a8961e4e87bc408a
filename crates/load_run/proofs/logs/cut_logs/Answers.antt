use Rattle.std.proofs.Common.{rules, ◌≡◌, ◌+◌, ◌++◌, ◌∷◌, [], sym, subst, arith, length}
use Rattle.load_run.specs.Logs.{AreLogsFrom, IsLogOf}
use Rattle.load_run.proofs.CutLogs.{logs-more}
use Rattle.load_run.proofs.logs.cut_logs.Goals as goal

pub loop-site-preserved : goal.loop-site-preserved
loop-site-preserved g c =
    let S = g.row.S.Denot in
    let names = g.N.Names.names in
    let logs = c.loop-site.logs.items in
    let log = c.in_ok-log.log in
    let cut = c.in_ok-log.ensures.cut c.in_ok-log.ensures.there in
    let one : IsLogOf S names c.loop-site.site log.items = record { host = cut.0; inspected = cut.1; part = cut.2 } in
    let next : c.loop-site.site ≡ 0 + length logs = omega (arith, c.loop-site.invariant.count_is) in
    let more : AreLogsFrom S names 0 (logs ++ log ∷ []) = logs-more S names 0 logs log c.loop-site.invariant.so_far (subst (λ n. IsLogOf S names n log.items) next one) in
    record {
      so_far = subst (AreLogsFrom S names 0) (sym c.push_reserved.ensures.items) more;
      count_is = search rules;
      room = search rules;
    }
