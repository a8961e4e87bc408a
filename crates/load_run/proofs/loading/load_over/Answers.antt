-- The figures and the account of a load are those of its run.
use Rattle.std.proofs.Common.{rules, ◌≡◌, ◌≤◌, ◌∙◌, arith, length, refl, vec_len}
use Rattle.load_run.specs.ManyLoads.{counting_of, workers_of}
use Rattle.load_run.proofs.CarriedOut.{as_many, has_carried_out}
use Rattle.load_run.proofs.ManyRefusals.{good_workers, not_begun}
use Rattle.load_run.proofs.Refusals.{handed_on}
use Rattle.load_run.proofs.WhatMayBeLoaded.{has_run, loaded_many_by, may_stop_by}
use Rattle.load_run.proofs.loading.load_over.Goals as goal

pub returns-clause-ok : goal.returns-clause-ok
returns-clause-ok g c =
    let plan = c.args.plan in
    let names = g.N.Names.names in
    let parts = c.in_ok-source.field-0 in
    let tools = parts.tools in
    let ran = c.in_ok-ran.ran in
    let report = c.in-Ok-run_many.report in
    let jobs = c.job_count-jobs.result in
    let account = c.account_of.ensures in
    let here : length tools.items ≡ vec_len tools = search rules in
    let many : length tools.items ≡ workers_of plan = here ∙ c.in_ok-source.ensures.number in
    let carried_out = has_carried_out _ _ _ names _ jobs _ _ tools.items report.workers.items _ _ c.in-Ok-run_many.ensures.ok (λ own. refl) (λ own. (refl, refl)) parts.collected ran.collected ran.drawn plan.sites (counting_of plan)
    c.in_ok-ran.ensures.collects c.in_ok-ran.ensures.drawn c.in_ok-ran.ensures.sound c.in_ok-source.ensures.none c.in_ok-source.ensures.uncounted in
    let has = has_run _ _ _ names plan parts.source.each parts.source.urls.now parts.source.first.now jobs (length tools.items) ran.collected ran.drawn c.in_ok-source.ensures.each c.in_ok-source.ensures.urls parts.source.some c.job_count-jobs.ensures many carried_out in
    let by = loaded_many_by _ _ _ names plan ran jobs c.account_of.result c.job_count-jobs.ensures has tt account.drawn account.figures account.elapsed account.missed account.logs account.gathered account.hosts in
    may_stop_by _ _ names plan g.V.Watch.may_end _ _ _ _ c.account_of.result c.new-timer.ensures.times c.new-timer.ensures.watch by

pub returns-clause-refused : goal.returns-clause-refused
returns-clause-refused g c = c.account_of.ensures.refused (workers_of c.args.plan)

pub returns-clause-workers : goal.returns-clause-workers
returns-clause-workers g c = good_workers (vec_len c.in_ok-source.field-0.tools) c.args.plan.connections (workers_of c.args.plan) c.account_of.result c.in_ok-source.ensures.number c.in-Ok-run_many.ensures.bad_workers

pub returns-in_err-source-clause-refused : goal.returns-in_err-source-clause-refused
returns-in_err-source-clause-refused g c =
    handed_on (workers_of c.args.plan) c.in_err-source.field-0.0 c.from_residual.result c.from_residual.ensures.1 (c.in_err-source.ensures.refused (workers_of c.args.plan))

pub returns-in-Err-clause-refused : goal.returns-in-Err-clause-refused
returns-in-Err-clause-refused g c =
    let plan = c.args.plan in
    let tools = c.in_ok-source.field-0.tools in
    let many : vec_len tools ≡ workers_of plan = c.in_ok-source.ensures.number in
    let few : vec_len tools ≤ plan.connections = omega (arith, many) in
    not_begun (vec_len tools) plan.connections (workers_of plan) c.in-Err.refused.fault c.not_begun.result many few c.not_begun.ensures c.in-Err.ensures.err

pub ran-requires-clause-room : goal.ran-requires-clause-room
ran-requires-clause-room g c =
    let tools = c.in_ok-source.field-0.tools in
    let same = as_many _ _ _ g.N.Names.names _ c.job_count-jobs.result _ _ tools.items c.in-Ok-run_many.report.workers.items _ _ c.in-Ok-run_many.ensures.ok in
    omega (arith, same, c.in_ok-source.ensures.room)
