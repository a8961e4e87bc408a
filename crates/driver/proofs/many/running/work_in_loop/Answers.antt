-- A worker that was hired leaves what its loop did at a new desk.
use Rattle.std.proofs.Common.{rules, ◌≡◌, refl, sym, subst, ℕ, ◌<◌, List, [], Some, None}
use Rattle.exchange.specs.Dialling.{failed_turns}
use Rattle.exchange.specs.Worlds.{world_of}
use Rattle.cache_trait.specs.CacheCalls.{CacheCall}
use Rattle.shared_cache.specs.Desks.{DeskShown}
use Rattle.shared_cache.specs.DeskCalls.{DidAtDesk}
use Rattle.run_loop.specs.Going.{may_stop_at}
use Rattle.run_loop.specs.Moments.{TakesTimed}
use Rattle.run_loop.specs.Running.{IsRunning}
use Rattle.run_loop.specs.Taking.{ends_of}
use Rattle.run_loop.proofs.Going.{running_first}
use Rattle.driver.specs.ManyJobs.{given_out}
use Rattle.driver.specs.ManyWork.{Loops, hired_with, left_with}
use Rattle.driver.proofs.ManyWork.{is_new, loops_from, nothing_held}
use Rattle.driver.proofs.many.running.work_in_loop.Goals as goal

pub returns : goal.returns
returns g c =
    let names = g.N.Names.names in
    let world = world_of g.W.Wire.untouched g.W.Wire.happened (g.T.Clock.tells c.args.common.now.timer.now) in
    let may_stop = g.T.Timer.may_stop c.args.common.now.timer.now in
    let took = TakesTimed (g.T.MicroClock.tells_micros c.args.common.now.timer.now) g.F.Results.took in
    let claim = c.args.common.now.claim.now in
    let failures = failed_turns g.D.Dial.shown in
    let ready = c.begin-places.result in
    let hired = hired_with ready.places.slab.slots ready.results (failures ready.dial) ready.seat ready.pass in
    let new = is_new names claim c.args.worker.now hired c.requires.hired c.begin-places.ensures.was in
    let desk = c.new-desk.result in
    let did = λ (old new : DeskShown g.row.W.Denot) (call : CacheCall g.row.W.Denot). DidAtDesk {S = g.row.W.Denot} names old new call in
    let jobs = c.new-jobs.result in
    let run = c.run-end in
    let job_of = g.S.JobSource.job_at jobs.source.now jobs.worker in
    let source : jobs.source.now ≡ c.args.common.now.source.now = search rules in
    let drew = run.new.jobs in
    let begins : given_out jobs.held jobs.seat.drawn ≡ [] = search (rules, new) in
    let is = run.ensures.ends.ends desk ready.results (record {
      told = [];
      taken = refl;
      running = subst (λ (drawn : List ℕ). IsRunning did world may_stop job_of desk desk drawn [] []) (sym begins) (running_first did world may_stop job_of desk);
    }) in
    let held : drew.held ≡ None = nothing_held run.result (0 < drew.seat.past) (drew.held ≡ None) run.ensures.complete run.ensures.incomplete in
    let drawn : given_out drew.held drew.seat.drawn ≡ drew.seat.drawn = search rules in
    let gone = left_with run.new.results (failures run.new.dial) c.into_seat.result c.into_pass.result run.result in
    let gone_is : c.leave.new.self ≡ record { hired = None; left = Some gone } = search rules in
    let loops : Loops world may_stop names (g.S.JobSource.job_at c.args.common.now.source.now) took claim (ready.results, failures ready.dial) gone = record {
      work = record {
        begun = ready.results;
        ended = run.new.results;
        failed = failures ready.dial;
        failed_now = failures run.new.dial;
        drawn = drew.seat.drawn;
        told = is.told;
        pass = c.into_pass.result;
        end = run.result;
      };
      begun_is = refl;
      worked = record {
        worker = jobs.worker;
        before = desk;
        after = run.new.cache;
        new_pass = search (rules, new);
        pass_is = search rules;
        of_cache = search rules;
        taken = is.taken;
        running = subst (λ s. IsRunning did world (may_stop_at run.result may_stop) (g.S.JobSource.job_at s jobs.worker) desk run.new.cache drew.seat.drawn [] (ends_of is.told)) source
            (subst (λ (l : List ℕ). IsRunning did world (may_stop_at run.result may_stop) job_of desk run.new.cache l [] (ends_of is.told)) drawn is.running);
        stopped = run.ensures.stopped;
        turns = run.ensures.turns;
      };
      leaves = record {
        results = refl;
        failed = refl;
        pass = refl;
        end = refl;
        at = search (rules, new);
        share = search (rules, new);
        drawn = search rules;
        past = search rules;
      };
    } in
    record { looped = loops_from world may_stop names (g.S.JobSource.job_at c.args.common.now.source.now) took claim c.args.worker.now c.leave.new.self hired gone c.begin-places.ensures.was gone_is loops }
