use Rattle.std.proofs.Common.{rules, ◌≡◌, sym, subst, Some}
use Rattle.exchange.specs.Worlds.{world_of}
use Rattle.driver.specs.Hiring.{HasWorked}
use Rattle.driver.proofs.Carried.{if_none}
use Rattle.driver.proofs.running.work.Goals as goal

pub returns-clause-worked : goal.returns-clause-worked
returns-clause-worked g c =
    let after = c.draw_all.new.self in
    let pass = c.into_pass.result in
    let put : c.put_pass.new.self ≡ record after { pass = Some pass } = search rules in
    subst (HasWorked (world_of g.W.Wire.untouched g.W.Wire.happened (g.K.Clock.tells c.args.shared.now.clock.now)) (g.G.Gate.may_stop c.args.shared.now.gate.now) g.N.Names.names c.args.shared.now.claim.now c.args.shared.now.jobs.now) (sym put) (record {
      pass_is = search rules;
      claim_is = search rules;
      share_is = search rules;
      fit = c.draw_all.ensures.results;
      work = if_none after.quit (λ carried. record {
        before = c.new-desk.result;
        after = c.draw_all.new.cache;
        new_pass = search rules;
        pass_is = search rules;
        carried = carried;
      }) c.draw_all.ensures.carried;
      drawn = c.draw_all.ensures.drawn;
      past = c.draw_all.ensures.past;
    })
