-- What it does at the cache spends what it has.
use Rattle.std.proofs.Common.{rules}
use Rattle.exchange.specs.Exchanging.{Cancels}
use Rattle.exchange.proofs.Balanced.{spends_all}
use Rattle.exchange.proofs.transfer.Transfer.close.Goals as goal

pub returns-in-Some-Finished-clause-spends_all : goal.returns-in-Some-Finished-clause-spends_all
returns-in-Some-Finished-clause-spends_all g c =
    let cancels : Cancels g.C.Cache.did c.args.cache.now c.args.cache.now c.args.now c.args.self.state = search rules in
    spends_all g.C.Cache.did c.args.cache.now c.args.cache.now c.args.now c.args.self.state cancels

pub returns-clause-spends_all : goal.returns-clause-spends_all
returns-clause-spends_all g c =
    let after = c.match-state.cache in
    let cancels : Cancels g.C.Cache.did c.args.cache.now after c.args.now c.args.self.state = search rules in
    spends_all g.C.Cache.did c.args.cache.now after c.args.now c.args.self.state cancels
