use Rattle.std.proofs.Common.{ap, subst, ◌∙◌}
use Rattle.std.specs.Prelude.{IfOk, OnErr}
use Rattle.cache_trait.specs.CacheCalls.{ClaimsBy}
use Rattle.cache_trait.specs.CacheCalls.CacheCall.{finds_strange_ticket}
use Rattle.cache.specs.PoolCalls.{home_of, DidToPool}
use Rattle.cache.proofs.PoolCalls.{claim_gives, claim_did, claim_stays, finds_stranger, comes_back}
use Rattle.cache.proofs.pool.Pool.claim.Goals as goal

pub returns-clause-claimed : goal.returns-clause-claimed
returns-clause-claimed g c = claim_gives c.self.inside.hosts c.claim.new.self c.args.ticket c.claim.result c.claim.ensures.done

pub returns-clause-done : goal.returns-clause-done
returns-clause-done g c =
    subst (λ p. IfOk c.claim.result (ClaimsBy (DidToPool p c.claim.new.self))) c.self.view_is (claim_did c.self.inside.hosts c.claim.new.self c.args.ticket c.claim.result c.claim.ensures.done)

pub returns-clause-strange : goal.returns-clause-strange
returns-clause-strange g c =
    subst (λ p. OnErr c.claim.result (DidToPool p c.claim.new.self (finds_strange_ticket c.args.ticket))) c.self.view_is (finds_stranger c.self.inside.hosts c.claim.new.self c.args.ticket c.claim.result c.claim.ensures.strange)

pub returns-clause-back : goal.returns-clause-back
returns-clause-back g c = comes_back c.self.inside.hosts c.claim.new.self c.args.ticket c.claim.result c.claim.ensures.strange

pub returns-clause-stays : goal.returns-clause-stays
returns-clause-stays g c = claim_stays c.self.inside.hosts c.claim.new.self c.args.ticket c.claim.result c.claim.ensures.done c.claim.ensures.strange ∙ ap (λ p. home_of p) c.self.view_is
