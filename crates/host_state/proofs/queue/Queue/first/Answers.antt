use Rattle.std.proofs.Common.{◌≡◌, List, ◌∷◌, subst, arith}
use Rattle.std.specs.Option.{IfSome, option_copied}
use Rattle.conn_log.specs.declared.entry.Want.{Want}
use Rattle.host_state.specs.Queue.{Waiters}
use Rattle.host_state.proofs.Waits.{first_of}
use Rattle.host_state.proofs.queue.Queue.first.Goals as goal

pub returns-clause-some : goal.returns-clause-some
returns-clause-some c =
    let read = first_of c.self.inside.order.items c.front.result (λ some. omega (arith, c.front.ensures.variant.0 some)) c.front.ensures.lookup in
    rw c.copied.ensures (subst (λ (v : Waiters). IfSome (option_copied c.front.result) (λ want. (others : List Want) × (v.wants ≡ want ∷ others))) c.self.view_is read)
