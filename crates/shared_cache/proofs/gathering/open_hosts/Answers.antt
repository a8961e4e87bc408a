use Rattle.std.proofs.Common.{ℕ, List, sym, subst, rules}
use Rattle.shared_cache.specs.Gathering.{AreSettledFrom, IsSettledAt, IsFree}
use Rattle.shared_cache.specs.Locked.{HostUnder}
use Rattle.shared_cache.proofs.SettledHosts.{one_more_settled}
use Rattle.shared_cache.proofs.gathering.open_hosts.Goals as goal
use Rattle.shared_cache.proofs.gathering.open_hosts.Goals.{then-not-is_settled, else-not-is_settled}

pub loop-lock-preserved : goal.loop-lock-preserved
loop-lock-preserved g c =
    let names = g.N.Names.names in
    let passes = c.args.passes.now in
    let at = c.loop-lock in
    let host = c.is_settled.new.self in (
      tt,
      tt,
      search rules,
      search rules,
      search rules,
      λ quiet none. elim c.if-not-is_settled.branch [
        | then-not-is_settled w ↦ absurd (search rules)
        | else-not-is_settled w ↦
            let so_far : AreSettledFrom names passes 0 at.hosts.items = at.invariant.5 (search rules) (search rules) in
            let free : IsFree c.in_use.new.self.host.log = subst (λ (h : HostUnder g.row.S.Denot). IsFree h.host.log) (sym c.in_use.ensures.same) (c.in_use.ensures.free (search rules)) in
            let is : IsSettledAt names passes at.place host = subst (IsSettledAt names passes at.place) (sym c.is_settled.ensures.same) (c.is_settled.ensures.settled (search rules) free) in
            subst (λ (items : List (HostUnder g.row.S.Denot)). AreSettledFrom names passes 0 items) (sym c.push_reserved.ensures.items)
            (one_more_settled names passes 0 at.hosts.items host so_far (subst (λ (p : ℕ). IsSettledAt names passes p host) (search rules) is))
      ],
    )
