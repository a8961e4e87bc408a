-- What a ticket was claimed for is due, and of the ticket's transfer.
use Rattle.std.proofs.Common.{◌≡◌, ℕ, sym, ap, subst, ◌∙◌}
use Rattle.conn_log.specs.declared.entry.Want.{Want}
use Rattle.bundle.specs.declared.answers.Acquired.{Acquired}
use Rattle.bundle.specs.declared.answers.Acquired.TheVariants.{Lease, Wait}
use Rattle.bundle.specs.Lease.{Ticketed}
use Rattle.cache.specs.Pools.{PoolShown}
use Rattle.held_pool.specs.Due.{holder_of}
use Rattle.held_pool.specs.Calls.{ClaimsTicket}
use Rattle.held_pool.proofs.DueAfter.{ChangesOne}
use Rattle.held_pool.proofs.DueCalls.{got_lease, changes_nothing}

module _ (old new : PoolShown ℕ) (ticket : Ticketed) where
  pub claimed_change : (claimed : Acquired ℕ) → ClaimsTicket old new ticket claimed → ChangesOne old new (holder_of {S = ℕ} (Wait ticket)) × (holder_of claimed ≡ holder_of {S = ℕ} (Wait ticket))
  claimed_change (Lease lease) done =
      let same : holder_of (Lease lease) ≡ holder_of {S = ℕ} (Wait ticket) = ap (λ (s : ℕ). (s, lease.start.want.transfer)) done.1 ∙ ap (λ (w : Want). (ticket.site, w.transfer)) done.2 in
      (subst (λ (who : ℕ × ℕ). ChangesOne old new who) same (got_lease old new lease.site lease.start.want.transfer lease.start.number done.0.at_site done.0.leased.gets), same)
  claimed_change (Wait still) done = (
    subst (λ (pool : PoolShown ℕ). ChangesOne old pool (holder_of {S = ℕ} (Wait ticket))) (sym done.0.same) (changes_nothing old (holder_of {S = ℕ} (Wait ticket))),
    ap (λ (t : Ticketed). holder_of {S = ℕ} (Wait t)) done.1,
  )
