use Rattle.std.proofs.Common.{◌≡◌, ℕ, ◌<◌, length, ap, subst, ◌∙◌, arith}
use Rattle.std.proofs.lemmas.List.{length-replicate, length-set}
use Rattle.budget.specs.Accounts.{vacant, account_at, enrolled}
use Rattle.bundle.specs.Lease.{HostShown, IsNewHost}
use Rattle.cache.specs.NewHosts.{AreNewHosts, new_seat, first_number}
use Rattle.cache.proofs.NewHosts.{none_new, one_more_new}
use Rattle.cache.proofs.hosts.add_bundles.Goals as goal

pub loop-host-init : goal.loop-host-init
loop-host-init g c = record {
  new = none_new c.args.limits c.args.bundles.now.items c.args.pass.now c.args.hosts c.requires.empty c.requires.vacant;
  accounts = ap length c.requires.vacant ∙ length-replicate c.args.hosts vacant;
  room = c.requires.spare;
}

pub returns-in_err-bundle-clause-accounts : goal.returns-in_err-bundle-clause-accounts
returns-in_err-bundle-clause-accounts g c = c.loop-host.invariant.accounts

pub enrol-requires-clause-there : goal.enrol-requires-clause-there
enrol-requires-clause-there g c =
    let place = ap (λ (h : HostShown g.row.S.Denot). h.host) c.in_ok-bundle.ensures.new_host in
    omega (arith, place, c.loop-host.invariant.accounts, c.loop-host-test.true)

pub enrol-requires-clause-not_enrolled : goal.enrol-requires-clause-not_enrolled
enrol-requires-clause-not_enrolled g c =
    let place = ap (λ (h : HostShown g.row.S.Denot). h.host) c.in_ok-bundle.ensures.new_host in
    c.loop-host.invariant.new.not_yet c.in_ok-bundle.bundle.host (omega (arith, place))

pub push_reserved-requires : goal.push_reserved-requires
push_reserved-requires g c = omega (arith, c.loop-host.invariant.new.so_many, c.loop-host.invariant.room, c.loop-host-test.true)

pub loop-host-preserved : goal.loop-host-preserved
loop-host-preserved g c =
    let kept = c.loop-host.invariant in
    let host = c.in_ok-bundle.bundle in
    let pass = c.loop-host.pass in
    let inside : c.loop-host.host < length pass = omega (arith, kept.accounts, c.loop-host-test.true) in
    let new : IsNewHost c.args.limits.host c.loop-host.host first_number host = subst (λ (n : ℕ). IsNewHost n c.loop-host.host first_number host) c.host.ensures.host c.in_ok-bundle.ensures.new_host in
    record {
      new = one_more_new c.args.limits c.loop-host.host c.loop-host.bundles.items c.push_reserved.new.self.items host c.enrol.new.self pass c.enrol.new.pass kept.new new inside c.enrol.ensures.account c.push_reserved.ensures.items c.enrol.ensures.same;
      accounts = ap length c.enrol.ensures.account ∙ length-set pass host.host (enrolled (new_seat host) (account_at pass host.host)) ∙ kept.accounts;
      room = omega (arith, kept.room, c.push_reserved.ensures.capacity);
    }

pub returns-clause-new_hosts : goal.returns-clause-new_hosts
returns-clause-new_hosts g c =
    let kept = c.loop-host.invariant.new in
    let all : c.loop-host.host ≡ c.args.hosts = omega (arith, c.loop-host-test.false, c.loop-host.auto.host-end) in
    subst (λ (n : ℕ). AreNewHosts c.args.limits n c.loop-host.bundles.items c.loop-host.pass) all kept

pub returns-clause-accounts : goal.returns-clause-accounts
returns-clause-accounts g c = c.loop-host.invariant.accounts
