-- The addresses of one thread after another are added.
use Rattle.std.proofs.Common.{◌≡◌, ◌∙◌, All, ap, arith, length, subst, sym}
use Rattle.std.proofs.lemmas.List.{length-append}
use Rattle.std.proofs.lemmas.List.Elements.{All-push}
use Rattle.socket.specs.declared.addresses.Addresses.{Addresses}
use Rattle.load_run.specs.LoadSites.{AreHostsOf}
use Rattle.load_run.proofs.load.sites.LoadSites.addresses.Goals as goal

pub loop-preserved : goal.loop-preserved
loop-preserved c =
    let Hosts = λ (own : Addresses). AreHostsOf c.args.each c.args.self.now.sites.items own.hosts.items in
    let Long = λ (own : Addresses). length own.hosts.items ≡ c.in-Some.hosts in
    let so_far = c.loop.invariant in
    let all = c.loop.all.items in
    let own = c.in_ok-own.own in
    let pushed = c.in_ok-push.ensures.items in
    record {
      count = omega (arith, so_far.count, ap length pushed ∙ length-append all _);
      hosts = subst (All Hosts) (sym pushed) (All-push Hosts all own so_far.hosts c.in_ok-own.ensures.hosts);
      number = subst (All Long) (sym pushed) (All-push Long all own so_far.number c.in_ok-own.ensures.number);
    }

pub returns-clause-number : goal.returns-clause-number
returns-clause-number c = λ k d below. c.loop.invariant.number k d below ∙ c.in-Some.ensures.1
