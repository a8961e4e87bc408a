-- The plan of the run has the words of the command line, and the addresses of its sites.
use Rattle.std.proofs.Common.{refl}
use Rattle.std.proofs.lemmas.List.Elements.{All-weaker}
use Rattle.socket.specs.declared.addresses.Addresses.{Addresses}
use Rattle.load_run.specs.LoadSites.{AreHostsOf, AreLocated}
use Rattle.load_run.proofs.SitePlaces.{located}
use Rattle.load_run.proofs.load.running.many_plan.Goals as goal

pub returns : goal.returns
returns c =
    let jobs = c.args.plan.now.jobs.items in
    let resolved = c.args.plan.now.resolved.items in
    let sites = c.args.sites.now.sites.items in
    let each = c.hosts_each-each.result in
    record {
      limits = c.limits.ensures;
      urls = c.deref.ensures.value;
      jobs = c.jobs_of.ensures;
      threads = c.in-Ok.ensures.count;
      sites = c.requires.all;
      each = c.hosts_each-each.ensures;
      located = All-weaker (λ (own : Addresses). AreHostsOf each sites own.hosts.items) (λ (own : Addresses). AreLocated each jobs resolved own.hosts.items)
          (λ (own : Addresses). located each jobs resolved sites own.hosts.items c.requires.sites) c.in-Ok.addresses.items c.in-Ok.ensures.hosts;
      all_located = c.in-Ok.ensures.number;
      connections = c.unwrap_or.ensures;
      seconds = refl;
      warmup = refl;
      timeout = refl;
      rate = c.rate_of.ensures;
      fails = refl;
    }
