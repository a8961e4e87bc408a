-- The addresses of one host after another are added.
use Rattle.std.proofs.Common.{◌∙◌, ◌/◌, ℕ, List, ap, arith, length, refl, subst, sym}
use Rattle.std.proofs.lemmas.List.{length-append}
use Rattle.std.proofs.lemmas.Option.{slice_get_read}
use Rattle.load_run.specs.LoadSites.{IsSiteAt}
use Rattle.load_run.specs.declared.load.sites.LoadSite.{LoadSite}
use Rattle.load_run.proofs.SitePlaces.{hosts_more}
use Rattle.load_run.proofs.load.sites.LoadSites.addresses_once.Goals as goal

pub loop-host-preserved : goal.loop-host-preserved
loop-host-preserved c =
    let each = c.args.each in
    let sites = c.args.self.now.sites.items in
    let site = c.in-Some.site.now in
    let old = c.loop-host.addresses.hosts.items in
    let adds = c.in_ok-add_addresses.ensures in
    let so_far = c.loop-host.invariant in
    let place = c.loop-host.host / each in
    let list = c.deref.result.now in
    let found = slice_get_read list (length list) place site refl c.in-Some.ensures.lookup.3.0 c.in-Some.ensures.lookup.1 in
    let here = subst (λ (l : List LoadSite). IsSiteAt l place site) c.deref.ensures.value found in
    let at = subst (λ (n : ℕ). IsSiteAt sites (n / each) site) (sym so_far.number) here in
    record {
      hosts = hosts_more each sites site old c.add_addresses.new.addresses.hosts.items so_far.hosts at adds;
      number = omega (arith, so_far.number, ap length adds.added ∙ length-append old _);
    }
