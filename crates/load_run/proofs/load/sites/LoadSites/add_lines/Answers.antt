-- The lines of one site after another are added.
use Rattle.std.proofs.Common.{◌≡◌, ◌<◌, ◌∙◌, ◌++◌, List, ℕ, ap, get_or, length, string_bytes, subst}
use Rattle.trace_text.specs.HostLines.{site_line}
use Rattle.load_run.specs.declared.load.sites.LoadSite.{LoadSite}
use Rattle.load_run.proofs.SitePlaces.{line_of_site, site_lines_more}
use Rattle.load_run.proofs.load.sites.LoadSites.add_lines.Goals as goal

pub loop-site-preserved : goal.loop-site-preserved
loop-site-preserved c =
    let at = c.loop-site.site-index in
    let site = c.site-item.result in
    let sites = c.args.self.now.sites.items in
    let same = c.deref-site-items.ensures.value in
    let there : site ≡ get_or sites at site = c.site-item.is ∙ ap (λ (l : List LoadSite). get_or l at site) same in
    let now = string_bytes c.loop-site.text in
    site_lines_more (string_bytes c.args.text.now) now (string_bytes c.add_site.new.text) sites at site (subst (λ (l : List LoadSite). at < length l) same c.loop-site-test.true) c.loop-site.invariant
    (c.in_ok-add_site.ensures ∙ ap (λ (host : List ℕ). now ++ site_line host site.target.now.port) c.as_str.ensures.value ∙ ap (λ (s : LoadSite). now ++ line_of_site s) there)
