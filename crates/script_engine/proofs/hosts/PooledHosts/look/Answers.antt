use Rattle.std.proofs.Common.{◌≡◌, List, refl, sym, ◌∙◌, ap, subst, string_bytes, Ok, Err}
use Rattle.conn_log.specs.declared.entry.Entry.{Entry}
use Rattle.conn_log.specs.Legal.{LimitAndFirst}
use Rattle.host_state.specs.Calls.{is_queued}
use Rattle.host_state.specs.Counts.{snapshot_of}
use Rattle.cache.specs.AllHosts.{terms, log_at}
use Rattle.cache.specs.Pools.{host_at, all_hosts}
use Rattle.cache.proofs.OneHost.{log_is}
use Rattle.cache.proofs.Keeping.{stays_pool}
use Rattle.script_text.specs.Printing.{look_line}
use Rattle.script_text.specs.declared.command.Action.TheVariants as actions
use Rattle.script_engine.specs.Hosted.{Hosted, GivesAt}
use Rattle.script_engine.specs.Meaning.{at_site}
use Rattle.script_engine.proofs.Answering.{gives-answer, look-told, look-stays}
use Rattle.script_engine.proofs.PooledSites.{shown, seen-host, seen-beside}
use Rattle.script_engine.proofs.hosts.PooledHosts.look.Goals as goal

pub returns-in-Ok-to_string : goal.returns-in-Ok-to_string
returns-in-Ok-to_string c =
    let pool = c.self.inside.pool in
    let site = c.args.site in
    let hosts = shown pool c.self.inside.kept.items in
    let s = c.in-Ok.counts in
    let there = seen-host pool c.self.inside.kept.items c.self.inside.told.items c.self.invariant c.args.self.now c.self.view_is site c.requires.there in
    let settings : (host_at pool site).settings ≡ terms pool.limits = (c.log-log.ensures.places site there).settings in
    let counts : s ≡ snapshot_of (log_at (all_hosts pool) site) (is_queued (terms pool.limits) (log_at (all_hosts pool) site)) =
    c.in-Ok.ensures.there.1 ∙ ap (λ (l : LimitAndFirst). snapshot_of (host_at pool site).log (is_queued l (host_at pool site).log)) settings
    ∙ ap (λ (log : List Entry). snapshot_of log (is_queued (terms pool.limits) log)) (sym (log_is pool site)) in
    subst (λ (h : Hosted). GivesAt string_bytes c.args.self.now site actions.Look (Ok c.in-Ok-to_string.text) h) c.self.view_is
    (seen-beside pool c.self.inside.kept.items c.self.inside.told.items c.self.invariant c.args.self.now c.self.view_is string_bytes site actions.Look (Ok c.in-Ok-to_string.text) pool (stays_pool pool)
    (gives-answer string_bytes pool.limits site (at_site hosts.hosts site) actions.Look (at_site hosts.hosts site) (look_line site s.alive s.idle s.leased s.waiting s.queued) (Ok c.in-Ok-to_string.text)
    (look-told pool.limits site (at_site hosts.hosts site) s counts) c.in-Ok-to_string.ensures.ok))

pub returns-in-Err : goal.returns-in-Err
returns-in-Err c =
    let pool = c.self.inside.pool in
    let site = c.args.site in
    let hosts = shown pool c.self.inside.kept.items in
    subst (λ (h : Hosted). GivesAt string_bytes c.args.self.now site actions.Look (Err _) h) c.self.view_is
    (seen-beside pool c.self.inside.kept.items c.self.inside.told.items c.self.invariant c.args.self.now c.self.view_is string_bytes site actions.Look (Err _) pool (stays_pool pool)
    (refl, look-stays pool.limits site (at_site hosts.hosts site)))
