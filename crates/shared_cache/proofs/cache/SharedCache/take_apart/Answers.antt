use Rattle.std.proofs.Common.{◌≡◌, List, length, sym, ap, subst, ◌∙◌, rules}
use Rattle.bundle.specs.Passes.{Accounts}
use Rattle.shared_cache.specs.Gathering.{AreSettledFrom}
use Rattle.budget.specs.declared.permits.Held.{Held}
use Rattle.shared_cache.specs.declared.gathered.Gathered.{Gathered}
use Rattle.shared_cache.proofs.SettledHosts.{if_none, gathered}
use Rattle.shared_cache.proofs.cache.SharedCache.take_apart.Goals as goal

pub returns-clause-ok : goal.returns-clause-ok
returns-clause-ok g c =
    let names = g.N.Names.names in
    let hosts = c.open_hosts-hosts.result.0.items in
    let opened : AreSettledFrom names c.deref.result.now 0 hosts = if_none c.open_hosts-hosts.result.1 _ (λ reason is. search rules) c.open_hosts-hosts.ensures.settled in
    let settled = subst (λ (passes : List Accounts). AreSettledFrom names passes 0 hosts) c.deref.ensures.value opened in
    let joined = c.join_hosts-counts.ensures in
    let words = c.finish-words.ensures in
    let number : length hosts ≡ length names.hosts = search rules in
    let limits = c.self.invariant.limits in
    let it : Gathered g.row.S.Denot = record { hosts = c.join_hosts-counts.result.0; total = c.finish-words.result.total; kept = c.finish-words.result.kept; bundles = c.join_hosts-counts.result.1 } in
    gathered names c.args.passes.items hosts settled number it
    joined.bundles joined.counts (words.total ∙ ap (λ (h : Held). h.alive) joined.held) (words.kept ∙ ap (λ (h : Held). h.kept) joined.held)
    (rw (sym limits) words.total_within) (rw (sym limits) words.kept_within)
