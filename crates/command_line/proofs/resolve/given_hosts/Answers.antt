use Rattle.std.proofs.Common.{◌∙◌, map, string_bytes, take, ap, subst, ℕ, List}
use Rattle.std.specs.Prelude.{MatchOption, Option, String}
use Rattle.std.specs.Global.{Global}
use Rattle.std.specs.List.{Any}
use Rattle.std.proofs.lemmas.List.{take_all}
use Rattle.clap.specs.Words.{Text}
use Rattle.command_line.specs.Resolving.{AreResolved, IsNoResolve, Resolves}
use Rattle.commands.specs.declared.resolved.Resolved.{Resolved}
use Rattle.command_line.proofs.Plans.{texts-more}
use Rattle.command_line.proofs.Resolves.{other_among, resolved_more, if-unread}
use Rattle.command_line.proofs.resolve.given_hosts.Goals as goal

pub returns-clause-hosts : goal.returns-clause-hosts
returns-clause-hosts c =
    let values = c.as_slice-value-items.result.now in
    let texts : List (String Global) → List Text = map string_bytes in
    subst (λ (said : List Text). AreResolved said c.loop-value.hosts.items)
    (ap texts (take_all c.loop-value.value-index values c.loop-value-test.false) ∙ ap texts c.as_slice-value-items.ensures.value ∙ c.in_ok-values.ensures) c.loop-value.invariant

pub returns-in_default-clause-refused : goal.returns-in_default-clause-refused
returns-in_default-clause-refused c =
    let values = c.as_slice-value-items.result.now in
    let value = c.value-item.result in
    let unread = if-unread c.in_ok-host.field-0 (IsNoResolve c.as_str-text.result.now) (Resolves c.as_str-text.result.now) c.in_ok-host.ensures c.in_default.not-Some in
    let texts : List (String Global) → List Text = map string_bytes in
    subst (Any IsNoResolve) (ap texts c.as_slice-value-items.ensures.value ∙ c.in_ok-values.ensures)
    (other_among values c.loop-value.value-index value c.loop-value-test.true c.value-item.is (subst (λ (t : List ℕ). IsNoResolve t) c.as_str-text.ensures.value unread))

pub loop-value-preserved : goal.loop-value-preserved
loop-value-preserved c =
    let values = c.as_slice-value-items.result.now in
    let k = c.loop-value.value-index in
    let value = c.value-item.result in
    let host = c.in-Some.host in
    let found : Resolves c.as_str-text.result.now host = subst (λ (o : Option Resolved). MatchOption o (IsNoResolve c.as_str-text.result.now) (Resolves c.as_str-text.result.now)) c.in-Some.is c.in_ok-host.ensures in
    let resolves = subst (λ (t : List ℕ). Resolves t host) c.as_str-text.ensures.value found in
    rw (texts-more values k value c.loop-value-test.true c.value-item.is, c.in-Ok.ensures.items)
    (resolved_more (map string_bytes (take k values)) c.loop-value.hosts.items (string_bytes value) host c.loop-value.invariant resolves)
