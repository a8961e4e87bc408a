-- A load requests the plan's URLs, or a server that it starts.
use Rattle.std.proofs.Common.{rules}
use Rattle.std.proofs.lemmas.List.{nil_from_length}
use Rattle.load_run.specs.LoadRuns.{polled_world}
use Rattle.load_run.proofs.Outcomes.{of_own, of_urls}
use Rattle.load_run.proofs.load.system.load_on_system.Goals as goal

pub returns-then-not-is_empty : goal.returns-then-not-is_empty
returns-then-not-is_empty g c =
    of_urls polled_world c.args.plan c.load_sites.result (λ none. absurd (search (rules, none, c.is_empty.ensures, c.if-not-is_empty.true))) c.load_sites.ensures

pub returns : goal.returns
returns g c =
    let urls = c.args.plan.urls.items in
    let none = nil_from_length urls (search (rules, c.is_empty.ensures, c.if-not-is_empty.false)) in
    of_own polled_world c.args.plan c.own_server.new.plan c.in_ok-server.server c.scoped.result none c.in_ok-server.ensures.0 c.in_ok-server.ensures.1 c.scoped.ensures.1
