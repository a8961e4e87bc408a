use Rattle.std.proofs.Common.{◌≡◌, Bool, true, false, not, None, inl, inr, refl, sym, ap, subst, ◌∙◌}
use Rattle.std.specs.Prelude.{IsTrue}
use mathlib.Core.Bool.{false≢true}
use Rattle.log_judge.specs.AllHosts.{AllHosts, has_room, first_waiting}
use Rattle.log_judge.proofs.HostTotals.{none_waits}
use Rattle.log_judge.proofs.monitor.Monitor.none_waits_in_vain.Goals as goal

not_so : (test : Bool) → IsTrue (not test) → test ≡ false
not_so true is = absurd (false≢true is)
not_so false is = refl

pub returns-then-self-eq0-2 : goal.returns-then-self-eq0-2
returns-then-self-eq0-2 c =
    let counts = c.self.invariant in
    λ is. subst (λ (all : AllHosts). first_waiting (has_room all) 0 all.hosts ≡ None) c.self.view_is
    (none_waits _ 0 c.self.inside.hosts.items (sym counts.beside_idle ∙ c.if-self-eq0.true) (inr (sym counts.beside_room ∙ c.if-self-eq0-2.true)))

pub returns-else-self-eq0-2 : goal.returns-else-self-eq0-2
returns-else-self-eq0-2 c =
    let counts = c.self.invariant in
    let roomy = ap has_room c.self.view_is ∙ sym c.has_room.ensures in
    λ is. subst (λ (all : AllHosts). first_waiting (has_room all) 0 all.hosts ≡ None) c.self.view_is
    (none_waits _ 0 c.self.inside.hosts.items (sym counts.beside_idle ∙ c.if-self-eq0.true) (inl (roomy ∙ not_so c.has_room.result is)))
