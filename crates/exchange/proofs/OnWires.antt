-- What a lease's wire carried, from one step of it to the next.
use Rattle.std.proofs.Common.{◌≡◌, sym, ap, subst, ◌∙◌, List, ◌∷◌, Option, Some, None, IsSomeAnd}
use Rattle.bundle.specs.Lease.{Leasing}
use Rattle.exchange.specs.declared.job.Prepared.{Prepared}
use Rattle.exchange.specs.Wires.{Happening, Carried, carries_more, carried_by}
use Rattle.cache_trait.specs.CacheCalls.{CacheCall}
use Rattle.exchange.specs.Worlds.{World, HasHappened, OnWire}
use Rattle.exchange.specs.Story.{Has}
use Rattle.exchange.specs.Steps.{StepsWire}

-- of what a wire carried since its lease was given this holds
abbrev pub CarriesSo : {W : Type 0} → World W → Leasing W → (Carried → Type 0) → W → Type 0
CarriesSo world given P wire = (all : List Happening) × HasHappened world given wire all × P (carried_by all)

-- where this happened to the wire, and what holds follows
pub wire_steps : {W : Type 0} (world : World W) (given old new : Leasing W) (h : Happening) (P Q : Carried → Type 0) → ((c : Carried) → P c → Q (carries_more h c)) → StepsWire old new (λ before after. world.happened before after h) → OnWire world given old P → OnWire world given new Q
wire_steps {W} world given old new h P Q leads step on =
    let was : CarriesSo world given P step.before = subst (λ (s : Option W). IsSomeAnd s (CarriesSo world given P)) step.was on in
    let all : HasHappened world given step.after (h ∷ was.0) = record { first = was.1.first; begins = was.1.begins; happened = (step.before, was.1.happened, step.stepped) } in
    let is_now : CarriesSo world given Q step.after = (h ∷ was.0, all, leads (carried_by was.0) was.2) in
    subst (λ (s : Option W). IsSomeAnd s (CarriesSo world given Q)) (sym (ap (λ (lease : Leasing W). lease.stream) step.is_now)) is_now

-- where the one follows from the other
so_carried : {W : Type 0} (world : World W) (given : Leasing W) (P Q : Carried → Type 0) (stream : Option W) → ((c : Carried) → P c → Q c) → IsSomeAnd stream (CarriesSo world given P) → IsSomeAnd stream (CarriesSo world given Q)
so_carried world given P Q None leads on = on
so_carried world given P Q (Some wire) leads on = (on.0, on.1, leads (carried_by on.0) on.2)

pub on_wire_so : {W : Type 0} (world : World W) (given lease : Leasing W) (P Q : Carried → Type 0) → ((c : Carried) → P c → Q c) → OnWire world given lease P → OnWire world given lease Q
on_wire_so world given lease P Q leads on = so_carried world given P Q lease.stream leads on

-- a step of its wire leaves the lease what it was
pub same_still : {W : Type 0} (given old new : Leasing W) (P : W → W → Type 0) → StepsWire old new P → old ≡ record given { stream = old.stream } → new ≡ record given { stream = new.stream }
same_still {W} given old new P step same =
    let stream : new.stream ≡ Some step.after = ap (λ (lease : Leasing W). lease.stream) step.is_now in
    step.is_now ∙ ap (λ (lease : Leasing W). record lease { stream = Some step.after }) same ∙ ap (λ (s : Option W). record given { stream = s }) (sym stream)

pub has_still : {W : Type 0} (world : World W) (p : Prepared) (given old new : Leasing W) (calls : List (CacheCall W)) (P : W → W → Type 0) → StepsWire old new P → Has world p given old calls → Has world p given new calls
has_still world p given old new calls P step has = record { got = has.got; same = same_still given old new P step has.same }
