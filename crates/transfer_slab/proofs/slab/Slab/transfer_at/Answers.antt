-- What stands at the place, as it is read there.
use Rattle.std.proofs.Common.{◌≡◌, refl, sym, subst, ap, ◌∙◌, length, slice_get, Option, Some, None, IfSome}
use Rattle.std.proofs.lemmas.Bool.{ltb-false}
use Rattle.std.proofs.lemmas.Option.{slice_get_read, slice_get_past}
use Rattle.exchange.specs.Transfers.{TransferShown}
use Rattle.transfer_slab.proofs.slab.Slab.transfer_at.Goals as goal

pub returns-in-Some-Some-clause-number : goal.returns-in-Some-Some-clause-number
returns-in-Some-Some-clause-number g c =
    let it = c.in-Some-Some.field-0 in
    let slots = c.deref.result.now in
    let there = slice_get_read slots (length slots) c.args.place it.now refl c.in-Some-Some.ensures.lookup.3.0 c.in-Some-Some.ensures.lookup.1 in
    (c.in-Some-Some.transfer, rw (← c.self.view_is, ← c.deref.ensures.value) (there ∙ ap Some c.in-Some-Some.field-0-is), c.number.ensures)

pub returns-in-Some-None-clause-none : goal.returns-in-Some-None-clause-none
returns-in-Some-None-clause-none g c =
    let it = c.in-Some-None.field-0 in
    let slots = c.deref.result.now in
    let there = slice_get_read slots (length slots) c.args.place it.now refl c.in-Some-None.ensures.lookup.3.0 c.in-Some-None.ensures.lookup.1 in
    let empty : slice_get slots c.args.place ≡ Some None = there ∙ ap Some c.in-Some-None.field-0-is in
    rw (← c.self.view_is, ← c.deref.ensures.value) (subst (λ (s : Option (Option (TransferShown g.row.W.Denot))). IfSome s (λ slot. slot ≡ None)) (sym empty) refl)

pub returns-in-None-clause-none : goal.returns-in-None-clause-none
returns-in-None-clause-none g c =
    let slots = c.deref.result.now in
    let out = sym (rw c.in-None.is at c.get.ensures.lookup.0) in
    let past : slice_get slots c.args.place ≡ None = slice_get_past slots c.args.place (ltb-false c.args.place (length slots) out) in
    rw (← c.self.view_is, ← c.deref.ensures.value) (subst (λ (s : Option (Option (TransferShown g.row.W.Denot))). IfSome s (λ slot. slot ≡ None)) (sym past) tt)
