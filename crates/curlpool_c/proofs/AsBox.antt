-- The handle and its parts own what a box at the same types owns.
use mir.Syntax.{impl, tnil, dnil}
use Rattle.std.proofs.Common.{◌≡◌, Option, None, Some, refl}
use Rattle.std.specs.Prelude.{IsSome}
use mathlib.Core.List.{[]}
use denote.Signature.{Slot, plain}
use Rattle.std_alloc.proofs.BoxSteps.Form.{Bx}
use Rattle.std_heap.specs.contracts.Global as Heap
use Rattle.std_heap.specs.contracts.GlobalAllocator.TheImpl.{ghosts, dict}
use Rattle.std_heap.proofs.Global.TheLaws as heap
use Rattle.curlpool_c.specs.contracts.inner.Inner as Inner
use Rattle.curlpool_c.proofs.inner.Inner.TheLaws as inner
use Rattle.curlpool_c.specs.contracts.held.parts.Parts as Parts
use Rattle.curlpool_c.specs.contracts.held.Held as Held

abbrev pub E : Bx
E = record { row = Inner.the_row; laws = inner.the_row_laws; al = record { row = Heap.the_row; laws = heap.the_row_laws; g = ghosts; d = dict; drops = impl [] tnil dnil } }

abbrev pub FromParts : Slot 0
FromParts = plain (λ _. Parts.the_row Inner.the_row Heap.the_row ghosts)

abbrev pub FromHeld : Slot 0
FromHeld = plain (λ _. Held.the_row)

-- where it is there, it is found
pub value_there : {A : Type 0} (value : Option A) → IsSome value → (x : A) × (value ≡ Some x)
value_there None there = cc
value_there (Some x) there = (x, refl)
