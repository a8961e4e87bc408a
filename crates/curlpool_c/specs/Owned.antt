-- What a handle's place owns.
use base.Fml.{Lft, Fml, ftrue}
use base.Stored.{Coded}
use Rattle.std.specs.Coded.{coded_option}
use denote.RawPtr.{Ptr}
use Rattle.std.specs.Prelude.{Option, None, Some}
use Rattle.std.specs.Box.Ownership.{box_owns}
use Rattle.std.specs.Global.{Global}
use Rattle.std_heap.specs.contracts.GlobalAllocator.TheImpl.{ghosts}
use Rattle.curlpool_c.specs.contracts.inner.Inner.{the_row}

abbrev pub held_owns : Global → Ptr → Option the_row.Denot → Fml
held_owns alloc ptr None = ftrue
held_owns alloc ptr (Some inner) = box_owns (ghosts.dealloc_token alloc) the_row ptr inner

abbrev pub inner_coded : Coded (Option the_row.Denot)
inner_coded = coded_option the_row.coded
