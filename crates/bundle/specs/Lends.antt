-- What a lease ends as, where a `&mut` to its stream is returned.
use Rattle.std.specs.Prelude.{Option, Some}
use Rattle.std.specs.Borrow.{LendsIf, Fml, RattleType, MutBor}
use Rattle.bundle.specs.Lease.{Using, Leasing}
use Rattle.bundle.specs.contracts.lease.Use.{the_row as use_row}
use Rattle.bundle.specs.contracts.lease.Lease.{the_row as lease_row}

-- once the borrow r ends, its stream is the last one written through r, and all else is as it was; at `None` all is
abbrev pub use_lends_stream : (S : RattleType) → MutBor (Using S.Denot) → Option (MutBor S.Denot) → Fml
use_lends_stream S used r = LendsIf (use_row S) S used r (λ (stream : S.Denot). record used.now { stream = Some stream }) used.now

abbrev pub lends_stream : (S : RattleType) → MutBor (Leasing S.Denot) → Option (MutBor S.Denot) → Fml
lends_stream S lease r = LendsIf (lease_row S) S lease r (λ (stream : S.Denot). record lease.now { stream = Some stream }) lease.now
