-- What a transfer shows, and an exchange, which borrows its cache, its dial and its clock.
use Rattle.std.specs.Prelude.{Bool, Option}
use Rattle.std.specs.Borrow.{Bor, GName}
use Rattle.futures.specs.declared.task.waker.Waker.{Waker}
use Rattle.exchange.specs.declared.job.Prepared.{Prepared}
use Rattle.exchange.specs.declared.state.State.{State}

-- what was prepared, with its reader; where it stands; whether its last poll took all its steps, and whether it spent a
-- lease; and the waker that it left
pub record TransferShown (W : Type 0) : Type 0 where
  pub parts : Prepared
  pub state : Option (State W)
  pub has_yielded : Bool
  pub has_spent : Bool
  pub waker : Option Waker

-- the cache and the dial as they are now, and the names of their borrows; the clock; and the transfer
pub record ExchangeShown (W C D K : Type 0) : Type 0 where
  pub cache : C
  pub cache_name : GName
  pub dial : D
  pub dial_name : GName
  pub clock : Bor K
  pub transfer : TransferShown W
