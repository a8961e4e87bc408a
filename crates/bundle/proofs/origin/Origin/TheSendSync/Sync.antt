-- It owns nothing, so several threads may have a reference to it.
use denote.Param.Send.{IsSync, part_keyless}
use Rattle.bundle.specs.contracts.origin.Origin.{the_row}
use Rattle.bundle.proofs.origin.Origin.TheSendSync.Send.{send}

pub sync : IsSync the_row
sync = record { shared = λ d b o κ q. part_keyless the_row send q d b o }
