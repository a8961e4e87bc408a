-- It owns nothing, so several threads may have a reference to it.
use denote.Param.Send.{IsSync, part_keyless}
use Rattle.persistence.specs.contracts.reader.bytes_fed.BytesFed.{the_row}
use Rattle.persistence.proofs.reader.bytes_fed.BytesFed.TheSendSync.Send.{send}

pub sync : IsSync the_row
sync = record { shared = λ d b o κ q. part_keyless the_row send q d b o }
