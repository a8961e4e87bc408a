-- The transfers whose acquires are halfway: each has a booking at its host.
use Rattle.std.specs.Prelude.{◌≡◌, ℕ, false, ◌==◌, if◌then◌else◌, List, [], ◌∷◌, None}
use Rattle.conn_log.specs.declared.entry.Entry.{Entry}
use Rattle.conn_log.specs.Connections.{is_among, held_number}
use Rattle.conn_log.specs.Waiting.{waits}

-- a transfer whose acquire is halfway neither holds nor waits, and has one booking
abbrev pub AreBooked : List Entry → List ℕ → Type 0
AreBooked log [] = Unit {0}
AreBooked log (t ∷ others) = (held_number log t ≡ None) × (waits log t ≡ false) × (is_among t others ≡ false) × AreBooked log others

-- the others whose acquires are halfway
abbrev pub without_booked : ℕ → List ℕ → List ℕ
without_booked transfer [] = []
without_booked transfer (t ∷ others) = if t == transfer then others else t ∷ without_booked transfer others
