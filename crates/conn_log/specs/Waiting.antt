-- What a log says of the transfers that wait.
use Rattle.std.specs.Prelude.{ℕ, Bool, not, ◌==◌, List, [], ◌∷◌, ◌++◌, filter}
use Rattle.std.specs.List.{list_any}
use Rattle.conn_log.specs.declared.entry.Want.{Want}
use Rattle.conn_log.specs.declared.entry.Event.{Event}
use Rattle.conn_log.specs.declared.entry.Event.TheVariants.{Opened, Leased, Waited, Left}
use Rattle.conn_log.specs.declared.entry.Entry.{Entry}

-- the wants of the other transfers
abbrev pub without : ℕ → List Want → List Want
without transfer wants = filter (λ (want : Want). not (want.transfer == transfer)) wants

-- waiting: the wants that waited and whose transfer neither started nor left since, first come first
abbrev pub waiting_after : Event → List Want → List Want
waiting_after (Waited want) wants = wants ++ want ∷ []
waiting_after (Opened c want) wants = without want.transfer wants
waiting_after (Leased c want) wants = without want.transfer wants
waiting_after (Left transfer) wants = without transfer wants
waiting_after _ wants = wants

abbrev pub waiting : List Entry → List Want
waiting [] = []
waiting (e ∷ before) = waiting_after e.event (waiting before)

-- the wants that wait once these entries have followed where others waited
abbrev pub waiting_since : List Want → List Entry → List Want
waiting_since before_them [] = before_them
waiting_since before_them (e ∷ before) = waiting_after e.event (waiting_since before_them before)

-- the transfer waits
abbrev pub waits : List Entry → ℕ → Bool
waits log transfer = list_any (λ (want : Want). want.transfer == transfer) (waiting log)
