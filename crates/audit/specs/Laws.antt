-- What an ending has to do with the rules of a log.
use Rattle.std.specs.Prelude.{◌≡◌, true, false, Some, None}
use Rattle.conn_log.specs.declared.entry.Want.{Want}
use Rattle.conn_log.specs.Legal.{ends_use, ending_cause}
use Rattle.script_text.specs.declared.command.Ending.{Ending}
use Rattle.audit.specs.declared.ended.Ended.{Ended}
use Rattle.audit.specs.Endings.{ended_by, cause_of_end, persistent, facts_of_end}

-- the facts of an end are those by which a log owes the close for its cause
abbrev pub AnEndIsOwed : Type 0
AnEndIsOwed =
    (ending : Ending) (want : Want) (ended : Ended)
    → ended_by ending want.forbid_reuse ≡ Some ended
    → (ends_use (facts_of_end ended) want ≡ true) × (ending_cause (facts_of_end ended) want ≡ cause_of_end ended)

-- with any other the connection stays open
abbrev pub OthersStay : Type 0
OthersStay =
    (ending : Ending) (want : Want)
    → ended_by ending want.forbid_reuse ≡ None
    → ends_use persistent want ≡ false
