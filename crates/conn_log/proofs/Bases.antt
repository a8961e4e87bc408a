-- What a base has of the entries that were cut away.
use Rattle.std.proofs.Common.{◌≡◌, ◌-◌, List, [], ◌∷◌, ◌++◌, length, refl, sym, ap, ◌∙◌}
use Rattle.std.proofs.lemmas.List.{take-append-drop}
use Rattle.conn_log.specs.declared.entry.Entry.{Entry}
use Rattle.conn_log.specs.Connections.{last_moment}
use Rattle.conn_log.specs.Waiting.{waiting, waiting_after, waiting_since}
use Rattle.conn_log.specs.Counts.{counts, counts_after, both_counts}
use Rattle.conn_log.specs.Bases.{Summary, base_after, lead, summary, rest_of, past_of}
use Rattle.conn_log.specs.Log.{Recorded}
use Rattle.conn_log.proofs.Tallies.{counted_none, counted_later}

-- the whole log is its rest behind what was cut away
pub whole : (log : Recorded) → rest_of log ++ past_of log ≡ log.entries
whole log = take-append-drop (length log.entries - log.cut_away) log.entries

-- a base that is led on from another
pub lead_append : (rest past : List Entry) → lead (summary past) rest ≡ summary (rest ++ past)
lead_append [] past = refl
lead_append (e ∷ rest) past = ap (base_after e) (lead_append rest past)

pub lead_waits : (base : Summary) (rest : List Entry) → (lead base rest).waiting ≡ waiting_since base.waiting rest
lead_waits base [] = refl
lead_waits base (e ∷ rest) = ap (waiting_after e.event) (lead_waits base rest)

pub lead_counts : (base : Summary) (rest : List Entry) → (lead base rest).counts ≡ both_counts base.counts (counts rest)
lead_counts base [] = sym (counted_none base.counts)
lead_counts base (e ∷ rest) = ap (counts_after e.event) (lead_counts base rest) ∙ sym (counted_later e.event base.counts (counts rest))

-- a base has the wants, the counts and the last moment of its entries
pub summary_waits : (log : List Entry) → (summary log).waiting ≡ waiting log
summary_waits [] = refl
summary_waits (e ∷ before) = ap (waiting_after e.event) (summary_waits before)

pub summary_counts : (log : List Entry) → (summary log).counts ≡ counts log
summary_counts [] = refl
summary_counts (e ∷ before) = ap (counts_after e.event) (summary_counts before)

pub summary_moment : (log : List Entry) → (summary log).last_moment ≡ last_moment log
summary_moment [] = refl
summary_moment (e ∷ before) = refl
