-- The lines of a log, one entry after the other.
use Rattle.std.proofs.Common.{◌≡◌, ℕ, ◌+◌, ◌<◌, false, List, [], ◌∷◌, ◌++◌, length, take, get_or, reverse, sym, ap, ◌∙◌, append-nil, append_assoc}
use Rattle.std.proofs.lemmas.List.{reverse-append, take_more}
use Rattle.conn_log.specs.declared.entry.Entry.{Entry}
use Rattle.conn_log.specs.declared.entry.Event.TheVariants.{Opened}
use Rattle.conn_log.proofs.Logs.{reverse_take_more}
use Rattle.trace_text.specs.HostLines.{lines_of, part_lines}

-- the default entry of a loop over entries, past their end
abbrev pub no_entry : Entry
no_entry = record { moment = 0; event = Opened 0 (record { transfer = 0; max_age = 0; max_life = 0; lane = 0; fresh = false; forbid_reuse = false }) }

part_lines_push : (host : ℕ) (before part : List Entry) (e : Entry) → part_lines host before (part ++ (e ∷ [])) ≡ part_lines host before part ++ lines_of host (reverse part ++ before) e
part_lines_push host before [] e = append-nil (lines_of host before e)
part_lines_push host before (next ∷ part) e =
    ap (λ text. lines_of host before next ++ text) (part_lines_push host (next ∷ before) part e)
    ∙ sym (append_assoc (lines_of host before next) (part_lines host (next ∷ before) part) (lines_of host (reverse part ++ (next ∷ before)) e))
    ∙ ap (λ log. (lines_of host before next ++ part_lines host (next ∷ before) part) ++ lines_of host log e) (sym (ap (λ log. log ++ before) (reverse-append (next ∷ []) part) ∙ append_assoc (reverse part) (next ∷ []) before))

-- one more entry
pub entry_written : (host : ℕ) (before : List Entry) (old now new : List ℕ) (part : List Entry) (index : ℕ) (entry : Entry) → index < length part → now ≡ old ++ part_lines host before (take index part)
    → new ≡ now ++ lines_of host (reverse (take index part) ++ before) (get_or part index entry) → new ≡ old ++ part_lines host before (take (index + 1) part)
entry_written host before old now new part index entry within so_far written =
    let some : List Entry = take index part in
    let next : Entry = get_or part index entry in
    written
    ∙ ap (λ text. text ++ lines_of host (reverse some ++ before) next) so_far
    ∙ append_assoc old (part_lines host before some) (lines_of host (reverse some ++ before) next)
    ∙ ap (λ lines. old ++ lines) (sym (part_lines_push host before some next))
    ∙ ap (λ front. old ++ part_lines host before front) (sym (take_more part index entry within))

-- the log with one more entry
pub log_so_far : (before part : List Entry) (index : ℕ) (entry : Entry) → index < length part → reverse (take (index + 1) part) ++ before ≡ get_or part index entry ∷ (reverse (take index part) ++ before)
log_so_far before part index entry within = ap (λ log. log ++ before) (reverse_take_more part index entry within)
