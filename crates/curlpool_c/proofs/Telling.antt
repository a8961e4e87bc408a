-- The log whose lines were written is that of the site.
use Rattle.std.proofs.Common.{◌≡◌, ℕ, List, sym, subst}
use Rattle.conn_log.specs.Legal.{LimitAndFirst, IsLegal}
use Rattle.conn_log.specs.declared.entry.Entry.{Entry}
use Rattle.conn_log.specs.Log.{Recorded}
use Rattle.bundle.specs.Lease.{HostShown}
use Rattle.trace_text.specs.declared.writing.Told.{Told}
use Rattle.trace_text.specs.LogLines.{WritesLines}

pub writes_of_site : (host : HostShown ℕ) (log : Recorded) → log.entries ≡ host.log → log.cut_away ≡ host.cut_away → IsLegal host.settings host.log
    → (site from : ℕ) (told : Told) (old new : List ℕ) → ((settings : LimitAndFirst) → IsLegal settings log.entries → WritesLines site log.entries log.cut_away from told old new)
    → WritesLines site host.log host.cut_away from told old new
writes_of_site host log its cut legal site from told old new writes =
    subst (λ (entries : List Entry). WritesLines site entries host.cut_away from told old new) its
    (subst (λ (cut_away : ℕ). WritesLines site log.entries cut_away from told old new) cut (writes host.settings (subst (IsLegal host.settings) (sym its) legal)))
