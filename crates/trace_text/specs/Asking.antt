-- The lines of a trace that ask, for what a log tells of it.
use Rattle.std.specs.Prelude.{ℕ, Bool, true, false, not, ◌&&◌, if◌then◌else◌, codes, List, ◌++◌}
use Rattle.std.specs.Fmt.{decimal}
use Rattle.persistence.specs.declared.facts.Facts.{Facts}
use Rattle.persistence.specs.declared.facts.Framing.{Framing}
use Rattle.persistence.specs.declared.facts.Framing.TheVariants.{UntilClose}
use Rattle.persistence.specs.Persistent.{is_persistent, persists_by_default}
use Rattle.conn_log.specs.declared.entry.Want.{Want}

-- the options of get that stand alone
abbrev pub fresh_word : Bool → List ℕ
fresh_word fresh = if fresh then codes " fresh" else codes ""

abbrev pub forbid_word : Bool → List ℕ
forbid_word forbid = if forbid then codes " forbid" else codes ""

-- get T S L at M age N life N, with the other options that the want has
abbrev pub get_line : ℕ → ℕ → Want → List ℕ
get_line host moment want =
    codes "get " ++ (decimal want.transfer ++ (codes " " ++ (decimal host ++ (codes " " ++ (decimal want.lane ++ (codes " at " ++ (decimal moment
    ++ (codes " age " ++ (decimal want.max_age ++ (codes " life " ++ (decimal want.max_life ++ (fresh_word want.fresh ++ (forbid_word want.forbid_reuse ++ codes "\n")))))))))))))

-- the body lasts until the connection ends
abbrev pub lasts_until_close : Framing → Bool
lasts_until_close UntilClose = true
lasts_until_close _ = false

-- of HTTP/1.0, and it does not ask to be kept alive
abbrev pub is_old : Facts → Bool
is_old f = not (persists_by_default f.version) && not f.keep_alive

-- the word of how a response ended: that it was truncated comes first, as it is the cause that the connection is closed
-- for; close stands for all that has no word of its own
abbrev pub kind_word : Facts → List ℕ
kind_word f =
    if not f.whole then codes "cut" else (
    if is_persistent f then codes "keep" else (
    if f.surplus then codes "surplus" else (
    if lasts_until_close f.framing then codes "eof" else (
    if is_old f then codes "old" else codes "close"))))

-- back T S KIND at M
abbrev pub back_line : ℕ → ℕ → ℕ → Facts → List ℕ
back_line host moment transfer facts =
    codes "back " ++ (decimal transfer ++ (codes " " ++ (decimal host ++ (codes " " ++ (kind_word facts ++ (codes " at " ++ (decimal moment ++ codes "\n")))))))
