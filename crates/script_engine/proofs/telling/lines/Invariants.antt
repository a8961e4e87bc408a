use Rattle.std.proofs.Common.{◌≡◌, ℕ, ◌<◌, ◌≤◌, List, [], ◌++◌, length, drop, slice_index_or, string_bytes, Result, Ok, Err}
use Rattle.conn_log.specs.declared.entry.Entry.{Entry}
use Rattle.cache.specs.Pools.{logs_of}
use Rattle.script_text.specs.declared.fault.FaultKind.{FaultKind}
use Rattle.script_text.specs.declared.fault.FaultKind.TheVariants.{Memory}
use Rattle.script_engine.specs.Telling.{lines_told}
use Rattle.script_engine.proofs.telling.lines.Given as goal

-- the text and what is left to tell are the whole, unless memory ran out
abbrev pub IsTextSoFar : {T : Type 0} → (T → List ℕ) → Result T FaultKind → List ℕ → List ℕ → Type 0
IsTextSoFar bytes (Ok text) left whole = bytes text ++ left ≡ whole
IsTextSoFar bytes (Err kind) left whole = kind ≡ Memory

-- the first hosts were told by now, and the others were told as before
pub record TellsSoFar {T : Type 0} (bytes : T → List ℕ) (by : ℕ) (tolds : List ℕ) (logs : List (List Entry)) (site : ℕ) (now : List ℕ) (text : Result T FaultKind) : Type 0 where
  pub within : site ≤ length logs
  pub count : length now ≡ length logs
  pub told : (host : ℕ) → host < site → slice_index_or now host 0 ≡ length (slice_index_or logs host [])
  pub others : (host : ℕ) → site ≤ host → slice_index_or now host 0 ≡ slice_index_or tolds host 0
  pub text_is : IsTextSoFar bytes text (lines_told by site (drop site tolds) (drop site logs)) (lines_told by 0 tolds logs)

abbrev pub invariant-loop-site : goal.invariant-loop-site
invariant-loop-site l = TellsSoFar string_bytes l.by l.fn.told.items (logs_of l.pool.hosts) l.site l.told.items l.text
