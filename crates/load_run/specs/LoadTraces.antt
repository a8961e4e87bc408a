-- What is written as the trace of a load.
use Rattle.std.specs.Prelude.{◌≡◌, ◌⊎◌, ◌+◌, ◌<◌, ◌++◌, ℕ, List, [], ◌∷◌, length, reverse, slice_index_or, slice_set, Result, Ok, Err}
use Rattle.clap.specs.Words.{Text}
use Rattle.streams.specs.declared.stream_fault.StreamFault.{StreamFault}
use Rattle.streams.specs.declared.stream_fault.StreamFault.TheVariants as kinds
use Rattle.streams.specs.Streams.{PutFails, Puts, Stream}
use Rattle.conn_log.specs.declared.entry.Entry.{Entry}
use Rattle.trace_text.specs.HostLines.{limits_lines}
use Rattle.trace_text.specs.HostUses.{AreUsesOf}
use Rattle.trace_text.specs.declared.host_trace.HostTrace.{HostTrace}
use Rattle.commands.specs.declared.load_limits.LoadOptions.{LoadOptions}
use Rattle.load_run.specs.declared.load.tracing.LoadTrace.{LoadTrace}
use Rattle.load_run.specs.declared.load.tracing.LoadTrace.TheVariants.{Open, Failed}
use Rattle.load_run.specs.declared.load.tracing.OpenTrace.{OpenTrace}
use Rattle.load_run.specs.declared.load.fault.LoadFault.{LoadFault}
use Rattle.load_run.specs.declared.load.fault.LoadFault.TheVariants.{Load, Write}
use Rattle.driver.specs.declared.fault.DriverFault.TheVariants.{Memory}
use Rattle.load_run.specs.declared.error.LoadError.TheVariants.{Run}

-- the first lines of the trace: its limits are those of the load
abbrev pub first_lines : LoadOptions → Text
first_lines options = limits_lines options.host_limit options.total options.connects

-- the fault of a load whose trace was not put: memory ran out, or a write failed
abbrev pub fault_of : StreamFault → LoadFault
fault_of kinds.Memory = Load (Run Memory)
fault_of _ = Write

-- nothing was written, for lack of memory; or a write failed, and a front was
abbrev pub TraceFails : Text → Stream → Stream → LoadFault → Type 0
TraceFails text old new (Load (Run Memory)) = (new ≡ old) ⊎ PutFails old new text kinds.Memory
TraceFails text old new Write = PutFails old new text kinds.Write
TraceFails text old new fault = ⊥

-- the trace was written whole; or why not
abbrev pub WritesTrace : {A : Type 0} → Text → Stream → Stream → Result A LoadFault → Type 0
WritesTrace text old new (Ok done) = Puts old new text (Ok done)
WritesTrace text old new (Err fault) = TraceFails text old new fault

-- the hosts have no entries yet, and consecutive indices, the first of which is `index`
abbrev pub AreNewHosts : ℕ → List HostTrace → Type 0
AreNewHosts index [] = Unit {0}
AreNewHosts index (host ∷ hosts) = (host.host ≡ index) × AreUsesOf [] host.uses × AreNewHosts (index + 1) hosts

-- the next entries of that site's log are added to what was written of it; other sites stay as they were
pub record AddsPart (site : ℕ) (entries : List Entry) (old new : List HostTrace) : Type 0 where
  pub host : HostTrace
  pub there : site < length old
  pub at : host ≡ slice_index_or old site host
  pub next : HostTrace
  pub index : next.host ≡ host.host
  pub uses : (before : List Entry) → AreUsesOf before host.uses → AreUsesOf (reverse entries ++ before) next.uses
  pub hosts : new ≡ slice_set old site next

-- this holds of the trace, if no write has failed
abbrev pub IfOpen : LoadTrace → (OpenTrace → Type 0) → Type 0
IfOpen (Open trace) P = P trace
IfOpen (Failed failure) P = Unit {0}

-- entries are added to a trace, unless a write has failed, and then the trace stays as it is
abbrev pub GoesOn : ℕ → List Entry → LoadTrace → LoadTrace → Type 0
GoesOn site entries (Open old) new = IfOpen new (λ (trace : OpenTrace). AddsPart site entries old.hosts.items trace.hosts.items)
GoesOn site entries (Failed failure) new = new ≡ Failed failure
