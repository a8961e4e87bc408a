-- Faults of crawls.
use Rattle.std.specs.Prelude.{◌≡◌, Bool, true, false, not, Option, Some, None}
use Rattle.streams.specs.declared.stream_fault.StreamFault.{StreamFault}
use Rattle.streams.specs.declared.stream_fault.StreamFault.TheVariants.{Read}
use Rattle.crawl.specs.declared.fault.CrawlFault.{CrawlFault}
use Rattle.crawl.specs.declared.fault.CrawlFault.TheVariants as faults
use Rattle.commands.specs.declared.crawl_options.CrawlOptions.{CrawlOptions}

-- the fault of a line that could not be written, if the fault is of one
abbrev pub line_fault : Option CrawlFault → Option StreamFault
line_fault (Some (faults.Output kind)) = Some kind
line_fault _ = None

-- a fault that may end a step of a crawl: memory for its input, or its network
abbrev pub IsStepFault : CrawlFault → Type 0
IsStepFault (faults.Input Read) = ⊥
IsStepFault (faults.Output kind) = ⊥
IsStepFault (faults.BadUrl line) = ⊥
IsStepFault fault = Unit {0}

-- true unless this is a fault of a line, or of a bad URL although bad URLs are skipped
abbrev pub can_end : CrawlOptions → Option CrawlFault → Bool
can_end options None = true
can_end options (Some (faults.Output kind)) = false
can_end options (Some (faults.BadUrl line)) = not options.flags.skip_bad
can_end options (Some fault) = true

-- a fault that may end a crawl, other than of a line: a bad URL only if bad URLs are not skipped
abbrev pub CanEnd : CrawlOptions → CrawlFault → Type 0
CanEnd options fault = can_end options (Some fault) ≡ true
