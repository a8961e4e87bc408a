-- Batches of transfers that begin next, and the state that a queue keeps.
use Rattle.std.specs.Prelude.{◌≡◌, ◌⊎◌, ◌+◌, ◌++◌, ◌∷◌, [], ℕ, string_bytes}
use Rattle.exchange.specs.declared.job.Job.{Job}
use Rattle.client.specs.FileLines.{lines_shown}
use Rattle.client.specs.Lines.{Text}
use Rattle.crawl.specs.Reading.{url_queued}
use Rattle.crawl.specs.Steps.{IsJobOf}
use Rattle.crawl.specs.declared.in_flight.InFlight.{InFlight}
use Rattle.crawl.specs.declared.queue.Queue.{Queue}
use Rattle.crawl.specs.declared.queued.Queued.{Queued}
use Rattle.crawl.specs.declared.batch.Batch.{Batch}
use Rattle.commands.specs.declared.crawl_options.CrawlOptions.{CrawlOptions}

-- the transfer of that URL begins, with its job and the next number
pub record Begins (options : CrawlOptions) (url : Text) (number next : ℕ) (old new : Batch) : Type 0 where
  pub job : Job
  pub one : InFlight
  pub its_url : string_bytes one.url ≡ url
  pub its : IsJobOf options job one
  pub its_number : one.number ≡ number
  pub next_is : next ≡ number + 1
  pub jobs : new.jobs.items ≡ old.jobs.items ++ (job ∷ [])
  pub transfers : new.transfers.items ≡ old.transfers.items ++ (one ∷ [])
  pub waiting : new.waiting.items ≡ old.waiting.items

-- that URL waits, and no number is used
pub record Waits (url : Text) (number next : ℕ) (old new : Batch) : Type 0 where
  pub one : Queued
  pub its_url : url_queued one ≡ url
  pub next_is : next ≡ number
  pub jobs : new.jobs.items ≡ old.jobs.items
  pub transfers : new.transfers.items ≡ old.transfers.items
  pub waiting : new.waiting.items ≡ old.waiting.items ++ (one ∷ [])

abbrev pub BeginsOrWaits : CrawlOptions → Text → ℕ → ℕ → Batch → Batch → Type 0
BeginsOrWaits options url number next old new = Begins options url number next old new ⊎ Waits url number next old new

-- hosts keep their places
pub record KeepsHosts (old new : Queue) : Type 0 where
  pub table : new.hosts.table ≡ old.hosts.table
  pub in_use : new.hosts.in_use.items ≡ old.hosts.in_use.items

-- the unread and the queued URLs stay the same
pub record KeepsQueue (old new : Queue) : Type 0 where
  pub options : new.options ≡ old.options
  pub file : new.file ≡ old.file
  pub urls : new.urls.items ≡ old.urls.items
  pub lines : lines_shown new.lines ≡ lines_shown old.lines
  pub queued : new.queued.items ≡ old.queued.items
  pub stop : new.stop ≡ old.stop

-- the state stays the same except for the queued URLs
pub record KeepsOthers (old new : Queue) : Type 0 where
  pub options : new.options ≡ old.options
  pub file : new.file ≡ old.file
  pub urls : new.urls.items ≡ old.urls.items
  pub lines : lines_shown new.lines ≡ lines_shown old.lines
  pub stop : new.stop ≡ old.stop
  pub number : new.number ≡ old.number
  pub hosts : KeepsHosts old new

-- the state stays the same
pub record KeepsAll (old new : Queue) : Type 0 where
  pub queue : KeepsQueue old new
  pub hosts : KeepsHosts old new
