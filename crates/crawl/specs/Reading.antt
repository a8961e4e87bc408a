-- The queue of a crawl: URLs that are read into it, and taken out of it.
use Rattle.std.specs.Prelude.{◌≡◌, ◌⊎◌, ◌++◌, ◌∷◌, [], ℕ, List, map, reverse, string_bytes, Option, Some, Bool, true}
use Rattle.std.specs.List.Sorted.{IsPermutation}
use Rattle.streams.specs.Streams.{Stream, OneMoreFailed}
use Rattle.streams.specs.declared.stream_fault.StreamFault.TheVariants.{Read}
use Rattle.client.specs.FileLines.{KnowsEnd, LinesShown, ReadsFile, lines_shown}
use Rattle.commands.specs.Given.{url_texts}
use Rattle.client.specs.Lines.{Text}
use Rattle.commands.specs.Urls.{IsBadText}
use Rattle.crawl.specs.declared.fault.CrawlFault.{CrawlFault}
use Rattle.crawl.specs.declared.fault.CrawlFault.TheVariants as faults
use Rattle.crawl.specs.declared.queue.Queue.{Queue}
use Rattle.crawl.specs.declared.queued.Queued.{Queued}
use Rattle.commands.specs.declared.crawl_options.CrawlOptions.{CrawlOptions}
use Rattle.commands.specs.declared.crawl_options.UrlFile.{UrlFile}
use Rattle.commands.specs.declared.crawl_options.UrlFile.TheVariants as files

-- a queue of URLs: the options, the kind of file, the unread URLs among the words, the unread lines of the file, and the
-- URLs that were read, in order; and the number of the next transfer
pub record QueueShown : Type 0 where
  pub options : CrawlOptions
  pub file : UrlFile
  pub left : List Text
  pub lines : LinesShown
  pub queued : List Text
  pub number : ℕ

abbrev pub url_queued : Queued → Text
url_queued one = string_bytes one.url

abbrev pub urls_queued : List Queued → List Text
urls_queued all = map url_queued all

abbrev pub queue_shown : Queue → QueueShown
queue_shown queue = record {
  options = queue.options;
  file = queue.file;
  left = url_texts (reverse queue.urls.items);
  lines = lines_shown queue.lines;
  queued = urls_queued queue.queued.items;
  number = queue.number;
}

-- a URL is added to the queue
pub record AddsUrl (url : Text) (old new : QueueShown) : Type 0 where
  pub queued : new.queued ≡ old.queued ++ (url ∷ [])
  pub left : new.left ≡ old.left
  pub lines : new.lines ≡ old.lines
  pub options : new.options ≡ old.options
  pub file : new.file ≡ old.file
  pub number : new.number ≡ old.number

-- a crawl is not to end, or it ends at the line of this URL, which is bad
abbrev pub StopsIfBad : Text → ℕ → Option CrawlFault → Option CrawlFault → Type 0
StopsIfBad url line old new = (new ≡ old) ⊎ ((new ≡ Some (faults.BadUrl line)) × ∥ IsBadText url ∥₁)

-- a crawl is not to end, or it ends since one more read failed
abbrev pub StopsIfUnread : Stream → Stream → Option CrawlFault → Option CrawlFault → Type 0
StopsIfUnread before after old new = (new ≡ old) ⊎ ((new ≡ Some (faults.Input Read)) × OneMoreFailed before after)

-- more of the file is read, and no URL
pub record ReadsOn (old new : QueueShown) (before after : Option (List ℕ)) : Type 0 where
  pub lines : ReadsFile [] old.lines new.lines before after
  pub queued : new.queued ≡ old.queued
  pub left : new.left ≡ old.left
  pub options : new.options ≡ old.options
  pub file : new.file ≡ old.file
  pub number : new.number ≡ old.number

-- more URLs are read: first from the command line, then from the file
pub record Reads (old new : QueueShown) (before after : Option (List ℕ)) : Type 0 where
  pub more : List Text
  pub from_file : List Text
  pub queued : new.queued ≡ old.queued ++ more
  pub left : more ++ new.left ≡ old.left ++ from_file
  pub none : old.file ≡ files.None → from_file ≡ []
  pub lines : KnowsEnd old.lines before → ReadsFile from_file old.lines new.lines before after
  pub options : new.options ≡ old.options
  pub file : new.file ≡ old.file
  pub number : new.number ≡ old.number

-- these URLs are taken out of the queue; if one transfer is in flight at a time, from its front
pub record TakesOut (taken : List Text) (old new : QueueShown) : Type 0 where
  pub each : IsPermutation old.queued (taken ++ new.queued)
  pub order : old.options.parallel ≡ 1 → old.queued ≡ taken ++ new.queued
  pub left : new.left ≡ old.left
  pub lines : new.lines ≡ old.lines
  pub options : new.options ≡ old.options
  pub file : new.file ≡ old.file

-- a bad URL is taken out of the queue, since bad URLs are skipped; if one transfer is in flight at a time, once none is
pub record TakesBad (is_idle : Bool) (url : Text) (old new : QueueShown) : Type 0 where
  pub takes : TakesOut (url ∷ []) old new
  pub skips : old.options.flags.skip_bad ≡ true
  pub number : new.number ≡ old.number
  pub idle : old.options.parallel ≡ 1 → is_idle ≡ true
  pub bad : ∥ IsBadText url ∥₁
