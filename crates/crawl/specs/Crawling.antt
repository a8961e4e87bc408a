-- Crawls: their input, their state after each step, and their result.
use Rattle.std.specs.Prelude.{◌≡◌, ◌≢◌, ◌≤◌, ◌++◌, ◌∷◌, [], ℕ, List, length, min, false, Result, Ok, Err, IfErr, Option, Some, None}
use Rattle.std.specs.List.{All}
use Rattle.std.specs.List.Sorted.{IsPermutation}
use Rattle.conn_log.specs.Sound.{AreDistinct}
use Rattle.exchange.specs.declared.job.Job.{Job}
use Rattle.run_loop.specs.Taking.{JobResult}
use Rattle.streams.specs.Streams.{Stream}
use Rattle.crawl.specs.Faults.{CanEnd, line_fault}
use Rattle.client.specs.FileLines.{AreFirst, HasNoLine, ReadsFile, nothing_read, urls_in}
use Rattle.commands.specs.Given.{url_texts}
use Rattle.client.specs.Lines.{Text}
use Rattle.crawl.specs.Reading.{QueueShown}
use Rattle.crawl.specs.Results.{AreNumbered, job_numbers}
use Rattle.streams.specs.declared.stream_fault.StreamFault.TheVariants.{Read}
use Rattle.commands.specs.Urls.{IsBadText}
use Rattle.crawl.specs.Steps.{HasCrawled, HasJob, IsOfResult, HasRun}
use Rattle.crawl.specs.Written.{Written, OutputShown, AreWritten, tally_of, urls_in_flight, urls_written}
use Rattle.crawl.specs.declared.crawl.Crawl.{Crawl}
use Rattle.crawl.specs.declared.crawl.Crawled.{Crawled}
use Rattle.crawl.specs.declared.crawl.Step.{Step}
use Rattle.crawl.specs.declared.crawl.Step.TheVariants as steps
use Rattle.crawl.specs.declared.in_flight.InFlight.{InFlight}
use Rattle.crawl.specs.declared.fault.CrawlFault.{CrawlFault}
use Rattle.crawl.specs.declared.fault.CrawlFault.TheVariants as faults
use Rattle.commands.specs.declared.crawl_options.CrawlOptions.{CrawlOptions}
use Rattle.commands.specs.declared.crawl_options.UrlFile.{UrlFile}
use Rattle.commands.specs.declared.crawl_options.UrlFile.TheVariants as files

-- the input of a crawl: its options, its first URLs, the kind of the file that has more, and the bytes of that file, if
-- they are known
pub record CrawlGiven : Type 0 where
  pub options : CrawlOptions
  pub file : UrlFile
  pub words : List Text
  pub bytes : Option (List ℕ)

abbrev pub crawl_given : Crawl → Option (List ℕ) → CrawlGiven
crawl_given crawl bytes = record { options = crawl.options; file = crawl.file; words = url_texts crawl.urls.items; bytes = bytes }

-- the queue at the start of a crawl
abbrev pub queue_given : CrawlGiven → QueueShown
queue_given crawl = record { options = crawl.options; file = crawl.file; left = crawl.words; lines = nothing_read; queued = []; number = 0 }

-- Each URL that was read has its line, or is in flight, or is in the queue; and each line is of a result of its URL's job.
-- At most as many transfers are in flight as the options say; if this is one, lines are in the order of the URLs.
pub record AreAccounted (options : CrawlOptions) (jobs : List Job) (results : List JobResult) (given queued : List Text) (first : Stream) (now : OutputShown) : Type 0 where
  pub lines : List Written
  pub are : AreWritten lines first now.stream now.fault
  pub of_results : All (IsOfResult options jobs results) lines
  pub have_jobs : All (HasJob options jobs) now.in_flight
  pub each : IsPermutation given (urls_written lines ++ (urls_in_flight now.in_flight ++ queued))
  pub order : options.parallel ≡ 1 → given ≡ urls_written lines ++ (urls_in_flight now.in_flight ++ queued)
  pub at_most : length now.in_flight ≤ options.parallel
  pub tally : now.tally ≡ tally_of now.flags lines

-- a crawl has read some of its URLs, which are accounted for, and has given each job its own number; further reads of the
-- file will return these bytes, if they are known
pub record IsAt (crawl : CrawlGiven) (jobs : List Job) (results : List JobResult) (first : Stream) (source : Option (List ℕ)) (queue : QueueShown) (now : OutputShown) : Type 0 where
  pub options : queue.options ≡ crawl.options
  pub file : queue.file ≡ crawl.file
  pub flags : now.flags ≡ crawl.options.flags
  pub from_file : List Text
  pub none : crawl.file ≡ files.None → from_file ≡ []
  pub read : ReadsFile from_file nothing_read queue.lines crawl.bytes source
  pub given : List Text
  pub are : given ++ queue.left ≡ crawl.words ++ from_file
  pub accounted : AreAccounted crawl.options jobs results given queue.queued first now
  pub numbered : AreNumbered queue.number jobs

-- the same, with any queue and unread bytes
abbrev pub IsSomewhere : CrawlGiven → List Job → List JobResult → Stream → OutputShown → Type 0
IsSomewhere crawl jobs results first now = (source : Option (List ℕ)) × (queue : QueueShown) × IsAt crawl jobs results first source queue now

-- nothing is left: no URL is unread, of the words or of a file, in the queue or in flight
pub record IsOver (queue : QueueShown) (in_flight : List InFlight) : Type 0 where
  pub none_left : queue.left ≡ []
  pub no_line : queue.file ≢ files.None → HasNoLine queue.lines
  pub none_queued : queue.queued ≡ []
  pub none_in_flight : in_flight ≡ []

-- no URL that was read is left in the queue or in flight, nor any of the words
pub record IsEmptied (queue : QueueShown) (in_flight : List InFlight) : Type 0 where
  pub none_left : queue.left ≡ []
  pub none_queued : queue.queued ≡ []
  pub none_in_flight : in_flight ≡ []

-- of the URLs that were read, one that is bad is left in the queue, and none is in flight
pub record IsAtBadUrl (queue : QueueShown) (in_flight : List InFlight) : Type 0 where
  pub url : Text
  pub one_queued : queue.queued ≡ url ∷ []
  pub bad : ∥ IsBadText url ∥₁
  pub none_in_flight : in_flight ≡ []

-- the URLs that are left once a crawl is over, by the fault that ends its queue
abbrev pub LeavesUrls : Option CrawlFault → QueueShown → List InFlight → Type 0
LeavesUrls None queue in_flight = IsOver queue in_flight
LeavesUrls (Some (faults.Input Read)) queue in_flight = IsEmptied queue in_flight
LeavesUrls (Some (faults.BadUrl line)) queue in_flight = IsAtBadUrl queue in_flight
LeavesUrls (Some fault) queue in_flight = Unit {0}

-- the fault that ended a crawl, if one did
abbrev pub fault_in : Result (Unit {0}) CrawlFault → Option CrawlFault
fault_in (Ok done) = None
fault_in (Err fault) = Some fault

-- the jobs that a step begins
abbrev pub jobs_begun : Step → List Job
jobs_begun (steps.Fetch jobs) = jobs.items
jobs_begun _ = []

abbrev pub none_begun : Unit {0} → List Job
none_begun done = []

-- this is true if the step ends the crawl
abbrev pub IfEnd : Step → Type 0 → Type 0
IfEnd steps.End P = P
IfEnd _ P = Unit {0}

-- a step leads to this state, and begins these jobs
abbrev pub HasStepped : {A : Type 0} → (A → List Job) → CrawlGiven → List Job → List JobResult → Stream → Option (List ℕ) → QueueShown → OutputShown → Result A CrawlFault → Type 0
HasStepped begun crawl jobs results first source queue now (Ok a) = IsAt crawl (begun a ++ jobs) results first source queue now
HasStepped begun crawl jobs results first source queue now (Err fault) = IsSomewhere crawl jobs results first now

-- URLs were fetched up to this state; all of them, if nothing failed
pub record HasFetched {K : Type 0} (crawled : K → K → List Job → List JobResult → Type 0) (crawl : CrawlGiven) (first : Stream) (now : OutputShown) (result : Result (Unit {0}) CrawlFault) : Type 0 where
  pub jobs : List Job
  pub results : List JobResult
  pub ran : HasCrawled crawled jobs results
  pub source : Option (List ℕ)
  pub queue : QueueShown
  pub at : IsAt crawl jobs results first source queue now
  pub leaves : now.fault ≡ None → LeavesUrls (fault_in result) queue now.in_flight
  pub ended : IfErr result (CanEnd crawl.options)

-- a crawl ends at a bad URL, since bad URLs are not skipped; all URLs that were read before it have their lines
pub record EndsAtBadUrl (crawl : CrawlGiven) (left : List Text) : Type 0 where
  pub not_skipped : crawl.options.flags.skip_bad ≡ false
  pub url : Text
  pub unread : List Text
  pub left_is : left ≡ url ∷ unread
  pub bad : ∥ IsBadText url ∥₁

-- A crawl runs to its end. Each URL, of the words and then of the file, has at most one line, and exactly one if there is
-- no fault. Lines are written whole, except the last one if there is a fault of a line. Each is of a result of its URL's
-- job, or of a bad URL, if bad URLs are skipped. The transfers of all jobs have distinct numbers. If one transfer is in
-- flight at a time, lines are in the order of the URLs. The tally counts the lines. If the bytes of the file are known, its
-- URLs are the first in these bytes, and all of them if there is no fault. After a failed read, each URL that was read has
-- its line. A bad URL is a fault only if bad URLs are not skipped; each URL that was read before it has its line.
pub record Crawls {K : Type 0} (crawled : K → K → List Job → List JobResult → Type 0) (finished : K → List JobResult → Type 0) (crawl : CrawlGiven) (old new : Stream) (result : Crawled) : Type 0 where
  pub from_file : List Text
  pub none : crawl.file ≡ files.None → from_file ≡ []
  pub read : (bytes : List ℕ) → crawl.bytes ≡ Some bytes → AreFirst (urls_in bytes) from_file ((result.fault ≡ None) × (crawl.file ≢ files.None))
  pub lines : List Written
  pub left : List Text
  pub are : AreWritten lines old new (line_fault result.fault)
  pub each : IsPermutation (crawl.words ++ from_file) (urls_written lines ++ left)
  pub order : crawl.options.parallel ≡ 1 → crawl.words ++ from_file ≡ urls_written lines ++ left
  pub whole : result.fault ≡ None → left ≡ []
  pub failed_read : result.fault ≡ Some (faults.Input Read) → left ≡ []
  pub bad_url : (number : ℕ) → result.fault ≡ Some (faults.BadUrl number) → EndsAtBadUrl crawl left
  pub tally : result.tally ≡ tally_of crawl.options.flags lines
  pub jobs : List Job
  pub distinct : AreDistinct (job_numbers jobs)
  pub results : List JobResult
  pub of_results : All (IsOfResult crawl.options jobs results) lines
  pub ran : HasRun crawled finished jobs results

-- number of hosts for which a cache has places: at most one for each URL, if there is no file
abbrev pub hosts_of : UrlFile → ℕ → ℕ → ℕ
hosts_of files.None urls most = min urls most
hosts_of _ urls most = most
