-- The end of a crawl.
use Rattle.std.proofs.Common.{◌≡◌, ℕ, List, [], ◌∷◌, ◌++◌, length, refl, ap, sym, ◌∙◌, subst, arith, rules, append_assoc, inl, inr}
use Rattle.std.specs.Prelude.{Bool, true, false, not, is_some, Option, Some, None, Result, Ok, Err, IsOk, IfErr}
use Rattle.std.specs.List.{AllZip}
use Rattle.std.specs.List.Sorted.{IsPermutation}
use Rattle.std.proofs.KnownBytes.{Appends-nil}
use Rattle.std.proofs.lemmas.List.{length-append}
use Rattle.std.proofs.lemmas.List.Elements.{All-cons, All-nil}
use Rattle.std.proofs.lemmas.List.Sorted.{IsPermutation-append_left, IsPermutation-refl}
use Rattle.exchange.specs.declared.job.Job.{Job}
use Rattle.run_loop.specs.Taking.{AllTaken, JobResult}
use Rattle.streams.specs.Streams.{Stream}
use Rattle.streams.specs.declared.stream_fault.StreamFault.{StreamFault}
use Rattle.streams.specs.declared.stream_fault.StreamFault.TheVariants.{Memory, Read, Write}
use Rattle.crawl.specs.Crawling.{CrawlGiven, Crawls, HasFetched, IfEnd, IsAt, IsAtBadUrl, IsEmptied, IsOver, IsSomewhere, LeavesUrls, fault_in, jobs_begun}
use Rattle.crawl.specs.Faults.{CanEnd, IsStepFault, line_fault}
use Rattle.client.specs.FileLines.{urls_in}
use Rattle.client.specs.Lines.{Text}
use Rattle.crawl.specs.Reading.{QueueShown}
use Rattle.crawl.specs.Steps.{HasCrawled, IsJobOf, IsMade, IsOfResult}
use Rattle.crawl.specs.Written.{AreWritten, OutputShown, TakesShown, TookAll, tally_of, urls_in_flight, urls_written}
use Rattle.crawl.specs.declared.crawl.Crawled.{Crawled}
use Rattle.crawl.specs.declared.crawl.Step.{Step}
use Rattle.crawl.specs.declared.crawl.Step.TheVariants as steps
use Rattle.crawl.specs.declared.fault.CrawlFault.{CrawlFault}
use Rattle.crawl.specs.declared.fault.CrawlFault.TheVariants as faults
use Rattle.crawl.specs.declared.fault.NetworkFault.{NetworkFault}
use Rattle.crawl.specs.declared.in_flight.InFlight.{InFlight}
use Rattle.commands.specs.declared.crawl_options.CrawlFlags.{CrawlFlags}
use Rattle.commands.specs.declared.crawl_options.CrawlOptions.{CrawlOptions}
use Rattle.client.proofs.FileLines.{first_in}
use Rattle.crawl.proofs.Positions.{at_takes}
use Rattle.crawl.proofs.Taken.{none_all, whole_all}

module _ {K : Type 0} (crawled : K → K → List Job → List JobResult → Type 0) where
  -- nothing was called yet
  pub none_called : HasCrawled crawled [] []
  none_called = record { calls = []; made = All-nil (IsMade crawled); jobs_are = refl; results_are = refl }

  -- one more call
  pub one_called : (before after : K) (more jobs : List Job) (came results : List JobResult) → HasCrawled crawled jobs results → crawled before after more came → HasCrawled crawled (more ++ jobs) (came ++ results)
  one_called before after more jobs came results ran is = record {
    calls = record { before = before; after = after; jobs = more; results = came } ∷ ran.calls;
    made = All-cons (IsMade crawled) (record { before = before; after = after; jobs = more; results = came }) ran.calls is ran.made;
    jobs_are = ap (λ l. more ++ l) ran.jobs_are;
    results_are = ap (λ l. came ++ l) ran.results_are;
  }

-- a crawl is at that queue, after some calls
pub record IsFetching {K : Type 0} (crawled : K → K → List Job → List JobResult → Type 0) (crawl : CrawlGiven) (first : Stream) (source : Option (List ℕ)) (queue : QueueShown) (now : OutputShown) : Type 0 where
  pub jobs : List Job
  pub results : List JobResult
  pub ran : HasCrawled crawled jobs results
  pub at : IsAt crawl jobs results first source queue now

-- one more call was made
pub fetches_on : {K : Type 0} (crawled : K → K → List Job → List JobResult → Type 0) (crawl : CrawlGiven) (first : Stream) (before after : K) (more jobs : List Job) (results : List JobResult) (source : Option (List ℕ)) (queue : QueueShown) (old now : OutputShown)
    → HasCrawled crawled jobs results → IsAt crawl (more ++ jobs) results first source queue old → TookAll (crawled before after more) old now → IsFetching crawled crawl first source queue now
fetches_on crawled crawl first before after more jobs results source queue old now ran at took = record {
  jobs = more ++ jobs;
  results = took.0 ++ results;
  ran = one_called crawled before after more jobs took.0 results ran took.1;
  at = at_takes crawl (more ++ jobs) results first source took.0 queue old now at took.2;
}

-- one more call was made, with the jobs that a step began
pub fetches_begun : {K : Type 0} (crawled : K → K → List Job → List JobResult → Type 0) (crawl : CrawlGiven) (first : Stream) (before after : K) (step : Step) (begun jobs : List Job) (results : List JobResult) (source : Option (List ℕ)) (queue : QueueShown) (old now : OutputShown)
    → HasCrawled crawled jobs results → jobs_begun step ≡ begun → IsAt crawl (jobs_begun step ++ jobs) results first source queue old → TookAll (crawled before after begun) old now → IsFetching crawled crawl first source queue now
fetches_begun crawled crawl first before after step begun jobs results source queue old now ran are at took =
    fetches_on crawled crawl first before after (jobs_begun step) jobs results source queue old now ran at (subst (λ (l : List Job). TookAll (crawled before after l) old now) (sym are) took)

-- all URLs were fetched
pub fetched_here : {K : Type 0} (crawled : K → K → List Job → List JobResult → Type 0) (crawl : CrawlGiven) (first : Stream) (source : Option (List ℕ)) (queue : QueueShown) (now : OutputShown) (result : Result (Unit {0}) CrawlFault) → IsFetching crawled crawl first source queue now → (now.fault ≡ None → LeavesUrls (fault_in result) queue now.in_flight)
    → IfErr result (CanEnd crawl.options) → HasFetched crawled crawl first now result
fetched_here crawled crawl first source queue now result f leaves ended = record { jobs = f.jobs; results = f.results; ran = f.ran; source = source; queue = queue; at = f.at; leaves = leaves; ended = ended }

-- a fault of a step can end a crawl, and is of no line
step_can_end : (options : CrawlOptions) (fault : CrawlFault) → IsStepFault fault → CanEnd options fault
step_can_end options (faults.Input kind) is = refl
step_can_end options (faults.Output kind) is = absurd is
step_can_end options (faults.Network fault) is = refl
step_can_end options (faults.BadUrl number) is = absurd is

-- nothing is known of the URLs that it leaves
step_leaves : (fault : CrawlFault) (queue : QueueShown) (in_flight : List InFlight) → IsStepFault fault → LeavesUrls (Some fault) queue in_flight
step_leaves (faults.Input Memory) queue in_flight is = tt
step_leaves (faults.Input Read) queue in_flight is = absurd is
step_leaves (faults.Input Write) queue in_flight is = tt
step_leaves (faults.Output kind) queue in_flight is = absurd is
step_leaves (faults.Network fault) queue in_flight is = tt
step_leaves (faults.BadUrl number) queue in_flight is = absurd is

pub of_no_line : (fault : CrawlFault) → IsStepFault fault → line_fault (Some fault) ≡ None
of_no_line (faults.Input kind) is = refl
of_no_line (faults.Output kind) is = absurd is
of_no_line (faults.Network fault) is = refl
of_no_line (faults.BadUrl number) is = absurd is

pub end_of_no_line : (options : CrawlOptions) (result : Result (Unit {0}) CrawlFault) → IfErr result (CanEnd options) → IfErr result (λ fault. line_fault (Some fault) ≡ None)
end_of_no_line options (Ok done) is = tt
end_of_no_line options (Err (faults.Input kind)) is = refl
end_of_no_line options (Err (faults.Output kind)) is = absurd (search (rules, is))
end_of_no_line options (Err (faults.Network fault)) is = refl
end_of_no_line options (Err (faults.BadUrl number)) is = refl

-- some URLs were fetched before a step failed
pub stopped_here : {K : Type 0} (crawled : K → K → List Job → List JobResult → Type 0) (crawl : CrawlGiven) (first : Stream) (jobs : List Job) (results : List JobResult) (now : OutputShown) (fault : CrawlFault) → HasCrawled crawled jobs results → IsSomewhere crawl jobs results first now → IsStepFault fault
    → HasFetched crawled crawl first now (Err fault)
stopped_here crawled crawl first jobs results now fault ran at is = record { jobs = jobs; results = results; ran = ran; source = at.0; queue = at.1; at = at.2; leaves = λ none. step_leaves fault at.1 now.in_flight is; ended = step_can_end crawl.options fault is }

-- a step that begins nothing
pub step_from : (step other : Step) (crawl : CrawlGiven) (jobs : List Job) (results : List JobResult) (first : Stream) (source : Option (List ℕ)) (queue : QueueShown) (now : OutputShown) → step ≡ other → IsAt crawl (jobs_begun step ++ jobs) results first source queue now → IsAt crawl (jobs_begun other ++ jobs) results first source queue now
step_from step other crawl jobs results first source queue now is at = subst (λ (s : Step). IsAt crawl (jobs_begun s ++ jobs) results first source queue now) is at

pub end_from : (step other : Step) (P : Type 0) → step ≡ other → IfEnd step P → IfEnd other P
end_from step other P is holds = subst (λ (s : Step). IfEnd s P) is holds

-- a step after which nothing is in flight
pub end_idle : (step : Step) (P : Type 0) (stop : Option CrawlFault) (queue : QueueShown) (in_flight : List InFlight) → in_flight ≡ [] → IfEnd step (LeavesUrls stop queue []) → IfEnd step (P → LeavesUrls stop queue in_flight)
end_idle (steps.Fetch jobs) P stop queue in_flight none leaves = tt
end_idle steps.Read P stop queue in_flight none leaves = tt
end_idle steps.End P stop queue in_flight none leaves = λ p. subst (LeavesUrls stop queue) (sym none) leaves

-- a step that begins the same jobs
pub same_jobs : (more others jobs : List Job) (crawl : CrawlGiven) (results : List JobResult) (first : Stream) (source : Option (List ℕ)) (queue : QueueShown) (now : OutputShown) → more ≡ others → IsAt crawl (more ++ jobs) results first source queue now → IsAt crawl (others ++ jobs) results first source queue now
same_jobs more others jobs crawl results first source queue now same at = subst (λ (l : List Job). IsAt crawl (l ++ jobs) results first source queue now) same at

-- no transfers are in flight, so none began
pub no_jobs : (options : CrawlOptions) (jobs : List Job) (old begun new : List InFlight) → new ≡ old ++ begun → AllZip (IsJobOf options) jobs begun → new ≡ [] → jobs ≡ []
no_jobs options [] old begun new is zip none = refl
no_jobs options (job ∷ jobs) old [] new is zip none = absurd zip
no_jobs options (job ∷ jobs) old (one ∷ begun) new is zip none =
    absurd (omega (arith, ap (λ (l : List InFlight). length l) (sym is ∙ none), length-append old (one ∷ begun)))

-- a fault is not none
pub fault_is : (fault : Option StreamFault) (P : Type 0) → is_some fault ≡ true → fault ≡ None → P
fault_is fault P some none = absurd (search (rules, some, none))

not_skipped : (skip : Bool) → not skip ≡ true → skip ≡ false
not_skipped false is = refl
not_skipped true is = absurd (search (rules, is))

-- a fault is one
some_not_none : (fault : NetworkFault) → Some (faults.Network fault) ≡ None → ⊥
some_not_none fault is = search (rules, is)

network_not_read : (fault : NetworkFault) → Some (faults.Network fault) ≡ Some (faults.Input Read) → ⊥
network_not_read fault is = search (rules, is)

network_not_bad : (fault : NetworkFault) (number : ℕ) → Some (faults.Network fault) ≡ Some (faults.BadUrl number) → ⊥
network_not_bad fault number is = search (rules, is)

-- without a fault, all URLs have their lines
over_if_ok : (ended : Result (Unit {0}) CrawlFault) (queue : QueueShown) (in_flight : List InFlight) → IsOk ended → LeavesUrls (fault_in ended) queue in_flight → IsOver queue in_flight
over_if_ok (Ok done) queue in_flight ok leaves = leaves
over_if_ok (Err fault) queue in_flight ok leaves = absurd (search (rules, ok))

-- the URLs without a line, if nothing is in flight
left_over : (in_flight : List InFlight) (queued left others : List Text) → in_flight ≡ [] → queued ≡ others → (urls_in_flight in_flight ++ queued) ++ left ≡ others ++ left
left_over in_flight queued left others none are = ap (λ (fs : List InFlight). (urls_in_flight fs ++ queued) ++ left) none ∙ ap (λ (l : List Text). l ++ left) are

-- URLs in flight or unread at the end have no line
module _ {K : Type 0} (crawled : K → K → List Job → List JobResult → Type 0) (finished : K → List JobResult → Type 0) (crawl : CrawlGiven) (first : Stream) where
  pub ends_so : (mid now : OutputShown) (ended : Result (Unit {0}) CrawlFault) (last : K) (came : List JobResult) (result : Crawled) → HasFetched crawled crawl first mid ended → finished last came → AllTaken TakesShown mid now came
      → result.tally ≡ now.tally → line_fault result.fault ≡ now.fault → (result.fault ≡ None → IsOk ended) → (result.fault ≡ Some (faults.Input Read) → ended ≡ Err (faults.Input Read))
      → ((number : ℕ) → result.fault ≡ Some (faults.BadUrl number) → ended ≡ Err (faults.BadUrl number)) → Crawls crawled finished crawl first now.stream result
  ends_so mid now ended last came result f finishes taken counted line done failed bad =
      let at = at_takes crawl f.jobs f.results first f.source came f.queue mid now f.at taken in
      let a = at.accounted in
      let urls = urls_written a.lines in
      let rest = urls_in_flight now.in_flight ++ f.queue.queued in
      let leaves : line_fault result.fault ≡ None → LeavesUrls (fault_in ended) f.queue mid.in_flight = λ none. f.leaves (whole_all came mid now taken (sym line ∙ none)) in
      let joined : (urls ++ rest) ++ f.queue.left ≡ urls ++ (rest ++ f.queue.left) = append_assoc urls rest f.queue.left in
      record {
        from_file = at.from_file;
        none = at.none;
        read = λ bytes known. first_in bytes crawl.bytes f.source f.queue.lines at.from_file _ known at.read (λ p. (over_if_ok ended f.queue mid.in_flight (done p.0) (leaves (ap line_fault p.0))).no_line (λ q. p.1 (sym at.file ∙ q)));
        lines = a.lines;
        left = rest ++ f.queue.left;
        are = subst (AreWritten a.lines first now.stream) (sym line) a.are;
        each = subst (λ (l : List Text). IsPermutation l (urls ++ (rest ++ f.queue.left))) at.are
            (subst (IsPermutation (at.given ++ f.queue.left)) joined (IsPermutation-append_left f.queue.left at.given (urls ++ rest) a.each));
        order = λ p. sym at.are ∙ ap (λ l. l ++ f.queue.left) (a.order p) ∙ joined;
        whole = λ p. (
            let over = over_if_ok ended f.queue mid.in_flight (done p) (leaves (ap line_fault p)) in
            left_over now.in_flight f.queue.queued f.queue.left [] (none_all came mid now taken over.none_in_flight) over.none_queued ∙ over.none_left);
        failed_read = λ p. (
            let emptied : IsEmptied f.queue mid.in_flight = subst (λ (r : Result (Unit {0}) CrawlFault). LeavesUrls (fault_in r) f.queue mid.in_flight) (failed p) (leaves (ap line_fault p)) in
            left_over now.in_flight f.queue.queued f.queue.left [] (none_all came mid now taken emptied.none_in_flight) emptied.none_queued ∙ emptied.none_left);
        bad_url = λ number p. (
            let is : IsAtBadUrl f.queue mid.in_flight = subst (λ (r : Result (Unit {0}) CrawlFault). LeavesUrls (fault_in r) f.queue mid.in_flight) (bad number p) (leaves (ap line_fault p)) in
            record {
              not_skipped = not_skipped crawl.options.flags.skip_bad (subst (λ (r : Result (Unit {0}) CrawlFault). IfErr r (CanEnd crawl.options)) (bad number p) f.ended);
              url = is.url;
              unread = f.queue.left;
              left_is = left_over now.in_flight f.queue.queued f.queue.left (is.url ∷ []) (none_all came mid now taken is.none_in_flight) is.one_queued;
              bad = is.bad;
            });
        tally = counted ∙ a.tally ∙ ap (λ (flags : CrawlFlags). tally_of flags a.lines) at.flags;
        jobs = f.jobs;
        distinct = at.numbered.distinct;
        results = came ++ f.results;
        of_results = a.of_results;
        ran = inr (record { before = f.results; ran = f.ran; crawler = last; rest = came; finishes = finishes; results_are = refl });
      }

  -- the network was not opened
  pub never_opened : (result : Crawled) (fault : NetworkFault) → result.tally ≡ record { lines = 0; failed = 0 } → result.fault ≡ Some (faults.Network fault) → Crawls crawled finished crawl first first result
  never_opened result fault counted is = record {
    from_file = [];
    none = λ p. refl;
    read = λ bytes known. record { rest = urls_in bytes; are = refl; whole = λ p. absurd (some_not_none fault (sym is ∙ p.0)) };
    lines = [];
    left = crawl.words ++ [];
    are = subst (AreWritten [] first first) (sym (ap line_fault is)) (Appends-nil first.bytes, refl);
    each = IsPermutation-refl (crawl.words ++ []);
    order = λ p. refl;
    whole = λ p. absurd (some_not_none fault (sym is ∙ p));
    failed_read = λ p. absurd (network_not_read fault (sym is ∙ p));
    bad_url = λ number p. absurd (network_not_bad fault number (sym is ∙ p));
    tally = counted;
    jobs = [];
    distinct = tt;
    results = [];
    of_results = All-nil (IsOfResult crawl.options [] []);
    ran = inl (refl, refl);
  }
