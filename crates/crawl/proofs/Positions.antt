-- The position of a crawl after each step.
use Rattle.std.proofs.Common.{◌≡◌, ◌≤◌, ℕ, ◌-◌, List, [], ◌∷◌, ◌++◌, length, refl, ap, sym, ◌∙◌, subst, arith, append_assoc, append-nil}
use Rattle.std.specs.Prelude.{true, Option, None}
use Rattle.std.specs.List.{All, AllZip}
use Rattle.std.specs.List.Sorted.{IsPermutation}
use Rattle.std.proofs.KnownBytes.{Appends-nil}
use Rattle.std.proofs.lemmas.List.{length-append, map-append}
use Rattle.std.proofs.lemmas.List.Elements.{All-append, All-cons, All-nil, All-push, Contains-append_left, Contains-append_right}
use Rattle.std.proofs.lemmas.List.Sorted.{IsPermutation-append_left, IsPermutation-append_right, IsPermutation-middle, IsPermutation-pop_more, IsPermutation-refl, IsPermutation-trans}
use Rattle.exchange.specs.declared.job.Job.{Job}
use Rattle.run_loop.specs.Taking.{AllTaken, JobResult}
use Rattle.streams.specs.Streams.{Stream}
use Rattle.crawl.specs.Crawling.{AreAccounted, CrawlGiven, IsAt, queue_given}
use Rattle.client.specs.FileLines.{nothing_read}
use Rattle.client.specs.Lines.{Text}
use Rattle.commands.specs.Urls.{IsBadText}
use Rattle.crawl.specs.Reading.{QueueShown, Reads, TakesOut}
use Rattle.crawl.specs.Results.{AreNumbered, HaveNumbers}
use Rattle.crawl.specs.Steps.{HasJob, IsEndOf, IsJobOf, IsOfResult}
use Rattle.crawl.specs.Written.{AreWritten, BeginsAll, OutputShown, TakesShown, WritesBad, tally_of, url_in_flight, urls_in_flight, urls_written}
use Rattle.crawl.specs.declared.in_flight.InFlight.{InFlight}
use Rattle.commands.specs.declared.crawl_options.CrawlFlags.{CrawlFlags}
use Rattle.commands.specs.declared.crawl_options.CrawlOptions.{CrawlOptions}
use Rattle.crawl.proofs.Accounts.{among_rest, first_of, have_jobs_on, lines_more, lines_on, takes_all, tally_more, urls_more}
use Rattle.client.proofs.FileLines.{read_none, read_same, reads_after}
use Rattle.crawl.proofs.Numbers.{more_numbered, none_numbered}
use Rattle.crawl.proofs.Taken.{flags_all}

-- four lists in a row
regrouped : (a b c d : List Text) → (a ++ (b ++ c)) ++ d ≡ a ++ (b ++ (c ++ d))
regrouped a b c d = append_assoc a (b ++ c) d ∙ ap (λ l. a ++ l) (append_assoc b c d)

-- more URLs are read
reads_more : (options : CrawlOptions) (jobs : List Job) (results : List JobResult) (given queued more : List Text) (first : Stream) (now : OutputShown) → AreAccounted options jobs results given queued first now
    → AreAccounted options jobs results (given ++ more) (queued ++ more) first now
reads_more options jobs results given queued more first now a =
    let urls = urls_written a.lines in
    let flying = urls_in_flight now.in_flight in
    record {
      lines = a.lines;
      are = a.are;
      of_results = a.of_results;
      have_jobs = a.have_jobs;
      each = subst (IsPermutation (given ++ more)) (regrouped urls flying queued more) (IsPermutation-append_left more given (urls ++ (flying ++ queued)) a.each);
      order = λ p. ap (λ l. l ++ more) (a.order p) ∙ regrouped urls flying queued more;
      at_most = a.at_most;
      tally = a.tally;
    }

module _ (crawl : CrawlGiven) (jobs : List Job) (results : List JobResult) (first : Stream) where
  pub at_reads : (before after : Option (List ℕ)) (old new : QueueShown) (now : OutputShown) → IsAt crawl jobs results first before old now → Reads old new before after → IsAt crawl jobs results first after new now
  at_reads before after old new now at reads = record {
    options = reads.options ∙ at.options;
    file = reads.file ∙ at.file;
    flags = at.flags;
    from_file = at.from_file ++ reads.from_file;
    none = λ p. ap (λ l. l ++ reads.from_file) (at.none p) ∙ reads.none (at.file ∙ p);
    read = reads_after nothing_read old.lines new.lines crawl.bytes before after at.from_file reads.from_file at.read (reads.lines at.read.ended);
    given = at.given ++ reads.more;
    are = append_assoc at.given reads.more new.left ∙ ap (λ l. at.given ++ l) reads.left ∙ sym (append_assoc at.given old.left reads.from_file)
        ∙ ap (λ l. l ++ reads.from_file) at.are ∙ append_assoc crawl.words at.from_file reads.from_file;
    accounted = subst (λ (queued : List Text). AreAccounted crawl.options jobs results (at.given ++ reads.more) queued first now) (sym reads.queued)
        (reads_more crawl.options jobs results at.given old.queued reads.more first now at.accounted);
    numbered = subst (λ (n : ℕ). AreNumbered n jobs) (sym reads.number) at.numbered;
  }

module _ (crawl : CrawlGiven) (jobs : List Job) (results : List JobResult) (first : Stream) (source : Option (List ℕ)) where
  -- the same at an equal queue
  pub at_same : (old new : QueueShown) (now : OutputShown) → new ≡ old → IsAt crawl jobs results first source old now → IsAt crawl jobs results first source new now
  at_same old new now same at = subst (λ (queue : QueueShown). IsAt crawl jobs results first source queue now) (sym same) at

  -- at an equal output
  pub shown_same : (queue : QueueShown) (old new : OutputShown) → new ≡ old → IsAt crawl jobs results first source queue old → IsAt crawl jobs results first source queue new
  shown_same queue old new same at = subst (λ (now : OutputShown). IsAt crawl jobs results first source queue now) (sym same) at

  -- the line of a bad URL is written
  pub at_bad : (url : Text) (old new : QueueShown) (before after : OutputShown) → crawl.options.flags.skip_bad ≡ true → ∥ IsBadText url ∥₁ → (crawl.options.parallel ≡ 1 → before.in_flight ≡ []) → IsAt crawl jobs results first source old before
      → TakesOut (url ∷ []) old new → new.number ≡ old.number → WritesBad url before after → IsAt crawl jobs results first source new after
  at_bad url old new before after skips bad idle at takes same w =
      let a = at.accounted in
      let urls = urls_written a.lines in
      let flying = urls_in_flight before.in_flight in
      let more = urls_more a.lines w.line url w.its_url in
      let its_end : IsOfResult crawl.options jobs results w.line = subst (IsEndOf crawl.options jobs results w.line.url) (sym w.bad) (skips, subst (λ (t : Text). ∥ IsBadText t ∥₁) (sym w.its_url) bad) in
      let moved : IsPermutation (flying ++ old.queued) (url ∷ (flying ++ new.queued)) =
      IsPermutation-trans (flying ++ old.queued) (flying ++ url ∷ new.queued) (url ∷ (flying ++ new.queued))
      (IsPermutation-append_right flying old.queued (url ∷ new.queued) takes.each) (IsPermutation-middle flying url new.queued) in
      let each : IsPermutation at.given ((urls ++ url ∷ []) ++ (flying ++ new.queued)) =
      IsPermutation-pop_more at.given urls (flying ++ old.queued) (flying ++ new.queued) url a.each moved in
      record {
        options = takes.options ∙ at.options;
        file = takes.file ∙ at.file;
        flags = w.writes.flags ∙ at.flags;
        from_file = at.from_file;
        none = at.none;
        read = read_same at.from_file nothing_read old.lines new.lines crawl.bytes source takes.lines at.read;
        given = at.given;
        are = subst (λ (left : List Text). at.given ++ left ≡ crawl.words ++ at.from_file) (sym takes.left) at.are;
        accounted = record {
          lines = a.lines ++ w.line ∷ [];
          are = lines_more a.lines w.line first before.stream after.stream after.fault (subst (AreWritten a.lines first before.stream) w.writes.whole a.are) w.writes.puts;
          of_results = All-push (IsOfResult crawl.options jobs results) a.lines w.line a.of_results its_end;
          have_jobs = subst (All (HasJob crawl.options jobs)) (sym w.in_flight) a.have_jobs;
          each = subst (λ (us : List Text). IsPermutation at.given (us ++ (urls_in_flight after.in_flight ++ new.queued))) (sym more)
              (subst (λ (fs : List InFlight). IsPermutation at.given ((urls ++ url ∷ []) ++ (urls_in_flight fs ++ new.queued))) (sym w.in_flight) each);
          order = λ p. (
              let none = idle p in
              let front : old.queued ≡ url ∷ new.queued = takes.order (ap (λ (o : CrawlOptions). o.parallel) at.options ∙ p) in
              let was : at.given ≡ urls ++ (url ∷ new.queued) =
              subst (λ (fs : List InFlight). at.given ≡ urls ++ (urls_in_flight fs ++ (url ∷ new.queued))) none (subst (λ (q : List Text). at.given ≡ urls ++ (flying ++ q)) front (a.order p)) in
              subst (λ (us : List Text). at.given ≡ us ++ (urls_in_flight after.in_flight ++ new.queued)) (sym more)
              (subst (λ (fs : List InFlight). at.given ≡ (urls ++ url ∷ []) ++ (urls_in_flight fs ++ new.queued)) (sym (w.in_flight ∙ none)) (was ∙ sym (append_assoc urls (url ∷ []) new.queued))));
          at_most = subst (λ (fs : List InFlight). length fs ≤ crawl.options.parallel) (sym w.in_flight) a.at_most;
          tally = subst (λ (f : CrawlFlags). after.tally ≡ tally_of f (a.lines ++ w.line ∷ [])) (sym w.writes.flags)
              (tally_more before.flags a.lines w.line before.tally after.tally a.tally w.writes.counts);
        };
        numbered = subst (λ (n : ℕ). AreNumbered n jobs) (sym same) at.numbered;
      }

  -- results are taken
  pub at_takes : (came : List JobResult) (queue : QueueShown) (old new : OutputShown) → IsAt crawl jobs results first source queue old → AllTaken TakesShown old new came
      → IsAt crawl jobs (came ++ results) first source queue new
  at_takes came queue old new at taken = record {
    options = at.options;
    file = at.file;
    flags = flags_all came old new taken ∙ at.flags;
    from_file = at.from_file;
    none = at.none;
    read = at.read;
    given = at.given;
    are = at.are;
    accounted = takes_all crawl.options jobs at.given queue.queued first results came old new at.accounted taken;
    numbered = at.numbered;
  }

-- transfers that begin have their jobs
have_jobs : (options : CrawlOptions) (jobs : List Job) (begun : List InFlight) → AllZip (IsJobOf options) jobs begun → All (HasJob options jobs) begun
have_jobs options [] [] are = All-nil (HasJob options [])
have_jobs options [] (one ∷ begun) are = absurd are
have_jobs options (job ∷ jobs) [] are = All-nil (HasJob options (job ∷ jobs))
have_jobs options (job ∷ jobs) (one ∷ begun) are =
    All-cons (HasJob options (job ∷ jobs)) one begun (record { job = job; among = first_of job jobs; its = are.0 })
    (have_jobs_on options jobs (job ∷ jobs) [] [] (among_rest job jobs) (λ result is. is) begun (have_jobs options jobs begun are.1))

-- some of these, of one list or of the other
module _ (options : CrawlOptions) (more jobs : List Job) where
  all_begun : (flying begun : List InFlight) → All (HasJob options jobs) flying → AllZip (IsJobOf options) more begun → All (HasJob options (more ++ jobs)) (flying ++ begun)
  all_begun flying begun are zip =
      All-append (HasJob options (more ++ jobs)) flying begun
      (have_jobs_on options jobs (more ++ jobs) [] [] (λ job is. Contains-append_right more jobs job is) (λ result is. is) flying are)
      (have_jobs_on options more (more ++ jobs) [] [] (λ job is. Contains-append_left more jobs job is) (λ result is. is) begun (have_jobs options more begun zip))

-- transfers begin
pub at_begins : (crawl : CrawlGiven) (jobs more : List Job) (results : List JobResult) (first : Stream) (source : Option (List ℕ)) (begun : List InFlight) (old new : QueueShown) (before after : OutputShown)
    → IsAt crawl jobs results first source old before → TakesOut (urls_in_flight begun) old new → AllZip (IsJobOf old.options) more begun → HaveNumbers old.number new.number more → BeginsAll begun before after
    → length begun ≤ old.options.parallel - length before.in_flight → IsAt crawl (more ++ jobs) results first source new after
at_begins crawl jobs more results first source begun old new before after at takes zip numbers begins room =
    let a = at.accounted in
    let urls = urls_written a.lines in
    let flying = urls_in_flight before.in_flight in
    let started = urls_in_flight begun in
    let all : urls_in_flight (before.in_flight ++ begun) ++ new.queued ≡ flying ++ (started ++ new.queued) =
    ap (λ l. l ++ new.queued) (map-append url_in_flight before.in_flight begun) ∙ append_assoc flying started new.queued in
    let zipped : AllZip (IsJobOf crawl.options) more begun = subst (λ (o : CrawlOptions). AllZip (IsJobOf o) more begun) at.options zip in
    let free : length begun ≤ crawl.options.parallel - length before.in_flight = subst (λ (o : CrawlOptions). length begun ≤ o.parallel - length before.in_flight) at.options room in
    let accounted : AreAccounted crawl.options (more ++ jobs) results at.given new.queued first (record after { in_flight = before.in_flight ++ begun }) = record {
      lines = a.lines;
      are = subst (λ (stream : Stream). AreWritten a.lines first stream after.fault) (sym begins.stream) (subst (AreWritten a.lines first before.stream) (sym begins.fault) a.are);
      of_results = lines_on crawl.options jobs (more ++ jobs) results results (λ job is. Contains-append_right more jobs job is) (λ result is. is) a.lines a.of_results;
      have_jobs = all_begun crawl.options more jobs before.in_flight begun a.have_jobs zipped;
      each = subst (λ (l : List Text). IsPermutation at.given (urls ++ l)) (sym all)
          (IsPermutation-trans at.given (urls ++ (flying ++ old.queued)) (urls ++ (flying ++ (started ++ new.queued))) a.each
          (IsPermutation-append_right urls (flying ++ old.queued) (flying ++ (started ++ new.queued)) (IsPermutation-append_right flying old.queued (started ++ new.queued) takes.each)));
      order = λ p. a.order p ∙ ap (λ l. urls ++ (flying ++ l)) (takes.order (ap (λ (o : CrawlOptions). o.parallel) at.options ∙ p)) ∙ ap (λ l. urls ++ l) (sym all);
      at_most = omega (arith, length-append before.in_flight begun, free, a.at_most);
      tally = begins.tally ∙ a.tally ∙ ap (λ (f : CrawlFlags). tally_of f a.lines) (sym begins.flags);
    } in
    record {
      options = takes.options ∙ at.options;
      file = takes.file ∙ at.file;
      flags = begins.flags ∙ at.flags;
      from_file = at.from_file;
      none = at.none;
      read = read_same at.from_file nothing_read old.lines new.lines crawl.bytes source takes.lines at.read;
      given = at.given;
      are = subst (λ (left : List Text). at.given ++ left ≡ crawl.words ++ at.from_file) (sym takes.left) at.are;
      accounted = subst (λ (fs : List InFlight). AreAccounted crawl.options (more ++ jobs) results at.given new.queued first (record after { in_flight = fs })) (sym begins.in_flight) accounted;
      numbered = more_numbered old.number new.number more jobs at.numbered numbers;
    }

-- nothing was read yet
pub at_first : (crawl : CrawlGiven) (now : OutputShown) → now.flags ≡ crawl.options.flags → now.in_flight ≡ [] → now.fault ≡ None → now.tally ≡ record { lines = 0; failed = 0 } → IsAt crawl [] [] now.stream crawl.bytes (queue_given crawl) now
at_first crawl now flags none whole counted = record {
  options = refl;
  file = refl;
  flags = flags;
  from_file = [];
  none = λ p. refl;
  read = read_none crawl.bytes;
  given = [];
  are = sym (append-nil crawl.words);
  accounted = record {
    lines = [];
    are = subst (AreWritten [] now.stream now.stream) (sym whole) (Appends-nil now.stream.bytes, refl);
    of_results = All-nil (IsOfResult crawl.options [] []);
    have_jobs = subst (All (HasJob crawl.options [])) (sym none) (All-nil (HasJob crawl.options []));
    each = subst (λ (fs : List InFlight). IsPermutation [] (urls_in_flight fs ++ [])) (sym none) (IsPermutation-refl []);
    order = λ p. sym (ap (λ (fs : List InFlight). urls_in_flight fs ++ []) none);
    at_most = subst (λ (fs : List InFlight). length fs ≤ crawl.options.parallel) (sym none) (omega arith);
    tally = counted;
  };
  numbered = none_numbered 0;
}
