-- Each URL is accounted for as lines are written.
use Rattle.std.proofs.Common.{◌≡◌, ◌≤◌, ◌<◌, ◌+◌, ◌-◌, ◌^◌, ℕ, zero, suc, min, cond, List, [], ◌∷◌, ◌++◌, length, get_or, refl, ap, sym, ◌∙◌, subst, arith, append_assoc, string_bytes, inl, inr}
use Rattle.std.specs.Prelude.{flat_map, count_by, remove, Option, Some, None}
use Rattle.std.specs.Io.KnownBytes.{Appends}
use Rattle.std.specs.List.{All, Contains}
use Rattle.std.specs.List.Sorted.{IsPermutation}
use Rattle.std.proofs.KnownBytes.{Appends-trans}
use Rattle.std.proofs.lemmas.List.{flat_map_more, length-append, map-append}
use Rattle.std.proofs.lemmas.List.Edits.{length-remove}
use Rattle.std.proofs.lemmas.List.Elements.{All-get_or, All-push, All-tail, All-weaker, Contains-append_right}
use Rattle.std.proofs.lemmas.List.Sorted.{All-permutation, IsPermutation-map, IsPermutation-append_left, IsPermutation-pop_more, IsPermutation-remove}
use Rattle.std.proofs.lemmas.List.Sums.{sum_by_push}
use Rattle.exchange.specs.declared.job.Job.{Job}
use Rattle.run_loop.specs.Taking.{AllTaken, JobResult}
use Rattle.streams.specs.Streams.{Stream}
use Rattle.streams.specs.declared.stream_fault.StreamFault.{StreamFault}
use Rattle.crawl.specs.Crawling.{AreAccounted}
use Rattle.client.specs.Lines.{Text}
use Rattle.crawl.specs.Steps.{HasJob, IsEndOf, IsOfResult, IsResultOf, want_of}
use Rattle.crawl.specs.Written.{AreWhole, AreWritten, Counts, OutputShown, PutsAs, TakesResult, TakesShown, Written, WritesResult, has_failed, tally_of, text_of, url_in_flight, url_written, urls_in_flight, urls_written}
use Rattle.crawl.specs.declared.in_flight.InFlight.{InFlight}
use Rattle.crawl.specs.declared.in_flight.Tally.{Tally}
use Rattle.commands.specs.declared.crawl_options.CrawlFlags.{CrawlFlags}
use Rattle.commands.specs.declared.crawl_options.CrawlOptions.{CrawlOptions}

-- one more line is written, or not whole
pub lines_more : (lines : List Written) (line : Written) (first mid new : Stream) (fault : Option StreamFault) → AreWhole lines first mid → PutsAs mid new line.text fault
    → AreWritten (lines ++ line ∷ []) first new fault
lines_more lines line first mid new None whole puts = (
  subst (λ (text : List ℕ). Appends first.bytes new.bytes text) (flat_map_more text_of [] lines line)
      (Appends-trans first.bytes mid.bytes new.bytes (flat_map text_of lines) line.text whole.0 puts.0),
  puts.1 ∙ whole.1,
)
lines_more lines line first mid new (Some kind) whole puts = record { before = lines; last = line; lines_are = refl; mid = mid; whole = whole; fails = puts }

-- a number that is capped, and then more, is capped
capped : (n k most : ℕ) → min (min n most + k) most ≡ min (n + k) most
capped n k most = omega arith

abbrev tally_as : ℕ → ℕ → Tally
tally_as lines failed = record { lines = lines; failed = failed }

-- one more line is counted
pub tally_more : (flags : CrawlFlags) (lines : List Written) (line : Written) (old new : Tally) → old ≡ tally_of flags lines → Counts (has_failed flags line) old new
    → new ≡ tally_of flags (lines ++ line ∷ [])
tally_more flags lines line old new is counts =
    let most = 2 ^ 64 - 1 in
    let one = cond (has_failed flags line) 1 0 in
    let counted : new.lines ≡ min (length (lines ++ line ∷ [])) most =
    counts.lines ∙ ap (λ (t : Tally). min (t.lines + 1) most) is ∙ capped (length lines) 1 most ∙ ap (λ n. min n most) (sym (length-append lines (line ∷ []))) in
    let failed : new.failed ≡ min (count_by (has_failed flags) (lines ++ line ∷ [])) most =
    counts.failures ∙ ap (λ (t : Tally). min (t.failed + one) most) is ∙ capped (count_by (has_failed flags) lines) one most
    ∙ ap (λ n. min n most) (sym (sum_by_push (λ (l : Written). cond (has_failed flags l) 1 0) lines line)) in
    ap (λ n. tally_as n new.failed) counted ∙ ap (λ n. tally_as (min (length (lines ++ line ∷ [])) most) n) failed

-- more jobs and results keep the end of a URL
module _ (options : CrawlOptions) (jobs more_jobs : List Job) (results more_results : List JobResult) (in_jobs : (job : Job) → Contains jobs job → Contains more_jobs job) (in_results : (result : JobResult) → Contains results result → Contains more_results result) where
  end_more : (url : Text) (ended : Option JobResult) → IsEndOf options jobs results url ended → IsEndOf options more_jobs more_results url ended
  end_more url None is = is
  end_more url (Some result) is = record { came = in_results result is.came; job = is.job; among = in_jobs is.job is.among; want = is.want; method = is.method; target = is.target }

  pub lines_on : (lines : List Written) → All (IsOfResult options jobs results) lines → All (IsOfResult options more_jobs more_results) lines
  lines_on lines are = All-weaker (IsOfResult options jobs results) (IsOfResult options more_jobs more_results) (λ line. end_more line.url line.ended) lines are

  pub have_jobs_on : (all : List InFlight) → All (HasJob options jobs) all → All (HasJob options more_jobs) all
  have_jobs_on all are =
      All-weaker (HasJob options jobs) (HasJob options more_jobs) (λ one has. record { job = has.job; among = in_jobs has.job has.among; its = has.its }) all are

pub first_of : {X : Type 0} (x : X) (xs : List X) → Contains (x ∷ xs) x
first_of x xs = (0, omega arith, refl)

pub among_rest : {X : Type 0} (x : X) (xs : List X) (y : X) → Contains xs y → Contains (x ∷ xs) y
among_rest x xs y is = Contains-append_right (x ∷ []) xs y is

-- the only one of a list of at most one
pub only_one : (all : List InFlight) (place : ℕ) (one : InFlight) → length all ≤ 1 → place < length all → one ≡ get_or all place one → (all ≡ one ∷ []) × (remove all place ≡ [])
only_one [] place one few below there = absurd (omega (arith, below))
only_one (x ∷ []) zero one few below there = (ap (λ (y : InFlight). y ∷ []) (sym there), refl)
only_one (x ∷ []) (suc place) one few below there = absurd (omega (arith, below))
only_one (x ∷ y ∷ all) place one few below there = absurd (omega (arith, few))

-- one more line, of a URL
pub urls_more : (lines : List Written) (line : Written) (url : Text) → line.url ≡ url → urls_written (lines ++ line ∷ []) ≡ urls_written lines ++ url ∷ []
urls_more lines line url is = map-append url_written lines (line ∷ []) ∙ ap (λ (t : Text). urls_written lines ++ t ∷ []) is

module _ (options : CrawlOptions) (jobs : List Job) (given queued : List Text) (first : Stream) where
  -- a transfer in flight has its line
  line_written : (results : List JobResult) (result : JobResult) (old new : OutputShown) → AreAccounted options jobs results given queued first old → WritesResult result old new
      → AreAccounted options jobs (result ∷ results) given queued first new
  line_written results result old new a w =
      let flying = old.in_flight in
      let left = remove flying w.place in
      let url = string_bytes w.one.url in
      let urls = urls_written a.lines in
      let has : HasJob options jobs w.one = subst (HasJob options jobs) (sym w.there) (All-get_or (HasJob options jobs) flying w.place w.one w.below a.have_jobs) in
      let its : IsResultOf options jobs (result ∷ results) url result =
      record { came = first_of result results; job = has.job; among = has.among; want = has.its.want ∙ ap (want_of options) w.number; method = has.its.method; target = has.its.target } in
      let its_end : IsOfResult options jobs (result ∷ results) w.line =
      subst (λ (t : Text). IsEndOf options jobs (result ∷ results) t w.line.ended) (sym w.its_url) (subst (IsEndOf options jobs (result ∷ results) url) (sym w.ended) its) in
      let moved : IsPermutation flying (w.one ∷ left) = IsPermutation-remove flying w.place w.one w.below w.there in
      let urls_moved : IsPermutation (urls_in_flight flying ++ queued) (url ∷ (urls_in_flight left ++ queued)) =
      IsPermutation-append_left queued (urls_in_flight flying) (url ∷ urls_in_flight left) (IsPermutation-map url_in_flight flying (w.one ∷ left) moved) in
      let each : IsPermutation given ((urls ++ url ∷ []) ++ (urls_in_flight left ++ queued)) =
      IsPermutation-pop_more given urls (urls_in_flight flying ++ queued) (urls_in_flight left ++ queued) url a.each urls_moved in
      let more = urls_more a.lines w.line url w.its_url in
      let one_at_most = λ (p : options.parallel ≡ 1). subst (λ n. length flying ≤ n) p a.at_most in
      let none = λ (p : options.parallel ≡ 1). w.left ∙ (only_one flying w.place w.one (one_at_most p) w.below w.there).1 in
      record {
        lines = a.lines ++ w.line ∷ [];
        are = lines_more a.lines w.line first old.stream new.stream new.fault (subst (AreWritten a.lines first old.stream) w.writes.whole a.are) w.writes.puts;
        of_results = All-push (IsOfResult options jobs (result ∷ results)) a.lines w.line (lines_on options jobs jobs results (result ∷ results) (λ job is. is) (among_rest result results) a.lines a.of_results) its_end;
        have_jobs = subst (All (HasJob options jobs)) (sym w.left) (All-tail (HasJob options jobs) w.one left (All-permutation (HasJob options jobs) flying (w.one ∷ left) moved a.have_jobs));
        each = subst (λ (us : List Text). IsPermutation given (us ++ (urls_in_flight new.in_flight ++ queued))) (sym more)
            (subst (λ (fs : List InFlight). IsPermutation given ((urls ++ url ∷ []) ++ (urls_in_flight fs ++ queued))) (sym w.left) each);
        order = λ p. (
            let now : given ≡ urls ++ (url ∷ queued) = subst (λ (fs : List InFlight). given ≡ urls ++ (urls_in_flight fs ++ queued)) (only_one flying w.place w.one (one_at_most p) w.below w.there).0 (a.order p) in
            subst (λ (us : List Text). given ≡ us ++ (urls_in_flight new.in_flight ++ queued)) (sym more)
            (subst (λ (fs : List InFlight). given ≡ (urls ++ url ∷ []) ++ (urls_in_flight fs ++ queued)) (sym (none p)) (now ∙ sym (append_assoc urls (url ∷ []) queued))));
        at_most = subst (λ (fs : List InFlight). length fs ≤ options.parallel) (sym w.left) (omega (arith, a.at_most, length-remove flying w.place w.below));
        tally = subst (λ (f : CrawlFlags). new.tally ≡ tally_of f (a.lines ++ w.line ∷ [])) (sym w.writes.flags) (tally_more old.flags a.lines w.line old.tally new.tally a.tally w.writes.counts);
      }

  -- a result is taken
  takes_one : (results : List JobResult) (result : JobResult) (old new : OutputShown) → AreAccounted options jobs results given queued first old → TakesResult result old new
      → AreAccounted options jobs (result ∷ results) given queued first new
  takes_one results result old new a (inl ignores) =
      subst (AreAccounted options jobs (result ∷ results) given queued first) (sym ignores.same) (record {
        lines = a.lines;
        are = a.are;
        of_results = lines_on options jobs jobs results (result ∷ results) (λ job is. is) (among_rest result results) a.lines a.of_results;
        have_jobs = a.have_jobs;
        each = a.each;
        order = a.order;
        at_most = a.at_most;
        tally = a.tally;
      })
  takes_one results result old new a (inr w) = line_written results result old new a w

  -- results are taken
  pub takes_all : (results : List JobResult) (came : List JobResult) (old new : OutputShown) → AreAccounted options jobs results given queued first old → AllTaken TakesShown old new came
      → AreAccounted options jobs (came ++ results) given queued first new
  takes_all results [] old new a same = subst (AreAccounted options jobs results given queued first) (sym same) a
  takes_all results (result ∷ earlier) old new a taken =
      takes_one (earlier ++ results) result taken.0 new (takes_all results earlier old taken.0 a taken.1) taken.2
