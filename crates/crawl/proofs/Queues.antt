-- URLs that enter and leave a queue.
use Rattle.std.proofs.Common.{◌≡◌, ◌≤◌, ◌<◌, ◌+◌, ℕ, List, [], ◌∷◌, ◌++◌, length, get_or, refl, ap, sym, ◌∙◌, subst, arith, append_assoc, append-nil, string_bytes, inl, inr}
use Rattle.std.specs.Prelude.{◌≢◌, Bool, true, Option, Some, reverse, remove, Result, Ok, Err, OnOk}
use Rattle.std.specs.List.{AllZip}
use Rattle.std.specs.List.Sorted.{IsPermutation}
use Rattle.std.proofs.lemmas.List.{length-append, map-append, reverse-append}
use Rattle.std.proofs.lemmas.List.Sorted.{IsPermutation-map, IsPermutation-middle, IsPermutation-pop_more, IsPermutation-refl, IsPermutation-remove}
use Rattle.conn_log.specs.declared.entry.Want.{Want}
use Rattle.exchange.specs.declared.job.Job.{Job}
use Rattle.conn_key.specs.Hosts.{Hosts}
use Rattle.streams.specs.declared.stream_fault.StreamFault.TheVariants.{Memory, Read, Write}
use Rattle.crawl.specs.Crawling.{IsAtBadUrl, LeavesUrls}
use Rattle.crawl.specs.Hosts.{AreInUse, KeepsInUse, is_in_use}
use Rattle.commands.specs.Given.{url_text, url_texts}
use Rattle.client.specs.Lines.{Text}
use Rattle.client.specs.FileLines.{LinesShown, TakesLine}
use Rattle.crawl.specs.Reading.{AddsUrl, QueueShown, Reads, TakesOut, url_queued, urls_queued}
use Rattle.crawl.specs.Results.{HaveNumbers}
use Rattle.commands.specs.Urls.{IsBadText}
use Rattle.crawl.specs.declared.route.Route.TheVariants.{Bad}
use Rattle.crawl.specs.Batches.{Begins, BeginsOrWaits, Waits}
use Rattle.crawl.specs.Steps.{IsJobOf}
use Rattle.crawl.specs.Written.{url_in_flight, urls_in_flight}
use Rattle.crawl.specs.declared.fault.CrawlFault.{CrawlFault}
use Rattle.crawl.specs.declared.fault.CrawlFault.TheVariants as faults
use Rattle.crawl.specs.declared.in_flight.InFlight.{InFlight}
use Rattle.crawl.specs.declared.queued.Queued.{Queued}
use Rattle.crawl.specs.declared.batch.Batch.{Batch}
use Rattle.commands.specs.declared.crawl_options.CrawlOptions.{CrawlOptions}
use Rattle.commands.specs.declared.crawl_options.UrlFile.TheVariants as files
use Rattle.commands.specs.declared.url.CrawlUrl.{CrawlUrl}
use Rattle.client.proofs.FileLines.{read_same, reads_after, reads_line, reads_nothing}
use Rattle.crawl.proofs.Numbers.{one_numbered}
use Rattle.crawl.proofs.Places.{in_use_more, in_use_on}

-- nothing more is read
pub reads_none : (old new : QueueShown) (source : Option (List ℕ)) → new ≡ old → Reads old new source source
reads_none old new source same = record {
  more = [];
  from_file = [];
  queued = ap (λ (q : QueueShown). q.queued) same ∙ sym (append-nil old.queued);
  left = ap (λ (q : QueueShown). q.left) same ∙ sym (append-nil old.left);
  none = λ p. refl;
  lines = λ ends. read_same [] old.lines old.lines new.lines source source (ap (λ (q : QueueShown). q.lines) same) (reads_nothing old.lines source ends);
  options = ap (λ (q : QueueShown). q.options) same;
  file = ap (λ (q : QueueShown). q.file) same;
  number = ap (λ (q : QueueShown). q.number) same;
}

-- first some URLs, then others
pub reads_then : (first mid last : QueueShown) (before between after : Option (List ℕ)) → Reads first mid before between → Reads mid last between after → Reads first last before after
reads_then first mid last before between after one other = record {
  more = one.more ++ other.more;
  from_file = one.from_file ++ other.from_file;
  queued = other.queued ∙ ap (λ (l : List Text). l ++ other.more) one.queued ∙ append_assoc first.queued one.more other.more;
  left = append_assoc one.more other.more last.left ∙ ap (λ (l : List Text). one.more ++ l) other.left ∙ sym (append_assoc one.more mid.left other.from_file)
      ∙ ap (λ (l : List Text). l ++ other.from_file) one.left ∙ append_assoc first.left one.from_file other.from_file;
  none = λ p. ap (λ (l : List Text). l ++ other.from_file) (one.none p) ∙ other.none (one.file ∙ p);
  lines = λ ends. (
      let read = one.lines ends in
      reads_after first.lines mid.lines last.lines before between after one.from_file other.from_file read (other.lines read.ended));
  options = other.options ∙ one.options;
  file = other.file ∙ one.file;
  number = other.number ∙ one.number;
}

-- a consequence of success
pub on_ok : {A E : Type 0} (r : Result A E) (P Q : Type 0) → (P → Q) → OnOk r P → OnOk r Q
on_ok (Ok done) P Q leads holds = leads holds
on_ok (Err error) P Q leads holds = tt

-- the first URL is the last of the reversed list
pub first_left : (old new : List CrawlUrl) (url : CrawlUrl) → old ≡ new ++ url ∷ [] → url_texts (reverse old) ≡ url_text url ∷ url_texts (reverse new)
first_left old new url is = ap (λ (l : List CrawlUrl). url_texts (reverse l)) is ∙ ap url_texts (reverse-append new (url ∷ []))

-- a URL among the words is read
pub reads_word : (old mid new : QueueShown) (url : Text) (source : Option (List ℕ)) → mid.queued ≡ old.queued → old.left ≡ url ∷ mid.left → mid.lines ≡ old.lines → mid.options ≡ old.options → mid.file ≡ old.file → mid.number ≡ old.number → AddsUrl url mid new
    → Reads old new source source
reads_word old mid new url source queued left lines options file number adds = record {
  more = url ∷ [];
  from_file = [];
  queued = adds.queued ∙ ap (λ (l : List Text). l ++ url ∷ []) queued;
  left = ap (λ (l : List Text). url ∷ l) adds.left ∙ sym left ∙ sym (append-nil old.left);
  none = λ p. refl;
  lines = λ ends. read_same [] old.lines old.lines new.lines source source (adds.lines ∙ lines) (reads_nothing old.lines source ends);
  options = adds.options ∙ options;
  file = adds.file ∙ file;
  number = adds.number ∙ number;
}

-- no URL of the words is left, before and after
pub same_words : (old : QueueShown) (lines : LinesShown) (left : List Text) → old.left ≡ [] → left ≡ [] → record old { left = left; lines = lines } ≡ record old { lines = lines }
same_words old lines left was is = ap (λ (l : List Text). record old { left = l; lines = lines }) (is ∙ sym was)

-- a URL of the file is read
pub reads_url : (old mid new : QueueShown) (url : Text) (source : Option (List ℕ)) → old.left ≡ [] → old.file ≢ files.None → mid ≡ record old { lines = mid.lines } → TakesLine (url ∷ []) old.lines mid.lines → AddsUrl url mid new
    → Reads old new source source
reads_url old mid new url source none_left has same takes adds = record {
  more = url ∷ [];
  from_file = url ∷ [];
  queued = adds.queued ∙ ap (λ (q : QueueShown). q.queued ++ url ∷ []) same;
  left = ap (λ (l : List Text). url ∷ l) (adds.left ∙ ap (λ (q : QueueShown). q.left) same ∙ none_left) ∙ ap (λ (l : List Text). l ++ url ∷ []) (sym none_left);
  none = λ p. absurd (has p);
  lines = λ ends. read_same (url ∷ []) old.lines mid.lines new.lines source source adds.lines (reads_line (url ∷ []) old.lines mid.lines source takes ends);
  options = adds.options ∙ ap (λ (q : QueueShown). q.options) same;
  file = adds.file ∙ ap (λ (q : QueueShown). q.file) same;
  number = adds.number ∙ ap (λ (q : QueueShown). q.number) same;
}

-- no URL is left
pub none_left : (urls : List CrawlUrl) → length urls ≡ 0 → url_texts (reverse urls) ≡ []
none_left [] none = refl
none_left (url ∷ urls) none = absurd (omega (arith, none))

pub none_queued : (queued : List Queued) → length queued ≡ 0 → urls_queued queued ≡ []
none_queued [] none = refl
none_queued (one ∷ queued) none = absurd (omega (arith, none))

-- a URL without a target is bad
pub bad_text : (one : Queued) → one.route ≡ Bad → ∥ IsBadText (string_bytes one.url) ∥₁
bad_text one is = rw is at one.leads

-- after a fault other than a bad URL, the queue is empty
pub leaves_none : (fault : CrawlFault) (queue : QueueShown) → ((line : ℕ) → fault ≢ faults.BadUrl line) → queue.left ≡ [] → queue.queued ≡ [] → LeavesUrls (Some fault) queue []
leaves_none (faults.Input Memory) queue other left queued = tt
leaves_none (faults.Input Read) queue other left queued = record { none_left = left; none_queued = queued; none_in_flight = refl }
leaves_none (faults.Input Write) queue other left queued = tt
leaves_none (faults.Output kind) queue other left queued = tt
leaves_none (faults.Network fault) queue other left queued = tt
leaves_none (faults.BadUrl line) queue other left queued = absurd (other line refl)

-- at a bad URL, the queue holds it alone
pub leaves_bad : (queue : QueueShown) (all : List Queued) → queue.queued ≡ urls_queued all → length all ≡ 1 → ((one : Queued) → (get_or all 0 one).route ≡ Bad) → IsAtBadUrl queue []
leaves_bad queue [] are one bad = absurd (omega (arith, one))
leaves_bad queue (x ∷ []) are one bad = record { url = url_queued x; one_queued = are; bad = bad_text x (bad x); none_in_flight = refl }
leaves_bad queue (x ∷ y ∷ all) are one bad = absurd (omega (arith, one))

-- one URL is taken out of a queue, in front if it was there
pub takes_at : (old new : List Queued) (place : ℕ) (one : Queued) → place < length old → one ≡ get_or old place one → new ≡ remove old place → IsPermutation (urls_queued old) (url_queued one ∷ urls_queued new)
takes_at old new place one below there is =
    subst (λ (l : List Queued). IsPermutation (urls_queued old) (url_queued one ∷ urls_queued l)) (sym is)
    (IsPermutation-map url_queued old (one ∷ remove old place) (IsPermutation-remove old place one below there))

takes_head : (old : List Queued) (one : Queued) → 0 < length old → one ≡ get_or old 0 one → old ≡ one ∷ remove old 0
takes_head [] one below there = absurd (omega (arith, below))
takes_head (x ∷ old) one below there = ap (λ (y : Queued). y ∷ old) (sym there)

pub takes_first : (old new : List Queued) (place : ℕ) (one : Queued) → place < length old → one ≡ get_or old place one → new ≡ remove old place → place ≡ 0 → urls_queued old ≡ url_queued one ∷ urls_queued new
takes_first old new place one below there is front =
    let at = subst (λ n. one ≡ get_or old n one) front there in
    let below' = subst (λ n. n < length old) front below in
    ap urls_queued (takes_head old one below' at) ∙ ap (λ (l : List Queued). url_queued one ∷ urls_queued l) (sym (is ∙ ap (λ n. remove old n) front))

-- one more of two lists that correspond
zip_push : {A B : Type 0} (R : A → B → Type 0) (xs : List A) (ys : List B) (x : A) (y : B) → AllZip R xs ys → R x y → AllZip R (xs ++ x ∷ []) (ys ++ y ∷ [])
zip_push R [] [] x y are is = (is, tt)
zip_push R [] (b ∷ ys) x y are is = absurd are
zip_push R (a ∷ xs) [] x y are is = absurd are
zip_push R (a ∷ xs) (b ∷ ys) x y are is = (are.0, zip_push R xs ys x y are.1 is)

-- a batch in the making: each URL of the queue has begun with its job, waits, or is still queued
pub record IsBatch (options : CrawlOptions) (was : List Queued) (free first : ℕ) (batch : Batch) (queued : List Queued) (next : ℕ) : Type 0 where
  pub each : IsPermutation (urls_queued was) (urls_in_flight batch.transfers.items ++ (urls_queued batch.waiting.items ++ urls_queued queued))
  pub order : options.parallel ≡ 1 → urls_queued was ≡ urls_in_flight batch.transfers.items ++ (urls_queued batch.waiting.items ++ urls_queued queued)
  pub jobs : AllZip (IsJobOf options) batch.jobs.items batch.transfers.items
  pub numbered : HaveNumbers first next batch.jobs.items
  pub few : length batch.transfers.items ≤ free

module _ (options : CrawlOptions) (was : List Queued) (free first : ℕ) where
  -- none begins yet
  pub batch_none : (batch : Batch) (queued : List Queued) → queued ≡ was → batch.jobs.items ≡ [] → batch.transfers.items ≡ [] → batch.waiting.items ≡ [] → IsBatch options was free first batch queued first
  batch_none batch queued same jobs urls waiting = record {
    each = subst (λ (us : List InFlight). IsPermutation (urls_queued was) (urls_in_flight us ++ (urls_queued batch.waiting.items ++ urls_queued queued))) (sym urls)
        (subst (λ (ws : List Queued). IsPermutation (urls_queued was) (urls_queued ws ++ urls_queued queued)) (sym waiting)
        (subst (λ (qs : List Queued). IsPermutation (urls_queued was) (urls_queued qs)) (sym same) (IsPermutation-refl (urls_queued was))));
    order = λ p. ap urls_queued (sym same) ∙ ap (λ (ws : List Queued). urls_queued ws ++ urls_queued queued) (sym waiting)
        ∙ ap (λ (us : List InFlight). urls_in_flight us ++ (urls_queued batch.waiting.items ++ urls_queued queued)) (sym urls);
    jobs = subst (λ (js : List Job). AllZip (IsJobOf options) js batch.transfers.items) (sym jobs) (subst (λ (us : List InFlight). AllZip (IsJobOf options) [] us) (sym urls) tt);
    numbered = subst (HaveNumbers first first) (sym jobs) (record { numbers = refl; after = omega arith });
    few = subst (λ (us : List InFlight). length us ≤ free) (sym urls) (omega arith);
  }

  -- the next URL begins
  batch_begins : (old new : Batch) (one : Queued) (rest : List Queued) (number next : ℕ) → IsBatch options was free first old (one ∷ rest) number → (options.parallel ≡ 1 → old.waiting.items ≡ []) → length old.transfers.items < free → Begins options (url_queued one) number next old new
      → IsBatch options was free first new rest next
  batch_begins old new one rest number next w in_turn room b =
      let begun = urls_in_flight old.transfers.items in
      let waiting = urls_queued old.waiting.items in
      let left = urls_queued rest in
      let url = url_queued one in
      let urls : urls_in_flight new.transfers.items ≡ begun ++ url ∷ [] = ap urls_in_flight b.transfers ∙ map-append url_in_flight old.transfers.items (b.one ∷ []) ∙ ap (λ (t : Text). begun ++ t ∷ []) b.its_url in
      let each : IsPermutation (urls_queued was) ((begun ++ url ∷ []) ++ (waiting ++ left)) =
      IsPermutation-pop_more (urls_queued was) begun (waiting ++ url ∷ left) (waiting ++ left) url w.each (IsPermutation-middle waiting url left) in
      record {
        each = subst (λ (us : List Text). IsPermutation (urls_queued was) (us ++ (urls_queued new.waiting.items ++ left))) (sym urls)
            (subst (λ (ws : List Queued). IsPermutation (urls_queued was) ((begun ++ url ∷ []) ++ (urls_queued ws ++ left))) (sym b.waiting) each);
        order = λ p. (
            let none = in_turn p in
            let now : urls_queued was ≡ begun ++ (url ∷ left) = subst (λ (ws : List Queued). urls_queued was ≡ begun ++ (urls_queued ws ++ url ∷ left)) none (w.order p) in
            subst (λ (us : List Text). urls_queued was ≡ us ++ (urls_queued new.waiting.items ++ left)) (sym urls)
            (subst (λ (ws : List Queued). urls_queued was ≡ (begun ++ url ∷ []) ++ (urls_queued ws ++ left)) (sym (b.waiting ∙ none)) (now ∙ sym (append_assoc begun (url ∷ []) left))));
        jobs = subst (λ (js : List Job). AllZip (IsJobOf options) js new.transfers.items) (sym b.jobs)
            (subst (λ (us : List InFlight). AllZip (IsJobOf options) (old.jobs.items ++ b.job ∷ []) us) (sym b.transfers) (zip_push (IsJobOf options) old.jobs.items old.transfers.items b.job b.one w.jobs b.its));
        numbered = subst (HaveNumbers first next) (sym b.jobs) (one_numbered first number next old.jobs.items b.job w.numbered (ap (λ (want : Want). want.transfer) b.its.want ∙ b.its_number) b.next_is);
        few = subst (λ (us : List InFlight). length us ≤ free) (sym b.transfers) (subst (λ n. n ≤ free) (sym (length-append old.transfers.items (b.one ∷ []))) (omega (arith, room)));
      }

  -- the next URL waits
  batch_waits : (old new : Batch) (one : Queued) (rest : List Queued) (number next : ℕ) → IsBatch options was free first old (one ∷ rest) number → Waits (url_queued one) number next old new → IsBatch options was free first new rest next
  batch_waits old new one rest number next w b =
      let begun = urls_in_flight old.transfers.items in
      let waiting = urls_queued old.waiting.items in
      let left = urls_queued rest in
      let url = url_queued one in
      let moved : waiting ++ (url ∷ left) ≡ urls_queued new.waiting.items ++ left =
      sym (append_assoc waiting (url ∷ []) left)
      ∙ ap (λ (l : List Text). l ++ left) (ap (λ (t : Text). waiting ++ t ∷ []) (sym b.its_url) ∙ sym (map-append url_queued old.waiting.items (b.one ∷ [])) ∙ ap urls_queued (sym b.waiting)) in
      record {
        each = subst (λ (us : List InFlight). IsPermutation (urls_queued was) (urls_in_flight us ++ (urls_queued new.waiting.items ++ left))) (sym b.transfers)
            (subst (λ (l : List Text). IsPermutation (urls_queued was) (begun ++ l)) moved w.each);
        order = λ p. w.order p ∙ ap (λ (l : List Text). begun ++ l) moved ∙ ap (λ (us : List InFlight). urls_in_flight us ++ (urls_queued new.waiting.items ++ left)) (sym b.transfers);
        jobs = subst (λ (js : List Job). AllZip (IsJobOf options) js new.transfers.items) (sym b.jobs) (subst (λ (us : List InFlight). AllZip (IsJobOf options) old.jobs.items us) (sym b.transfers) w.jobs);
        numbered = subst (λ (n : ℕ). HaveNumbers first n new.jobs.items) (sym b.next_is) (subst (HaveNumbers first number) (sym b.jobs) w.numbered);
        few = subst (λ (us : List InFlight). length us ≤ free) (sym b.transfers) w.few;
      }

  pub batch_on : (old new : Batch) (one : Queued) (queued rest : List Queued) (number next : ℕ) → queued ≡ one ∷ rest → IsBatch options was free first old queued number → (options.parallel ≡ 1 → old.waiting.items ≡ []) → length old.transfers.items < free
      → BeginsOrWaits options (url_queued one) number next old new → IsBatch options was free first new rest next
  batch_on old new one queued rest number next is w in_turn room (inl b) = batch_begins old new one rest number next (subst (λ (qs : List Queued). IsBatch options was free first old qs number) is w) in_turn room b
  batch_on old new one queued rest number next is w in_turn room (inr b) = batch_waits old new one rest number next (subst (λ (qs : List Queued). IsBatch options was free first old qs number) is w) b

-- the URLs of the batch leave the queue
pub batch_takes : (options : CrawlOptions) (was queued : List Queued) (batch : Batch) (free first next : ℕ) (old new : QueueShown) → IsBatch options was free first batch queued next
    → old.queued ≡ urls_queued was → new.queued ≡ urls_queued (batch.waiting.items ++ queued) → old.options ≡ options → new.left ≡ old.left → new.lines ≡ old.lines → new.options ≡ old.options → new.file ≡ old.file
    → TakesOut (urls_in_flight batch.transfers.items) old new
batch_takes options was queued batch free first next old new w before after is left lines same file =
    let begun = urls_in_flight batch.transfers.items in
    let rest : new.queued ≡ urls_queued batch.waiting.items ++ urls_queued queued = after ∙ map-append url_queued batch.waiting.items queued in
    record {
      each = subst (λ (l : List Text). IsPermutation l (begun ++ new.queued)) (sym before) (subst (λ (l : List Text). IsPermutation (urls_queued was) (begun ++ l)) (sym rest) w.each);
      order = λ p. before ∙ w.order (ap (λ (o : CrawlOptions). o.parallel) (sym is) ∙ p) ∙ ap (λ (l : List Text). begun ++ l) (sym rest);
      left = left;
      lines = lines;
      options = same;
      file = file;
    }

module _ {A E : Type 0} where
  -- a URL waits
  pub waiting_on : (r : Result A E) (options : CrawlOptions) (url : Text) (one : Queued) (number next : ℕ) (old new : Batch) → url_queued one ≡ url → next ≡ number → OnOk r (new.waiting.items ≡ old.waiting.items ++ one ∷ [])
      → new.jobs.items ≡ old.jobs.items → new.transfers.items ≡ old.transfers.items → OnOk r (BeginsOrWaits options url number next old new)
  waiting_on (Ok done) options url one number next old new its same waiting jobs transfers = inr (record { one = one; its_url = its; next_is = same; jobs = jobs; transfers = transfers; waiting = waiting })
  waiting_on (Err error) options url one number next old new its same waiting jobs transfers = tt

  -- an added transfer begins
  pub begun_on : (r : Result A E) (options : CrawlOptions) (url : Text) (job : Job) (one : InFlight) (next : ℕ) (old new : Batch) → string_bytes one.url ≡ url → IsJobOf options job one → next ≡ one.number + 1 → OnOk r (new.jobs.items ≡ old.jobs.items ++ job ∷ [])
      → OnOk r (new.transfers.items ≡ old.transfers.items ++ one ∷ []) → new.waiting.items ≡ old.waiting.items → OnOk r (Begins options url one.number next old new)
  begun_on (Ok done) options url job one next old new its is more jobs transfers waiting = record { job = job; one = one; its_url = its; its = is; its_number = refl; next_is = more; jobs = jobs; transfers = transfers; waiting = waiting }
  begun_on (Err error) options url job one next old new its is more jobs transfers waiting = tt

  -- its place is in use
  pub begun_in_use : (r : Result A E) (in_use : List Bool) (place : ℕ) (one : InFlight) (old new : List InFlight) → one.place ≡ place → OnOk r (new ≡ old ++ one ∷ []) → OnOk r (is_in_use in_use place ≡ true → AreInUse in_use old → AreInUse in_use new)
  begun_in_use (Ok done) in_use place one old new at urls = λ is all. subst (AreInUse in_use) (sym urls) (in_use_more in_use old one all (ap (is_in_use in_use) at ∙ is))
  begun_in_use (Err error) in_use place one old new at urls = tt

  -- the places of the others stay in use
  pub waiting_in_use : (r : Result A E) (first last : Hosts) (was now : List Bool) (old new : List InFlight) → KeepsInUse first last was now → new ≡ old → OnOk r (AreInUse was old → AreInUse now new)
  waiting_in_use (Ok done) first last was now old new keeps same = λ all. subst (AreInUse now) (sym same) (in_use_on first last was now old keeps all)
  waiting_in_use (Err error) first last was now old new keeps same = tt
