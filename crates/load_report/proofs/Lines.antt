-- What is reported of intervals.
use Rattle.std.proofs.Common.{◌≡◌, ℕ, zero, suc, ◌+◌, ◌<◌, ◌≤◌, List, [], ◌∷◌, ◌++◌, length, take, drop, get_or, refl, sym, ap, subst, ◌∙◌, arith}
use Rattle.std.proofs.lemmas.List.{take_more}
use Rattle.std.proofs.lemmas.List.Elements.{All-cons, All-head, All-nil, All-tail}
use Rattle.load_report.specs.declared.report_numbers.IntervalReport.{IntervalReport}
use Rattle.load_figures.specs.Intervals.{IntervalCounts}
use Rattle.load_report.specs.Reports.{AreIdle, AreIntervalReports, IsIntervalReport}

-- one more interval is reported
intervals_push : (place length_us : ℕ) (intervals : List IntervalCounts) (reports : List IntervalReport) (interval : IntervalCounts) (report : IntervalReport)
    → AreIntervalReports place length_us intervals reports → IsIntervalReport (place + length intervals) length_us interval report
    → AreIntervalReports place length_us (intervals ++ interval ∷ []) (reports ++ report ∷ [])
intervals_push place length_us [] [] interval report are is = (subst (λ (n : ℕ). IsIntervalReport n length_us interval report) {x = place + 0} {y = place} (omega arith) is, tt)
intervals_push place length_us [] (its ∷ reports) interval report are is = absurd are
intervals_push place length_us (first ∷ intervals) [] interval report are is = absurd are
intervals_push place length_us (first ∷ intervals) (its ∷ reports) interval report are is = (
  are.0,
  intervals_push (suc place) length_us intervals reports interval report are.1
      (subst (λ (n : ℕ). IsIntervalReport n length_us interval report) {x = place + suc (length intervals)} {y = suc place + length intervals} (omega arith) is),
)

pub intervals_more : (length_us : ℕ) (items : List IntervalCounts) (n : ℕ) (reports more : List IntervalReport) (interval : IntervalCounts) (report : IntervalReport) → n < length items
    → length (take n items) ≡ n → AreIntervalReports 0 length_us (take n items) reports → interval ≡ get_or items n interval → IsIntervalReport n length_us interval report
    → more ≡ reports ++ report ∷ [] → AreIntervalReports 0 length_us (take (n + 1) items) more
intervals_more length_us items n reports more interval report there taken are interval_is is more_is =
    let next : take n items ++ interval ∷ [] ≡ take (n + 1) items =
    ap (λ (interval : IntervalCounts). take n items ++ interval ∷ []) interval_is ∙ sym (take_more items n interval there) in
    let here : 0 + length (take n items) ≡ n = omega (arith, taken) in
    subst (λ (reports : List IntervalReport). AreIntervalReports 0 length_us (take (n + 1) items) reports) (sym more_is)
    (subst (λ (items : List IntervalCounts). AreIntervalReports 0 length_us items (reports ++ report ∷ [])) next
    (intervals_push 0 length_us (take n items) reports interval report are (subst (λ (n : ℕ). IsIntervalReport n length_us interval report) (sym here) is)))

-- behind all that were seen there is nothing to see
pub idle_none : (n : ℕ) (items : List IntervalCounts) → AreIdle (drop (n + 1) (take (n + 1) items))
idle_none n items = subst AreIdle (sym (dropped (n + 1) items)) (All-nil (λ (interval : IntervalCounts). interval.requests ≡ 0))
  where
    dropped : (n : ℕ) (items : List IntervalCounts) → drop n (take n items) ≡ []
    dropped zero items = refl
    dropped (suc n) [] = refl
    dropped (suc n) (first ∷ items) = dropped n items

-- one more idle interval
idle_push : (intervals : List IntervalCounts) (interval : IntervalCounts) → AreIdle intervals → interval.requests ≡ 0 → AreIdle (intervals ++ interval ∷ [])
idle_push [] interval are is = All-cons (λ (interval : IntervalCounts). interval.requests ≡ 0) interval [] is (All-nil (λ (interval : IntervalCounts). interval.requests ≡ 0))
idle_push (first ∷ intervals) interval are is =
    All-cons (λ (interval : IntervalCounts). interval.requests ≡ 0) first (intervals ++ interval ∷ []) (All-head (λ (interval : IntervalCounts). interval.requests ≡ 0) first intervals are)
    (idle_push intervals interval (All-tail (λ (interval : IntervalCounts). interval.requests ≡ 0) first intervals are) is)

drop-push : (n : ℕ) (items : List IntervalCounts) (item : IntervalCounts) → n ≤ length items → drop n (items ++ item ∷ []) ≡ drop n items ++ item ∷ []
drop-push zero items item few = refl
drop-push (suc n) [] item few = absurd (omega arith)
drop-push (suc n) (first ∷ items) item few = drop-push n items item (omega arith)

pub idle_more : (used n : ℕ) (items : List IntervalCounts) (interval : IntervalCounts) → n < length items → used ≤ n → length (take n items) ≡ n → AreIdle (drop used (take n items))
    → interval ≡ get_or items n interval → interval.requests ≡ 0 → AreIdle (drop used (take (n + 1) items))
idle_more used n items interval there few taken are interval_is is =
    let next : take n items ++ interval ∷ [] ≡ take (n + 1) items =
    ap (λ (interval : IntervalCounts). take n items ++ interval ∷ []) interval_is ∙ sym (take_more items n interval there) in
    subst (λ (items : List IntervalCounts). AreIdle (drop used items)) next
    (subst AreIdle (sym (drop-push used (take n items) interval (omega (arith, taken)))) (idle_push (drop used (take n items)) interval are is))
