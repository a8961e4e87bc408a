-- How many start where the limit of a host is changed, as the total counts them.
use Rattle.std.proofs.Common.{◌≡◌, ℕ, ◌+◌, ◌-◌, ◌<◌, ◌≤◌, Bool, true, false, List, [], length, map, slice_set, slice_index_or, Option, Some, None, Result, Ok, Err, refl, sym, ap, ◌∙◌, inl, inr, arith}
use Rattle.std.specs.Prelude.{min, IfSome}
use Rattle.std.specs.List.{sum_by}
use Rattle.std.proofs.lemmas.Bool.Decides.{leb_tells}
use Rattle.std.proofs.lemmas.List.{length-map, set-get_or}
use Rattle.std.proofs.lemmas.List.Sums.{sum_by-set}
use Rattle.budget.specs.Limits.{Bounds}
use Rattle.budget.specs.Plain.{Plain, IsWithin, TellsOfOpen, alive_in}
use Rattle.budget.specs.declared.refusal.Refusal.{Refusal}
use Rattle.conn_log.specs.declared.entry.Entry.{Entry}
use Rattle.conn_log.specs.Legal.{LimitAndFirst}
use Rattle.conn_log.specs.Waiting.{waiting}
use Rattle.bundle.specs.declared.answers.Changed.{Changed}
use Rattle.bundle.specs.declared.answers.Changed.TheVariants.{Done, Again}
use Rattle.host_state.specs.Calls.{after_limit, kept_limit, limit_refusal, starts_due, is_queued}
use Rattle.host_state.specs.Effects.{open_len}
use Rattle.host_state.specs.Laws.{IsSoundAndQuiet}
use Rattle.bundle.specs.Lease.{HostShown}
use Rattle.host_state.specs.Counts.{held_by}
use Rattle.bundle.specs.Replies.{IfChanged, OnChangeAgain}
use Rattle.bundle.specs.Limits.{ChangesLimit, HasToAskAgain}
use Rattle.host_state.proofs.Counts.{limit_changes}
use Rattle.cache.specs.Pools.{logs_of}
use Rattle.cache.proofs.OneHost.{logs_changed, log_was}
use Rattle.cache.proofs.Sums.{total_is}

-- what is not refused had no reason to be
pub not_refused : {A : Type 0} (due : Option Refusal) (result : Result A Refusal) (a : A) → IfSome due (λ reason. result ≡ Err reason) → result ≡ Ok a → due ≡ None
not_refused None result a refused is = refl
not_refused (Some reason) result a refused is = absurd (ok_or_err (sym is ∙ refused))
  where
    ok_or_err : {A B : Type 0} {a : A} {b : B} → Ok a ≡ Err b → ⊥
    ok_or_err e = cc

-- as many are given as are due, as far as the limit has room: fewer only where the limit was met
fewer_only_at_limit : (due given was is limit : ℕ) → is ≡ was + given → is ≤ limit → given ≤ due → (given < due → is ≡ limit) → given ≡ min due (limit - was)
fewer_only_at_limit due given was is limit more within most full = elim (leb_tells due given) [
  | inl all ↦ omega (arith, all.1, most, more, within)
  | inr fewer ↦ omega (arith, fewer.1, full fewer.1, more)
]

none_due : (given was limit : ℕ) → given ≤ 0 → given ≡ min 0 (limit - was)
none_due given was limit none = omega (arith, none)

module _ (settings : LimitAndFirst) (log : List Entry) (n given now was is limit : ℕ) where
  pub as_many_given : IsSoundAndQuiet settings log → limit_refusal n log ≡ None → given ≤ starts_due (is_queued settings log) (kept_limit n) log → (given < starts_due (is_queued settings log) (kept_limit n) log → is ≡ limit)
      → is ≤ limit → is + open_len log ≡ was + open_len (after_limit (kept_limit n) given settings log now)
      → given ≡ min (starts_due (is_queued settings log) (kept_limit n) log) (limit - was)
  as_many_given kept allowed most full within changed =
      by_mark (is_queued settings log) most full
    where
      number : open_len log + given ≡ open_len (after_limit (kept_limit n) given settings log now) + (open_len log - kept_limit n)
      number = (limit_changes settings log n given now kept allowed most).number_open

      by_mark : (queued : Bool) → given ≤ starts_due queued (kept_limit n) log → (given < starts_due queued (kept_limit n) log → is ≡ limit) → given ≡ min (starts_due queued (kept_limit n) log) (limit - was)
      by_mark true none full' = none_due given was limit none
      by_mark false most' full' = elim (leb_tells (kept_limit n) (open_len log)) [
        | inl above ↦ let none : given ≡ 0 = omega (arith, above.1, most') in omega (arith, above.1, none)
        | inr below ↦ fewer_only_at_limit (min (length (waiting log)) (kept_limit n - open_len log)) given was is limit (omega (arith, below.1, number, changed)) within most' full'
      ]

-- the total once one host has changed
pub total_changed : {S : Type 0} (hosts : List (HostShown S)) (site : ℕ) (new : HostShown S) (later : Plain) → site < length hosts → later.hosts ≡ map (λ (h : HostShown S). held_by h.log) (slice_set hosts site new)
    → alive_in later.hosts + open_len (slice_index_or (logs_of hosts) site []) ≡ sum_by open_len (logs_of hosts) + open_len new.log
total_changed {S} hosts site new later there parts =
    let inside : site < length (logs_of hosts) = omega (arith, there, length-map hosts (λ (h : HostShown S). h.log)) in
    omega (arith, total_is (slice_set hosts site new) later parts, ap (sum_by open_len) (logs_changed hosts site new), sum_by-set open_len (logs_of hosts) site new.log [] inside)

-- the log of a host whose limit was changed, by how many there was room for
module _ {S : Type 0} (n now : ℕ) (limits : Bounds) (hosts : List (HostShown S)) (site : ℕ) (was new : HostShown S) (later : Plain) where
  abbrev due : ℕ
  due = starts_due (is_queued was.settings was.log) (kept_limit n) was.log

  -- what the bundle tells of the change under this budget, of which it is nothing how often that was asked
  abbrev pub Told : Bool → Type 0
  Told freed = ChangesLimit (TellsOfOpen later) (λ (opened kept : ℕ). Unit {0}) (kept_limit n) was new now freed

  limited_as_told : (freed : Bool) → limit_refusal n was.log ≡ None → Told freed → IsSoundAndQuiet was.settings was.log → site < length hosts → was ≡ slice_index_or hosts site was
      → later.hosts ≡ map (λ (h : HostShown S). held_by h.log) (slice_set hosts site new) → later.limits ≡ limits → IsWithin later
      → new.log ≡ after_limit (kept_limit n) (min due (limits.total - sum_by open_len (logs_of hosts))) was.settings was.log now
  limited_as_told freed allowed told settled there read parts same within =
      let given = told.given in
      let changed : alive_in later.hosts + open_len was.log ≡ sum_by open_len (logs_of hosts) + open_len (after_limit (kept_limit n) given was.settings was.log now) =
      omega (arith, total_changed hosts site new later there parts, ap open_len (log_was hosts site was there read), ap open_len told.log) in
      let most = as_many_given was.settings was.log n given now (sum_by open_len (logs_of hosts)) (alive_in later.hosts) later.limits.total settled allowed told.within told.full within.total changed in
      told.log ∙ ap (λ (k : ℕ). after_limit (kept_limit n) k was.settings was.log now) (most ∙ ap (λ (b : Bounds). min due (b.total - sum_by open_len (logs_of hosts))) same)

  pub limited_log : (X : Type 0) (r : Result Changed Refusal) (changed : Changed) → r ≡ Ok changed → IfSome (limit_refusal n was.log) (λ reason. r ≡ Err reason) → IfChanged r Told → OnChangeAgain r (X × HasToAskAgain (TellsOfOpen later) (λ (opened kept : ℕ). Unit {0}) (kept_limit n) was new)
      → IsSoundAndQuiet was.settings was.log → site < length hosts → was ≡ slice_index_or hosts site was
      → later.hosts ≡ map (λ (h : HostShown S). held_by h.log) (slice_set hosts site new) → later.limits ≡ limits → IsWithin later
      → new.log ≡ after_limit (kept_limit n) (min due (limits.total - sum_by open_len (logs_of hosts))) was.settings was.log now
  limited_log X (Ok (Done b)) changed is refused told never settled there read parts same within =
      limited_as_told b (not_refused (limit_refusal n was.log) (Ok (Done b)) (Done b) refused refl) told settled there read parts same within
  limited_log X (Ok Again) changed is refused told never settled there read parts same within = absurd never.1.contended
  limited_log X (Err reason) changed is refused told never settled there read parts same within = absurd (cc)

-- all hosts are as they were where one of them is
pub hosts_same : {S : Type 0} (hosts : List (HostShown S)) (site : ℕ) (was new : HostShown S) → was ≡ slice_index_or hosts site was → new ≡ was → slice_set hosts site new ≡ hosts
hosts_same {S} hosts site was new read same = ap (slice_set hosts site) (same ∙ read) ∙ set-get_or hosts site was
