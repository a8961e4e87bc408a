-- What an acquire replied stands in the logs that it leaves.
use Rattle.std.proofs.Common.{◌≡◌, ℕ, ◌<◌, Bool, true, false, ◌==◌, ◌||◌, List, [], ◌∷◌, length, Some, is_some, refl, sym, ap, subst, ◌∙◌, eq-eqb, arith}
use Rattle.std.specs.Prelude.{if◌then◌else◌}
use Rattle.std.proofs.lemmas.Bool.Decides.{nat_tests}
use Rattle.std.proofs.lemmas.List.{length-set}
use Rattle.std.proofs.lemmas.List.Folds.{list_any-append}
use Rattle.budget.specs.Limits.{Bounds}
use Rattle.conn_log.specs.declared.entry.Want.{Want}
use Rattle.conn_log.specs.declared.entry.Event.TheVariants.{Opened, Leased}
use Rattle.conn_log.specs.declared.entry.Entry.{Entry}
use Rattle.conn_log.specs.Connections.{held_number}
use Rattle.conn_log.specs.Waiting.{waiting, waits}
use Rattle.host_state.specs.Calls.{Start, Wait, starts, waits_on, acquired as acquired_at, is_busy, start_entry, wait_entry}
use Rattle.host_state.proofs.Tellings.{start_written, wait_written}
use Rattle.cache.specs.AllHosts.{AllHosts, log_at, terms, IsLawful}
use Rattle.cache.specs.Calls.{with_tidied, with_room_for, told_of_total, acquired, after_acquire, reply_of}
use Rattle.cache.specs.Laws.{AnswersWant, OnlyServed}
use Rattle.cache.proofs.Lawfulness.{log_changed}
use Rattle.cache.proofs.Acquires.{IsFreeAt, comes_free, ready_all, acquired_lawful}
use Rattle.cache.proofs.Servings.{serving_only_serves}
use Rattle.cache.proofs.Replies.{acquire_starts_or_waits}

-- the transfer of the newest start holds its connection
start_holds : (start : Start) (before : List Entry) → held_number (start_entry start ∷ before) start.want.transfer ≡ Some start.number
start_holds start before = by_kind start.reused
  where
    by_kind : (reused : Bool) → held_number (record { moment = start.moment; event = if reused then Leased start.number start.want else Opened start.number start.want } ∷ before) start.want.transfer ≡ Some start.number
    by_kind true = rw (eq-eqb start.want.transfer start.want.transfer refl) refl
    by_kind false = rw (eq-eqb start.want.transfer start.want.transfer refl) refl

-- and that of the newest wait waits
wait_waits : (wait : Wait) (before : List Entry) → waits (wait_entry wait ∷ before) wait.want.transfer ≡ true
wait_waits wait before =
    list_any-append (λ (want : Want). want.transfer == wait.want.transfer) (waiting before) (wait.want ∷ [])
    ∙ grind (arith, nat_tests)

module _ (limits : Bounds) (host : ℕ) (want : Want) (now : ℕ) (all : AllHosts) (lawful : IsLawful limits all) (there : host < length all.logs) (idle : is_busy (log_at all host) [] want.transfer ≡ false) where
  before : IsFreeAt limits host want.transfer all
  before = comes_free limits host want.transfer all lawful there idle

  ready : IsFreeAt limits host want.transfer (with_room_for limits host want now (with_tidied host want now all))
  ready = ready_all limits host want now all before

  -- turns only serve its host
  only_served : OnlyServed (acquired_at true (told_of_total limits (with_room_for limits host want now (with_tidied host want now all))) (terms limits) (log_at (with_room_for limits host want now (with_tidied host want now all)) host) want now).log (log_at (after_acquire limits host want now all) host)
  only_served =
      let roomy = with_room_for limits host want now (with_tidied host want now all) in
      let later = (acquired limits host want now all).all in
      let outcome = acquired_at true (told_of_total limits roomy) (terms limits) (log_at roomy host) want now in
      let still : host < length later.logs = omega (arith, ready.there, length-set roomy.logs host outcome.log) in
      subst (λ (log : List Entry). OnlyServed log (log_at (after_acquire limits host want now all) host)) (log_changed roomy.logs host outcome.log ready.there)
      ((serving_only_serves limits later now (acquired_lawful limits host want now all before)).each host still)

  pub acquire_gives_its_start : (start : Start) → reply_of limits host want now all ≡ starts start → held_number (log_at (after_acquire limits host want now all) host) want.transfer ≡ Some start.number
  acquire_gives_its_start start is =
      let roomy = with_room_for limits host want now (with_tidied host want now all) in
      let written = start_written true (told_of_total limits roomy) (terms limits) (log_at roomy host) want now start is in
      let its : start.want ≡ want = subst (AnswersWant want) is (acquire_starts_or_waits limits host want now all) in
      let held = ap (λ (w : Want). held_number (start_entry start ∷ written.0) w.transfer) (sym its) ∙ start_holds start written.0 in
      only_served.holders_keep want.transfer start.number (ap (λ (log : List Entry). held_number log want.transfer) written.1 ∙ held)

  pub acquire_has_it_wait : (wait : Wait) → reply_of limits host want now all ≡ waits_on wait → (let log = log_at (after_acquire limits host want now all) host in (waits log want.transfer || is_some (held_number log want.transfer)) ≡ true)
  acquire_has_it_wait wait is =
      let roomy = with_room_for limits host want now (with_tidied host want now all) in
      let written = wait_written true (told_of_total limits roomy) (terms limits) (log_at roomy host) want now wait is in
      let its : wait.want ≡ want = subst (AnswersWant want) is (acquire_starts_or_waits limits host want now all) in
      let waited = ap (λ (w : Want). waits (wait_entry wait ∷ written.0) w.transfer) (sym its) ∙ wait_waits wait written.0 in
      by_still (ap (λ (log : List Entry). waits log want.transfer) written.1 ∙ waited) (waits (log_at (after_acquire limits host want now all) host) want.transfer) refl
    where
      by_still : waits (acquired_at true (told_of_total limits (with_room_for limits host want now (with_tidied host want now all))) (terms limits) (log_at (with_room_for limits host want now (with_tidied host want now all)) host) want now).log want.transfer ≡ true
          → (still : Bool) → waits (log_at (after_acquire limits host want now all) host) want.transfer ≡ still → (still || is_some (held_number (log_at (after_acquire limits host want now all) host) want.transfer)) ≡ true
      by_still waited true is = refl
      by_still waited false gone = only_served.first_hold want.transfer waited gone
