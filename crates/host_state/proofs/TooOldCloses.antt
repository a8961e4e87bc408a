-- Once what is too old is closed none of it is left.
use Rattle.std.proofs.Common.{◌≡◌, ℕ, Bool, true, false, List, [], ◌∷◌, filter, refl, sym, ◌∙◌, arith}
use mathlib.Core.Bool.{false≢true}
use Rattle.std.specs.Prelude.{◌==◌}
use Rattle.std.proofs.lemmas.Bool.Decides.{nat_tests}
use Rattle.conn_log.specs.declared.entry.Want.{Want}
use Rattle.conn_log.specs.declared.entry.Cause.{Cause}
use Rattle.conn_log.specs.declared.entry.Event.TheVariants.{Closed}
use Rattle.conn_log.specs.declared.entry.Entry.{Entry}
use Rattle.conn_log.specs.Connections.{is_among, is_idle, born, since, lane}
use Rattle.conn_log.specs.Fit.{is_older, is_too_old_in_lane, idle_in_order}
use Rattle.conn_log.proofs.Numbers.{is_among-filter}
use Rattle.conn_log.proofs.Order.{among_idle_in_order}
use Rattle.conn_log.proofs.Holdings.{holder_closed}
use Rattle.conn_log.proofs.Steps.{is_idle_is, is_open_is}
use Rattle.host_state.specs.declared.closing.Closing.TheVariants.{TooOld, Pruned}
use Rattle.host_state.specs.Steps.{add, close_each, cause_of, picked, without_picked}

-- what is idle after a close was idle, and is another
idle_before : (moment c : ℕ) (cause : Cause) (log : List Entry) (d : ℕ) → is_idle (add moment (Closed c cause) log) d ≡ true → (is_idle log d ≡ true) × ((c == d) ≡ false)
idle_before moment c cause log d idle = grind (arith, nat_tests, idle, holder_closed moment c cause log d, is_idle_is (add moment (Closed c cause) log) d, is_open_is (add moment (Closed c cause) log) d, is_idle_is log d, is_open_is log d)

-- what is idle once each of some is closed was idle, and is none of them
record StaysIdle (log : List Entry) (numbers : List ℕ) (d : ℕ) : Type 0 where
  idle : is_idle log d ≡ true
  other : is_among d numbers ≡ false

stays_idle : (cause : Cause) (moment : ℕ) (numbers : List ℕ) (log : List Entry) (d : ℕ) → is_idle (close_each cause moment numbers log) d ≡ true → StaysIdle log numbers d
stays_idle cause moment [] log d idle = record { idle = idle; other = refl }
stays_idle cause moment (c ∷ numbers) log d idle =
    let rest = stays_idle cause moment numbers (add moment (Closed c cause) log) d idle in
    let before = idle_before moment c cause log d rest.idle in
    record { idle = before.0; other = rw before.1 rest.other }

-- none passes that is among none
none_passes : (test : ℕ → Bool) (numbers : List ℕ) → ((c : ℕ) → is_among c numbers ≡ true → test c ≡ false) → filter test numbers ≡ []
none_passes test [] each = refl
none_passes test (c ∷ numbers) each = rw (each c (grind (arith, nat_tests))) (none_passes test numbers (λ d there. each d (grind (arith, nat_tests, there))))

-- once all that pass a test are closed none that is idle passes it, where closing leaves the test's answers
none_left : (cause : Cause) (moment : ℕ) (log : List Entry) (test after_test : ℕ → Bool) → ((c : ℕ) → after_test c ≡ test c) → filter after_test (idle_in_order (close_each cause moment (filter test (idle_in_order log)) log)) ≡ []
none_left cause moment log test after_test same =
    let after = close_each cause moment (filter test (idle_in_order log)) log in
    none_passes after_test (idle_in_order after) (λ c there. same c ∙ fails c (stays_idle cause moment (filter test (idle_in_order log)) log c (sym (among_idle_in_order after c) ∙ there)) (test c) refl)
  where
    fails : (c : ℕ) → StaysIdle log (filter test (idle_in_order log)) c → (b : Bool) → test c ≡ b → test c ≡ false
    fails c stays false is = is
    fails c stays true is = absurd (false≢true (sym stays.other ∙ is_among-filter test c (idle_in_order log) ∙ rw (among_idle_in_order log c ∙ stays.idle, is) refl))

-- closing leaves when a connection was opened, its lane, and since when it is idle
lane_stays : (cause : Cause) (moment : ℕ) (numbers : List ℕ) (log : List Entry) (c : ℕ) → lane (close_each cause moment numbers log) c ≡ lane log c
lane_stays cause moment [] log c = refl
lane_stays cause moment (d ∷ numbers) log c = lane_stays cause moment numbers (add moment (Closed d cause) log) c

born_stays : (cause : Cause) (moment : ℕ) (numbers : List ℕ) (log : List Entry) (c : ℕ) → born (close_each cause moment numbers log) c ≡ born log c
born_stays cause moment [] log c = refl
born_stays cause moment (d ∷ numbers) log c = born_stays cause moment numbers (add moment (Closed d cause) log) c

since_stays : (cause : Cause) (moment : ℕ) (numbers : List ℕ) (log : List Entry) (c : ℕ) → since (close_each cause moment numbers log) c ≡ since log c
since_stays cause moment [] log c = refl
since_stays cause moment (d ∷ numbers) log c = since_stays cause moment numbers (add moment (Closed d cause) log) c

pub none_too_old_left : (want : Want) (moment : ℕ) (log : List Entry) → picked (TooOld want) moment (without_picked (TooOld want) moment log) ≡ []
none_too_old_left want moment log =
    let cause = cause_of (TooOld want) in
    let numbers = picked (TooOld want) moment log in
    let after = without_picked (TooOld want) moment log in
    none_left cause moment log (is_too_old_in_lane log want moment) (is_too_old_in_lane after want moment) (λ c. rw (lane_stays cause moment numbers log c, born_stays cause moment numbers log c, since_stays cause moment numbers log c) refl)

pub none_to_prune_left : (max_age max_life moment : ℕ) (log : List Entry) → picked (Pruned max_age max_life) moment (without_picked (Pruned max_age max_life) moment log) ≡ []
none_to_prune_left max_age max_life moment log =
    let cause = cause_of (Pruned max_age max_life) in
    let numbers = picked (Pruned max_age max_life) moment log in
    let after = without_picked (Pruned max_age max_life) moment log in
    none_left cause moment log (λ c. is_older (since log c) (born log c) max_age max_life moment) (λ c. is_older (since after c) (born after c) max_age max_life moment) (λ c. rw (born_stays cause moment numbers log c, since_stays cause moment numbers log c) refl)
