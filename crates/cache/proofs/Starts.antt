-- What an acquire comes to among all hosts, by what the total answered.
use Rattle.std.proofs.Common.{◌≡◌, ℕ, ◌+◌, ◌<◌, ◌≤◌, Bool, true, false, not, ◌&&◌, List, [], length, refl, sym, ap, ◌∙◌, arith}
use Rattle.std.specs.Prelude.{nat_lt, if◌then◌else◌}
use Rattle.std.proofs.lemmas.Bool.Decides.{nat_tests}
use Rattle.std.proofs.lemmas.List.{get_or-set_same, set-set}
use Rattle.std.specs.List.{sum_by}
use Rattle.std.proofs.lemmas.List.Sums.{sum_by-set}
use Rattle.budget.specs.Limits.{Bounds}
use Rattle.budget.specs.declared.permits.Try.{Try}
use Rattle.budget.specs.declared.permits.Try.TheVariants.{Got, Full, Contended}
use Rattle.conn_log.specs.declared.entry.Want.{Want}
use Rattle.conn_log.specs.declared.entry.Cause.TheVariants.{TotalRoom}
use Rattle.conn_log.specs.declared.entry.Entry.{Entry}
use Rattle.conn_log.specs.Connections.{idle_connections}
use Rattle.host_state.specs.Steps.{moment_at}
use Rattle.host_state.specs.Calls.{Reply, no_room, acquired as acquired_at, start_as_told, Acquired as AcquiredAt}
use Rattle.host_state.specs.Effects.{open_len, asks_for_one}
use Rattle.host_state.specs.Laws.{IsSoundAndQuiet}
use Rattle.cache.specs.AllHosts.{AllHosts, log_at, with_log, terms, total, has_room, with_room, without_oldest, marked}
use Rattle.cache.specs.Calls.{Acquired, acquired, started, told_of_total, with_tidied, with_room_for}
use Rattle.cache.proofs.BudgetRequests.{tidy, asks, asked, unasked, tidied_before, tidied_moment, given_opens, full_opens_none, nothing_tidied, last_begins_as_told}

-- what the total's answer tells, once the call is over
pub record Tells (limit after : ℕ) (told : Try) : Type 0 where
  pub within : after ≤ limit
  pub full : told ≡ Full → after ≡ limit
  pub once : told ≡ Contended → ⊥

-- one host's log becomes another
summed : (f : List Entry → ℕ) (site : ℕ) (log : List Entry) (all : AllHosts) → site < length all.logs → sum_by f (with_log site log all).logs + f (log_at all site) ≡ sum_by f all.logs + f log
summed f site log all there = sum_by-set f all.logs site log [] there

no_room_at : (n limit : ℕ) → n ≡ limit → nat_lt n limit ≡ false
no_room_at n limit same = grind (arith, nat_tests, same)

room_is : (n limit : ℕ) → n < limit → nat_lt n limit ≡ true
room_is n limit below = grind (arith, nat_tests, below)

room_tells : (n limit : ℕ) → nat_lt n limit ≡ true → n < limit
room_tells n limit is = grind (arith, nat_tests, is)

no_room_tells : (n limit : ℕ) → nat_lt n limit ≡ false → limit ≤ n
no_room_tells n limit is = grind (arith, nat_tests, is)

module _ (limits : Bounds) (site : ℕ) (want : Want) (now : ℕ) where
  -- all hosts, and the reply, once the host's log has become what it comes to
  abbrev pub becomes : AcquiredAt → AllHosts → Acquired
  becomes outcome all = record { all = marked limits site (with_log site outcome.log all); reply = outcome.reply }

  -- the last try, of what the total has room for or of what has nothing idle beside it
  module _ (all : AllHosts) (there : site < length all.logs) (kept : IsSoundAndQuiet (terms limits) (log_at all site)) (told : Try) where
    abbrev pub last : AcquiredAt
    last = acquired_at true told (terms limits) (log_at all site) want now

    pub as_told : Tells limits.total (total (with_log site last.log all)) told → (has_room limits all ≡ false → idle_connections (log_at all site) ≡ []) → started limits site want now all ≡ becomes last all
    as_told tells none_idle = ap (λ (outcome : AcquiredAt). becomes outcome all) (by_asks (asks (terms limits) want now log) refl)
      where
        log : List Entry
        log = log_at all site

        outcome : Try → AcquiredAt
        outcome answer = acquired_at true answer (terms limits) log want now

        sums : total (with_log site last.log all) + open_len log ≡ total all + open_len last.log
        sums = summed open_len site last.log all there

        by_answers : asks (terms limits) want now log ≡ true → (room : Bool) → has_room limits all ≡ room → (answer : Try) → told ≡ answer → outcome (if room then Got else Full) ≡ outcome answer
        by_answers is room room_is Contended told_is = absurd (tells.once told_is)
        by_answers is true room_is Got told_is = refl
        by_answers is false room_is Full told_is = refl
        by_answers is true room_is Full told_is =
            let opens = full_opens_none (terms limits) want now log kept is in
            let same : open_len last.log ≡ open_len (outcome Full).log = ap (λ (t : Try). open_len (outcome t).log) told_is in
            absurd (omega (arith, sums, opens, same, tells.full told_is, room_tells (total all) limits.total room_is))
        by_answers is false room_is Got told_is =
            let opens = given_opens (terms limits) want now log kept is true in
            let young : open_len (tidy (terms limits) want now log) ≡ open_len log = ap open_len (nothing_tidied want (moment_at log now) log (none_idle room_is)) in
            let same : open_len last.log ≡ open_len (outcome Got).log = ap (λ (t : Try). open_len (outcome t).log) told_is in
            absurd (omega (arith, sums, opens, same, young, tells.within, no_room_tells (total all) limits.total room_is))

        by_asks : (a : Bool) → asks (terms limits) want now log ≡ a → outcome (told_of_total limits all) ≡ last
        by_asks true is = by_answers is (has_room limits all) refl told refl
        by_asks false is = unasked (terms limits) want now true (told_of_total limits all) log is ∙ sym (unasked (terms limits) want now true told log is)

  -- an acquire at once, and one that is left halfway
  module _ (all : AllHosts) (there : site < length all.logs) (kept : IsSoundAndQuiet (terms limits) (log_at all site)) (told : Try) where
    abbrev pub log : List Entry
    log = log_at all site

    abbrev pub young : List Entry
    young = tidy (terms limits) want now log

    abbrev pub first : AcquiredAt
    first = acquired_at false told (terms limits) log want now

    abbrev pub tidy_all : AllHosts
    tidy_all = with_tidied site want now all

    young_is : log_at tidy_all site ≡ young
    young_is = get_or-set_same all.logs site young [] there

    asks_is : asks_for_one (terms limits) (log_at tidy_all site) want (moment_at (log_at tidy_all site) now) ≡ asks (terms limits) want now log
    asks_is = ap (λ (l : List Entry). asks_for_one (terms limits) l want (moment_at l now)) young_is ∙ ap (asks_for_one (terms limits) young want) (tidied_moment want now log)

    room_for : (a room : Bool) → asks (terms limits) want now log ≡ a → has_room limits tidy_all ≡ room → with_room_for limits site want now tidy_all ≡ (if a && not room then without_oldest TotalRoom now tidy_all else tidy_all)
    room_for a room is room_is =
        ap (λ (b : Bool). if b && not (has_room limits tidy_all) then without_oldest TotalRoom now tidy_all else tidy_all) (asks_is ∙ is)
        ∙ ap (λ (b : Bool). if a && not b then without_oldest TotalRoom now tidy_all else tidy_all) room_is

    again_set : (l : List Entry) → with_log site l tidy_all ≡ with_log site l all
    again_set l = ap (λ (logs : List (List Entry)). with_logs logs) (set-set all.logs site young l)
      where
        with_logs : List (List Entry) → AllHosts
        with_logs logs = record all { logs = logs }

    started_young : (answer : Try) → told_of_total limits tidy_all ≡ answer → started limits site want now tidy_all ≡ becomes (acquired_at true answer (terms limits) log want now) all
    started_young answer is =
        ap (λ (t : Try). becomes (acquired_at true t (terms limits) (log_at tidy_all site) want now) tidy_all) is
        ∙ ap (λ (l : List Entry). becomes (acquired_at true answer (terms limits) l want now) tidy_all) young_is
        ∙ ap (λ (o : AcquiredAt). becomes o tidy_all) (tidied_before (terms limits) want now true answer log kept)
        ∙ ap (λ (a : AllHosts). placed a (acquired_at true answer (terms limits) log want now).reply) (again_set (acquired_at true answer (terms limits) log want now).log)
      where
        placed : AllHosts → Reply → Acquired
        placed a reply = record { all = marked limits site a; reply = reply }

    pub at_once : Tells limits.total (total (with_log site first.log all)) told → (first.reply ≡ no_room → ⊥) → acquired limits site want now all ≡ becomes first all
    at_once tells begun = by_asks (asks (terms limits) want now log) refl
      where
        unneeded : asks (terms limits) want now log ≡ false → acquired limits site want now all ≡ becomes first all
        unneeded is =
            ap (started limits site want now) (room_for false (has_room limits tidy_all) is refl)
            ∙ started_young (told_of_total limits tidy_all) refl
            ∙ ap (λ (o : AcquiredAt). becomes o all) (unasked (terms limits) want now true (told_of_total limits tidy_all) log is ∙ sym (unasked (terms limits) want now false told log is))

        sums : total (with_log site first.log all) + open_len log ≡ total all + open_len first.log
        sums = summed open_len site first.log all there

        young_sums : total tidy_all + open_len log ≡ total all + open_len young
        young_sums = summed open_len site young all there

        by_answer : asks (terms limits) want now log ≡ true → (answer : Try) → told ≡ answer → acquired limits site want now all ≡ becomes first all
        by_answer is Contended told_is = absurd (tells.once told_is)
        by_answer is Full told_is = absurd (begun (ap (λ (o : AcquiredAt). o.reply) (asked (terms limits) want now false told log is) ∙ ap (λ (t : Try). (start_as_told false t (terms limits) want (moment_at log now) young).reply) told_is))
        by_answer is Got told_is =
            let opens = given_opens (terms limits) want now log kept is false in
            let same : open_len first.log ≡ open_len (acquired_at false Got (terms limits) log want now).log = ap (λ (t : Try). open_len (acquired_at false t (terms limits) log want now).log) told_is in
            let below : total tidy_all < limits.total = omega (arith, sums, young_sums, opens, same, tells.within) in
            let room : has_room limits tidy_all ≡ true = room_is (total tidy_all) limits.total below in
            ap (started limits site want now) (room_for true true is room)
            ∙ started_young Got (ap (λ (b : Bool). if b then Got else Full) room)
            ∙ ap (λ (o : AcquiredAt). becomes o all) (asked (terms limits) want now true Got log is ∙ sym (asked (terms limits) want now false Got log is) ∙ ap (λ (t : Try). acquired_at false t (terms limits) log want now) (sym told_is))

        by_asks : (a : Bool) → asks (terms limits) want now log ≡ a → acquired limits site want now all ≡ becomes first all
        by_asks false is = unneeded is
        by_asks true is = by_answer is told refl

    -- it is left halfway only where the total is at its limit, and only closed what is too old
    pub record IsHalfway : Type 0 where
      pub log_is : with_log site first.log all ≡ tidy_all
      pub full : total (with_log site first.log all) ≡ limits.total
      pub goes_on : acquired limits site want now all ≡ started limits site want now (with_room limits now (with_log site first.log all))

    pub halfway : Tells limits.total (total (with_log site first.log all)) told → first.reply ≡ no_room → IsHalfway
    halfway tells is_full = by_asks (asks (terms limits) want now log) refl
      where
        by_answer : asks (terms limits) want now log ≡ true → (answer : Try) → told ≡ answer → IsHalfway
        by_answer is Contended told_is = absurd (tells.once told_is)
        by_answer is Got told_is = absurd (never (sym (ap (λ (o : AcquiredAt). o.reply) (asked (terms limits) want now false told log is) ∙ ap (λ (t : Try). (start_as_told false t (terms limits) want (moment_at log now) young).reply) told_is) ∙ is_full))
          where
            never : (start_as_told false Got (terms limits) want (moment_at log now) young).reply ≡ no_room → ⊥
            never e = cc
        by_answer is Full told_is =
            let same : first.log ≡ young = ap (λ (o : AcquiredAt). o.log) (asked (terms limits) want now false told log is) ∙ ap (λ (t : Try). (start_as_told false t (terms limits) want (moment_at log now) young).log) told_is in
            let mid : with_log site first.log all ≡ tidy_all = ap (λ (l : List Entry). with_log site l all) same in
            let limit : total (with_log site first.log all) ≡ limits.total = tells.full told_is in
            let none : has_room limits tidy_all ≡ false = no_room_at (total tidy_all) limits.total (ap total (sym mid) ∙ limit) in
            record {
              log_is = mid;
              full = limit;
              goes_on =
                  ap (started limits site want now) (room_for true false is none ∙ sym (ap (λ (b : Bool). if b then tidy_all else without_oldest TotalRoom now tidy_all) none))
                  ∙ ap (λ (a : AllHosts). started limits site want now (with_room limits now a)) (sym mid);
            }

        by_asks : (a : Bool) → asks (terms limits) want now log ≡ a → IsHalfway
        by_asks true is = by_answer is told refl
        by_asks false is = absurd (waits_or_starts (sym (ap (λ (o : AcquiredAt). o.reply) (unasked (terms limits) want now false told log is ∙ sym (unasked (terms limits) want now true Full log is))) ∙ is_full))
          where
            waits_or_starts : (acquired_at true Full (terms limits) log want now).reply ≡ no_room → ⊥
            waits_or_starts e = (last_begins_as_told (terms limits) want now Full log (λ c. cc)).0 e
