-- How the logs of all hosts grow after a transfer by each call, and the lines of all that they grew by.
use Rattle.std.proofs.Common.{◌≡◌, ℕ, zero, suc, ◌-◌, ◌<◌, ◌≤◌, min, Bool, true, false, not, ◌&&◌, List, [], ◌∷◌, ◌++◌, length, map, slice_index_or, slice_set, Option, Some, None, refl, sym, ap, subst, ◌∙◌, arith, inl, inr}
use Rattle.std.specs.Prelude.{if◌then◌else◌}
use Rattle.std.specs.Option.{option_map}
use Rattle.std.proofs.lemmas.Bool.Decides.{eqb_tells}
use Rattle.std.proofs.lemmas.List.{length-map, length-set, length-append}
use Rattle.std.proofs.Math.ListN.{get_or-map}
use Rattle.persistence.specs.declared.facts.Facts.{Facts}
use Rattle.budget.specs.Limits.{Bounds}
use Rattle.budget.specs.declared.permits.Try.TheVariants.{Got}
use Rattle.conn_log.specs.declared.stamp.Stamp.{Stamp}
use Rattle.conn_log.specs.declared.entry.Want.{Want}
use Rattle.conn_log.specs.declared.entry.Cause.{Cause}
use Rattle.conn_log.specs.declared.entry.Cause.TheVariants.{TotalRoom, CacheFull}
use Rattle.conn_log.specs.declared.entry.Entry.{Entry}
use Rattle.conn_log.specs.Connections.{holder, held_number}
use Rattle.host_state.specs.Steps.{moment_at}
use Rattle.host_state.specs.declared.closing.Closing.TheVariants.{TooOld}
use Rattle.host_state.specs.Calls.{becomes_idle, kept_limit, starts_due, is_queued, GrowsBy}
use Rattle.host_state.specs.Effects.{asks_for_one}
use Rattle.bundle.specs.Lease.{HostShown}
use Rattle.host_state.proofs.Transfers.{held_here}
use Rattle.cache.specs.AllHosts.{AllHosts, log_at, terms, total, has_room, can_keep, total_waiting, oldest_of_all, closed_of, without_oldest, after_turn_of, with_room, turn_of_first, may_turn, after_turns, served, IsLawful}
use Rattle.cache.specs.Calls.{with_tidied, with_room_for, told_of_total, acquired, after_acquire, with_room_to_keep, given_back, after_giving_back, abandoned, after_abandoning, withdrawn, after_withdrawing, pruned_log, pruned, after_prune, limited, after_limit_of}
use Rattle.cache.specs.Laws.{Grow}
use Rattle.cache.specs.Pools.{PoolShown, host_at, logs_of, all_hosts, StaysHost, StaysHosts, KeepsOtherHosts}
use Rattle.cache.proofs.OneHost.{log_is}
use Rattle.cache.proofs.Evictions.{MayLoseOldest, loses_none, may_lose, still_wanted}
use Rattle.script_text.specs.Printing.{lines_since}
use Rattle.script_engine.specs.Meaning.{lines_from, lines_of_growth}
use Rattle.script_engine.specs.Telling.{GrowsAfter, AllGrowAfter, lines_told, WereTold}
use Rattle.script_engine.proofs.Growth.{lines-grown, grown-by, grows-on, grows-none, closed-grows, without-grows, acquired-grows, given_back-grows, abandoned-grows, withdrawn-grows, turn-grows, pruned-grows, limited-grows, holder-is}

-- nothing happens, and one growth comes after another
pub same-grow : (by : ℕ) (all : AllHosts) → AllGrowAfter by all all
same-grow by all = record { count = refl; each = λ host. grows-none by (log_at all host) }

pub grow-on : (by : ℕ) (first second third : AllHosts) → AllGrowAfter by first second → AllGrowAfter by second third → AllGrowAfter by first third
grow-on by first second third grew more = record {
  count = more.count ∙ grew.count;
  each = λ host. grows-on by (log_at first host) (log_at second host) (log_at third host) (grew.each host) (more.each host);
}

-- that they grew, whoever it was after
pub grew-all : (by : ℕ) (old new : AllHosts) → AllGrowAfter by old new → Grow old new
grew-all by old new grow = record { count = grow.count; each = λ host. grown-by by (log_at old host) (log_at new host) (grow.each host) }

module _ (by : ℕ) where
  -- one log grows
  grows-at : (logs : List (List Entry)) (host : ℕ) (new : List Entry) → GrowsAfter by (slice_index_or logs host []) new → (other : ℕ) → GrowsAfter by (slice_index_or logs other []) (slice_index_or (slice_set logs host new) other [])
  grows-at [] host new grew other = grows-none by []
  grows-at (log ∷ logs) zero new grew zero = grew
  grows-at (log ∷ logs) zero new grew (suc other) = grows-none by (slice_index_or logs other [])
  grows-at (log ∷ logs) (suc host) new grew zero = grows-none by log
  grows-at (log ∷ logs) (suc host) new grew (suc other) = grows-at logs host new grew other

  grow-at : (all : AllHosts) (host : ℕ) (new : List Entry) (queue : List ℕ) → GrowsAfter by (log_at all host) new → AllGrowAfter by all record { logs = slice_set all.logs host new; queue = queue }
  grow-at all host new queue grew = record { count = length-set all.logs host new; each = grows-at all.logs host new grew }

  grow-either : (old : AllHosts) (first : Bool) (one other : AllHosts) → AllGrowAfter by old one → AllGrowAfter by old other → AllGrowAfter by old (if first then one else other)
  grow-either old true one other grew also = grew
  grow-either old false one other grew also = also

  -- the oldest of all is closed
  grow-closed : (cause : Cause) (now : ℕ) (all : AllHosts) (first : Option Stamp) → AllGrowAfter by all (closed_of cause now first all)
  grow-closed cause now all None = same-grow by all
  grow-closed cause now all (Some stamp) = let log = log_at all stamp.host in grow-at all stamp.host _ all.queue (closed-grows by log stamp.number cause now)

  grow-without_oldest : (cause : Cause) (now : ℕ) (all : AllHosts) → AllGrowAfter by all (without_oldest cause now all)
  grow-without_oldest cause now all = grow-closed cause now all (oldest_of_all all)

  -- turns are taken
  grow-turn : (queue : List ℕ) (limits : Bounds) (now : ℕ) (all : AllHosts) → AllGrowAfter by all (turn_of_first queue limits now all)
  grow-turn [] limits now all = same-grow by all
  grow-turn (host ∷ others) limits now all =
      let roomy = with_room limits now all in
      let made = grow-either all (has_room limits all) all (without_oldest TotalRoom now all) (same-grow by all) (grow-without_oldest TotalRoom now all) in
      grow-on by all roomy (after_turn_of host limits now roomy) made (grow-at roomy host _ _ (turn-grows by Got (terms limits) (log_at roomy host) now))

  grow-turns : (n : ℕ) (limits : Bounds) (now : ℕ) (all : AllHosts) → AllGrowAfter by all (after_turns n limits now all)
  grow-turns zero limits now all = same-grow by all
  grow-turns (suc n) limits now all =
      let next = turn_of_first all.queue limits now all in
      grow-either all (may_turn limits all) (after_turns n limits now next) all (grow-on by all next (after_turns n limits now next) (grow-turn all.queue limits now all) (grow-turns n limits now next)) (same-grow by all)

  served-grow : (limits : Bounds) (now : ℕ) (all later : AllHosts) → AllGrowAfter by all later → AllGrowAfter by all (served limits now later)
  served-grow limits now all later grew = grow-on by all later (served limits now later) grew (grow-turns (total_waiting later) limits now later)

-- each call
pub acquired-grow : (by : ℕ) (limits : Bounds) (site : ℕ) (want : Want) (now : ℕ) (all : AllHosts) → AllGrowAfter by all (after_acquire limits site want now all)
acquired-grow by limits site want now all =
    let tidy = with_tidied site want now all in
    let roomy = with_room_for limits site want now tidy in
    let log = log_at roomy site in
    let later = (acquired limits site want now all).all in
    let tidied = grow-at by all site _ all.queue (without-grows by (TooOld want) (moment_at (log_at all site) now) (log_at all site)) in
    let asked = asks_for_one (terms limits) (log_at tidy site) want (moment_at (log_at tidy site) now) && not (has_room limits tidy) in
    let made = grow-either by tidy asked (without_oldest TotalRoom now tidy) tidy (grow-without_oldest by TotalRoom now tidy) (same-grow by tidy) in
    let start = grow-at by roomy site _ _ (acquired-grows by true (told_of_total limits roomy) (terms limits) log want now) in
    served-grow by limits now all later (grow-on by all tidy later tidied (grow-on by tidy roomy later made start))

-- who holds what comes back holds it still once room was made to keep it
held-still : (by : ℕ) (limits : Bounds) (site c : ℕ) (now : ℕ) (all : AllHosts) → IsLawful limits all → site < length all.logs → held_number (log_at all site) by ≡ Some c
    → (needed : Bool) → holder (log_at (if needed then without_oldest CacheFull now all else all) site) c ≡ Some by
held-still by limits site c now all lawful there held needed =
    let sound = (lawful.settled site there).sound in
    let roomy : AllHosts = if needed then without_oldest CacheFull now all else all in
    let less : MayLoseOldest CacheFull now limits all roomy = may_need needed in
    ap (λ (w : Option Want). option_map (λ (want : Want). want.transfer) w) (still_wanted CacheFull now (terms limits) (log_at all site) (log_at roomy site) sound (less.each site) by c held)
    ∙ holder-is (log_at all site) by c (held_here (terms limits) (log_at all site) sound.orderly by c held)
  where
    may_need : (needed : Bool) → MayLoseOldest CacheFull now limits all (if needed then without_oldest CacheFull now all else all)
    may_need true = may_lose CacheFull refl limits now all lawful
    may_need false = loses_none CacheFull now limits all lawful

pub given-back-grow : (by : ℕ) (limits : Bounds) (site c : ℕ) (facts : Facts) (now : ℕ) (all : AllHosts) → IsLawful limits all → site < length all.logs → held_number (log_at all site) by ≡ Some c
    → AllGrowAfter by all (after_giving_back limits site c facts now all)
given-back-grow by limits site c facts now all lawful there held =
    let roomy = with_room_to_keep limits site c facts now all in
    let needed = becomes_idle (log_at all site) c facts now && not (can_keep limits all) in
    let later = given_back limits site c facts now all in
    let made = grow-either by all needed (without_oldest CacheFull now all) all (grow-without_oldest by CacheFull now all) (same-grow by all) in
    let back = given_back-grows by (terms limits) (log_at roomy site) c facts now (held-still by limits site c now all lawful there held needed) in
    served-grow by limits now all later (grow-on by all roomy later made (grow-at by roomy site _ _ back))

pub abandoned-grow : (by : ℕ) (limits : Bounds) (site c now : ℕ) (all : AllHosts) → AllGrowAfter by all (after_abandoning limits site c now all)
abandoned-grow by limits site c now all = served-grow by limits now all (abandoned limits site c now all) (grow-at by all site _ _ (abandoned-grows by (terms limits) (log_at all site) c now))

pub withdrawn-grow : (by : ℕ) (limits : Bounds) (site transfer now : ℕ) (all : AllHosts) → AllGrowAfter by all (after_withdrawing limits site transfer now all)
withdrawn-grow by limits site transfer now all = served-grow by limits now all (withdrawn limits site transfer now all) (grow-at by all site _ _ (withdrawn-grows by (terms limits) (log_at all site) transfer now))

pub pruned-grow : (by : ℕ) (limits : Bounds) (now max_age max_life : ℕ) (all : AllHosts) → AllGrowAfter by all (after_prune limits now max_age max_life all)
pruned-grow by limits now max_age max_life all = served-grow by limits now all (pruned now max_age max_life all) (record {
  count = length-map all.logs (pruned_log now max_age max_life);
  each = λ host. subst (GrowsAfter by (log_at all host)) (sym (get_or-map (pruned_log now max_age max_life) all.logs host [])) (pruned-grows by (log_at all host) max_age max_life now);
})

pub limited-grow : (by : ℕ) (limits : Bounds) (site n now : ℕ) (all : AllHosts) → AllGrowAfter by all (after_limit_of limits site n now all)
limited-grow by limits site n now all =
    let log = log_at all site in
    let given = min (starts_due (is_queued (terms limits) log) (kept_limit n) log) (limits.total - total all) in
    served-grow by limits now all (limited limits site n now all) (grow-at by all site _ _ (limited-grows by (kept_limit n) given (terms limits) log now))

-- the lines of what all logs grew by are those of what each has more than was told
lines-from : (by host : ℕ) (olds news : List (List Entry)) → ((i : ℕ) → GrowsAfter by (slice_index_or olds i []) (slice_index_or news i [])) → lines_told by host (map length olds) news ≡ lines_from host olds news
lines-from by host [] news each = refl
lines-from by host (old ∷ olds) [] each = refl
lines-from by host (old ∷ olds) (new ∷ news) each =
    ap (λ l. l ++ lines_told by (suc host) (map length olds) news) (lines-grown host by old new (each 0))
    ∙ ap (λ l. lines_since host old new ++ l) (lines-from by (suc host) olds news (λ i. each (suc i)))

pub lines-of-growth : (by : ℕ) (old new : AllHosts) → AllGrowAfter by old new → lines_told by 0 (map length old.logs) new.logs ≡ lines_of_growth old new
lines-of-growth by old new grow = lines-from by 0 old.logs new.logs grow.each

-- no log has fewer entries than were told
longer : (old new : List Entry) → GrowsBy old new → length old ≤ length new
longer old new grew = rw grew.1 (omega (arith, length-append grew.0 old))

pub were-told-all : (old new : AllHosts) → Grow old new → WereTold (map length old.logs) new.logs
were-told-all old new grow = record {
  count = length-map old.logs length ∙ sym grow.count;
  each = λ host. subst (λ (n : ℕ). n ≤ length (log_at new host)) (sym (get_or-map length old.logs host [])) (longer (log_at old host) (log_at new host) (grow.each host));
}

pub were-told : (by : ℕ) (old new : AllHosts) → AllGrowAfter by old new → WereTold (map length old.logs) new.logs
were-told by old new grow = were-told-all old new (grew-all by old new grow)

-- so it is where each host of a pool stays
told-each : (olds news : List (List Entry)) → ((i : ℕ) → i < length olds → GrowsBy (slice_index_or olds i []) (slice_index_or news i [])) → (i : ℕ) → slice_index_or (map length olds) i 0 ≤ length (slice_index_or news i [])
told-each [] news grew i = omega arith
told-each (old ∷ olds) [] grew zero = longer old [] (grew 0 (omega arith))
told-each (old ∷ olds) [] grew (suc i) = told-each olds [] (λ j lt. grew (suc j) (omega (arith, lt))) i
told-each (old ∷ olds) (new ∷ news) grew zero = longer old new (grew 0 (omega arith))
told-each (old ∷ olds) (new ∷ news) grew (suc i) = told-each olds news (λ j lt. grew (suc j) (omega (arith, lt))) i

module _ {S : Type 0} where
  pub were-told-hosts : (old new : PoolShown S) → length new.hosts ≡ length old.hosts → StaysHosts old new → WereTold (map length (logs_of old.hosts)) (logs_of new.hosts)
  were-told-hosts old new count stays =
      let log_of = λ (h : HostShown S). h.log in
      record {
        count = length-map (logs_of old.hosts) length ∙ length-map old.hosts log_of ∙ sym count ∙ sym (length-map new.hosts log_of);
        each = told-each (logs_of old.hosts) (logs_of new.hosts) (λ host lt.
            let grew : GrowsBy (host_at old host).log (host_at new host).log = (stays host (omega (arith, lt, length-map old.hosts log_of))).grew in
            subst (λ (log : List Entry). GrowsBy log (log_at (all_hosts new) host)) (sym (log_is old host)) (subst (GrowsBy (host_at old host).log) (sym (log_is new host)) grew));
      }

  -- one host stays as it may, and the others keep all
  pub were-told-host : (site : ℕ) (old new : PoolShown S) → length new.hosts ≡ length old.hosts → StaysHost (host_at old site) (host_at new site) → KeepsOtherHosts site old new → WereTold (map length (logs_of old.hosts)) (logs_of new.hosts)
  were-told-host site old new count here others =
      were-told-hosts old new count (λ host lt. elim (eqb_tells host site) [
        | inl same ↦ subst (λ (i : ℕ). StaysHost (host_at old i) (host_at new i)) (sym same.1) here
        | inr apart ↦ (others host lt apart.1).stays
      ])
