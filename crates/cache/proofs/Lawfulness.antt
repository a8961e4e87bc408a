-- All hosts stay lawful where the log of one of them changes.
use Rattle.std.proofs.Common.{◌≡◌, ◌≢◌, ℕ, ◌+◌, ◌<◌, ◌≤◌, Bool, true, false, not, ◌==◌, ◌&&◌, List, [], ◌∷◌, ◌++◌, length, slice_set, slice_index_or, refl, sym, ap, subst, ◌∙◌, inl, inr, arith}
use Rattle.std.specs.Prelude.{if◌then◌else◌}
use Rattle.std.specs.List.{sum_by}
use Rattle.std.proofs.lemmas.Bool.Decides.{nat_tests, eqb_tells}
use Rattle.std.proofs.lemmas.List.{get_or-set_same, get_or-set_other, length-set}
use Rattle.std.proofs.lemmas.List.Sums.{sum_by-set, get_or-le-sum_by}
use Rattle.budget.specs.Limits.{Bounds}
use Rattle.budget.specs.Lobby.{IsQueue, is_listed, without_host}
use Rattle.budget.proofs.Queues.{listed_last, queue_last, listed_without, queue_without, gone, queue_turns, listed_turned}
use Rattle.conn_log.specs.declared.entry.Entry.{Entry}
use Rattle.conn_log.specs.declared.entry.Want.{Want}
use Rattle.conn_log.specs.Connections.{idle_connections}
use Rattle.conn_log.specs.Waiting.{waiting}
use Rattle.conn_log.specs.Legal.{LimitAndFirst}
use Rattle.host_state.specs.Steps.{is_full}
use Rattle.host_state.specs.Calls.{is_anyone, is_queued}
use Rattle.host_state.specs.Effects.{open_len, idle_len}
use Rattle.host_state.specs.Laws.{IsSoundAndQuiet}
use Rattle.host_state.specs.Orders.{order_after_turn}
use Rattle.host_state.proofs.Soundness.{someone}
use Rattle.cache.specs.AllHosts.{AllHosts, log_at, with_log, terms, total, kept, queue_after, marked, IsLawful}

-- the log of the host that changes, and of another
pub log_changed : (logs : List (List Entry)) (host : ℕ) (new : List Entry) → host < length logs → slice_index_or (slice_set logs host new) host [] ≡ new
log_changed logs host new there = get_or-set_same logs host new [] there

pub log_other : (logs : List (List Entry)) (host other : ℕ) (new : List Entry) → other ≢ host → slice_index_or (slice_set logs host new) other [] ≡ slice_index_or logs other []
log_other logs host other new apart = get_or-set_other logs host other new [] apart

-- the sums
pub sum_moved : (count : List Entry → ℕ) (logs : List (List Entry)) (host : ℕ) (new : List Entry) → host < length logs
    → sum_by count (slice_set logs host new) + count (slice_index_or logs host []) ≡ sum_by count logs + count new
sum_moved count logs host new there = sum_by-set count logs host new [] there

pub part_of : (count : List Entry → ℕ) (logs : List (List Entry)) (host : ℕ) → host < length logs → count (slice_index_or logs host []) ≤ sum_by count logs
part_of count logs host there = get_or-le-sum_by count logs host [] there

-- the queue as one host is queued or not, and the others as before
pub record Marks (hosts host : ℕ) (queued : Bool) (old new : List ℕ) : Type 0 where
  pub queue : IsQueue record { hosts = hosts; order = new }
  pub listed : is_listed new host ≡ queued
  pub others : (other : ℕ) → other ≢ host → is_listed new other ≡ is_listed old other

differs : (host other : ℕ) → other ≢ host → (host == other) ≡ false
differs host other apart = elim (eqb_tells host other) [
  | inl same ↦ absurd (apart (sym same.1))
  | inr differ ↦ differ.0
]

pub marks_same : (hosts host : ℕ) (queued : Bool) (order : List ℕ) → IsQueue record { hosts = hosts; order = order } → is_listed order host ≡ queued → Marks hosts host queued order order
marks_same hosts host queued order queue listed = record { queue = queue; listed = listed; others = λ other apart. refl }

marks_out : (hosts host : ℕ) (order : List ℕ) → IsQueue record { hosts = hosts; order = order } → Marks hosts host false order (without_host order host)
marks_out hosts host order queue = record {
  queue = queue_without hosts order host queue;
  listed = gone order host;
  others = λ other apart. grind (arith, nat_tests, listed_without order host other, differs host other apart);
}

marks_last : (hosts host : ℕ) (order : List ℕ) → IsQueue record { hosts = hosts; order = order } → host < hosts → is_listed order host ≡ false → Marks hosts host true order (order ++ host ∷ [])
marks_last hosts host order queue there out = record {
  queue = queue_last hosts order host queue there out;
  listed = grind (arith, nat_tests, listed_last order host host);
  others = λ other apart. grind (arith, nat_tests, listed_last order host other, differs host other apart);
}

pub marks_after : (hosts host : ℕ) (queued : Bool) (order : List ℕ) → IsQueue record { hosts = hosts; order = order } → host < hosts → Marks hosts host queued order (queue_after host queued order)
marks_after hosts host false order queue there = marks_out hosts host order queue
marks_after hosts host true order queue there = by_place (is_listed order host) refl
  where
    by_place : (listed : Bool) → is_listed order host ≡ listed → Marks hosts host true order (if listed then order else order ++ host ∷ [])
    by_place true is = marks_same hosts host true order queue is
    by_place false is = marks_last hosts host order queue there is

pub marks_turn : (hosts host : ℕ) (queued : Bool) (order : List ℕ) → IsQueue record { hosts = hosts; order = order } → is_listed order host ≡ true → Marks hosts host queued order (order_after_turn host queued order)
marks_turn hosts host false order queue listed = marks_out hosts host order queue
marks_turn hosts host true order queue listed = record {
  queue = queue_turns hosts order queue;
  listed = listed_turned order host ∙ listed;
  others = λ other apart. listed_turned order other;
}

-- the queue is one of distinct hosts that there are
pub queue_is : (limits : Bounds) (all : AllHosts) → IsLawful limits all → IsQueue record { hosts = length all.logs; order = all.queue }
queue_is limits all lawful = record { distinct = lawful.distinct; there = lawful.there }

module _ (limits : Bounds) (all : AllHosts) (lawful : IsLawful limits all) (host : ℕ) (there : host < length all.logs) (new : List Entry) where
  pub lawful_changed : (queue : List ℕ) → IsSoundAndQuiet (terms limits) new → Marks (length all.logs) host (is_queued (terms limits) new) all.queue queue
      → total all + open_len new ≤ limits.total + open_len (log_at all host) → kept all + idle_len new ≤ limits.connects + idle_len (log_at all host)
      → IsLawful limits record { logs = slice_set all.logs host new; queue = queue }
  lawful_changed queue settled marks open_fits idle_fits = record {
    settled = λ other lt. (each other lt).0;
    distinct = marks.queue.distinct;
    there = λ other listed. subst (λ (n : ℕ). other < n) (sym (length-set all.logs host new)) (marks.queue.there other listed);
    queued = λ other lt. (each other lt).1;
    total_within = omega (arith, open_fits, sum_moved open_len all.logs host new there);
    kept_within = omega (arith, idle_fits, sum_moved idle_len all.logs host new there);
  }
    where
      Good : ℕ → List Entry → Type 0
      Good other log = IsSoundAndQuiet (terms limits) log × (is_listed queue other ≡ is_queued (terms limits) log)

      here : (other : ℕ) → other ≡ host → Good other (slice_index_or (slice_set all.logs host new) other [])
      here other same = subst (λ (i : ℕ). Good i (slice_index_or (slice_set all.logs host new) i [])) (sym same)
          (subst (Good host) (sym (log_changed all.logs host new there)) (settled, marks.listed))

      elsewhere : (other : ℕ) → other < length all.logs → other ≢ host → Good other (slice_index_or (slice_set all.logs host new) other [])
      elsewhere other lt apart = subst (Good other) (sym (log_other all.logs host other new apart)) (lawful.settled other lt, marks.others other apart ∙ lawful.queued other lt)

      each : (other : ℕ) → other < length (slice_set all.logs host new) → Good other (slice_index_or (slice_set all.logs host new) other [])
      each other lt = elim (eqb_tells other host) [
        | inl same ↦ here other same.1
        | inr apart ↦ elsewhere other (subst (λ (n : ℕ). other < n) (length-set all.logs host new) lt) apart.1
      ]

  -- once it is marked
  pub lawful_marked : IsSoundAndQuiet (terms limits) new
      → total all + open_len new ≤ limits.total + open_len (log_at all host) → kept all + idle_len new ≤ limits.connects + idle_len (log_at all host)
      → IsLawful limits (marked limits host (with_log host new all))
  lawful_marked settled open_fits idle_fits =
      let now_is = log_changed all.logs host new there in
      subst (λ (log : List Entry). IsLawful limits record { logs = slice_set all.logs host new; queue = queue_after host (is_queued (terms limits) log) all.queue }) (sym now_is)
      (lawful_changed (queue_after host (is_queued (terms limits) new) all.queue) settled (marks_after (length all.logs) host (is_queued (terms limits) new) all.queue (queue_is limits all lawful) there) open_fits idle_fits)

  -- where it is queued as before the queue stays
  pub lawful_unmarked : IsSoundAndQuiet (terms limits) new → is_queued (terms limits) new ≡ is_queued (terms limits) (log_at all host)
      → total all + open_len new ≤ limits.total + open_len (log_at all host) → kept all + idle_len new ≤ limits.connects + idle_len (log_at all host)
      → IsLawful limits (with_log host new all)
  lawful_unmarked settled same open_fits idle_fits =
      lawful_changed all.queue settled (marks_same (length all.logs) host (is_queued (terms limits) new) all.queue (queue_is limits all lawful) (lawful.queued host there ∙ sym same)) open_fits idle_fits

-- a log that changes only where something is idle is queued as before where the same wait
pub queued_same : (settings : LimitAndFirst) (old new : List Entry) → IsSoundAndQuiet settings old → waiting new ≡ waiting old → (idle_connections old ≡ [] → new ≡ old) → is_queued settings new ≡ is_queued settings old
queued_same settings old new settled same unchanged = by_queue (waiting old) refl
  where
    by_queue : (wants : List Want) → waiting old ≡ wants → is_queued settings new ≡ is_queued settings old
    by_queue [] is = ap (λ (wants : List Want). is_anyone wants && not (is_full settings new)) (same ∙ is) ∙ sym (ap (λ (wants : List Want). is_anyone wants && not (is_full settings old)) is)
    by_queue (head ∷ others) is = ap (is_queued settings) (unchanged (settled.quiet.none_idle (someone old head others is)))
