-- A give back that tries to keep its connection, and again once the oldest of all is closed.
use Rattle.std.proofs.Common.{◌≡◌, ℕ, ◌<◌, Bool, true, false, not, ◌&&◌, length, refl, sym, ap, subst, ◌∙◌, arith}
use Rattle.std.specs.Prelude.{nat_lt, if◌then◌else◌}
use Rattle.std.proofs.lemmas.Bool.Decides.{nat_tests}
use Rattle.persistence.specs.declared.facts.Facts.{Facts}
use Rattle.budget.specs.Limits.{Bounds}
use Rattle.conn_log.specs.declared.entry.Cause.TheVariants.{CacheFull}
use Rattle.host_state.specs.Calls.{becomes_idle, after_give_back}
use Rattle.conn_log.specs.Connections.{is_open}
use Rattle.bundle.specs.Lease.{Leasing, is_held_lease}
use Rattle.cache.specs.AllHosts.{AllHosts, log_at, with_log, terms, kept, can_keep, without_oldest, marked}
use Rattle.cache.specs.Calls.{with_room_to_keep, given_back}
use Rattle.cache.specs.Pools.{PoolShown, host_at, all_hosts}
use Rattle.cache.specs.PoolCalls.{IsCallAtAll, TakesBack}
use Rattle.cache.proofs.Homes.{call_at}
use Rattle.cache.proofs.StreamsStay.{but_one, others_on}
use Rattle.cache.proofs.Keeping.{stays_host_on, stays_pool_on, spends_after, keeps_others_on, keeps_others}

-- if there is room at once none is closed
pub kept_at_once : (limits : Bounds) (host c : ℕ) (facts : Facts) (now : ℕ) (all : AllHosts) → (becomes_idle (log_at all host) c facts now ≡ true → can_keep limits all ≡ true)
    → marked limits host (with_log host (after_give_back (terms limits) (log_at all host) c facts now) all) ≡ given_back limits host c facts now all
kept_at_once limits host c facts now all room =
    ap (λ (roomy : AllHosts). marked limits host (with_log host (after_give_back (terms limits) (log_at roomy host) c facts now) roomy))
    (sym (by_test (becomes_idle (log_at all host) c facts now) (can_keep limits all) (without_oldest CacheFull now all) room))
  where
    by_test : (idle free : Bool) (closed : AllHosts) → (idle ≡ true → free ≡ true) → (if idle && not free then closed else all) ≡ all
    by_test true true closed room = refl
    by_test true false closed room = absurd (cc (room refl))
    by_test false free closed room = refl

-- if the cache keeps as many as it may, room was made by the oldest of all
pub room_was_made : (limits : Bounds) (host c : ℕ) (facts : Facts) (now : ℕ) (all : AllHosts) → becomes_idle (log_at all host) c facts now ≡ true → kept all ≡ limits.connects
    → with_room_to_keep limits host c facts now all ≡ without_oldest CacheFull now all
room_was_made limits host c facts now all idle full = by_test (becomes_idle (log_at all host) c facts now) (can_keep limits all) (without_oldest CacheFull now all) idle (not_below (kept all) limits.connects full)
  where
    not_below : (n limit : ℕ) → n ≡ limit → nat_lt n limit ≡ false
    not_below n limit is = grind (arith, nat_tests, is)

    by_test : (idle free : Bool) (closed : AllHosts) → idle ≡ true → free ≡ false → (if idle && not free then closed else all) ≡ closed
    by_test true false closed is none = refl
    by_test true true closed is none = absurd (cc)
    by_test false free closed is none = absurd (cc)

-- the connection comes back once the oldest of all was closed for it
module _ {S : Type 0} (start closed end : PoolShown S) (facts : Facts) (now : ℕ) (room : IsCallAtAll (without_oldest CacheFull now (all_hosts start)) start closed) where
  abbrev spent_at_once : Bounds → AllHosts → Leasing S → AllHosts
  spent_at_once limits all l = marked limits l.site (with_log l.site (after_give_back (terms limits) (log_at all l.site) l.start.number facts now) all)

  pub kept_later : (lease back : Leasing S) → back ≡ lease → lease.site < length start.hosts → is_held_lease (host_at start lease.site) lease ≡ true → is_open (host_at start lease.site).log lease.start.number ≡ true
      → becomes_idle (log_at (all_hosts start) lease.site) lease.start.number facts now ≡ true → kept (all_hosts start) ≡ start.limits.connects
      → TakesBack (spent_at_once closed.limits (all_hosts closed) back) closed end back → TakesBack (given_back start.limits lease.site lease.start.number facts now (all_hosts start)) start end lease
  kept_later lease back same there known was_open idle full next =
      let site = lease.site in
      let old = host_at start site in
      let mid = host_at closed site in
      let new = host_at end site in
      let first = room.keeps site there in
      let last : TakesBack (spent_at_once closed.limits (all_hosts closed) lease) closed end lease = subst (λ (l : Leasing S). TakesBack (spent_at_once closed.limits (all_hosts closed) l) closed end l) same next in
      let call = last.at_site in
      let roomy : all_hosts closed ≡ with_room_to_keep start.limits site lease.start.number facts now (all_hosts start) =
      room.all ∙ sym (room_was_made start.limits site lease.start.number facts now (all_hosts start) idle full) in
      record {
        at_site = call_at site start end there (stays_host_on old mid new first.stays call.host) (keeps_others_on site start closed end room.stays (keeps_others site start closed room.keeps) call.others) (stays_pool_on start closed end room.stays call.stays);
        known = known;
        was_open = was_open;
        all = last.all ∙ ap (λ (b : Bounds). spent_at_once b (all_hosts closed) lease) room.stays.limits ∙ ap (λ (all : AllHosts). spent_at_once start.limits all lease) roomy;
        stream = last.stream;
        streams = others_on lease.start.number old mid new first.stays.grew call.host.grew (but_one lease.start.number old mid first.streams) last.streams;
        spends = spends_after old mid new lease.start.want.transfer first.keeps last.spends;
      }
