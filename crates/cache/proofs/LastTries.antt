-- What all hosts are after an acquire at one of them, by what its bundle and the budget told.
use Rattle.std.proofs.Common.{◌≡◌, ℕ, ◌+◌, ◌<◌, Bool, true, false, List, [], ◌∷◌, length, map, slice_set, slice_index_or, refl, sym, ap, subst, ◌∙◌, arith}
use Rattle.std.specs.Prelude.{nat_lt, if◌then◌else◌}
use Rattle.std.specs.List.{sum_by}
use Rattle.std.proofs.lemmas.Bool.Decides.{nat_tests}
use Rattle.std.proofs.lemmas.List.{length-map}
use Rattle.std.proofs.lemmas.List.Sums.{sum_by-cons, get_or-le-sum_by}
use Rattle.budget.specs.Limits.{Bounds}
use Rattle.budget.specs.declared.permits.Held.{Held}
use Rattle.budget.specs.declared.permits.Try.{Try}
use Rattle.budget.specs.declared.permits.Try.TheVariants.{Full, Contended}
use Rattle.budget.specs.Plain.{Plain, IsWithin, TellsOfOpen, alive_in}
use Rattle.conn_log.specs.declared.entry.Want.{Want}
use Rattle.conn_log.specs.declared.entry.Cause.TheVariants.{TotalRoom}
use Rattle.conn_log.specs.declared.entry.Entry.{Entry}
use Rattle.conn_log.specs.Connections.{idle_connections}
use Rattle.conn_log.specs.Legal.{LimitAndFirst}
use Rattle.bundle.specs.declared.answers.Got.TheVariants.{Lease as GotLease, Wait as GotWait, NoRoom, Again}
use Rattle.host_state.specs.Calls.{Reply, starts, waits_on, no_room, again, acquired as acquired_at, is_queued, Acquired as AcquiredAt}
use Rattle.host_state.specs.Orders.{order_after}
use Rattle.budget.specs.Lobby.{is_listed}
use Rattle.host_state.specs.Effects.{open_len, idle_len}
use Rattle.host_state.specs.Laws.{IsSoundAndQuiet}
use Rattle.bundle.specs.Lease.{HostShown, Leasing, Ticketed, Booked}
use Rattle.host_state.specs.Counts.{held_by}
use Rattle.bundle.specs.Replies.{IsGot}
use Rattle.bundle.specs.declared.answers.Acquired.TheVariants.{Lease, Wait}
use Rattle.cache.specs.AllHosts.{AllHosts, log_at, with_log, terms, total, kept, has_room, with_room, without_oldest, marked}
use Rattle.cache.specs.Calls.{Acquired, acquired, started}
use Rattle.cache.specs.Pools.{all_hosts, logs_of, IsAcquired}
use Rattle.cache.specs.Turns.{IsOneFewer}
use Rattle.cache.proofs.OneHost.{logs_changed, log_was, all_marked}
use Rattle.cache.proofs.Starts.{Tells, becomes, as_told, at_once, IsHalfway, halfway}

module _ {S : Type 0} where
  -- what the budget holds is what the logs count
  alive_is : (hosts : List (HostShown S)) → alive_in (map (λ (h : HostShown S). held_by h.log) hosts) ≡ sum_by open_len (logs_of hosts)
  alive_is [] = refl
  alive_is (h ∷ hosts) =
      let held_of : HostShown S → Held = λ (h : HostShown S). held_by h.log in
      omega (arith, alive_is hosts, sum_by-cons (λ (x : Held). x.alive) (held_of h) (map held_of hosts), sum_by-cons open_len h.log (logs_of hosts))

  -- what the budget told, of the logs
  pub tells_of : (limits : Bounds) (hosts : List (HostShown S)) (site : ℕ) (new : HostShown S) (later : Plain) (order : List ℕ) (told : Try) → later.limits ≡ limits
      → later.hosts ≡ map (λ (h : HostShown S). held_by h.log) (slice_set hosts site new) → IsWithin later → TellsOfOpen later told
      → Tells limits.total (total (with_log site new.log (record { logs = logs_of hosts; queue = order }))) told
  tells_of limits hosts site new later order told same parts within tells =
      let count : alive_in later.hosts ≡ total (with_log site new.log (record { logs = logs_of hosts; queue = order })) =
      ap alive_in parts ∙ alive_is (slice_set hosts site new) ∙ ap (sum_by open_len) (logs_changed hosts site new) in
      let most : later.limits.total ≡ limits.total = ap (λ (l : Bounds). l.total) same in
      record {
        within = omega (arith, count, most, within.total);
        full = λ is. sym count ∙ at_limit told is tells ∙ most;
        once = λ is. never told is tells;
      }
    where
      at_limit : (answer : Try) → answer ≡ Full → TellsOfOpen later answer → alive_in later.hosts ≡ later.limits.total
      at_limit answer is t = subst (TellsOfOpen later) is t

      never : (answer : Try) → answer ≡ Contended → TellsOfOpen later answer → ⊥
      never answer is t = subst (TellsOfOpen later) is t

-- the reply, by what is given
module _ (S : Type 0) where
  pub lease_reply : (host site : ℕ) (want : Want) (reply : Reply) (lease : Leasing S) → host ≡ site → IsGot host want reply (GotLease lease) → IsAcquired site reply (Lease lease)
  lease_reply host site want (starts s) lease place is = (is.0 ∙ place, is.1)
  lease_reply host site want (waits_on w) lease place is = absurd is
  lease_reply host site want no_room lease place is = absurd is
  lease_reply host site want again lease place is = absurd is

  pub wait_reply : (host site : ℕ) (want : Want) (reply : Reply) (ticket : Ticketed) → host ≡ site → IsGot {S = S} host want reply (GotWait ticket) → IsAcquired {S = S} site reply (Wait ticket)
  wait_reply host site want (starts s) ticket place is = absurd is
  wait_reply host site want (waits_on w) ticket place is = is ∙ ap (λ (h : ℕ). record { site = h; wait = w; tables = ticket.tables }) place
  wait_reply host site want no_room ticket place is = absurd is
  wait_reply host site want again ticket place is = absurd is

  pub no_room_reply : (host : ℕ) (want : Want) (reply : Reply) (booking : Booked) → IsGot {S = S} host want reply (NoRoom booking) → reply ≡ no_room
  no_room_reply host want (starts s) booking is = absurd is
  no_room_reply host want (waits_on w) booking is = absurd is
  no_room_reply host want no_room booking is = refl
  no_room_reply host want again booking is = absurd is

  pub again_reply : (host : ℕ) (want : Want) (reply : Reply) (booking : Booked) → IsGot {S = S} host want reply (Again booking) → reply ≡ again
  again_reply host want (starts s) booking is = absurd is
  again_reply host want (waits_on w) booking is = absurd is
  again_reply host want no_room booking is = absurd is
  again_reply host want again booking is = refl

  pub begun_lease : (host : ℕ) (want : Want) (reply : Reply) (lease : Leasing S) → IsGot host want reply (GotLease lease) → reply ≡ no_room → ⊥
  begun_lease host want reply lease is e = subst (λ (r : Reply). IsGot host want r (GotLease lease)) e is

  pub begun_wait : (host : ℕ) (want : Want) (reply : Reply) (ticket : Ticketed) → IsGot {S = S} host want reply (GotWait ticket) → reply ≡ no_room → ⊥
  begun_wait host want reply ticket is e = subst (λ (r : Reply). IsGot {S = S} host want r (GotWait ticket)) e is

-- a budget of one thread is never asked again
pub never_again : (budget : Plain) (told : Try) → TellsOfOpen budget told → told ≡ Contended → ⊥
never_again budget told tells is = subst (TellsOfOpen budget) is tells

-- where the total is at its limit the oldest of all makes room, where anything is idle
pub record MakesRoom (limits : Bounds) (now : ℕ) (old mid : AllHosts) : Type 0 where
  pub was_full : total old ≡ limits.total
  pub closed : Bool
  pub mid_is : mid ≡ without_oldest TotalRoom now old
  pub any : closed ≡ nat_lt 0 (kept old)
  pub fewer : closed ≡ true → IsOneFewer old mid
  pub none : closed ≡ false → mid ≡ old

no_room_at : (n limit : ℕ) → n ≡ limit → nat_lt n limit ≡ false
no_room_at n limit same = grind (arith, nat_tests, same)

has_some_room : (n m limit : ℕ) → n ≡ m + 1 → n ≡ limit → nat_lt m limit ≡ true
has_some_room n m limit more full = grind (arith, nat_tests, more, full)

none_kept : (n : ℕ) → false ≡ nat_lt 0 n → n ≡ 0
none_kept n is = grind (arith, nat_tests, is)

nothing : (numbers : List ℕ) → length numbers ≡ 0 → numbers ≡ []
nothing [] is = refl
nothing (c ∷ numbers) is = absurd (omega (arith, is))

module _ (limits : Bounds) (now : ℕ) (old mid : AllHosts) (room : MakesRoom limits now old mid) where
  pub room_made : mid ≡ with_room limits now old
  room_made = room.mid_is ∙ sym (ap (λ (b : Bool). if b then old else without_oldest TotalRoom now old) (no_room_at (total old) limits.total room.was_full))

  pub none_idle_beside : (site : ℕ) → site < length mid.logs → has_room limits mid ≡ false → idle_connections (log_at mid site) ≡ []
  none_idle_beside site there is = by_closed room.closed refl
    where
      by_closed : (closed : Bool) → room.closed ≡ closed → idle_connections (log_at mid site) ≡ []
      by_closed true e =
          let more = (room.fewer e).number_open in
          absurd (true_false (sym (has_some_room (total old) (total mid) limits.total more room.was_full) ∙ is))
        where
          true_false : true ≡ false → ⊥
          true_false x = cc
      by_closed false e =
          let zero_old : kept old ≡ 0 = none_kept (kept old) (sym e ∙ room.any) in
          let zero_mid : kept mid ≡ 0 = ap kept (room.none e) ∙ zero_old in
          nothing (idle_connections (log_at mid site)) (omega (arith, zero_mid, get_or-le-sum_by idle_len mid.logs site [] there))

  -- so the last try is what starts with that room
  pub tried_last : (site : ℕ) (want : Want) (told : Try) → site < length mid.logs → IsSoundAndQuiet (terms limits) (log_at mid site)
      → (let last = acquired_at true told (terms limits) (log_at mid site) want now in
      Tells limits.total (total (with_log site last.log mid)) told
      → started limits site want now (with_room limits now old) ≡ record { all = marked limits site (with_log site last.log mid); reply = last.reply })
  tried_last site want told there kept tells =
      ap (started limits site want now) (sym room_made) ∙ as_told limits site want now mid there kept told tells (none_idle_beside site there)

-- the queue stays where the mark does
pub same_order : (host : ℕ) (was is : Bool) (order : List ℕ) → is ≡ was → order ≡ order_after host was is order
same_order host was is order same = rw same (sym (by_mark was))
  where
    by_mark : (b : Bool) → order_after host b b order ≡ order
    by_mark true = refl
    by_mark false = refl

-- what the bundle and the budget told of the acquire at one host
pub record IsToldAt {S : Type 0} (is_last : Bool) (limits : Bounds) (hosts : List (HostShown S)) (site : ℕ) (was new : HostShown S) (later : Plain) (order after : List ℕ) (want : Want) (now : ℕ) (told : Try) : Type 0 where
  pub there : site < length hosts
  pub read : was ≡ slice_index_or hosts site was
  pub place : was.host ≡ site
  pub settings : was.settings ≡ terms limits
  pub settled : IsSoundAndQuiet was.settings was.log
  pub listed : is_listed order site ≡ is_queued was.settings was.log
  pub same : new.settings ≡ was.settings
  pub log_is : new.log ≡ (acquired_at is_last told was.settings was.log want now).log
  pub order_is : after ≡ order_after was.host (is_queued was.settings was.log) (is_queued new.settings new.log) order
  pub limits_are : later.limits ≡ limits
  pub parts : later.hosts ≡ map (λ (h : HostShown S). held_by h.log) (slice_set hosts site new)
  pub within : IsWithin later
  pub tells : TellsOfOpen later told

module _ {S : Type 0} (is_last : Bool) (limits : Bounds) (hosts : List (HostShown S)) (site : ℕ) (was new : HostShown S) (later : Plain) (order after : List ℕ) (want : Want) (now : ℕ) (told : Try)
    (at : IsToldAt is_last limits hosts site was new later order after want now told) where
  abbrev pub before : AllHosts
  before = record { logs = logs_of hosts; queue = order }

  abbrev pub due : AcquiredAt
  due = acquired_at is_last told (terms limits) (log_at before site) want now

  log_there : site < length before.logs
  log_there = omega (arith, at.there, length-map hosts (λ (h : HostShown S). h.log))

  pub due_is : acquired_at is_last told was.settings was.log want now ≡ due
  due_is = ap (λ (s : LimitAndFirst). acquired_at is_last told s was.log want now) at.settings
      ∙ ap (λ (l : List Entry). acquired_at is_last told (terms limits) l want now) (log_was hosts site was at.there at.read)

  log_due : new.log ≡ due.log
  log_due = at.log_is ∙ ap (λ (a : AcquiredAt). a.log) due_is

  settled_there : IsSoundAndQuiet (terms limits) (log_at before site)
  settled_there = subst (IsSoundAndQuiet (terms limits)) (log_was hosts site was at.there at.read) (subst (λ (s : LimitAndFirst). IsSoundAndQuiet s was.log) at.settings at.settled)

  tells_due : Tells limits.total (total (with_log site due.log before)) told
  tells_due = subst (λ (l : List Entry). Tells limits.total (total (with_log site l before)) told) log_due (tells_of limits hosts site new later order told at.limits_are at.parts at.within at.tells)

  after_is : all_hosts (record { limits = limits; hosts = slice_set hosts site new; queue = after }) ≡ marked limits site (with_log site due.log before)
  after_is = all_marked limits hosts site was new order after at.there at.place (at.same ∙ at.settings) at.listed at.order_is
      ∙ ap (λ (l : List Entry). marked limits site (with_log site l before)) log_due

-- the last try
module _ {S : Type 0} (limits : Bounds) (hosts : List (HostShown S)) (site : ℕ) (was new : HostShown S) (later : Plain) (order after : List ℕ) (want : Want) (now : ℕ) (told : Try)
    (at : IsToldAt true limits hosts site was new later order after want now told) (old : AllHosts)
    (room : MakesRoom limits now old (record { logs = logs_of hosts; queue = order })) where
  ends : started limits site want now (with_room limits now old) ≡ becomes limits site want now (due true limits hosts site was new later order after want now told at) (record { logs = logs_of hosts; queue = order })
  ends = tried_last limits now old (record { logs = logs_of hosts; queue = order }) room site want told
      (log_there true limits hosts site was new later order after want now told at)
      (settled_there true limits hosts site was new later order after want now told at)
      (tells_due true limits hosts site was new later order after want now told at)

  pub last_all : all_hosts (record { limits = limits; hosts = slice_set hosts site new; queue = after }) ≡ (started limits site want now (with_room limits now old)).all
  last_all = after_is true limits hosts site was new later order after want now told at ∙ ap (λ (a : Acquired). a.all) (sym ends)

  pub last_reply : (acquired_at true told was.settings was.log want now).reply ≡ (started limits site want now (with_room limits now old)).reply
  last_reply = ap (λ (a : AcquiredAt). a.reply) (due_is true limits hosts site was new later order after want now told at) ∙ ap (λ (a : Acquired). a.reply) (sym ends)

-- an acquire that is not left halfway
module _ {S : Type 0} (limits : Bounds) (hosts : List (HostShown S)) (site : ℕ) (was new : HostShown S) (later : Plain) (order after : List ℕ) (want : Want) (now : ℕ) (told : Try)
    (at : IsToldAt false limits hosts site was new later order after want now told)
    (begun : (acquired_at false told was.settings was.log want now).reply ≡ no_room → ⊥) where
  comes : acquired limits site want now (record { logs = logs_of hosts; queue = order }) ≡ becomes limits site want now (due false limits hosts site was new later order after want now told at) (record { logs = logs_of hosts; queue = order })
  comes = at_once limits site want now (record { logs = logs_of hosts; queue = order })
      (log_there false limits hosts site was new later order after want now told at)
      (settled_there false limits hosts site was new later order after want now told at) told
      (tells_due false limits hosts site was new later order after want now told at)
      (λ e. begun (ap (λ (a : AcquiredAt). a.reply) (due_is false limits hosts site was new later order after want now told at) ∙ e))

  pub once_all : all_hosts (record { limits = limits; hosts = slice_set hosts site new; queue = after }) ≡ (acquired limits site want now (record { logs = logs_of hosts; queue = order })).all
  once_all = after_is false limits hosts site was new later order after want now told at ∙ ap (λ (a : Acquired). a.all) (sym comes)

  pub once_reply : (acquired_at false told was.settings was.log want now).reply ≡ (acquired limits site want now (record { logs = logs_of hosts; queue = order })).reply
  once_reply = ap (λ (a : AcquiredAt). a.reply) (due_is false limits hosts site was new later order after want now told at) ∙ ap (λ (a : Acquired). a.reply) (sym comes)

-- an acquire that is left halfway
module _ {S : Type 0} (limits : Bounds) (hosts : List (HostShown S)) (site : ℕ) (was new : HostShown S) (later : Plain) (order after : List ℕ) (want : Want) (now : ℕ) (told : Try)
    (at : IsToldAt false limits hosts site was new later order after want now told)
    (is_full : (acquired_at false told was.settings was.log want now).reply ≡ no_room) where
  left_half : IsHalfway limits site want now (record { logs = logs_of hosts; queue = order })
      (log_there false limits hosts site was new later order after want now told at)
      (settled_there false limits hosts site was new later order after want now told at) told
  left_half = halfway limits site want now (record { logs = logs_of hosts; queue = order })
      (log_there false limits hosts site was new later order after want now told at)
      (settled_there false limits hosts site was new later order after want now told at) told
      (tells_due false limits hosts site was new later order after want now told at)
      (sym (ap (λ (a : AcquiredAt). a.reply) (due_is false limits hosts site was new later order after want now told at)) ∙ is_full)

  mid_is : (own : Bounds) → all_hosts (record { limits = own; hosts = slice_set hosts site new; queue = order })
      ≡ with_log site (due false limits hosts site was new later order after want now told at).log (record { logs = logs_of hosts; queue = order })
  mid_is own = ap (λ (logs : List (List Entry)). placed logs) (logs_changed hosts site new)
      ∙ ap (λ (l : List Entry). with_log site l (record { logs = logs_of hosts; queue = order })) (log_due false limits hosts site was new later order after want now told at)
    where
      placed : List (List Entry) → AllHosts
      placed logs = record { logs = logs; queue = order }

  pub half_full : (own : Bounds) → total (all_hosts (record { limits = own; hosts = slice_set hosts site new; queue = order })) ≡ limits.total
  half_full own = ap total (mid_is own) ∙ left_half.full

  pub half_goes_on : (own : Bounds) → acquired limits site want now (record { logs = logs_of hosts; queue = order })
      ≡ started limits site want now (with_room limits now (all_hosts (record { limits = own; hosts = slice_set hosts site new; queue = order })))
  half_goes_on own = left_half.goes_on ∙ ap (λ (a : AllHosts). started limits site want now (with_room limits now a)) (sym (mid_is own))

-- the booking is that of its host and want
pub booking_is : (S : Type 0) (host : ℕ) (want : Want) (reply : Reply) (booking : Booked) → IsGot {S = S} host want reply (NoRoom booking) → booking ≡ record { site = host; want = want }
booking_is S host want (starts s) booking is = absurd is
booking_is S host want (waits_on w) booking is = absurd is
booking_is S host want no_room booking is = is
booking_is S host want again booking is = absurd is
