use Rattle.std.proofs.Common.{◌≡◌, ◌<◌, ℕ, [], ◌∷◌, ◌++◌, length, refl, sym, ap, subst, ◌∙◌, arith, true, false, slice_set, Ok}
use Rattle.std.proofs.lemmas.List.{length-set, length-map}
use Rattle.budget.specs.Limits.{Bounds}
use Rattle.conn_log.specs.declared.entry.Want.{Want}
use Rattle.conn_log.specs.Connections.{is_among, is_idle}
use Rattle.bundle.specs.declared.answers.Got.TheVariants.{NoRoom}
use Rattle.host_state.specs.Calls.{no_room, refusal, acquired as acquired_at}
use Rattle.host_state.specs.Laws.{IsSoundAndQuiet}
use Rattle.bundle.specs.Lease.{HostShown, Booked, IsBookedHere}
use Rattle.bundle.specs.Replies.{IsGot}
use Rattle.bundle.specs.Starts.{AcquiresAt}
use Rattle.bundle.specs.declared.answers.Acquired.TheVariants.{Lease, Wait}
use Rattle.conn_log.specs.Fit.{oldest_stamp}
use Rattle.cache.specs.AllHosts.{terms, log_at, with_room}
use Rattle.cache.specs.Calls.{Acquired, acquired, started}
use Rattle.cache.specs.Oldest.{is_before, stamp_at}
use Rattle.cache.proofs.BudgetRequests.{once_as_told}
use Rattle.cache.specs.Pools.{PoolShown, all_hosts, host_at, host_in, IsAcquired, StaysHost, StaysPool, KeepsOtherHosts as KeepsOthers}
use Rattle.cache.specs.PoolCalls.{AcquiresLease, AcquiresTicket, AcquiresBy, EndsAcquire, IsReason}
use Rattle.cache.proofs.HostParts.{part_changed}
use Rattle.cache.proofs.AtHost.{leased_by, waits_by, leased_at, waits_at}
use Rattle.cache.proofs.Booked.{IsLeftHalfway, among_last, not_booked, none_due, stream_in, acquires_after}
use Rattle.cache.proofs.Refusals.{is_reason}
use Rattle.cache.proofs.Reused.{IsReuse, reused_was_idle, idle_before_room, stream_before}
use Rattle.cache.proofs.SameLog.{shown_as}
use Rattle.cache.proofs.NoneQueued.{pool_stays}
use Rattle.cache.proofs.OneHost.{others_keep, host_changed, read_is, log_is, there_inside}
use Rattle.cache.proofs.Calling.{kept_called, was_kept, told_so, marks_nothing, NotesOne}
use Rattle.cache.proofs.LastTries.{IsToldAt, once_all, once_reply, lease_reply, wait_reply, begun_lease, begun_wait, same_order, no_room_reply, booking_is, half_full, half_goes_on, again_reply, never_again}
use Rattle.cache.proofs.OldestStamps.{still_not_later}
use Rattle.cache.proofs.hosts.Hosts.acquire.Goals as goal

pub acquire-got-requires-clause-enrolled : goal.acquire-got-requires-clause-enrolled
acquire-got-requires-clause-enrolled g c =
    let inside = c.self.inside in
    let was = c.index_mut-bundle.result.now in
    let there = there_inside c.args.site c.self.view_is c.requires.there in
    (was_kept c.args.site inside.bundles.items was was inside.budget inside.budget inside.lobby inside.lobby inside.pass inside.pass inside.noted inside.noted c.self.invariant there c.index_mut-bundle.ensures.value).enrolled

pub invariant_of-self : goal.invariant_of-self
invariant_of-self g c =
    let site = c.args.site in
    let inside = c.self.inside in
    let hosts = inside.bundles.items in
    let was = c.index_mut-bundle.result.now in
    let new = c.acquire-got.new.self in
    let later = c.acquire-got.new.permits.budget.now in
    let pass = c.acquire-got.new.pass in
    let done = c.in-Ok-Lease.ensures in
    let read = c.index_mut-bundle.ensures.value in
    let there = there_inside site c.self.view_is c.requires.there in
    let part = part_changed c.at-permits.ensures.host c.at-permits.ensures.budget done.permits.stays done.permits.part in
    let it = was_kept site hosts was new inside.budget later inside.lobby inside.lobby inside.pass pass inside.noted inside.noted c.self.invariant there read in
    let settled : IsSoundAndQuiet new.settings new.log = done.settled in
    let marks = marks_nothing site _ _ inside.lobby it.listed done.mark in
    let tells = told_so was.host _ inside.pass pass done.tells in
    let notes : NotesOne site inside.noted inside.noted _ = record {
      stamps = refl;
      other_stamps = λ other apart. refl;
      not_later = still_not_later false done.answer.told.0 was.settings was.log new.log c.args.want c.args.now site _ done.answer.told.2.log it.not_later;
    } in
    kept_called site hosts was new inside.budget later inside.lobby inside.lobby inside.pass pass inside.noted inside.noted c.self.invariant there read done.same_host settled part marks tells done.pass.seats done.pass.account notes

pub invariant_of-self-in-Ok-Wait : goal.invariant_of-self-in-Ok-Wait
invariant_of-self-in-Ok-Wait g c =
    let site = c.args.site in
    let inside = c.self.inside in
    let hosts = inside.bundles.items in
    let was = c.index_mut-bundle.result.now in
    let new = c.acquire-got.new.self in
    let later = c.acquire-got.new.permits.budget.now in
    let pass = c.acquire-got.new.pass in
    let done = c.in-Ok-Wait.ensures in
    let read = c.index_mut-bundle.ensures.value in
    let there = there_inside site c.self.view_is c.requires.there in
    let part = part_changed c.at-permits.ensures.host c.at-permits.ensures.budget done.permits.stays done.permits.part in
    let it = was_kept site hosts was new inside.budget later inside.lobby inside.lobby inside.pass pass inside.noted inside.noted c.self.invariant there read in
    let settled : IsSoundAndQuiet new.settings new.log = done.settled in
    let marks = marks_nothing site _ _ inside.lobby it.listed done.mark in
    let tells = told_so was.host _ inside.pass pass done.tells in
    let notes : NotesOne site inside.noted inside.noted _ = record {
      stamps = refl;
      other_stamps = λ other apart. refl;
      not_later = still_not_later false done.answer.told.0 was.settings was.log new.log c.args.want c.args.now site _ done.answer.told.2.log it.not_later;
    } in
    kept_called site hosts was new inside.budget later inside.lobby inside.lobby inside.pass pass inside.noted inside.noted c.self.invariant there read done.same_host settled part marks tells done.pass.seats done.pass.account notes

pub invariant_of-self-in-Ok-NoRoom : goal.invariant_of-self-in-Ok-NoRoom
invariant_of-self-in-Ok-NoRoom g c =
    let site = c.args.site in
    let inside = c.self.inside in
    let hosts = inside.bundles.items in
    let was = c.index_mut-bundle.result.now in
    let new = c.acquire-got.new.self in
    let later = c.acquire-got.new.permits.budget.now in
    let pass = c.acquire-got.new.pass in
    let done = c.in-Ok-NoRoom.ensures in
    let read = c.index_mut-bundle.ensures.value in
    let there = there_inside site c.self.view_is c.requires.there in
    let part = part_changed c.at-permits.ensures.host c.at-permits.ensures.budget done.permits.stays done.permits.part in
    let it = was_kept site hosts was new inside.budget later inside.lobby inside.lobby inside.pass pass inside.noted inside.noted c.self.invariant there read in
    let settled : IsSoundAndQuiet new.settings new.log = done.settled in
    let marks = marks_nothing site _ _ inside.lobby it.listed done.mark in
    let tells = told_so was.host _ inside.pass pass done.tells in
    let notes : NotesOne site inside.noted inside.noted _ = record {
      stamps = refl;
      other_stamps = λ other apart. refl;
      not_later = still_not_later false done.answer.told.0 was.settings was.log new.log c.args.want c.args.now site _ done.answer.told.2.log it.not_later;
    } in
    kept_called site hosts was new inside.budget later inside.lobby inside.lobby inside.pass pass inside.noted inside.noted c.self.invariant there read done.same_host settled part marks tells done.pass.seats done.pass.account notes

lease_told : (g : _) (c : goal.In-Ok-Lease g) → IsToldAt false c.args.self.now.limits c.self.inside.bundles.items c.args.site c.index_mut-bundle.result.now c.acquire-got.new.self c.acquire-got.new.permits.budget.now c.self.inside.lobby.order c.self.inside.lobby.order c.args.want c.args.now c.in-Ok-Lease.ensures.answer.told.0
lease_told g c =
    let site = c.args.site in
    let inside = c.self.inside in
    let hosts = inside.bundles.items in
    let was = c.index_mut-bundle.result.now in
    let later = c.acquire-got.new.permits.budget.now in
    let done = c.in-Ok-Lease.ensures in
    let read = c.index_mut-bundle.ensures.value in
    let there = there_inside site c.self.view_is c.requires.there in
    let part = part_changed c.at-permits.ensures.host c.at-permits.ensures.budget done.permits.stays done.permits.part in
    let it = was_kept site hosts was was inside.budget later inside.lobby inside.lobby inside.pass inside.pass inside.noted inside.noted c.self.invariant there read in
    let limits = ap (λ p. p.limits) c.self.view_is in
    record {
      there = there;
      read = read;
      place = it.place;
      settings = it.settings ∙ ap terms limits;
      settled = it.settled;
      listed = it.listed;
      same = done.same_host.settings;
      log_is = done.answer.told.2.log;
      order_is = same_order was.host _ _ inside.lobby.order done.mark;
      limits_are = part.others.limits ∙ limits;
      parts = (invariant_of-self g c).parts;
      within = done.permits.stands.1;
      tells = done.answer.told.1;
    }

lease_got : (g : _) (c : goal.In-Ok-Lease g) → IsGot c.index_mut-bundle.result.now.host c.args.want (acquired_at false c.in-Ok-Lease.ensures.answer.told.0 c.index_mut-bundle.result.now.settings c.index_mut-bundle.result.now.log c.args.want c.args.now).reply (Rattle.bundle.specs.declared.answers.Got.TheVariants.Lease c.in-Ok-Lease.lease)
lease_got g c = subst (IsGot c.index_mut-bundle.result.now.host c.args.want (acquired_at false c.in-Ok-Lease.ensures.answer.told.0 c.index_mut-bundle.result.now.settings c.index_mut-bundle.result.now.log c.args.want c.args.now).reply) c.in-Ok-Lease.field-0-is c.in-Ok-Lease.ensures.answer.told.2.got_is

pub returns-in-Ok-Lease-clause-done : goal.returns-in-Ok-Lease-clause-done
returns-in-Ok-Lease-clause-done g c =
    let site = c.args.site in
    let want = c.args.want in
    let inside = c.self.inside in
    let hosts = inside.bundles.items in
    let order = inside.lobby.order in
    let was = c.index_mut-bundle.result.now in
    let new = c.acquire-got.new.self in
    let later = c.acquire-got.new.permits.budget.now in
    let lease = c.in-Ok-Lease.lease in
    let given = c.in-Ok-Lease.field-0-is in
    let done = c.in-Ok-Lease.ensures in
    let pool = c.args.self.now in
    let told = lease_told g c in
    let got = lease_got g c in
    let begun = begun_lease g.row.S.Denot was.host want _ lease got in
    let end = acquired pool.limits site want c.args.now (all_hosts pool) in
    let all = once_all pool.limits hosts site was new later order order want c.args.now done.answer.told.0 told begun ∙ ap (λ p. (acquired pool.limits site want c.args.now (all_hosts p)).all) c.self.view_is in
    let same = once_reply pool.limits hosts site was new later order order want c.args.now done.answer.told.0 told begun ∙ ap (λ p. (acquired pool.limits site want c.args.now (all_hosts p)).reply) c.self.view_is in
    let reply = subst (λ r. IsAcquired site r (Lease lease)) same (lease_reply g.row.S.Denot was.host site want _ lease told.place got) in
    let start = subst (AcquiresAt was new want was.booked (was.booked ++ want.transfer ∷ [])) given done.got in
    let leased = leased_by want was new start in
    let stays : StaysHost was new = record { same = done.same_host; booked = start.books; grew = done.grew } in
    let limits = told.limits_are ∙ ap (λ p. p.limits) (sym c.self.view_is) in
    subst (λ p. AcquiresLease site want end.all end.reply p (shown_as later.limits (slice_set hosts site new) order) lease) c.self.view_is
    (leased_at site hosts was new inside.budget.limits later.limits order order told.there told.read limits stays want end.all end.reply lease all reply leased)

wait_told : (g : _) (c : goal.In-Ok-Wait g) → IsToldAt false c.args.self.now.limits c.self.inside.bundles.items c.args.site c.index_mut-bundle.result.now c.acquire-got.new.self c.acquire-got.new.permits.budget.now c.self.inside.lobby.order c.self.inside.lobby.order c.args.want c.args.now c.in-Ok-Wait.ensures.answer.told.0
wait_told g c =
    let site = c.args.site in
    let inside = c.self.inside in
    let hosts = inside.bundles.items in
    let was = c.index_mut-bundle.result.now in
    let later = c.acquire-got.new.permits.budget.now in
    let done = c.in-Ok-Wait.ensures in
    let read = c.index_mut-bundle.ensures.value in
    let there = there_inside site c.self.view_is c.requires.there in
    let part = part_changed c.at-permits.ensures.host c.at-permits.ensures.budget done.permits.stays done.permits.part in
    let it = was_kept site hosts was was inside.budget later inside.lobby inside.lobby inside.pass inside.pass inside.noted inside.noted c.self.invariant there read in
    let limits = ap (λ p. p.limits) c.self.view_is in
    record {
      there = there;
      read = read;
      place = it.place;
      settings = it.settings ∙ ap terms limits;
      settled = it.settled;
      listed = it.listed;
      same = done.same_host.settings;
      log_is = done.answer.told.2.log;
      order_is = same_order was.host _ _ inside.lobby.order done.mark;
      limits_are = part.others.limits ∙ limits;
      parts = (invariant_of-self-in-Ok-Wait g c).parts;
      within = done.permits.stands.1;
      tells = done.answer.told.1;
    }

wait_got : (g : _) (c : goal.In-Ok-Wait g) → IsGot {S = g.row.S.Denot} c.index_mut-bundle.result.now.host c.args.want (acquired_at false c.in-Ok-Wait.ensures.answer.told.0 c.index_mut-bundle.result.now.settings c.index_mut-bundle.result.now.log c.args.want c.args.now).reply (Rattle.bundle.specs.declared.answers.Got.TheVariants.Wait c.in-Ok-Wait.ticket)
wait_got g c = subst (IsGot c.index_mut-bundle.result.now.host c.args.want (acquired_at false c.in-Ok-Wait.ensures.answer.told.0 c.index_mut-bundle.result.now.settings c.index_mut-bundle.result.now.log c.args.want c.args.now).reply) c.in-Ok-Wait.field-0-is c.in-Ok-Wait.ensures.answer.told.2.got_is

pub returns-in-Ok-Wait-clause-done : goal.returns-in-Ok-Wait-clause-done
returns-in-Ok-Wait-clause-done g c =
    let site = c.args.site in
    let want = c.args.want in
    let inside = c.self.inside in
    let hosts = inside.bundles.items in
    let order = inside.lobby.order in
    let was = c.index_mut-bundle.result.now in
    let new = c.acquire-got.new.self in
    let later = c.acquire-got.new.permits.budget.now in
    let ticket = c.in-Ok-Wait.ticket in
    let given = c.in-Ok-Wait.field-0-is in
    let done = c.in-Ok-Wait.ensures in
    let pool = c.args.self.now in
    let told = wait_told g c in
    let got = wait_got g c in
    let begun = begun_wait g.row.S.Denot was.host want _ ticket got in
    let end = acquired pool.limits site want c.args.now (all_hosts pool) in
    let all = once_all pool.limits hosts site was new later order order want c.args.now done.answer.told.0 told begun ∙ ap (λ p. (acquired pool.limits site want c.args.now (all_hosts p)).all) c.self.view_is in
    let same = once_reply pool.limits hosts site was new later order order want c.args.now done.answer.told.0 told begun ∙ ap (λ p. (acquired pool.limits site want c.args.now (all_hosts p)).reply) c.self.view_is in
    let reply = subst (λ r. IsAcquired {S = g.row.S.Denot} site r (Wait ticket)) same (wait_reply g.row.S.Denot was.host site want _ ticket told.place got) in
    let wait = subst (AcquiresAt was new want was.booked (was.booked ++ want.transfer ∷ [])) given done.got in
    let waits = waits_by want was new wait in
    let stays : StaysHost was new = record { same = done.same_host; booked = wait.books; grew = done.grew } in
    let limits = told.limits_are ∙ ap (λ p. p.limits) (sym c.self.view_is) in
    subst (λ p. AcquiresTicket site want end.all end.reply p (shown_as later.limits (slice_set hosts site new) order) ticket) c.self.view_is
    (waits_at site hosts was new inside.budget.limits later.limits order order told.there told.read limits stays want end.all end.reply ticket all reply waits)

half_told : (g : _) (c : goal.In-Ok-NoRoom g) → IsToldAt false c.args.self.now.limits c.self.inside.bundles.items c.args.site c.index_mut-bundle.result.now c.acquire-got.new.self c.acquire-got.new.permits.budget.now c.self.inside.lobby.order c.self.inside.lobby.order c.args.want c.args.now c.in-Ok-NoRoom.ensures.answer.told.0
half_told g c =
    let site = c.args.site in
    let inside = c.self.inside in
    let hosts = inside.bundles.items in
    let was = c.index_mut-bundle.result.now in
    let later = c.acquire-got.new.permits.budget.now in
    let done = c.in-Ok-NoRoom.ensures in
    let read = c.index_mut-bundle.ensures.value in
    let there = there_inside site c.self.view_is c.requires.there in
    let part = part_changed c.at-permits.ensures.host c.at-permits.ensures.budget done.permits.stays done.permits.part in
    let it = was_kept site hosts was was inside.budget later inside.lobby inside.lobby inside.pass inside.pass inside.noted inside.noted c.self.invariant there read in
    let limits = ap (λ p. p.limits) c.self.view_is in
    record {
      there = there;
      read = read;
      place = it.place;
      settings = it.settings ∙ ap terms limits;
      settled = it.settled;
      listed = it.listed;
      same = done.same_host.settings;
      log_is = done.answer.told.2.log;
      order_is = same_order was.host _ _ inside.lobby.order done.mark;
      limits_are = part.others.limits ∙ limits;
      parts = (invariant_of-self-in-Ok-NoRoom g c).parts;
      within = done.permits.stands.1;
      tells = done.answer.told.1;
    }

half_got : (g : _) (c : goal.In-Ok-NoRoom g) → IsGot {S = g.row.S.Denot} c.index_mut-bundle.result.now.host c.args.want (acquired_at false c.in-Ok-NoRoom.ensures.answer.told.0 c.index_mut-bundle.result.now.settings c.index_mut-bundle.result.now.log c.args.want c.args.now).reply (NoRoom c.in-Ok-NoRoom.booking)
half_got g c = subst (IsGot {S = g.row.S.Denot} c.index_mut-bundle.result.now.host c.args.want (acquired_at false c.in-Ok-NoRoom.ensures.answer.told.0 c.index_mut-bundle.result.now.settings c.index_mut-bundle.result.now.log c.args.want c.args.now).reply) c.in-Ok-NoRoom.field-0-is c.in-Ok-NoRoom.ensures.answer.told.2.got_is

half_reply : (g : _) (c : goal.In-Ok-NoRoom g) → (acquired_at false c.in-Ok-NoRoom.ensures.answer.told.0 c.index_mut-bundle.result.now.settings c.index_mut-bundle.result.now.log c.args.want c.args.now).reply ≡ no_room
half_reply g c = no_room_reply g.row.S.Denot c.index_mut-bundle.result.now.host c.args.want _ c.in-Ok-NoRoom.booking (half_got g c)

-- the booking is of the site and the want of the call
half_booked : (g : _) (c : goal.In-Ok-NoRoom g) → c.in-Ok-NoRoom.booking ≡ record { site = c.args.site; want = c.args.want }
half_booked g c =
    booking_is g.row.S.Denot c.index_mut-bundle.result.now.host c.args.want _ c.in-Ok-NoRoom.booking (half_got g c)
    ∙ ap (λ (h : ℕ). booked_at h c.args.want) (half_told g c).place
  where
    booked_at : ℕ → Want → Booked
    booked_at h want = record { site = h; want = want }

pub start_with_room-requires-clause-there : goal.start_with_room-requires-clause-there
start_with_room-requires-clause-there g c =
    let hosts = c.self.inside.bundles.items in
    subst (λ (b : Booked). b.site < length (slice_set hosts c.args.site c.acquire-got.new.self)) (sym (half_booked g c.before))
    (rw (length-set hosts c.args.site c.acquire-got.new.self) (half_told g c.before).there)

pub start_with_room-requires-clause-here : goal.start_with_room-requires-clause-here
start_with_room-requires-clause-here g c =
    let hosts = c.self.inside.bundles.items in
    let site = c.args.site in
    let new = c.acquire-got.new.self in
    let done = c.in-Ok-NoRoom.ensures in
    let told = half_told g c.before in
    let booked : new.booked ≡ c.index_mut-bundle.result.now.booked ++ c.args.want.transfer ∷ [] = (subst (AcquiresAt c.index_mut-bundle.result.now new c.args.want c.index_mut-bundle.result.now.booked (c.index_mut-bundle.result.now.booked ++ c.args.want.transfer ∷ [])) c.in-Ok-NoRoom.field-0-is done.got).books in
    let among : is_among c.args.want.transfer new.booked ≡ true = ap (is_among c.args.want.transfer) booked ∙ among_last c.index_mut-bundle.result.now.booked c.args.want.transfer in
    let here : IsBookedHere new (record { site = site; want = c.args.want }) = (sym (done.same_host.host ∙ told.place), among) in
    subst (λ (b : Booked). IsBookedHere (host_in (slice_set hosts site new) b.site) b) (sym (half_booked g c.before))
    (subst (λ (h : HostShown g.row.S.Denot). IsBookedHere h (record { site = site; want = c.args.want })) (sym (host_changed hosts site new told.there)) here)

pub start_with_room-requires-clause-full : goal.start_with_room-requires-clause-full
start_with_room-requires-clause-full g c =
    let later = c.acquire-got.new.permits.budget.now in
    half_full c.args.self.now.limits c.self.inside.bundles.items c.args.site c.index_mut-bundle.result.now c.acquire-got.new.self later c.self.inside.lobby.order c.self.inside.lobby.order c.args.want c.args.now c.in-Ok-NoRoom.ensures.answer.told.0 (half_told g c.before) (half_reply g c.before) later.limits
    ∙ ap (λ (l : Bounds). l.total) (sym (half_told g c.before).limits_are)

pub unreachable-requires : goal.unreachable-requires
unreachable-requires g c =
    let done = c.in-Ok-Again.ensures in
    let was = c.index_mut-bundle.result.now in
    let told = done.answer.told.0 in
    let reply = (acquired_at false told was.settings was.log c.args.want c.args.now).reply in
    once_as_told was.settings c.args.want c.args.now told was.log (never_again c.acquire-got.new.permits.budget.now told done.answer.told.1)
    (again_reply g.row.S.Denot was.host c.args.want reply c.in-Ok-Again._booking (subst (IsGot {S = g.row.S.Denot} was.host c.args.want reply) c.in-Ok-Again.field-0-is done.answer.told.2.got_is))

pub invariant_of-self-in-Err : goal.invariant_of-self-in-Err
invariant_of-self-in-Err g c =
    let site = c.args.site in
    let inside = c.self.inside in
    let hosts = inside.bundles.items in
    let was = c.index_mut-bundle.result.now in
    let new = c.acquire-got.new.self in
    let later = c.acquire-got.new.permits.budget.now in
    let pass = c.acquire-got.new.pass in
    let done = c.in-Err.ensures in
    let read = c.index_mut-bundle.ensures.value in
    let there = there_inside site c.self.view_is c.requires.there in
    let part = part_changed c.at-permits.ensures.host c.at-permits.ensures.budget done.permits.stays done.permits.part in
    let it = was_kept site hosts was new inside.budget later inside.lobby inside.lobby inside.pass pass inside.noted inside.noted c.self.invariant there read in
    let settled : IsSoundAndQuiet new.settings new.log = done.settled in
    let marks = marks_nothing site _ _ inside.lobby it.listed done.mark in
    let tells = told_so was.host _ inside.pass pass done.tells in
    let notes : NotesOne site inside.noted inside.noted (oldest_stamp new.log site) = record {
      stamps = refl;
      other_stamps = λ other apart. refl;
      not_later = ap (λ (h : HostShown g.row.S.Denot). is_before (oldest_stamp h.log site) (stamp_at inside.noted site)) done.err.0 ∙ it.not_later;
    } in
    kept_called site hosts was new inside.budget later inside.lobby inside.lobby inside.pass pass inside.noted inside.noted c.self.invariant there read done.same_host settled part marks tells done.pass.seats done.pass.account notes

-- the host that was read is the site's
half_site : (g : _) (c : goal.In-Ok-NoRoom g) → host_at c.args.self.now c.args.site ≡ c.index_mut-bundle.result.now
half_site g c =
    let told = half_told g c in
    sym (read_is c.self.inside.bundles.items c.args.site c.index_mut-bundle.result.now told.there told.read ∙ ap (λ p. host_at p c.args.site) c.self.view_is)

-- the acquire was left halfway there
left_halfway : (g : _) (c : goal.In-Ok-NoRoom g) → IsLeftHalfway c.args.want.transfer (host_at c.args.self.now c.args.site) (host_in (slice_set c.self.inside.bundles.items c.args.site c.acquire-got.new.self) c.args.site)
left_halfway g c =
    let hosts = c.self.inside.bundles.items in
    let site = c.args.site in
    let transfer = c.args.want.transfer in
    let was = c.index_mut-bundle.result.now in
    let new = c.acquire-got.new.self in
    let done = c.in-Ok-NoRoom.ensures in
    let given = c.in-Ok-NoRoom.field-0-is in
    let left = subst (AcquiresAt was new c.args.want was.booked (was.booked ++ transfer ∷ [])) given done.got in
    let half : IsLeftHalfway transfer was new = record {
      same = done.same_host;
      keeps = left.keeps;
      grew = done.grew;
      keeps_streams = left.streams;
      not_yet = not_booked was.settings was.log was.booked c.args.want (none_due _ (Ok c.in-Ok-NoRoom.field-0) c.in-Ok-NoRoom.field-0 refl done.refused);
      booked = left.books;
    } in
    subst (IsLeftHalfway transfer (host_at c.args.self.now site)) (sym (host_changed hosts site new (half_told g c).there)) (subst (λ (h : HostShown g.row.S.Denot). IsLeftHalfway transfer h new) (sym (half_site g c)) half)

pub returns-in-Ok-NoRoom-clause-done : goal.returns-in-Ok-NoRoom-clause-done
returns-in-Ok-NoRoom-clause-done g c =
    let half = c.before.before in
    let site = c.args.site in
    let want = c.args.want in
    let inside = c.self.inside in
    let hosts = inside.bundles.items in
    let order = inside.lobby.order in
    let was = c.index_mut-bundle.result.now in
    let new = c.acquire-got.new.self in
    let later = c.acquire-got.new.permits.budget.now in
    let pool = c.args.self.now in
    let got = c.start_with_room.result in
    let told = half_told g half in
    let left = left_halfway g half in
    let mid : PoolShown g.row.S.Denot = shown_as later.limits (slice_set hosts site new) order in
    let rest = (λ (b : Booked). started later.limits b.site b.want c.args.now (with_room later.limits c.args.now (all_hosts mid))) in
    let ended = subst (λ (b : Booked). EndsAcquire b.site b.want (rest b).all (rest b).reply mid c.start_with_room.new.self got) (half_booked g half) c.start_with_room.ensures in
    let there : site < length pool.hosts = subst (λ (p : PoolShown g.row.S.Denot). site < length p.hosts) c.self.view_is told.there in
    let others : KeepsOthers site pool mid = rw (sym c.self.view_is) (others_keep inside.budget.limits order order hosts site new) in
    let stays : StaysPool pool mid = record { limits = told.limits_are; count = length-set hosts site new ∙ ap (λ p. length p.hosts) c.self.view_is } in
    -- a reused connection was idle before, with its stream
    let room = with_room later.limits c.args.now (all_hosts mid) in
    let inside_mid : site < length (all_hosts mid).logs = omega (arith, told.there, length-set hosts site new, length-map (slice_set hosts site new) (λ (h : HostShown g.row.S.Denot). h.log)) in
    let reuse : IsReuse (host_at mid site).log (started later.limits site want c.args.now room).reply = (λ s is reused.
    subst (λ l. is_idle l s.number ≡ true) (log_is mid site) (idle_before_room later.limits c.args.now (all_hosts mid) site s.number inside_mid
    (reused_was_idle true _ (terms later.limits) (log_at room site) want c.args.now s is reused))) in
    let stream = stream_before (host_at pool site) (host_at mid site) site _ got left.keeps_streams reuse ended.reply (stream_in want (host_at mid site) (host_at c.start_with_room.new.self site) got ended.lease) in
    let goes_on = half_goes_on pool.limits hosts site was new later order order want c.args.now c.in-Ok-NoRoom.ensures.answer.told.0 told (half_reply g half) later.limits in
    let same = ap (λ (l : Bounds). started l site want c.args.now (with_room l c.args.now (all_hosts mid))) told.limits_are ∙ sym goes_on ∙ ap (λ p. acquired pool.limits site want c.args.now (all_hosts p)) c.self.view_is in
    subst (λ (a : Acquired). AcquiresBy site want a.all a.reply pool c.start_with_room.new.self got) same
    (acquires_after site want _ _ pool mid c.start_with_room.new.self there left others stays got stream ended)

pub returns-in-Err-clause-refused : goal.returns-in-Err-clause-refused
returns-in-Err-clause-refused g c =
    let site = c.args.site in
    let inside = c.self.inside in
    let hosts = inside.bundles.items in
    let was = c.index_mut-bundle.result.now in
    let new = c.acquire-got.new.self in
    let later = c.acquire-got.new.permits.budget.now in
    let done = c.in-Err.ensures in
    let read = c.index_mut-bundle.ensures.value in
    let there = there_inside site c.self.view_is c.requires.there in
    let part = part_changed c.at-permits.ensures.host c.at-permits.ensures.budget done.permits.stays done.permits.part in
    let same = pool_stays inside.budget.limits later.limits site hosts was new inside.lobby.order part.others.limits read done.err.0 in
    let reason = is_reason _ (refusal was.settings was.log was.booked c.args.want) c.in-Err.refusal done.refused done.else_memory in
    rw (sym c.self.view_is) (same, subst (λ (h : HostShown g.row.S.Denot). IsReason (refusal h.settings h.log h.booked c.args.want) c.in-Err.refusal) (read_is hosts site was there read) reason)
