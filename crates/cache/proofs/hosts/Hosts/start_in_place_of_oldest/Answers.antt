use Rattle.std.proofs.Common.{◌≡◌, ◌<◌, length, refl, sym, ap, subst, ◌∙◌, true, slice_set}
use Rattle.std.proofs.lemmas.List.{length-set}
use Rattle.host_state.specs.Calls.{acquired as acquired_at}
use Rattle.host_state.specs.Bookings.{without_booked}
use Rattle.host_state.specs.Laws.{IsSoundAndQuiet}
use Rattle.bundle.specs.Lease.{KeepsStreams}
use Rattle.bundle.specs.Replies.{IsGot}
use Rattle.bundle.specs.Starts.{AcquiresAt}
use Rattle.conn_log.specs.declared.entry.Cause.{Cause}
use Rattle.cache.specs.AllHosts.{terms, without_oldest}
use Rattle.cache.specs.Pools.{all_hosts, host_at, logs_of, IsAcquired, GivesLease, GivesTicket, KeepsHost}
use Rattle.cache.specs.PoolCalls.{IsLeasedAt, IsWaitAt}
use Rattle.cache.proofs.HostParts.{part_changed}
use Rattle.cache.proofs.AtHost.{leased_by, waits_by}
use Rattle.cache.proofs.Booked.{leased_after, waits_after}
use Rattle.cache.proofs.SameLog.{shown_as}
use Rattle.cache.proofs.OneHost.{others_keep, read_is, host_changed, there_inside}
use Rattle.cache.proofs.Reused.{stream_kept}
use Rattle.cache.proofs.Calling.{kept_called, was_kept, told_so, marks_one, NotesOne}
use Rattle.cache.proofs.Keeping.{keeps_others, keeps_others_on, stays_pool_on, stays_there_on, grows_on}
use Rattle.cache.proofs.LastTries.{MakesRoom, lease_reply, wait_reply, no_room_reply, again_reply, never_again, IsToldAt, last_all, last_reply}
use Rattle.cache.specs.Turns.{IsOneFewer}
use Rattle.cache.proofs.BudgetRequests.{last_begins_as_told}
use Rattle.cache.proofs.OldestStamps.{still_not_later}
use Rattle.cache.proofs.hosts.Hosts.start_in_place_of_oldest.Goals as goal
use Rattle.cache.proofs.hosts.Hosts.start_in_place_of_oldest.Goals.{in-Lease, in-Wait}

pub unreachable-requires : goal.unreachable-requires
unreachable-requires g c =
    let done = c.retry-got.ensures in
    let was = c.index_mut-bundle.result.now in
    let told = done.answer.told.0 in
    let begins = last_begins_as_told was.settings c.part-halfway.result.0.want c.args.now told was.log (never_again c.retry-got.new.permits.budget.now told done.answer.told.1) in
    begins.0 (no_room_reply g.row.S.Denot was.host c.part-halfway.result.0.want _ c.in-NoRoom._booking (subst (λ r. IsGot was.host c.part-halfway.result.0.want (acquired_at true told was.settings was.log c.part-halfway.result.0.want c.args.now).reply r) c.in-NoRoom.is done.answer.told.2.got_is))

pub unreachable-requires-in-Again : goal.unreachable-requires-in-Again
unreachable-requires-in-Again g c =
    let done = c.retry-got.ensures in
    let was = c.index_mut-bundle.result.now in
    let told = done.answer.told.0 in
    let begins = last_begins_as_told was.settings c.part-halfway.result.0.want c.args.now told was.log (never_again c.retry-got.new.permits.budget.now told done.answer.told.1) in
    begins.1 (again_reply g.row.S.Denot was.host c.part-halfway.result.0.want _ c.in-Again._booking (subst (λ r. IsGot was.host c.part-halfway.result.0.want (acquired_at true told was.settings was.log c.part-halfway.result.0.want c.args.now).reply r) c.in-Again.is done.answer.told.2.got_is))

-- the site is there once room was made
site_there : (g : _) (c : goal.Joined-got g) → c.site-site.result < length c.self.inside.bundles.items
site_there g c = there_inside c.site-site.result c.self.view_is (rw (c.close_oldest.ensures.done.stays.count, c.site-site.ensures, c.part-halfway.ensures.booking) c.requires.there)

pub invariant_of-self : goal.invariant_of-self
invariant_of-self g c =
    let site = c.site-site.result in
    let inside = c.self.inside in
    let hosts = inside.bundles.items in
    let was = c.index_mut-bundle.result.now in
    let new = c.retry-got.new.self in
    let later = c.retry-got.new.permits.budget.now in
    let after = c.retry-got.new.lobby.0 in
    let pass = c.retry-got.new.pass in
    let done = c.retry-got.ensures in
    let read = c.index_mut-bundle.ensures.value in
    let there = site_there g c in
    let part = part_changed c.at-permits.ensures.host c.at-permits.ensures.budget done.permits.stays done.permits.part in
    let it = was_kept site hosts was new inside.budget later inside.lobby after inside.pass pass inside.noted inside.noted c.self.invariant there read in
    let settled : IsSoundAndQuiet new.settings new.log = done.settled in
    let marks = marks_one was.host site _ _ inside.lobby after it.place done.lobby in
    let tells = told_so was.host _ inside.pass pass done.tells in
    let notes : NotesOne site inside.noted inside.noted _ = record {
      stamps = refl;
      other_stamps = λ other apart. refl;
      not_later = still_not_later true done.answer.told.0 was.settings was.log new.log c.part-halfway.result.0.want c.args.now site _ done.answer.told.2.log it.not_later;
    } in
    kept_called site hosts was new inside.budget later inside.lobby after inside.pass pass inside.noted inside.noted c.self.invariant there read done.same_host settled part marks tells done.pass.seats done.pass.account notes

told_at : (g : _) (c : goal.Joined-got g) → IsToldAt true c.args.self.now.limits c.self.inside.bundles.items c.site-site.result c.index_mut-bundle.result.now c.retry-got.new.self c.retry-got.new.permits.budget.now c.self.inside.lobby.order c.retry-got.new.lobby.0.order c.part-halfway.result.0.want c.args.now c.retry-got.ensures.answer.told.0
told_at g c =
    let site = c.site-site.result in
    let inside = c.self.inside in
    let hosts = inside.bundles.items in
    let was = c.index_mut-bundle.result.now in
    let new = c.retry-got.new.self in
    let later = c.retry-got.new.permits.budget.now in
    let after = c.retry-got.new.lobby.0 in
    let pass = c.retry-got.new.pass in
    let done = c.retry-got.ensures in
    let read = c.index_mut-bundle.ensures.value in
    let there = site_there g c in
    let part = part_changed c.at-permits.ensures.host c.at-permits.ensures.budget done.permits.stays done.permits.part in
    let it = was_kept site hosts was new inside.budget later inside.lobby after inside.pass pass inside.noted inside.noted c.self.invariant there read in
    let limits = ap (λ p. p.limits) c.self.view_is ∙ c.close_oldest.ensures.done.stays.limits in
    record {
      there = there;
      read = read;
      place = it.place;
      settings = it.settings ∙ ap terms limits;
      settled = it.settled;
      listed = it.listed;
      same = done.same_host.settings;
      log_is = done.answer.told.2.log;
      order_is = done.lobby.order;
      limits_are = part.others.limits ∙ limits;
      parts = (invariant_of-self g c).parts;
      within = done.permits.stands.1;
      tells = done.answer.told.1;
    }

room_at : (g : _) (c : goal.Joined-got g) → MakesRoom c.args.self.now.limits c.args.now (all_hosts c.args.self.now) (record { logs = logs_of c.self.inside.bundles.items; queue = c.self.inside.lobby.order })
room_at g c =
    let made = c.close_oldest.ensures in
    let is = ap all_hosts c.self.view_is in
    record {
      was_full = c.requires.full;
      closed = c.close_oldest.result;
      mid_is = is ∙ made.done.all ∙ ap (λ (cause : Cause). without_oldest cause c.args.now (all_hosts c.args.self.now)) c.part-halfway.ensures.short;
      any = made.can_make_room;
      fewer = λ e. subst (IsOneFewer (all_hosts c.args.self.now)) (sym is) (made.fewer e);
      none = λ e. is ∙ ap all_hosts (made.unchanged e);
    }

-- the site's host before room was made and after
old_there : (g : _) (c : goal.Joined-got g) → c.site-site.result < length c.args.self.now.hosts
old_there g c = rw (c.site-site.ensures, c.part-halfway.ensures.booking) c.requires.there

inside_is : (g : _) (c : goal.Joined-got g) → host_at c.close_oldest.new.self c.site-site.result ≡ c.index_mut-bundle.result.now
inside_is g c =
    let site = c.site-site.result in
    sym (read_is c.self.inside.bundles.items site c.index_mut-bundle.result.now (site_there g c) c.index_mut-bundle.ensures.value ∙ ap (λ p. host_at p site) c.self.view_is)

made_room : (g : _) (c : goal.Joined-got g) → KeepsHost (host_at c.args.self.now c.site-site.result) c.index_mut-bundle.result.now
made_room g c =
    let site = c.site-site.result in
    subst (KeepsHost (host_at c.args.self.now site)) (inside_is g c) (c.close_oldest.ensures.done.keeps site (old_there g c))

pub returns : goal.returns
returns g c =
    let inside = c.self.inside in
    let hosts = inside.bundles.items in
    let site = c.site-site.result in
    let want = c.part-halfway.result.0.want in
    let old = c.args.self.now in
    let mid = c.close_oldest.new.self in
    let made = c.close_oldest.ensures.done in
    let was = c.index_mut-bundle.result.now in
    let new = c.retry-got.new.self in
    let later = c.retry-got.new.permits.budget.now in
    let after = c.retry-got.new.lobby.0.order in
    let done = c.retry-got.ensures in
    let told = told_at g c in
    let room = room_at g c in
    let first = made_room g c in
    let x = host_at old site in
    let part = part_changed c.at-permits.ensures.host c.at-permits.ensures.budget done.permits.stays done.permits.part in
    let left : new.booked ≡ without_booked want.transfer was.booked = elim c.match-got.branch [
      | in-Lease w ↦ (subst (AcquiresAt was new want (without_booked want.transfer was.booked) was.booked) w.in-Lease.is done.got).books
      | in-Wait w ↦ (subst (AcquiresAt was new want (without_booked want.transfer was.booked) was.booked) w.in-Wait.is done.got).books
    ] in
    let reply = (acquired_at true done.answer.told.0 was.settings was.log want c.args.now).reply in
    rw (sym c.part-halfway.ensures.booking, sym c.site-site.ensures) (record {
      all = last_all old.limits hosts site was new later inside.lobby.order after want c.args.now done.answer.told.0 told (all_hosts old) room;
      reply = subst (λ r. IsAcquired site r c.match-got.result) (last_reply old.limits hosts site was new later inside.lobby.order after want c.args.now done.answer.told.0 told (all_hosts old) room)
          (elim c.match-got.branch [
            | in-Lease w ↦ subst (IsAcquired site reply) (sym w.result-is) (lease_reply g.row.S.Denot was.host site want reply w.in-Lease.lease told.place (subst (IsGot was.host want reply) w.in-Lease.is done.answer.told.2.got_is))
            | in-Wait w ↦ subst (IsAcquired site reply) (sym w.result-is) (wait_reply g.row.S.Denot was.host site want reply w.in-Wait.ticket told.place (subst (IsGot was.host want reply) w.in-Wait.is done.answer.told.2.got_is))
          ]);
      lease = rw (host_changed hosts site new told.there) (elim c.match-got.branch [
        | in-Lease w ↦
            let lease = w.in-Lease.lease in
            let leased = leased_by want was new (subst (AcquiresAt was new want (without_booked want.transfer was.booked) was.booked) w.in-Lease.is done.got) in
            let keeps : KeepsStreams x was = subst (KeepsStreams x) (inside_is g c) (c.close_oldest.ensures.streams site (old_there g c)) in
            let stream = stream_kept true done.answer.told.0 x was want c.args.now was.host lease keeps (subst (IsGot was.host want reply) w.in-Lease.is done.answer.told.2.got_is) leased.stream in
            subst (λ r. GivesLease r (IsLeasedAt want x new)) (sym w.result-is) (leased_after want x was new lease first.stays.same first.keeps first.stays.grew done.grew first.streams stream leased)
        | in-Wait w ↦ subst (λ r. GivesLease r (IsLeasedAt want x new)) (sym w.result-is) tt
      ]);
      ticket = rw (host_changed hosts site new told.there) (elim c.match-got.branch [
        | in-Lease w ↦ subst (λ r. GivesTicket r (IsWaitAt want x new)) (sym w.result-is) tt
        | in-Wait w ↦
            let waits = waits_by want was new (subst (AcquiresAt was new want (without_booked want.transfer was.booked) was.booked) w.in-Wait.is done.got) in
            subst (λ r. GivesTicket r (IsWaitAt want x new)) (sym w.result-is) (waits_after want x was new w.in-Wait.ticket first.stays.same first.keeps first.stays.grew done.grew first.streams waits)
      ]);
      ends = rw (host_changed hosts site new told.there) (record {
        same = stays_there_on x was new first.stays.same done.same_host;
        booked = left ∙ ap (without_booked want.transfer) first.stays.booked;
        grew = grows_on x.log was.log new.log first.stays.grew done.grew;
      });
      others = keeps_others_on site old mid (shown_as later.limits (slice_set hosts site new) after) made.stays (keeps_others site old mid made.keeps) (rw (sym c.self.view_is) (others_keep inside.budget.limits inside.lobby.order after hosts site new));
      stays = stays_pool_on old mid (shown_as later.limits (slice_set hosts site new) after) made.stays (rw (sym c.self.view_is) (record { limits = part.others.limits; count = length-set hosts site new }));
    })
