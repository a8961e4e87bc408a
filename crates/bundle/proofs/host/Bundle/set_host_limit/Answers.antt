use Rattle.std.proofs.Common.{◌≡◌, ℕ, ◌<◌, ◌≤◌, Bool, true, false, List, length, Some, refl, sym, ap, subst, ◌∙◌, arith, rules}
use Rattle.budget.specs.declared.permits.Try.TheVariants.{Full}
use Rattle.budget.specs.Accounts.{change_at, told}
use Rattle.conn_log.specs.declared.entry.Event.TheVariants.{Limit}
use Rattle.conn_log.specs.declared.entry.Entry.{Entry}
use Rattle.conn_log.specs.Connections.{open_connections}
use Rattle.conn_log.specs.Waiting.{waiting}
use Rattle.host_state.specs.Idle.{stream_of}
use Rattle.host_state.specs.State.{HostState}
use Rattle.bundle.specs.declared.did.Did.TheVariants.{Wrote}
use Rattle.bundle.specs.Passes.{tells, held_did}
use Rattle.bundle.specs.Seats.{gone}
use Rattle.host_state.specs.Calls.{after_limit, kept_limit, starts_due, is_queued}
use Rattle.bundle.specs.Grants.{with_limit}
use Rattle.bundle.specs.Lease.{HostShown}
use Rattle.bundle.proofs.Answering.{both_same}
use Rattle.host_state.proofs.QueuedHosts.{host_stayed}
use Rattle.bundle.proofs.TurnLogs.{grants_keep, keeps_at, grows_at}
use Rattle.bundle.proofs.LimitLogs.{AfterLimit, room_left, limit_keeps}
use Rattle.bundle.proofs.Seating.{same_gone}
use Rattle.bundle.proofs.Telling.{accounts_told}
use Rattle.bundle.proofs.Asking.{then_none}
use Rattle.host_state.specs.Asks.{limit_asks}
use Rattle.bundle.proofs.host.Bundle.set_host_limit.Given.{Over}
use Rattle.bundle.proofs.host.Bundle.set_host_limit.Goals as goal

-- no more start than wait
starts_wait : (queued : Bool) (most given : ℕ) (log : List Entry) → given ≤ starts_due queued most log → given ≤ starts_due false most log
starts_wait true most given log few = omega (arith, few)
starts_wait false most given log few = few

pub returns-in-Some-clause-pass : goal.returns-in-Some-clause-pass
returns-in-Some-clause-pass g c =
    let host_is = c.host.ensures ∙ ap (λ (v : HostShown g.row.S.Denot). v.host) c.self.view_is in
    let did = held_did c.in-Some.reason in
    let tells_so = c.tell_held.ensures.tells ∙ ap (λ (n : ℕ). tells n did c.args.pass.now) host_is in
    record {
      seats = search rules;
      account = accounts_told c.args.self.now c.args.self.now.log c.args.pass.now c.tell_held.new.pass did c.requires.enrolled tells_so refl;
    }

pub change_limit-freed-requires-clause-within_due : goal.change_limit-freed-requires-clause-within_due
change_limit-freed-requires-clause-within_due g c =
    let given = c.in-Some-reserve_up_to.given in
    let queued = c.queued-was_queued.result in
    let most = c.kept_limit-most.result in
    let log = c.self.inside.state.log in
    let within : given ≤ starts_due queued most log = subst (λ n. given ≤ n) c.starts_due-count.ensures c.in-Some-reserve_up_to.ensures.most in
    subst (λ (v : HostState g.row.S.Denot). given ≤ starts_due false most v.log) (sym c.in-Ok.ensures.ok) (starts_wait queued most given log within)

pub returns-in-Some-clause-lobby : goal.returns-in-Some-clause-lobby
returns-in-Some-clause-lobby g c = host_stayed c.args.self.now.host (is_queued c.args.self.now.settings c.args.self.now.log) c.args.lobby.now c.requires.lobby

pub invariant_of-self-2 : goal.invariant_of-self-2
invariant_of-self-2 g c =
    let state = c.self.inside.state in
    let inv = c.self.invariant in
    let given = c.in-Some-reserve_up_to.given in
    let reserved = c.in-Ok.ensures.ok in
    let allowed = sym c.reason_against.ensures ∙ c.in_default.is in
    let queued : c.queued-was_queued.result ≡ is_queued state.settings state.log = c.queued-was_queued.ensures ∙ sym (ap (λ (v : HostShown g.row.S.Denot). is_queued v.settings v.log) c.self.view_is) in
    let so_many = c.starts_due-count.ensures ∙ ap (λ b. starts_due b c.kept_limit-most.result state.log) queued ∙ ap (λ n. starts_due (is_queued state.settings state.log) n state.log) c.kept_limit-most.ensures in
    let within : given ≤ starts_due (is_queued state.settings state.log) (kept_limit c.args.limit) state.log = subst (λ n. given ≤ n) so_many c.in-Some-reserve_up_to.ensures.most in
    let changed = c.change_limit-freed.ensures in
    let same_settings = changed.only.same.settings ∙ ap (λ (v : HostState g.row.S.Denot). v.settings) reserved in
    let log_is = changed.log ∙ ap (λ (v : HostState g.row.S.Denot). after_limit c.kept_limit-most.result given v.settings v.log c.args.now) reserved in
    let grants_are = changed.grants ∙ ap (λ (v : HostState g.row.S.Denot). with_limit c.kept_limit-most.result given v.settings v.log c.args.now c.self.inside.grants.items) reserved in
    let after = limit_keeps _ _ _ _ c.args.limit given c.args.now inv.settled inv.grants inv.bookings allowed within _ _ _ c.kept_limit-most.result same_settings c.kept_limit-most.ensures log_is grants_are in
    record {
      count = changed.only.booked ∙ ap (λ (v : HostState g.row.S.Denot). v.booked) reserved ∙ inv.count;
      bookings = after.halfway;
      settled = after.settled;
      grants = after.same.kept;
      spare = changed.inside.spare;
      seated = changed.inside.seated;
      unclaimed = changed.inside.unclaimed;
    }

-- what the change of the limit left
left_after : (g : Over) (c : goal.After-tell g) → AfterLimit c.change_limit-freed.new.state.settings c.self.inside.state.log c.change_limit-freed.new.state.log c.self.inside.grants.items c.change_limit-freed.new.grants.items c.self.inside.bookings.items
left_after g c =
    let state = c.self.inside.state in
    let inv = c.self.invariant in
    let given = c.in-Some-reserve_up_to.given in
    let reserved = c.in-Ok.ensures.ok in
    let allowed = sym c.reason_against.ensures ∙ c.in_default.is in
    let queued : c.queued-was_queued.result ≡ is_queued state.settings state.log = c.queued-was_queued.ensures ∙ sym (ap (λ (v : HostShown g.row.S.Denot). is_queued v.settings v.log) c.self.view_is) in
    let so_many = c.starts_due-count.ensures ∙ ap (λ b. starts_due b c.kept_limit-most.result state.log) queued ∙ ap (λ n. starts_due (is_queued state.settings state.log) n state.log) c.kept_limit-most.ensures in
    let within : given ≤ starts_due (is_queued state.settings state.log) (kept_limit c.args.limit) state.log = subst (λ n. given ≤ n) so_many c.in-Some-reserve_up_to.ensures.most in
    let changed = c.change_limit-freed.ensures in
    let same_settings = changed.only.same.settings ∙ ap (λ (v : HostState g.row.S.Denot). v.settings) reserved in
    let log_is = changed.log ∙ ap (λ (v : HostState g.row.S.Denot). after_limit c.kept_limit-most.result given v.settings v.log c.args.now) reserved in
    let grants_are = changed.grants ∙ ap (λ (v : HostState g.row.S.Denot). with_limit c.kept_limit-most.result given v.settings v.log c.args.now c.self.inside.grants.items) reserved in
    limit_keeps _ _ _ _ c.args.limit given c.args.now inv.settled inv.grants inv.bookings allowed within _ _ _ c.kept_limit-most.result same_settings c.kept_limit-most.ensures log_is grants_are

pub invariant_of-self-3 : goal.invariant_of-self-3
invariant_of-self-3 g c =
    let changed = c.change_limit-freed.ensures in
    let after = left_after g c in
    record {
      count = changed.only.booked ∙ ap (λ (v : HostState g.row.S.Denot). v.booked) c.in-Ok.ensures.ok ∙ c.self.invariant.count;
      bookings = after.halfway;
      settled = after.settled;
      grants = after.same.kept;
      spare = changed.inside.spare;
      seated = changed.inside.seated;
      unclaimed = changed.inside.unclaimed;
    }

pub returns-clause-changed : goal.returns-clause-changed
returns-clause-changed g c =
    let before = c.args.self.now in
    let given = c.in-Some-reserve_up_to.given in
    let reserved = c.in-Ok.ensures.ok in
    let changed = c.change_limit-freed.ensures in
    let most = c.kept_limit-most in
    let log_is = ap (λ (v : HostState g.row.S.Denot). v.log) reserved ∙ ap (λ (v : HostShown g.row.S.Denot). v.log) c.self.view_is in
    let queued = is_queued before.settings before.log in
    let so_many : c.starts_due-count.result ≡ starts_due queued (kept_limit c.args.limit) before.log = c.starts_due-count.ensures ∙ ap (λ b. starts_due b most.result c.self.inside.state.log) c.queued-was_queued.ensures ∙ ap (λ n. starts_due queued n c.self.inside.state.log) most.ensures ∙ ap (λ (v : HostShown g.row.S.Denot). starts_due queued (kept_limit c.args.limit) v.log) c.self.view_is in
    record {
      given = given;
      within = subst (λ n. given ≤ n) so_many c.in-Some-reserve_up_to.ensures.most;
      full = λ fewer.
          let room = room_left queued (length (waiting before.log)) (kept_limit c.args.limit) (length (open_connections before.log)) given fewer in
          let room_then = subst (λ log. length (open_connections log) < most.result) (sym log_is) (subst (λ n. length (open_connections before.log) < n) (sym most.ensures) room) in
          subst (λ permits. g.P.Permits.opening c.args.permits.now permits Full) (sym (changed.none_closed room_then)) (c.in-Some-reserve_up_to.ensures.full (subst (λ n. given < n) (sym so_many) fewer));
      log = changed.log
          ∙ ap (λ (v : HostState g.row.S.Denot). after_limit most.result given v.settings v.log c.args.now) reserved
          ∙ ap (λ n. after_limit n given c.self.inside.state.settings c.self.inside.state.log c.args.now) most.ensures
          ∙ ap (λ (v : HostShown g.row.S.Denot). after_limit (kept_limit c.args.limit) given v.settings v.log c.args.now) c.self.view_is;
      asked = subst (λ n. g.P.Permits.asked c.args.permits.now c.change_limit-freed.new.permits (limit_asks given n) 0) so_many (then_none g.P.Permits.asked g.met.P.Permits.asked_on _ _ _ _ _ c.in-Some-reserve_up_to.ensures.asks changed.unasked);
      freed_is = search rules;
    }

pub returns-clause-host : goal.returns-clause-host
returns-clause-host g c =
    let changed = c.change_limit-freed.ensures in
    let reserved = c.in-Ok.ensures.ok in
    record {
      stays = record {
        same = search rules;
        booked = search rules;
        grew = grows_at _ _ _ (ap (λ (v : HostShown g.row.S.Denot). v.log) c.self.view_is) (left_after g c).grew;
      };
      keeps = keeps_at _ _ _ c.self.view_is (grants_keep _ _ _ _ _ _ _ _ _ _ _ _ _ _ _ _ (left_after g c).same);
      streams = λ d still. both_same _ _ _ _ d ((left_after g c).streams d) (changed.streams d still ∙ ap (λ (v : HostState g.row.S.Denot). stream_of v.streams d) reserved)
          ∙ ap (λ (v : HostShown g.row.S.Denot). stream_of v.streams d) c.self.view_is;
    }

pub returns-clause-permits : goal.returns-clause-permits
returns-clause-permits g c =
    record {
      stands = search rules;
      stays = g.met.P.Permits.stays_on _ _ _ c.in-Some-reserve_up_to.ensures.stays c.change_limit-freed.ensures.permits.stays;
      part = search rules;
    }

pub returns-clause-pass : goal.returns-clause-pass
returns-clause-pass g c =
    let inside = c.self.inside in
    let changed = c.change_limit-freed in
    let entry : Entry = record { moment = c.moment-moment.result; event = Limit c.kept_limit-most.result } in
    let host_is = c.host-2.ensures ∙ changed.ensures.only.same.host ∙ ap (λ (v : HostState g.row.S.Denot). v.host) c.in-Ok.ensures.ok ∙ ap (λ (v : HostShown g.row.S.Denot). v.host) c.self.view_is in
    let tells_so = c.tell.ensures.account ∙ ap (λ (n : ℕ). change_at c.args.pass.now n (told (Wrote entry))) host_is in
    let same = same_gone inside.state.log changed.new.state.log inside.seats changed.new.seats c.self.invariant.seated changed.ensures.inside.seated changed.ensures.only.starts.ended in
    record {
      seats = search rules;
      account = accounts_told c.args.self.now changed.new.state.log c.args.pass.now c.tell.new.self (Some (Wrote entry)) c.requires.enrolled tells_so (same ∙ ap (λ (v : HostShown g.row.S.Denot). gone v.log) c.self.view_is);
    }

pub returns-clause-settled : goal.returns-clause-settled
returns-clause-settled g c = (invariant_of-self-3 g c).settled

pub returns-in_default-reserve_up_to-clause-again : goal.returns-in_default-reserve_up_to-clause-again
returns-in_default-reserve_up_to-clause-again g c =
    let before = c.args.self.now in
    let again = c.in_default-reserve_up_to.ensures.asks_again in
    let most = c.kept_limit-most in
    let queued = is_queued before.settings before.log in
    let so_many : c.starts_due-count.result ≡ starts_due queued (kept_limit c.args.limit) before.log = c.starts_due-count.ensures ∙ ap (λ b. starts_due b most.result c.self.inside.state.log) c.queued-was_queued.ensures ∙ ap (λ n. starts_due queued n c.self.inside.state.log) most.ensures ∙ ap (λ (v : HostShown g.row.S.Denot). starts_due queued (kept_limit c.args.limit) v.log) c.self.view_is in (
      refl,
      record {
        asks = again.0;
        some = again.1;
        within = subst (λ n. again.0 ≤ n) so_many again.2;
        asked = again.3;
        contended = c.in_default-reserve_up_to.ensures.contended;
        same = search rules;
      },
    )
