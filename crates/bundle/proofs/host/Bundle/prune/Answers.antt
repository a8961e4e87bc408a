use Rattle.std.proofs.Common.{ℕ, Some, refl, sym, ap, length, ◌∙◌, arith, rules}
use Rattle.conn_log.specs.declared.entry.Want.{Want}
use Rattle.std.specs.Prelude.{List}
use Rattle.host_state.specs.Idle.{stream_of}
use Rattle.bundle.specs.Lease.{HostShown}
use Rattle.budget.specs.Accounts.{change_at, told}
use Rattle.bundle.specs.declared.did.Did.TheVariants.{Pruned}
use Rattle.bundle.specs.Seats.{gone}
use Rattle.bundle.proofs.Seating.{seated_same, same_gone}
use Rattle.bundle.proofs.Telling.{account_there, enrolled_at, accounts_told}
use Rattle.bundle.proofs.Answering.{behind_same}
use Rattle.bundle.proofs.TurnLogs.{prune_keeps, grants_keep, keeps_at, grows_at}
use Rattle.budget.specs.declared.permits.Held.{Held as Part}
use Rattle.host_state.specs.Counts.{held_by}
use Rattle.bundle.proofs.host.Bundle.prune.Goals as goal

pub invariant_of-self : goal.invariant_of-self
invariant_of-self g c =
    let inv = c.self.invariant in
    let closes = c.close_idle-closed.ensures.closes in
    let after = prune_keeps _ _ _ _ _ _ c.args.now _ inv.settled inv.grants inv.bookings closes.same.settings c.moment-moment.ensures closes.holders closes.waiting c.args.max_age c.args.max_life c.close_idle-closed.ensures.log in
    record {
      count = closes.booked ∙ inv.count;
      bookings = after.halfway;
      settled = after.settled;
      grants = after.same.kept;
      spare = omega (arith, inv.spare, closes.booked, ap (λ (wants : List Want). length wants) closes.waiting);
      seated = seated_same _ _ _ inv.seated (record { same = closes.holders; lengths = sym c.close_idle-closed.ensures.as_many_held; starts = closes.starts });
      unclaimed = inv.unclaimed;
    }

pub returns-clause-host : goal.returns-clause-host
returns-clause-host g c =
    let inv = c.self.invariant in
    let closes = c.close_idle-closed.ensures.closes in
    let after = prune_keeps _ _ _ _ _ _ c.args.now _ inv.settled inv.grants inv.bookings closes.same.settings c.moment-moment.ensures closes.holders closes.waiting c.args.max_age c.args.max_life c.close_idle-closed.ensures.log in
    record {
      stays = record {
        same = search rules;
        booked = search rules;
        grew = grows_at _ _ _ (ap (λ (v : HostShown g.row.S.Denot). v.log) c.self.view_is) after.grew;
      };
      keeps = keeps_at _ _ _ c.self.view_is (grants_keep _ _ _ _ _ _ _ _ _ _ _ _ _ _ _ _ after.same);
      streams = λ d still. behind_same _ _ _ d (c.close_idle-closed.ensures.closes.streams d still)
          ∙ ap (λ (v : HostShown g.row.S.Denot). stream_of v.streams d) c.self.view_is;
    }

pub tell-requires : goal.tell-requires
tell-requires g c =
    let host_is = c.host.ensures ∙ c.close_idle-closed.ensures.closes.same.host ∙ ap (λ (v : HostShown g.row.S.Denot). v.host) c.self.view_is in
    let table_is = c.tally.ensures ∙ ap (λ (v : HostShown g.row.S.Denot). v.tables.starts) c.self.view_is in
    record { host = account_there c.args.pass.now c.args.self.now c.host.result host_is c.requires.enrolled; enrolled = enrolled_at c.args.pass.now c.args.self.now c.host.result _ host_is table_is c.requires.enrolled }

pub returns-clause-pass : goal.returns-clause-pass
returns-clause-pass g c =
    let inside = c.self.inside in
    let inv = c.self.invariant in
    let closed = c.close_idle-closed.ensures in
    let closes = closed.closes in
    let after = c.close_idle-closed.new.state.log in
    let host_is = c.host.ensures ∙ closes.same.host ∙ ap (λ (v : HostShown g.row.S.Denot). v.host) c.self.view_is in
    let did = Pruned c.args.now c.args.max_age c.args.max_life c.close_idle-closed.result in
    let tells_so = c.tell.ensures.account ∙ ap (λ (n : ℕ). change_at c.args.pass.now n (told did)) host_is in
    let seated = seated_same inside.state.log after inside.seats inv.seated (record { same = closes.holders; lengths = sym closed.as_many_held; starts = closes.starts }) in
    let same = same_gone inside.state.log after inside.seats inside.seats inv.seated seated refl ∙ ap (λ (v : HostShown g.row.S.Denot). gone v.log) c.self.view_is in
    record {
      seats = search rules;
      account = accounts_told c.args.self.now after c.args.pass.now c.tell.new.self (Some did) c.requires.enrolled tells_so same;
    }

pub returns-clause-settled : goal.returns-clause-settled
returns-clause-settled g c = (invariant_of-self g c).settled

-- what is kept is what is idle
pub returns-clause-within_kept : goal.returns-clause-within_kept
returns-clause-within_kept g c =
    let kept = ap (λ (h : Part). h.kept) (c.requires.permits.part ∙ ap (λ (v : HostShown g.row.S.Denot). held_by v.log) (sym c.self.view_is)) in
    omega (arith, kept, c.close_idle-closed.ensures.fewer_idle)
