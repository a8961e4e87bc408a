use Rattle.std.proofs.Common.{◌≡◌, ℕ, true, List, refl, sym, ap, subst, ◌∙◌, ◌++◌, arith, rules}
use Rattle.conn_log.specs.declared.entry.Want.{Want}
use Rattle.conn_log.specs.Connections.{is_among}
use Rattle.host_state.specs.Calls.{is_queued, GrowsBy}
use Rattle.bundle.specs.Grants.{grant_starts, grant_streams}
use Rattle.host_state.specs.Laws.{IsSoundAndQuiet}
use Rattle.bundle.specs.Lease.{HostShown}
use Rattle.bundle.specs.Passes.{tells, got_did}
use Rattle.bundle.specs.Seats.{Tables, gone}
use Rattle.bundle.specs.Replies.{Acquires}
use Rattle.host_state.specs.Bookings.{without_booked}
use Rattle.host_state.proofs.Bookings.{fewer_booked, out_by}
use Rattle.bundle.proofs.Outcomes.{count_left, spare_after, bookings_left}
use Rattle.bundle.proofs.Seating.{unclaimed_same, same_gone}
use Rattle.bundle.proofs.Telling.{account_there, enrolled_at, accounts_told}
use Rattle.bundle.proofs.RepliesInKind.{acquired_for}
use Rattle.host_state.specs.Effects.{one_if}
use Rattle.host_state.specs.Asks.{asks_to_open, open_asks}
use Rattle.bundle.proofs.AcquiredHosts.{Leaves, leaves, acquires, acquires_at, got_there, grants_after}
use Rattle.bundle.proofs.host.Bundle.try_again.Given.{Over}
use Rattle.bundle.proofs.host.Bundle.try_again.Goals as goal

-- those who are booked: one less, or the same
abbrev less_one : Want → List ℕ → List ℕ
less_one want booked = without_booked want.transfer booked

abbrev as_it_was : Want → List ℕ → List ℕ
as_it_was want booked = booked

among : (g : Over) (c : goal.After-tell_got g) → is_among c.spend-want.result.transfer c.self.inside.bookings.items ≡ true
among g c =
    ap (λ (v : HostShown g.row.S.Denot). is_among c.spend-want.result.transfer v.booked) c.self.view_is
    ∙ ap (λ (w : Want). is_among w.transfer c.args.self.now.booked) c.spend-want.ensures
    ∙ c.requires.here.1

pub start_or_wait-got-requires-clause-may : goal.start_or_wait-got-requires-clause-may
start_or_wait-got-requires-clause-may g c =
    let here = ap (λ (v : HostShown g.row.S.Denot). is_among c.spend-want.result.transfer v.booked) c.self.view_is ∙ ap (λ (w : Want). is_among w.transfer c.args.self.now.booked) c.spend-want.ensures ∙ c.requires.here.1 in
    record {
      booked = omega (arith, c.self.invariant.count, fewer_booked c.self.inside.bookings.items c.spend-want.result.transfer here);
      later = search rules;
      free = (out_by c.self.inside.state.log c.self.inside.bookings.items c.spend-want.result.transfer c.self.invariant.bookings here).free;
    }

pub start_or_wait-got-requires-clause-once : goal.start_or_wait-got-requires-clause-once
start_or_wait-got-requires-clause-once g c =
    let here = ap (λ (v : HostShown g.row.S.Denot). is_among c.spend-want.result.transfer v.booked) c.self.view_is ∙ ap (λ (w : Want). is_among w.transfer c.args.self.now.booked) c.spend-want.ensures ∙ c.requires.here.1 in
    (out_by c.self.inside.state.log c.self.inside.bookings.items c.spend-want.result.transfer c.self.invariant.bookings here).waits_not

left : (g : Over) (c : goal.After-tell_got g) → Leaves c.args.is_last c.self.inside.state.settings c.self.inside.state.log c.start_or_wait-got.new.state.log c.spend-want.result c.start_or_wait-got.result
left g c =
    let state = c.self.inside.state in
    let told = c.start_or_wait-got.ensures.told in
    let out = out_by state.log c.self.inside.bookings.items c.spend-want.result.transfer c.self.invariant.bookings (among g c) in
    leaves c.args.is_last told.0 state.settings state.log c.start_or_wait-got.new.state.log c.spend-want.result c.args.now c.moment-moment.result state.host c.start_or_wait-got.result c.self.invariant.settled out c.moment-moment.ensures told.2.0 told.2.1

pub invariant_of-self : goal.invariant_of-self
invariant_of-self g c =
    let inside = c.self.inside in
    let inv = c.self.invariant in
    let tried = c.start_or_wait-got in
    let it = left g c in
    let taken = c.take_booking.ensures in
    let want = c.spend-want.result in
    record {
      count = count_left tried.result inside.bookings.items c.take_booking.new.bookings.items want.transfer inside.state.booked tried.new.state.booked inv.count (among g c) tried.ensures.fewer_booked tried.ensures.still_booked taken.booking_taken taken.booking_stays;
      bookings = bookings_left want inside.state.log tried.new.state.log tried.result it.outcome inside.bookings.items c.take_booking.new.bookings.items inv.bookings taken.booking_taken taken.booking_stays;
      settled = subst (λ settings. IsSoundAndQuiet settings tried.new.state.log) (sym tried.ensures.same_host.settings) it.settled;
      grants = grants_after inside.state.settings inside.state.log tried.new.state.log inside.grants.items inv.grants want it.out.free tried.result it.outcome;
      spare = spare_after want inside.state.log tried.new.state.log tried.result it.outcome inside.state.booked tried.new.state.booked _ _ tried.ensures.fewer_booked tried.ensures.still_booked inv.spare;
      seated = tried.ensures.seats.seated;
      unclaimed = unclaimed_same (grant_starts inside.grants.items) inside.seats tried.new.seats inv.unclaimed tried.ensures.seats.granted.granted;
    }

pub returns-clause-answer : goal.returns-clause-answer
returns-clause-answer g c =
    let inside = c.self.inside in
    let state = inside.state in
    let tried = c.start_or_wait-got in
    let told = tried.ensures.told in
    let want_is = c.spend-want.ensures in
    let after = record c.args.self.now { log = tried.new.state.log } in
    let does = acquires c.args.is_last told.0 state.settings state.log state.host (grant_streams inside.grants.items ++ state.streams) inside.grants.items inside.bookings.items inside.seats.tables state.cut_away c.args.self.now after c.spend-want.result c.args.now c.moment-moment.result tried.result c.self.view_is c.moment-moment.ensures told.2.0 told.2.1 in
    let does_so : Acquires c.args.is_last told.0 c.args.self.now after c.args.booking.want c.args.now tried.result = subst (λ (w : Want). Acquires c.args.is_last told.0 c.args.self.now after w c.args.now tried.result) want_is does in
    let so_often = ap (λ m. one_if (asks_to_open state.settings state.log c.spend-want.result m)) c.moment-moment.ensures
    ∙ ap (λ (w : Want). open_asks state.settings state.log w c.args.now) want_is
    ∙ ap (λ (v : HostShown g.row.S.Denot). open_asks v.settings v.log c.args.booking.want c.args.now) c.self.view_is in
    record {
      told = (told.0, told.1, record { log = does_so.log; got_is = does_so.got_is });
      is_for = acquired_for c.args.is_last told.0 c.args.self.now after c.args.booking.want c.args.now tried.result does_so;
      asked = subst (λ n. g.P.Permits.asked c.args.permits.now tried.new.permits n 0) so_often tried.ensures.asked;
    }

pub returns-clause-got : goal.returns-clause-got
returns-clause-got g c =
    let inside = c.self.inside in
    let tried = c.start_or_wait-got in
    let told = tried.ensures in
    let it = left g c in
    let taken = c.take_booking in
    let there = got_there inside.state tried.new.state inside.grants.items inside.bookings.items taken.new.bookings.items inside.seats.tables tried.new.seats.tables less_one as_it_was c.self.invariant.grants c.spend-want.result it.out.free it.settled tried.result it.outcome told.got taken.ensures.booking_taken taken.ensures.booking_stays in
    acquires_at inside.state tried.new.state inside.grants.items inside.bookings.items _ _ _ less_one as_it_was c.spend-want.result _ refl c.args.self.now c.self.view_is _ c.spend-want.ensures tried.result there

pub returns-clause-mark : goal.returns-clause-mark
returns-clause-mark g c first =
    let tried = c.start_or_wait-got in
    ap (λ settings. is_queued settings tried.new.state.log) tried.ensures.same_host.settings ∙ (left g c).mark first ∙ ap (λ (v : HostShown g.row.S.Denot). is_queued v.settings v.log) c.self.view_is

pub returns-clause-grew : goal.returns-clause-grew
returns-clause-grew g c =
    subst (λ log. GrowsBy log c.start_or_wait-got.new.state.log) (ap (λ (v : HostShown g.row.S.Denot). v.log) c.self.view_is) (left g c).grew

host_is : (g : Over) (c : goal.After-tell_got g) → c.host.result ≡ c.args.self.now.host
host_is g c = c.host.ensures ∙ c.start_or_wait-got.ensures.same_host.host ∙ ap (λ (v : HostShown g.row.S.Denot). v.host) c.self.view_is

tells_so : (g : Over) (c : goal.After-tell_got g) → c.tell_got.new.pass ≡ tells c.args.self.now.host (got_did c.start_or_wait-got.result) c.args.pass.now
tells_so g c = c.tell_got.ensures.tells ∙ ap (λ (host : ℕ). tells host (got_did c.start_or_wait-got.result) c.args.pass.now) (host_is g c)

pub tell_got-requires : goal.tell_got-requires
tell_got-requires g c =
    let host_is = c.host.ensures ∙ c.start_or_wait-got.ensures.same_host.host ∙ ap (λ (v : HostShown g.row.S.Denot). v.host) c.self.view_is in
    let table_is = c.tally.ensures ∙ ap (λ (t : Tables). t.starts) (c.start_or_wait-got.ensures.seats.granted.tables ∙ ap (λ (v : HostShown g.row.S.Denot). v.tables) c.self.view_is) in
    record { there = account_there c.args.pass.now c.args.self.now c.host.result host_is c.requires.enrolled; enrolled = enrolled_at c.args.pass.now c.args.self.now c.host.result _ host_is table_is c.requires.enrolled }

pub returns-clause-tells : goal.returns-clause-tells
returns-clause-tells g c = tells_so g c

pub returns-clause-pass : goal.returns-clause-pass
returns-clause-pass g c =
    let inside = c.self.inside in
    let tried = c.start_or_wait-got in
    let same = same_gone inside.state.log tried.new.state.log inside.seats tried.new.seats c.self.invariant.seated tried.ensures.seats.seated tried.ensures.seats.granted.ended in
    record {
      seats = search rules;
      account = accounts_told c.args.self.now tried.new.state.log c.args.pass.now c.tell_got.new.pass (got_did tried.result) c.requires.enrolled (tells_so g c) (same ∙ ap (λ (v : HostShown g.row.S.Denot). gone v.log) c.self.view_is);
    }

pub returns-clause-settled : goal.returns-clause-settled
returns-clause-settled g c = (invariant_of-self g c).settled
