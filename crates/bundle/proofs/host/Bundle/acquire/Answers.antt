use Rattle.std.proofs.Common.{◌≡◌, ℕ, ◌+◌, ◌++◌, ◌∷◌, [], List, length, false, Some, None, refl, sym, ap, subst, ◌∙◌, arith, rules}
use Rattle.budget.specs.declared.permits.Try.TheVariants.{Got as Given}
use Rattle.conn_log.specs.declared.entry.Want.{Want}
use Rattle.conn_log.specs.declared.entry.Entry.{Entry}
use Rattle.conn_log.specs.Connections.{is_among}
use Rattle.conn_log.specs.Waiting.{waiting}
use Rattle.host_state.specs.State.{HostState}
use Rattle.bundle.specs.declared.answers.Got.TheVariants.{Lease}
use Rattle.bundle.specs.declared.did.Did.TheVariants.{Wrote}
use Rattle.host_state.specs.Calls.{start_behind, refusal, is_queued, GrowsBy, start_entry}
use Rattle.bundle.specs.Grants.{grant_starts, grant_streams, GrantsKept}
use Rattle.host_state.specs.Laws.{IsSoundAndQuiet}
use Rattle.bundle.specs.Lease.{HostShown}
use Rattle.host_state.specs.Bookings.{AreBooked}
use Rattle.bundle.specs.Inside.{GivesAt}
use Rattle.bundle.specs.Seats.{Tables, SeatsShown, IsSeated, AreUnclaimed, ended_starts, gone}
use Rattle.bundle.specs.Passes.{tells, got_did, refusal_did}
use Rattle.bundle.specs.Replies.{IsGot, GivesBooking, UnlessBooking}
use Rattle.host_state.proofs.Bookings.{IsOut}
use Rattle.host_state.proofs.Soundness.{none_waits}
use Rattle.bundle.proofs.Outcomes.{count_added, spare_after, bookings_added}
use Rattle.bundle.proofs.Seating.{unclaimed_same, same_gone}
use Rattle.bundle.proofs.Telling.{account_there, enrolled_at, accounts_told}
use Rattle.bundle.proofs.Asking.{not_due}
use Rattle.bundle.proofs.RepliesInKind.{acquired_for}
use Rattle.host_state.specs.Effects.{one_if}
use Rattle.host_state.specs.Asks.{asks_to_open, open_asks}
use Rattle.bundle.proofs.AcquiredHosts.{Leaves, leaves, acquires, acquires_at, got_there, not_refused_at_once, grants_after}
use Rattle.bundle.proofs.host.Bundle.acquire.Given.{Over}
use Rattle.bundle.proofs.host.Bundle.acquire.Goals as goal

-- those who are booked: the same, or the transfer too
abbrev as_it_was : Want → List ℕ → List ℕ
as_it_was want booked = booked

abbrev and_one : Want → List ℕ → List ℕ
and_one want booked = booked ++ want.transfer ∷ []

-- a lease at once
at_once : (g : Over) (c : goal.After-tell g) → Leaves false c.self.inside.state.settings c.self.inside.state.log c.lease_at_once.new.state.log c.args.want (Lease c.in-Some.lease)
at_once g c =
    let state = c.self.inside.state in
    let leased = c.in-Some.ensures in
    leaves false Given state.settings state.log c.lease_at_once.new.state.log c.args.want c.args.now c.moment-moment.result state.host (Lease c.in-Some.lease) c.self.invariant.settled (record { free = leased.at_once.free; waits_not = none_waits state.log c.args.want.transfer leased.at_once.once }) c.moment-moment.ensures leased.due.0 leased.due.1

pub invariant_of-self : goal.invariant_of-self
invariant_of-self g c =
    let inside = c.self.inside in
    let inv = c.self.invariant in
    let leased = c.in-Some.ensures in
    let new = c.lease_at_once.new.state in
    let it = at_once g c in
    record {
      count = leased.same_booked ∙ inv.count;
      bookings = subst (AreBooked new.log) (sym (sym c.deref.ensures.value ∙ leased.at_once.nobody)) tt;
      settled = subst (λ settings. IsSoundAndQuiet settings new.log) (sym leased.same_host.settings) it.settled;
      grants = grants_after inside.state.settings inside.state.log new.log inside.grants.items inv.grants c.args.want it.out.free (Lease c.in-Some.lease) it.outcome;
      spare = omega (arith, inv.spare, leased.same_booked, it.outcome.queue);
      seated = leased.seats.seated;
      unclaimed = unclaimed_same (grant_starts inside.grants.items) inside.seats c.lease_at_once.new.seats inv.unclaimed leased.seats.granted.granted;
    }

pub returns-in-Some-clause-answer : goal.returns-in-Some-clause-answer
returns-in-Some-clause-answer g c =
    let inside = c.self.inside in
    let state = inside.state in
    let leased = c.in-Some.ensures in
    let new = c.lease_at_once.new in
    let after = record c.args.self.now { log = new.state.log } in
    let does = acquires false Given state.settings state.log state.host (grant_streams inside.grants.items ++ state.streams) inside.grants.items inside.bookings.items inside.seats.tables state.cut_away c.args.self.now after c.args.want c.args.now c.moment-moment.result (Lease c.in-Some.lease) c.self.view_is c.moment-moment.ensures leased.due.0 leased.due.1 in
    let none = ap (asks_to_open state.settings state.log c.args.want) (sym c.moment-moment.ensures) ∙ leased.at_once.not_due in
    record {
      told = (Given, g.met.P.Permits.not_asked_to_open c.args.permits.now new.permits leased.permits.stays, record { log = does.log; got_is = does.got_is });
      is_for = acquired_for false Given c.args.self.now after c.args.want c.args.now _ does;
      asked = subst (λ (v : HostShown g.row.S.Denot). g.P.Permits.asked c.args.permits.now new.permits (open_asks v.settings v.log c.args.want c.args.now) 0) c.self.view_is (not_due (λ n. g.P.Permits.asked c.args.permits.now new.permits n 0) _ none c.lease_at_once.ensures.unasked);
    }

pub returns-in-Some-clause-got : goal.returns-in-Some-clause-got
returns-in-Some-clause-got g c =
    let inside = c.self.inside in
    let leased = c.in-Some.ensures in
    let it = at_once g c in
    let got = Lease c.in-Some.lease in
    let there = got_there inside.state c.lease_at_once.new.state inside.grants.items inside.bookings.items inside.bookings.items inside.seats.tables c.lease_at_once.new.seats.tables as_it_was and_one c.self.invariant.grants c.args.want it.out.free it.settled got it.outcome leased.lease refl tt in
    acquires_at inside.state c.lease_at_once.new.state inside.grants.items inside.bookings.items _ _ _ as_it_was and_one c.args.want _ refl c.args.self.now c.self.view_is _ refl got there

pub returns-in-Some-clause-refused : goal.returns-in-Some-clause-refused
returns-in-Some-clause-refused g c =
    let state = c.self.inside.state in
    let leased = c.in-Some.ensures in
    let none = not_refused_at_once state.settings state.log c.self.inside.bookings.items c.args.want c.self.invariant.settled.sound.orderly leased.at_once.free leased.at_once.once (sym c.deref.ensures.value ∙ leased.at_once.nobody) leased.at_once.number in
    let shown : refusal c.args.self.now.settings c.args.self.now.log c.args.self.now.booked c.args.want ≡ None = ap (λ (v : HostShown g.row.S.Denot). refusal v.settings v.log v.booked c.args.want) (sym c.self.view_is) ∙ none in
    rw shown tt

pub returns-in-Some-clause-grew : goal.returns-in-Some-clause-grew
returns-in-Some-clause-grew g c =
    subst (λ log. GrowsBy log c.lease_at_once.new.state.log) (ap (λ (v : HostShown g.row.S.Denot). v.log) c.self.view_is) (at_once g c).grew

pub returns-in-Some-clause-mark : goal.returns-in-Some-clause-mark
returns-in-Some-clause-mark g c =
    let new = c.lease_at_once.new.state in
    ap (λ settings. is_queued settings new.log) c.in-Some.ensures.same_host.settings ∙ (at_once g c).mark refl ∙ ap (λ (v : HostShown g.row.S.Denot). is_queued v.settings v.log) c.self.view_is

-- what holds of a host stays where it refuses
pub invariant_of-self-in-Some-reason_against : goal.invariant_of-self-in-Some-reason_against
invariant_of-self-in-Some-reason_against g c =
    let inside = c.self.inside in
    let inv = c.self.invariant in
    let none = c.in_default.ensures.unchanged.0 in
    record {
      count = ap (λ (v : HostState g.row.S.Denot). v.booked) none ∙ inv.count;
      bookings = subst (λ (v : HostState g.row.S.Denot). AreBooked v.log inside.bookings.items) (sym none) inv.bookings;
      settled = subst (λ (v : HostState g.row.S.Denot). IsSoundAndQuiet v.settings v.log) (sym none) inv.settled;
      grants = subst (λ (v : HostState g.row.S.Denot). GrantsKept v.log inside.grants.items) (sym none) inv.grants;
      spare = omega (arith, inv.spare, ap (λ (v : HostState g.row.S.Denot). v.booked) none, ap (λ (v : HostState g.row.S.Denot). length (waiting v.log)) none);
      seated = c.lease_at_once.ensures.seats.seated;
      unclaimed = unclaimed_same (grant_starts inside.grants.items) inside.seats c.lease_at_once.new.seats inv.unclaimed c.lease_at_once.ensures.seats.granted.granted;
    }

pub invariant_of-self-in_default-reserve : goal.invariant_of-self-in_default-reserve
invariant_of-self-in_default-reserve g c =
    let inside = c.self.inside in
    let inv = c.self.invariant in
    let none = c.in_default.ensures.unchanged.0 in
    record {
      count = ap (λ (v : HostState g.row.S.Denot). v.booked) none ∙ inv.count;
      bookings = subst (λ (v : HostState g.row.S.Denot). AreBooked v.log inside.bookings.items) (sym none) inv.bookings;
      settled = subst (λ (v : HostState g.row.S.Denot). IsSoundAndQuiet v.settings v.log) (sym none) inv.settled;
      grants = subst (λ (v : HostState g.row.S.Denot). GrantsKept v.log c.reserve.new.self.items) (sym none) (subst (λ gs. GrantsKept inside.state.log gs) (sym c.reserve.ensures.items) inv.grants);
      spare = omega (arith, inv.spare, ap (λ (v : HostState g.row.S.Denot). v.booked) none, ap (λ (v : HostState g.row.S.Denot). length (waiting v.log)) none, c.reserve.ensures.len, c.reserve.ensures.capacity);
      seated = c.lease_at_once.ensures.seats.seated;
      unclaimed = subst (λ gs. AreUnclaimed (grant_starts gs) c.lease_at_once.new.seats) (sym c.reserve.ensures.items) (unclaimed_same (grant_starts inside.grants.items) inside.seats c.lease_at_once.new.seats inv.unclaimed c.lease_at_once.ensures.seats.granted.granted);
    }

pub invariant_of-self-in_default-reserve-2 : goal.invariant_of-self-in_default-reserve-2
invariant_of-self-in_default-reserve-2 g c =
    let inside = c.self.inside in
    let inv = c.self.invariant in
    let none = c.in_default.ensures.unchanged.0 in
    record {
      count = ap (λ (v : HostState g.row.S.Denot). v.booked) none ∙ inv.count ∙ ap length (sym {A = List ℕ} c.reserve-2.ensures.items);
      bookings = subst (λ (v : HostState g.row.S.Denot). AreBooked v.log c.reserve-2.new.self.items) (sym none) (subst (AreBooked inside.state.log) (sym {A = List ℕ} c.reserve-2.ensures.items) inv.bookings);
      settled = subst (λ (v : HostState g.row.S.Denot). IsSoundAndQuiet v.settings v.log) (sym none) inv.settled;
      grants = subst (λ (v : HostState g.row.S.Denot). GrantsKept v.log c.reserve.new.self.items) (sym none) (subst (λ gs. GrantsKept inside.state.log gs) (sym c.reserve.ensures.items) inv.grants);
      spare = omega (arith, inv.spare, ap (λ (v : HostState g.row.S.Denot). v.booked) none, ap (λ (v : HostState g.row.S.Denot). length (waiting v.log)) none, c.reserve.ensures.len, c.reserve.ensures.capacity);
      seated = c.lease_at_once.ensures.seats.seated;
      unclaimed = subst (λ gs. AreUnclaimed (grant_starts gs) c.lease_at_once.new.seats) (sym c.reserve.ensures.items) (unclaimed_same (grant_starts inside.grants.items) inside.seats c.lease_at_once.new.seats inv.unclaimed c.lease_at_once.ensures.seats.granted.granted);
    }

pub invariant_of-self-in_default-book : goal.invariant_of-self-in_default-book
invariant_of-self-in_default-book g c =
    let inside = c.self.inside in
    let inv = c.self.invariant in
    let none = c.in_default-book.ensures.err ∙ c.in_default.ensures.unchanged.0 in
    record {
      count = ap (λ (v : HostState g.row.S.Denot). v.booked) none ∙ inv.count ∙ ap length (sym {A = List ℕ} c.reserve-2.ensures.items);
      bookings = subst (λ (v : HostState g.row.S.Denot). AreBooked v.log c.reserve-2.new.self.items) (sym none) (subst (AreBooked inside.state.log) (sym {A = List ℕ} c.reserve-2.ensures.items) inv.bookings);
      settled = subst (λ (v : HostState g.row.S.Denot). IsSoundAndQuiet v.settings v.log) (sym none) inv.settled;
      grants = subst (λ (v : HostState g.row.S.Denot). GrantsKept v.log c.reserve.new.self.items) (sym none) (subst (λ gs. GrantsKept inside.state.log gs) (sym c.reserve.ensures.items) inv.grants);
      spare = omega (arith, inv.spare, ap (λ (v : HostState g.row.S.Denot). v.booked) none, ap (λ (v : HostState g.row.S.Denot). length (waiting v.log)) none, c.reserve.ensures.len, c.reserve.ensures.capacity);
      seated = subst (λ (v : HostState g.row.S.Denot). IsSeated v.log c.lease_at_once.new.seats) (sym c.in_default-book.ensures.err) c.lease_at_once.ensures.seats.seated;
      unclaimed = subst (λ gs. AreUnclaimed (grant_starts gs) c.lease_at_once.new.seats) (sym c.reserve.ensures.items) (unclaimed_same (grant_starts inside.grants.items) inside.seats c.lease_at_once.new.seats inv.unclaimed c.lease_at_once.ensures.seats.granted.granted);
    }

-- a start, a wait, or a booking
booked : (g : Over) (c : goal.After-tell_got g) → c.book.new.self ≡ record c.self.inside.state { booked = c.self.inside.state.booked + 1 }
booked g c = c.in-Ok-book.ensures.ok ∙ ap (λ (v : HostState g.row.S.Denot). record v { booked = v.booked + 1 }) c.in_default.ensures.unchanged.0

out : (g : Over) (c : goal.After-tell_got g) → IsOut c.self.inside.state.log c.args.want.transfer
out g c = subst (λ (v : HostState g.row.S.Denot). IsOut v.log c.args.want.transfer) c.in_default.ensures.unchanged.0 (record { free = c.in_default-reason_against.ensures.free; waits_not = c.in_default-reason_against.ensures.once })

due_log : (g : Over) (c : goal.After-tell_got g) → (let state = c.self.inside.state in c.start_or_wait-got.new.state.log ≡ (start_behind (waiting state.log) false c.start_or_wait-got.ensures.told.0 state.settings c.args.want c.moment-moment.result state.log).log)
due_log g c = subst (λ (v : HostState g.row.S.Denot). c.start_or_wait-got.new.state.log ≡ (start_behind (waiting v.log) false c.start_or_wait-got.ensures.told.0 v.settings c.args.want c.moment-moment.result v.log).log) (booked g c) c.start_or_wait-got.ensures.told.2.0

due_got : (g : Over) (c : goal.After-tell_got g) → (let state = c.self.inside.state in IsGot state.host c.args.want (start_behind (waiting state.log) false c.start_or_wait-got.ensures.told.0 state.settings c.args.want c.moment-moment.result state.log).reply c.start_or_wait-got.result)
due_got g c = subst (λ (v : HostState g.row.S.Denot). IsGot v.host c.args.want (start_behind (waiting v.log) false c.start_or_wait-got.ensures.told.0 v.settings c.args.want c.moment-moment.result v.log).reply c.start_or_wait-got.result) (booked g c) c.start_or_wait-got.ensures.told.2.1

left : (g : Over) (c : goal.After-tell_got g) → Leaves false c.self.inside.state.settings c.self.inside.state.log c.start_or_wait-got.new.state.log c.args.want c.start_or_wait-got.result
left g c =
    let state = c.self.inside.state in
    leaves false c.start_or_wait-got.ensures.told.0 state.settings state.log c.start_or_wait-got.new.state.log c.args.want c.args.now c.moment-moment.result state.host c.start_or_wait-got.result c.self.invariant.settled (out g c) c.moment-moment.ensures (due_log g c) (due_got g c)

settings_same : (g : Over) (c : goal.After-tell_got g) → c.start_or_wait-got.new.state.settings ≡ c.self.inside.state.settings
settings_same g c = c.start_or_wait-got.ensures.same_host.settings ∙ ap (λ (v : HostState g.row.S.Denot). v.settings) (booked g c)

pub invariant_of-self-2 : goal.invariant_of-self-2
invariant_of-self-2 g c =
    let inside = c.self.inside in
    let inv = c.self.invariant in
    let new = c.start_or_wait-got.new.state in
    let got = c.start_or_wait-got.result in
    let told = c.start_or_wait-got.ensures in
    let it = left g c in
    let items = c.add_booking.new.bookings.items in
    let fewer : UnlessBooking got (new.booked + 1 ≡ inside.state.booked + 1) = subst (λ (v : HostState g.row.S.Denot). UnlessBooking got (new.booked + 1 ≡ v.booked)) (booked g c) told.fewer_booked in
    let same : GivesBooking got (λ booking. new.booked ≡ inside.state.booked + 1) = subst (λ (v : HostState g.row.S.Denot). GivesBooking got (λ booking. new.booked ≡ v.booked)) (booked g c) told.still_booked in
    let none_added : UnlessBooking got (items ≡ inside.bookings.items) = subst (λ (xs : List ℕ). UnlessBooking got (items ≡ xs)) c.reserve-2.ensures.items c.add_booking.ensures.none_added in
    let one_added : GivesBooking got (λ booking. items ≡ inside.bookings.items ++ c.args.want.transfer ∷ []) = subst (λ (xs : List ℕ). GivesBooking got (λ booking. items ≡ xs ++ c.args.want.transfer ∷ [])) c.reserve-2.ensures.items c.add_booking.ensures.booking_added in
    let not_booked : is_among c.args.want.transfer inside.bookings.items ≡ false = ap (is_among c.args.want.transfer) (sym c.deref-2.ensures.value) ∙ c.in_default-reason_against.ensures.not_booked in
    let waiting_len = c.waiting_len-waiting.ensures ∙ ap (λ (v : HostState g.row.S.Denot). length (waiting v.log)) c.in_default.ensures.unchanged.0 in
    record {
      count = count_added got inside.bookings.items items c.args.want.transfer inside.state.booked new.booked inv.count fewer same none_added one_added;
      bookings = bookings_added c.args.want inside.state.log new.log inside.bookings.items items inv.bookings not_booked it.out got it.outcome none_added one_added;
      settled = subst (λ settings. IsSoundAndQuiet settings new.log) (sym (settings_same g c)) it.settled;
      grants = subst (λ gs. GrantsKept new.log gs) (sym c.reserve.ensures.items) (grants_after inside.state.settings inside.state.log new.log inside.grants.items inv.grants c.args.want it.out.free got it.outcome);
      spare = spare_after c.args.want inside.state.log new.log got it.outcome (inside.state.booked + 1) new.booked _ _ fewer same (omega (arith, c.in-Ok.ensures.ok, c.reserve.ensures.len, waiting_len, c.len.ensures, inv.count, inside.bookings.ok));
      seated = told.seats.seated;
      unclaimed = subst (λ gs. AreUnclaimed (grant_starts gs) c.start_or_wait-got.new.seats) (sym c.reserve.ensures.items) (unclaimed_same (grant_starts inside.grants.items) inside.seats c.start_or_wait-got.new.seats inv.unclaimed (told.seats.granted.granted ∙ ap (λ (held : SeatsShown). held.granted) c.in_default.ensures.unchanged.2));
    }

pub returns-clause-answer : goal.returns-clause-answer
returns-clause-answer g c =
    let inside = c.self.inside in
    let state = inside.state in
    let got = c.start_or_wait-got in
    let told = got.ensures.told in
    let after = record c.args.self.now { log = got.new.state.log } in
    let does = acquires false told.0 state.settings state.log state.host (grant_streams inside.grants.items ++ state.streams) inside.grants.items inside.bookings.items inside.seats.tables state.cut_away c.args.self.now after c.args.want c.args.now c.moment-moment.result got.result c.self.view_is c.moment-moment.ensures (due_log g c) (due_got g c) in
    let so_often = ap (λ (v : HostState g.row.S.Denot). one_if (asks_to_open v.settings v.log c.args.want c.moment-moment.result)) (booked g c)
    ∙ ap (λ m. one_if (asks_to_open state.settings state.log c.args.want m)) c.moment-moment.ensures
    ∙ ap (λ (v : HostShown g.row.S.Denot). open_asks v.settings v.log c.args.want c.args.now) c.self.view_is in
    let asked = subst (λ p. g.P.Permits.asked p got.new.permits (one_if (asks_to_open c.book.new.self.settings c.book.new.self.log c.args.want c.moment-moment.result)) 0) c.in_default.ensures.unchanged.1 got.ensures.asked in
    record {
      told = (told.0, subst (λ p. g.P.Permits.opening p got.new.permits told.0) c.in_default.ensures.unchanged.1 told.1, record { log = does.log; got_is = does.got_is });
      is_for = acquired_for false told.0 c.args.self.now after c.args.want c.args.now got.result does;
      asked = subst (λ n. g.P.Permits.asked c.args.permits.now got.new.permits n 0) so_often asked;
    }

pub returns-clause-got : goal.returns-clause-got
returns-clause-got g c =
    let inside = c.self.inside in
    let got = c.start_or_wait-got in
    let it = left g c in
    let is = booked g c in
    let items = c.add_booking.new.bookings.items in
    let tables = ap (λ (seats : SeatsShown). seats.tables) c.in_default.ensures.unchanged.2 in
    let start = record inside.state { booked = inside.state.booked + 1 } in
    let given : GivesAt start got.new.state inside.seats.tables got.result = subst (λ (t : Tables). GivesAt start got.new.state t got.result) tables (subst (λ (v : HostState g.row.S.Denot). GivesAt v got.new.state c.lease_at_once.new.seats.tables got.result) is got.ensures.got) in
    let books : UnlessBooking got.result (items ≡ inside.bookings.items) = subst (λ (xs : List ℕ). UnlessBooking got.result (items ≡ xs)) c.reserve-2.ensures.items c.add_booking.ensures.none_added in
    let stays : GivesBooking got.result (λ booking. items ≡ and_one c.args.want inside.bookings.items) = subst (λ (xs : List ℕ). GivesBooking got.result (λ booking. items ≡ and_one c.args.want xs)) c.reserve-2.ensures.items c.add_booking.ensures.booking_added in
    let there = got_there start got.new.state inside.grants.items inside.bookings.items items inside.seats.tables got.new.seats.tables as_it_was and_one c.self.invariant.grants c.args.want it.out.free it.settled got.result it.outcome given books stays in
    acquires_at start got.new.state inside.grants.items inside.bookings.items items _ _ as_it_was and_one c.args.want _ c.reserve.ensures.items c.args.self.now c.self.view_is _ refl got.result there

pub returns-clause-mark : goal.returns-clause-mark
returns-clause-mark g c =
    ap (λ settings. is_queued settings c.start_or_wait-got.new.state.log) (settings_same g c) ∙ (left g c).mark refl ∙ ap (λ (v : HostShown g.row.S.Denot). is_queued v.settings v.log) c.self.view_is

pub returns-clause-grew : goal.returns-clause-grew
returns-clause-grew g c =
    subst (λ log. GrowsBy log c.start_or_wait-got.new.state.log) (ap (λ (v : HostShown g.row.S.Denot). v.log) c.self.view_is) (left g c).grew

-- the pass that it is lent
pub tell-requires : goal.tell-requires
tell-requires g c =
    let host_is = c.host.ensures ∙ c.in-Some.ensures.same_host.host ∙ ap (λ (v : HostShown g.row.S.Denot). v.host) c.self.view_is in
    let table_is = c.tally.ensures ∙ ap (λ (t : Tables). t.starts) (c.in-Some.ensures.seats.granted.tables ∙ ap (λ (v : HostShown g.row.S.Denot). v.tables) c.self.view_is) in
    record { host = account_there c.args.pass.now c.args.self.now c.host.result host_is c.requires.enrolled; enrolled = enrolled_at c.args.pass.now c.args.self.now c.host.result _ host_is table_is c.requires.enrolled }

pub tell_refused-requires : goal.tell_refused-requires
tell_refused-requires g c =
    let host_is = c.host-host.ensures ∙ c.lease_at_once.ensures.same_host.host ∙ ap (λ (v : HostShown g.row.S.Denot). v.host) c.self.view_is in
    let table_is = c.tally-tally.ensures ∙ ap (λ (t : Tables). t.starts) (c.lease_at_once.ensures.seats.granted.tables ∙ ap (λ (v : HostShown g.row.S.Denot). v.tables) c.self.view_is) in
    record { there = account_there c.args.pass.now c.args.self.now c.host-host.result host_is c.requires.enrolled; enrolled = enrolled_at c.args.pass.now c.args.self.now c.host-host.result _ host_is table_is c.requires.enrolled }

pub tell_got-requires : goal.tell_got-requires
tell_got-requires g c =
    let host_is = c.host-2.ensures ∙ c.start_or_wait-got.ensures.same_host.host ∙ ap (λ (v : HostState g.row.S.Denot). v.host) c.in-Ok-book.ensures.ok ∙ c.lease_at_once.ensures.same_host.host ∙ ap (λ (v : HostShown g.row.S.Denot). v.host) c.self.view_is in
    let table_is = c.tally-2.ensures ∙ ap (λ (t : Tables). t.starts) (c.start_or_wait-got.ensures.seats.granted.tables ∙ c.lease_at_once.ensures.seats.granted.tables ∙ ap (λ (v : HostShown g.row.S.Denot). v.tables) c.self.view_is) in
    record { there = account_there c.args.pass.now c.args.self.now c.host-2.result host_is c.requires.enrolled; enrolled = enrolled_at c.args.pass.now c.args.self.now c.host-2.result _ host_is table_is c.requires.enrolled }

tells_lease : (g : Over) (c : goal.After-tell g) → c.tell.new.self ≡ tells c.args.self.now.host (Some (Wrote (start_entry c.in-Some.lease.start))) c.args.pass.now
tells_lease g c =
    let host_is = c.host.ensures ∙ c.in-Some.ensures.same_host.host ∙ ap (λ (v : HostShown g.row.S.Denot). v.host) c.self.view_is in
    c.tell.ensures.account
    ∙ ap (λ (host : ℕ). tells host (Some (Wrote c.start_entry.result)) c.args.pass.now) host_is
    ∙ ap (λ (entry : Entry). tells c.args.self.now.host (Some (Wrote entry)) c.args.pass.now) c.start_entry.ensures

tells_refusal : (g : Over) (c : goal.After-tell_refused g) → c.tell_refused.new.pass ≡ tells c.args.self.now.host (refusal_did c.args.want.transfer c.in-Some-reason_against.reason) c.args.pass.now
tells_refusal g c =
    let host_is = c.host-host.ensures ∙ c.lease_at_once.ensures.same_host.host ∙ ap (λ (v : HostShown g.row.S.Denot). v.host) c.self.view_is in
    c.tell_refused.ensures.tells
    ∙ ap (λ (host : ℕ). tells host (refusal_did c.args.want.transfer c.in-Some-reason_against.reason) c.args.pass.now) host_is

tells_got : (g : Over) (c : goal.After-tell_got g) → c.tell_got.new.pass ≡ tells c.args.self.now.host (got_did c.start_or_wait-got.result) c.args.pass.now
tells_got g c =
    let host_is = c.host-2.ensures ∙ c.start_or_wait-got.ensures.same_host.host ∙ ap (λ (v : HostState g.row.S.Denot). v.host) (booked g c) ∙ ap (λ (v : HostShown g.row.S.Denot). v.host) c.self.view_is in
    c.tell_got.ensures.tells
    ∙ ap (λ (host : ℕ). tells host (got_did c.start_or_wait-got.result) c.args.pass.now) host_is

pub returns-in-Some-clause-tells : goal.returns-in-Some-clause-tells
returns-in-Some-clause-tells g c = tells_lease g c

pub returns-in-Some-reason_against-clause-tells : goal.returns-in-Some-reason_against-clause-tells
returns-in-Some-reason_against-clause-tells g c = tells_refusal g c

pub returns-clause-tells : goal.returns-clause-tells
returns-clause-tells g c = tells_got g c

-- and the starts that it accounts for
pub returns-in-Some-clause-pass : goal.returns-in-Some-clause-pass
returns-in-Some-clause-pass g c =
    let inside = c.self.inside in
    let new = c.lease_at_once.new in
    let leased = c.in-Some.ensures in
    let same = same_gone inside.state.log new.state.log inside.seats new.seats c.self.invariant.seated leased.seats.seated leased.seats.granted.ended in
    record {
      seats = search rules;
      account = accounts_told c.args.self.now new.state.log c.args.pass.now c.tell.new.self (Some (Wrote (start_entry c.in-Some.lease.start))) c.requires.enrolled (tells_lease g c) (same ∙ ap (λ (v : HostShown g.row.S.Denot). gone v.log) c.self.view_is);
    }

pub returns-in-Some-reason_against-clause-pass : goal.returns-in-Some-reason_against-clause-pass
returns-in-Some-reason_against-clause-pass g c =
    record {
      seats = search rules;
      account = accounts_told c.args.self.now c.lease_at_once.new.state.log c.args.pass.now c.tell_refused.new.pass (refusal_did c.args.want.transfer c.in-Some-reason_against.reason) c.requires.enrolled (tells_refusal g c) (ap (λ (v : HostState g.row.S.Denot). gone v.log) c.in_default.ensures.unchanged.0 ∙ ap (λ (v : HostShown g.row.S.Denot). gone v.log) c.self.view_is);
    }

pub returns-in_default-reserve-clause-pass : goal.returns-in_default-reserve-clause-pass
returns-in_default-reserve-clause-pass g c =
    record {
      seats = search rules;
      account = accounts_told c.args.self.now c.lease_at_once.new.state.log c.args.pass.now c.args.pass.now None c.requires.enrolled refl (ap (λ (v : HostState g.row.S.Denot). gone v.log) c.in_default.ensures.unchanged.0 ∙ ap (λ (v : HostShown g.row.S.Denot). gone v.log) c.self.view_is);
    }

pub returns-in_default-reserve-2-clause-pass : goal.returns-in_default-reserve-2-clause-pass
returns-in_default-reserve-2-clause-pass g c =
    record {
      seats = search rules;
      account = accounts_told c.args.self.now c.lease_at_once.new.state.log c.args.pass.now c.args.pass.now None c.requires.enrolled refl (ap (λ (v : HostState g.row.S.Denot). gone v.log) c.in_default.ensures.unchanged.0 ∙ ap (λ (v : HostShown g.row.S.Denot). gone v.log) c.self.view_is);
    }

pub returns-in_default-book-clause-pass : goal.returns-in_default-book-clause-pass
returns-in_default-book-clause-pass g c =
    record {
      seats = search rules;
      account = accounts_told c.args.self.now c.book.new.self.log c.args.pass.now c.args.pass.now None c.requires.enrolled refl (ap (λ (v : HostState g.row.S.Denot). gone v.log) (c.in_default-book.ensures.err ∙ c.in_default.ensures.unchanged.0) ∙ ap (λ (v : HostShown g.row.S.Denot). gone v.log) c.self.view_is);
    }

pub returns-clause-pass : goal.returns-clause-pass
returns-clause-pass g c =
    let inside = c.self.inside in
    let new = c.start_or_wait-got.new in
    let told = c.start_or_wait-got.ensures in
    let same = same_gone inside.state.log new.state.log inside.seats new.seats c.self.invariant.seated told.seats.seated (told.seats.granted.ended ∙ ap ended_starts c.in_default.ensures.unchanged.2) in
    record {
      seats = search rules;
      account = accounts_told c.args.self.now new.state.log c.args.pass.now c.tell_got.new.pass (got_did c.start_or_wait-got.result) c.requires.enrolled (tells_got g c) (same ∙ ap (λ (v : HostShown g.row.S.Denot). gone v.log) c.self.view_is);
    }

-- the log that it leaves
pub returns-in-Some-clause-settled : goal.returns-in-Some-clause-settled
returns-in-Some-clause-settled g c = (invariant_of-self g c).settled

pub returns-in-Some-reason_against-clause-settled : goal.returns-in-Some-reason_against-clause-settled
returns-in-Some-reason_against-clause-settled g c = (invariant_of-self-in-Some-reason_against g c).settled

pub returns-in_default-reserve-clause-settled : goal.returns-in_default-reserve-clause-settled
returns-in_default-reserve-clause-settled g c = (invariant_of-self-in_default-reserve g c).settled

pub returns-in_default-reserve-2-clause-settled : goal.returns-in_default-reserve-2-clause-settled
returns-in_default-reserve-2-clause-settled g c = (invariant_of-self-in_default-reserve-2 g c).settled

pub returns-in_default-book-clause-settled : goal.returns-in_default-book-clause-settled
returns-in_default-book-clause-settled g c = (invariant_of-self-in_default-book g c).settled

pub returns-clause-settled : goal.returns-clause-settled
returns-clause-settled g c = (invariant_of-self-2 g c).settled
