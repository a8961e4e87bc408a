use Rattle.std.proofs.Common.{◌≡◌, length, sym, ap, subst, ◌∙◌, arith, rules}
use Rattle.std.proofs.lemmas.Grind.{common_steps}
use Rattle.bundle.specs.declared.answers.Got.TheVariants.{Lease}
use Rattle.host_state.specs.Calls.{Acquired}
use Rattle.bundle.specs.Lease.{Leasing, Using}
use Rattle.bundle.specs.Replies.{IsGot}
use Rattle.host_state.proofs.LeasesAtOnce.{reused_at_once}
use Rattle.bundle.proofs.Seating.{apart, start_fits, seated_leased, leased_granted}
use Rattle.bundle.proofs.Starting.{begins_lease}
use Rattle.bundle.proofs.Asking.{leased_at_once}
use Rattle.bundle.proofs.acquiring.lease_at_once.Goals as goal

pub returns-clause-at_once : goal.returns-clause-at_once
returns-clause-at_once g c =
    let state = c.args.state.now in
    let last = c.in-Some.ensures in
    record {
      nobody = grind (arith, common_steps);
      free = search rules;
      once = search rules;
      number = search rules;
      not_due = leased_at_once state.settings state.log c.args.want c.args.moment c.in-Some.number last.none_too_old last.some.newest;
    }

pub lease-seat-requires-clause-apart : goal.lease-seat-requires-clause-apart
lease-seat-requires-clause-apart g c = apart c.args.state.now.log c.args.seats.now c.requires.seated c.in-Some.number c.args.want.transfer c.in-Some.ensures.free

pub returns-clause-seats : goal.returns-clause-seats
returns-clause-seats g c =
    let before = c.args.state.now in
    let after = c.lease_last.new.self in
    let last = c.in-Some.ensures in
    let leased = last.some in
    let want = c.args.want in
    let begins = begins_lease before after c.in-Some.number c.args.moment want leased.log leased.as_many_open leased.fewer_idle in
    record {
      seated = seated_leased before.log after.log c.args.seats.now c.lease-seat.new.self c.in-Some.number want.transfer c.requires.seated last.free begins c.lease-seat.ensures.seats;
      granted = leased_granted c.args.state.now.log c.args.seats.now c.lease-seat.new.self c.in-Some.number c.args.want.transfer c.requires.seated c.in-Some.ensures.free c.lease-seat.ensures.seats;
    }

pub returns-clause-due : goal.returns-clause-due
returns-clause-due g c =
    let state = c.args.state.now in
    let last = c.in-Some.ensures in
    let leased = last.some in
    let reused = reused_at_once state.settings state.log c.args.want c.args.moment c.in-Some.number last.alone last.none_too_old leased.newest in
    let use_of = c.reusing-used.ensures in
    let site = ap (λ (l : Leasing g.row.S.Denot). l.site) c.new.ensures ∙ ap (λ (u : Using g.row.S.Denot). u.site) use_of ∙ c.host.ensures ∙ leased.same.host in
    let start_is = ap (λ (l : Leasing g.row.S.Denot). l.start) c.new.ensures ∙ ap (λ (u : Using g.row.S.Denot). u.start) use_of in
    subst (λ (due : Acquired). (c.lease_last.new.self.log ≡ due.log) × IsGot state.host c.args.want due.reply (Lease c.new.result)) (sym reused) (leased.log, (site, start_is))

pub lease-seat-requires-clause-few : goal.lease-seat-requires-clause-few
lease-seat-requires-clause-few g c =
    let before = c.args.state.now in
    let after = c.lease_last.new.self in
    let leased = c.in-Some.ensures.some in
    let begins = begins_lease before after c.in-Some.number c.args.moment c.args.want leased.log leased.as_many_open leased.fewer_idle in
    start_fits before.log after.log c.args.seats.now c.requires.seated begins.starts c.total_len-entries.result (c.total_len-entries.ensures ∙ ap length c.log.ensures.entries) c.total_len-entries.type_inv
