use Rattle.std.proofs.Common.{◌≡◌, Option, Some, None, false, sym, ap, ◌∙◌}
use Rattle.std.specs.Option.{option_map, option_map_or}
use Rattle.conn_log.specs.declared.entry.Want.{Want}
use Rattle.bundle.specs.declared.grant.Grant.{Grant}
use Rattle.bundle.specs.Grants.{grant_of}
use Rattle.bundle.specs.Lease.{HostShown, is_same_want, is_valid_ticket}
use Rattle.bundle.proofs.Answering.{ticket_granted, ticket_awaited}
use Rattle.bundle.proofs.host.Bundle.is_valid_ticket.Goals as goal

pub returns-in-Some : goal.returns-in-Some
returns-in-Some g c =
    let state = c.self.inside.state in
    let found : option_map (λ (grant : Grant g.row.S.Denot). grant.want) (grant_of c.self.inside.grants.items c.args.want.now.transfer) ≡ Some c.in-Some.granted = sym (c.in-Some.ensures ∙ ap (λ grants. option_map (λ (grant : Grant g.row.S.Denot). grant.want) (grant_of grants c.args.want.now.transfer)) c.deref.ensures.value) in
    let ticket = ticket_granted state.log c.self.inside.grants.items c.self.invariant.grants c.args.want.now.transfer c.in-Some.granted found in
    c.is_same.ensures ∙ sym (ap (λ (want : Option Want). option_map_or (is_same_want c.args.want.now) want false) ticket) ∙ ap (λ (v : HostShown g.row.S.Denot). is_valid_ticket v c.args.want.now) c.self.view_is

pub returns-in-Some-waiting_want : goal.returns-in-Some-waiting_want
returns-in-Some-waiting_want g c =
    let state = c.self.inside.state in
    let none : option_map (λ (grant : Grant g.row.S.Denot). grant.want) (grant_of c.self.inside.grants.items c.args.want.now.transfer) ≡ None = sym (c.in_default.ensures ∙ ap (λ grants. option_map (λ (grant : Grant g.row.S.Denot). grant.want) (grant_of grants c.args.want.now.transfer)) c.deref.ensures.value) in
    let ticket = ticket_awaited state.log c.self.inside.grants.items c.args.want.now.transfer none ∙ sym c.in-Some-waiting_want.ensures in
    c.is_same-in-Some-waiting_want.ensures ∙ sym (ap (λ (want : Option Want). option_map_or (is_same_want c.args.want.now) want false) ticket) ∙ ap (λ (v : HostShown g.row.S.Denot). is_valid_ticket v c.args.want.now) c.self.view_is

pub returns-in-None : goal.returns-in-None
returns-in-None g c =
    let state = c.self.inside.state in
    let none : option_map (λ (grant : Grant g.row.S.Denot). grant.want) (grant_of c.self.inside.grants.items c.args.want.now.transfer) ≡ None = sym (c.in_default.ensures ∙ ap (λ grants. option_map (λ (grant : Grant g.row.S.Denot). grant.want) (grant_of grants c.args.want.now.transfer)) c.deref.ensures.value) in
    let ticket = ticket_awaited state.log c.self.inside.grants.items c.args.want.now.transfer none ∙ sym c.in-None.ensures in
    sym (ap (λ (want : Option Want). option_map_or (is_same_want c.args.want.now) want false) ticket) ∙ ap (λ (v : HostShown g.row.S.Denot). is_valid_ticket v c.args.want.now) c.self.view_is
