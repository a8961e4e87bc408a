use Rattle.std.proofs.Common.{◌≡◌, Some, sym, ap, ◌∙◌, subst, arith}
use Rattle.atomic_table.specs.Table.{Me}
use Rattle.budget.specs.declared.link.Listing.{Listing}
use Rattle.budget.specs.declared.link.Listing.TheVariants.{Visited}
use Rattle.budget.specs.Marks.{Listed, Marked, IsMarkSeat, HasMark, marked_by, mark_shown, hosts_of, seats_of, host_of, mark_of, with_guest}
use Rattle.budget.proofs.LinkSteps.{visits, sees}
use Rattle.budget.proofs.link.Link.visit.Goals as goal

pub join_seat-requires : goal.join_seat-requires
join_seat-requires g c =
    let one = c.self.invariant in
    let there : c.host.inside.seat ≡ Some c.in-Some.guest = cc in
    let guest : IsMarkSeat c.in-Some.guest.me = subst HasMark there c.host.invariant in
    let shown : mark_shown c.in-Some.guest.table_id c.in-Some.guest.me.0 ≡ c.args.host.now = ap marked_by (sym there) ∙ c.host.view_is in (
      ap (λ (v : Listed). v.table) c.lobby.view_is ∙ (c.requires.lobby ∙ sym c.self.view_is),
      ap (λ (v : Marked). v.table) shown ∙ (c.requires.host ∙ sym c.self.view_is),
      guest.bare,
      omega arith,
      visits _ _ _ _ _ _ _ _ c.lobby.invariant.first c.lobby.invariant.lobby guest.mark,
    )

pub load-requires : goal.load-requires
load-requires g c =
    let one = c.self.invariant in
    let there : c.host.inside.seat ≡ Some c.in-Some.guest = cc in
    let guest : IsMarkSeat c.in-Some.guest.me = subst HasMark there c.host.invariant in
    let e = c.join_seat.ensures in
    let lobby = c.lobby.inside.seat.me.0 in
    let host = c.in-Some.guest.me.0 in
    let is : c.join_seat.new.seat.me.0 ≡ Visited (hosts_of lobby) (seats_of lobby) (host_of host) (mark_of host) =
    ap (λ (m : Me (Unit {0}) Listing). m.0) e.2 ∙ (λ i. with_guest (c.lobby.invariant.lobby i) (guest.mark i)) in
    (e.0 ∙ (ap (λ (v : Listed). v.table) c.lobby.view_is ∙ (c.requires.lobby ∙ sym c.self.view_is)), omega arith, sees _ _ _ _ _ _ _ (e.1 ∙ c.lobby.invariant.first) is)
