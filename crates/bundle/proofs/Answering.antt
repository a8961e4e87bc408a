-- What the calls of a bundle leave: who has a lease or a ticket, and the streams that are kept.
use Rattle.std.proofs.Common.{◌≡◌, ℕ, Bool, true, false, not, ◌&&◌, List, [], ◌∷◌, ◌++◌, Option, Some, None, is_some, refl, sym, ap, subst, inl, inr, ◌∙◌, arith}
use Rattle.std.specs.Prelude.{◌==◌, if◌then◌else◌}
use Rattle.std.specs.Option.{option_map, option_map_or, option_or, IsSome, IfSome, IfNone}
use mathlib.Core.Bool.{false≢true, beq}
use Rattle.std.proofs.lemmas.Bool.Decides.{nat_tests, eqb_tells}
use Rattle.bundle.specs.Seats.{Tables}
use Rattle.persistence.specs.declared.facts.Facts.{Facts}
use Rattle.persistence.specs.Persistent.{is_persistent}
use Rattle.conn_log.specs.declared.entry.Want.{Want}
use Rattle.conn_log.specs.declared.entry.Cause.{Cause}
use Rattle.conn_log.specs.declared.entry.Event.TheVariants.{Leased, Returned, Closed, Left}
use Rattle.conn_log.specs.declared.entry.Entry.{Entry}
use Rattle.conn_log.specs.Connections.{is_among, is_open, held_number, lane, born}
use Rattle.conn_log.specs.Waiting.{waiting, waits}
use Rattle.conn_log.specs.Fit.{is_fit}
use Rattle.conn_log.specs.Legal.{LimitAndFirst, IsAnyone}
use Rattle.conn_log.specs.Sound.{IsOrderly, HeldFacts, facts_if_held, held_facts}
use Rattle.conn_log.proofs.Steps.{is_open_is}
use Rattle.bundle.specs.declared.grant.Grant.{Grant}
use Rattle.host_state.specs.declared.held.Held.{Held}
use Rattle.bundle.specs.declared.answers.Got.{Got}
use Rattle.bundle.specs.declared.answers.Got.TheVariants.{Lease, Wait, NoRoom, Again}
use Rattle.host_state.specs.Steps.{add, next_number}
use Rattle.host_state.specs.Calls.{start_new, open_for, unfit_cause, grant_to}
use Rattle.host_state.specs.Idle.{stream_of}
use Rattle.host_state.specs.Laws.{IsSoundAndQuiet}
use Rattle.host_state.specs.Queue.{waiting_want}
use Rattle.bundle.specs.Lease.{HostShown, Leasing, Ticketed, is_same_want, GetsLease, GetsTicket, Spends}
use Rattle.host_state.specs.Grants.{granted_want}
use Rattle.bundle.specs.Grants.{grant_of, without_grant, grant_starts, grant_transfers, with_stream, grant_streams, GrantsKept, with_new, with_granted, IsAlone}
use Rattle.bundle.specs.Replies.{GivesLease, GivesTicket}
use Rattle.host_state.specs.State.{HostState, ComesBack, facts_of_held}
use Rattle.host_state.proofs.Soundness.{held_want, only_idle}
use Rattle.host_state.proofs.Transfers.{told, apart_held, holder_awaits_nothing, told_left_others, awaited_none, awaited_waits}
use Rattle.bundle.proofs.Granting.{leased, ticketed, leased_same, ticketed_same, kept_at, granted_none, kept_others, kept_without, among_without, not_without, is_some-grant_of, Freed, no_stream, stream_of-append, stream_of-push, stream_of-pushed, stream_of-without, stream_of-granted}

-- a connection that was closed is not open
pub closed_not_open : (settings : LimitAndFirst) (m c : ℕ) (cause : Cause) (log : List Entry) (wants : List Want) → is_open (open_for settings m (add m (Closed c cause) log) wants) c ≡ false
closed_not_open settings m c cause log [] = is_open_is (add m (Closed c cause) log) c ∙ grind (arith, nat_tests)
closed_not_open settings m c cause log (head ∷ others) = is_open_is (start_new settings head m (add m (Closed c cause) log)) c ∙ grind (arith, nat_tests)

pub apart_open : (log : List Entry) (c d : ℕ) → is_open log c ≡ false → is_open log d ≡ true → (c == d) ≡ false
apart_open log c d closed still = elim (eqb_tells c d) [
  | inl same ↦ absurd (false≢true (sym closed ∙ ap (is_open log) same.1 ∙ still))
  | inr other ↦ other.0
]

-- wants that agree in each part are one
same_parts : (transfer lane age life transfer' lane' age' life' : ℕ) (fresh forbid fresh' forbid' : Bool) → (((transfer == transfer') && (age == age') && (life == life') && (lane == lane') && beq fresh fresh' && beq forbid forbid') ≡ true) → (let first : Want = record { transfer = transfer; lane = lane; max_age = age; max_life = life; fresh = fresh; forbid_reuse = forbid } in let second : Want = record { transfer = transfer'; lane = lane'; max_age = age'; max_life = life'; fresh = fresh'; forbid_reuse = forbid' } in second ≡ first)
same_parts transfer lane age life transfer' lane' age' life' fresh forbid fresh' forbid' same =
    let e1 : transfer' ≡ transfer = grind (arith, nat_tests, same) in
    let e2 : lane' ≡ lane = grind (arith, nat_tests, same) in
    let e3 : age' ≡ age = grind (arith, nat_tests, same) in
    let e4 : life' ≡ life = grind (arith, nat_tests, same) in
    let e5 : fresh' ≡ fresh = grind (arith, nat_tests, same) in
    let e6 : forbid' ≡ forbid = grind (arith, nat_tests, same) in
    cc

same_want : (x y : Want) → is_same_want x y ≡ true → y ≡ x
same_want x y same = same_parts x.transfer x.lane x.max_age x.max_life y.transfer y.lane y.max_age y.max_life x.fresh x.forbid_reuse y.fresh y.forbid_reuse same

module _ {S : Type 0} where
  -- what an acquire gives, from what is known of it
  pub gives_lease : (got : Got S) (P Q R : Leasing S → Type 0) → ((lease : Leasing S) → P lease → Q lease → R lease) → GivesLease got P → GivesLease got Q → GivesLease got R
  gives_lease (Lease lease) P Q R step p q = step lease p q
  gives_lease (Wait ticket) P Q R step p q = tt
  gives_lease (NoRoom booking) P Q R step p q = tt
  gives_lease (Again booking) P Q R step p q = tt

  pub gives_ticket : (got : Got S) (P Q R : Ticketed → Type 0) → ((ticket : Ticketed) → P ticket → Q ticket → R ticket) → GivesTicket got P → GivesTicket got Q → GivesTicket got R
  gives_ticket (Lease lease) P Q R step p q = tt
  gives_ticket (Wait ticket) P Q R step p q = step ticket p q
  gives_ticket (NoRoom booking) P Q R step p q = tt
  gives_ticket (Again booking) P Q R step p q = tt

  -- who has what after an acquire: the same is told of the other transfers
  module _ (settings : LimitAndFirst) (log after : List Entry) (grants : List (Grant S)) (kept : GrantsKept log grants) (want : Want) (free : held_number log want.transfer ≡ None) (others : (u : ℕ) → (want.transfer == u) ≡ false → told after u ≡ told log u) where
    out : is_among want.transfer (grant_transfers grants) ≡ false
    out = granted_none log grants want.transfer kept free

    pub kept_begun : GrantsKept after grants
    kept_begun = kept_others log after grants want.transfer others out kept

    leases_started : (c : ℕ) → held_number after want.transfer ≡ Some c → (u : ℕ) → leased after (grant_transfers grants) u ≡ (if want.transfer == u then Some c else leased log (grant_transfers grants) u)
    leases_started c mine u = elim (eqb_tells want.transfer u) [
      | inl same ↦
          let number : held_number after u ≡ Some c = subst (λ (n : ℕ). held_number after n ≡ Some c) same.1 mine in
          let out_u : is_among u (grant_transfers grants) ≡ false = subst (λ (n : ℕ). is_among n (grant_transfers grants) ≡ false) same.1 out in
          ap (λ b. if b then None else held_number after u) out_u ∙ number ∙ sym (ap (λ b. if b then Some c else leased log (grant_transfers grants) u) same.0)
      | inr other ↦ leased_same log after (grant_transfers grants) (grant_transfers grants) u (others u other.0) refl ∙ sym (ap (λ b. if b then Some c else leased log (grant_transfers grants) u) other.0)
    ]

    tickets_started : waiting_want (waiting after) want.transfer ≡ None → (u : ℕ) → ticketed after (grant_transfers grants) u ≡ (if want.transfer == u then None else ticketed log (grant_transfers grants) u)
    tickets_started awaits u = elim (eqb_tells want.transfer u) [
      | inl same ↦
          let none : waiting_want (waiting after) u ≡ None = subst (λ (n : ℕ). waiting_want (waiting after) n ≡ None) same.1 awaits in
          let out_u : is_among u (grant_transfers grants) ≡ false = subst (λ (n : ℕ). is_among n (grant_transfers grants) ≡ false) same.1 out in
          ap (λ b. if b then granted_want after u else waiting_want (waiting after) u) out_u ∙ none ∙ sym (ap (λ b. if b then None else ticketed log (grant_transfers grants) u) same.0)
      | inr other ↦ ticketed_same log after (grant_transfers grants) (grant_transfers grants) u (others u other.0) refl ∙ sym (ap (λ b. if b then None else ticketed log (grant_transfers grants) u) other.0)
    ]

    module _ (settings' : LimitAndFirst) (host host' : ℕ) (streams streams' : List (ℕ × S)) (booked booked' : List ℕ) (tables tables' : Tables) (cut_away cut_away' : ℕ) where
      abbrev host_before : HostShown S
      host_before = record { log = log; cut_away = cut_away; settings = settings; host = host; streams = streams; unclaimed = grant_starts grants; booked = booked; tables = tables }

      abbrev host_after : HostShown S
      host_after = record { log = after; cut_away = cut_away'; settings = settings'; host = host'; streams = streams'; unclaimed = grant_starts grants; booked = booked'; tables = tables' }

      -- it holds that connection now, and waits not
      pub begun_lease : (c : ℕ) → held_number after want.transfer ≡ Some c → waiting_want (waiting after) want.transfer ≡ None → GetsLease host_before host_after want.transfer c
      begun_lease c mine awaits = record { leases = leases_started c mine; tickets = tickets_started awaits }

      -- it holds nothing yet, and waits for what it wants
      pub begun_ticket : held_number after want.transfer ≡ None → waiting_want (waiting after) want.transfer ≡ Some want → GetsTicket host_before host_after want
      begun_ticket holds_none awaits = record {
        leases = λ u. elim (eqb_tells want.transfer u) [
          | inl same ↦
              let none : held_number after u ≡ None = subst (λ (n : ℕ). held_number after n ≡ None) same.1 holds_none in
              let none_before : held_number log u ≡ None = subst (λ (n : ℕ). held_number log n ≡ None) same.1 free in
              ap (λ n. if is_among u (grant_transfers grants) then None else n) (none ∙ sym none_before)
          | inr other ↦ leased_same log after (grant_transfers grants) (grant_transfers grants) u (others u other.0) refl
        ];
        tickets = λ u. elim (eqb_tells want.transfer u) [
          | inl same ↦
              let wanted : waiting_want (waiting after) u ≡ Some want = subst (λ (n : ℕ). waiting_want (waiting after) n ≡ Some want) same.1 awaits in
              let out_u : is_among u (grant_transfers grants) ≡ false = subst (λ (n : ℕ). is_among n (grant_transfers grants) ≡ false) same.1 out in
              ap (λ b. if b then granted_want after u else waiting_want (waiting after) u) out_u ∙ wanted ∙ sym (ap (λ b. if b then Some want else ticketed log (grant_transfers grants) u) same.0)
          | inr other ↦ ticketed_same log after (grant_transfers grants) (grant_transfers grants) u (others u other.0) refl ∙ sym (ap (λ b. if b then Some want else ticketed log (grant_transfers grants) u) other.0)
        ];
      }

    -- no grant has the stream of the connection that it starts on
    pub begun_stream : IsOrderly settings after → (c : ℕ) → held_number after want.transfer ≡ Some c → stream_of (grant_streams grants) c ≡ None
    begun_stream orderly c mine = no_stream after grants c kept_begun (λ u d among theirs. apart_held settings after orderly u want.transfer d c (parted u among) theirs mine)
      where
        parted : (u : ℕ) → is_among u (grant_transfers grants) ≡ true → (u == want.transfer) ≡ false
        parted u among = elim (eqb_tells u want.transfer) [
          | inl same ↦ absurd (false≢true (sym out ∙ ap (λ (n : ℕ). is_among n (grant_transfers grants)) (sym same.1) ∙ among))
          | inr other ↦ other.0
        ]

  -- streams where only what stands behind differs
  pub behind_same : (front xs ys : List (ℕ × S)) (d : ℕ) → stream_of xs d ≡ stream_of ys d → stream_of (front ++ xs) d ≡ stream_of (front ++ ys) d
  behind_same front xs ys d same = stream_of-append front xs d ∙ ap (option_or (stream_of front d)) same ∙ sym (stream_of-append front ys d)

  pub both_same : (front front' xs ys : List (ℕ × S)) (d : ℕ) → stream_of front d ≡ stream_of front' d → stream_of xs d ≡ stream_of ys d → stream_of (front ++ xs) d ≡ stream_of (front' ++ ys) d
  both_same front front' xs ys d same_front same = stream_of-append front xs d ∙ ap (λ s. option_or s (stream_of xs d)) same_front ∙ ap (option_or (stream_of front' d)) same ∙ sym (stream_of-append front' ys d)

  -- the stream of what stands behind, where the front has none
  pub behind_only : (front xs : List (ℕ × S)) (d : ℕ) → stream_of front d ≡ None → stream_of (front ++ xs) d ≡ stream_of xs d
  behind_only front xs d none = stream_of-append front xs d ∙ ap (λ s. option_or s (stream_of xs d)) none

  pub front_first : (front xs : List (ℕ × S)) (d : ℕ) (stream : S) → stream_of front d ≡ Some stream → stream_of (front ++ xs) d ≡ Some stream
  front_first front xs d stream is = stream_of-append front xs d ∙ ap (λ s. option_or s (stream_of xs d)) is

  pub spends_at : (inner outer after : HostShown S) (t u : ℕ) → inner ≡ outer → t ≡ u → Spends inner after t → Spends outer after u
  spends_at inner outer after t u same who spent = subst (λ (v : HostShown S). Spends v after u) same (subst (λ (k : ℕ). Spends inner after k) who spent)

  pub gets_at : (inner outer after : HostShown S) (t u c d : ℕ) → inner ≡ outer → t ≡ u → c ≡ d → GetsLease inner after t c → GetsLease outer after u d
  gets_at inner outer after t u c d same who which gets = subst (λ (v : HostShown S). GetsLease v after u d) same (subst (λ (k : ℕ). GetsLease inner after k d) who (subst (λ (k : ℕ). GetsLease inner after t k) which gets))

  -- the want of a transfer's ticket
  pub ticket_granted : (log : List Entry) (grants : List (Grant S)) → GrantsKept log grants → (t : ℕ) (want : Want) → option_map (λ (grant : Grant S). grant.want) (grant_of grants t) ≡ Some want → ticketed log (grant_transfers grants) t ≡ Some want
  ticket_granted log grants kept t want is = by_grant (grant_of grants t) refl is
    where
      by_grant : (found : Option (Grant S)) → grant_of grants t ≡ found → option_map (λ (grant : Grant S). grant.want) found ≡ Some want → ticketed log (grant_transfers grants) t ≡ Some want
      by_grant None none never = absurd (cc)
      by_grant (Some grant) here some =
          let there = kept_at log grants t grant kept here in
          let wanted : grant.want ≡ want = cc in
          let among : is_among t (grant_transfers grants) ≡ true = sym (is_some-grant_of grants t) ∙ ap is_some here in
          ap (λ b. if b then granted_want log t else waiting_want (waiting log) t) among ∙ ap (granted_want log) (sym there.1) ∙ there.0.want ∙ ap (λ (w : Want). Some w) wanted

  -- who has no ticket was granted nothing that it has not claimed
  pub unclaimed_not : (log : List Entry) (grants : List (Grant S)) → GrantsKept log grants → (t : ℕ) → ticketed log (grant_transfers grants) t ≡ None → is_among t (grant_transfers grants) ≡ false
  unclaimed_not log grants kept t none = by_grant (grant_of grants t) refl
    where
      never : (want : Want) → Some want ≡ None → is_among t (grant_transfers grants) ≡ false
      never want e = absurd (cc)

      by_grant : (found : Option (Grant S)) → grant_of grants t ≡ found → is_among t (grant_transfers grants) ≡ false
      by_grant None here = sym (is_some-grant_of grants t) ∙ ap is_some here
      by_grant (Some grant) here = never grant.want (sym (ticket_granted log grants kept t grant.want (ap (option_map (λ (g : Grant S). g.want)) here)) ∙ none)

  -- who has what once a transfer has spent what it had
  pub freed_spends : (t : ℕ) (log : List Entry) (grants : List (Grant S)) (after : List Entry) (left : List (Grant S)) (settings settings' : LimitAndFirst) (host host' : ℕ) (streams streams' : List (ℕ × S)) (booked booked' : List ℕ) (tables tables' : Tables) (cut_away cut_away' : ℕ) → Freed t log grants after left → Spends (record { log = log; cut_away = cut_away; settings = settings; host = host; streams = streams; unclaimed = grant_starts grants; booked = booked; tables = tables }) (record { log = after; cut_away = cut_away'; settings = settings'; host = host'; streams = streams'; unclaimed = grant_starts left; booked = booked'; tables = tables' }) t
  freed_spends t log grants after left settings settings' host host' streams streams' booked booked' tables tables' cut_away cut_away' freed =
      let itself : (t == t) ≡ true = grind (arith, nat_tests) in
      record {
        leases = freed.leases;
        tickets = freed.tickets;
        unclaimed = unclaimed_not after left freed.kept t (freed.tickets t ∙ ap (λ b. if b then None else ticketed log (grant_transfers grants) t) itself);
      }

  pub ticket_awaited : (log : List Entry) (grants : List (Grant S)) (t : ℕ) → option_map (λ (grant : Grant S). grant.want) (grant_of grants t) ≡ None → ticketed log (grant_transfers grants) t ≡ waiting_want (waiting log) t
  ticket_awaited log grants t is = by_grant (grant_of grants t) refl is
    where
      by_grant : (found : Option (Grant S)) → grant_of grants t ≡ found → option_map (λ (grant : Grant S). grant.want) found ≡ None → ticketed log (grant_transfers grants) t ≡ waiting_want (waiting log) t
      by_grant (Some grant) here never = absurd (cc)
      by_grant None here none =
          let among : is_among t (grant_transfers grants) ≡ false = sym (is_some-grant_of grants t) ∙ ap is_some here in
          ap (λ b. if b then granted_want log t else waiting_want (waiting log) t) among

  -- a ticket that stands, of a transfer that was granted nothing, is of one that waits
  pub stood_waits : (log : List Entry) (grants : List (Grant S)) (want : Want) → grant_of grants want.transfer ≡ None → option_map_or (is_same_want want) (ticketed log (grant_transfers grants) want.transfer) false ≡ true → waits log want.transfer ≡ true
  stood_waits log grants want none stood =
      let ticket = ticket_awaited log grants want.transfer (ap (option_map (λ (grant : Grant S). grant.want)) none) in
      sym (awaited_waits want.transfer (waiting log)) ∙ wanted (waiting_want (waiting log) want.transfer) (sym (ap (λ (o : Option Want). option_map_or (is_same_want want) o false) ticket) ∙ stood)
    where
      wanted : (awaited : Option Want) → option_map_or (is_same_want want) awaited false ≡ true → is_some awaited ≡ true
      wanted None e = absurd (false≢true e)
      wanted (Some awaited) e = refl

  -- and one of a transfer that was granted something is for what that was granted for
  pub stood_granted : (log : List Entry) (grants : List (Grant S)) → GrantsKept log grants → (want : Want) (grant : Grant S) → grant_of grants want.transfer ≡ Some grant → option_map_or (is_same_want want) (ticketed log (grant_transfers grants) want.transfer) false ≡ true → grant.want ≡ want
  stood_granted log grants kept want grant is stood =
      let ticket = ticket_granted log grants kept want.transfer grant.want (ap (option_map (λ (g : Grant S). g.want)) is) in
      same_want want grant.want (ap (λ (o : Option Want). option_map_or (is_same_want want) o false) (sym ticket) ∙ stood)

  -- a transfer that waits leaves
  module _ (settings : LimitAndFirst) (log : List Entry) (orderly : IsOrderly settings log) (grants : List (Grant S)) (kept : GrantsKept log grants) (m t : ℕ) (waits_here : waits log t ≡ true) where
    pub left_freed : Freed t log grants (add m (Left t) log) grants
    left_freed =
        let free = orderly.waiting_free t waits_here in
        let out_t = granted_none log grants t kept free in
        record {
          kept = kept_others log (add m (Left t) log) grants t (told_left_others m t log) out_t kept;
          leases = λ u. elim (eqb_tells t u) [
            | inl same ↦
                let none : held_number log u ≡ None = subst (λ (n : ℕ). held_number log n ≡ None) same.1 free in
                either_none (is_among u (grant_transfers grants)) (held_number log u) none ∙ sym (ap (λ b. if b then None else leased log (grant_transfers grants) u) same.0)
            | inr other ↦ leased_same log (add m (Left t) log) (grant_transfers grants) (grant_transfers grants) u (told_left_others m t log u other.0) refl ∙ sym (ap (λ b. if b then None else leased log (grant_transfers grants) u) other.0)
          ];
          tickets = λ u. elim (eqb_tells t u) [
            | inl same ↦
                let none : waiting_want (waiting (add m (Left t) log)) u ≡ None = subst (λ (n : ℕ). waiting_want (waiting (add m (Left t) log)) n ≡ None) same.1 (awaited_none t (waiting log)) in
                let out_u : is_among u (grant_transfers grants) ≡ false = subst (λ (n : ℕ). is_among n (grant_transfers grants) ≡ false) same.1 out_t in
                ap (λ b. if b then granted_want (add m (Left t) log) u else waiting_want (waiting (add m (Left t) log)) u) out_u ∙ none ∙ sym (ap (λ b. if b then None else ticketed log (grant_transfers grants) u) same.0)
            | inr other ↦ ticketed_same log (add m (Left t) log) (grant_transfers grants) (grant_transfers grants) u (told_left_others m t log u other.0) refl ∙ sym (ap (λ b. if b then None else ticketed log (grant_transfers grants) u) other.0)
          ];
        }
      where
        either_none : (b : Bool) (n : Option ℕ) → n ≡ None → (if b then None else n) ≡ None
        either_none true n is = refl
        either_none false n is = is

  -- a transfer claims what it was granted
  module _ (settings : LimitAndFirst) (log : List Entry) (orderly : IsOrderly settings log) (grants : List (Grant S)) (kept : GrantsKept log grants) (t : ℕ) (grant : Grant S) (is : grant_of grants t ≡ Some grant) where
    pub claimed_number : held_number log t ≡ Some grant.number
    claimed_number = let there = kept_at log grants t grant kept is in ap (held_number log) (sym there.1) ∙ there.0.number

    pub claimed_among : is_among t (grant_transfers grants) ≡ true
    claimed_among = sym (is_some-grant_of grants t) ∙ ap is_some is

    others_stay : (u : ℕ) → (t == u) ≡ false → is_among u (grant_transfers (without_grant t grants)) ≡ is_among u (grant_transfers grants)
    others_stay u other = among_without log grants t u kept ∙ ap (λ b. not b && is_among u (grant_transfers grants)) other

    pub claimed_lease : (settings' : LimitAndFirst) (host host' : ℕ) (streams streams' : List (ℕ × S)) (booked booked' : List ℕ) (tables tables' : Tables) (cut_away cut_away' : ℕ) → GetsLease (record { log = log; cut_away = cut_away; settings = settings; host = host; streams = streams; unclaimed = grant_starts grants; booked = booked; tables = tables }) (record { log = log; cut_away = cut_away'; settings = settings'; host = host'; streams = streams'; unclaimed = grant_starts (without_grant t grants); booked = booked'; tables = tables' }) t grant.number
    claimed_lease settings' host host' streams streams' booked booked' tables tables' cut_away cut_away' = record {
      leases = λ u. elim (eqb_tells t u) [
        | inl same ↦
            let out_u : is_among u (grant_transfers (without_grant t grants)) ≡ false = subst (λ (n : ℕ). is_among n (grant_transfers (without_grant t grants)) ≡ false) same.1 (not_without log grants t kept) in
            let number : held_number log u ≡ Some grant.number = subst (λ (n : ℕ). held_number log n ≡ Some grant.number) same.1 claimed_number in
            ap (λ b. if b then None else held_number log u) out_u ∙ number ∙ sym (ap (λ b. if b then Some grant.number else leased log (grant_transfers grants) u) same.0)
        | inr other ↦ leased_same log log (grant_transfers grants) (grant_transfers (without_grant t grants)) u refl (others_stay u other.0) ∙ sym (ap (λ b. if b then Some grant.number else leased log (grant_transfers grants) u) other.0)
      ];
      tickets = λ u. elim (eqb_tells t u) [
        | inl same ↦
            let out_u : is_among u (grant_transfers (without_grant t grants)) ≡ false = subst (λ (n : ℕ). is_among n (grant_transfers (without_grant t grants)) ≡ false) same.1 (not_without log grants t kept) in
            let none : waiting_want (waiting log) u ≡ None = subst (λ (n : ℕ). waiting_want (waiting log) n ≡ None) same.1 (holder_awaits_nothing settings log orderly grant.number t claimed_number) in
            ap (λ b. if b then granted_want log u else waiting_want (waiting log) u) out_u ∙ none ∙ sym (ap (λ b. if b then None else ticketed log (grant_transfers grants) u) same.0)
        | inr other ↦ ticketed_same log log (grant_transfers grants) (grant_transfers (without_grant t grants)) u refl (others_stay u other.0) ∙ sym (ap (λ b. if b then None else ticketed log (grant_transfers grants) u) other.0)
      ];
    }

    pub claimed_left : (left : List (Grant S)) → left ≡ without_grant t grants → (settings' : LimitAndFirst) (host host' : ℕ) (streams streams' : List (ℕ × S)) (booked booked' : List ℕ) (tables tables' : Tables) (cut_away cut_away' : ℕ) → GetsLease (record { log = log; cut_away = cut_away; settings = settings; host = host; streams = streams; unclaimed = grant_starts grants; booked = booked; tables = tables }) (record { log = log; cut_away = cut_away'; settings = settings'; host = host'; streams = streams'; unclaimed = grant_starts left; booked = booked'; tables = tables' }) t grant.number
    claimed_left left e_left settings' host host' streams streams' booked booked' tables tables' cut_away cut_away' =
        let old : HostShown S = record { log = log; cut_away = cut_away; settings = settings; host = host; streams = streams; unclaimed = grant_starts grants; booked = booked; tables = tables } in
        let new : List (Grant S) → HostShown S = λ gs. record { log = log; cut_away = cut_away'; settings = settings'; host = host'; streams = streams'; unclaimed = grant_starts gs; booked = booked'; tables = tables' } in
        subst (λ gs. GetsLease old (new gs) t grant.number) (sym e_left) (claimed_lease settings' host host' streams streams' booked booked' tables tables' cut_away cut_away')

    -- with the stream that came back under its number
    pub claimed_stream : (xs : List (ℕ × S)) → grant.stream ≡ (if is_some grant.stream then stream_of (grant_streams grants ++ xs) grant.number else None)
    claimed_stream xs = by_stream grant.stream (stream_of-append (grant_streams grants) xs grant.number ∙ ap (λ s. option_or s (stream_of xs grant.number)) (stream_of-granted settings log orderly grants t grant kept is))
      where
        by_stream : (stream : Option S) → stream_of (grant_streams grants ++ xs) grant.number ≡ option_or stream (stream_of xs grant.number) → stream ≡ (if is_some stream then stream_of (grant_streams grants ++ xs) grant.number else None)
        by_stream None kept_is = refl
        by_stream (Some stream) kept_is = sym kept_is

    pub claimed_streams : (xs : List (ℕ × S)) (d : ℕ) → (grant.number == d) ≡ false → stream_of (grant_streams (without_grant t grants) ++ xs) d ≡ stream_of (grant_streams grants ++ xs) d
    claimed_streams xs d other = both_same (grant_streams (without_grant t grants)) (grant_streams grants) xs xs d (stream_of-without log grants t grant.number d kept claimed_number other) refl

  -- streams of the others, as a connection is granted
  pushed_none : (gs : List (Grant S)) (grant : Grant S) (d : ℕ) → grant.stream ≡ None → stream_of (grant_streams (gs ++ grant ∷ [])) d ≡ stream_of (grant_streams gs) d
  pushed_none [] grant d none = ap (λ s. stream_of (with_stream grant.number s []) d) none
  pushed_none (x ∷ others) grant d none = by_stream x.stream (pushed_none others grant d none)
    where
      by_stream : (stream : Option S) → stream_of (grant_streams (others ++ grant ∷ [])) d ≡ stream_of (grant_streams others) d → stream_of (with_stream x.number stream (grant_streams (others ++ grant ∷ []))) d ≡ stream_of (with_stream x.number stream (grant_streams others)) d
      by_stream None rest = rest
      by_stream (Some stream) rest = ap (λ s. if x.number == d then Some stream else s) rest

  pub with_new_streams : (settings : LimitAndFirst) (m : ℕ) (log : List Entry) (wants : List Want) (grants : List (Grant S)) (d : ℕ) → stream_of (grant_streams (with_new settings m log wants grants)) d ≡ stream_of (grant_streams grants) d
  with_new_streams settings m log [] grants d = refl
  with_new_streams settings m log (head ∷ others) grants d = pushed_none grants (record { want = head; number = next_number settings log; moment = m; stream = None }) d refl

  pub with_granted_streams : (settings : LimitAndFirst) (c m : ℕ) (stream : Option S) (log : List Entry) (wants : List Want) (grants : List (Grant S)) (d : ℕ) → (c == d) ≡ false → stream_of (grant_streams (with_granted settings c m stream log wants grants)) d ≡ stream_of (grant_streams grants) d
  with_granted_streams settings c m stream log [] grants d other = refl
  with_granted_streams settings c m stream log (head ∷ others) grants d other = by_fit (is_fit log head m c)
    where
      by_fit : (fits : Bool) → stream_of (grant_streams (if fits then grants ++ record { want = head; number = c; moment = m; stream = stream } ∷ [] else with_new settings m log (head ∷ others) grants)) d ≡ stream_of (grant_streams grants) d
      by_fit true = stream_of-push grants (record { want = head; number = c; moment = m; stream = stream }) d other
      by_fit false = with_new_streams settings m log (head ∷ others) grants d

  -- the stream of the connection that came back, where it stays open
  pub passed_stream : (settings : LimitAndFirst) (c m : ℕ) (log : List Entry) (grants : List (Grant S)) (stream : S) (xs ys : List (ℕ × S)) → stream_of (grant_streams grants) c ≡ None → stream_of xs c ≡ Some stream → (waiting log ≡ [] → ys ≡ xs) → is_open (grant_to settings c m log (waiting log)) c ≡ true → stream_of (grant_streams (with_granted settings c m (stream_of xs c) log (waiting log) grants) ++ ys) c ≡ Some stream
  passed_stream settings c m log grants stream xs ys none kept_is nobody = by_queue (waiting log) nobody
    where
      by_fit : (head : Want) (others : List Want) (fits : Bool) → is_open (if fits then add m (Leased c head) log else start_new settings head m (add m (Closed c (unfit_cause settings log head m c)) log)) c ≡ true → stream_of (grant_streams (if fits then grants ++ record { want = head; number = c; moment = m; stream = stream_of xs c } ∷ [] else with_new settings m log (head ∷ others) grants) ++ ys) c ≡ Some stream
      by_fit head others true still = front_first (grant_streams (grants ++ record { want = head; number = c; moment = m; stream = stream_of xs c } ∷ [])) ys c stream (stream_of-pushed grants (record { want = head; number = c; moment = m; stream = stream_of xs c }) none ∙ kept_is)
      by_fit head others false still = absurd (false≢true (sym (closed_not_open settings m c (unfit_cause settings log head m c) log (head ∷ others)) ∙ still))

      by_queue : (wants : List Want) → (wants ≡ [] → ys ≡ xs) → is_open (grant_to settings c m log wants) c ≡ true → stream_of (grant_streams (with_granted settings c m (stream_of xs c) log wants grants) ++ ys) c ≡ Some stream
      by_queue [] same still = behind_only (grant_streams grants) ys c none ∙ ap (λ zs. stream_of zs c) (same refl) ∙ kept_is
      by_queue (head ∷ others) same still = by_fit head others (is_fit log head m c) still

  -- no other grant has the stream of what a transfer holds
  pub freed_stream : (settings : LimitAndFirst) (log : List Entry) → IsOrderly settings log → (grants : List (Grant S)) → GrantsKept log grants → (c t : ℕ) → held_number log t ≡ Some c → stream_of (grant_streams (without_grant t grants)) c ≡ None
  freed_stream settings log orderly grants kept c t mine = no_stream log (without_grant t grants) c (kept_without log grants t kept) (λ u d among theirs. apart_held settings log orderly u t d c (parted u among) theirs mine)
    where
      parted : (u : ℕ) → is_among u (grant_transfers (without_grant t grants)) ≡ true → (u == t) ≡ false
      parted u among = elim (eqb_tells u t) [
        | inl same ↦ absurd (false≢true (sym (not_without log grants t kept) ∙ ap (λ (n : ℕ). is_among n (grant_transfers (without_grant t grants))) (sym same.1) ∙ among))
        | inr other ↦ other.0
      ]

-- what is kept of a held connection, from the log
pub record IsKnown (log : List Entry) (transfer : ℕ) (held : Held) : Type 0 where
  pub number : held_number log transfer ≡ Some held.number
  pub lane : lane log held.number ≡ held.lane
  pub born : born log held.number ≡ held.born

pub known : (log : List Entry) (transfer : ℕ) (held : Held) → held_facts log transfer ≡ Some (facts_of_held held) → IsKnown log transfer held
known log transfer held is = by_number (held_number log transfer) refl is
  where
    by_number : (n : Option ℕ) → held_number log transfer ≡ n → option_map (facts_if_held log) n ≡ Some (facts_of_held held) → IsKnown log transfer held
    by_number None none never = absurd (cc)
    by_number (Some c) here some =
        let same : facts_if_held log c ≡ facts_of_held held = cc in
        let number : c ≡ held.number = ap (λ (f : HeldFacts). f.number) same in
        record {
          number = here ∙ ap (λ (k : ℕ). Some k) number;
          lane = subst (λ (k : ℕ). lane log k ≡ held.lane) number (ap (λ (f : HeldFacts). f.lane) same);
          born = subst (λ (k : ℕ). born log k ≡ held.born) number (ap (λ (f : HeldFacts). f.born) same);
        }

-- it is the only idle one once it has come back, where someone waits
pub came_back_alone : (settings : LimitAndFirst) (log : List Entry) → IsSoundAndQuiet settings log → (transfer : ℕ) (held : Held) (m : ℕ) (facts : Facts) → held_facts log transfer ≡ Some (facts_of_held held) → is_persistent facts ≡ true → IsAnyone (waiting log) → IsAlone (add m (Returned held.number facts) log) held.number held.lane held.born m
came_back_alone settings log kept transfer held m facts is persists anyone =
    let it = known log transfer held is in
    let holder = held_want settings log kept.sound transfer held.number it.number in
    let alone = only_idle settings log kept held.number (ap is_some holder.1) m facts anyone persists in
    record { only = alone.only; lane = it.lane; born = it.born; since = grind (arith, nat_tests) }

-- what is looked up is there, where it would be false that it is not
pub there_where : {A : Type 0} (found : Option A) (b : Bool) → IfNone found (b ≡ false) → b ≡ true → IsSome found
there_where None b none is = absurd (false≢true (sym none ∙ is))
there_where (Some x) b none is = refl

-- what was looked up, and is there, is what the log shows
pub held_told : (log : List Entry) (t : ℕ) (found : Option Held) (held : Held) → found ≡ Some held → IfSome found (λ (h : Held). held_facts log t ≡ Some (facts_of_held h)) → held_facts log t ≡ Some (facts_of_held held)
held_told log t found held is told = subst (λ (o : Option Held). IfSome o (λ (h : Held). held_facts log t ≡ Some (facts_of_held h))) is told

-- what is told of what came back, and of nothing
pub back_told : {S : Type 0} (old new : HostState S) (t : ℕ) (facts : Facts) (stream : S) (m : ℕ) (kept : Option Held) (held : Held) → kept ≡ Some held → IfSome kept (λ (h : Held). ComesBack old new t h facts stream m) → ComesBack old new t held facts stream m
back_told old new t facts stream m kept held is told = subst (λ (o : Option Held). IfSome o (λ (h : Held). ComesBack old new t h facts stream m)) is told

pub number_told : (c : ℕ) (kept : Option Held) (held : Held) → kept ≡ Some held → IfSome kept (λ (h : Held). h.number ≡ c) → held.number ≡ c
number_told c kept held is told = subst (λ (o : Option Held). IfSome o (λ (h : Held). h.number ≡ c)) is told

pub none_told : {A P : Type 0} (kept : Option A) → kept ≡ None → IfNone kept P → P
none_told {A} {P} kept is told = subst (λ (o : Option A). IfNone o P) is told
