-- What transfers were granted, beside what the log tells of them.
use Rattle.std.proofs.Common.{◌≡◌, ℕ, Bool, true, false, not, ◌&&◌, ◌||◌, List, [], ◌∷◌, ◌++◌, Option, Some, None, is_some, refl, sym, ap, subst, inl, inr, ◌∙◌, arith}
use Rattle.std.specs.Prelude.{◌==◌, if◌then◌else◌}
use Rattle.std.specs.Option.{option_or}
use mathlib.Core.Bool.{false≢true}
use Rattle.std.proofs.lemmas.Bool.Decides.{nat_tests, eqb_tells}
use Rattle.conn_log.specs.declared.entry.Want.{Want}
use Rattle.conn_log.specs.declared.entry.Entry.{Entry}
use Rattle.conn_log.specs.Connections.{is_among, held_number, holder_want}
use Rattle.conn_log.specs.Waiting.{waiting}
use Rattle.conn_log.specs.Legal.{LimitAndFirst}
use Rattle.conn_log.specs.Sound.{IsOrderly, IsNext}
use Rattle.conn_log.proofs.Soundness.{next_free}
use Rattle.bundle.specs.declared.grant.Grant.{Grant}
use Rattle.host_state.specs.Calls.{Start}
use Rattle.host_state.specs.Idle.{stream_of}
use Rattle.host_state.specs.Queue.{waiting_want}
use Rattle.host_state.specs.Grants.{granted_want}
use Rattle.bundle.specs.Lease.{start_for}
use Rattle.bundle.specs.Grants.{grant_of, without_grant, grant_start, grant_starts, grant_transfers, with_stream, grant_streams, IsGrantKept, GrantsKept}
use Rattle.host_state.proofs.Transfers.{Told, told, IsFreed, IsStarted, told_ended, ended_number, holder_awaits_nothing, told_others, told_started, apart_held}

-- the connection that a transfer has a lease of, and what its ticket is for
abbrev pub leased : List Entry → List ℕ → ℕ → Option ℕ
leased log unclaimed transfer = if is_among transfer unclaimed then None else held_number log transfer

abbrev pub ticketed : List Entry → List ℕ → ℕ → Option Want
ticketed log unclaimed transfer = if is_among transfer unclaimed then granted_want log transfer else waiting_want (waiting log) transfer

-- both are the same where the same is told and the transfer is granted alike
pub leased_same : (log after : List Entry) (unclaimed unclaimed' : List ℕ) (u : ℕ) → told after u ≡ told log u → is_among u unclaimed' ≡ is_among u unclaimed → leased after unclaimed' u ≡ leased log unclaimed u
leased_same log after unclaimed unclaimed' u same among = ap (λ b. if b then None else held_number after u) among ∙ ap (λ (t : Told). if is_among u unclaimed then None else t.number) same

pub ticketed_same : (log after : List Entry) (unclaimed unclaimed' : List ℕ) (u : ℕ) → told after u ≡ told log u → is_among u unclaimed' ≡ is_among u unclaimed → ticketed after unclaimed' u ≡ ticketed log unclaimed u
ticketed_same log after unclaimed unclaimed' u same among = ap (λ b. if b then granted_want after u else waiting_want (waiting after) u) among ∙ ap (λ (t : Told). if is_among u unclaimed then t.granted else t.awaited) same

module _ {S : Type 0} where
  pub is_some-grant_of : (grants : List (Grant S)) (transfer : ℕ) → is_some (grant_of grants transfer) ≡ is_among transfer (grant_transfers grants)
  is_some-grant_of [] transfer = refl
  is_some-grant_of (grant ∷ others) transfer = elim (eqb_tells grant.want.transfer transfer) [
    | inl same ↦ rw same.0 refl
    | inr differs ↦ rw differs.0 (is_some-grant_of others transfer)
  ]

  -- its start is found where it is
  pub start_granted : (grants : List (Grant S)) (transfer : ℕ) (grant : Grant S) → grant_of grants transfer ≡ Some grant → start_for (grant_starts grants) transfer ≡ Some (grant_start grant)
  start_granted [] transfer grant is = absurd (cc)
  start_granted (x ∷ others) transfer grant is = elim (eqb_tells x.want.transfer transfer) [
    | inl same ↦
        let it : Some x ≡ Some grant = rw same.0 at is in
        let here : x ≡ grant = cc in
        rw same.0 (ap (λ (g : Grant S). Some (grant_start g)) here)
    | inr differs ↦
        let it : grant_of others transfer ≡ Some grant = rw differs.0 at is in
        rw differs.0 (start_granted others transfer grant it)
  ]

  -- what the log shows of the one that is found
  pub kept_at : (log : List Entry) (grants : List (Grant S)) (transfer : ℕ) (grant : Grant S) → GrantsKept log grants → grant_of grants transfer ≡ Some grant → IsGrantKept log grant × (grant.want.transfer ≡ transfer)
  kept_at log [] transfer grant kept is = absurd (cc)
  kept_at log (x ∷ others) transfer grant kept is = elim (eqb_tells x.want.transfer transfer) [
    | inl same ↦
        let it : Some x ≡ Some grant = rw same.0 at is in
        let here : x ≡ grant = cc in
        (subst (λ g. IsGrantKept log g) here kept.0, ap (λ (g : Grant S). g.want.transfer) (sym here) ∙ same.1)
    | inr differs ↦
        let it : grant_of others transfer ≡ Some grant = rw differs.0 at is in
        kept_at log others transfer grant kept.2 it
  ]

  -- a transfer that holds nothing was granted nothing
  pub granted_none : (log : List Entry) (grants : List (Grant S)) (transfer : ℕ) → GrantsKept log grants → held_number log transfer ≡ None → is_among transfer (grant_transfers grants) ≡ false
  granted_none log [] transfer kept none = refl
  granted_none log (x ∷ others) transfer kept none = elim (eqb_tells x.want.transfer transfer) [
    | inl same ↦ let never : Some x.number ≡ None = sym kept.0.number ∙ ap (held_number log) same.1 ∙ none in absurd (cc)
    | inr differs ↦ rw differs.0 (granted_none log others transfer kept.2 none)
  ]

  -- each is kept where the same is told of its transfer
  kept_same : (log after : List Entry) (grant : Grant S) → told after grant.want.transfer ≡ told log grant.want.transfer → IsGrantKept log grant → IsGrantKept after grant
  kept_same log after grant same kept = record {
    number = ap (λ (t : Told). t.number) same ∙ kept.number;
    want = ap (λ (t : Told). t.granted) same ∙ kept.want;
    start = ap (λ (t : Told). t.start) same ∙ kept.start;
  }

  pub kept_others : (log after : List Entry) (grants : List (Grant S)) (transfer : ℕ) → ((u : ℕ) → (transfer == u) ≡ false → told after u ≡ told log u) → is_among transfer (grant_transfers grants) ≡ false → GrantsKept log grants → GrantsKept after grants
  kept_others log after [] transfer same out kept = tt
  kept_others log after (x ∷ others) transfer same out kept =
      let apart : (transfer == x.want.transfer) ≡ false = grind (arith, nat_tests, out) in
      let rest : is_among transfer (grant_transfers others) ≡ false = grind (arith, nat_tests, out) in
      (kept_same log after x (same x.want.transfer apart) kept.0, kept.1, kept_others log after others transfer same rest kept.2)

  pub kept_all : (log after : List Entry) (grants : List (Grant S)) → ((u : ℕ) → told after u ≡ told log u) → GrantsKept log grants → GrantsKept after grants
  kept_all log after [] same kept = tt
  kept_all log after (x ∷ others) same kept = (kept_same log after x (same x.want.transfer) kept.0, kept.1, kept_all log after others same kept.2)

  -- without what one transfer was granted
  pub among_without : (log : List Entry) (grants : List (Grant S)) (transfer u : ℕ) → GrantsKept log grants → is_among u (grant_transfers (without_grant transfer grants)) ≡ (not (transfer == u) && is_among u (grant_transfers grants))
  among_without log [] transfer u kept = grind arith
  among_without log (x ∷ others) transfer u kept = elim (eqb_tells x.want.transfer transfer) [
    | inl same ↦ elim (eqb_tells transfer u) [
      | inl here ↦
          let gone : is_among u (grant_transfers others) ≡ false = ap (λ (n : ℕ). is_among n (grant_transfers others)) (sym (same.1 ∙ here.1)) ∙ kept.1 in
          rw (same.0, here.0) gone
      | inr other ↦
          let apart : (x.want.transfer == u) ≡ false = ap (λ (n : ℕ). n == u) same.1 ∙ other.0 in
          rw (same.0, other.0, apart) refl
    ]
    | inr differs ↦ rw differs.0 (grind (arith, nat_tests, among_without log others transfer u kept.2, differs.0))
  ]

  out_of_without : (log : List Entry) (grants : List (Grant S)) (transfer u : ℕ) → GrantsKept log grants → is_among u (grant_transfers grants) ≡ false → is_among u (grant_transfers (without_grant transfer grants)) ≡ false
  out_of_without log grants transfer u kept out = among_without log grants transfer u kept ∙ ap (λ b. not (transfer == u) && b) out ∙ both (not (transfer == u))
    where
      both : (b : Bool) → (b && false) ≡ false
      both true = refl
      both false = refl

  pub kept_without : (log : List Entry) (grants : List (Grant S)) (transfer : ℕ) → GrantsKept log grants → GrantsKept log (without_grant transfer grants)
  kept_without log [] transfer kept = tt
  kept_without log (x ∷ others) transfer kept = elim (eqb_tells x.want.transfer transfer) [
    | inl same ↦ rw same.0 kept.2
    | inr differs ↦ rw differs.0 (kept.0, out_of_without log others transfer x.want.transfer kept.2 kept.1, kept_without log others transfer kept.2)
  ]

  pub not_without : (log : List Entry) (grants : List (Grant S)) (transfer : ℕ) → GrantsKept log grants → is_among transfer (grant_transfers (without_grant transfer grants)) ≡ false
  not_without log grants transfer kept = among_without log grants transfer transfer kept ∙ grind (arith, nat_tests)

  -- with one more at the end
  pub among_push : (grants : List (Grant S)) (grant : Grant S) (u : ℕ) → is_among u (grant_transfers (grants ++ grant ∷ [])) ≡ (is_among u (grant_transfers grants) || (grant.want.transfer == u))
  among_push [] grant u = grind arith
  among_push (x ∷ others) grant u = grind (arith, nat_tests, among_push others grant u)

  pub kept_push : (log : List Entry) (grants : List (Grant S)) (grant : Grant S) → GrantsKept log grants → IsGrantKept log grant → is_among grant.want.transfer (grant_transfers grants) ≡ false → GrantsKept log (grants ++ grant ∷ [])
  kept_push log [] grant kept new out = (new, refl, tt)
  kept_push log (x ∷ others) grant kept new out =
      let apart : (grant.want.transfer == x.want.transfer) ≡ false = grind (arith, nat_tests, out) in
      let rest : is_among grant.want.transfer (grant_transfers others) ≡ false = grind (arith, nat_tests, out) in
      (kept.0, among_push others grant x.want.transfer ∙ grind (arith, nat_tests, kept.1, apart), kept_push log others grant kept.2 new rest)

  -- a transfer gives back or closes what it held
  pub record Freed (t : ℕ) (log : List Entry) (grants : List (Grant S)) (after : List Entry) (left : List (Grant S)) : Type 0 where
    pub kept : GrantsKept after left
    pub leases : (u : ℕ) → leased after (grant_transfers left) u ≡ (if t == u then None else leased log (grant_transfers grants) u)
    pub tickets : (u : ℕ) → ticketed after (grant_transfers left) u ≡ (if t == u then None else ticketed log (grant_transfers grants) u)

  pub frees : (settings : LimitAndFirst) (log : List Entry) → IsOrderly settings log → (grants : List (Grant S)) → GrantsKept log grants → (c t : ℕ) → held_number log t ≡ Some c → (after : List Entry) → IsFreed c log after → Freed t log grants after (without_grant t grants)
  frees settings log orderly grants kept c t mine after freed = record {
    kept = kept_others log after (without_grant t grants) t (told_ended settings log orderly c t mine after freed) (not_without log grants t kept) (kept_without log grants t kept);
    leases = λ u. elim (eqb_tells t u) [
      | inl same ↦
          let out : is_among u (grant_transfers (without_grant t grants)) ≡ false = subst (λ (n : ℕ). is_among n (grant_transfers (without_grant t grants)) ≡ false) same.1 (not_without log grants t kept) in
          let none : held_number after u ≡ None = subst (λ (n : ℕ). held_number after n ≡ None) same.1 (ended_number settings log orderly c t mine after freed) in
          ap (λ b. if b then None else held_number after u) out ∙ none ∙ sym (ap (λ b. if b then None else leased log (grant_transfers grants) u) same.0)
      | inr other ↦ leased_same log after (grant_transfers grants) (grant_transfers (without_grant t grants)) u (told_ended settings log orderly c t mine after freed u other.0) (others_stay u other.0) ∙ sym (ap (λ b. if b then None else leased log (grant_transfers grants) u) other.0)
    ];
    tickets = λ u. elim (eqb_tells t u) [
      | inl same ↦
          let out : is_among u (grant_transfers (without_grant t grants)) ≡ false = subst (λ (n : ℕ). is_among n (grant_transfers (without_grant t grants)) ≡ false) same.1 (not_without log grants t kept) in
          let none : waiting_want (waiting after) u ≡ None = subst (λ (n : ℕ). waiting_want (waiting after) n ≡ None) same.1 (ap (λ wants. waiting_want wants t) freed.waiting ∙ holder_awaits_nothing settings log orderly c t mine) in
          ap (λ b. if b then granted_want after u else waiting_want (waiting after) u) out ∙ none ∙ sym (ap (λ b. if b then None else ticketed log (grant_transfers grants) u) same.0)
      | inr other ↦ ticketed_same log after (grant_transfers grants) (grant_transfers (without_grant t grants)) u (told_ended settings log orderly c t mine after freed u other.0) (others_stay u other.0) ∙ sym (ap (λ b. if b then None else ticketed log (grant_transfers grants) u) other.0)
    ];
  }
    where
      others_stay : (u : ℕ) → (t == u) ≡ false → is_among u (grant_transfers (without_grant t grants)) ≡ is_among u (grant_transfers grants)
      others_stay u other = among_without log grants t u kept ∙ ap (λ b. not b && is_among u (grant_transfers grants)) other

  -- who has a lease or a ticket stays, and each grant is kept
  pub record Grants (log : List Entry) (grants : List (Grant S)) (after : List Entry) (granted : List (Grant S)) : Type 0 where
    pub kept : GrantsKept after granted
    pub leases : (u : ℕ) → leased after (grant_transfers granted) u ≡ leased log (grant_transfers grants) u
    pub tickets : (u : ℕ) → ticketed after (grant_transfers granted) u ≡ ticketed log (grant_transfers grants) u

  pub grants_nothing : (log after : List Entry) (grants : List (Grant S)) → ((u : ℕ) → told after u ≡ told log u) → GrantsKept log grants → Grants log grants after grants
  grants_nothing log after grants same kept = record {
    kept = kept_all log after grants same kept;
    leases = λ u. leased_same log after (grant_transfers grants) (grant_transfers grants) u (same u) refl;
    tickets = λ u. ticketed_same log after (grant_transfers grants) (grant_transfers grants) u (same u) refl;
  }

  pub grants_then : (log : List Entry) (grants : List (Grant S)) (between : List Entry) (some : List (Grant S)) (after : List Entry) (more : List (Grant S)) → Grants log grants between some → Grants between some after more → Grants log grants after more
  grants_then log grants between some after more first second = record {
    kept = second.kept;
    leases = λ u. second.leases u ∙ first.leases u;
    tickets = λ u. second.tickets u ∙ first.tickets u;
  }

  pub freed_then : (t : ℕ) (log : List Entry) (grants : List (Grant S)) (between : List Entry) (some : List (Grant S)) (after : List Entry) (more : List (Grant S)) → Freed t log grants between some → Grants between some after more → Freed t log grants after more
  freed_then t log grants between some after more first second = record {
    kept = second.kept;
    leases = λ u. second.leases u ∙ first.leases u;
    tickets = λ u. second.tickets u ∙ first.tickets u;
  }

  -- the first that waits is granted a connection that nobody holds
  pub grants_head : (settings : LimitAndFirst) (log : List Entry) → IsOrderly settings log → (grants : List (Grant S)) → GrantsKept log grants → (grant : Grant S) (others : List Want) → waiting log ≡ grant.want ∷ others → IsNext log grant.want → holder_want log grant.number ≡ None → (after : List Entry) → IsStarted (record { number = grant.number; want = grant.want; moment = grant.moment; reused = is_some grant.stream }) log after → Grants log grants after (grants ++ grant ∷ [])
  grants_head settings log orderly grants kept grant others queue next none after started = record {
    kept = kept_push after grants grant (kept_others log after grants head (told_others settings log orderly start none after started) out kept) (record {
      number = ap (λ (t : Told). t.number) mine;
      want = ap (λ (t : Told). t.granted) mine;
      start = ap (λ (t : Told). t.start) mine;
    }) out;
    leases = λ u. elim (eqb_tells head u) [
      | inl same ↦
          let free_u : held_number log u ≡ None = subst (λ (n : ℕ). held_number log n ≡ None) same.1 free in
          let among : is_among u (grant_transfers (grants ++ grant ∷ [])) ≡ true = among_push grants grant u ∙ grind (arith, same.0) in
          let out_u : is_among u (grant_transfers grants) ≡ false = subst (λ (n : ℕ). is_among n (grant_transfers grants) ≡ false) same.1 out in
          ap (λ b. if b then None else held_number after u) among ∙ sym (ap (λ b. if b then None else held_number log u) out_u ∙ free_u)
      | inr other ↦ leased_same log after (grant_transfers grants) (grant_transfers (grants ++ grant ∷ [])) u (told_others settings log orderly start none after started u other.0) (others_stay u other.0)
    ];
    tickets = λ u. elim (eqb_tells head u) [
      | inl same ↦
          let among : is_among u (grant_transfers (grants ++ grant ∷ [])) ≡ true = among_push grants grant u ∙ grind (arith, same.0) in
          let out_u : is_among u (grant_transfers grants) ≡ false = subst (λ (n : ℕ). is_among n (grant_transfers grants) ≡ false) same.1 out in
          let wanted : granted_want after u ≡ Some grant.want = subst (λ (n : ℕ). granted_want after n ≡ Some grant.want) same.1 (ap (λ (t : Told). t.granted) mine) in
          let awaited : waiting_want (waiting log) u ≡ Some grant.want = ap (λ wants. waiting_want wants u) queue ∙ ap (λ b. if b then Some grant.want else waiting_want others u) same.0 in
          ap (λ b. if b then granted_want after u else waiting_want (waiting after) u) among ∙ wanted ∙ sym (ap (λ b. if b then granted_want log u else waiting_want (waiting log) u) out_u ∙ awaited)
      | inr other ↦ ticketed_same log after (grant_transfers grants) (grant_transfers (grants ++ grant ∷ [])) u (told_others settings log orderly start none after started u other.0) (others_stay u other.0)
    ];
  }
    where
      start : Start
      start = record { number = grant.number; want = grant.want; moment = grant.moment; reused = is_some grant.stream }

      head : ℕ
      head = grant.want.transfer

      free : held_number log head ≡ None
      free = next_free settings log orderly grant.want next

      out : is_among head (grant_transfers grants) ≡ false
      out = granted_none log grants head kept free

      mine : told after head ≡ record { number = Some grant.number; granted = Some grant.want; start = Some start; awaited = None }
      mine = told_started start log after started

      others_stay : (u : ℕ) → (head == u) ≡ false → is_among u (grant_transfers (grants ++ grant ∷ [])) ≡ is_among u (grant_transfers grants)
      others_stay u other = among_push grants grant u ∙ grind (arith, other)

  -- streams by number, where one list stands before another
  pub stream_of-append : (xs ys : List (ℕ × S)) (c : ℕ) → stream_of (xs ++ ys) c ≡ option_or (stream_of xs c) (stream_of ys c)
  stream_of-append [] ys c = refl
  stream_of-append (x ∷ xs) ys c = elim (eqb_tells x.0 c) [
    | inl same ↦ rw same.0 refl
    | inr differs ↦ rw differs.0 (stream_of-append xs ys c)
  ]

  stream_of-with : (number : ℕ) (stream : Option S) (streams : List (ℕ × S)) (d : ℕ) → (number == d) ≡ false → stream_of (with_stream number stream streams) d ≡ stream_of streams d
  stream_of-with number None streams d apart = refl
  stream_of-with number (Some stream) streams d apart = rw apart refl

  with_none : (number : ℕ) (stream : Option S) (streams : List (ℕ × S)) → stream_of streams number ≡ None → stream_of (with_stream number stream streams) number ≡ stream
  with_none number None streams none = none
  with_none number (Some stream) streams none =
      let it : (number == number) ≡ true = grind (arith, nat_tests) in
      rw it refl

  -- those of connections that none of these was granted
  pub no_stream : (log : List Entry) (grants : List (Grant S)) (d : ℕ) → GrantsKept log grants → ((u c : ℕ) → is_among u (grant_transfers grants) ≡ true → held_number log u ≡ Some c → (c == d) ≡ false) → stream_of (grant_streams grants) d ≡ None
  no_stream log [] d kept apart = refl
  no_stream log (x ∷ others) d kept apart =
      let here : (x.number == d) ≡ false = apart x.want.transfer x.number (grind (arith, nat_tests)) kept.0.number in
      stream_of-with x.number x.stream (grant_streams others) d here ∙ no_stream log others d kept.2 (λ u c among is. apart u c (grind (arith, nat_tests, among)) is)

  -- one more at the end
  pub stream_of-push : (grants : List (Grant S)) (grant : Grant S) (d : ℕ) → (grant.number == d) ≡ false → stream_of (grant_streams (grants ++ grant ∷ [])) d ≡ stream_of (grant_streams grants) d
  stream_of-push [] grant d apart = stream_of-with grant.number grant.stream [] d apart
  stream_of-push (x ∷ others) grant d apart = elim (eqb_tells x.number d) [
    | inl same ↦ by_stream x.stream same.0 (stream_of-push others grant d apart)
    | inr differs ↦ stream_of-with x.number x.stream (grant_streams (others ++ grant ∷ [])) d differs.0 ∙ stream_of-push others grant d apart ∙ sym (stream_of-with x.number x.stream (grant_streams others) d differs.0)
  ]
    where
      by_stream : (stream : Option S) → (x.number == d) ≡ true → stream_of (grant_streams (others ++ grant ∷ [])) d ≡ stream_of (grant_streams others) d → stream_of (with_stream x.number stream (grant_streams (others ++ grant ∷ []))) d ≡ stream_of (with_stream x.number stream (grant_streams others)) d
      by_stream None same rest = rest
      by_stream (Some stream) same rest = rw same refl

  pub stream_of-pushed : (grants : List (Grant S)) (grant : Grant S) → stream_of (grant_streams grants) grant.number ≡ None → stream_of (grant_streams (grants ++ grant ∷ [])) grant.number ≡ grant.stream
  stream_of-pushed [] grant none = with_none grant.number grant.stream [] refl
  stream_of-pushed (x ∷ others) grant none = by_stream x.stream none (λ rest. stream_of-pushed others grant rest)
    where
      by_stream : (stream : Option S) → stream_of (with_stream x.number stream (grant_streams others)) grant.number ≡ None → (stream_of (grant_streams others) grant.number ≡ None → stream_of (grant_streams (others ++ grant ∷ [])) grant.number ≡ grant.stream) → stream_of (with_stream x.number stream (grant_streams (others ++ grant ∷ []))) grant.number ≡ grant.stream
      by_stream None none' pushed = pushed none'
      by_stream (Some stream) none' pushed = elim (eqb_tells x.number grant.number) [
        | inl same ↦ let never : Some stream ≡ None = rw same.0 at none' in absurd (cc)
        | inr differs ↦ let rest : stream_of (grant_streams others) grant.number ≡ None = rw differs.0 at none' in rw differs.0 (pushed rest)
      ]

  -- without what one transfer was granted the others have their streams
  pub stream_of-without : (log : List Entry) (grants : List (Grant S)) (transfer c d : ℕ) → GrantsKept log grants → held_number log transfer ≡ Some c → (c == d) ≡ false → stream_of (grant_streams (without_grant transfer grants)) d ≡ stream_of (grant_streams grants) d
  stream_of-without log [] transfer c d kept mine apart = refl
  stream_of-without log (x ∷ others) transfer c d kept mine apart = elim (eqb_tells x.want.transfer transfer) [
    | inl same ↦
        let it : Some x.number ≡ Some c = sym kept.0.number ∙ ap (held_number log) same.1 ∙ mine in
        let number : x.number ≡ c = cc in
        rw same.0 (sym (stream_of-with x.number x.stream (grant_streams others) d (ap (λ (n : ℕ). n == d) number ∙ apart)))
    | inr differs ↦ rw differs.0 (by_stream x.stream (stream_of-without log others transfer c d kept.2 mine apart))
  ]
    where
      by_stream : (stream : Option S) → stream_of (grant_streams (without_grant transfer others)) d ≡ stream_of (grant_streams others) d → stream_of (with_stream x.number stream (grant_streams (without_grant transfer others))) d ≡ stream_of (with_stream x.number stream (grant_streams others)) d
      by_stream None rest = rest
      by_stream (Some stream) rest = ap (λ s. if x.number == d then Some stream else s) rest

  -- the stream of what a transfer was granted
  pub stream_of-granted : (settings : LimitAndFirst) (log : List Entry) → IsOrderly settings log → (grants : List (Grant S)) (transfer : ℕ) (grant : Grant S) → GrantsKept log grants → grant_of grants transfer ≡ Some grant → stream_of (grant_streams grants) grant.number ≡ grant.stream
  stream_of-granted settings log orderly [] transfer grant kept is = absurd (cc)
  stream_of-granted settings log orderly (x ∷ others) transfer grant kept is = elim (eqb_tells x.want.transfer transfer) [
    | inl same ↦
        let it : Some x ≡ Some grant = rw same.0 at is in
        let here : x ≡ grant = cc in
        subst (λ (g : Grant S). stream_of (with_stream x.number x.stream (grant_streams others)) g.number ≡ g.stream) here (with_none x.number x.stream (grant_streams others) (no_stream log others x.number kept.2 (λ u c among theirs. apart_held settings log orderly u x.want.transfer c x.number (parted_from u among) theirs kept.0.number)))
    | inr differs ↦
        let it : grant_of others transfer ≡ Some grant = rw differs.0 at is in
        let there = kept_at log others transfer grant kept.2 it in
        let apart : (x.want.transfer == grant.want.transfer) ≡ false = ap (λ (n : ℕ). x.want.transfer == n) there.1 ∙ differs.0 in
        stream_of-with x.number x.stream (grant_streams others) grant.number (apart_held settings log orderly x.want.transfer grant.want.transfer x.number grant.number apart kept.0.number there.0.number) ∙ stream_of-granted settings log orderly others transfer grant kept.2 it
  ]
    where
      parted_from : (u : ℕ) → is_among u (grant_transfers others) ≡ true → (u == x.want.transfer) ≡ false
      parted_from u among = elim (eqb_tells u x.want.transfer) [
        | inl same ↦ absurd (false≢true (sym kept.1 ∙ ap (λ (n : ℕ). is_among n (grant_transfers others)) (sym same.1) ∙ among))
        | inr other ↦ other.0
      ]
