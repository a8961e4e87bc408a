-- What the tables show as transfers start, claim and end.
use Rattle.std.proofs.Common.{◌≡◌, ℕ, ◌+◌, ◌<◌, ◌≤◌, ◌^◌, Bool, true, false, List, [], ◌∷◌, ◌++◌, length, Option, Some, None, refl, sym, ap, subst, inl, inr, ◌∙◌, arith}
use Rattle.std.specs.Prelude.{◌==◌, if◌then◌else◌}
use Rattle.std.proofs.lemmas.Bool.Decides.{nat_tests, eqb_tells}
use Rattle.budget.specs.Pairs.{Pair, is_pair, pair_count, without_pair, IsApart, HasRoomForPair}
use Rattle.budget.proofs.Sums.{one_if as counted}
use Rattle.budget.proofs.HoldersSteps.{pair_tells, times_cons, length_without, without_one}
use Rattle.conn_log.specs.declared.entry.Entry.{Entry}
use Rattle.conn_log.specs.Connections.{is_among, held_number, open_connections, idle_connections}
use Rattle.conn_log.specs.Sound.{has_number}
use Rattle.conn_log.specs.Starts.{start_count}
use Rattle.conn_log.proofs.StartCounts.{starts_within}
use Rattle.bundle.specs.declared.grant.Grant.{Grant}
use Rattle.host_state.specs.Calls.{Start, leased_len}
use Rattle.bundle.specs.Grants.{grant_of, grant_starts, grant_transfers, without_grant, GrantsKept}
use Rattle.bundle.specs.Seats.{SeatsShown, IsSeated, pairs_of, pair_granted, pair_leased, CountsNone, AreUnclaimed, KeepsGranted, ended_starts, gone}
use Rattle.host_state.specs.Effects.{one_if}

-- a new host's tables
pub seated_new : (held : SeatsShown) → CountsNone held → IsSeated [] held
seated_new held none = record {
  none_back = none.2;
  holders = λ c t. ap (λ (pairs : List Pair × List Pair). pair_count (c, t) pairs.0 + pair_count (c, t) pairs.1) (λ i. (none.0 i, none.1 i));
  number = ap (λ (pairs : List Pair × List Pair). (length pairs.0 + length pairs.1) + 0) (λ i. (none.0 i, none.1 i));
  starts = none.3;
  unsplit = none.4 ∙ ap length (sym none.0);
  held_within = omega (arith, ap length none.0, ap length none.1);
}

pub unclaimed_new : (held : SeatsShown) → CountsNone held → AreUnclaimed [] held
unclaimed_new held none c t = ap (pair_count (c, t)) none.0

-- a transfer that holds nothing has no pair
pub apart : (log : List Entry) (held : SeatsShown) → IsSeated log held → (c t : ℕ) → held_number log t ≡ None → IsApart (c, t) held.granted held.leased
apart log held seated c t free = seated.holders c t ∙ ap (λ number. one_if (has_number number c)) free

-- one pair more can be counted, where so few are open
pub pair_fits : (log : List Entry) (held : SeatsShown) → IsSeated log held → length (open_connections log) + 1 < 2 ^ 64 → HasRoomForPair held.granted held.leased
pair_fits log held seated few =
    let fits : length (open_connections log) + 1 < 18446744073709551616 = few in
    omega (arith, seated.number)

-- a transfer started: who holds what, and one more is held of those that are open
pub record Begins (c t : ℕ) (log after : List Entry) : Type 0 where
  pub taken : (u : ℕ) → held_number after u ≡ (if t == u then Some c else held_number log u)
  pub lengths : length (open_connections after) + length (idle_connections log) ≡ length (open_connections log) + length (idle_connections after) + 1
  pub starts : start_count after ≡ start_count log + 1

-- and one ended
pub record Ends (t : ℕ) (log after : List Entry) : Type 0 where
  pub freed : (u : ℕ) → held_number after u ≡ (if t == u then None else held_number log u)
  pub lengths : length (open_connections log) + length (idle_connections after) ≡ length (open_connections after) + length (idle_connections log) + 1
  pub starts : start_count after ≡ start_count log

-- and none did either
pub record SameHolders (log after : List Entry) : Type 0 where
  pub same : (u : ℕ) → held_number after u ≡ held_number log u
  pub lengths : length (open_connections log) + length (idle_connections after) ≡ length (open_connections after) + length (idle_connections log)
  pub starts : start_count after ≡ start_count log

one_if_le : (b : Bool) → one_if b ≤ 1
one_if_le true = omega arith
one_if_le false = omega arith

as_counted : (b : Bool) → counted b ≡ one_if b
as_counted true = refl
as_counted false = refl

-- a pair of another transfer is another pair, and that of the same one is the same where the connection is
same_transfer : (c d t u : ℕ) → (t == u) ≡ true → is_pair (d, u) (c, t) ≡ (c == d)
same_transfer c d t u same = grind (arith, nat_tests, same)

other_transfer : (c d t u : ℕ) → (t == u) ≡ false → is_pair (d, u) (c, t) ≡ false
other_transfer c d t u other = grind (arith, nat_tests, other)

-- the transfer holds that connection besides
one_begins : (log after : List Entry) (c t : ℕ) → held_number log t ≡ None → Begins c t log after → (d u : ℕ) → counted (is_pair (d, u) (c, t)) + one_if (has_number (held_number log u) d) ≡ one_if (has_number (held_number after u) d)
one_begins log after c t free begins d u = elim (eqb_tells t u) [
  | inl same ↦
      let before : held_number log u ≡ None = ap (held_number log) (sym same.1) ∙ free in
      let past : held_number after u ≡ Some c = begins.taken u ∙ ap (λ b. if b then Some c else held_number log u) same.0 in
      omega (arith, as_counted (is_pair (d, u) (c, t)), ap one_if (same_transfer c d t u same.0), ap (λ number. one_if (has_number number d)) before, ap (λ number. one_if (has_number number d)) past)
  | inr other ↦
      let past : held_number after u ≡ held_number log u = begins.taken u ∙ ap (λ b. if b then Some c else held_number log u) other.0 in
      omega (arith, ap counted (other_transfer c d t u other.0), ap (λ number. one_if (has_number number d)) past)
]

-- and no longer
one_ends : (log after : List Entry) (c t : ℕ) → held_number log t ≡ Some c → Ends t log after → (d u : ℕ) → counted (is_pair (d, u) (c, t)) + one_if (has_number (held_number after u) d) ≡ one_if (has_number (held_number log u) d)
one_ends log after c t held ends d u = elim (eqb_tells t u) [
  | inl same ↦
      let before : held_number log u ≡ Some c = ap (held_number log) (sym same.1) ∙ held in
      let past : held_number after u ≡ None = ends.freed u ∙ ap (λ b. if b then None else held_number log u) same.0 in
      omega (arith, as_counted (is_pair (d, u) (c, t)), ap one_if (same_transfer c d t u same.0), ap (λ number. one_if (has_number number d)) before, ap (λ number. one_if (has_number number d)) past)
  | inr other ↦
      let past : held_number after u ≡ held_number log u = ends.freed u ∙ ap (λ b. if b then None else held_number log u) other.0 in
      omega (arith, ap counted (other_transfer c d t u other.0), ap (λ number. one_if (has_number number d)) past)
]

-- a pair that does not stand there is not taken out
without_absent : (p : Pair) (pairs : List Pair) → pair_count p pairs ≡ 0 → without_pair p pairs ≡ pairs
without_absent p [] absent = refl
without_absent p (x ∷ xs) absent = elim (pair_tells p x) [
  | inl same ↦ absurd (omega (arith, times_cons p x xs, ap counted same.0, absent))
  | inr other ↦ rw other.0 (ap (λ rest. x ∷ rest) (without_absent p xs (omega (arith, times_cons p x xs, absent))))
]

own_pair : (p : Pair) → is_pair p p ≡ true
own_pair p = grind (arith, nat_tests)

-- it was granted the connection
pub seated_granted : (log after : List Entry) (held now : SeatsShown) (c t : ℕ) → IsSeated log held → held_number log t ≡ None → Begins c t log after → now ≡ pair_granted (c, t) held → IsSeated after now
seated_granted log after held now c t seated free begins is = subst (IsSeated after) (sym is) (record {
  none_back = seated.none_back;
  holders = λ d u. omega (arith, times_cons (d, u) (c, t) held.granted, seated.holders d u, one_begins log after c t free begins d u);
  number = omega (arith, seated.number, begins.lengths);
  starts = omega (arith, seated.starts, begins.starts);
  unsplit = omega (arith, seated.unsplit);
  held_within = omega (arith, seated.held_within);
})

-- it claimed what it was granted
pub seated_claimed : (log : List Entry) (held now : SeatsShown) (c t : ℕ) → IsSeated log held → pair_count (c, t) held.granted ≡ 1 → now ≡ pair_leased (c, t) held → IsSeated log now
seated_claimed log held now c t seated granted is = subst (IsSeated log) (sym is) (record {
  none_back = seated.none_back;
  holders = λ d u. omega (arith, times_cons (d, u) (c, t) held.leased, without_one (d, u) (c, t) held.granted granted, seated.holders d u);
  number = omega (arith, seated.number, length_without (c, t) held.granted, granted);
  starts = seated.starts;
  unsplit = omega (arith, seated.unsplit, length_without (c, t) held.granted, granted);
  held_within = omega (arith, seated.held_within, length_without (c, t) held.granted, granted);
})

-- it leased the connection at once
pub seated_leased : (log after : List Entry) (held now : SeatsShown) (c t : ℕ) → IsSeated log held → held_number log t ≡ None → Begins c t log after → now ≡ pair_leased (c, t) (pair_granted (c, t) held) → IsSeated after now
seated_leased log after held now c t seated free begins is =
    let once : pair_count (c, t) ((c, t) ∷ held.granted) ≡ 1 = omega (arith, times_cons (c, t) (c, t) held.granted, ap counted (own_pair (c, t)), apart log held seated c t free) in
    seated_claimed after (pair_granted (c, t) held) now c t (seated_granted log after held (pair_granted (c, t) held) c t seated free begins refl) once is

pub leased_granted : (log : List Entry) (held now : SeatsShown) (c t : ℕ) → IsSeated log held → held_number log t ≡ None → now ≡ pair_leased (c, t) (pair_granted (c, t) held) → KeepsGranted held now
leased_granted log held now c t seated free is =
    let absent : pair_count (c, t) held.granted ≡ 0 = omega (arith, apart log held seated c t free) in
    let granted : now.granted ≡ held.granted = ap (λ (h : SeatsShown). h.granted) is ∙ (rw (own_pair (c, t)) (without_absent (c, t) held.granted absent)) in
    record {
      tables = ap (λ (h : SeatsShown). h.tables) is;
      granted = granted;
      ended = omega (arith, ap length granted, ap (λ (h : SeatsShown). length h.leased) is, ap (λ (h : SeatsShown). h.counted) is);
    }

number_told : (number : Option ℕ) (c : ℕ) → 1 ≤ one_if (has_number number c) → number ≡ Some c
number_told None c one = absurd (omega (arith, one))
number_told (Some d) c one = elim (eqb_tells d c) [
  | inl same ↦ ap (λ (n : ℕ). Some n) same.1
  | inr other ↦ absurd (omega (arith, one, ap one_if other.0))
]

-- a lease's pair is one that the log shows held
pub leased_holds : (log : List Entry) (held : SeatsShown) → IsSeated log held → (c t : ℕ) → pair_count (c, t) held.leased ≡ 1 → held_number log t ≡ Some c
leased_holds log held seated c t leased = number_told (held_number log t) c (omega (arith, seated.holders c t, leased))

-- its lease was spent
pub seated_ended : (log after : List Entry) (held now : SeatsShown) (c t : ℕ) → IsSeated log held → pair_count (c, t) held.leased ≡ 1 → Ends t log after → now ≡ record held { leased = without_pair (c, t) held.leased; back = None } → IsSeated after now
seated_ended log after held now c t seated leased ends is = subst (IsSeated after) (sym is) (record {
  none_back = refl;
  holders = λ d u. omega (arith, without_one (d, u) (c, t) held.leased leased, seated.holders d u, one_ends log after c t (leased_holds log held seated c t leased) ends d u);
  number = omega (arith, seated.number, length_without (c, t) held.leased, leased, ends.lengths);
  starts = omega (arith, seated.starts, ends.starts);
  unsplit = seated.unsplit;
  held_within = omega (arith, seated.held_within, length_without (c, t) held.leased, leased);
})

-- nothing of it changed
pub seated_same : (log after : List Entry) (held : SeatsShown) → IsSeated log held → SameHolders log after → IsSeated after held
seated_same log after held seated same = record {
  none_back = seated.none_back;
  holders = λ c t. seated.holders c t ∙ ap (λ number. one_if (has_number number c)) (sym (same.same t));
  number = omega (arith, seated.number, same.lengths);
  starts = omega (arith, seated.starts, same.starts);
  unsplit = seated.unsplit;
  held_within = seated.held_within;
}

-- the pairs of grants: of one more at the end, of those of other transfers, and without one
times_push : {S : Type 0} (p : Pair) (grants : List (Grant S)) (grant : Grant S) → pair_count p (pairs_of (grant_starts (grants ++ grant ∷ []))) ≡ counted (is_pair p (grant.number, grant.want.transfer)) + pair_count p (pairs_of (grant_starts grants))
times_push p [] grant = times_cons p (grant.number, grant.want.transfer) []
times_push p (x ∷ others) grant =
    omega (arith, times_cons p (x.number, x.want.transfer) (pairs_of (grant_starts (others ++ grant ∷ []))), times_cons p (x.number, x.want.transfer) (pairs_of (grant_starts others)), times_push p others grant)

times_none : {S : Type 0} (d t : ℕ) (grants : List (Grant S)) → is_among t (grant_transfers grants) ≡ false → pair_count (d, t) (pairs_of (grant_starts grants)) ≡ 0
times_none d t [] out = refl
times_none d t (x ∷ others) out =
    let apart : (x.want.transfer == t) ≡ false = grind (arith, nat_tests, out) in
    let rest : is_among t (grant_transfers others) ≡ false = grind (arith, nat_tests, out) in
    omega (arith, times_cons (d, t) (x.number, x.want.transfer) (pairs_of (grant_starts others)), ap counted (other_transfer x.number d x.want.transfer t apart), times_none d t others rest)

times_without_grant : {S : Type 0} (p : Pair) (t : ℕ) (grant : Grant S) (grants : List (Grant S)) → grant_of grants t ≡ Some grant → pair_count p (pairs_of (grant_starts (without_grant t grants))) + counted (is_pair p (grant.number, t)) ≡ pair_count p (pairs_of (grant_starts grants))
times_without_grant p t grant [] is = absurd (cc)
times_without_grant p t grant (x ∷ others) is = elim (eqb_tells x.want.transfer t) [
  | inl same ↦
      let it : Some x ≡ Some grant = rw same.0 at is in
      let here : x ≡ grant = cc in
      let pair : counted (is_pair p (x.number, x.want.transfer)) ≡ counted (is_pair p (grant.number, t)) = ap (λ (q : Pair). counted (is_pair p q)) (λ i. ((here i).number, same.1 i)) in
      rw same.0 (omega (arith, times_cons p (x.number, x.want.transfer) (pairs_of (grant_starts others)), pair))
  | inr other ↦
      let it : grant_of others t ≡ Some grant = rw other.0 at is in
      rw other.0 (omega (arith, times_cons p (x.number, x.want.transfer) (pairs_of (grant_starts others)), times_cons p (x.number, x.want.transfer) (pairs_of (grant_starts (without_grant t others))), times_without_grant p t grant others it))
]

-- no more are held than started
pub held_of_started : (log : List Entry) (held : SeatsShown) → IsSeated log held → leased_len log ≤ start_count log
held_of_started log held seated = omega (arith, seated.number, seated.starts, seated.held_within)

-- the grants: one more
pub unclaimed_granted : {S : Type 0} (grants : List (Grant S)) (grant : Grant S) (held now : SeatsShown) → AreUnclaimed (grant_starts grants) held → now ≡ pair_granted (grant.number, grant.want.transfer) held → AreUnclaimed (grant_starts (grants ++ grant ∷ [])) now
unclaimed_granted grants grant held now unclaimed is = subst (AreUnclaimed (grant_starts (grants ++ grant ∷ []))) (sym is) (λ c t.
    omega (arith, times_cons (c, t) (grant.number, grant.want.transfer) held.granted, times_push (c, t) grants grant, unclaimed c t))

-- what a transfer was granted stands there once
pub granted_once : {S : Type 0} (log : List Entry) (grants : List (Grant S)) (held : SeatsShown) → GrantsKept log grants → AreUnclaimed (grant_starts grants) held → (t : ℕ) (grant : Grant S) → grant_of grants t ≡ Some grant → pair_count (grant.number, t) held.granted ≡ 1
granted_once {S = S} log grants held kept unclaimed t grant is = unclaimed grant.number t ∙ times_granted grants kept is
  where
    times_granted : (grants : List (Grant S)) → GrantsKept log grants → grant_of grants t ≡ Some grant → pair_count (grant.number, t) (pairs_of (grant_starts grants)) ≡ 1
    times_granted [] kept is = absurd (cc)
    times_granted (x ∷ others) kept is = elim (eqb_tells x.want.transfer t) [
      | inl same ↦
          let it : Some x ≡ Some grant = rw same.0 at is in
          let here : x ≡ grant = cc in
          let pair : is_pair (grant.number, t) (x.number, x.want.transfer) ≡ true = ap (λ (q : Pair). is_pair (grant.number, t) q) (λ i. ((here i).number, same.1 i)) ∙ own_pair (grant.number, t) in
          let rest : is_among t (grant_transfers others) ≡ false = ap (λ (n : ℕ). is_among n (grant_transfers others)) (sym same.1) ∙ kept.1 in
          omega (arith, times_cons (grant.number, t) (x.number, x.want.transfer) (pairs_of (grant_starts others)), ap counted pair, times_none grant.number t others rest)
      | inr other ↦
          let it : grant_of others t ≡ Some grant = rw other.0 at is in
          omega (arith, times_cons (grant.number, t) (x.number, x.want.transfer) (pairs_of (grant_starts others)), ap counted (other_transfer x.number grant.number x.want.transfer t other.0), times_granted others kept.2 it)
    ]

-- and there is a start that no seat was split off for yet
pub granted_unsplit : {S : Type 0} (log : List Entry) (grants : List (Grant S)) (held : SeatsShown) → IsSeated log held → GrantsKept log grants → AreUnclaimed (grant_starts grants) held → (t : ℕ) (grant : Grant S) → grant_of grants t ≡ Some grant → 0 < held.unsplit
granted_unsplit log grants held seated kept unclaimed t grant is =
    omega (arith, seated.unsplit, length_without (grant.number, t) held.granted, granted_once log grants held kept unclaimed t grant is)

-- one was claimed
pub unclaimed_claimed : {S : Type 0} (log : List Entry) (grants : List (Grant S)) (held now : SeatsShown) → GrantsKept log grants → AreUnclaimed (grant_starts grants) held → (t : ℕ) (grant : Grant S) → grant_of grants t ≡ Some grant → now ≡ pair_leased (grant.number, t) held → AreUnclaimed (grant_starts (without_grant t grants)) now
unclaimed_claimed log grants held now kept unclaimed t grant is claimed = subst (AreUnclaimed (grant_starts (without_grant t grants))) (sym claimed) (λ d u.
    omega (arith, without_one (d, u) (grant.number, t) held.granted (granted_once log grants held kept unclaimed t grant is), times_without_grant (d, u) t grant grants is, unclaimed d u))

-- a leased one was not granted
pub leased_not_granted : {S : Type 0} (log : List Entry) (grants : List (Grant S)) (held : SeatsShown) → IsSeated log held → GrantsKept log grants → AreUnclaimed (grant_starts grants) held → (c t : ℕ) → pair_count (c, t) held.leased ≡ 1 → without_grant t grants ≡ grants
leased_not_granted {S = S} log grants held seated kept unclaimed c t leased =
    without_absent_grant grants kept (sym (unclaimed c t) ∙ omega (arith, seated.holders c t, leased, one_if_le (has_number (held_number log t) c)))
  where
    holds : held_number log t ≡ Some c
    holds = leased_holds log held seated c t leased

    without_absent_grant : (grants : List (Grant S)) → GrantsKept log grants → pair_count (c, t) (pairs_of (grant_starts grants)) ≡ 0 → without_grant t grants ≡ grants
    without_absent_grant [] kept absent = refl
    without_absent_grant (x ∷ others) kept absent =
        let part = times_cons (c, t) (x.number, x.want.transfer) (pairs_of (grant_starts others)) in
        elim (eqb_tells x.want.transfer t) [
          | inl same ↦
              let it : Some x.number ≡ Some c = sym kept.0.number ∙ ap (held_number log) same.1 ∙ holds in
              let number : x.number ≡ c = cc in
              let pair : is_pair (c, t) (x.number, x.want.transfer) ≡ true = ap (λ (q : Pair). is_pair (c, t) q) (λ i. (number i, same.1 i)) ∙ own_pair (c, t) in
              absurd (omega (arith, part, ap counted pair, absent))
          | inr other ↦ rw other.0 (ap (λ rest. x ∷ rest) (without_absent_grant others kept.2 (omega (arith, part, absent))))
        ]

-- the table's lists are the same but for a lease
pub unclaimed_same : (unclaimed : List Start) (held now : SeatsShown) → AreUnclaimed unclaimed held → now.granted ≡ held.granted → AreUnclaimed unclaimed now
unclaimed_same unclaimed held now are same c t = ap (pair_count (c, t)) same ∙ are c t

-- one start more can be counted where the number of entries is one of the code
pub start_fits : (log after : List Entry) (held : SeatsShown) → IsSeated log held → start_count after ≡ start_count log + 1 → (n : ℕ) → n ≡ length after → n < 2 ^ 64 → held.counted + 1 < 2 ^ 64
start_fits log after held seated more n is few =
    let fits : n < 18446744073709551616 = few in
    omega (arith, seated.starts, more, starts_within after, is)

-- as many are over as are counted and held no more
pub gone_told : (log : List Entry) (held : SeatsShown) → IsSeated log held → gone log ≡ ended_starts held
gone_told log held seated = omega (arith, seated.number, seated.starts)

pub same_gone : (log after : List Entry) (held now : SeatsShown) → IsSeated log held → IsSeated after now → ended_starts now ≡ ended_starts held → gone after ≡ gone log
same_gone log after held now seated later same = gone_told after now later ∙ same ∙ sym (gone_told log held seated)

-- a start more, a claim, and an end
pub granted_ended : (held now : SeatsShown) (c t : ℕ) → now ≡ pair_granted (c, t) held → ended_starts now ≡ ended_starts held
granted_ended held now c t is = omega (arith, ap ended_starts is)

pub claimed_ended : (held now : SeatsShown) (c t : ℕ) → pair_count (c, t) held.granted ≡ 1 → now ≡ pair_leased (c, t) held → ended_starts now ≡ ended_starts held
claimed_ended held now c t granted is = omega (arith, ap ended_starts is, length_without (c, t) held.granted, granted)

pub spent_ended : (log : List Entry) (held now : SeatsShown) (c t : ℕ) → IsSeated log held → pair_count (c, t) held.leased ≡ 1 → now ≡ record held { leased = without_pair (c, t) held.leased; back = None } → ended_starts now ≡ ended_starts held + 1
spent_ended log held now c t seated leased is = omega (arith, ap ended_starts is, length_without (c, t) held.leased, leased, seated.held_within)
