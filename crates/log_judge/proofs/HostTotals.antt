-- The totals over hosts, before any entry and after a step of one host; and hosts that wait for nothing.
use Rattle.std.proofs.Common.{◌≡◌, ℕ, ◌+◌, ◌<◌, ◌≤◌, ◌^◌, ◌⊎◌, Bool, true, false, ◌&&◌, List, [], ◌∷◌, length, replicate, Option, Some, None, is_some, refl, ap, inl, inr, arith}
use Rattle.std.specs.Prelude.{nat_lt, if◌then◌else◌, slice_index_or, slice_set}
use Rattle.std.specs.Option.{option_and_then}
use Rattle.std.specs.List.{All, sum_by}
use Rattle.std.proofs.lemmas.List.{length-replicate, length-set}
use Rattle.std.proofs.lemmas.List.Elements.{All-replicate, All-set}
use Rattle.std.proofs.lemmas.List.Folds.{sum_by-replicate}
use Rattle.std.proofs.lemmas.List.Sums.{sum_by-cons, sum_by-le, sum_by-set}
use Rattle.conn_log.specs.declared.entry.Want.{Want}
use Rattle.log_judge.specs.declared.totals.Totals.{Totals}
use Rattle.log_judge.specs.declared.unrest.Unrest.TheVariants.{WaiterBesideIdle, WaiterBesideRoom}
use Rattle.log_judge.specs.Tables.{HostLog, open_at, idle_at, limit_at, first_waiter, IsSmall}
use Rattle.log_judge.specs.AllHosts.{begun, waits_beside_idle, waits_beside_room, one_if, totals_at, beside_idle, beside_room, first_waiting, Exchanges, HaveRoom, AreCounted}
use Rattle.log_judge.proofs.DueReturns.{idle_open}

one_or_none : (test : Bool) → one_if test ≤ 4294967295
one_or_none true = omega arith
one_or_none false = omega arith

-- a sum over hosts, each of which adds less than 2^32, leaves room for another
sum_fits : (f : HostLog → ℕ) (hosts : List HostLog) → All (λ (host : HostLog). f host ≤ 4294967295) hosts → length hosts < 2 ^ 32 → sum_by f hosts + 2 ^ 32 ≤ 2 ^ 64
sum_fits f hosts each few = omega (arith, sum_by-le f 4294967295 hosts each, few)

module _ (totals : Totals) (hosts : List HostLog) (are : AreCounted totals hosts) where
  pub have_room : HaveRoom totals
  have_room = record {
    open_len = omega (arith, are.open_len, sum_fits open_at hosts (λ k d inside. omega (arith, are.small k d inside)) are.few);
    idle_len = omega (arith, are.idle_len, sum_fits idle_at hosts (λ k d inside. omega (arith, are.small k d inside, idle_open (slice_index_or hosts k d).log)) are.few);
    beside_idle = omega (arith, are.beside_idle, sum_fits (λ (host : HostLog). one_if (waits_beside_idle host)) hosts (λ k d inside. one_or_none (waits_beside_idle (slice_index_or hosts k d))) are.few);
    beside_room = omega (arith, are.beside_room, sum_fits (λ (host : HostLog). one_if (waits_beside_room host)) hosts (λ k d inside. one_or_none (waits_beside_room (slice_index_or hosts k d))) are.few);
  }

  pub counted_after : (site : ℕ) (was host : HostLog) (before after new : Totals) → site < length hosts → was ≡ slice_index_or hosts site was → before ≡ totals_at was → after ≡ totals_at host → IsSmall host → Exchanges totals before after new → AreCounted new (slice_set hosts site host)
  counted_after site was host before after new there is before_is after_is small exchanged = record {
    open_len = moved open_at are.open_len (ap (λ (t : Totals). t.open_len) before_is) (ap (λ (t : Totals). t.open_len) after_is) exchanged.open_len;
    idle_len = moved idle_at are.idle_len (ap (λ (t : Totals). t.idle_len) before_is) (ap (λ (t : Totals). t.idle_len) after_is) exchanged.idle_len;
    beside_idle = moved (λ (h : HostLog). one_if (waits_beside_idle h)) are.beside_idle (ap (λ (t : Totals). t.beside_idle) before_is) (ap (λ (t : Totals). t.beside_idle) after_is) exchanged.beside_idle;
    beside_room = moved (λ (h : HostLog). one_if (waits_beside_room h)) are.beside_room (ap (λ (t : Totals). t.beside_room) before_is) (ap (λ (t : Totals). t.beside_room) after_is) exchanged.beside_room;
    small = All-set IsSmall hosts site host small are.small;
    few = omega (arith, are.few, length-set hosts site host);
  }
    where
      moved : (f : HostLog → ℕ) {total part more total' : ℕ} → total ≡ sum_by f hosts → part ≡ f was → more ≡ f host → total' + part ≡ total + more → total' ≡ sum_by f (slice_set hosts site host)
      moved f total_is part_is more_is change = omega (arith, total_is, part_is, more_is, change, sum_by-set f hosts site host was there, ap f is)

pub counted_new : (totals : Totals) (limit count : ℕ) → AreCounted totals [] → count < 2 ^ 32 → AreCounted totals (replicate count (begun limit))
counted_new totals limit count none few = record {
  open_len = omega (arith, none.open_len, sum_by-replicate open_at count (begun limit));
  idle_len = omega (arith, none.idle_len, sum_by-replicate idle_at count (begun limit));
  beside_idle = omega (arith, none.beside_idle, sum_by-replicate (λ (h : HostLog). one_if (waits_beside_idle h)) count (begun limit));
  beside_room = omega (arith, none.beside_room, sum_by-replicate (λ (h : HostLog). one_if (waits_beside_room h)) count (begun limit));
  small = All-replicate IsSmall count (begun limit) (omega arith);
  few = omega (arith, few, length-replicate count (begun limit));
}

-- a host of which no transfer waits beside an idle connection, or beside room
none_if : (test : Bool) → one_if test ≡ 0 → test ≡ false
none_if true one = absurd (omega (arith, one))
none_if false one = refl

idle_none : (site : ℕ) (host : HostLog) → waits_beside_idle host ≡ false → beside_idle site host ≡ None
idle_none site host not_so = none_of (first_waiter host) not_so
  where
    none_of : (first : Option Want) → (is_some first && nat_lt 0 (idle_at host)) ≡ false → option_and_then (λ (want : Want). if nat_lt 0 (idle_at host) then Some (WaiterBesideIdle site want.transfer) else None) first ≡ None
    none_of None not_so = refl
    none_of (Some want) not_so = rw not_so refl

and_false : (test : Bool) → (test && false) ≡ false
and_false true = refl
and_false false = refl

room_none : (roomy : Bool) (site : ℕ) (host : HostLog) → (roomy ≡ false) ⊎ (waits_beside_room host ≡ false) → beside_room roomy site host ≡ None
room_none roomy site host not_so = none_of (first_waiter host) not_so
  where
    none_of : (first : Option Want) → (roomy ≡ false) ⊎ ((is_some first && nat_lt (open_at host) (limit_at host)) ≡ false) → option_and_then (λ (want : Want). if roomy && nat_lt (open_at host) (limit_at host) then Some (WaiterBesideRoom site want.transfer (open_at host) (limit_at host)) else None) first ≡ None
    none_of None not_so = refl
    none_of (Some want) (inl not_roomy) = rw not_roomy refl
    none_of (Some want) (inr full) = rw full (rw (and_false roomy) refl)

-- no host does
pub none_waits : (roomy : Bool) (site : ℕ) (hosts : List HostLog) → sum_by (λ (host : HostLog). one_if (waits_beside_idle host)) hosts ≡ 0 → (roomy ≡ false) ⊎ (sum_by (λ (host : HostLog). one_if (waits_beside_room host)) hosts ≡ 0) → first_waiting roomy site hosts ≡ None
none_waits roomy site [] none_idle none_room = refl
none_waits roomy site (host ∷ hosts) none_idle none_room =
    let counts = sum_by-cons (λ (h : HostLog). one_if (waits_beside_idle h)) host hosts in
    rw (idle_none site host (none_if (waits_beside_idle host) (omega (arith, counts, none_idle))))
    (rw (room_none roomy site host (here none_room))
    (none_waits roomy (site + 1) hosts (omega (arith, counts, none_idle)) (others none_room)))
  where
    rooms : sum_by (λ (h : HostLog). one_if (waits_beside_room h)) (host ∷ hosts) ≡ one_if (waits_beside_room host) + sum_by (λ (h : HostLog). one_if (waits_beside_room h)) hosts
    rooms = sum_by-cons (λ (h : HostLog). one_if (waits_beside_room h)) host hosts

    here : (roomy ≡ false) ⊎ (sum_by (λ (h : HostLog). one_if (waits_beside_room h)) (host ∷ hosts) ≡ 0) → (roomy ≡ false) ⊎ (waits_beside_room host ≡ false)
    here (inl not_roomy) = inl not_roomy
    here (inr none) = inr (none_if (waits_beside_room host) (omega (arith, rooms, none)))

    others : (roomy ≡ false) ⊎ (sum_by (λ (h : HostLog). one_if (waits_beside_room h)) (host ∷ hosts) ≡ 0) → (roomy ≡ false) ⊎ (sum_by (λ (h : HostLog). one_if (waits_beside_room h)) hosts ≡ 0)
    others (inl not_roomy) = inl not_roomy
    others (inr none) = inr (omega (arith, rooms, none))
