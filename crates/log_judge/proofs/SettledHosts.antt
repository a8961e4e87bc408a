-- Hosts of which nothing is unsettled are quiet.
use Rattle.std.proofs.Common.{◌≡◌, ℕ, zero, suc, ◌+◌, ◌<◌, ◌≤◌, ◌⊎◌, Bool, true, false, ◌&&◌, List, [], ◌∷◌, length, Option, Some, None, is_some, refl, sym, ap, inl, inr, ◌∙◌, arith}
use Rattle.std.specs.Prelude.{nat_lt, if◌then◌else◌, slice_index_or, slice_get, IsTrue}
use Rattle.std.specs.Option.{option_or, option_and_then}
use mathlib.Core.Bool.{false≢true}
use Rattle.std.proofs.lemmas.Bool.Decides.{nat_tests}
use Rattle.conn_log.specs.declared.entry.Want.{Want}
use Rattle.conn_log.specs.Connections.{open_connections, idle_connections}
use Rattle.conn_log.specs.Waiting.{waiting}
use Rattle.conn_log.specs.Legal.{limit_in_force, IsAnyone, IsQuiet}
use Rattle.conn_log.specs.Sound.{IsSound}
use Rattle.conn_log.proofs.Sorted.{told}
use Rattle.log_judge.specs.declared.unrest.Unrest.TheVariants.{WaiterBesideIdle, WaiterBesideRoom}
use Rattle.log_judge.specs.Tables.{HostLog, open_at, idle_at, limit_at, first_waiter}
use Rattle.log_judge.specs.AllHosts.{waits_beside_idle, waits_beside_room, beside_idle, beside_room, first_waiting}

some_is_not_none : {A : Type 0} (x : A) → Some x ≡ None → ⊥
some_is_not_none x is = false≢true (sym (ap is_some is))

-- what is told only if a test passes, and is not told
pub untold : {A : Type 0} (test : Bool) (x : A) → (if test then Some x else None) ≡ None → test ≡ false
untold true x none = absurd (some_is_not_none x none)
untold false x none = refl

-- the first of two is not there
pub neither : {A : Type 0} (x y : Option A) → option_or x y ≡ None → (x ≡ None) × (y ≡ None)
neither None y none = (refl, none)
neither (Some x) y none = absurd (some_is_not_none x none)

and_false : (test : Bool) → (test && false) ≡ false
and_false true = refl
and_false false = refl

idle_not : (site : ℕ) (host : HostLog) → beside_idle site host ≡ None → waits_beside_idle host ≡ false
idle_not site host none = not_of (first_waiter host) none
  where
    not_of : (first : Option Want) → option_and_then (λ (want : Want). if nat_lt 0 (idle_at host) then Some (WaiterBesideIdle site want.transfer) else None) first ≡ None → (is_some first && nat_lt 0 (idle_at host)) ≡ false
    not_of None none = refl
    not_of (Some want) none = untold (nat_lt 0 (idle_at host)) (WaiterBesideIdle site want.transfer) none

room_not : (roomy : Bool) (site : ℕ) (host : HostLog) → beside_room roomy site host ≡ None → (roomy && waits_beside_room host) ≡ false
room_not roomy site host none = not_of (first_waiter host) none
  where
    not_of : (first : Option Want) → option_and_then (λ (want : Want). if roomy && nat_lt (open_at host) (limit_at host) then Some (WaiterBesideRoom site want.transfer (open_at host) (limit_at host)) else None) first ≡ None → (roomy && (is_some first && nat_lt (open_at host) (limit_at host))) ≡ false
    not_of None none = and_false roomy
    not_of (Some want) none = untold (roomy && nat_lt (open_at host) (limit_at host)) (WaiterBesideRoom site want.transfer (open_at host) (limit_at host)) none

-- at no host does a transfer wait beside an idle connection, or beside room
pub none_at : (roomy : Bool) (from site : ℕ) (host : HostLog) (hosts : List HostLog) → first_waiting roomy from hosts ≡ None → site < length hosts → host ≡ slice_index_or hosts site host → (waits_beside_idle host ≡ false) × ((roomy && waits_beside_room host) ≡ false)
none_at roomy from site host [] none there is = absurd (omega (arith, there))
none_at roomy from zero host (first ∷ hosts) none there is =
    let parts = neither (option_or (beside_idle from first) (beside_room roomy from first)) (first_waiting roomy (from + 1) hosts) none in
    let here = neither (beside_idle from first) (beside_room roomy from first) parts.0 in
    rw is (idle_not from first here.0, room_not roomy from first here.1)
none_at roomy from (suc site) host (first ∷ hosts) none there is =
    let parts = neither (option_or (beside_idle from first) (beside_room roomy from first)) (first_waiting roomy (from + 1) hosts) none in
    none_at roomy (from + 1) site host hosts parts.1 (omega (arith, there)) is

-- of somebody who waits
none_if_anyone : (wants : List Want) (test : Bool) → (is_some (slice_get wants 0) && test) ≡ false → IsAnyone wants → test ≡ false
none_if_anyone [] test not_so anyone = elim anyone [ ]
none_if_anyone (want ∷ wants) test not_so anyone = not_so

anyone_if : (wants : List Want) (test : Bool) → (is_some (slice_get wants 0) && test) ≡ true → IsAnyone wants × (test ≡ true)
anyone_if [] test so = absurd (false≢true so)
anyone_if (want ∷ wants) test so = (tt, so)

empty : (xs : List ℕ) → nat_lt 0 (length xs) ≡ false → xs ≡ []
empty [] none = refl
empty (x ∷ xs) none = absurd (omega (arith, at_most 0 (length (x ∷ xs)) none))
  where
    at_most : (a b : ℕ) → nat_lt a b ≡ false → b ≤ a
    at_most a b not_so = grind (arith, nat_tests, not_so)

pub quiet : (roomy : Bool) (host : HostLog) → IsSound host.settings host.log → waits_beside_idle host ≡ false → (roomy && waits_beside_room host) ≡ false → IsQuiet host.settings (waits_beside_room host) host.log × (waits_beside_room host ≡ true → roomy ≡ false)
quiet roomy host sound no_idle no_room = (
  record {
    none_idle = λ anyone. empty (idle_connections host.log) (none_if_anyone (waiting host.log) (nat_lt 0 (idle_at host)) no_idle anyone);
    no_room = λ anyone. at_limit anyone (told (waits_beside_room host));
    queued_for = λ queued. let parts = anyone_if (waiting host.log) (nat_lt (open_at host) (limit_at host)) queued in (parts.0, less (open_at host) (limit_at host) parts.1);
    settled = sound.settled;
  },
  λ waits. not_roomy roomy (waits_beside_room host) waits no_room,
)
  where
    less : (a b : ℕ) → nat_lt a b ≡ true → a < b
    less a b so = grind (arith, nat_tests, so)

    equal : (a b : ℕ) → nat_lt a b ≡ false → a ≤ b → a ≡ b
    equal a b not_so within = grind (arith, nat_tests, not_so, within)

    not_roomy : (roomy waits : Bool) → waits ≡ true → (roomy && waits) ≡ false → roomy ≡ false
    not_roomy false waits so none = refl
    not_roomy true waits so none = absurd (false≢true (sym none ∙ so))

    at_limit : IsAnyone (waiting host.log) → (waits_beside_room host ≡ true) ⊎ (waits_beside_room host ≡ false) → (length (open_connections host.log) ≡ limit_in_force host.settings host.log) ⊎ IsTrue (waits_beside_room host)
    at_limit anyone (inl waits) = inr waits
    at_limit anyone (inr not_so) = inl (equal (open_at host) (limit_at host) (none_if_anyone (waiting host.log) (nat_lt (open_at host) (limit_at host)) not_so anyone) sound.orderly.within)
