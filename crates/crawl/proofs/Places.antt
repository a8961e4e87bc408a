-- Places in use keep their hosts.
use Rattle.std.proofs.Common.{◌≡◌, ℕ, ◌<◌, ◌+◌, zero, suc, Bool, true, false, List, [], ◌∷◌, ◌++◌, length, get_or, set, take, refl, ap, sym, ◌∙◌, subst, inl, inr}
use Rattle.std.specs.Prelude.{◌⊎◌, ◌&&◌, not, unwrap_or, slice_get, Option, Some}
use Rattle.std.proofs.Math.ListN.{get_or-append}
use Rattle.std.specs.List.{All}
use Rattle.std.proofs.lemmas.List.{get_or-set_same, length-set}
use Rattle.std.proofs.lemmas.List.Elements.{All-more, All-push, All-weaker}
use Rattle.std.proofs.lemmas.Option.{slice_get_cases, unwrap_or-slice_get}
use Rattle.conn_key.specs.Giving.{Gives}
use Rattle.conn_key.specs.Hosts.{Hosts}
use Rattle.conn_key.proofs.GivingLemmas.{only_unused_change}
use Rattle.crawl.specs.Hosts.{AreInUse, GrowsOrStays, IsInUse, KeepsInUse, is_in_use}
use Rattle.crawl.specs.declared.in_flight.InFlight.{InFlight}

false_is : false ≡ true → ⊥
false_is same = cc

-- a place in use is there
in_use_within : (in_use : List Bool) (place : ℕ) → is_in_use in_use place ≡ true → place < length in_use
in_use_within in_use place is = elim (slice_get_cases in_use place).1 [
  | inl (one, there, stands, reads) ↦ there
  | inr (past, none) ↦ absurd (false_is (sym (ap (λ (o : Option Bool). unwrap_or o false) none) ∙ is))
]

-- it stays in use
stays_in_use : (old new : List Bool) → GrowsOrStays old new → (place : ℕ) → is_in_use old place ≡ true → is_in_use new place ≡ true
stays_in_use old new (inl same) place is = ap (λ (l : List Bool). is_in_use l place) same ∙ is
stays_in_use old new (inr more) place is =
    let there = in_use_within old place is in
    ap (λ (l : List Bool). is_in_use l place) more ∙ unwrap_or-slice_get (old ++ false ∷ []) place false ∙ get_or-append old (false ∷ []) false place there
    ∙ sym (unwrap_or-slice_get old place false) ∙ is

not_both : (a b : Bool) → b ≡ true → (a && not b) ≡ true → ⊥
not_both true true is both = false_is both
not_both false b is both = false_is both
not_both true false is both = false_is is

kept_or_given : (unused : ℕ → Bool) (in_use : List Bool) (new : Hosts) (place : ℕ) (host : List ℕ) → (slice_get new.keys place ≡ Some host) ⊎ ((unused place && not (is_in_use in_use place)) ≡ true)
    → is_in_use in_use place ≡ true → slice_get new.keys place ≡ Some host
kept_or_given unused in_use new place host (inl kept) is = kept
kept_or_given unused in_use new place host (inr given) is = absurd (not_both (unused place) (is_in_use in_use place) is given)

-- if a host is given an unused place, each place in use keeps its host
pub given_keeps : (unused : ℕ → Bool) (old mid new : Hosts) (key : List ℕ) (given : ℕ) (was now seen : List Bool) → mid ≡ old → GrowsOrStays was now → seen ≡ now
    → Gives (λ place. unused place && not (is_in_use seen place)) mid key given new → KeepsInUse old new was now
given_keeps unused old mid new key given was now seen same grows is_seen gives =
    let stays = stays_in_use was now grows in
    record {
      hosts = λ place host is stands.
          kept_or_given unused seen new place host
          (only_unused_change (λ p. unused p && not (is_in_use seen p)) mid new key given gives place host (ap (λ (hosts : Hosts). slice_get hosts.keys place) same ∙ stands))
          (ap (λ (l : List Bool). is_in_use l place) is_seen ∙ stays place is);
      in_use = stays;
    }

-- they keep them from one step to the next
pub keeps_on : (first mid last : Hosts) (was then now : List Bool) → KeepsInUse first mid was then → KeepsInUse mid last then now → KeepsInUse first last was now
keeps_on first mid last was then now one other = record {
  hosts = λ place host is stands. other.hosts place host (one.in_use place is) (one.hosts place host is stands);
  in_use = λ place is. other.in_use place (one.in_use place is);
}

-- the same, if nothing changes in between
pub keeps_past : (first mid also last : Hosts) (was then still now : List Bool) → also ≡ mid → still ≡ then → KeepsInUse first mid was then → KeepsInUse also last still now → KeepsInUse first last was now
keeps_past first mid also last was then still now same kept one other =
    keeps_on first mid last was then now one (subst (λ (hosts : Hosts). KeepsInUse hosts last then now) same (subst (λ (in_use : List Bool). KeepsInUse also last in_use now) kept other))

pub keeps_all : (hosts : Hosts) (in_use : List Bool) → KeepsInUse hosts hosts in_use in_use
keeps_all hosts in_use = record { hosts = λ place host is stands. stands; in_use = λ place is. is }

-- places that were in use are
pub in_use_on : (first last : Hosts) (was now : List Bool) (urls : List InFlight) → KeepsInUse first last was now → AreInUse was urls → AreInUse now urls
in_use_on first last was now urls keeps all k d there = keeps.in_use (get_or urls k d).place (all k d there)

-- one more is
pub in_use_more : (in_use : List Bool) (urls : List InFlight) (one : InFlight) → AreInUse in_use urls → is_in_use in_use one.place ≡ true → AreInUse in_use (urls ++ one ∷ [])
in_use_more in_use urls one all is = All-push (λ (url : InFlight). is_in_use in_use url.place ≡ true) urls one all is

-- room for one more place changes no host
pub grown_keeps : (old new : Hosts) (was now : List Bool) → new ≡ old → GrowsOrStays was now → KeepsInUse old new was now
grown_keeps old new was now same grows = record {
  hosts = λ place host is stands. ap (λ (hosts : Hosts). slice_get hosts.keys place) same ∙ stands;
  in_use = stays_in_use was now grows;
}

set_keeps : (in_use : List Bool) (place other : ℕ) → get_or in_use other false ≡ true → get_or (set in_use place true) other false ≡ true
set_keeps [] place other is = absurd (false_is is)
set_keeps (x ∷ in_use) zero zero is = refl
set_keeps (x ∷ in_use) zero (suc other) is = is
set_keeps (x ∷ in_use) (suc place) zero is = is
set_keeps (x ∷ in_use) (suc place) (suc other) is = set_keeps in_use place other is

-- one more transfer is noted
pub in_use_after : (in_use now : List Bool) (all : List InFlight) (i : ℕ) (one : InFlight) → i < length all → one ≡ get_or all i one → now ≡ set in_use one.place true → All (IsInUse in_use) (take i all) → All (IsInUse now) (take (i + 1) all)
in_use_after in_use now all i one below there is noted =
    let same : length now ≡ length in_use = ap length is ∙ length-set in_use one.place true in
    let others : (other : InFlight) → IsInUse in_use other → IsInUse now other =
    λ other was within. (
    let was_in_use = was (subst (λ n. other.place < n) same within) in
    unwrap_or-slice_get now other.place false ∙ ap (λ (l : List Bool). get_or l other.place false) is ∙ set_keeps in_use one.place other.place (sym (unwrap_or-slice_get in_use other.place false) ∙ was_in_use)) in
    let its : IsInUse now one =
    λ within. (
    unwrap_or-slice_get now one.place false ∙ ap (λ (l : List Bool). get_or l one.place false) is ∙ get_or-set_same in_use one.place true false (subst (λ n. one.place < n) same within)) in
    All-more (IsInUse now) all i one below (All-weaker (IsInUse in_use) (IsInUse now) others (take i all) noted) (subst (IsInUse now) there its)
