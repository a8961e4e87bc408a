-- How often the budget was asked in all, from how often each step asked it.
use Rattle.std.proofs.Common.{◌≡◌, ℕ, ◌+◌, Bool, true, false, ◌&&◌, List, [], ◌∷◌, Option, Some, None, refl, sym, ap, subst, ◌∙◌, arith}
use Rattle.std.specs.Prelude.{not, is_none}
use mathlib.Core.Bool.{false≢true}
use Rattle.std.specs.Option.{option_map_or}
use Rattle.std.specs.Prelude.{◌==◌}
use Rattle.persistence.specs.declared.facts.Facts.{Facts}
use Rattle.persistence.specs.Persistent.{is_persistent}
use Rattle.conn_log.specs.declared.entry.Want.{Want}
use Rattle.conn_log.specs.declared.entry.Entry.{Entry}
use Rattle.conn_log.specs.Connections.{holder_want, is_held_by}
use Rattle.conn_log.specs.Waiting.{waiting}
use Rattle.conn_log.specs.Fit.{newest_fit, oldest_too_old}
use Rattle.conn_log.specs.Legal.{LimitAndFirst, IsAnyone}
use Rattle.conn_log.specs.Sound.{held_facts}
use Rattle.host_state.specs.declared.held.Held.{Held}
use Rattle.host_state.specs.State.{facts_of_held}
use Rattle.host_state.specs.Steps.{is_full}
use Rattle.host_state.proofs.TooOld.{none_closed}
use Rattle.host_state.specs.Calls.{Start, is_anyone}
use Rattle.host_state.specs.Effects.{one_if, tidied}
use Rattle.host_state.specs.Asks.{asks_to_open, forbids_for, recorded_forbids, may_stay, keep_asks}
use Rattle.bundle.specs.Seats.{Tables}
use Rattle.bundle.specs.Lease.{HostShown, Leasing, Using, lease_at}
use Rattle.bundle.proofs.Resting.{forbids_as}

-- steps that asked for nothing, before or after the others
module _ {A : Type 0} (asked : A → A → ℕ → ℕ → Type 0) (asked_on : (x y z : A) (opens keeps more_opens more_keeps : ℕ) → asked x y opens keeps → asked y z more_opens more_keeps → asked x z (opens + more_opens) (keeps + more_keeps)) where
  pub then_none : (x y z : A) (opens keeps : ℕ) → asked x y opens keeps → asked y z 0 0 → asked x z opens keeps
  then_none x y z opens keeps first later =
      let same_opens : opens + 0 ≡ opens = omega arith in
      let same_keeps : keeps + 0 ≡ keeps = omega arith in
      subst (λ (n : ℕ). asked x z n keeps) same_opens (subst (asked x z (opens + 0)) same_keeps (asked_on x y z opens keeps 0 0 first later))

  pub none_then : (x y z : A) (opens keeps : ℕ) → asked x y 0 0 → asked y z opens keeps → asked x z opens keeps
  none_then x y z opens keeps first later =
      let same_opens : 0 + opens ≡ opens = omega arith in
      let same_keeps : 0 + keeps ≡ keeps = omega arith in
      subst (λ (n : ℕ). asked x z n keeps) same_opens (subst (asked x z (0 + opens)) same_keeps (asked_on x y z 0 0 opens keeps first later))

-- where it is not due, and where it is
pub not_due : (asked : ℕ → Type 0) (due : Bool) → due ≡ false → asked 0 → asked (one_if due)
not_due asked due never none = subst (λ (b : Bool). asked (one_if b)) (sym never) none

pub is_due : (asked : ℕ → Type 0) (due : Bool) → due ≡ true → asked 1 → asked (one_if due)
is_due asked due here once = subst (λ (b : Bool). asked (one_if b)) (sym here) once

-- an acquire asks for none where others wait, where one fits, and at the host's limit; else it does
others_wait : (wants : List Want) (rest : Bool) → IsAnyone wants → (not (is_anyone wants) && rest) ≡ false
others_wait [] rest never = absurd never
others_wait (head ∷ others) rest anyone = refl

no_but_one : (a b c : Bool) → b ≡ false → (a && (b && c)) ≡ false
no_but_one true b c fits = ap (λ (x : Bool). x && c) fits
no_but_one false b c fits = refl

no_but_last : (a b c : Bool) → c ≡ true → (a && (b && not c)) ≡ false
no_but_last true true c full = ap not full
no_but_last true false c full = refl
no_but_last false b c full = refl

all_three : (a b c : Bool) → a ≡ false → b ≡ true → c ≡ false → (not a && (b && not c)) ≡ true
all_three a b c nobody fits room = ap (λ (x : Bool). not x && (b && not c)) nobody ∙ ap (λ (x : Bool). x && not c) fits ∙ ap not room

module _ (settings : LimitAndFirst) (log : List Entry) (want : Want) (moment : ℕ) where
  pub waits_behind : IsAnyone (waiting log) → asks_to_open settings log want moment ≡ false
  waits_behind anyone = others_wait (waiting log) (is_none {T = ℕ} (newest_fit (tidied want moment log) want moment) && not (is_full settings (tidied want moment log))) anyone

  module _ (young : List Entry) (tidy : young ≡ tidied want moment log) where
    pub one_fits : (c : ℕ) → newest_fit young want moment ≡ Some c → asks_to_open settings log want moment ≡ false
    one_fits c fit = no_but_one (not (is_anyone (waiting log))) (is_none {T = ℕ} (newest_fit (tidied want moment log) want moment)) (not (is_full settings (tidied want moment log))) (ap (λ (l : List Entry). is_none {T = ℕ} (newest_fit l want moment)) (sym tidy) ∙ ap (λ (found : Option ℕ). is_none {T = ℕ} found) fit)

    pub at_limit : is_full settings young ≡ true → asks_to_open settings log want moment ≡ false
    at_limit full = no_but_last (not (is_anyone (waiting log))) (is_none {T = ℕ} (newest_fit (tidied want moment log) want moment)) (is_full settings (tidied want moment log)) (ap (is_full settings) (sym tidy) ∙ full)

    pub has_room : waiting log ≡ [] → newest_fit young want moment ≡ None → is_full settings young ≡ false → asks_to_open settings log want moment ≡ true
    has_room nobody fit room = all_three (is_anyone (waiting log)) (is_none {T = ℕ} (newest_fit (tidied want moment log) want moment)) (is_full settings (tidied want moment log)) (ap is_anyone nobody) (ap (λ (l : List Entry). is_none {T = ℕ} (newest_fit l want moment)) (sym tidy) ∙ ap (λ (found : Option ℕ). is_none {T = ℕ} found) fit) (ap (is_full settings) (sym tidy) ∙ room)

  -- nothing is too old, so that the newest that fits is leased at once
  pub leased_at_once : (c : ℕ) → oldest_too_old log want moment ≡ None → newest_fit log want moment ≡ Some c → asks_to_open settings log want moment ≡ false
  leased_at_once c none fit = one_fits log (sym (none_closed want moment log none)) c fit

-- the want that the log shows for what the transfer holds
by_holder : (held : Option Want) (transfer : ℕ) (forbids : Bool) → option_map_or (λ (want : Want). want.transfer == transfer) held false ≡ true → option_map_or (λ (want : Want). want.forbid_reuse) held false ≡ forbids → forbids_for transfer held ≡ forbids
by_holder None transfer forbids never is = absurd (false≢true never)
by_holder (Some want) transfer forbids mine is = ap (λ (b : Bool). b && want.forbid_reuse) mine ∙ is

by_nobody : (held : Option Want) (transfer : ℕ) → option_map_or (λ (want : Want). want.transfer == transfer) held false ≡ false → forbids_for transfer held ≡ false
by_nobody None transfer not_mine = not_mine
by_nobody (Some want) transfer not_mine = ap (λ (b : Bool). b && want.forbid_reuse) not_mine

pub recorded_as : (log : List Entry) (transfer c : ℕ) (kept : Held) → kept.number ≡ c → held_facts log transfer ≡ Some (facts_of_held kept) → is_held_by log transfer c ≡ true → recorded_forbids log transfer c ≡ kept.forbids_reuse
recorded_as log transfer c kept number is mine = by_holder (holder_want log c) transfer kept.forbids_reuse mine (ap (λ (k : ℕ). option_map_or (λ (want : Want). want.forbid_reuse) (holder_want log k) false) (sym number) ∙ forbids_as log transfer kept is)

pub not_recorded : (log : List Entry) (transfer c : ℕ) → is_held_by log transfer c ≡ false → recorded_forbids log transfer c ≡ false
not_recorded log transfer c not_mine = by_nobody (holder_want log c) transfer not_mine

-- what would stay open by the recorded want may stay
allowed : (persists own recorded forbids : Bool) → recorded ≡ forbids → (persists && not forbids) ≡ true → (persists && not (own && recorded)) ≡ true
allowed true true recorded forbids same stays = ap not same ∙ stays
allowed true false recorded forbids same stays = refl
allowed false own recorded forbids same stays = stays

pub would_stay : (log : List Entry) (start : Start) (facts : Facts) (forbids : Bool) → recorded_forbids log start.want.transfer start.number ≡ forbids → (is_persistent facts && not forbids) ≡ true → may_stay log start facts ≡ true
would_stay log start facts forbids same stays = allowed (is_persistent facts) start.want.forbid_reuse (recorded_forbids log start.want.transfer start.number) forbids same stays

-- a lease that is taken apart asks as often, and so does a host by what it shows
pub same_asks : {S : Type 0} (old : HostShown S) (log : List Entry) (lease : Leasing S) (tables : Tables) (used : Using S) (facts : Facts) → log ≡ old.log → lease ≡ lease_at tables used → keep_asks log used.start facts ≡ keep_asks old.log lease.start facts
same_asks {S} old log lease tables used facts shown apart =
    ap (λ (l : Leasing S). keep_asks log l.start facts) (sym apart) ∙ ap (λ (entries : List Entry). keep_asks entries lease.start facts) shown
