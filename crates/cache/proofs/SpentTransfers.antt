-- Whoever gives back, abandons or withdraws has nothing after that.
use Rattle.std.proofs.Common.{◌≡◌, ℕ, ◌<◌, Bool, true, false, ◌==◌, ◌||◌, List, [], ◌∷◌, length, slice_set, Option, Some, None, refl, sym, ap, subst, ◌∙◌, inl, inr, eq-eqb, arith}
use Rattle.std.specs.Prelude.{if◌then◌else◌}
use Rattle.std.specs.List.{list_any}
use Rattle.std.proofs.lemmas.Bool.Decides.{eqb_tells}
use Rattle.std.proofs.lemmas.List.{length-set}
use Rattle.persistence.specs.declared.facts.Facts.{Facts}
use Rattle.budget.specs.Limits.{Bounds, AreLimits}
use Rattle.conn_log.specs.declared.entry.Want.{Want}
use Rattle.conn_log.specs.declared.entry.Cause.{Cause}
use Rattle.conn_log.specs.declared.entry.Cause.TheVariants.{CacheFull, Dropped, Withdrawn}
use Rattle.conn_log.specs.declared.entry.Event.TheVariants.{Opened, Leased, Returned, Closed, Left}
use Rattle.conn_log.specs.declared.entry.Entry.{Entry}
use Rattle.conn_log.specs.Connections.{held_number}
use Rattle.conn_log.specs.Waiting.{waiting, waits, without}
use Rattle.conn_log.specs.Fit.{is_fit}
use Rattle.conn_log.specs.Legal.{LimitAndFirst, ends_use, ending_cause}
use Rattle.conn_log.specs.Sound.{IsSound}
use Rattle.conn_log.proofs.Holdings.{unless_it_is, number_closed, number_returned}
use Rattle.host_state.specs.Steps.{moment_at, add, next_number}
use Rattle.host_state.specs.Calls.{becomes_idle, start_new, open_for, open_for_head, unfit_cause, grant_to, settle, after_give_back, after_close, close_granted, after_withdraw}
use Rattle.host_state.proofs.Soundness.{held_want}
use Rattle.host_state.proofs.EndsOfUses.{holder_waits_not}
use Rattle.host_state.proofs.Transfers.{freed_ended}
use Rattle.cache.specs.AllHosts.{AllHosts, log_at, terms, served, IsLawful}
use Rattle.cache.specs.Calls.{with_room_to_keep, after_giving_back, after_abandoning, after_withdrawing}
use Rattle.cache.specs.Laws.{HasNothing, OnlyServed}
use Rattle.cache.proofs.Lawfulness.{log_changed}
use Rattle.cache.proofs.Evictions.{still_held}
use Rattle.cache.proofs.Spends.{keeps_room, given_back_lawful, abandoned_lawful, withdrawn_lawful}
use Rattle.cache.proofs.Servings.{none_of_fewer, serving_only_serves}

-- who has nothing has nothing where a host is only served
nothing_served : (old new : List Entry) (transfer : ℕ) → OnlyServed old new → HasNothing old transfer → HasNothing new transfer
nothing_served old new transfer served nothing = record {
  held = served.nobody_else transfer nothing.held nothing.waits_not;
  waits_not = ap (list_any (λ (want : Want). want.transfer == transfer)) served.others_wait ∙ none_of_fewer (λ (want : Want). want.transfer == transfer) served.number (waiting old) nothing.waits_not;
}

-- nor where the first that waits starts
none_without : (transfer other : ℕ) (wants : List Want) → list_any (λ (want : Want). want.transfer == transfer) wants ≡ false → list_any (λ (want : Want). want.transfer == transfer) (without other wants) ≡ false
none_without transfer other [] none = refl
none_without transfer other (want ∷ wants) none = elim (eqb_tells want.transfer other) [
  | inl same ↦ rw same.0 (none_without transfer other wants (rest_of (want.transfer == transfer) _ none))
  | inr apart ↦ rw apart.0 (both_of (want.transfer == transfer) _ _ none (none_without transfer other wants))
]
  where
    rest_of : (a b : Bool) → (a || b) ≡ false → b ≡ false
    rest_of true b never = absurd (cc)
    rest_of false b is = is

    both_of : (a b c : Bool) → (a || b) ≡ false → (b ≡ false → c ≡ false) → (a || c) ≡ false
    both_of true b c never next = absurd (cc)
    both_of false b c is next = next is

module _ (moment transfer : ℕ) (log : List Entry) (nothing : HasNothing log transfer) (head : Want) (others : List Want) (is : waiting log ≡ head ∷ others) where
  another : (head.transfer == transfer) ≡ false
  another = first_not (head.transfer == transfer) _ (sym (ap (list_any (λ (want : Want). want.transfer == transfer)) is) ∙ nothing.waits_not)
    where
      first_not : (a b : Bool) → (a || b) ≡ false → a ≡ false
      first_not true b never = absurd (cc)
      first_not false b none = refl

  pub nothing_opened : (c : ℕ) → HasNothing (add moment (Opened c head) log) transfer
  nothing_opened c = record { held = rw another nothing.held; waits_not = none_without transfer head.transfer (waiting log) nothing.waits_not }

  pub nothing_leased : (c : ℕ) → HasNothing (add moment (Leased c head) log) transfer
  nothing_leased c = record { held = rw another nothing.held; waits_not = none_without transfer head.transfer (waiting log) nothing.waits_not }

nothing_for_head : (settings : LimitAndFirst) (moment transfer : ℕ) (log : List Entry) → HasNothing log transfer → HasNothing (open_for_head settings moment log) transfer
nothing_for_head settings moment transfer log nothing = by_queue (waiting log) refl
  where
    by_queue : (wants : List Want) → waiting log ≡ wants → HasNothing (open_for settings moment log wants) transfer
    by_queue [] is = nothing
    by_queue (head ∷ others) is = nothing_opened moment transfer log nothing head others is (next_number settings log)

-- once what it held is gone
gone_number : (transfer c : ℕ) (held : Option ℕ) → held ≡ Some c → unless_it_is c held ≡ None
gone_number transfer c held is = ap (unless_it_is c) is ∙ rw (eq-eqb c c refl) refl

module _ (settings : LimitAndFirst) (log : List Entry) (sound : IsSound settings log) (transfer c : ℕ) (held : held_number log transfer ≡ Some c) where
  nothing_closed : (moment : ℕ) (cause : Cause) → HasNothing (add moment (Closed c cause) log) transfer
  nothing_closed moment cause = record {
    held = number_closed moment c cause log transfer sound.orderly.transfers_once ∙ gone_number transfer c (held_number log transfer) held;
    waits_not = holder_waits_not settings log sound transfer c held;
  }

  nothing_returned : (moment : ℕ) (facts : Facts) → HasNothing (add moment (Returned c facts) log) transfer
  nothing_returned moment facts = record {
    held = number_returned moment c facts log transfer sound.orderly.transfers_once ∙ gone_number transfer c (held_number log transfer) held;
    waits_not = holder_waits_not settings log sound transfer c held;
  }

  nothing_ended : (moment : ℕ) (facts : Facts) (cause : Cause) → HasNothing (add moment (Closed c cause) (add moment (Returned c facts) log)) transfer
  nothing_ended moment facts cause = record {
    held = (freed_ended moment c facts cause log sound.orderly.transfers_once).taken transfer ∙ gone_number transfer c (held_number log transfer) held;
    waits_not = holder_waits_not settings log sound transfer c held;
  }

  pub nothing_after_close : (cause : Cause) (now : ℕ) → HasNothing (after_close settings log c cause now) transfer
  nothing_after_close cause now = let m = moment_at log now in nothing_for_head settings m transfer (add m (Closed c cause) log) (nothing_closed m cause)

  nothing_granted : (moment : ℕ) (facts : Facts) (wants : List Want) → waiting log ≡ wants → HasNothing (grant_to settings c moment (add moment (Returned c facts) log) wants) transfer
  nothing_granted moment facts [] is = nothing_returned moment facts
  nothing_granted moment facts (head ∷ others) is = by_fit (is_fit (add moment (Returned c facts) log) head moment c)
    where
      by_fit : (fit : Bool) → (let back = add moment (Returned c facts) log in HasNothing (if fit then add moment (Leased c head) back else start_new settings head moment (add moment (Closed c (unfit_cause settings back head moment c)) back)) transfer)
      by_fit true = nothing_leased moment transfer (add moment (Returned c facts) log) (nothing_returned moment facts) head others is c
      by_fit false =
          let back = add moment (Returned c facts) log in
          let closed = add moment (Closed c (unfit_cause settings back head moment c)) back in
          nothing_opened moment transfer closed (nothing_ended moment facts (unfit_cause settings back head moment c)) head others is (next_number settings closed)

  pub nothing_after_give_back : (facts : Facts) (now : ℕ) → HasNothing (after_give_back settings log c facts now) transfer
  nothing_after_give_back facts now =
      let w = held_want settings log sound transfer c held in
      rw w.1 (by_end (moment_at log now) w.0 (ends_use facts w.0))
    where
      by_end : (moment : ℕ) (want : Want) (ends : Bool) → HasNothing (settle settings c moment (add moment (Returned c facts) log) (if ends then Some (c, ending_cause facts want) else None)) transfer
      by_end moment want true = nothing_for_head settings moment transfer _ (nothing_ended moment facts (ending_cause facts want))
      by_end moment want false = nothing_granted moment facts (waiting log) refl

-- a ticket is withdrawn
none_of_it : (transfer : ℕ) (wants : List Want) → list_any (λ (want : Want). want.transfer == transfer) (without transfer wants) ≡ false
none_of_it transfer [] = refl
none_of_it transfer (want ∷ wants) = elim (eqb_tells want.transfer transfer) [
  | inl same ↦ rw same.0 (none_of_it transfer wants)
  | inr apart ↦ rw apart.0 (rw apart.0 (none_of_it transfer wants))
]

pub nothing_after_withdraw : (settings : LimitAndFirst) (log : List Entry) → IsSound settings log → (transfer now : ℕ) → HasNothing (after_withdraw settings log transfer now) transfer
nothing_after_withdraw settings log sound transfer now = by_wait (waits log transfer) refl
  where
    by_held : (held : Option ℕ) → waits log transfer ≡ false → held_number log transfer ≡ held → HasNothing (close_granted settings log held now) transfer
    by_held None out none = record { held = none; waits_not = out }
    by_held (Some c) out is = nothing_after_close settings log sound transfer c is Withdrawn now

    by_wait : (there : Bool) → waits log transfer ≡ there → HasNothing (if there then add (moment_at log now) (Left transfer) log else close_granted settings log (held_number log transfer) now) transfer
    by_wait true is = record { held = sound.orderly.waiting_free transfer is; waits_not = none_of_it transfer (waiting log) }
    by_wait false is = by_held (held_number log transfer) is refl

-- and turns give it nothing
turns_leave : (limits : Bounds) (all : AllHosts) (host transfer now : ℕ) (new : List Entry) (queue : List ℕ) → host < length all.logs → IsLawful limits record { logs = slice_set all.logs host new; queue = queue } → HasNothing new transfer
    → HasNothing (log_at (served limits now record { logs = slice_set all.logs host new; queue = queue }) host) transfer
turns_leave limits all host transfer now new queue there lawful nothing =
    let later : AllHosts = record { logs = slice_set all.logs host new; queue = queue } in
    let still : host < length later.logs = omega (arith, there, length-set all.logs host new) in
    nothing_served (log_at later host) (log_at (served limits now later) host) transfer ((serving_only_serves limits later now lawful).each host still)
    (subst (λ (log : List Entry). HasNothing log transfer) (sym (log_changed all.logs host new there)) nothing)

pub give_back_leaves_nothing : (limits : Bounds) (host transfer c : ℕ) (facts : Facts) (now : ℕ) (all : AllHosts) → AreLimits limits → IsLawful limits all → host < length all.logs → held_number (log_at all host) transfer ≡ Some c → HasNothing (log_at (after_giving_back limits host c facts now all) host) transfer
give_back_leaves_nothing limits host transfer c facts now all some lawful there held =
    let settings = terms limits in
    let roomy = with_room_to_keep limits host c facts now all in
    let keeps = keeps_room limits now all some lawful (becomes_idle (log_at all host) c facts now) in
    let there_still : host < length roomy.logs = omega (arith, there, keeps.lost.count) in
    let still = still_held CacheFull now settings (log_at all host) (log_at roomy host) (lawful.settled host there).sound (keeps.lost.each host) transfer ∙ held in
    turns_leave limits roomy host transfer now _ _ there_still (given_back_lawful limits host transfer c facts now all some lawful there held)
    (nothing_after_give_back settings (log_at roomy host) (keeps.lost.lawful.settled host there_still).sound transfer c still facts now)

pub abandon_leaves_nothing : (limits : Bounds) (host transfer c now : ℕ) (all : AllHosts) → IsLawful limits all → host < length all.logs → held_number (log_at all host) transfer ≡ Some c → HasNothing (log_at (after_abandoning limits host c now all) host) transfer
abandon_leaves_nothing limits host transfer c now all lawful there held =
    turns_leave limits all host transfer now _ _ there (abandoned_lawful limits host transfer c now all lawful there held) (nothing_after_close (terms limits) (log_at all host) (lawful.settled host there).sound transfer c held Dropped now)

pub withdraw_leaves_nothing : (limits : Bounds) (host transfer now : ℕ) (all : AllHosts) → IsLawful limits all → host < length all.logs → HasNothing (log_at (after_withdrawing limits host transfer now all) host) transfer
withdraw_leaves_nothing limits host transfer now all lawful there =
    turns_leave limits all host transfer now _ _ there (withdrawn_lawful limits host transfer now all lawful there) (nothing_after_withdraw (terms limits) (log_at all host) (lawful.settled host there).sound transfer now)
