-- What a step adds keeps a log sound.
use Rattle.std.proofs.Common.{◌≡◌, ℕ, ◌+◌, ◌<◌, ◌≤◌, Bool, true, false, not, ◌&&◌, List, [], ◌∷◌, length, Some, None, is_some, refl, sym, ap, subst, ◌∙◌, arith}
use Rattle.std.specs.Prelude.{if◌then◌else◌}
use mathlib.Core.Bool.{false≢true}
use Rattle.persistence.specs.declared.facts.Facts.{Facts}
use Rattle.conn_log.specs.declared.entry.Want.{Want}
use Rattle.conn_log.specs.declared.entry.Cause.{Cause}
use Rattle.conn_log.specs.declared.entry.Cause.TheVariants.{NotPersistent, Cut, Forbidden, TooOld, HostRoom, TotalRoom, CacheFull, Dropped, Withdrawn, Pruned}
use Rattle.conn_log.specs.declared.entry.Event.TheVariants.{Opened, Leased, Returned, Closed, Waited, Left, Limit}
use Rattle.conn_log.specs.declared.entry.Entry.{Entry}
use Rattle.conn_log.specs.Connections.{holdings, held_number, is_among, last_moment, opened, greatest, open_connections, holder_want, holds, idle_connections, is_idle}
use Rattle.conn_log.specs.Waiting.{waiting, waits}
use Rattle.conn_log.specs.Fit.{is_fit, suits}
use Rattle.conn_log.specs.Legal.{LimitAndFirst, limit_in_force, ends_use, ending_cause, owed, MayStartAmong, MayStart, IsQuiet, IsAnyone, MayClose}
use Rattle.conn_log.specs.Sound.{IsOrderly, IsSound, IsNextAmong, IsNext, is_of_holder, is_of_idle}
use Rattle.conn_log.proofs.Numbers.{le-greatest}
use Rattle.conn_log.proofs.Holdings.{among_has_number}
use Rattle.conn_log.proofs.Steps.{idle_open_unheld, gone_closed, gone_ended, orderly_open, orderly_lease, orderly_return, orderly_gone, orderly_wait, orderly_leave, orderly_limit}
use Rattle.conn_log.proofs.Queues.{is_waiting, first_waits}

pub and_left : (a b : Bool) → (a && b) ≡ true → a ≡ true
and_left true b both = refl
and_left false b both = both

pub and_right : (a b : Bool) → (a && b) ≡ true → b ≡ true
and_right true b both = both
and_right false b both = absurd (false≢true both)

-- the cause of an ended use is one that the owed close allows
pub ended_close : (whole forbids : Bool) (before : List Entry) (c : ℕ) → owed before ≡ Some (c, if not whole then Cut else (if forbids then Forbidden else NotPersistent)) → MayClose before c (if not whole then Cut else (if forbids then Forbidden else NotPersistent))
ended_close true true before c owes = owes
ended_close true false before c owes = owes
ended_close false forbids before c owes = owes

-- what the causes ask of a connection
holder_may_close : (log : List Entry) (c : ℕ) (cause : Cause) → is_of_holder cause ≡ true → owed log ≡ None → is_some (holder_want log c) ≡ true → MayClose log c cause
holder_may_close log c Dropped fits settled held = (settled, held)
holder_may_close log c Withdrawn fits settled held = (settled, held)
holder_may_close log c NotPersistent fits settled held = absurd (false≢true fits)
holder_may_close log c Cut fits settled held = absurd (false≢true fits)
holder_may_close log c Forbidden fits settled held = absurd (false≢true fits)
holder_may_close log c TooOld fits settled held = absurd (false≢true fits)
holder_may_close log c HostRoom fits settled held = absurd (false≢true fits)
holder_may_close log c TotalRoom fits settled held = absurd (false≢true fits)
holder_may_close log c CacheFull fits settled held = absurd (false≢true fits)
holder_may_close log c Pruned fits settled held = absurd (false≢true fits)

pub idle_may_close : (log : List Entry) (c : ℕ) (cause : Cause) → is_of_idle cause ≡ true → owed log ≡ None → is_idle log c ≡ true → MayClose log c cause
idle_may_close log c Dropped fits settled idle = absurd (false≢true fits)
idle_may_close log c Withdrawn fits settled idle = absurd (false≢true fits)
idle_may_close log c NotPersistent fits settled idle = absurd (false≢true fits)
idle_may_close log c Cut fits settled idle = absurd (false≢true fits)
idle_may_close log c Forbidden fits settled idle = absurd (false≢true fits)
idle_may_close log c TooOld fits settled idle = (settled, idle)
idle_may_close log c HostRoom fits settled idle = (settled, idle)
idle_may_close log c TotalRoom fits settled idle = (settled, idle)
idle_may_close log c CacheFull fits settled idle = (settled, idle)
idle_may_close log c Pruned fits settled idle = (settled, idle)

module _ (settings : LimitAndFirst) (log : List Entry) (orderly : IsOrderly settings log) where
  -- a transfer holds where it has a number
  pub holds_is : (transfer : ℕ) → holds log transfer ≡ is_some (held_number log transfer)
  holds_is transfer = among_has_number transfer (holdings log)

  -- the next to start holds nothing, and may start
  pub next_free : (want : Want) → IsNext log want → held_number log want.transfer ≡ None
  next_free want next = among (waiting log) refl next
    where
      among : (wants : List Want) → waiting log ≡ wants → IsNextAmong wants (held_number log want.transfer) want → held_number log want.transfer ≡ None
      among [] is free = free
      among (head ∷ wants) is first =
          orderly.waiting_free want.transfer (ap (λ ws. is_waiting ws want.transfer) is ∙ subst (λ (w : Want). is_waiting (head ∷ wants) w.transfer ≡ true) (sym first) (first_waits head wants))

  pub may_start : (want : Want) → IsNext log want → MayStart log want
  may_start want next = among (waiting log) next
    where
      among : (wants : List Want) → IsNextAmong wants (held_number log want.transfer) want → MayStartAmong wants (holds log want.transfer) want
      among [] free = holds_is want.transfer ∙ ap is_some free
      among (head ∷ wants) first = first

  -- where nobody waits it is quiet if no close is owed
  pub quiet : waiting log ≡ [] → owed log ≡ None → IsQuiet settings false log
  quiet nobody settled = record {
    none_idle = λ anyone. absurd (subst IsAnyone nobody anyone);
    no_room = λ anyone. absurd (subst IsAnyone nobody anyone);
    queued_for = λ never. absurd (false≢true never);
    settled = settled;
  }

  pub next_is_new : (c : ℕ) → c ≡ greatest settings.first (opened log) + 1 → is_among c (opened log) ≡ false
  next_is_new c next = elim (is_among c (opened log)) as (λ b. is_among c (opened log) ≡ b → b ≡ false) [
    | true ↦ λ among. absurd (omega (arith, next, le-greatest settings.first c (opened log) among))
    | false ↦ λ among. refl
  ] refl

module _ (settings : LimitAndFirst) (log : List Entry) (sound : IsSound settings log) (moment : ℕ) (later : last_moment log ≤ moment) where
  pub sound_open : (c : ℕ) (want : Want) → c ≡ greatest settings.first (opened log) + 1 → length (open_connections log) < limit_in_force settings log → IsNext log want → IsSound settings (record { moment = moment; event = Opened c want } ∷ log)
  sound_open c want next room first = record {
    legal = (later, (sound.settled, record { next = next; room = room; start = may_start settings log sound.orderly want first }), sound.legal);
    settled = refl;
    orderly = orderly_open settings log sound.orderly moment c want (next_is_new settings log sound.orderly c next) (next_free settings log sound.orderly want first) room;
  }

  pub sound_lease : (c : ℕ) (want : Want) → is_fit log want moment c ≡ true → IsNext log want → IsSound settings (record { moment = moment; event = Leased c want } ∷ log)
  sound_lease c want fit first = record {
    legal = (later, (sound.settled, record { fit = fit; start = may_start settings log sound.orderly want first }), sound.legal);
    settled = refl;
    orderly = orderly_lease settings log sound.orderly moment c want (and_left (is_idle log c) (suits log want moment c) fit) (next_free settings log sound.orderly want first);
  }

  pub sound_return : (c : ℕ) (facts : Facts) (want : Want) → holder_want log c ≡ Some want → ends_use facts want ≡ false → IsSound settings (record { moment = moment; event = Returned c facts } ∷ log)
  sound_return c facts want held stays = record {
    legal = (later, (sound.settled, rw held refl), sound.legal);
    settled = rw (held, stays) refl;
    orderly = orderly_return settings log sound.orderly moment c facts (grind (arith, stays));
  }

  pub sound_end : (c : ℕ) (facts : Facts) (want : Want) → holder_want log c ≡ Some want → ends_use facts want ≡ true → IsSound settings (record { moment = moment; event = Closed c (ending_cause facts want) } ∷ record { moment = moment; event = Returned c facts } ∷ log)
  sound_end c facts want held ends = record {
    legal = (omega arith, ended_close facts.whole want.forbid_reuse (record { moment = moment; event = Returned c facts } ∷ log) c (rw (held, ends) refl), (later, (sound.settled, rw held refl), sound.legal));
    settled = refl;
    orderly = orderly_gone settings log sound.orderly c _ (gone_ended moment c facts (ending_cause facts want) log) (sound.orderly.held_open c (rw held refl));
  }

  -- what a transfer holds is closed, for a cause that is for holders
  pub sound_drop : (c : ℕ) (cause : Cause) → is_of_holder cause ≡ true → is_some (holder_want log c) ≡ true → IsSound settings (record { moment = moment; event = Closed c cause } ∷ log)
  sound_drop c cause fits held = record {
    legal = (later, holder_may_close log c cause fits sound.settled held, sound.legal);
    settled = refl;
    orderly = orderly_gone settings log sound.orderly c _ (gone_closed moment c cause log) (sound.orderly.held_open c held);
  }

  -- a transfer that neither holds nor waits begins to wait, where nothing is idle
  pub sound_wait : (want : Want) → held_number log want.transfer ≡ None → waits log want.transfer ≡ false → idle_connections log ≡ [] → IsSound settings (record { moment = moment; event = Waited want } ∷ log)
  sound_wait want free new none_idle = record {
    legal = (later, (sound.settled, record { holds_nothing = holds_is settings log sound.orderly want.transfer ∙ ap is_some free; waits_not = new; none_idle = none_idle }), sound.legal);
    settled = refl;
    orderly = orderly_wait settings log sound.orderly moment want free new;
  }

  -- a transfer that waits leaves
  pub sound_leave : (transfer : ℕ) → waits log transfer ≡ true → IsSound settings (record { moment = moment; event = Left transfer } ∷ log)
  sound_leave transfer there = record {
    legal = (later, (sound.settled, there), sound.legal);
    settled = refl;
    orderly = orderly_leave settings log sound.orderly moment transfer;
  }

  -- the host's limit changes to one that what is open keeps
  pub sound_limit : (n : ℕ) → length (open_connections log) ≤ n → IsSound settings (record { moment = moment; event = Limit n } ∷ log)
  sound_limit n within = record {
    legal = (later, (sound.settled, within), sound.legal);
    settled = refl;
    orderly = orderly_limit settings log sound.orderly moment n within;
  }

  -- an idle one is closed, for a cause that is for idle ones
  pub sound_close : (c : ℕ) (cause : Cause) → MayClose log c cause → is_idle log c ≡ true → IsSound settings (record { moment = moment; event = Closed c cause } ∷ log)
  sound_close c cause allowed idle = record {
    legal = (later, allowed, sound.legal);
    settled = refl;
    orderly = let open_unheld = idle_open_unheld log c idle in orderly_gone settings log sound.orderly c _ (gone_closed moment c cause log) open_unheld.0;
  }

-- the empty log
pub sound_empty : (settings : LimitAndFirst) → IsSound settings []
sound_empty settings = record {
  legal = tt;
  settled = refl;
  orderly = record {
    distinct = tt;
    closed_opened = λ c closed. absurd (false≢true closed);
    held_open = λ c held. absurd (false≢true held);
    connections_once = tt;
    transfers_once = tt;
    held_once = λ c transfer. refl;
    idle_persists = λ c idle. absurd (false≢true idle);
    within = omega arith;
    wait_once = tt;
    waiting_free = λ transfer waits. absurd (false≢true waits);
  };
}
