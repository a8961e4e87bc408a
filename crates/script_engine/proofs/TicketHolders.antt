-- Each command leaves tickets to those that wait or have yet to claim, so the tickets after a script stand.
use Rattle.std.proofs.Common.{◌≡◌, ◌≢◌, ℕ, zero, suc, ◌<◌, Bool, true, false, not, cond, ◌||◌, ◌&&◌, ◌-◌, min, List, [], ◌∷◌, Option, Some, None, Result, Ok, Err, is_some, refl, ap, sym, subst, ◌∙◌, inl, inr, arith}
use Rattle.std.specs.Prelude.{◌==◌, nat_lt, if◌then◌else◌, length, replicate, slice_index_or, slice_set}
use Rattle.std.proofs.lemmas.Bool.{eqb-true}
use Rattle.std.proofs.lemmas.Bool.Decides.{eqb_tells}
use Rattle.std.proofs.lemmas.List.{get_or-set_same, get_or-set_other, length-set, length-replicate}
use Rattle.persistence.specs.declared.facts.Facts.{Facts}
use Rattle.conn_log.specs.declared.entry.Want.{Want}
use Rattle.conn_log.specs.declared.entry.Entry.{Entry}
use Rattle.conn_log.specs.declared.entry.Cause.TheVariants.{TotalRoom, CacheFull}
use Rattle.conn_log.specs.Connections.{is_among, held_number}
use Rattle.conn_log.specs.Waiting.{waiting, waits}
use Rattle.conn_log.specs.Fit.{is_too_old_in_lane}
use Rattle.conn_log.specs.Sound.{AreDistinct}
use Rattle.budget.specs.Limits.{Bounds, AreLimits}
use Rattle.budget.specs.declared.refusal.Refusal.{Refusal}
use Rattle.host_state.specs.declared.closing.Closing.TheVariants.{TooOld}
use Rattle.host_state.specs.Steps.{moment_at, cause_of, picked}
use Rattle.host_state.specs.Calls.{refusal, limit_refusal, is_busy, is_queued, starts_due, kept_limit, Start, Reply, starts, waits_on, no_room, again, becomes_idle, after_give_back, after_abandon, after_withdraw, after_limit, acquired as acquired_at}
use Rattle.host_state.specs.Effects.{tidied, asks_for_one}
use Rattle.host_state.proofs.Soundness.{later, passing_idle, closes_idle}
use Rattle.host_state.proofs.Transfers.{told, Told, awaited_waits}
use Rattle.host_state.proofs.Outcomes.{comes_to, ComesTo, Starts, Waits}
use Rattle.cache.specs.AllHosts.{AllHosts, log_at, terms, total, has_room, without_oldest, served, IsLawful}
use Rattle.cache.specs.Calls.{with_tidied, with_room_for, told_of_total, after_acquire, reply_of, with_room_to_keep, after_giving_back}
use Rattle.cache.specs.Laws.{HasNothing, AnswersWant, AcquireStartsOrWaits, AllOnlyServed, OthersOnlyServed, ServingOnlyServes, AcquireOnlyServesOthers, GiveBackOnlyServesOthers, AbandonOnlyServesOthers, WithdrawOnlyServesOthers, LimitOnlyServesOthers, PruneOnlyServes}
use Rattle.cache.proofs.Lawfulness.{log_changed}
use Rattle.cache.proofs.Evictions.{may_lose, still_held}
use Rattle.cache.proofs.Acquires.{comes_free, tidied_all, ready_all, acquired_lawful}
use Rattle.cache.proofs.Spends.{keeps_room, given_back_lawful, abandoned_lawful, withdrawn_lawful}
use Rattle.cache.proofs.PrunesAndLimits.{limited_lawful}
use Rattle.cache.proofs.Servings.{all_as_they_were, lost_served, others_served}
use Rattle.conn_key.specs.declared.site.Site.{Site}
use Rattle.conn_key.specs.Sites.{with_site}
use Rattle.streams.specs.Lines.{lines}
use Rattle.script_text.specs.Grammar.{reading}
use Rattle.script_text.specs.Site.{site_named}
use Rattle.script_engine.specs.Meaning.{ScriptHosts, AtSite, at_site, with_site_as, new_hosts, Answer, Run, start, begun, step, bounds_given, facts_of_ending, with_ticket, without_ticket, claimed_number, tickets_with, stranger, grown, get_at, get_unless, claim_at, claim_of, back_at, back_of, drop_at, drop_of, leave_at, after_leaving, limit_at, limit_unless, look_at, act_at, at_no_host, put_back_at, answer_of, prune_all, upkeep_all, with_limits, add_site, is_one_too_many, with_url, with_answer, are_good}
use Rattle.script_engine.specs.Transcript.{line_step, line_step_of, LONGEST_SCRIPT}
use Rattle.script_engine.specs.Law.{run_after, after_line, run_behind, is_served, TicketsStand, EveryTicketStands}
use Rattle.script_text.specs.declared.command.Limits.{Limits}
use Rattle.script_text.specs.declared.command.Action.{Action}
use Rattle.script_text.specs.declared.command.Action.TheVariants as actions
use Rattle.script_text.specs.declared.command.Command.{Command}
use Rattle.script_text.specs.declared.command.Command.TheVariants as commands
use Rattle.script_text.specs.declared.command.HostCommand.TheVariants as asks
use Rattle.script_text.specs.declared.command.Ending.{Ending}
use Rattle.script_text.specs.declared.fault.FaultKind.{FaultKind}
use Rattle.script_text.specs.declared.fault.FaultKind.TheVariants.{Place, BadLimits, TooManySites}
use Rattle.script_engine.proofs.Lawfulness.{CallsKeep, Rests, RestUnder, RestRun, RestStep, accepted_idle, held_where_leased, is_there, none_yet, rest_begun, rest_line, past_the_last}
use Rattle.script_engine.proofs.Holdings.{Serves, Moves, Leaves, still, serves_same, serves_only, abandoned, given-back, withdrawn, limited_serves}
use Rattle.script_engine.proofs.TicketLists.{no-both, among-with, among-less, among-other, among-own, distinct-with, distinct-without}

-- whom the calls serve
pub record CallsServe : Type 0 where
  pub reply : AcquireStartsOrWaits
  pub serving : ServingOnlyServes
  pub acquire : AcquireOnlyServesOthers
  pub give_back : GiveBackOnlyServesOthers
  pub abandon : AbandonOnlyServesOthers
  pub withdraw : WithdrawOnlyServesOthers
  pub limit : LimitOnlyServesOthers
  pub prune : PruneOnlyServes

-- the tickets of a log stand, and each transfer has one at most
record Fits (log : List Entry) (tickets : List ℕ) : Type 0 where
  ticketed : (u : ℕ) → waits log u ≡ true → is_among u tickets ≡ true
  served : (u : ℕ) → is_among u tickets ≡ true → is_served log u ≡ true
  distinct : AreDistinct tickets

no_tickets : (let nothing : List Entry = [] in Fits nothing [])
no_tickets = record { ticketed = λ u w. w; served = λ u among. absurd (cc); distinct = tt }

unlike : (t u : ℕ) → (t ≡ u → ⊥) → (t == u) ≡ false
unlike t u never = by_test (t == u) refl
  where
    by_test : (same : Bool) → (t == u) ≡ same → same ≡ false
    by_test true is = absurd (never (eqb-true t u is))
    by_test false is = refl

-- where transfers are only served
kept_fit : (log new : List Entry) (tickets : List ℕ) → Serves log new → Fits log tickets → Fits new tickets
kept_fit log new tickets serves fits = record {
  ticketed = λ u w. fits.ticketed u (serves.waits_less u w);
  served = λ u among. serves.keeps u (fits.served u among);
  distinct = fits.distinct;
}

-- a transfer without a ticket gave back or abandoned
moved : (t : ℕ) (log new : List Entry) (tickets : List ℕ) → Moves t log new → is_among t tickets ≡ false → Fits log tickets → Fits new tickets
moved t log new tickets moves none fits = record {
  ticketed = λ u w. fits.ticketed u (moves.waits_less u w);
  served = λ u among. moves.keeps u (unlike t u (λ same. no-both (is_among u tickets) among (ap (λ (k : ℕ). is_among k tickets) (sym same) ∙ none))) (fits.served u among);
  distinct = fits.distinct;
}

-- a transfer's ticket was spent
spent : (t : ℕ) (log new : List Entry) (tickets : List ℕ) → Leaves t log new → Fits log tickets → Fits new (without_ticket t tickets)
spent t log new tickets leaves fits = record {
  ticketed = λ u w. among-other u t tickets (unlike t u (λ same. no-both (waits new u) w (ap (waits new) (sym same) ∙ leaves.gone))) (fits.ticketed u (leaves.moves.waits_less u w));
  served = λ u among. leaves.moves.keeps u
      (unlike t u (λ same. no-both (is_among u (without_ticket t tickets)) among (ap (λ (k : ℕ). is_among k (without_ticket t tickets)) (sym same) ∙ among-own t tickets fits.distinct)))
      (fits.served u (among-less u t tickets among));
  distinct = distinct-without t tickets fits.distinct;
}

-- a transfer acquired
told-waits : (log new : List Entry) (u : ℕ) → told new u ≡ told log u → waits new u ≡ waits log u
told-waits log new u same = sym (awaited_waits u (waiting new)) ∙ ap (λ (t : Told). is_some t.awaited) same ∙ awaited_waits u (waiting log)

told-served : (log new : List Entry) (u : ℕ) → told new u ≡ told log u → is_served new u ≡ is_served log u
told-served log new u same = ap (λ b. b || is_some (held_number new u)) (told-waits log new u same) ∙ ap (λ (t : Told). waits log u || is_some t.number) same

or-true : (b : Bool) → (b || true) ≡ true
or-true true = refl
or-true false = refl

begins : (want : Want) (first : Start) (log new : List Entry) (tickets : List ℕ) → Starts want first log new → Fits log tickets → Fits new tickets
begins want first log new tickets begun' fits = record {
  ticketed = λ u w. ticketed u (want.transfer == u) refl w;
  served = λ u among. served u (want.transfer == u) refl among;
  distinct = fits.distinct;
}
  where
    unwaited : waits new want.transfer ≡ false
    unwaited = sym (awaited_waits want.transfer (waiting new)) ∙ ap is_some begun'.awaited

    ticketed : (u : ℕ) (own : Bool) → (want.transfer == u) ≡ own → waits new u ≡ true → is_among u tickets ≡ true
    ticketed u true is w = absurd (no-both (waits new u) w (ap (waits new) (sym (eqb-true want.transfer u is)) ∙ unwaited))
    ticketed u false is w = fits.ticketed u (sym (told-waits log new u (begun'.others u is)) ∙ w)

    served : (u : ℕ) (own : Bool) → (want.transfer == u) ≡ own → is_among u tickets ≡ true → is_served new u ≡ true
    served u true is among =
        subst (λ (k : ℕ). is_served new k ≡ true) (eqb-true want.transfer u is)
        (ap (λ (n : Option ℕ). waits new want.transfer || is_some n) begun'.number ∙ or-true (waits new want.transfer))
    served u false is among = told-served log new u (begun'.others u is) ∙ fits.served u among

waits-there : (want : Want) (log new : List Entry) (tickets : List ℕ) → HasNothing log want.transfer → Waits want log new → Fits log tickets → Fits new (with_ticket want.transfer tickets)
waits-there want log new tickets free begins_to fits = record {
  ticketed = λ u w. ticketed u (want.transfer == u) refl w;
  served = λ u among. served u (want.transfer == u) refl (sym (among-with u want.transfer tickets) ∙ among);
  distinct = distinct-with want.transfer tickets none fits.distinct;
}
  where
    unserved : is_served log want.transfer ≡ false
    unserved = ap (λ b. b || is_some (held_number log want.transfer)) free.waits_not ∙ ap is_some free.held

    none-of : (among : Bool) → is_among want.transfer tickets ≡ among → among ≡ false
    none-of true is = absurd (no-both (is_served log want.transfer) (fits.served want.transfer is) unserved)
    none-of false is = refl

    none : is_among want.transfer tickets ≡ false
    none = none-of (is_among want.transfer tickets) refl

    waited : waits new want.transfer ≡ true
    waited = sym (awaited_waits want.transfer (waiting new)) ∙ ap is_some begins_to.awaited

    ticketed : (u : ℕ) (own : Bool) → (want.transfer == u) ≡ own → waits new u ≡ true → is_among u (with_ticket want.transfer tickets) ≡ true
    ticketed u true is w = among-with u want.transfer tickets ∙ ap (λ b. b || is_among u tickets) is
    ticketed u false is w =
        among-with u want.transfer tickets ∙ ap (λ b. b || is_among u tickets) is ∙ fits.ticketed u (sym (told-waits log new u (begins_to.others u is)) ∙ w)

    served : (u : ℕ) (own : Bool) → (want.transfer == u) ≡ own → ((want.transfer == u) || is_among u tickets) ≡ true → is_served new u ≡ true
    served u true is among = subst (λ (k : ℕ). is_served new k ≡ true) (eqb-true want.transfer u is) (ap (λ b. b || is_some (held_number new want.transfer)) waited)
    served u false is among = told-served log new u (begins_to.others u is) ∙ fits.served u (sym (ap (λ b. b || is_among u tickets) is) ∙ among)

comes_fit : (want : Want) (log new : List Entry) (tickets : List ℕ) (reply : Reply) → AnswersWant want reply → ComesTo want log new reply → HasNothing log want.transfer → Fits log tickets → Fits new (tickets_with want.transfer tickets reply)
comes_fit want log new tickets (starts first) answers comes free fits = begins want first log new tickets comes fits
comes_fit want log new tickets (waits_on wait) answers comes free fits = waits-there want log new tickets free comes fits
comes_fit want log new tickets no_room answers comes free fits = absurd answers
comes_fit want log new tickets again answers comes free fits = absurd answers

-- what a command at a site leaves: its tickets stand, and the other hosts are only served
record FitsAfter (site : ℕ) (all : AllHosts) (new : AtSite) : Type 0 where
  own : Fits (log_at new.all site) new.tickets
  others : OthersOnlyServed site all new.all

module _ (serve : CallsServe) (limits : Bounds) (site : ℕ) where
  -- a call there, and turns
  turns_fit : (all : AllHosts) (now : ℕ) (new : List Entry) (queue tickets : List ℕ) → site < length all.logs → IsLawful limits record { logs = slice_set all.logs site new; queue = queue }
      → Fits new tickets → Fits (log_at (served limits now record { logs = slice_set all.logs site new; queue = queue }) site) tickets
  turns_fit all now new queue tickets there lawful fits =
      let after : AllHosts = record { logs = slice_set all.logs site new; queue = queue } in
      let still_there : site < length after.logs = omega (arith, there, length-set all.logs site new) in
      kept_fit (log_at after site) (log_at (served limits now after) site) tickets
      (serves_only (log_at after site) (log_at (served limits now after) site) ((serve.serving limits after now lawful).each site still_there))
      (subst (λ (log : List Entry). Fits log tickets) (sym (log_changed all.logs site new there)) fits)

  module _ (some : AreLimits limits) (here : AtSite) (lawful : IsLawful limits here.all) (there : site < length here.all.logs) (fits : Fits (log_at here.all site) here.tickets) where
    unchanged : FitsAfter site here.all here
    unchanged = record { own = fits; others = others_served site here.all here.all (all_as_they_were here.all) }

    acquired_fit : (want : Want) (moment : ℕ) → is_busy (log_at here.all site) [] want.transfer ≡ false
        → Fits (log_at (after_acquire limits site want moment here.all) site) (tickets_with want.transfer here.tickets (reply_of limits site want moment here.all))
    acquired_fit want moment idle =
        let before = comes_free limits site want.transfer here.all lawful there idle in
        let tidy = with_tidied site want moment here.all in
        let young = tidied_all limits site want moment here.all before in
        let roomy = with_room_for limits site want moment tidy in
        let ready = ready_all limits site want moment here.all before in
        let sound = (ready.lawful.settled site ready.there).sound in
        let answer = told_of_total limits roomy in
        let outcome = acquired_at true answer (terms limits) (log_at roomy site) want moment in
        let tidy_fits = subst (λ (log : List Entry). Fits log here.tickets) (sym (log_changed here.all.logs site (tidied want (moment_at (log_at here.all site) moment) (log_at here.all site)) there))
        (kept_fit (log_at here.all site) _ here.tickets (tidied_serves want moment) fits) in
        let room_fits = kept_fit (log_at tidy site) (log_at roomy site) here.tickets (serves_only (log_at tidy site) (log_at roomy site) ((roomy_serves want moment tidy young.lawful).each site young.there)) tidy_fits in
        turns_fit roomy moment outcome.log _ (tickets_with want.transfer here.tickets outcome.reply) ready.there (acquired_lawful limits site want moment here.all before)
        (comes_fit want (log_at roomy site) outcome.log here.tickets outcome.reply (serve.reply limits site want moment here.all)
        (comes_to true answer (terms limits) (log_at roomy site) want moment sound ready.free.held ready.free.waits_not) ready.free room_fits)
      where
        tidied_serves : (want : Want) (moment : ℕ) → (let log = log_at here.all site in Serves log (tidied want (moment_at log moment) log))
        tidied_serves want moment =
            let log = log_at here.all site in
            let m = moment_at log moment in
            let sound = (lawful.settled site there).sound in
            let closed = closes_idle (terms limits) (cause_of (TooOld want)) refl m (picked (TooOld want) m log) log sound (later log moment) (passing_idle (terms limits) log sound (is_too_old_in_lane log want m)) in
            serves_same log (tidied want m log) closed.waiting closed.held

        roomy_serves : (want : Want) (moment : ℕ) (tidy : AllHosts) → IsLawful limits tidy → AllOnlyServed tidy (with_room_for limits site want moment tidy)
        roomy_serves want moment tidy young = by_need (asks_for_one (terms limits) (log_at tidy site) want (moment_at (log_at tidy site) moment) && not (has_room limits tidy))
          where
            by_need : (needed : Bool) → AllOnlyServed tidy (if needed then without_oldest TotalRoom moment tidy else tidy)
            by_need false = all_as_they_were tidy
            by_need true = lost_served TotalRoom moment limits tidy (without_oldest TotalRoom moment tidy) young (may_lose TotalRoom refl limits moment tidy young)

    fits_get : (want : Want) (moment : ℕ) → FitsAfter site here.all (get_at limits site want moment here).here
    unfolding get_at
    fits_get want moment = by_refusal (refusal (terms limits) (log_at here.all site) [] want) refl
      where
        by_refusal : (reason : Option Refusal) → refusal (terms limits) (log_at here.all site) [] want ≡ reason → FitsAfter site here.all (get_unless limits site want moment here reason).here
        by_refusal (Some r) is = unchanged
        by_refusal None is =
            let idle = accepted_idle (terms limits) (log_at here.all site) want is in
            record { own = acquired_fit want moment idle; others = serve.acquire limits site want moment here.all lawful there idle }

    holder-unwaiting : (transfer c : ℕ) → held_number (log_at here.all site) transfer ≡ Some c → waits (log_at here.all site) transfer ≡ false
    holder-unwaiting transfer c held = by_waits (waits (log_at here.all site) transfer) refl
      where
        by_waits : (waiting_now : Bool) → waits (log_at here.all site) transfer ≡ waiting_now → waiting_now ≡ false
        by_waits true is = let both : Some c ≡ None = sym held ∙ (lawful.settled site there).sound.orderly.waiting_free transfer is in absurd (cc)
        by_waits false is = refl

    fits_claim : (transfer : ℕ) → FitsAfter site here.all (claim_at site transfer here).here
    unfolding claim_at
    fits_claim transfer = by_ticket (is_among transfer here.tickets)
      where
        by_held : (held : Option ℕ) → held_number (log_at here.all site) transfer ≡ held → FitsAfter site here.all (claim_of site transfer here held).here
        by_held None is = unchanged
        by_held (Some c) is =
            let log = log_at here.all site in
            record { own = spent transfer log log here.tickets (record { moves = still transfer log; gone = holder-unwaiting transfer c is }) fits; others = unchanged.others }

        by_ticket : (ticketed : Bool) → FitsAfter site here.all (if ticketed then claim_of site transfer here (held_number (log_at here.all site) transfer) else stranger here).here
        by_ticket true = by_held (held_number (log_at here.all site) transfer) refl
        by_ticket false = unchanged

    unticketed : (transfer c : ℕ) → claimed_number site here transfer ≡ Some c → is_among transfer here.tickets ≡ false
    unticketed transfer c leased = by_ticket (is_among transfer here.tickets) leased
      where
        by_ticket : (ticketed : Bool) → cond ticketed None (held_number (log_at here.all site) transfer) ≡ Some c → ticketed ≡ false
        by_ticket true e = cc
        by_ticket false e = refl

    given_back_fit : (transfer c : ℕ) (facts : Facts) (moment : ℕ) → held_number (log_at here.all site) transfer ≡ Some c → is_among transfer here.tickets ≡ false
        → Fits (log_at (after_giving_back limits site c facts moment here.all) site) here.tickets
    given_back_fit transfer c facts moment held none =
        let log = log_at here.all site in
        let roomy = with_room_to_keep limits site c facts moment here.all in
        let keeps = keeps_room limits moment here.all some lawful (becomes_idle log c facts moment) in
        let there_still : site < length roomy.logs = omega (arith, there, keeps.lost.count) in
        let still_holds = still_held CacheFull moment (terms limits) log (log_at roomy site) (lawful.settled site there).sound (keeps.lost.each site) transfer ∙ held in
        let room_fits = kept_fit log (log_at roomy site) here.tickets (serves_only log (log_at roomy site) ((lost_served CacheFull moment limits here.all roomy lawful keeps.lost).each site there)) fits in
        turns_fit roomy moment (after_give_back (terms limits) (log_at roomy site) c facts moment) _ here.tickets there_still (given_back_lawful limits site transfer c facts moment here.all some lawful there held)
        (moved transfer (log_at roomy site) _ here.tickets (given-back (terms limits) (log_at roomy site) (keeps.lost.lawful.settled site there_still).sound transfer c still_holds facts moment) none room_fits)

    fits_back : (transfer : ℕ) (ending : Ending) (moment : ℕ) → FitsAfter site here.all (back_at limits site transfer ending moment here).here
    unfolding back_at
    fits_back transfer ending moment = by_leased (claimed_number site here transfer) refl
      where
        by_leased : (leased : Option ℕ) → claimed_number site here transfer ≡ leased → FitsAfter site here.all (back_of limits site ending moment here leased).here
        by_leased None is = unchanged
        by_leased (Some c) is =
            let held = held_where_leased (is_among transfer here.tickets) (held_number (log_at here.all site) transfer) c is in
            record { own = given_back_fit transfer c (facts_of_ending ending) moment held (unticketed transfer c is); others = serve.give_back limits site transfer c (facts_of_ending ending) moment here.all some lawful there held }

    fits_drop : (transfer moment : ℕ) → FitsAfter site here.all (drop_at limits site transfer moment here).here
    unfolding drop_at
    fits_drop transfer moment = by_leased (claimed_number site here transfer) refl
      where
        by_leased : (leased : Option ℕ) → claimed_number site here transfer ≡ leased → FitsAfter site here.all (drop_of limits site moment here leased).here
        by_leased None is = unchanged
        by_leased (Some c) is =
            let log = log_at here.all site in
            let held = held_where_leased (is_among transfer here.tickets) (held_number log transfer) c is in
            let new = after_abandon (terms limits) log c moment in
            record {
              own = turns_fit here.all moment new _ here.tickets there (abandoned_lawful limits site transfer c moment here.all lawful there held)
                  (moved transfer log new here.tickets (abandoned (terms limits) log (lawful.settled site there).sound transfer c held moment) (unticketed transfer c is) fits);
              others = serve.abandon limits site transfer c moment here.all lawful there held;
            }

    fits_leave : (transfer moment : ℕ) → FitsAfter site here.all (leave_at limits site transfer moment here).here
    unfolding leave_at
    fits_leave transfer moment = by_ticket (is_among transfer here.tickets)
      where
        left : FitsAfter site here.all (after_leaving limits site transfer moment here)
        left =
            let log = log_at here.all site in
            let new = after_withdraw (terms limits) log transfer moment in
            record {
              own = turns_fit here.all moment new _ (without_ticket transfer here.tickets) there (withdrawn_lawful limits site transfer moment here.all lawful there)
                  (spent transfer log new here.tickets (withdrawn (terms limits) log (lawful.settled site there).sound transfer moment) fits);
              others = serve.withdraw limits site transfer moment here.all lawful there;
            }

        by_ticket : (ticketed : Bool) → FitsAfter site here.all (if ticketed then grown here (after_leaving limits site transfer moment here) else stranger here).here
        by_ticket true = left
        by_ticket false = unchanged

    fits_limit : (n moment : ℕ) → FitsAfter site here.all (limit_at limits site n moment here).here
    unfolding limit_at
    fits_limit n moment = by_refusal (limit_refusal n (log_at here.all site)) refl
      where
        by_refusal : (reason : Option Refusal) → limit_refusal n (log_at here.all site) ≡ reason → FitsAfter site here.all (limit_unless limits site n moment here reason).here
        by_refusal (Some r) is = unchanged
        by_refusal None is =
            let log = log_at here.all site in
            let given = min (starts_due (is_queued (terms limits) log) (kept_limit n) log) (limits.total - total here.all) in
            let new = after_limit (kept_limit n) given (terms limits) log moment in
            record {
              own = turns_fit here.all moment new _ here.tickets there (limited_lawful limits site n moment here.all lawful there is)
                  (kept_fit log new here.tickets (limited_serves (kept_limit n) given (terms limits) log moment (lawful.settled site there).sound) fits);
              others = serve.limit limits site n moment here.all lawful there is;
            }

    fits_look : FitsAfter site here.all (look_at limits site here).here
    unfolding look_at
    fits_look = unchanged

    fits_act : (action : Action) → FitsAfter site here.all (act_at limits site here action).here
    fits_act (actions.Get want moment) = fits_get want moment
    fits_act (actions.Claim transfer) = fits_claim transfer
    fits_act (actions.Back transfer ending moment) = fits_back transfer ending moment
    fits_act (actions.Drop transfer moment) = fits_drop transfer moment
    fits_act (actions.Leave transfer moment) = fits_leave transfer moment
    fits_act (actions.Limit n moment) = fits_limit n moment
    fits_act actions.Look = fits_look

-- of each host there are tickets, which stand
record AllFit (hosts : ScriptHosts) : Type 0 where
  count : length hosts.tickets ≡ length hosts.all.logs
  each : (site : ℕ) → site < length hosts.all.logs → Fits (log_at hosts.all site) (slice_index_or hosts.tickets site [])

-- where a command at one site answers
put_back_fit : (site : ℕ) (hosts : ScriptHosts) (new : AtSite) → site < length hosts.all.logs → AllFit hosts → FitsAfter site hosts.all new → AllFit (with_site_as site new hosts)
put_back_fit site hosts new there fit after = record {
  count = length-set hosts.tickets site new.tickets ∙ fit.count ∙ sym after.others.count;
  each = λ other lt. elim (eqb_tells other site) [
    | inl same ↦ subst (λ (i : ℕ). Fits (log_at new.all i) (slice_index_or (slice_set hosts.tickets site new.tickets) i [])) (sym same.1) here
    | inr apart ↦ elsewhere other (subst (λ (n : ℕ). other < n) after.others.count lt) apart.1
  ];
}
  where
    here : Fits (log_at new.all site) (slice_index_or (slice_set hosts.tickets site new.tickets) site [])
    here = subst (Fits (log_at new.all site)) (sym (get_or-set_same hosts.tickets site new.tickets [] (omega (arith, there, fit.count)))) after.own

    elsewhere : (other : ℕ) → other < length hosts.all.logs → other ≢ site → Fits (log_at new.all other) (slice_index_or (slice_set hosts.tickets site new.tickets) other [])
    elsewhere other lt apart =
        let tickets = slice_index_or hosts.tickets other [] in
        subst (Fits (log_at new.all other)) (sym (get_or-set_other hosts.tickets site other new.tickets [] apart))
        (kept_fit (log_at hosts.all other) (log_at new.all other) tickets (serves_only (log_at hosts.all other) (log_at new.all other) (after.others.each other lt apart)) (fit.each other lt))

-- where all hosts are only served
served_fit : (hosts : ScriptHosts) (all : AllHosts) → AllFit hosts → AllOnlyServed hosts.all all → AllFit (record hosts { all = all })
served_fit hosts all fit after = record {
  count = fit.count ∙ sym after.count;
  each = λ host lt.
      let was : host < length hosts.all.logs = subst (λ (n : ℕ). host < n) after.count lt in
      kept_fit (log_at hosts.all host) (log_at all host) (slice_index_or hosts.tickets host []) (serves_only (log_at hosts.all host) (log_at all host) (after.each host was)) (fit.each host was);
}

-- of new hosts nobody has a ticket
new_fit : (n : ℕ) → AllFit (new_hosts n)
new_fit n = record {
  count = length-replicate n [] ∙ sym (length-replicate n []);
  each = λ site there. subst (λ (log : List Entry). Fits log (slice_index_or (new_hosts n).tickets site [])) (sym (none_yet n site)) (subst (Fits []) (sym (no_ticket n site)) no_tickets);
}
  where
    no_ticket : (n site : ℕ) → (let nothing : List ℕ = [] in slice_index_or (replicate n nothing) site nothing ≡ nothing)
    no_ticket zero site = refl
    no_ticket (suc n) zero = refl
    no_ticket (suc n) (suc site) = no_ticket n site

-- a run's, and what a step makes
abbrev FitRun : Run → Type 0
FitRun run = AllFit run.hosts

abbrev FitStep : Result (Run × List ℕ) FaultKind → Type 0
FitStep (Err kind) = Unit {0}
FitStep (Ok next) = FitRun next.0

fit_limits : (run : Run) (limits : Limits) (old : Option Limits) → FitRun run → FitStep (with_limits run limits old)
fit_limits run limits (Some others) fit = tt
fit_limits run limits None fit = by_good (are_good limits)
  where
    by_good : (good : Bool) → FitStep (if good then Ok (record run { limits = Some limits }, []) else Err BadLimits)
    by_good true = fit
    by_good false = tt

fit_named : (run : Run) (site : Option Site) → FitRun run → FitStep (add_site run site)
fit_named run None fit = tt
fit_named run (Some site) fit = by_test (is_one_too_many run.sites site)
  where
    by_test : (too_many : Bool) → FitStep (if too_many then Err TooManySites else Ok (record run { sites = with_site run.sites site }, []))
    by_test true = tt
    by_test false = fit

fit_site : (run : Run) (word : List ℕ) (old : Option Limits) → FitRun run → FitStep (with_url run word old)
fit_site run word None fit = tt
fit_site run word (Some limits) fit = by_test run.has_begun
  where
    by_test : (begun_already : Bool) → FitStep (if begun_already then Err Place else add_site run (site_named word))
    by_test true = tt
    by_test false = fit_named run (site_named word) fit

fit_begun : (run : Run) → FitRun run → FitRun (begun run)
fit_begun run fit = by_begun run.has_begun
  where
    by_begun : (begun_already : Bool) → FitRun (if begun_already then run else record run { has_begun = true; hosts = new_hosts (length run.sites) })
    by_begun true = fit
    by_begun false = new_fit (length run.sites)

module _ (keep : CallsKeep) (serve : CallsServe) where
  fit_answer : (limits : Bounds) (hosts : ScriptHosts) (site : ℕ) (action : Action) → Rests limits hosts.all → AllFit hosts → AllFit (answer_of limits hosts site action).hosts
  fit_answer limits hosts site action rests fit = by_test (nat_lt site (length hosts.all.logs)) refl
    where
      by_test : (there : Bool) → nat_lt site (length hosts.all.logs) ≡ there
          → AllFit (if there then put_back_at site hosts (act_at limits site (at_site hosts site) action) else record { hosts = hosts; text = at_no_host action }).hosts
      by_test true is =
          let there = is_there site (length hosts.all.logs) is in
          put_back_fit site hosts (act_at limits site (at_site hosts site) action).here there fit
          (fits_act serve limits site rests.some (at_site hosts site) rests.rest.lawful there (fit.each site there) action)
      by_test false is = fit

  fit_prune : (limits : Bounds) (max_age max_life moment : ℕ) (hosts : ScriptHosts) → Rests limits hosts.all → AllFit hosts → AllFit (prune_all limits max_age max_life moment hosts).hosts
  unfolding prune_all
  fit_prune limits max_age max_life moment hosts rests fit = served_fit hosts _ fit (serve.prune limits moment max_age max_life hosts.all rests.rest.lawful)

  fit_upkeep : (limits : Bounds) (hosts : ScriptHosts) → Rests limits hosts.all → AllFit hosts → AllFit (upkeep_all hosts).hosts
  unfolding upkeep_all
  fit_upkeep limits hosts rests fit = fit

  fit_command : (answer : Bounds → ScriptHosts → Answer) → ((limits : Bounds) (hosts : ScriptHosts) → Rests limits hosts.all → AllFit hosts → AllFit (answer limits hosts).hosts)
      → (run : Run) (old : Option Limits) → RestUnder old run.hosts → FitRun run → FitStep (with_answer run answer old)
  fit_command answer keeps run None rests fit = tt
  fit_command answer keeps run (Some limits) rests fit = keeps (bounds_given limits) (begun run).hosts (rest_begun keep run limits rests) (fit_begun run fit)

  fit_step : (run : Run) (command : Command) → RestRun run → FitRun run → FitStep (step run command)
  unfolding step
  fit_step run (commands.Limits limits) rests fit = fit_limits run limits run.limits fit
  fit_step run (commands.Site word) rests fit = fit_site run word run.limits fit
  fit_step run (commands.Ask (asks.At site action)) rests fit =
      fit_command (λ limits hosts. answer_of limits hosts site action) (λ limits hosts before. fit_answer limits hosts site action before) run run.limits rests fit
  fit_step run (commands.Ask (asks.Prune max_age max_life moment)) rests fit =
      fit_command (λ limits hosts. prune_all limits max_age max_life moment hosts) (λ limits hosts before. fit_prune limits max_age max_life moment hosts before) run run.limits rests fit
  fit_step run (commands.Ask asks.Upkeep) rests fit = fit_command (λ limits hosts. upkeep_all hosts) fit_upkeep run run.limits rests fit

  fit_line : (run : Run) (line : List ℕ) → RestRun run → FitRun run → FitStep (line_step run line)
  unfolding line_step
  fit_line run line rests fit = by_reading (reading line)
    where
      by_reading : (read : Result (Option Command) FaultKind) → FitStep (line_step_of run read)
      by_reading (Err kind) = tt
      by_reading (Ok None) = fit
      by_reading (Ok (Some command)) = fit_step run command rests fit

  fit_after : (run : Run) (lines : List (List ℕ)) → RestRun run → FitRun run → FitRun (run_after run lines)
  fit_after run [] rests fit = fit
  fit_after run (line ∷ others) rests fit =
      by_step (line_step run line) (rest_line keep run line rests) (fit_line run line rests fit) (λ next next_rests next_fit. fit_after next others next_rests next_fit)
    where
      by_step : (made : Result (Run × List ℕ) FaultKind) → RestStep made → FitStep made → ((next : Run) → RestRun next → FitRun next → FitRun (run_after next others)) → FitRun (after_line run made (λ next. run_after next others))
      by_step (Err kind) made_rests made_fit rest = fit
      by_step (Ok next) made_rests made_fit rest = rest next.0 made_rests made_fit

  fit_behind : (script : List ℕ) → FitRun (run_behind script)
  fit_behind script = by_length (nat_lt LONGEST_SCRIPT (length script))
    where
      by_length : (too_long : Bool) → FitRun (if too_long then start else run_after start (lines script))
      by_length true = new_fit 0
      by_length false = fit_after start (lines script) refl (new_fit 0)

  pub every_ticket_stands : EveryTicketStands
  every_ticket_stands script site = stand (run_behind script).hosts (fit_behind script)
    where
      at_each : (hosts : ScriptHosts) → AllFit hosts → (there : Bool) → nat_lt site (length hosts.all.logs) ≡ there → Fits (log_at hosts.all site) (slice_index_or hosts.tickets site [])
      at_each hosts fit true is = fit.each site (is_there site (length hosts.all.logs) is)
      at_each hosts fit false is =
          subst (λ (log : List Entry). Fits log (slice_index_or hosts.tickets site [])) (sym (past_the_last hosts.all.logs site is))
          (subst (Fits []) (sym (past_the_last hosts.tickets site (ap (nat_lt site) fit.count ∙ is))) no_tickets)

      stand : (hosts : ScriptHosts) → AllFit hosts → TicketsStand site (at_site hosts site)
      stand hosts fit = let fits = at_each hosts fit (nat_lt site (length hosts.all.logs)) refl in record { ticketed = fits.ticketed; served = fits.served }
