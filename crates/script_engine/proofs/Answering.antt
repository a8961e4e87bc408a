-- What is answered to an action at a site, from what the pool did.
use Rattle.std.proofs.Common.{◌≡◌, ℕ, true, false, cond, List, [], refl, ap, subst, sym, ◌∙◌, Option, Some, None, inl, inr, IfSome, Result, Ok, Err}
use Rattle.budget.specs.Limits.{Bounds}
use Rattle.budget.specs.declared.refusal.Refusal.{Refusal}
use Rattle.conn_log.specs.declared.entry.Want.{Want}
use Rattle.conn_log.specs.Connections.{is_among, held_number}
use Rattle.host_state.specs.declared.snapshot.Snapshot.{Snapshot}
use Rattle.host_state.specs.Calls.{refusal, limit_refusal, is_queued, Reply, starts, waits_on, Start, Wait}
use Rattle.host_state.specs.Counts.{snapshot_of}
use Rattle.cache.specs.AllHosts.{AllHosts, log_at, terms}
use Rattle.cache.specs.Calls.{after_acquire, reply_of, after_giving_back, after_abandoning, after_limit_of}
use Rattle.cache.specs.Laws.{AnswersWant}
use Rattle.cache.proofs.Replies.{acquire_starts_or_waits}
use Rattle.script_text.specs.declared.command.Action.{Action}
use Rattle.script_text.specs.declared.command.Action.TheVariants as actions
use Rattle.script_text.specs.declared.command.Ending.{Ending}
use Rattle.script_text.specs.declared.fault.FaultKind.{FaultKind}
use Rattle.script_text.specs.Printing.{GivesText, refused, claimed_line, still_line, look_line}
use Rattle.script_engine.specs.Meaning.{AtSite, AnswerAt, replied, grown, stranger, lines_of_growth, with_ticket, without_ticket, claimed_number, refusal_word, tickets_with, after_getting, get_at, get_unless, claim_at, claim_of, back_at, back_of, drop_at, drop_of, leave_at, after_leaving, limit_word, limit_at, limit_unless, look_at, act_at, facts_of_ending}
use Rattle.script_engine.specs.Hosted.{IsUntold, Gives}

-- where memory fails only what is told, all hosts are as the action makes them
pub untold : (limits : Bounds) (site : ℕ) (old : AtSite) (action : Action) (new : AtSite) → new ≡ (act_at limits site old action).here → IsUntold limits site old action new
untold limits site old (actions.Get want moment) new is = inr (inl is)
untold limits site old (actions.Claim transfer) new is = inl is
untold limits site old (actions.Back transfer ending moment) new is = is
untold limits site old (actions.Drop transfer moment) new is = is
untold limits site old (actions.Leave transfer moment) new is = is
untold limits site old (actions.Limit n moment) new is = inr is
untold limits site old actions.Look new is = is

module _ {T : Type 0} (bytes : T → List ℕ) (limits : Bounds) (site : ℕ) (old : AtSite) (action : Action) (new : AtSite) where
  pub gives-answer : (text : List ℕ) (r : Result T FaultKind) → act_at limits site old action ≡ replied new text → GivesText bytes text r → Gives bytes limits site old action r new
  gives-answer text (Ok t) is gives = is ∙ ap (replied new) (sym gives)
  gives-answer text (Err kind) is gives = (gives, untold limits site old action new (ap (λ (a : AnswerAt). a.here) (sym is)))

  -- where the entries that were added are written
  pub gives-grown : (r : Result T FaultKind) → act_at limits site old action ≡ grown old new → GivesText bytes (lines_of_growth old.all new.all) r → Gives bytes limits site old action r new
  gives-grown r is gives = gives-answer (lines_of_growth old.all new.all) r is gives

-- get
pub get-refused : (limits : Bounds) (site : ℕ) (want : Want) (moment : ℕ) (here : AtSite) (r : Refusal) → refusal (terms limits) (log_at here.all site) [] want ≡ Some r
    → get_at limits site want moment here ≡ replied here (refused (refusal_word r))
unfolding get_at
get-refused limits site want moment here r e = ap (get_unless limits site want moment here) e

pub get-accepted : (limits : Bounds) (site : ℕ) (want : Want) (moment : ℕ) (here : AtSite) → refusal (terms limits) (log_at here.all site) [] want ≡ None
    → get_at limits site want moment here ≡ grown here (after_getting limits site want moment here)
unfolding get_at
get-accepted limits site want moment here e = ap (get_unless limits site want moment here) e

module _ (limits : Bounds) (site : ℕ) (want : Want) (moment : ℕ) (here : AtSite) (new : AllHosts) (e : refusal (terms limits) (log_at here.all site) [] want ≡ None) (same : new ≡ after_acquire limits site want moment here.all) where
  by-reply : (reply : Reply) → reply_of limits site want moment here.all ≡ reply → get_at limits site want moment here ≡ grown here (record { all = new; tickets = tickets_with want.transfer here.tickets reply })
  by-reply reply is =
      get-accepted limits site want moment here e
      ∙ ap (λ r. grown here (record { all = after_acquire limits site want moment here.all; tickets = tickets_with want.transfer here.tickets r })) is
      ∙ ap (λ all. grown here (record { all = all; tickets = tickets_with want.transfer here.tickets reply })) (sym same)

  pub get-started : (start : Start) → reply_of limits site want moment here.all ≡ starts start → get_at limits site want moment here ≡ grown here (record here { all = new })
  get-started start is = by-reply (starts start) is

  pub get-waited : (wait : Wait) → reply_of limits site want moment here.all ≡ waits_on wait → get_at limits site want moment here ≡ grown here (record { all = new; tickets = with_ticket want.transfer here.tickets })
  get-waited wait is = by-reply (waits_on wait) is

-- an accepted acquire, and the want of its lease or ticket
pub accepted : {A : Type 0} (got : A) (shows : Option Refusal) → IfSome shows (λ reason. ◌≡◌ {A = Result A Refusal} (Ok got) (Err reason)) → shows ≡ None
accepted got None e = refl
accepted got (Some reason) e = cc

module _ (limits : Bounds) (site : ℕ) (want : Want) (moment : ℕ) (all : AllHosts) where
  pub started-of : (start : Start) → reply_of limits site want moment all ≡ starts start → start.want ≡ want
  started-of start is = subst (AnswersWant want) is (acquire_starts_or_waits limits site want moment all)

  pub waited-of : (wait : Wait) → reply_of limits site want moment all ≡ waits_on wait → wait.want ≡ want
  waited-of wait is = subst (AnswersWant want) is (acquire_starts_or_waits limits site want moment all)

-- back and drop
pub back-stranger : (limits : Bounds) (site transfer : ℕ) (ending : Ending) (moment : ℕ) (here : AtSite) → claimed_number site here transfer ≡ None
    → back_at limits site transfer ending moment here ≡ stranger here
unfolding back_at
back-stranger limits site transfer ending moment here e = ap (back_of limits site ending moment here) e

pub back-taken : (limits : Bounds) (site transfer : ℕ) (ending : Ending) (moment : ℕ) (here : AtSite) (c : ℕ) → claimed_number site here transfer ≡ Some c
    → back_at limits site transfer ending moment here ≡ grown here (record here { all = after_giving_back limits site c (facts_of_ending ending) moment here.all })
unfolding back_at
back-taken limits site transfer ending moment here c e = ap (back_of limits site ending moment here) e

pub drop-stranger : (limits : Bounds) (site transfer moment : ℕ) (here : AtSite) → claimed_number site here transfer ≡ None → drop_at limits site transfer moment here ≡ stranger here
unfolding drop_at
drop-stranger limits site transfer moment here e = ap (drop_of limits site moment here) e

pub drop-taken : (limits : Bounds) (site transfer moment : ℕ) (here : AtSite) (c : ℕ) → claimed_number site here transfer ≡ Some c
    → drop_at limits site transfer moment here ≡ grown here (record here { all = after_abandoning limits site c moment here.all })
unfolding drop_at
drop-taken limits site transfer moment here c e = ap (drop_of limits site moment here) e

-- claim and leave
pub claim-stranger : (site transfer : ℕ) (here : AtSite) → is_among transfer here.tickets ≡ false → claim_at site transfer here ≡ stranger here
unfolding claim_at
claim-stranger site transfer here e = ap (λ b. cond b (claim_of site transfer here (held_number (log_at here.all site) transfer)) (stranger here)) e

claim-ticketed : (site transfer : ℕ) (here : AtSite) → is_among transfer here.tickets ≡ true → claim_at site transfer here ≡ claim_of site transfer here (held_number (log_at here.all site) transfer)
unfolding claim_at
claim-ticketed site transfer here e = ap (λ b. cond b (claim_of site transfer here (held_number (log_at here.all site) transfer)) (stranger here)) e

pub claim-still : (site transfer : ℕ) (here : AtSite) → is_among transfer here.tickets ≡ true → held_number (log_at here.all site) transfer ≡ None → claim_at site transfer here ≡ replied here still_line
claim-still site transfer here e held = claim-ticketed site transfer here e ∙ ap (claim_of site transfer here) held

pub claim-granted : (site transfer : ℕ) (here : AtSite) (c : ℕ) → is_among transfer here.tickets ≡ true → held_number (log_at here.all site) transfer ≡ Some c
    → claim_at site transfer here ≡ replied (record here { tickets = without_ticket transfer here.tickets }) (claimed_line site c)
claim-granted site transfer here c e held = claim-ticketed site transfer here e ∙ ap (claim_of site transfer here) held

pub leave-stranger : (limits : Bounds) (site transfer moment : ℕ) (here : AtSite) → is_among transfer here.tickets ≡ false → leave_at limits site transfer moment here ≡ stranger here
unfolding leave_at
leave-stranger limits site transfer moment here e = ap (λ b. cond b (grown here (after_leaving limits site transfer moment here)) (stranger here)) e

pub leave-taken : (limits : Bounds) (site transfer moment : ℕ) (here : AtSite) → is_among transfer here.tickets ≡ true
    → leave_at limits site transfer moment here ≡ grown here (after_leaving limits site transfer moment here)
unfolding leave_at
leave-taken limits site transfer moment here e = ap (λ b. cond b (grown here (after_leaving limits site transfer moment here)) (stranger here)) e

-- limit
pub limit-refused : (limits : Bounds) (site n moment : ℕ) (here : AtSite) (r : Refusal) → limit_refusal n (log_at here.all site) ≡ Some r → limit_at limits site n moment here ≡ replied here (limit_word r)
unfolding limit_at
limit-refused limits site n moment here r e = ap (limit_unless limits site n moment here) e

pub limit-changed : (limits : Bounds) (site n moment : ℕ) (here : AtSite) → limit_refusal n (log_at here.all site) ≡ None
    → limit_at limits site n moment here ≡ grown here (record here { all = after_limit_of limits site n moment here.all })
unfolding limit_at
limit-changed limits site n moment here e = ap (limit_unless limits site n moment here) e

-- look
pub look-told : (limits : Bounds) (site : ℕ) (here : AtSite) (s : Snapshot) → s ≡ snapshot_of (log_at here.all site) (is_queued (terms limits) (log_at here.all site))
    → look_at limits site here ≡ replied here (look_line site s.alive s.idle s.leased s.waiting s.queued)
unfolding look_at
look-told limits site here s is = ap (λ (s : Snapshot). replied here (look_line site s.alive s.idle s.leased s.waiting s.queued)) (sym is)

pub look-stays : (limits : Bounds) (site : ℕ) (here : AtSite) → here ≡ (look_at limits site here).here
unfolding look_at
look-stays limits site here = refl
