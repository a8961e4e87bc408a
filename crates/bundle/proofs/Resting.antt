-- What a give back comes to, by what the budget answered, and what its part holds then.
use Rattle.std.proofs.Common.{◌≡◌, ℕ, ◌+◌, Bool, true, false, not, ◌&&◌, List, [], ◌∷◌, ◌++◌, length, Option, Some, None, is_none, refl, sym, ap, subst, ◌∙◌, arith}
use Rattle.std.specs.Prelude.{nat_lt, if◌then◌else◌}
use Rattle.std.specs.Option.{option_map, option_map_or, option_and_then, IsSome, IfSome, IfNone}
use mathlib.Core.Bool.{false≢true}
use Rattle.std.proofs.lemmas.Bool.Decides.{nat_tests}
use Rattle.bundle.specs.Seats.{Tables}
use Rattle.persistence.specs.declared.facts.Facts.{Facts}
use Rattle.persistence.specs.Persistent.{is_persistent}
use Rattle.budget.specs.declared.permits.Held.{Held as Part}
use Rattle.budget.specs.declared.permits.Try.{Try}
use Rattle.budget.specs.declared.permits.Try.TheVariants.{Got, Full, Contended}
use Rattle.budget.specs.Permits.{held, if_got, one_more_kept, one_less_kept}
use Rattle.conn_log.specs.declared.entry.Want.{Want}
use Rattle.conn_log.specs.declared.entry.Cause.{Cause}
use Rattle.conn_log.specs.declared.entry.Cause.TheVariants.{CacheFull}
use Rattle.conn_log.specs.declared.entry.Event.TheVariants.{Returned, Closed}
use Rattle.conn_log.specs.declared.entry.Entry.{Entry}
use Rattle.conn_log.specs.Connections.{open_connections, idle_connections, holder_want, held_number}
use Rattle.conn_log.specs.Waiting.{waiting}
use Rattle.conn_log.specs.Legal.{LimitAndFirst, IsAnyone, ending_cause, owed, owed_for}
use Rattle.conn_log.specs.Sound.{IsSound, HeldFacts, facts_if_held, held_facts}
use Rattle.host_state.specs.declared.held.Held.{Held}
use Rattle.host_state.specs.State.{HostState, WouldStay, facts_of_held}
use Rattle.host_state.specs.Steps.{add, moment_at}
use Rattle.bundle.specs.declared.grant.Grant.{Grant}
use Rattle.bundle.specs.declared.answers.Back.{Back}
use Rattle.bundle.specs.declared.answers.Back.TheVariants.{Spent, NoKeep, Again}
use Rattle.host_state.specs.Calls.{Start, spent, open_for_head, grant_to, settle, returned, after_give_back, is_anyone, becomes_idle, keep_as_told, is_freed}
use Rattle.bundle.specs.Lease.{HostShown, Leasing, Using, lease_at}
use Rattle.host_state.specs.Counts.{held_by}
use Rattle.bundle.specs.Grants.{grant_starts, grant_streams}
use Rattle.bundle.specs.Replies.{IsBack, GivesBack}
use Rattle.host_state.proofs.Soundness.{held_want}
use Rattle.bundle.proofs.Answering.{known}
use Rattle.host_state.proofs.EndsOfUses.{got_is_spent}

module _ {S : Type 0} (old new : HostShown S) (lease : Leasing S) (facts : Facts) (now : ℕ) where
  pub back_spent : (close_if_full freed : Bool) → new.log ≡ after_give_back old.settings old.log lease.start.number facts now → freed ≡ is_freed old.log new.log → GivesBack close_if_full Got old new lease facts now (Spent freed)
  back_spent close_if_full freed log_is freed_is = subst (λ returning. IsBack old new lease returning (Spent freed)) (sym (got_is_spent close_if_full old.settings old.log lease.start.number facts now)) (log_is, freed_is ∙ ap (is_freed old.log) log_is)

  -- where it is to be idle, as the budget answered
  module _ (idle : becomes_idle old.log lease.start.number facts now ≡ true) where
    told_back : (close_if_full : Bool) (told : Try) (back : Back S) → IsBack old new lease (keep_as_told close_if_full told lease.start.number (moment_at old.log now) (returned old.log lease.start.number facts now)) back → GivesBack close_if_full told old new lease facts now back
    told_back close_if_full told back is = subst (λ returning. IsBack old new lease returning back) (sym (ap (λ b. if b then keep_as_told close_if_full told lease.start.number (moment_at old.log now) (returned old.log lease.start.number facts now) else spent (after_give_back old.settings old.log lease.start.number facts now)) idle)) is

    pub back_again : (close_if_full : Bool) (same : Leasing S) → same ≡ lease → new ≡ old → GivesBack close_if_full Contended old new lease facts now (Again same)
    back_again close_if_full same is unchanged = told_back close_if_full Contended (Again same) (is, unchanged)

    pub back_not_kept : (close_if_full : Bool) → close_if_full ≡ false → (same : Leasing S) → same ≡ lease → new ≡ old → GivesBack close_if_full Full old new lease facts now (NoKeep same)
    back_not_kept close_if_full asks_not same is unchanged = subst (λ b. GivesBack b Full old new lease facts now (NoKeep same)) (sym asks_not) (told_back false Full (NoKeep same) (is, unchanged))

    pub back_closed : (close_if_full : Bool) → close_if_full ≡ true → (freed : Bool) → new.log ≡ add (moment_at old.log now) (Closed lease.start.number CacheFull) (returned old.log lease.start.number facts now) → freed ≡ is_freed old.log new.log → GivesBack close_if_full Full old new lease facts now (Spent freed)
    back_closed close_if_full asks freed log_is freed_is = subst (λ b. GivesBack b Full old new lease facts now (Spent freed)) (sym asks) (told_back true Full (Spent freed) (log_is, freed_is ∙ ap (is_freed old.log) log_is))

-- the log that it leaves, where it stays open, and where its use ends
pub passed_given_back : (settings : LimitAndFirst) (log : List Entry) (c : ℕ) (facts : Facts) (now : ℕ) (settings' : LimitAndFirst) → settings' ≡ settings → (m : ℕ) → m ≡ moment_at log now → (back : List Entry) → back ≡ add m (Returned c facts) log → owed back ≡ None → (after : List Entry) → after ≡ grant_to settings' c m back (waiting back) → after ≡ after_give_back settings log c facts now
passed_given_back settings log c facts now settings' e_terms m e_m back e_back unowed after e_after =
    let n = moment_at log now in
    let e : back ≡ returned log c facts now = e_back ∙ ap (λ k. add k (Returned c facts) log) e_m in
    e_after ∙ ap (λ tm. grant_to tm c m back (waiting back)) e_terms ∙ ap (λ k. grant_to settings c k back (waiting back)) e_m ∙ ap (λ l. grant_to settings c n l (waiting l)) e
    ∙ sym (ap (settle settings c n (returned log c facts now)) (ap owed (sym e) ∙ unowed))

pub ended_given_back : (settings : LimitAndFirst) (log : List Entry) (c : ℕ) (facts : Facts) (now : ℕ) (settings' : LimitAndFirst) → settings' ≡ settings → (m : ℕ) → m ≡ moment_at log now → (cause : Cause) → owed (add m (Returned c facts) log) ≡ Some (c, cause) → (closed : List Entry) → closed ≡ add m (Closed c cause) (add m (Returned c facts) log) → (after : List Entry) → after ≡ open_for_head settings' m closed → after ≡ after_give_back settings log c facts now
ended_given_back settings log c facts now settings' e_terms m e_m cause owes closed e_closed after e_after =
    let n = moment_at log now in
    let e : closed ≡ add n (Closed c cause) (returned log c facts now) = e_closed ∙ ap (λ k. add k (Closed c cause) (add k (Returned c facts) log)) e_m in
    e_after ∙ ap (λ tm. open_for_head tm m closed) e_terms ∙ ap (λ k. open_for_head settings k closed) e_m ∙ ap (open_for_head settings n) e
    ∙ sym (ap (settle settings c n (returned log c facts now)) owes)

-- it is to be idle where it would stay open, and nobody waits
pub forbids_as : (log : List Entry) (transfer : ℕ) (kept : Held) → held_facts log transfer ≡ Some (facts_of_held kept) → option_map_or (λ (want : Want). want.forbid_reuse) (holder_want log kept.number) false ≡ kept.forbids_reuse
forbids_as log transfer kept is = by_number (held_number log transfer) is
  where
    by_number : (n : Option ℕ) → option_map (facts_if_held log) n ≡ Some (facts_of_held kept) → option_map_or (λ (want : Want). want.forbid_reuse) (holder_want log kept.number) false ≡ kept.forbids_reuse
    by_number None never = absurd (cc)
    by_number (Some c) some =
        let same : facts_if_held log c ≡ facts_of_held kept = cc in
        let number : c ≡ kept.number = ap (λ (f : HeldFacts). f.number) same in
        subst (λ (k : ℕ). option_map_or (λ (want : Want). want.forbid_reuse) (holder_want log k) false ≡ kept.forbids_reuse) number (ap (λ (f : HeldFacts). f.forbids_reuse) same)

idle_open : (log : List Entry) (c : ℕ) (facts : Facts) (now : ℕ) (want : Want) → holder_want log c ≡ Some want → (is_persistent facts && not want.forbid_reuse) ≡ true → waiting log ≡ [] → becomes_idle log c facts now ≡ true
idle_open log c facts now want is stays nobody =
    let unowed : owed (returned log c facts now) ≡ None = ap (option_and_then (owed_for c facts)) is ∙ ap (λ b. if not b then Some (c, ending_cause facts want) else None) stays in
    ap (λ due. is_none due && not (is_anyone (waiting log))) unowed ∙ ap (λ wants. not (is_anyone wants)) nobody

pub would_rest : {S : Type 0} (settings : LimitAndFirst) (state : HostState S) → IsSound settings state.log → (transfer c : ℕ) (facts : Facts) (now : ℕ) → WouldStay state transfer c facts → waiting state.log ≡ [] → becomes_idle state.log c facts now ≡ true
would_rest settings state sound transfer c facts now would nobody =
    let it = known state.log transfer would.held would.was_held in
    let holder = held_want settings state.log sound transfer would.held.number it.number in
    let forbids : holder.0.forbid_reuse ≡ would.held.forbids_reuse = sym (ap (λ (w : Option Want). option_map_or (λ (want : Want). want.forbid_reuse) w false) holder.1) ∙ forbids_as state.log transfer would.held would.was_held in
    subst (λ (k : ℕ). becomes_idle state.log k facts now ≡ true) would.number (idle_open state.log would.held.number facts now holder.0 holder.1 (ap (λ b. is_persistent facts && not b) forbids ∙ would.stays) nobody)

-- what is said of an answer that is not there
pub if_none : {A P Q : Type 0} (o : Option A) → (P → Q) → IfNone o P → IfNone o Q
if_none None step p = step p
if_none (Some x) step p = tt

pub if_some : {A : Type 0} (o : Option A) (x : A) (P : A → Type 0) → o ≡ Some x → IfSome o P → P x
if_some {A} o x P is told = subst (λ (found : Option A). IfSome found P) is told

pub if_there : {A P : Type 0} (o : Option A) → IsSome o → IfSome o (λ (x : A). P) → P
if_there None never told = absurd (cc)
if_there (Some x) there told = told

-- it has none left where it gave none, and need not be asked again
pub full_told : (asked : Option Try) → IsSome asked → (asked ≡ Some Got → ⊥) → (asked ≡ Some Contended → ⊥) → asked ≡ Some Full
full_told None never not_got not_missed = absurd (cc)
full_told (Some Got) there not_got not_missed = absurd (not_got refl)
full_told (Some Full) there not_got not_missed = refl
full_told (Some Contended) there not_got not_missed = absurd (not_missed refl)

-- a host, from its state, what it granted, and who is halfway
abbrev pub shown : {S : Type 0} → HostState S → List (Grant S) → List ℕ → Tables → HostShown S
shown state grants booked tables = record { log = state.log; cut_away = state.cut_away; settings = state.settings; host = state.host; streams = grant_streams grants ++ state.streams; unclaimed = grant_starts grants; booked = booked; tables = tables }

-- a lease that was taken apart, and has its stream and its seat again, is as it was
pub same_lease : {S : Type 0} (lease after : Leasing S) (used between : Using S) (tables now : Tables) (stream back : S) → lease ≡ lease_at tables used → used.stream ≡ Some stream → (let taken : Using S = record { site = used.site; start = used.start; stream = None } in between ≡ taken) → (let given : Using S = record { site = between.site; start = between.start; stream = Some back } in after ≡ lease_at now given) → now ≡ tables → back ≡ stream → after ≡ lease
same_lease {S} lease after used between tables now stream back apart had taken given same_tables same =
    given ∙ ap (λ (u : Using S). put now u.site u.start (Some back)) taken ∙ ap (λ (k : Tables). put k used.site used.start (Some back)) same_tables ∙ ap (λ (s : S). put tables used.site used.start (Some s)) same ∙ ap (put tables used.site used.start) (sym had) ∙ sym apart
  where
    put : Tables → ℕ → Start → Option S → Leasing S
    put at site start held_stream = record { site = site; start = start; stream = held_stream; tables = at }

-- as many are open where what came back goes to the first that waits
pub passed_open : (back after : List Entry) → (IsAnyone (waiting back) → one_more_kept (held_by after) ≡ held_by back) → (waiting back ≡ [] → after ≡ back) → length (open_connections after) ≡ length (open_connections back)
passed_open back after taken nobody = by_queue (waiting back) taken nobody
  where
    by_queue : (wants : List Want) → (IsAnyone wants → one_more_kept (held_by after) ≡ held_by back) → (wants ≡ [] → after ≡ back) → length (open_connections after) ≡ length (open_connections back)
    by_queue [] taken' nobody' = ap (λ l. length (open_connections l)) (nobody' refl)
    by_queue (head ∷ others) taken' nobody' = ap (λ (h : Part). h.alive) (taken' tt)

pub not_freed : (old new : List Entry) → length (open_connections new) ≡ length (open_connections old) → false ≡ is_freed old new
not_freed old new same = below (length (open_connections new)) (length (open_connections old)) same
  where
    below : (a b : ℕ) → a ≡ b → false ≡ nat_lt a b
    below a b e = grind (arith, nat_tests, e)

pub freed_one : (old new : List Entry) → length (open_connections old) ≡ length (open_connections new) + 1 → true ≡ is_freed old new
freed_one old new fewer = below (length (open_connections new)) (length (open_connections old)) fewer
  where
    below : (a b : ℕ) → b ≡ a + 1 → true ≡ nat_lt a b
    below a b e = grind (arith, nat_tests, e)

-- what the part holds once it stays open: one more is kept where nobody waits, and as many where someone does
pub passed_part : (log back after : List Entry) (asked : Option Try) (before given : Part) (persists : Bool) → waiting back ≡ waiting log → length (open_connections back) ≡ length (open_connections log) → length (idle_connections back) ≡ length (idle_connections log) + 1 → (IsAnyone (waiting back) → one_more_kept (held_by after) ≡ held_by back) → (waiting back ≡ [] → after ≡ back) → before ≡ held_by log → persists ≡ true → IfNone asked (given ≡ before) → IfNone asked (waiting log ≡ [] → persists ≡ false) → IfSome asked (λ (told : Try). waiting log ≡ []) → IfSome asked (λ (told : Try). given ≡ if_got told one_more_kept before) → IfSome asked (λ (told : Try). told ≡ Got) → given ≡ held_by after
passed_part log back after None before given persists queue opens idles taken nobody is persistent same asks _ _ _ = same ∙ is ∙ by_queue (waiting log) refl
  where
    by_queue : (wants : List Want) → waiting log ≡ wants → held_by log ≡ held_by after
    by_queue [] none = absurd (false≢true (sym (asks none) ∙ persistent))
    by_queue (head ∷ others) queued =
        let moved = taken (subst IsAnyone (sym (queue ∙ queued)) tt) in
        let alive : length (open_connections log) ≡ length (open_connections after) = sym (ap (λ (h : Part). h.alive) moved ∙ opens) in
        let kept : length (idle_connections log) ≡ length (idle_connections after) = omega (arith, ap (λ (h : Part). h.kept) moved, idles) in
        ap (λ n. held n (length (idle_connections log))) alive ∙ ap (held (length (open_connections after))) kept
passed_part log back after (Some told) before given persists queue opens idles taken nobody is persistent _ _ none given_is got =
    let back_is : held_by back ≡ one_more_kept (held_by log) = ap (λ n. held n (length (idle_connections back))) opens ∙ ap (held (length (open_connections log))) idles in
    given_is ∙ ap (λ (t : Try). if_got t one_more_kept before) got ∙ ap one_more_kept is ∙ sym back_is ∙ sym (ap held_by (nobody (queue ∙ none)))

-- and once what was got and is not used is given back
pub released_part : (asked : Option Try) (before given left : Part) → IfNone asked (given ≡ before) → IfSome asked (λ (told : Try). given ≡ if_got told one_more_kept before) → (asked ≡ Some Got → left ≡ one_less_kept given) → IfNone asked (left ≡ given) → IfSome asked (λ (told : Try). (told ≡ Got → ⊥) → left ≡ given) → left ≡ before
released_part None before given left same _ _ left_is _ = left_is ∙ same
released_part (Some Got) before given left _ given_is got _ _ = got refl ∙ ap one_less_kept given_is ∙ ap (held before.alive) (omega arith)
released_part (Some Full) before given left _ given_is _ _ not_got = not_got (λ never. absurd (cc)) ∙ given_is
released_part (Some Contended) before given left _ given_is _ _ not_got = not_got (λ never. absurd (cc)) ∙ given_is
