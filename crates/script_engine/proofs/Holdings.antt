-- Who waits and who holds at a site, once a transfer gave back, abandoned or left, and once its limit changed.
use Rattle.std.proofs.Common.{◌≡◌, ℕ, zero, suc, Bool, true, false, cond, not, ◌||◌, List, [], ◌∷◌, drop, Option, Some, None, is_some, refl, ap, sym, ◌∙◌}
use Rattle.std.specs.Prelude.{◌==◌}
use Rattle.std.specs.Option.{option_map_or, option_and_then}
use Rattle.std.specs.List.{list_any}
use Rattle.std.proofs.lemmas.Bool.{eqb-true}
use Rattle.persistence.specs.declared.facts.Facts.{Facts}
use Rattle.conn_log.specs.declared.entry.Want.{Want}
use Rattle.conn_log.specs.declared.entry.Cause.{Cause}
use Rattle.conn_log.specs.declared.entry.Cause.TheVariants as causes
use Rattle.conn_log.specs.declared.entry.Event.TheVariants.{Leased, Returned, Closed, Left, Limit}
use Rattle.conn_log.specs.declared.entry.Entry.{Entry}
use Rattle.conn_log.specs.Connections.{transfers_of, holdings, is_held_by, holder_want, held_number}
use Rattle.conn_log.specs.Waiting.{waiting, waits, without}
use Rattle.conn_log.specs.Fit.{is_fit}
use Rattle.conn_log.specs.Legal.{LimitAndFirst, owed, owed_for, ends_use, ending_cause}
use Rattle.conn_log.specs.Sound.{AreDistinct, IsSound}
use Rattle.conn_log.proofs.Holdings.{unless_it_is, transfers_without, number_closed, number_returned}
use Rattle.host_state.specs.Steps.{add, moment_at, next_number, without_picked}
use Rattle.host_state.specs.declared.closing.Closing.TheVariants.{Above}
use Rattle.host_state.specs.Calls.{start_new, open_for, open_for_head, open_for_first, unfit_cause, grant_to, settle, after_give_back, after_close, after_abandon, close_granted, after_withdraw, after_limit}
use Rattle.script_engine.specs.Law.{is_served}
use Rattle.host_state.proofs.Soundness.{closes_above}
use Rattle.host_state.proofs.Transfers.{held_here}
use Rattle.cache.specs.Laws.{OnlyServed}
use Rattle.script_engine.proofs.TicketLists.{no-both}

-- nobody else waits than before, and who waited or held does so
pub record Serves (old new : List Entry) : Type 0 where
  pub waits_less : (u : ℕ) → waits new u ≡ true → waits old u ≡ true
  pub keeps : (u : ℕ) → is_served old u ≡ true → is_served new u ≡ true

-- or this is so of the others than one
pub record Moves (t : ℕ) (old new : List Entry) : Type 0 where
  pub waits_less : (u : ℕ) → waits new u ≡ true → waits old u ≡ true
  pub keeps : (u : ℕ) → (t == u) ≡ false → is_served old u ≡ true → is_served new u ≡ true

both : (t : ℕ) (old mid new : List Entry) → Moves t old mid → Moves t mid new → Moves t old new
both t old mid new first second = record {
  waits_less = λ u w. first.waits_less u (second.waits_less u w);
  keeps = λ u other served. second.keeps u other (first.keeps u other served);
}

as_moves : (t : ℕ) (old new : List Entry) → Serves old new → Moves t old new
as_moves t old new serves = record { waits_less = serves.waits_less; keeps = λ u other served. serves.keeps u served }

pub still : (t : ℕ) (log : List Entry) → Moves t log log
still t log = record { waits_less = λ u w. w; keeps = λ u other served. served }

pub serves_on : (old mid new : List Entry) → Serves old mid → Serves mid new → Serves old new
serves_on old mid new first second = record {
  waits_less = λ u w. first.waits_less u (second.waits_less u w);
  keeps = λ u served. second.keeps u (first.keeps u served);
}

-- where the same wait and hold, and where a host is only served
pub serves_same : (old new : List Entry) → waiting new ≡ waiting old → ((u : ℕ) → held_number new u ≡ held_number old u) → Serves old new
serves_same old new wants held = record {
  waits_less = λ u w. ap (list_any (λ (x : Want). x.transfer == u)) (sym wants) ∙ w;
  keeps = λ u served. ap (λ h. waits new u || is_some h) (held u) ∙ ap (λ ws. list_any (λ (x : Want). x.transfer == u) ws || is_some (held_number old u)) wants ∙ served;
}

any_dropped : (u n : ℕ) (wants : List Want) → list_any (λ (w : Want). w.transfer == u) (drop n wants) ≡ true → list_any (λ (w : Want). w.transfer == u) wants ≡ true
any_dropped u zero wants among = among
any_dropped u (suc n) [] among = among
any_dropped u (suc n) (want ∷ wants) among = right (want.transfer == u) _ (any_dropped u n wants among)
  where
    right : (a b : Bool) → b ≡ true → (a || b) ≡ true
    right true b e = refl
    right false b e = e

pub serves_only : (old new : List Entry) → OnlyServed old new → Serves old new
serves_only old new served = record {
  waits_less = λ u w. any_dropped u served.number (waiting old) (ap (list_any (λ (x : Want). x.transfer == u)) (sym served.others_wait) ∙ w);
  keeps = λ u was. by_still u was (waits new u) refl;
}
  where
    by_held : (u : ℕ) → waits new u ≡ false → (held : Option ℕ) → held_number old u ≡ held → (waited : Bool) → waits old u ≡ waited → (waited || is_some held) ≡ true → is_some (held_number new u) ≡ true
    by_held u gone held is true waited was = served.first_hold u waited gone
    by_held u gone None is false waited was = cc
    by_held u gone (Some c) is false waited was = ap is_some (served.holders_keep u c is)

    by_still : (u : ℕ) → is_served old u ≡ true → (waits_still : Bool) → waits new u ≡ waits_still → (waits_still || is_some (held_number new u)) ≡ true
    by_still u was true is = refl
    by_still u was false is = by_held u is (held_number old u) refl (waits old u) refl was

-- who waits, without one
any-less : (s u : ℕ) (wants : List Want) → list_any (λ (w : Want). w.transfer == u) (without s wants) ≡ true → list_any (λ (w : Want). w.transfer == u) wants ≡ true
any-less s u [] h = h
any-less s u (want ∷ wants) h = by_first (want.transfer == s) (want.transfer == u) h (any-less s u wants)
  where
    by_first : (gone here : Bool) → list_any (λ (w : Want). w.transfer == u) (cond (not gone) (want ∷ without s wants) (without s wants)) ≡ true
        → (list_any (λ (w : Want). w.transfer == u) (without s wants) ≡ true → list_any (λ (w : Want). w.transfer == u) wants ≡ true) → ((want.transfer == u) || list_any (λ (w : Want). w.transfer == u) wants) ≡ true
    by_first true here h' rest = right (want.transfer == u) _ (rest h')
      where
        right : (a b : Bool) → b ≡ true → (a || b) ≡ true
        right true b e = refl
        right false b e = e
    by_first false here h' rest = either (want.transfer == u) _ _ h' rest
      where
        either : (a b c : Bool) → (a || b) ≡ true → (b ≡ true → c ≡ true) → (a || c) ≡ true
        either true b c e f = refl
        either false b c e f = f e

any-others : (s u : ℕ) (wants : List Want) → (s == u) ≡ false → list_any (λ (w : Want). w.transfer == u) (without s wants) ≡ list_any (λ (w : Want). w.transfer == u) wants
any-others s u [] other = refl
any-others s u (want ∷ wants) other = by_first (want.transfer == s) refl (any-others s u wants other)
  where
    by_first : (gone : Bool) → (want.transfer == s) ≡ gone → list_any (λ (w : Want). w.transfer == u) (without s wants) ≡ list_any (λ (w : Want). w.transfer == u) wants
        → list_any (λ (w : Want). w.transfer == u) (cond (not gone) (want ∷ without s wants) (without s wants)) ≡ ((want.transfer == u) || list_any (λ (w : Want). w.transfer == u) wants)
    by_first true is rest = rest ∙ ap (λ b. b || list_any (λ (w : Want). w.transfer == u) wants) (sym (ap (λ (k : ℕ). k == u) (eqb-true want.transfer s is) ∙ other))
    by_first false is rest = ap (λ b. (want.transfer == u) || b) rest

any-none : (t : ℕ) (wants : List Want) → list_any (λ (w : Want). w.transfer == t) (without t wants) ≡ false
any-none t [] = refl
any-none t (want ∷ wants) = by_first (want.transfer == t) refl (any-none t wants)
  where
    by_first : (gone : Bool) → (want.transfer == t) ≡ gone → list_any (λ (w : Want). w.transfer == t) (without t wants) ≡ false
        → list_any (λ (w : Want). w.transfer == t) (cond (not gone) (want ∷ without t wants) (without t wants)) ≡ false
    by_first true is rest = rest
    by_first false is rest = ap (λ b. b || list_any (λ (w : Want). w.transfer == t) (without t wants)) is ∙ rest

-- a start
or-true : (b : Bool) → (b || true) ≡ true
or-true true = refl
or-true false = refl

started : (moment c : ℕ) (want : Want) (log new : List Entry) → waiting new ≡ without want.transfer (waiting log) → ((u : ℕ) → held_number new u ≡ cond (want.transfer == u) (Some c) (held_number log u)) → Serves log new
started moment c want log new wants held = record {
  waits_less = λ u w. any-less want.transfer u (waiting log) (ap (list_any (λ (x : Want). x.transfer == u)) (sym wants) ∙ w);
  keeps = λ u served. by_first u (want.transfer == u) refl (held u) served;
}
  where
    by_first : (u : ℕ) (own : Bool) → (want.transfer == u) ≡ own → held_number new u ≡ cond own (Some c) (held_number log u) → is_served log u ≡ true → is_served new u ≡ true
    by_first u true is has served = ap (λ h. waits new u || is_some h) has ∙ or-true (waits new u)
    by_first u false is has served =
        ap (λ h. waits new u || is_some h) has
        ∙ ap (λ b. b || is_some (held_number log u)) (ap (list_any (λ (x : Want). x.transfer == u)) wants ∙ any-others want.transfer u (waiting log) is)
        ∙ served

opens : (settings : LimitAndFirst) (want : Want) (moment : ℕ) (log : List Entry) → Serves log (start_new settings want moment log)
opens settings want moment log = started moment (next_number settings log) want log (start_new settings want moment log) refl (λ u. refl)

leases : (moment c : ℕ) (want : Want) (log : List Entry) → Serves log (add moment (Leased c want) log)
leases moment c want log = started moment c want log (add moment (Leased c want) log) refl (λ u. refl)

serves_itself : (log : List Entry) → Serves log log
serves_itself log = serves_same log log refl (λ u. refl)

opens-for : (settings : LimitAndFirst) (moment : ℕ) (log : List Entry) (wants : List Want) → Serves log (open_for settings moment log wants)
opens-for settings moment log [] = serves_itself log
opens-for settings moment log (head ∷ others) = opens settings head moment log

opens_for_first : (n : ℕ) (settings : LimitAndFirst) (moment : ℕ) (log : List Entry) → Serves log (open_for_first n settings moment log)
opens_for_first zero settings moment log = serves_itself log
opens_for_first (suc n) settings moment log =
    let next = open_for_head settings moment log in
    serves_on log next (open_for_first n settings moment next) (opens-for settings moment log (waiting log)) (opens_for_first n settings moment next)

-- a host's limit changes
pub limited_serves : (most given : ℕ) (settings : LimitAndFirst) (log : List Entry) (now : ℕ) → IsSound settings log → Serves log (after_limit most given settings log now)
limited_serves most given settings log now sound =
    let moment = moment_at log now in
    let closed = closes_above settings log most now sound in
    let changed = add moment (Limit most) (without_picked (Above most) moment log) in
    serves_on log changed (open_for_first given settings moment changed) (serves_same log changed closed.waiting closed.held) (opens_for_first given settings moment changed)

-- a connection comes back or is closed, which no other transfer holds
let_go : (t c : ℕ) (log new : List Entry) → waiting new ≡ waiting log → ((u : ℕ) → held_number new u ≡ unless_it_is c (held_number log u)) → ((u : ℕ) → (t == u) ≡ false → unless_it_is c (held_number log u) ≡ held_number log u) → Moves t log new
let_go t c log new wants held apart = record {
  waits_less = λ u w. ap (list_any (λ (x : Want). x.transfer == u)) (sym wants) ∙ w;
  keeps = λ u other served. ap (λ h. waits new u || is_some h) (held u ∙ apart u other) ∙ ap (λ ws. list_any (λ (x : Want). x.transfer == u) ws || is_some (held_number log u)) wants ∙ served;
}

apart-after : (t c : ℕ) (log new : List Entry) → ((u : ℕ) → held_number new u ≡ unless_it_is c (held_number log u)) → (u : ℕ) → (t == u) ≡ false → unless_it_is c (held_number new u) ≡ held_number new u
apart-after t c log new held u other = ap (unless_it_is c) (held u) ∙ twice (held_number log u) ∙ sym (held u)
  where
    by_same : (d : ℕ) (same : Bool) → (d == c) ≡ same → unless_it_is c (cond same None (Some d)) ≡ cond same None (Some d)
    by_same d true is = refl
    by_same d false is = ap (λ b. cond b None (Some d)) is

    twice : (number : Option ℕ) → unless_it_is c (unless_it_is c number) ≡ unless_it_is c number
    twice None = refl
    twice (Some d) = by_same d (d == c) refl

one-holder : (held : Option Want) (t u : ℕ) → option_map_or (λ (w : Want). w.transfer == t) held false ≡ true → option_map_or (λ (w : Want). w.transfer == u) held false ≡ true → (t == u) ≡ true
one-holder None t u a b = absurd (cc)
one-holder (Some w) t u a b = ap (λ (k : ℕ). k == u) (sym (eqb-true w.transfer t a)) ∙ b

apart-holder : (settings : LimitAndFirst) (log : List Entry) → IsSound settings log → (t c : ℕ) → held_number log t ≡ Some c → (u : ℕ) → (t == u) ≡ false → unless_it_is c (held_number log u) ≡ held_number log u
apart-holder settings log sound t c holds u other = by_held (held_number log u) refl
  where
    by_same : (d : ℕ) → held_number log u ≡ Some d → (same : Bool) → (d == c) ≡ same → cond same None (Some d) ≡ Some d
    by_same d is true same =
        let held : is_held_by log u c ≡ true = held_here settings log sound.orderly u c (is ∙ ap Some (eqb-true d c same)) in
        absurd (no-both (t == u) (one-holder (holder_want log c) t u (held_here settings log sound.orderly t c holds) held) other)
    by_same d is false same = refl

    by_held : (held : Option ℕ) → held_number log u ≡ held → unless_it_is c held ≡ held
    by_held None is = refl
    by_held (Some d) is = by_same d is (d == c) refl

-- what is owed is the close of what came back
owed-own : (c : ℕ) (facts : Facts) (held : Option Want) (close : ℕ × Cause) → option_and_then (owed_for c facts) held ≡ Some close → close.0 ≡ c
owed-own c facts None close e = cc
owed-own c facts (Some want) close e = by_end (ends_use facts want) e
  where
    by_end : (ends : Bool) → cond ends (Some (c, ending_cause facts want)) None ≡ Some close → close.0 ≡ c
    by_end true e' = let same : (c, ending_cause facts want) ≡ close = cc in ap (λ (p : ℕ × Cause). p.0) (sym same)
    by_end false e' = cc

module _ (settings : LimitAndFirst) (log : List Entry) (sound : IsSound settings log) (t c : ℕ) (holds : held_number log t ≡ Some c) where
  once : AreDistinct (transfers_of (holdings log))
  once = sound.orderly.transfers_once

  closes : (cause : Cause) (now : ℕ) → Moves t log (after_close settings log c cause now)
  closes cause now =
      let moment = moment_at log now in
      let closed = add moment (Closed c cause) log in
      both t log closed (after_close settings log c cause now) (let_go t c log closed refl (λ u. number_closed moment c cause log u once) (apart-holder settings log sound t c holds)) (as_moves t closed (open_for settings moment closed (waiting closed)) (opens-for settings moment closed (waiting closed)))

  pub abandoned : (now : ℕ) → Moves t log (after_abandon settings log c now)
  abandoned now = closes causes.Dropped now

  pub given-back : (facts : Facts) (now : ℕ) → Moves t log (after_give_back settings log c facts now)
  given-back facts now = both t log returned (settle settings c moment returned (owed returned)) (let_go t c log returned refl held (apart-holder settings log sound t c holds)) (by_owed (owed returned) refl)
    where
      moment : ℕ
      moment = moment_at log now

      returned : List Entry
      returned = add moment (Returned c facts) log

      held : (u : ℕ) → held_number returned u ≡ unless_it_is c (held_number log u)
      held u = number_returned moment c facts log u once

      once-more : AreDistinct (transfers_of (holdings returned))
      once-more = transfers_without c (holdings log) once

      apart : (u : ℕ) → (t == u) ≡ false → unless_it_is c (held_number returned u) ≡ held_number returned u
      apart = apart-after t c log returned held

      passed : (head : Want) (fits : Bool) (cause : Cause) → Moves t returned (cond fits (add moment (Leased c head) returned) (start_new settings head moment (add moment (Closed c cause) returned)))
      passed head true cause = as_moves t returned (add moment (Leased c head) returned) (leases moment c head returned)
      passed head false cause =
          let closed = add moment (Closed c cause) returned in
          both t returned closed (start_new settings head moment closed) (let_go t c returned closed refl (λ u. number_closed moment c cause returned u once-more) apart) (as_moves t closed (start_new settings head moment closed) (opens settings head moment closed))

      by_waiting : (wants : List Want) → Moves t returned (grant_to settings c moment returned wants)
      by_waiting [] = still t returned
      by_waiting (head ∷ others) = passed head (is_fit returned head moment c) (unfit_cause settings returned head moment c)

      by_owed : (close : Option (ℕ × Cause)) → owed returned ≡ close → Moves t returned (settle settings c moment returned close)
      by_owed None is = by_waiting (waiting returned)
      by_owed (Some close) is =
          let same : close.0 ≡ c = owed-own c facts (holder_want log c) close is in
          let closed = add moment (Closed close.0 close.1) returned in
          both t returned closed (open_for settings moment closed (waiting closed))
          (let_go t close.0 returned closed refl (λ u. number_closed moment close.0 close.1 returned u once-more) (λ u other. ap (λ (d : ℕ). unless_it_is d (held_number returned u)) same ∙ apart u other))
          (as_moves t closed (open_for settings moment closed (waiting closed)) (opens-for settings moment closed (waiting closed)))

-- who withdraws waits no more
pub record Leaves (t : ℕ) (old new : List Entry) : Type 0 where
  pub moves : Moves t old new
  pub gone : waits new t ≡ false

left : (t moment : ℕ) (log : List Entry) → Leaves t log (add moment (Left t) log)
left t moment log = record {
  moves = record {
    waits_less = λ u w. any-less t u (waiting log) w;
    keeps = λ u other served. ap (λ b. b || is_some (held_number log u)) (any-others t u (waiting log) other) ∙ served;
  };
  gone = any-none t (waiting log);
}

no-more : (b before : Bool) → before ≡ false → (b ≡ true → before ≡ true) → b ≡ false
no-more true before e f = absurd (no-both before (f refl) e)
no-more false before e f = refl

pub withdrawn : (settings : LimitAndFirst) (log : List Entry) → IsSound settings log → (t now : ℕ) → Leaves t log (after_withdraw settings log t now)
withdrawn settings log sound t now = by_waits (waits log t) refl
  where
    by_held : (held : Option ℕ) → held_number log t ≡ held → Moves t log (close_granted settings log held now)
    by_held None is = still t log
    by_held (Some c) is = closes settings log sound t c is causes.Withdrawn now

    by_waits : (waiting_now : Bool) → waits log t ≡ waiting_now → Leaves t log (cond waiting_now (add (moment_at log now) (Left t) log) (close_granted settings log (held_number log t) now))
    by_waits true is = left t (moment_at log now) log
    by_waits false is =
        let moved = by_held (held_number log t) refl in
        record { moves = moved; gone = no-more (waits (close_granted settings log (held_number log t) now) t) (waits log t) is (moved.waits_less t) }
