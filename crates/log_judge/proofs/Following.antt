-- Each step leaves tables that follow the log with what the step took.
use Rattle.std.proofs.Common.{◌≡◌, ℕ, ◌+◌, ◌<◌, ◌≤◌, ◌^◌, Bool, true, false, not, ◌&&◌, List, [], ◌∷◌, ◌++◌, length, Option, Some, None, is_some, is_none, refl, sym, ap, subst, inl, inr, ◌∙◌, arith}
use Rattle.std.specs.Prelude.{◌==◌, if◌then◌else◌}
use Rattle.std.specs.Option.{option_map_or, option_and_then, IfSome, IsSome}
use Rattle.std.specs.Ordering.{nat_cmp}
use Rattle.std.specs.BTreeMap.{is_at}
use Rattle.std.specs.Map.{keys_of}
use mathlib.Core.Bool.{false≢true}
use Rattle.std.proofs.lemmas.Bool.Decides.{nat_tests, eqb_tells}
use Rattle.std.proofs.lemmas.List.{length-reverse}
use Rattle.persistence.specs.declared.facts.Facts.{Facts}
use Rattle.persistence.specs.Persistent.{is_persistent}
use Rattle.conn_log.specs.declared.base.OpenConnection.{OpenConnection}
use Rattle.conn_log.specs.declared.entry.Want.{Want}
use Rattle.conn_log.specs.declared.entry.Cause.{Cause}
use Rattle.conn_log.specs.declared.entry.Cause.TheVariants.{NotPersistent, Cut, Forbidden, TooOld, HostRoom, TotalRoom, CacheFull, Dropped, Withdrawn, Pruned}
use Rattle.conn_log.specs.declared.entry.Event.TheVariants.{Opened, Leased, Returned, Closed, Waited, Left, Limit}
use Rattle.conn_log.specs.declared.entry.Entry.{Entry}
use Rattle.conn_log.specs.Connections.{is_among, last_moment, greatest, open_connections, is_open, holder_want, held_number, holds, is_idle}
use Rattle.conn_log.specs.Waiting.{without, waiting, waits}
use Rattle.conn_log.specs.Fit.{suits}
use Rattle.conn_log.specs.Legal.{LimitAndFirst, owed, MayStartAmong, MayOpen, MayLease, MayWait, MayClose}
use Rattle.conn_log.specs.Sound.{IsSound, IsNextAmong, IsNext, has_number}
use Rattle.conn_log.specs.Bases.{summary, known_in, connections_after}
use Rattle.conn_log.specs.Laws.{known_of}
use Rattle.conn_log.proofs.Sorted.{told}
use Rattle.conn_log.proofs.Entries.{at_is}
use Rattle.conn_log.proofs.Telling.{knows_all, among_known}
use Rattle.conn_log.proofs.Steps.{IsGone, gone_closed, gone_later, more_open, as_many_idle_open, fewer_idle_lease, taken_back, taken_end, taken_same, more_idle, gone_taken, fewer_open, as_many_idle, fewer_idle, orderly_gone, is_idle_is, idle_open_unheld}
use Rattle.conn_log.proofs.Soundness.{and_left, holds_is, next_free, next_is_new, sound_open, sound_lease, sound_return, sound_wait, sound_leave, sound_limit, ended_close}
use Rattle.log_judge.specs.declared.due.Due.{Due}
use Rattle.log_judge.specs.Rules.{known_at}
use Rattle.log_judge.specs.Held.{IsSameTable, HoldsOneMore, HoldsOneLess}
use Rattle.log_judge.specs.Tables.{Follows, Stays, IsDue, entry_of, LetsGo}

none_if : {X : Type 0} (x : Option X) → is_some x ≡ false → x ≡ None
none_if None none = refl
none_if (Some x) none = absurd (false≢true (sym none))

-- a number that is not among the keys has nothing
absent : (c : ℕ) (es : List (ℕ × OpenConnection)) → is_among c (keys_of es) ≡ false → known_in es c ≡ None
absent c [] out = refl
absent c (e ∷ es) out =
    let missed : is_at (nat_cmp c) e.0 ≡ false = at_is c e.0 ∙ grind (arith, nat_tests, out) in
    rw missed (absent c es (grind (arith, out)))

-- whoever holds a connection has its number
number_is : (held : Option ℕ) (c : ℕ) → has_number held c ≡ true → held ≡ Some c
number_is None c has = absurd (false≢true has)
number_is (Some d) c has = elim (eqb_tells d c) [
  | inl same ↦ ap (λ (n : ℕ). Some n) same.1
  | inr other ↦ absurd (false≢true (sym other.0 ∙ has))
]

pub owed_due : (log : List Entry) (due : Due) → IsDue log due → owed (entry_of due ∷ log) ≡ Some (due.connection, due.cause)
owed_due log due is = rw (is.held, is.ends) (ap (λ (cause : Cause). Some (due.connection, cause)) (sym is.cause))

-- what a close asks of a connection where none is owed: that it is open
closes_open : (settings : LimitAndFirst) (log : List Entry) (c : ℕ) (cause : Cause) → IsSound settings log → MayClose log c cause → is_open log c ≡ true
closes_open settings log c Dropped sound may = sound.orderly.held_open c may.1
closes_open settings log c Withdrawn sound may = sound.orderly.held_open c may.1
closes_open settings log c Cut sound may = absurd (false≢true (ap is_some (sym sound.settled ∙ may)))
closes_open settings log c Forbidden sound may = absurd (false≢true (ap is_some (sym sound.settled ∙ may)))
closes_open settings log c NotPersistent sound may = absurd (false≢true (ap is_some (sym sound.settled ∙ may)))
closes_open settings log c TooOld sound may = (idle_open_unheld log c may.1).0
closes_open settings log c HostRoom sound may = (idle_open_unheld log c may.1).0
closes_open settings log c TotalRoom sound may = (idle_open_unheld log c may.1).0
closes_open settings log c CacheFull sound may = (idle_open_unheld log c may.1).0
closes_open settings log c Pruned sound may = (idle_open_unheld log c may.1).0

-- the holder of a connection, which is nobody's where it is not open
pub holder_told : (settings : LimitAndFirst) (log : List Entry) → IsSound settings log → (c : ℕ) → holder_want log c ≡ option_and_then (λ (k : OpenConnection). k.holder) (known_at log c)
holder_told settings log sound c = elim (told (is_open log c)) [
  | inl there ↦ rw there refl
  | inr out ↦ rw out (none_if (holder_want log c) (nobody out (is_some (holder_want log c)) (sound.orderly.held_open c)))
]
  where
    nobody : is_open log c ≡ false → (b : Bool) → (b ≡ true → is_open log c ≡ true) → b ≡ false
    nobody out false open_then = refl
    nobody out true open_then = absurd (false≢true (sym out ∙ open_then refl))

module _ (settings : LimitAndFirst) (log : List Entry) (known : List (ℕ × OpenConnection)) (held : ℕ → Option ℕ) (held_len : ℕ) (wants : List Want) (most limit : ℕ) (f : Follows settings log known held held_len wants most limit) where
  -- what is known of a connection, and how many are open
  pub known_told : (c : ℕ) → known_in known c ≡ known_at log c
  known_told c =
      let knows = knows_all settings log f.sound.legal in
      ap (λ (es : List (ℕ × OpenConnection)). known_in es c) f.known_is ∙ elim (told (is_open log c)) [
        | inl there ↦ knows.known c there ∙ sym (ap (λ b. if b then Some (known_of log c) else None) there)
        | inr out ↦ absent c (summary log).connections (among_known log knows c ∙ out) ∙ sym (ap (λ b. if b then Some (known_of log c) else None) out)
      ]

  pub open_told : length known ≡ length (open_connections log)
  open_told = ap length f.known_is ∙ sym (keys_len (summary log).connections) ∙ ap length (knows_all settings log f.sound.legal).numbers ∙ length-reverse (open_connections log)
    where
      keys_len : (es : List (ℕ × OpenConnection)) → length (keys_of es) ≡ length es
      keys_len [] = refl
      keys_len (e ∷ es) = omega (arith, keys_len es)

  pub holder_holds : (c : ℕ) (want : Want) → holder_want log c ≡ Some want → held_number log want.transfer ≡ Some c
  holder_holds c want is = number_is (held_number log want.transfer) c (sym (f.sound.orderly.held_once c want.transfer) ∙ ap (λ (o : Option Want). option_map_or (λ (w : Want). w.transfer == want.transfer) o false) is ∙ grind (arith, nat_tests))

  -- whoever holds a connection is in the table
  pub holder_there : (c : ℕ) → IfSome (holder_want log c) (λ (want : Want). IsSome (held want.transfer))
  holder_there c = there (holder_want log c) refl
    where
      there : (o : Option Want) → holder_want log c ≡ o → IfSome o (λ (want : Want). IsSome (held want.transfer))
      there None is = tt
      there (Some want) is = ap is_some (f.held_is want.transfer ∙ holder_holds c want is)

  -- a table in another order
  pub follows_same : (held' : ℕ → Option ℕ) (len' : ℕ) → IsSameTable held held' → len' ≡ held_len → Follows settings log known held' len' wants most limit
  follows_same held' len' same len_is = record {
    sound = f.sound;
    small = f.small;
    known_is = f.known_is;
    held_is = λ t. same t ∙ f.held_is t;
    open_len = omega (arith, f.open_len, len_is);
    wants_are = f.wants_are;
    most_is = f.most_is;
    limit_is = f.limit_is;
  }

  pub next_of : (want : Want) → MayStartAmong (waiting log) (holds log want.transfer) want → IsNext log want
  next_of want may = among (waiting log) may
    where
      among : (ws : List Want) → MayStartAmong ws (holds log want.transfer) want → IsNextAmong ws (held_number log want.transfer) want
      among [] free = none_if (held_number log want.transfer) (sym (holds_is settings log f.sound.orderly want.transfer) ∙ free)
      among (head ∷ others) first = first

  -- whoever may start holds nothing
  pub free_start : (want : Want) → MayStartAmong (waiting log) (holds log want.transfer) want → held want.transfer ≡ None
  free_start want may = f.held_is want.transfer ∙ next_free settings log f.sound.orderly want (next_of want may)

  module _ (moment : ℕ) (later : last_moment log ≤ moment) (known' : List (ℕ × OpenConnection)) (held' : ℕ → Option ℕ) (len' : ℕ) where
    pub follows_open : (c : ℕ) (want : Want) (wants' : List Want) → MayOpen settings log c want → known' ≡ connections_after moment (Opened c want) known → HoldsOneMore held held' want.transfer c → len' ≡ held_len + 1 → wants' ≡ without want.transfer wants → Follows settings (record { moment = moment; event = Opened c want } ∷ log) known' held' len' wants' c limit
    follows_open c want wants' may known_is put len_is wants_are =
        let orderly = f.sound.orderly in
        let first = next_of want may.start in
        let new = next_is_new settings log orderly c may.next in
        let free = next_free settings log orderly want first in
        record {
          sound = sound_open settings log f.sound moment later c want may.next may.room first;
          small = f.small;
          known_is = known_is ∙ ap (connections_after moment (Opened c want)) f.known_is;
          held_is = λ t. put t ∙ ap (λ (o : Option ℕ). if want.transfer == t then Some c else o) (f.held_is t);
          open_len = omega (arith, f.open_len, len_is, more_open settings log orderly moment c want new free may.room, as_many_idle_open settings log orderly moment c want new free may.room);
          wants_are = wants_are ∙ ap (without want.transfer) f.wants_are;
          most_is = omega (arith, may.next);
          limit_is = f.limit_is;
        }

    pub follows_lease : (c : ℕ) (want : Want) (wants' : List Want) → MayLease log c want moment → known' ≡ connections_after moment (Leased c want) known → HoldsOneMore held held' want.transfer c → len' ≡ held_len + 1 → wants' ≡ without want.transfer wants → Follows settings (record { moment = moment; event = Leased c want } ∷ log) known' held' len' wants' most limit
    follows_lease c want wants' may known_is put len_is wants_are =
        let orderly = f.sound.orderly in
        let first = next_of want may.start in
        let idle = and_left (is_idle log c) (suits log want moment c) may.fit in
        let free = next_free settings log orderly want first in
        record {
          sound = sound_lease settings log f.sound moment later c want may.fit first;
          small = f.small;
          known_is = known_is ∙ ap (connections_after moment (Leased c want)) f.known_is;
          held_is = λ t. put t ∙ ap (λ (o : Option ℕ). if want.transfer == t then Some c else o) (f.held_is t);
          open_len = omega (arith, f.open_len, len_is, fewer_idle_lease settings log orderly moment c want idle free);
          wants_are = wants_are ∙ ap (without want.transfer) f.wants_are;
          most_is = f.most_is;
          limit_is = f.limit_is;
        }

    pub follows_return : (c : ℕ) (facts : Facts) → Stays log c facts → known' ≡ connections_after moment (Returned c facts) known → (holder : Option Want) → holder ≡ holder_want log c → LetsGo holder held held' held_len len' → Follows settings (record { moment = moment; event = Returned c facts } ∷ log) known' held' len' wants most limit
    follows_return c facts stays known_is holder holder_is goes =
        let orderly = f.sound.orderly in
        let want = stays.want in
        let persists : is_persistent facts ≡ true = lasting (is_persistent facts) want.forbid_reuse stays.stays in
        let is_held : is_some (holder_want log c) ≡ true = ap is_some stays.held in
        let was_open = orderly.held_open c is_held in
        let gone : HoldsOneLess held held' want.transfer × (len' + 1 ≡ held_len) = subst (λ (o : Option Want). LetsGo o held held' held_len len') (holder_is ∙ stays.held) goes in
        record {
          sound = sound_return settings log f.sound moment later c facts want stays.held stays.stays;
          small = f.small;
          known_is = known_is ∙ ap (connections_after moment (Returned c facts)) f.known_is;
          held_is = λ t. gone.0 t ∙ ap (λ (o : Option ℕ). if want.transfer == t then None else o) (f.held_is t) ∙ sym (taken_back settings log orderly moment c facts persists t ∙ taken_end settings log orderly c want.transfer (holder_holds c want stays.held) t);
          open_len = omega (arith, f.open_len, gone.1, more_idle settings log orderly moment c facts persists was_open is_held);
          wants_are = f.wants_are;
          most_is = f.most_is;
          limit_is = f.limit_is;
        }
      where
        lasting : (whole forbids : Bool) → not (whole && not forbids) ≡ false → whole ≡ true
        lasting true forbids stays = refl
        lasting false forbids stays = absurd (false≢true (sym stays))

    -- a connection is gone
    follows_gone : (c : ℕ) (after : List Entry) → IsGone c log after → IsSound settings after → is_open log c ≡ true → known' ≡ (summary after).connections → (holder : Option Want) → holder_want log c ≡ holder → LetsGo holder held held' held_len len' → Follows settings after known' held' len' wants most limit
    follows_gone c after gone sound was_open known_is None nobody goes =
        let orderly = f.sound.orderly in
        let idle : is_idle log c ≡ true = is_idle_is log c ∙ grind (arith, was_open, ap is_none nobody) in
        record {
          sound = sound;
          small = f.small;
          known_is = known_is;
          held_is = λ t. goes.0 t ∙ f.held_is t ∙ sym (gone_taken settings log orderly c after gone t ∙ taken_same settings log orderly c nobody t);
          open_len = omega (arith, f.open_len, goes.1, fewer_open settings log orderly c after gone was_open, fewer_idle settings log orderly c after gone idle);
          wants_are = f.wants_are ∙ sym gone.waiting;
          most_is = f.most_is ∙ sym (ap (greatest settings.first) gone.opened);
          limit_is = f.limit_is ∙ sym (gone.limit settings);
        }
    follows_gone c after gone sound was_open known_is (Some want) is goes =
        let orderly = f.sound.orderly in
        record {
          sound = sound;
          small = f.small;
          known_is = known_is;
          held_is = λ t. goes.0 t ∙ ap (λ (o : Option ℕ). if want.transfer == t then None else o) (f.held_is t) ∙ sym (gone_taken settings log orderly c after gone t ∙ taken_end settings log orderly c want.transfer (holder_holds c want is) t);
          open_len = omega (arith, f.open_len, goes.1, fewer_open settings log orderly c after gone was_open, as_many_idle settings log orderly c after gone (ap is_some is));
          wants_are = f.wants_are ∙ sym gone.waiting;
          most_is = f.most_is ∙ sym (ap (greatest settings.first) gone.opened);
          limit_is = f.limit_is ∙ sym (gone.limit settings);
        }

    pub follows_close : (c : ℕ) (cause : Cause) → MayClose log c cause → known' ≡ connections_after moment (Closed c cause) known → (holder : Option Want) → holder ≡ holder_want log c → LetsGo holder held held' held_len len' → Follows settings (record { moment = moment; event = Closed c cause } ∷ log) known' held' len' wants most limit
    follows_close c cause may known_is holder holder_is goes =
        let was_open = closes_open settings log c cause f.sound may in
        let gone = gone_closed moment c cause log in
        let sound : IsSound settings (record { moment = moment; event = Closed c cause } ∷ log) = record { legal = (later, may, f.sound.legal); settled = refl; orderly = orderly_gone settings log f.sound.orderly c _ gone was_open } in
        follows_gone c (record { moment = moment; event = Closed c cause } ∷ log) gone sound was_open (known_is ∙ ap (connections_after moment (Closed c cause)) f.known_is) holder (sym holder_is) goes

    pub follows_wait : (want : Want) (wants' : List Want) → MayWait log want → known' ≡ known → IsSameTable held held' → len' ≡ held_len → wants' ≡ wants ++ want ∷ [] → Follows settings (record { moment = moment; event = Waited want } ∷ log) known' held' len' wants' most limit
    follows_wait want wants' may known_is same len_is wants_are = record {
      sound = sound_wait settings log f.sound moment later want (none_if (held_number log want.transfer) (sym (holds_is settings log f.sound.orderly want.transfer) ∙ may.holds_nothing)) may.waits_not may.none_idle;
      small = f.small;
      known_is = known_is ∙ f.known_is;
      held_is = λ t. same t ∙ f.held_is t;
      open_len = omega (arith, f.open_len, len_is);
      wants_are = wants_are ∙ ap (λ (ws : List Want). ws ++ want ∷ []) f.wants_are;
      most_is = f.most_is;
      limit_is = f.limit_is;
    }

  -- the owed close comes, in its own moment
  pub follows_end : (due : Due) (moment : ℕ) (known' : List (ℕ × OpenConnection)) (held' : ℕ → Option ℕ) (len' : ℕ) → IsDue log due → due.moment ≤ moment → known' ≡ connections_after moment (Closed due.connection due.cause) (connections_after due.moment (Returned due.connection due.facts) known) → (holder : Option Want) → holder ≡ holder_want log due.connection → LetsGo holder held held' held_len len' → Follows settings (record { moment = moment; event = Closed due.connection due.cause } ∷ entry_of due ∷ log) known' held' len' wants most limit
  follows_end due moment known' held' len' is later known_is holder holder_is goes =
      let c = due.connection in
      let was_open = f.sound.orderly.held_open c (ap is_some is.held) in
      let gone = gone_later due.moment moment c due.facts due.cause log in
      let owes = owed_due log due is in
      let may : MayClose (entry_of due ∷ log) c due.cause = subst (λ (cause : Cause). MayClose (entry_of due ∷ log) c cause) (sym is.cause) (ended_close due.facts.whole is.want.forbid_reuse (entry_of due ∷ log) c (owes ∙ ap (λ (cause : Cause). Some (c, cause)) is.cause)) in
      let sound : IsSound settings (record { moment = moment; event = Closed c due.cause } ∷ entry_of due ∷ log) = record {
        legal = (later, may, (is.later, (f.sound.settled, ap is_some is.held), f.sound.legal));
        settled = refl;
        orderly = orderly_gone settings log f.sound.orderly c _ gone was_open;
      } in
      follows_gone moment (≤_all is.later later) known' held' len' c (record { moment = moment; event = Closed c due.cause } ∷ entry_of due ∷ log) gone sound was_open (known_is ∙ ap (λ (es : List (ℕ × OpenConnection)). connections_after moment (Closed c due.cause) (connections_after due.moment (Returned c due.facts) es)) f.known_is) holder (sym holder_is) goes
    where
      ≤_all : last_moment log ≤ due.moment → due.moment ≤ moment → last_moment log ≤ moment
      ≤_all first second = omega (arith, first, second)

  pub follows_leave : (moment : ℕ) → last_moment log ≤ moment → (transfer : ℕ) (wants' : List Want) → waits log transfer ≡ true → wants' ≡ without transfer wants → Follows settings (record { moment = moment; event = Left transfer } ∷ log) known held held_len wants' most limit
  follows_leave moment later transfer wants' there wants_are = record {
    sound = sound_leave settings log f.sound moment later transfer there;
    small = f.small;
    known_is = f.known_is;
    held_is = f.held_is;
    open_len = f.open_len;
    wants_are = wants_are ∙ ap (without transfer) f.wants_are;
    most_is = f.most_is;
    limit_is = f.limit_is;
  }

  pub follows_limit : (moment : ℕ) → last_moment log ≤ moment → (n : ℕ) → n < 2 ^ 32 → length (open_connections log) ≤ n → Follows settings (record { moment = moment; event = Limit n } ∷ log) known held held_len wants most n
  follows_limit moment later n fits within = record {
    sound = sound_limit settings log f.sound moment later n within;
    small = fits;
    known_is = f.known_is;
    held_is = f.held_is;
    open_len = f.open_len;
    wants_are = f.wants_are;
    most_is = f.most_is;
    limit_is = refl;
  }
