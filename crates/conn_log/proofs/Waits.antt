-- Who waits, entry by entry.
use Rattle.std.proofs.Common.{◌≡◌, ℕ, ◌+◌, ◌-◌, ◌<◌, ◌≤◌, Bool, true, false, not, cond, nat_eq, ◌&&◌, ◌||◌, ◌==◌, List, [], ◌∷◌, ◌++◌, length, get_or, take, drop, reverse, filter, if◌then◌else◌, refl, sym, ap, ◌∙◌, arith}
use Rattle.std.proofs.lemmas.List.Elements.{filter-append}
use Rattle.std.proofs.lemmas.List.{length-append, append_assoc, append-nil, reverse-append, drop_more, drop_all, take_all}
use Rattle.conn_log.proofs.Logs.{reverse_take_more, rest_whole}
use Rattle.std.proofs.lemmas.Bool.Decides.{nat_tests}
use Rattle.conn_log.specs.declared.entry.Want.{Want}
use Rattle.conn_log.specs.declared.entry.Event.{Event}
use Rattle.conn_log.specs.declared.entry.Event.TheVariants.{Opened, Leased, Returned, Closed, Waited, Left, Limit}
use Rattle.conn_log.specs.declared.entry.Entry.{Entry}
use Rattle.conn_log.specs.Waiting.{without, waiting, waiting_after, waiting_since}
use Rattle.conn_log.specs.Scan.{ends_wait, is_wait_ended, left_waiting, is_left_waiting, is_wait_begun, is_any_wait_begun}

-- none of the entries takes the want's transfer
abbrev pub is_untaken : List Entry → Want → Bool
is_untaken others want = not (is_wait_ended others want.transfer)

-- a filter of a filter asks both tests
pub filter-filter : {X : Type 0} (p q r : X → Bool) → ((x : X) → r x ≡ (q x && p x)) → (xs : List X) → filter p (filter q xs) ≡ filter r xs
filter-filter p q r both [] = refl
filter-filter p q r both (x ∷ xs) = grind (arith, both x, filter-filter p q r both xs)

-- the want that begins to wait in an event, if no later entry ends that
abbrev pub late_want : Event → List Entry → List Want
late_want (Waited want) later = filter (is_untaken later) (want ∷ [])
late_want _ later = []

late_want-length : (event : Event) (later : List Entry) → length (late_want event later) ≡ (if is_left_waiting event later then 1 else 0)
late_want-length (Opened c want) later = refl
late_want-length (Leased c want) later = refl
late_want-length (Returned c facts) later = refl
late_want-length (Closed c cause) later = refl
late_want-length (Waited want) later = by_test (is_wait_ended later want.transfer)
  where
    by_test : (ended : Bool) → length (if not ended then want ∷ [] else []) ≡ (if not ended then 1 else 0)
    by_test true = refl
    by_test false = refl
late_want-length (Left transfer) later = refl
late_want-length (Limit n) later = refl

-- those that no later entry takes, with one more entry before the later ones
module _ (moment : ℕ) (wants : List Want) (later : List Entry) where
  -- those that are left of the wants after the entry, and of the wants before it
  abbrev with_it : Event → List Want
  with_it event = left_waiting later (waiting_after event wants)

  abbrev without_it : Event → List Want
  without_it event = left_waiting (record { moment = moment; event = event } ∷ later) wants

  left_after : (event : Event) → with_it event ≡ without_it event ++ late_want event later
  left_after (Opened c want) = filter-filter _ _ _ (λ x. grind (arith, nat_tests)) wants ∙ sym (append-nil (without_it (Opened c want)))
  left_after (Leased c want) = filter-filter _ _ _ (λ x. grind (arith, nat_tests)) wants ∙ sym (append-nil (without_it (Leased c want)))
  left_after (Left transfer) = filter-filter _ _ _ (λ x. grind (arith, nat_tests)) wants ∙ sym (append-nil (without_it (Left transfer)))
  left_after (Returned c facts) = sym (append-nil (without_it (Returned c facts)))
  left_after (Closed c cause) = sym (append-nil (without_it (Closed c cause)))
  left_after (Limit n) = sym (append-nil (without_it (Limit n)))
  left_after (Waited want) = filter-append (is_untaken later) wants (want ∷ [])

-- the whole list, where no entry is left
pub none_taken : (xs : List Want) → left_waiting [] xs ≡ xs
none_taken [] = refl
none_taken (x ∷ xs) = ap (λ rest. x ∷ rest) (none_taken xs)

module _ (start : List Want) (xs : List Entry) where
  -- of those that wait after the first i entries what the others leave
  abbrev pub left_at : ℕ → List Want
  left_at i = left_waiting (drop i xs) (waiting_since start (reverse (take i xs)))

  pub left_at_more : (i : ℕ) (d : Entry) → i < length xs → left_at (i + 1) ≡ left_at i ++ late_want (get_or xs i d).event (drop (i + 1) xs)
  left_at_more i d below =
      rw (reverse_take_more xs i d below, drop_more xs i d below) (left_after (get_or xs i d).moment (waiting_since start (reverse (take i xs))) (drop (i + 1) xs) (get_or xs i d).event)

  -- after the last entry
  pub left_at_all : (i : ℕ) → length xs ≤ i → left_at i ≡ waiting_since start (reverse xs)
  left_at_all i past = rw (drop_all i xs past, take_all i xs past) (none_taken (waiting_since start (reverse xs)))

  -- the count after one more entry
  pub counted_more : (i count next : ℕ) (counts : Bool) (d : Entry) → i < length xs → count ≡ length (left_at i) → counts ≡ is_left_waiting (get_or xs i d).event (take (length xs - (i + 1)) (drop (i + 1) xs)) → next ≡ (if counts then count + 1 else count) → next ≡ length (left_at (i + 1))
  counted_more i count next counts d below counted told is =
      let late = late_want (get_or xs i d).event (drop (i + 1) xs) in
      let more : length (left_at (i + 1)) ≡ length (left_at i) + length late = ap length (left_at_more i d below) ∙ length-append (left_at i) late in
      let one = late_want-length (get_or xs i d).event (drop (i + 1) xs) in
      let told' : counts ≡ is_left_waiting (get_or xs i d).event (drop (i + 1) xs) = told ∙ ap (is_left_waiting (get_or xs i d).event) (rest_whole xs (i + 1)) in
      grind (arith, more, one, told')

  -- from the last entry to the first: what was found of the later ones, the last one first
  pub found_more : (i : ℕ) (d : Entry) (found : List Want) → i < length xs → left_at (i + 1) ++ found ≡ waiting_since start (reverse xs) → left_at i ++ (late_want (get_or xs i d).event (drop (i + 1) xs) ++ found) ≡ waiting_since start (reverse xs)
  found_more i d found below so_far =
      sym (append_assoc (left_at i) (late_want (get_or xs i d).event (drop (i + 1) xs)) found) ∙ ap (λ wants. wants ++ found) (sym (left_at_more i d below)) ∙ so_far

-- which transfers' waits some entries end does not hang on their order
ended_append : (xs ys : List Entry) (t : ℕ) → is_wait_ended (xs ++ ys) t ≡ (is_wait_ended xs t || is_wait_ended ys t)
ended_append [] ys t = refl
ended_append (e ∷ xs) ys t = grind (arith, ended_append xs ys t)

pub ended_reverse : (xs : List Entry) (t : ℕ) → is_wait_ended (reverse xs) t ≡ is_wait_ended xs t
ended_reverse [] t = refl
ended_reverse (e ∷ xs) t = ap (λ entries. is_wait_ended entries t) (reverse-append (e ∷ []) xs) ∙ ended_append (reverse xs) (e ∷ []) t ∙ grind (arith, ended_reverse xs t)

-- what is found from the last entry back to a place: who began to wait from there on and still waits, the first one
-- first, and whose waits were ended there
pub record IsFoundFrom (xs : List Entry) (place : ℕ) (found : List Want) (gone : ℕ → Bool) : Type 0 where
  pub within : place ≤ length xs
  pub waits : left_at [] xs place ++ found ≡ waiting_since [] (reverse xs)
  pub ends : (t : ℕ) → gone t ≡ is_wait_ended (drop place xs) t

pub found_none : (xs : List Entry) (gone : ℕ → Bool) → ((t : ℕ) → gone t ≡ false) → IsFoundFrom xs (length xs) [] gone
found_none xs gone none = record {
  within = omega arith;
  waits = append-nil (left_at [] xs (length xs)) ∙ left_at_all [] xs (length xs) (omega arith);
  ends = λ t. none t ∙ sym (ap (λ later. is_wait_ended later t) (drop_all (length xs) xs (omega arith)));
}

pub found_before : (xs : List Entry) (place : ℕ) (found found' : List Want) (gone gone' : ℕ → Bool) (d : Entry) (event : Event) → IsFoundFrom xs place found gone → 0 < place → (get_or xs (place - 1) d).event ≡ event → found' ≡ late_want event (drop place xs) ++ found → ((t : ℕ) → gone' t ≡ (ends_wait event t || gone t)) → IsFoundFrom xs (place - 1) found' gone'
found_before xs place found found' gone gone' d event so_far some here found_is gone_is =
    let i = place - 1 in
    let back : i + 1 ≡ place = omega (arith, some) in
    let below : i < length xs = omega (arith, some, so_far.within) in
    let more = found_more [] xs i d found below (ap (λ n. left_at [] xs n ++ found) back ∙ so_far.waits) in
    let late : found' ≡ late_want (get_or xs i d).event (drop (i + 1) xs) ++ found = found_is ∙ ap (λ (e : Event). late_want e (drop place xs) ++ found) (sym here) ∙ ap (λ n. late_want (get_or xs i d).event (drop n xs) ++ found) (sym back) in
    record {
      within = omega (arith, below);
      waits = ap (λ wants. left_at [] xs i ++ wants) late ∙ more;
      ends = λ t. gone_is t ∙ ap (λ b. ends_wait event t || b) (so_far.ends t) ∙ ap (λ (e : Event). ends_wait e t || is_wait_ended (drop place xs) t) (sym here) ∙ ap (λ n. ends_wait (get_or xs i d).event t || is_wait_ended (drop n xs) t) (sym back) ∙ sym (ap (λ later. is_wait_ended later t) (drop_more xs i d below));
    }

-- whether a want that begins to wait is left
pub late_gone : (want : Want) (later : List Entry) → is_wait_ended later want.transfer ≡ true → late_want (Waited want) later ≡ []
late_gone want later ended = ap (λ b. if not b then want ∷ [] else []) ended

pub late_stays : (want : Want) (later : List Entry) → is_wait_ended later want.transfer ≡ false → late_want (Waited want) later ≡ want ∷ []
late_stays want later ends_not = ap (λ b. if not b then want ∷ [] else []) ends_not

-- the transfers whose waits are ended, once one more is noted
pub noted : (transfer : ℕ) (gone gone' : ℕ → Bool) → ((t : ℕ) → gone' t ≡ cond (nat_eq transfer t) true (gone t)) → (t : ℕ) → gone' t ≡ ((t == transfer) || gone t)
noted transfer gone gone' adds t = adds t ∙ ap (λ b. cond b true (gone t)) (turned transfer t) ∙ by_test (t == transfer)
  where
    turned : (a b : ℕ) → nat_eq a b ≡ (b == a)
    turned a b = grind (arith, nat_tests)

    by_test : (b : Bool) → cond b true (gone t) ≡ (b || gone t)
    by_test true = refl
    by_test false = refl

-- those that waited before some entries and still wait, and those that began to wait in them
pub waiting_split : (start : List Want) (log : List Entry) → waiting_since start log ≡ left_waiting log start ++ waiting_since [] log
waiting_split start [] = sym (append-nil (left_waiting [] start) ∙ none_taken start)
waiting_split start (e ∷ before) =
    ap (waiting_after e.event) (waiting_split start before) ∙ by_event e.event
  where
    old : List Want
    old = left_waiting before start

    new : List Want
    new = waiting_since [] before

    by_event : (event : Event) → waiting_after event (old ++ new) ≡ left_waiting (record { moment = e.moment; event = event } ∷ before) start ++ waiting_after event new
    by_event (Opened c want) = filter-append _ old new ∙ ap (λ wants. wants ++ without want.transfer new) (filter-filter _ _ _ (λ x. grind (arith, nat_tests)) start)
    by_event (Leased c want) = filter-append _ old new ∙ ap (λ wants. wants ++ without want.transfer new) (filter-filter _ _ _ (λ x. grind (arith, nat_tests)) start)
    by_event (Left transfer) = filter-append _ old new ∙ ap (λ wants. wants ++ without transfer new) (filter-filter _ _ _ (λ x. grind (arith, nat_tests)) start)
    by_event (Returned c facts) = refl
    by_event (Closed c cause) = refl
    by_event (Limit n) = refl
    by_event (Waited want) = append_assoc old new (want ∷ [])

begun_append : (xs ys : List Entry) → is_any_wait_begun (xs ++ ys) ≡ (is_any_wait_begun xs || is_any_wait_begun ys)
begun_append [] ys = refl
begun_append (e ∷ xs) ys = grind (arith, begun_append xs ys)

begun_reverse : (xs : List Entry) → is_any_wait_begun (reverse xs) ≡ is_any_wait_begun xs
begun_reverse [] = refl
begun_reverse (e ∷ xs) = ap is_any_wait_begun (reverse-append (e ∷ []) xs) ∙ begun_append (reverse xs) (e ∷ []) ∙ grind (arith, begun_reverse xs)

-- where nobody began to wait, nobody waits
nobody_waits : (log : List Entry) → is_any_wait_begun log ≡ false → waiting_since [] log ≡ []
nobody_waits [] none = refl
nobody_waits (e ∷ before) none = ap (waiting_after e.event) (nobody_waits before (grind (arith, none))) ∙ by_event e.event (grind (arith, none))
  where
    by_event : (event : Event) → is_wait_begun event ≡ false → waiting_after event [] ≡ []
    by_event (Opened c want) begins = refl
    by_event (Leased c want) begins = refl
    by_event (Left transfer) begins = refl
    by_event (Returned c facts) begins = refl
    by_event (Closed c cause) begins = refl
    by_event (Limit n) begins = refl
    by_event (Waited want) begins = absurd (cc begins)

pub nobody_waits_after : (xs : List Entry) → is_any_wait_begun xs ≡ false → waiting_since [] (reverse xs) ≡ []
nobody_waits_after xs none = nobody_waits (reverse xs) (begun_reverse xs ∙ none)

-- of those that waited before what the entries leave, once one more is looked at
pub looked_at : (rest : List Entry) (items late : List Want) (i : ℕ) (d : Want) (wants wants' : List Want) (stays : Bool) → i < length items → reverse wants ≡ left_waiting (reverse rest) (reverse (take i items)) ++ late → stays ≡ not (is_wait_ended rest (get_or items i d).transfer) → reverse wants' ≡ (if stays then get_or items i d ∷ reverse wants else reverse wants) → reverse wants' ≡ left_waiting (reverse rest) (reverse (take (i + 1) items)) ++ late
looked_at rest items late i d wants wants' stays below so_far told is =
    let want = get_or items i d in
    let old = left_waiting (reverse rest) (reverse (take i items)) in
    let test : stays ≡ is_untaken (reverse rest) want = told ∙ ap not (sym (ended_reverse rest want.transfer)) in
    is ∙ ap (λ xs. if stays then want ∷ xs else xs) so_far ∙ by_test stays want old ∙ ap (λ b. (if b then want ∷ old else old) ++ late) test
    ∙ ap (λ xs. left_waiting (reverse rest) xs ++ late) (sym (reverse_take_more items i d below))
  where
    by_test : (b : Bool) (want : Want) (old : List Want) → (if b then want ∷ (old ++ late) else old ++ late) ≡ (if b then want ∷ old else old) ++ late
    by_test true want old = refl
    by_test false want old = refl

-- a log's wants are those of a front and of what follows
pub waiting_append : (rest past : List Entry) → waiting_since (waiting past) rest ≡ waiting (rest ++ past)
waiting_append [] past = refl
waiting_append (e ∷ rest) past = ap (waiting_after e.event) (waiting_append rest past)
