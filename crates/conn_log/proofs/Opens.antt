-- Counting those that are open entry by entry.
use Rattle.std.proofs.Common.{◌≡◌, ℕ, ◌+◌, ◌<◌, Bool, List, length, get_or, take, reverse, if◌then◌else◌, refl, ap, ◌∙◌, arith}
use Rattle.conn_log.proofs.Logs.{reverse_take_more}
use Rattle.conn_log.specs.declared.entry.Want.{Want}
use Rattle.conn_log.specs.declared.entry.Event.{Event}
use Rattle.conn_log.specs.declared.entry.Event.TheVariants.{Opened, Leased, Returned, Closed, Waited, Left, Limit}
use Rattle.conn_log.specs.declared.entry.Entry.{Entry}
use Rattle.conn_log.specs.Connections.{opened_after}
use Rattle.conn_log.specs.Bases.{Summary}
use Rattle.conn_log.specs.Behind.{left_open, opened_behind}
use Rattle.conn_log.specs.Scan.{is_left_open}

pub open_after : (log : List Entry) (event : Event) (numbers : List ℕ) → length (left_open log (opened_after event numbers)) ≡ (if is_left_open event log then 1 else 0) + length (left_open log numbers)
open_after log (Opened c want) numbers = grind arith
open_after log (Leased c want) numbers = omega arith
open_after log (Returned c facts) numbers = omega arith
open_after log (Closed c cause) numbers = omega arith
open_after log (Waited want) numbers = omega arith
open_after log (Left transfer) numbers = omega arith
open_after log (Limit n) numbers = omega arith

-- the numbers behind a base after one more entry
pub opened_behind_more : (base : Summary) (xs : List Entry) (i : ℕ) (d : Entry) → i < length xs → opened_behind base (reverse (take (i + 1) xs)) ≡ opened_after (get_or xs i d).event (opened_behind base (reverse (take i xs)))
opened_behind_more base xs i d below = ap (opened_behind base) (reverse_take_more xs i d below)

-- the count after one more entry
pub counted_more : (base : Summary) (log xs : List Entry) (i count next : ℕ) (counts : Bool) (d : Entry) → i < length xs → count ≡ length (left_open log (opened_behind base (reverse (take i xs)))) → counts ≡ is_left_open (get_or xs i d).event log → next ≡ (if counts then count + 1 else count) → next ≡ length (left_open log (opened_behind base (reverse (take (i + 1) xs))))
counted_more base log xs i count next counts d below counted told is =
    let more : length (left_open log (opened_behind base (reverse (take (i + 1) xs)))) ≡ (if is_left_open (get_or xs i d).event log then 1 else 0) + length (left_open log (opened_behind base (reverse (take i xs)))) =
    ap (λ numbers. length (left_open log numbers)) (opened_behind_more base xs i d below) ∙ open_after log (get_or xs i d).event (opened_behind base (reverse (take i xs))) in
    grind (arith, more, told)

-- an event that opens nothing
pub none_opened : (event : Event) → ((c : ℕ) (want : Want) → event ≡ Opened c want → ⊥) → (numbers : List ℕ) → opened_after event numbers ≡ numbers
none_opened (Opened c want) not_one numbers = absurd (not_one c want refl)
none_opened (Leased c want) not_one numbers = refl
none_opened (Returned c facts) not_one numbers = refl
none_opened (Closed c cause) not_one numbers = refl
none_opened (Waited want) not_one numbers = refl
none_opened (Left transfer) not_one numbers = refl
none_opened (Limit n) not_one numbers = refl
