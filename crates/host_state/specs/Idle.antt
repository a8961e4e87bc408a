-- The list of idle connections that a bundle keeps, oldest first.
use Rattle.std.specs.Prelude.{◌≡◌, ℕ, ◌-◌, ◌<◌, ◌≤◌, Bool, true, false, not, ◌&&◌, ◌==◌, if◌then◌else◌, List, [], ◌∷◌, length, map, filter, take, slice_index_or, Option, Some, None}
use Rattle.std.specs.List.{AllPairs, remove}
use Rattle.conn_log.specs.declared.entry.Want.{Want}
use Rattle.conn_log.specs.Fit.{is_older, is_earlier}
use Rattle.conn_log.specs.Sound.{IdleFacts}
use Rattle.host_state.specs.declared.closing.Closing.{Closing}
use Rattle.host_state.specs.declared.closing.Closing.TheVariants.{TooOld, Pruned, Above}
use Rattle.host_state.specs.declared.idle.Idle.{Idle}

-- it suits a want, as one that came back persistent does
abbrev pub item_suits : {S : Type 0} → Want → ℕ → Idle S → Bool
item_suits want moment kept = (kept.lane == want.lane) && not want.fresh && not (is_older kept.since kept.born want.max_age want.max_life moment)

-- it is too old for a want of its lane, which is not for a new one
abbrev pub item_too_old : {S : Type 0} → Want → ℕ → Idle S → Bool
item_too_old want moment kept = (kept.lane == want.lane) && not want.fresh && is_older kept.since kept.born want.max_age want.max_life moment

-- none that is idle for a shorter time is too old: no lifetime is asked, and it is not too old itself
abbrev pub ends_search : {S : Type 0} → Want → ℕ → Idle S → Bool
ends_search want moment kept = (want.max_life == 0) && not (is_older kept.since kept.born want.max_age want.max_life moment)

-- idle for longer, as stamps of one host say it
abbrev pub is_before : ℕ → ℕ → ℕ → ℕ → Bool
is_before since number other_since other_number = is_earlier (record { since = since; host = 0; number = number }) (record { since = other_since; host = 0; number = other_number })

abbrev pub item_before : {S : Type 0} → Idle S → Idle S → Bool
item_before x y = is_before x.since x.number y.since y.number

-- each one goes before those after it
abbrev pub AreInOrder : {S : Type 0} → List (Idle S) → Type 0
AreInOrder idle = AllPairs (λ x y. item_before x y ≡ true) idle

-- the one at that place suits, and none after it does
pub record LastSuits {S : Type 0} (want : Want) (moment : ℕ) (idle : List (Idle S)) (place : ℕ) : Type 0 where
  pub in_range : place < length idle
  pub here : (d : Idle S) → item_suits want moment (slice_index_or idle place d) ≡ true
  pub none_after : (k : ℕ) (d : Idle S) → place < k → k < length idle → item_suits want moment (slice_index_or idle k d) ≡ false

abbrev pub NoneSuits : {S : Type 0} → Want → ℕ → List (Idle S) → Type 0
NoneSuits {S} want moment idle = (k : ℕ) (d : Idle S) → k < length idle → item_suits want moment (slice_index_or idle k d) ≡ false

-- the one at that place is too old, and none before it is
pub record FirstTooOld {S : Type 0} (want : Want) (moment : ℕ) (idle : List (Idle S)) (place : ℕ) : Type 0 where
  pub in_range : place < length idle
  pub here : (d : Idle S) → item_too_old want moment (slice_index_or idle place d) ≡ true
  pub none_before : (k : ℕ) (d : Idle S) → k < place → item_too_old want moment (slice_index_or idle k d) ≡ false

abbrev pub NoneTooOld : {S : Type 0} → Want → ℕ → List (Idle S) → Type 0
NoneTooOld {S} want moment idle = (k : ℕ) (d : Idle S) → k < length idle → item_too_old want moment (slice_index_or idle k d) ≡ false

-- idle, or open, for longer than two numbers allow, whatever its lane
abbrev pub item_older : {S : Type 0} → ℕ → ℕ → ℕ → Idle S → Bool
item_older max_age max_life moment kept = is_older kept.since kept.born max_age max_life moment

-- the one at that place is older than two numbers allow, and none before it is
pub record FirstOlder {S : Type 0} (max_age max_life moment : ℕ) (idle : List (Idle S)) (place : ℕ) : Type 0 where
  pub in_range : place < length idle
  pub here : (d : Idle S) → item_older max_age max_life moment (slice_index_or idle place d) ≡ true
  pub none_before : (k : ℕ) (d : Idle S) → k < place → item_older max_age max_life moment (slice_index_or idle k d) ≡ false

abbrev pub NoneOlder : {S : Type 0} → ℕ → ℕ → ℕ → List (Idle S) → Type 0
NoneOlder {S} max_age max_life moment idle = (k : ℕ) (d : Idle S) → k < length idle → item_older max_age max_life moment (slice_index_or idle k d) ≡ false

-- what a closing picks of them, where so many connections are open
abbrev pub picked_items : {S : Type 0} → Closing → ℕ → ℕ → List (Idle S) → List (Idle S)
picked_items (TooOld want) moment open_len idle = filter (item_too_old want moment) idle
picked_items (Pruned max_age max_life) moment open_len idle = filter (item_older max_age max_life moment) idle
picked_items (Above limit) moment open_len idle = take (open_len - limit) idle

-- a closing picks the one at that place, and then what it picks once that one is closed
pub record PicksFirst {S : Type 0} (closing : Closing) (moment open_len : ℕ) (idle : List (Idle S)) (place : ℕ) : Type 0 where
  pub in_range : place < length idle
  pub picks : (x : Idle S) → x ≡ slice_index_or idle place x → picked_items closing moment open_len idle ≡ x ∷ picked_items closing moment (open_len - 1) (remove idle place)

-- all before the place go before such a one, and none from the place on does
pub record IsPlaceFor {S : Type 0} (since number : ℕ) (idle : List (Idle S)) (place : ℕ) : Type 0 where
  pub in_range : place ≤ length idle
  pub before : (k : ℕ) (d : Idle S) → k < place → (let x = slice_index_or idle k d in is_before x.since x.number since number) ≡ true
  pub after : (k : ℕ) (d : Idle S) → place ≤ k → k < length idle → (let x = slice_index_or idle k d in is_before x.since x.number since number) ≡ false

-- the first one with that number
abbrev pub find_number : {S : Type 0} → List (Idle S) → ℕ → Option (Idle S)
find_number [] c = None
find_number (x ∷ idle) c = if x.number == c then Some x else find_number idle c

abbrev pub numbers : {S : Type 0} → List (Idle S) → List ℕ
numbers idle = map (λ x. x.number) idle

-- what the log knows of one
abbrev pub facts_of_idle : {S : Type 0} → Idle S → IdleFacts
facts_of_idle x = record { lane = x.lane; born = x.born; since = x.since }

-- the streams, by number
abbrev pub stream_pair : {S : Type 0} → Idle S → ℕ × S
stream_pair x = (x.number, x.stream)

abbrev pub streams_of : {S : Type 0} → List (Idle S) → List (ℕ × S)
streams_of idle = map stream_pair idle

-- the stream under that number
abbrev pub stream_of : {S : Type 0} → List (ℕ × S) → ℕ → Option S
stream_of [] c = None
stream_of (x ∷ streams) c = if x.0 == c then Some x.1 else stream_of streams c
