-- The budget that threads share: two words, the seats that step on them, and the rule that ties them.
use Rattle.std.specs.Prelude.{◌≡◌, ◌≢◌, ℕ, ◌+◌, ◌-◌, ◌<◌, ◌≤◌, [], ◌∷◌}
use Rattle.std.specs.List.{sum_by}
use mathlib.Core.Option.{some}
use lib.ListN.{get_elem?}
use Rattle.atomic_table.specs.Table.{State, Me}
use Rattle.atomic_table.specs.Seated.{TableId}
use Rattle.budget.specs.declared.permits.Held.{Held}
use Rattle.budget.specs.declared.permits.Try.{Try}
use Rattle.budget.specs.declared.permits.Try.TheVariants.{Got, Full, Contended}
use Rattle.budget.specs.declared.words.view.WordView.{WordView}
use Rattle.budget.specs.declared.words.view.SeatView.{SeatView}
use Rattle.budget.specs.Limits.{Bounds}
use Rattle.budget.specs.Permits.{held}

-- a word of which nothing is held, and which was never read
abbrev pub unread : WordView
unread = record { held = 0; seen = 0; loads = 0; exchanges = 0; misses = 0; subtractions = 0; compares = 0 }

-- a seat that holds nothing
abbrev pub empty_seat : ℕ → SeatView
empty_seat share = record { share = share; total = unread; kept = unread }

abbrev pub whole : ℕ
whole = 65536

-- One step of a seat on a word, each of which it counts: a load read n; its exchange took a permit; its
-- exchange found another value than it had seen; a subtraction gave a permit back; it compared the word
-- with what it holds.
abbrev pub noted : ℕ → WordView → WordView
noted n w = record w { seen = n; loads = w.loads + 1 }

abbrev pub one_more : WordView → WordView
one_more w = record w { held = w.held + 1; exchanges = w.exchanges + 1 }

abbrev pub missed : WordView → WordView
missed w = record w { exchanges = w.exchanges + 1; misses = w.misses + 1 }

abbrev pub one_less : WordView → WordView
one_less w = record w { held = w.held - 1; subtractions = w.subtractions + 1 }

abbrev pub compared : WordView → WordView
compared w = record w { compares = w.compares + 1 }

abbrev pub on_total : (WordView → WordView) → SeatView → SeatView
on_total step v = record { share = v.share; total = step v.total; kept = v.kept }

abbrev pub on_kept : (WordView → WordView) → SeatView → SeatView
on_kept step v = record { share = v.share; total = v.total; kept = step v.kept }

-- A split hands one unit of share and no permit to the new seat.
abbrev pub after_split : SeatView → SeatView
after_split v = record { share = v.share - 1; total = v.total; kept = v.kept }

-- A join adds shares and permits up. What the second seat had seen and done counts for nothing.
abbrev pub with_more : ℕ → WordView → WordView
with_more n w = record w { held = w.held + n }

abbrev pub joined : SeatView → SeatView → SeatView
joined v w = record { share = v.share + w.share; total = with_more w.total.held v.total; kept = with_more w.kept.held v.kept }

-- then each word is compared with what the seat holds
abbrev pub joined_and_compared : SeatView → SeatView → SeatView
joined_and_compared v w = on_kept compared (on_total compared (joined v w))

abbrev pub total_of : SeatView → ℕ
total_of v = v.total.held

abbrev pub kept_of : SeatView → ℕ
kept_of v = v.kept.held

abbrev pub share_of : SeatView → ℕ
share_of v = v.share

abbrev pub Words : Type 0
Words = State (Unit {0}) SeatView

-- Between any two steps: the first word is the sum of what the seats hold open, the second the sum of
-- what they keep; neither is above its limit; the shares make up the whole, and who has none holds nothing.
pub record Rule (limits : Bounds) (s : Words) : Type 0 where
  pub words : s.words ≡ sum_by total_of s.views ∷ sum_by kept_of s.views ∷ []
  pub total : sum_by total_of s.views ≤ limits.total
  pub kept : sum_by kept_of s.views ≤ limits.connects
  pub total_fits : limits.total ≤ 65535
  pub kept_fits : limits.connects ≤ 65535
  pub shares : sum_by share_of s.views ≡ whole
  pub holders : (seat : ℕ) (v : SeatView) → get_elem? s.views seat ≡ some v → v.share ≡ 0 → (v.total.held ≡ 0) × (v.kept.held ≡ 0)

abbrev pub Sitter : Type 0
Sitter = Me (Unit {0}) SeatView

-- What a load tells: the seat notes what was read, which is no less than what the seat itself holds, and no more than the
-- word's limit.
abbrev pub Looks : ℕ → ((WordView → WordView) → SeatView → SeatView) → (SeatView → ℕ) → Sitter → ℕ → Sitter → Type 0
Looks limit on held_of me found after = (after ≡ (on (noted found) me.0, me.1)) × (held_of me.0 ≤ found) × (found ≤ limit) × (limit ≤ 65535)

-- What the loads after a join tell, whose value the view does not note: the word is no less than what the
-- seat holds.
abbrev pub Compares : ((WordView → WordView) → SeatView → SeatView) → (SeatView → ℕ) → Sitter → ℕ → Sitter → Type 0
Compares on held_of me found after = (after ≡ (on compared me.0, me.1)) × (held_of me.0 ≤ found) × (found ≤ 65535)

-- What an exchange for one more tells: where it found what the seat had seen, which is below the limit, the
-- permit is taken; where it found another value, nothing is, and the seat counts the miss.
pub record Takes (on : (WordView → WordView) → SeatView → SeatView) (word_of : SeatView → WordView) (me : Sitter) (found : ℕ) (after : Sitter) : Type 0 where
  pub hit : found ≡ (word_of me.0).seen → (after ≡ (on one_more me.0, me.1)) × ((word_of me.0).held ≤ found) × (found < 65535)
  pub miss : found ≢ (word_of me.0).seen → after ≡ (on missed me.0, me.1)

-- What a subtraction tells.
abbrev pub GivesBack : ((WordView → WordView) → SeatView → SeatView) → Sitter → Sitter → Type 0
GivesBack on me after = after ≡ (on one_less me.0, me.1)

-- a budget: which table it is, and its limits
pub record Shared : Type 0 where
  pub table : TableId
  pub limits : Bounds

-- a seat: at which table, its number there, and what it knows
pub record SeatShown : Type 0 where
  pub table : TableId
  pub number : ℕ
  pub view : SeatView

abbrev pub seated : SeatShown → SeatView → SeatShown
seated place v = record { table = place.table; number = place.number; view = v }

abbrev pub held_by : SeatShown → Held
held_by place = held place.view.total.held place.view.kept.held

-- What asking for a permit does to the seat's view of the word: one load, which read no more than the limit, and then
--   Full: nothing more, and the load read the limit;
--   Got: one exchange, which took the permit, and the load read less than the limit;
--   Contended: one exchange, which found another value, and the load read less than the limit.
abbrev pub Tries : ℕ → WordView → Try → WordView → Type 0
Tries limit old Full new = (new ≡ noted new.seen old) × (new.seen ≡ limit)
Tries limit old Got new = (new ≡ one_more (noted new.seen old)) × (new.seen < limit)
Tries limit old Contended new = (new ≡ missed (noted new.seen old)) × (new.seen < limit)

pub record TriesOpen (limit : ℕ) (old : SeatShown) (answer : Try) (new : SeatShown) : Type 0 where
  pub total : Tries limit old.view.total answer new.view.total
  pub others : new ≡ seated old (on_total (λ _. new.view.total) old.view)

pub record TriesKept (limit : ℕ) (old : SeatShown) (answer : Try) (new : SeatShown) : Type 0 where
  pub kept : Tries limit old.view.kept answer new.view.kept
  pub others : new ≡ seated old (on_kept (λ _. new.view.kept) old.view)

-- a later time of the same seat: its loads and misses only grew
pub record IsLater (x y : SeatView) : Type 0 where
  pub share : y.share ≡ x.share
  pub total_loads : x.total.loads ≤ y.total.loads
  pub total_misses : x.total.misses ≤ y.total.misses
  pub kept_loads : x.kept.loads ≤ y.kept.loads
  pub kept_misses : x.kept.misses ≤ y.kept.misses

-- What an answer told since an earlier time says: Full, that a load was made since and the last one read
-- the limit; Contended, that an exchange made since found another value.
abbrev pub Answers : ℕ → WordView → WordView → Try → Type 0
Answers limit x y Got = Unit {0}
Answers limit x y Full = (x.loads < y.loads) × (y.seen ≡ limit)
Answers limit x y Contended = x.misses < y.misses

-- the same seat of the same budget, at a later time
pub record Stays (b : Shared) (p : SeatShown) (c : Shared) (q : SeatShown) : Type 0 where
  pub budget : c ≡ b
  pub table : q.table ≡ p.table
  pub number : q.number ≡ p.number
  pub later : IsLater p.view q.view

-- Between the two times of a seat the budget was asked this often for an open connection, and this often to
-- keep one: so many loads were made.
pub record LoadsMore (x y : SeatView) (opens keeps : ℕ) : Type 0 where
  pub total : y.total.loads ≡ x.total.loads + opens
  pub kept : y.kept.loads ≡ x.kept.loads + keeps

abbrev pub Opening : Shared → SeatShown → SeatShown → Try → Type 0
Opening b p q answer = Answers b.limits.total p.view.total q.view.total answer

abbrev pub Keeping : Shared → SeatShown → SeatShown → Try → Type 0
Keeping b p q answer = Answers b.limits.connects p.view.kept q.view.kept answer
