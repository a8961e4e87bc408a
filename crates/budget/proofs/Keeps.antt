-- Each kind of step on the words keeps their rule.
use Rattle.std.proofs.Common.{◌≡◌, ◌≢◌, ℕ, ◌+◌, ◌-◌, ◌%◌, ◌^◌, ◌<◌, ◌≤◌, eqb, List, [], ◌∷◌, ◌++◌, get_or, set, sym, refl, ap, ◌∙◌, subst, ⊎_elim, arith}
use mathlib.Core.Option.{some, some-injective}
use lib.ListN.{get_elem?}
use prog.Atomic.{either}
use Rattle.std.specs.List.{sum_by}
use Rattle.atomic_table.specs.Table.{keeps, stepped, Allows, Splits, Joins}
use Rattle.atomic_table.proofs.Lists.{at_set, at_snoc, exchanged}
use Rattle.budget.specs.declared.words.view.WordView.{WordView}
use Rattle.budget.specs.declared.words.view.SeatView.{SeatView}
use Rattle.budget.specs.Limits.{Bounds}
use Rattle.budget.specs.Words.{Words, Rule, Sitter, Looks, Compares, Takes, GivesBack, noted, one_more, one_less, missed, compared, on_total, on_kept, total_of, kept_of, share_of, after_split, joined, empty_seat}
use Rattle.budget.proofs.Sums.{sum-set, sum-cut, sum-join, at-le-sum, only}

-- a list of two words, with one of them set
pair : {ws : List ℕ} {a b : ℕ} → ws ≡ a ∷ b ∷ [] → (n : ℕ) → set ws 0 n ≡ n ∷ b ∷ []
pair e n = ap (λ (l : List ℕ). set l 0 n) e

pair-1 : {ws : List ℕ} {a b : ℕ} → ws ≡ a ∷ b ∷ [] → (n : ℕ) → set ws 1 n ≡ a ∷ n ∷ []
pair-1 e n = ap (λ (l : List ℕ). set l 1 n) e

two : (a b c d : ℕ) → a ≡ c → b ≡ d → a ∷ b ∷ [] ≡ c ∷ d ∷ []
two a b c d e f i = e i ∷ f i ∷ []

module _ (limits : Bounds) where
  -- who has a share may hold what it likes
  holders-set : (s : Words) (r : Rule limits s) (seat : ℕ) (w : SeatView) → 0 < w.share
      → (other : ℕ) (u : SeatView) → get_elem? (set s.views seat w) other ≡ some u → u.share ≡ 0 → (u.total.held ≡ 0) × (u.kept.held ≡ 0)
  holders-set s r seat w some_share other u at none_left =
      ⊎_elim (λ here. let is : w.share ≡ u.share = ap share_of here.1 in absurd (omega arith)) (λ there. r.holders other u there.1 none_left) (at_set s.views seat other w u at)

  -- a step on the total
  pub on_first : (s : Words) (r : Rule limits s) (seat : ℕ) (v : SeatView) (word : WordView) (n : ℕ) (slots : List (ℕ × Unit {0})) → get_elem? s.views seat ≡ some v → 0 < v.share
      → n + v.total.held ≡ sum_by total_of s.views + word.held → n ≤ limits.total
      → Rule limits (stepped s 0 n seat slots (on_total (λ _. word) v) keeps)
  on_first s r seat v word n slots at some_share sum within =
      let w : SeatView = on_total (λ _. word) v in
      let total = sum-set total_of s.views seat v w at in
      let kept = sum-set kept_of s.views seat v w at in
      let share = sum-set share_of s.views seat v w at in
      let is : n ≡ sum_by total_of (set s.views seat w) = omega arith in
      let same : sum_by kept_of s.views ≡ sum_by kept_of (set s.views seat w) = omega arith in
      record {
        words = pair r.words n ∙ two _ _ _ _ is same;
        total = subst (λ (m : ℕ). m ≤ limits.total) is within;
        kept = subst (λ (m : ℕ). m ≤ limits.connects) same r.kept;
        total_fits = r.total_fits;
        kept_fits = r.kept_fits;
        shares = let all = r.shares in omega arith;
        holders = holders-set s r seat w some_share;
      }

  -- a step on the number kept
  pub on_second : (s : Words) (r : Rule limits s) (seat : ℕ) (v : SeatView) (word : WordView) (n : ℕ) (slots : List (ℕ × Unit {0})) → get_elem? s.views seat ≡ some v → 0 < v.share
      → n + v.kept.held ≡ sum_by kept_of s.views + word.held → n ≤ limits.connects
      → Rule limits (stepped s 1 n seat slots (on_kept (λ _. word) v) keeps)
  on_second s r seat v word n slots at some_share sum within =
      let w : SeatView = on_kept (λ _. word) v in
      let total = sum-set total_of s.views seat v w at in
      let kept = sum-set kept_of s.views seat v w at in
      let share = sum-set share_of s.views seat v w at in
      let is : n ≡ sum_by kept_of (set s.views seat w) = omega arith in
      let same : sum_by total_of s.views ≡ sum_by total_of (set s.views seat w) = omega arith in
      record {
        words = pair-1 r.words n ∙ two _ _ _ _ same is;
        total = subst (λ (m : ℕ). m ≤ limits.total) same r.total;
        kept = subst (λ (m : ℕ). m ≤ limits.connects) is within;
        total_fits = r.total_fits;
        kept_fits = r.kept_fits;
        shares = let all = r.shares in omega arith;
        holders = holders-set s r seat w some_share;
      }

  -- one word of the two: where it stands, what a seat knows of it, its limit, and when a step on it keeps the rule
  pub record Word : Type 0 where
    pub index : ℕ
    pub on : (WordView → WordView) → SeatView → SeatView
    pub word_of : SeatView → WordView
    pub limit : ℕ
    pub fits : (s : Words) → Rule limits s → limit ≤ 65535
    pub within : (s : Words) → Rule limits s → get_or s.words index 0 ≤ limit
    pub sum : (s : Words) → Rule limits s → get_or s.words index 0 ≡ sum_by (λ (v : SeatView). (word_of v).held) s.views
    pub steps : (s : Words) (r : Rule limits s) (seat : ℕ) (v : SeatView) (change : WordView → WordView) (n : ℕ) (slots : List (ℕ × Unit {0})) → get_elem? s.views seat ≡ some v → 0 < v.share
        → n + (word_of v).held ≡ get_or s.words index 0 + (change (word_of v)).held → n ≤ limit
        → Rule limits (stepped s index n seat slots (on change v) keeps)

  pub first_word : (s : Words) → Rule limits s → get_or s.words 0 0 ≡ sum_by total_of s.views
  first_word s r = ap (λ (l : List ℕ). get_or l 0 0) r.words

  abbrev pub total_word : Word
  total_word = record {
    index = 0;
    on = on_total;
    word_of = λ v. v.total;
    limit = limits.total;
    fits = λ s r. r.total_fits;
    within = λ s r. subst (λ (n : ℕ). n ≤ limits.total) (sym (first_word s r)) r.total;
    sum = first_word;
    steps = λ s r seat v change n slots at some_share sum within. on_first s r seat v (change v.total) n slots at some_share (sum ∙ ap (λ (m : ℕ). m + (change v.total).held) (first_word s r)) within;
  }

  pub second_word : (s : Words) → Rule limits s → get_or s.words 1 0 ≡ sum_by kept_of s.views
  second_word s r = ap (λ (l : List ℕ). get_or l 1 0) r.words

  abbrev pub kept_word : Word
  kept_word = record {
    index = 1;
    on = on_kept;
    word_of = λ v. v.kept;
    limit = limits.connects;
    fits = λ s r. r.kept_fits;
    within = λ s r. subst (λ (n : ℕ). n ≤ limits.connects) (sym (second_word s r)) r.kept;
    sum = second_word;
    steps = λ s r seat v change n slots at some_share sum within. on_second s r seat v (change v.kept) n slots at some_share (sum ∙ ap (λ (m : ℕ). m + (change v.kept).held) (second_word s r)) within;
  }

  -- the steps on either word
  module _ (word : Word) where
    -- what the seat holds is part of the word, which is no greater than a limit may be
    held_within : (s : Words) → Rule limits s → (seat : ℕ) (v : SeatView) → get_elem? s.views seat ≡ some v → ((word.word_of v).held ≤ get_or s.words word.index 0) × (get_or s.words word.index 0 ≤ 65535)
    held_within s r seat v at =
        let is = word.sum s r in
        let mine = at-le-sum (λ (u : SeatView). (word.word_of u).held) s.views seat v at in
        let most = word.within s r in
        let fits = word.fits s r in
        (omega arith, omega arith)

    pub looks : (slots seat : ℕ) (me : Sitter) (limit : ℕ) → word.limit ≡ limit → 0 < me.0.share → Allows (Rule limits) slots seat me word.index (λ n. n) (Looks limit word.on (λ (v : SeatView). (word.word_of v).held) me)
    looks slots seat me limit is some_share s r _ at _ =
        let n : ℕ = get_or s.words word.index 0 in
        let part = held_within s r seat me.0 at in
        let most = word.within s r in
        let fits = word.fits s r in
        (word.on (noted n) me.0, keeps, tt, word.steps s r seat me.0 (noted n) n me.1 at some_share refl most, (refl, part.0, omega (arith, most, is), omega (arith, fits, is)))

    pub compares : (slots seat : ℕ) (me : Sitter) → 0 < me.0.share → Allows (Rule limits) slots seat me word.index (λ n. n) (Compares word.on (λ (v : SeatView). (word.word_of v).held) me)
    compares slots seat me some_share s r _ at _ =
        let n : ℕ = get_or s.words word.index 0 in
        let part = held_within s r seat me.0 at in
        (word.on compared me.0, keeps, tt, word.steps s r seat me.0 compared n me.1 at some_share refl (word.within s r), (refl, part.0, part.1))

    pub takes : (slots seat : ℕ) (me : Sitter) (old : ℕ) → 0 < me.0.share → old ≡ (word.word_of me.0).seen → old ≢ word.limit
        → Allows (Rule limits) slots seat me word.index (λ n. either (eqb n old) (old + 1) n) (Takes word.on word.word_of me)
    takes slots seat me old some_share noted_it below s r _ at _ =
        let n : ℕ = get_or s.words word.index 0 in
        let part = held_within s r seat me.0 at in
        let most = word.within s r in
        let Goal : ℕ → Type 0 = λ m. (w : SeatView) × Rule limits (stepped s word.index m seat me.1 w keeps) × Takes word.on word.word_of me n (w, me.1) in
        let step : Goal (either (eqb n old) (old + 1) n) = exchanged n old (old + 1) Goal
        (λ hit. (
          word.on one_more me.0,
          word.steps s r seat me.0 one_more (old + 1) me.1 at some_share (omega arith) (omega arith),
          record { hit = λ _. (refl, part.0, omega (arith, word.fits s r)); miss = λ not. absurd (not (hit ∙ noted_it)) },
        ))
        (λ miss. (
          word.on missed me.0,
          word.steps s r seat me.0 missed n me.1 at some_share refl most,
          record { hit = λ found. absurd (miss (found ∙ sym noted_it)); miss = λ _. refl },
        )) in
        (step.0, keeps, tt, step.1, step.2)

    pub gives : (slots seat : ℕ) (me : Sitter) → 0 < me.0.share → 0 < (word.word_of me.0).held → Allows (Rule limits) slots seat me word.index (λ n. (n + (2 ^ 64 - 1)) % 2 ^ 64) (λ _. GivesBack word.on me)
    gives slots seat me some_share some_held s r _ at small =
        let n : ℕ = get_or s.words word.index 0 in
        let part = held_within s r seat me.0 at in
        let mine = part.0 in
        let most = word.within s r in
        let fits : n < 18446744073709551616 = small in
        let less : n - 1 ≡ (n + 18446744073709551615) % 18446744073709551616 = omega arith in (
          word.on one_less me.0,
          keeps,
          tt,
          subst (λ (m : ℕ). Rule limits (stepped s word.index m seat me.1 (word.on one_less me.0) keeps)) less (word.steps s r seat me.0 one_less (n - 1) me.1 at some_share (omega arith) (omega arith)),
          refl,
        )

  -- the seats may change in a way that leaves the three sums
  same_sums : (s : Words) (views : List SeatView) → Rule limits s → sum_by total_of s.views ≡ sum_by total_of views → sum_by kept_of s.views ≡ sum_by kept_of views → sum_by share_of s.views ≡ sum_by share_of views
      → ((seat : ℕ) (v : SeatView) → get_elem? views seat ≡ some v → v.share ≡ 0 → (v.total.held ≡ 0) × (v.kept.held ≡ 0))
      → Rule limits record { words = s.words; homes = s.homes; views = views }
  same_sums s views r total kept share holders = record {
    words = r.words ∙ two _ _ _ _ total kept;
    total = subst (λ (m : ℕ). m ≤ limits.total) total r.total;
    kept = subst (λ (m : ℕ). m ≤ limits.connects) kept r.kept;
    total_fits = r.total_fits;
    kept_fits = r.kept_fits;
    shares = sym share ∙ r.shares;
    holders = holders;
  }

  pub parts : (seat : ℕ) (v : SeatView) → 2 ≤ v.share → Splits {S = Unit {0}} (Rule limits) seat v (after_split v) (empty_seat 1)
  parts seat v units s r at =
      let w : SeatView = after_split v in
      let new : SeatView = empty_seat 1 in
      let left : List SeatView = set s.views seat w in
      same_sums s (left ++ new ∷ []) r
      (sum-cut total_of s.views seat v w new at (omega arith))
      (sum-cut kept_of s.views seat v w new at (omega arith))
      (sum-cut share_of s.views seat v w new at (omega arith))
      (λ other u here none_left. ⊎_elim (λ old. holders-set s r seat w (omega arith) other u old none_left)
      (λ is. let one : 1 ≡ u.share = ap share_of is in absurd (omega arith)) (at_snoc left new u other here))

  pub joins : (seat : ℕ) (v : SeatView) (other : ℕ) (u : SeatView) → 0 < v.share → Joins {S = Unit {0}} (Rule limits) seat v other u (joined v u) (empty_seat 0)
  joins seat v other u some_share s r at apart there =
      let w : SeatView = joined v u in
      let spent : SeatView = empty_seat 0 in
      let both : List SeatView = set s.views seat w in
      same_sums s (set both other spent) r
      (sum-join total_of s.views seat v other u w spent at there (omega arith))
      (sum-join kept_of s.views seat v other u w spent at there (omega arith))
      (sum-join share_of s.views seat v other u w spent at there (omega arith))
      (λ third t here none_left. ⊎_elim (λ is. (ap total_of (sym is.1), ap kept_of (sym is.1)))
      (λ old. holders-set s r seat w (omega arith) third t old.1 none_left) (at_set both other third spent t here))

  -- the seat that has the whole share holds all
  pub all_held : (s : Words) → Rule limits s → (seat : ℕ) (v : SeatView) → get_elem? s.views seat ≡ some v → v.share ≡ 65536
      → (get_elem? s.words 0 ≡ some v.total.held) × (get_elem? s.words 1 ≡ some v.kept.held)
  all_held s r seat v at all =
      let total = only share_of total_of s.views seat v at (λ other w here none_left. (r.holders other w here none_left).0) (r.shares ∙ sym all) in
      let kept = only share_of kept_of s.views seat v at (λ other w here none_left. (r.holders other w here none_left).1) (r.shares ∙ sym all) in (
        ap (λ (l : List ℕ). get_elem? l 0) r.words ∙ ap some total,
        ap (λ (l : List ℕ). get_elem? l 1) r.words ∙ ap some kept,
      )

  -- and each word is within its limit
  pub within : (s : Words) → Rule limits s → (total kept : ℕ) → get_elem? s.words 0 ≡ some total → get_elem? s.words 1 ≡ some kept → (total ≤ limits.total) × (kept ≤ limits.connects)
  within s r total kept first second =
      let is : sum_by total_of s.views ≡ total = some-injective _ _ (ap (λ (l : List ℕ). get_elem? l 0) (sym r.words) ∙ first) in
      let is' : sum_by kept_of s.views ≡ kept = some-injective _ _ (ap (λ (l : List ℕ). get_elem? l 1) (sym r.words) ∙ second) in
      (subst (λ (n : ℕ). n ≤ limits.total) is r.total, subst (λ (n : ℕ). n ≤ limits.connects) is' r.kept)
