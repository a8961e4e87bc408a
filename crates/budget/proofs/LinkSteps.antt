-- Each step of a link keeps its rule.
use Rattle.std.proofs.Common.{◌≡◌, ℕ, zero, suc, ◌+◌, ◌<◌, ◌==◌, Bool, true, false, List, [], ◌∷◌, ◌++◌, set, sym, refl, ap, ◌∙◌, subst, ⊎_elim, eq-eqb, get_or, arith}
use Rattle.std.specs.Prelude.{nat_lt, count_by}
use Rattle.std.specs.List.{All}
use Rattle.std.proofs.lemmas.List.Sums.{sum_by_push}
use Rattle.std.proofs.lemmas.List.Elements.{All-nil, All-cons, All-set, All-push}
use Rattle.std.proofs.lemmas.Bool.Decides.{nat_tests}
use mathlib.Core.Option.{none, some, some-injective, some-ne-none}
use lib.ListN.{get_elem?}
use Rattle.atomic_table.specs.Table.{Me, step, keeps, Allows, Splits, Joins}
use Rattle.atomic_table.proofs.Lists.{at_set, set_again}
use Rattle.budget.specs.declared.link.Listing.{Listing}
use Rattle.budget.specs.declared.link.Listing.TheVariants.{Lobby, Visited, Mark, Gone}
use Rattle.budget.specs.Lobby.{IsQueue, is_listed, without_host, turned}
use Rattle.budget.specs.Marks.{shows, IsAsListed, first_of, hosts_of, seats_of, Agree, IsLink, KeepsMarks, MayLeave, with_guest, left_alone, mark_alone, left_longer, mark_set, left_shorter, mark_cleared, with_host, first_mark, with_turn, SeesMark, Turns}
use Rattle.budget.proofs.Queues.{listed_last, listed_without, listed_turned, gone, queue_last, queue_without, queue_turns}
use Rattle.budget.proofs.Sums.{one_if, one_if_le, sum-set, sum-cut, sum-join, at-le-sum, uncounted, at_all}

one_if_lt : (a b : ℕ) → one_if (nat_lt a b) ≡ 1 → a < b
one_if_lt a b e = grind (arith, nat_tests)

one_if_more : (k seats : ℕ) → one_if (nat_lt k seats) + one_if (k == seats) ≡ one_if (nat_lt k (seats + 1))
one_if_more k seats = grind (arith, nat_tests)

-- how much a seat adds to the marks shown of a host
abbrev shown : ℕ → Listing → ℕ
shown host v = one_if (shows host v)

-- the first seat's view

first_at : (views : List Listing) (v : Listing) → get_elem? views 0 ≡ some v → first_of views ≡ v
first_at [] v at = absurd (some-ne-none v (sym at))
first_at (x ∷ xs) v at = some-injective x v at

first_set : (views : List Listing) (v w : Listing) → get_elem? views 0 ≡ some v → first_of (set views 0 w) ≡ w
first_set [] v w at = absurd (some-ne-none v (sym at))
first_set (x ∷ xs) v w at = refl

first_cut : (views : List Listing) (v w new : Listing) → get_elem? views 0 ≡ some v → first_of (set views 0 w ++ new ∷ []) ≡ w
first_cut [] v w new at = absurd (some-ne-none v (sym at))
first_cut (x ∷ xs) v w new at = refl

first_joined : (views : List Listing) (v w spent : Listing) (other : ℕ) → get_elem? views 0 ≡ some v → ¬ (other ≡ 0) → first_of (set (set views 0 w) other spent) ≡ w
first_joined [] v w spent other at ne = absurd (some-ne-none v (sym at))
first_joined (x ∷ xs) v w spent zero at ne = absurd (ne refl)
first_joined (x ∷ xs) v w spent (suc other) at ne = refl

opened : (views : List Listing) (v : Listing) → IsLink views → get_elem? views 0 ≡ some v → Agree (hosts_of v) (seats_of v) views
opened views v rule at = subst (λ (u : Listing). Agree (hosts_of u) (seats_of u) views) (first_at views v at) rule

closed : (views : List Listing) (w : Listing) → first_of views ≡ w → Agree (hosts_of w) (seats_of w) views → IsLink views
closed views w is = subst (λ (u : Listing). Agree (hosts_of u) (seats_of u) views) (sym is)

pub begins : IsLink (Lobby [] 0 ∷ [])
begins = record {
  marked = All-cons (IsAsListed []) (Lobby [] 0) [] tt (All-nil (IsAsListed []));
  one_mark = λ host. grind (arith, nat_tests);
  queue = record { distinct = tt; there = λ host listed. absurd (cc) };
}

-- the host's seat becomes the Lobby's guest

visits_first : (hosts : List ℕ) (seats other host : ℕ) (mark : Bool) → Joins KeepsMarks 0 (Lobby hosts seats) other (Mark host mark) (Visited hosts seats host mark) Gone
visits_first hosts seats other host mark s rule at distant there =
    let lobby : Listing = Lobby hosts seats in
    let guest : Listing = Visited hosts seats host mark in
    let r = opened s.views lobby rule at in
    let before : get_elem? s.views other ≡ some (Mark host mark) = ⊎_elim (λ here. absurd (distant here.0)) (λ apart. apart.1) (at_set s.views 0 other guest (Mark host mark) there) in
    let same : is_listed hosts host ≡ mark = at_all (IsAsListed hosts) s.views other (Mark host mark) before r.marked in
    closed (set (set s.views 0 guest) other Gone) guest (first_joined s.views lobby guest Gone other at distant) (record {
      marked = All-set (IsAsListed hosts) (set s.views 0 guest) other Gone tt (All-set (IsAsListed hosts) s.views 0 guest same r.marked);
      one_mark = λ k. sym (sum-join (shown k) s.views 0 lobby other (Mark host mark) guest Gone at there (omega arith)) ∙ r.one_mark k;
      queue = r.queue;
    })

pub visits : (id : ℕ) (v : Listing) (other : ℕ) (w : Listing) (hosts : List ℕ) (seats host : ℕ) (mark : Bool) → id ≡ 0 → v ≡ Lobby hosts seats → w ≡ Mark host mark
    → Joins KeepsMarks id v other w (with_guest v w) Gone
visits id v other w hosts seats host mark first is guest =
    subst (λ (z : ℕ × Listing × Listing). Joins KeepsMarks z.0 z.1 other z.2 (with_guest z.1 z.2) Gone) (λ i. (sym first i, sym is i, sym guest i)) (visits_first hosts seats other host mark)

pub sees : (slots id : ℕ) (me : Me (Unit {0}) Listing) (hosts : List ℕ) (seats host : ℕ) (mark : Bool) → id ≡ 0 → me.0 ≡ Visited hosts seats host mark
    → Allows KeepsMarks slots id me 0 (λ n. n) (SeesMark (step slots 0 0 0 none) me)
sees slots id me hosts seats host mark first is s rule len at small =
    let guest : Listing = Visited hosts seats host mark in
    let at_first : get_elem? s.views 0 ≡ some guest = subst (λ (z : ℕ × Listing). get_elem? s.views z.0 ≡ some z.1) (λ i. (first i, is i)) at in
    let r = opened s.views guest rule at_first in
    let same = at_all (IsAsListed hosts) s.views 0 guest at_first r.marked in
    (me.0, keeps, tt, subst IsLink (sym (set_again s.views id me.0 at)) rule, (refl, subst (λ (u : Listing). IsAsListed (hosts_of u) u) (sym is) same))

-- the guest leaves with new values

-- what leaves the other hosts listed as they were leaves their marks right
same_mark : (hosts hosts' : List ℕ) (host : ℕ) → ((k : ℕ) → (host == k) ≡ false → is_listed hosts' k ≡ is_listed hosts k) → (u : Listing) → shows host u ≡ false → IsAsListed hosts u → IsAsListed hosts' u
same_mark hosts hosts' host others (Lobby a b) apart is = tt
same_mark hosts hosts' host others (Visited a b guest mark) apart is = others guest apart ∙ is
same_mark hosts hosts' host others (Mark h mark) apart is = others h apart ∙ is
same_mark hosts hosts' host others Gone apart is = tt

leaves_first : (hosts hosts' : List ℕ) (seats host : ℕ) (mark mark' : Bool) → ((k : ℕ) → (host == k) ≡ false → is_listed hosts' k ≡ is_listed hosts k) → is_listed hosts' host ≡ mark'
    → (IsQueue record { hosts = seats; order = hosts } → host < seats → IsQueue record { hosts = seats; order = hosts' })
    → Splits KeepsMarks 0 (Visited hosts seats host mark) (Lobby hosts' seats) (Mark host mark')
leaves_first hosts hosts' seats host mark mark' others mine queue s rule at =
    let guest : Listing = Visited hosts seats host mark in
    let lobby : Listing = Lobby hosts' seats in
    let new : Listing = Mark host mark' in
    let left : List Listing = set s.views 0 lobby in
    let r = opened s.views guest rule at in
    let one : one_if (host == host) ≡ 1 = ap one_if (eq-eqb host host refl) in
    let count = r.one_mark host in
    let most = one_if_le (nat_lt host seats) in
    let part = at-le-sum (shown host) s.views 0 guest at in
    let nobody : count_by (shows host) left ≡ 0 = omega (arith, sum-set (shown host) s.views 0 guest lobby at) in
    let before = All-set (IsAsListed hosts) s.views 0 lobby tt r.marked in
    let after : All (IsAsListed hosts') left = λ k d there. same_mark hosts hosts' host others (get_or left k d) (uncounted (shows host) left nobody k d there) (before k d there) in
    closed (left ++ new ∷ []) lobby (first_cut s.views guest lobby new at) (record {
      marked = All-push (IsAsListed hosts') left new after mine;
      one_mark = λ k. sym (sum-cut (shown k) s.views 0 guest lobby new at (omega arith)) ∙ r.one_mark k;
      queue = queue r.queue (one_if_lt host seats (omega arith));
    })

-- each way to leave, once the guest's mark is whether it is listed

pub leaves : (hosts : List ℕ) (seats host : ℕ) (mark : Bool) → is_listed hosts host ≡ mark → MayLeave left_alone mark_alone (Visited hosts seats host mark)
leaves hosts seats host mark same = record {
  splits = leaves_first hosts hosts seats host mark mark (λ k _. refl) same (λ queue _. queue);
  lobby = refl;
  mark = refl;
}

pub leaves_listed : (hosts : List ℕ) (seats host : ℕ) (mark : Bool) → is_listed hosts host ≡ mark → mark ≡ false → MayLeave left_longer mark_set (Visited hosts seats host mark)
leaves_listed hosts seats host mark same unmarked = record {
  splits = leaves_first hosts (hosts ++ host ∷ []) seats host mark true
      (λ k apart. grind (arith, nat_tests, listed_last hosts host k, apart))
      (grind (arith, nat_tests, listed_last hosts host host))
      (λ queue there. queue_last seats hosts host queue there (same ∙ unmarked));
  lobby = refl;
  mark = refl;
}

pub leaves_unlisted : (hosts : List ℕ) (seats host : ℕ) (mark : Bool) → MayLeave left_shorter mark_cleared (Visited hosts seats host mark)
leaves_unlisted hosts seats host mark = record {
  splits = leaves_first hosts (without_host hosts host) seats host mark false
      (λ k apart. grind (arith, nat_tests, listed_without hosts host k, apart))
      (gone hosts host)
      (λ queue there. queue_without seats hosts host queue);
  lobby = refl;
  mark = refl;
}

-- the next host gets its mark

seats_next : (hosts : List ℕ) (seats : ℕ) → Splits KeepsMarks 0 (Lobby hosts seats) (Lobby hosts (seats + 1)) (Mark seats false)
seats_next hosts seats s rule at =
    let lobby : Listing = Lobby hosts seats in
    let next : Listing = Lobby hosts (seats + 1) in
    let new : Listing = Mark seats false in
    let r = opened s.views lobby rule at in
    let left : List Listing = set s.views 0 next in
    closed (left ++ new ∷ []) next (first_cut s.views lobby next new at) (record {
      marked = All-push (IsAsListed hosts) left new (All-set (IsAsListed hosts) s.views 0 next tt r.marked) (unlisted (is_listed hosts seats) refl);
      one_mark = λ k. omega (arith, r.one_mark k, one_if_more k seats, sum-set (shown k) s.views 0 lobby next at, sum_by_push (shown k) left new);
      queue = record { distinct = r.queue.distinct; there = λ host listed. omega (arith, r.queue.there host listed) };
    })
  where
    unlisted : (b : Bool) → is_listed hosts seats ≡ b → is_listed hosts seats ≡ false
    unlisted false e = e
    unlisted true e = absurd (omega (arith, (opened s.views (Lobby hosts seats) rule at).queue.there seats e))

pub seats_host : (id : ℕ) (v : Listing) (hosts : List ℕ) (seats : ℕ) → id ≡ 0 → v ≡ Lobby hosts seats → Splits KeepsMarks id v (with_host v) (first_mark v)
seats_host id v hosts seats first is =
    subst (λ (z : ℕ × Listing). Splits KeepsMarks z.0 z.1 (with_host z.1) (first_mark z.1)) (λ i. (sym first i, sym is i)) (seats_next hosts seats)

-- the list turns

turned_mark : (hosts : List ℕ) (u : Listing) → IsAsListed hosts u → IsAsListed (turned hosts) u
turned_mark hosts (Lobby a b) is = tt
turned_mark hosts (Visited a b guest mark) is = listed_turned hosts guest ∙ is
turned_mark hosts (Mark host mark) is = listed_turned hosts host ∙ is
turned_mark hosts Gone is = tt

turns_first : (views : List Listing) (hosts : List ℕ) (seats : ℕ) → IsLink views → get_elem? views 0 ≡ some (Lobby hosts seats) → IsLink (set views 0 (Lobby (turned hosts) seats))
turns_first views hosts seats rule at =
    let lobby : Listing = Lobby hosts seats in
    let next : Listing = Lobby (turned hosts) seats in
    let r = opened views lobby rule at in
    closed (set views 0 next) next (first_set views lobby next at) (record {
      marked = All-set (IsAsListed (turned hosts)) views 0 next tt (λ k d there. turned_mark hosts (get_or views k d) (r.marked k d there));
      one_mark = λ k. omega (arith, r.one_mark k, sum-set (shown k) views 0 lobby next at);
      queue = queue_turns seats hosts r.queue;
    })

pub turns : (slots id : ℕ) (me : Me (Unit {0}) Listing) (hosts : List ℕ) (seats : ℕ) → id ≡ 0 → me.0 ≡ Lobby hosts seats
    → Allows KeepsMarks slots id me 0 (λ n. n) (Turns (step slots 0 0 0 none) me)
turns slots id me hosts seats first is s rule len at small =
    let at_first : get_elem? s.views 0 ≡ some (Lobby hosts seats) = subst (λ (z : ℕ × Listing). get_elem? s.views z.0 ≡ some z.1) (λ i. (first i, is i)) at in
    (with_turn me.0, keeps, tt, subst (λ (z : ℕ × Listing). IsLink (set s.views z.0 (with_turn z.1))) (λ i. (sym first i, sym is i)) (turns_first s.views hosts seats rule at_first), (refl, refl))
