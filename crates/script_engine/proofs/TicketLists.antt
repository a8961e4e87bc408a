-- Who is among the tickets, once a transfer is put in or taken out.
use Rattle.std.proofs.Common.{◌≡◌, ℕ, Bool, true, false, cond, ◌||◌, List, [], ◌∷◌, refl, ap, sym, ◌∙◌, arith}
use Rattle.std.specs.Prelude.{◌==◌, nat_lt}
use Rattle.std.proofs.lemmas.Bool.{eqb-true}
use Rattle.std.proofs.lemmas.Bool.Decides.{nat_tests}
use Rattle.conn_log.specs.Connections.{is_among}
use Rattle.conn_log.specs.Sound.{AreDistinct}
use Rattle.script_engine.specs.Meaning.{with_ticket, without_ticket}

pub turned : (x y : ℕ) → (x == y) ≡ (y == x)
turned x y = grind (arith, nat_tests)

pub no-both : (b : Bool) → b ≡ true → b ≡ false → ⊥
no-both b t f = cc

-- put in
pub among-with : (u t : ℕ) (tickets : List ℕ) → is_among u (with_ticket t tickets) ≡ ((t == u) || is_among u tickets)
among-with u t [] = refl
among-with u t (x ∷ others) = by_order (nat_lt t x) (t == x) refl (among-with u t others)
  where
    twice : (b rest : Bool) → (b || rest) ≡ (b || (b || rest))
    twice true rest = refl
    twice false rest = refl

    swapped : (a b rest : Bool) → (a || (b || rest)) ≡ (b || (a || rest))
    swapped true true rest = refl
    swapped true false rest = refl
    swapped false true rest = refl
    swapped false false rest = refl

    by_order : (less same : Bool) → (t == x) ≡ same → is_among u (with_ticket t others) ≡ ((t == u) || is_among u others)
        → is_among u (cond less (t ∷ x ∷ others) (cond same (x ∷ others) (x ∷ with_ticket t others))) ≡ ((t == u) || ((x == u) || is_among u others))
    by_order true same is rest = refl
    by_order false true is rest = twice (x == u) (is_among u others) ∙ ap (λ (k : ℕ). (k == u) || ((x == u) || is_among u others)) (sym (eqb-true t x is))
    by_order false false is rest = ap (λ b. (x == u) || b) rest ∙ swapped (x == u) (t == u) (is_among u others)

-- taken out
pub among-less : (u t : ℕ) (tickets : List ℕ) → is_among u (without_ticket t tickets) ≡ true → is_among u tickets ≡ true
among-less u t [] among = among
among-less u t (x ∷ others) among = by_first (t == x) (x == u) among (among-less u t others)
  where
    by_first : (first here : Bool) → is_among u (cond first others (x ∷ without_ticket t others)) ≡ true → (is_among u (without_ticket t others) ≡ true → is_among u others ≡ true) → ((x == u) || is_among u others) ≡ true
    by_first true here among' rest = or-right (x == u) (is_among u others) among'
      where
        or-right : (a b : Bool) → b ≡ true → (a || b) ≡ true
        or-right true b e = refl
        or-right false b e = e
    by_first false here among' rest = or-either (x == u) (is_among u (without_ticket t others)) (is_among u others) among' rest
      where
        or-either : (a b c : Bool) → (a || b) ≡ true → (b ≡ true → c ≡ true) → (a || c) ≡ true
        or-either true b c e f = refl
        or-either false b c e f = f e

pub among-other : (u t : ℕ) (tickets : List ℕ) → (t == u) ≡ false → is_among u tickets ≡ true → is_among u (without_ticket t tickets) ≡ true
among-other u t [] other among = among
among-other u t (x ∷ others) other among = by_first (t == x) refl (x == u) refl among (among-other u t others other)
  where
    by_first : (first : Bool) → (t == x) ≡ first → (here : Bool) → (x == u) ≡ here → (here || is_among u others) ≡ true → (is_among u others ≡ true → is_among u (without_ticket t others) ≡ true)
        → is_among u (cond first others (x ∷ without_ticket t others)) ≡ true
    by_first true is true it among' rest = absurd (no-both (t == u) (ap (λ (k : ℕ). k == u) (eqb-true t x is) ∙ it) other)
    by_first true is false it among' rest = among'
    by_first false is true it among' rest = ap (λ b. b || is_among u (without_ticket t others)) it
    by_first false is false it among' rest = ap (λ b. b || is_among u (without_ticket t others)) it ∙ rest among'

pub among-own : (t : ℕ) (tickets : List ℕ) → AreDistinct tickets → is_among t (without_ticket t tickets) ≡ false
among-own t [] distinct = refl
among-own t (x ∷ others) distinct = by_first (t == x) refl (among-own t others distinct.1)
  where
    by_first : (first : Bool) → (t == x) ≡ first → is_among t (without_ticket t others) ≡ false → is_among t (cond first others (x ∷ without_ticket t others)) ≡ false
    by_first true is rest = ap (λ (k : ℕ). is_among k others) (eqb-true t x is) ∙ distinct.0
    by_first false is rest = ap (λ b. b || is_among t (without_ticket t others)) (turned x t ∙ is) ∙ rest

-- each stands once
false-where : (b : Bool) → (b ≡ true → ⊥) → b ≡ false
false-where true never = absurd (never refl)
false-where false never = refl

pub distinct-with : (t : ℕ) (tickets : List ℕ) → is_among t tickets ≡ false → AreDistinct tickets → AreDistinct (with_ticket t tickets)
distinct-with t [] apart distinct = (refl, tt)
distinct-with t (x ∷ others) apart distinct = by_order (nat_lt t x) (t == x) refl (distinct-with t others (later (x == t) (is_among t others) apart) distinct.1)
  where
    later : (a b : Bool) → (a || b) ≡ false → b ≡ false
    later true b e = cc
    later false b e = e

    by_order : (less same : Bool) → (t == x) ≡ same → AreDistinct (with_ticket t others) → AreDistinct (cond less (t ∷ x ∷ others) (cond same (x ∷ others) (x ∷ with_ticket t others)))
    by_order true same is rest = (apart, distinct)
    by_order false true is rest = distinct
    by_order false false is rest = (among-with x t others ∙ ap (λ b. b || is_among x others) is ∙ distinct.0, rest)

pub distinct-without : (t : ℕ) (tickets : List ℕ) → AreDistinct tickets → AreDistinct (without_ticket t tickets)
distinct-without t [] distinct = tt
distinct-without t (x ∷ others) distinct = by_first (t == x) (distinct-without t others distinct.1)
  where
    by_first : (first : Bool) → AreDistinct (without_ticket t others) → AreDistinct (cond first others (x ∷ without_ticket t others))
    by_first true rest = distinct.1
    by_first false rest = (false-where (is_among x (without_ticket t others)) (λ among. no-both (is_among x others) (among-less x t others among) distinct.0), rest)
