-- What a transfer does at its dial from its beginning to its end.
use Rattle.std.proofs.Common.{◌≡◌, sym, subst, ap, ℕ, ◌+◌, ◌≤◌, Option, Some, None, arith}
use Rattle.conn_log.specs.declared.entry.Want.{Want}
use Rattle.exchange.specs.declared.job.Prepared.{Prepared}
use Rattle.exchange.specs.declared.state.State.{State}
use Rattle.exchange.specs.declared.state.State.TheVariants as at
use Rattle.exchange.specs.Answers.{IsSameJob}
use Rattle.exchange.specs.Dialling.{DialShown}
use Rattle.exchange.specs.Steps.{DialsAlone, may_open}
use Rattle.exchange.specs.Exchanging.{OpensFew, BeginsItsOwn, GivesUpDial}
use Rattle.exchange.specs.Carrying.{EndsItsDials}
use Rattle.exchange.proofs.Begun.{none_at, begun_on}

-- a poll more opens no more than the transfer may
pub opens_on : {W : Type 0} (p q r : Prepared) (a b c : Option (State W)) (x y z : ℕ) → OpensFew p q a b x y → OpensFew q r b c y z → OpensFew p r a c x z
opens_on p q r (Some a) (Some b) (Some c) x y z first next =
    let one : y + may_open q b ≤ x + may_open p a = first in
    let two : z + may_open r c ≤ y + may_open q b = next in
    omega (arith, one, two)
opens_on p q r (Some a) (Some b) None x y z first next = absurd next
opens_on p q r (Some a) None c x y z first next = absurd first
opens_on p q r None b c x y z first next = absurd first

-- from its beginning on a transfer opens one connection at most
opens_at : {W : Type 0} (p q : Prepared) (b : Option (State W)) (x y : ℕ) → OpensFew p q (Some at.Asking) b x y → y ≤ x + 1
opens_at p q (Some b) x y opens = let most : y + may_open q b ≤ x + 1 = opens in omega (arith, most)
opens_at p q None x y opens = absurd opens

opens_one : {W : Type 0} (p q : Prepared) (a b : Option (State W)) (x y : ℕ) → a ≡ Some at.Asking → OpensFew p q a b x y → y ≤ x + 1
opens_one {W} p q a b x y begins opens = opens_at p q b x y (subst (λ (s : Option (State W)). OpensFew p q s b x y) begins opens)

-- nothing was begun or ended at the dial besides
module _ {W : Type 0} (x y z : ℕ → Type 0) (transfer : ℕ) (less : (other : ℕ) → z other → y other) (more : (other : ℕ) → y other → z other) where
  alone_still : (a b : State W) → DialsAlone x y transfer a b → DialsAlone x z transfer a b
  alone_still a b alone = record {
    others = λ other apart begun. alone.others other apart (less other begun);
    kept = λ other apart begun. more other (alone.kept other apart begun);
    own = λ none. none_at y z transfer less b (alone.own none);
  }

  pub begun_still : (a b : Option (State W)) → BeginsItsOwn x y transfer a b → BeginsItsOwn x z transfer a b
  begun_still (Some a) (Some b) its = alone_still a b its
  begun_still (Some a) None its = absurd its
  begun_still None b its = absurd its

module _ {W : Type 0} (x y z : DialShown) where
  -- a transfer that is closed has ended its dials
  ends_at : (transfer : ℕ) (state : Option (State W)) → y.opened ≤ x.opened + 1 → BeginsItsOwn x.begun y.begun transfer (Some at.Asking) state → GivesUpDial y z transfer state → EndsItsDials x z transfer
  ends_at transfer (Some state) most alone gives = record {
    opens = rw (gives.counts.opens) most;
    others = λ other apart begun. alone.others other apart (gives.others other begun);
    kept = λ other apart begun. gives.kept other apart (alone.kept other apart begun);
    own = λ none. gives.own (alone.own none);
  }
  ends_at transfer None most alone gives = absurd alone

  pub ends_dials : (p q : Prepared) (job first last : ℕ) (a b : Option (State W)) → first ≡ job → last ≡ first → a ≡ Some at.Asking → OpensFew p q a b x.opened y.opened → BeginsItsOwn x.begun y.begun first a b → GivesUpDial y z last b → EndsItsDials x z job
  ends_dials p q job first last a b is_job same begins opens its gives =
      let began : BeginsItsOwn x.begun y.begun first (Some at.Asking) b = subst (λ (s : Option (State W)). BeginsItsOwn x.begun y.begun first s b) begins its in
      let gave : GivesUpDial y z first b = subst (λ (n : ℕ). GivesUpDial y z n b) same gives in
      subst (λ (n : ℕ). EndsItsDials x z n) is_job (ends_at first b (opens_one p q a b x.opened y.opened begins opens) began gave)

-- nothing was dialled
pub no_dials : {D : Type 0} (shown : D → DialShown) (old new : D) (transfer : ℕ) → new ≡ old → EndsItsDials (shown old) (shown new) transfer
no_dials {D} shown old new transfer same =
    let most : (shown old).opened ≤ (shown old).opened + 1 = omega (arith) in
    subst (λ (d : D). EndsItsDials (shown old) (shown d) transfer) (sym same) (record { opens = most; others = λ other apart was. was; kept = λ other apart was. was; own = λ none. none })

-- what a poll of the same job begins at the dial is its own as well
pub begun_by_poll : {W : Type 0} (x y z : ℕ → Type 0) (p q : Prepared) (a b c : Option (State W)) → IsSameJob p q → BeginsItsOwn x y p.want.transfer a b → BeginsItsOwn y z q.want.transfer b c → BeginsItsOwn x z p.want.transfer a c
begun_by_poll x y z p q a b c same first next = begun_on x y z p.want.transfer a b c q.want.transfer (ap (λ (w : Want). w.transfer) same.want) first next
