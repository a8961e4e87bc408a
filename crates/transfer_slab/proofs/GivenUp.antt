-- What is begun at a dial once transfers are closed.
use Rattle.std.proofs.Common.{◌≡◌, refl, sym, ap, ◌∙◌, List, [], ◌∷◌, ◌++◌}
use Rattle.std.proofs.lemmas.List.{append_assoc, append-nil}
use Rattle.std.proofs.lemmas.List.Elements.{All-nil, All-cons, All-head, All-tail, All-weaker}
use Rattle.exchange.specs.Transfers.{TransferShown}
use Rattle.exchange.specs.Dialling.{DialShown}
use Rattle.exchange.specs.Exchanging.{GivesUpDial}
use Rattle.transfer_slab.specs.Slabs.{IsApart, IsGivenUp, GivesUpAll}
use Rattle.exchange.proofs.Begun.{none_still}

-- of all these no more than those are left, and the others were given up at the dial
abbrev pub GivesUpRest : {W : Type 0} → DialShown → DialShown → List (TransferShown W) → List (TransferShown W) → Type 0
GivesUpRest {W} old new all left = (closed : List (TransferShown W)) × (all ≡ left ++ closed) × GivesUpAll old new closed

-- none of them was closed yet
pub gives_up_none : {W : Type 0} (old : DialShown) (all : List (TransferShown W)) → GivesUpRest old old all all
gives_up_none {W} old all = ([], sym (append-nil all), record { counts = record { counted = refl; opens = refl; turns = refl }; others = λ other begun. begun; kept = λ other apart begun. begun; own = All-nil (IsGivenUp {W = W} old.begun old.begun) })

module _ {W : Type 0} (old middle new : DialShown) where
  -- one more was given up
  one_more_given_up : (t : TransferShown W) (closed : List (TransferShown W)) → GivesUpAll old middle closed → GivesUpDial middle new t.parts.want.transfer t.state → GivesUpAll old new (t ∷ closed)
  one_more_given_up t closed rest one = record {
    counts = record { counted = one.counts.counted ∙ rest.counts.counted; opens = one.counts.opens ∙ rest.counts.opens; turns = one.counts.turns ∙ rest.counts.turns };
    others = λ other begun. rest.others other (one.others other begun);
    kept = λ other apart begun. one.kept other (All-head (IsApart {W = W} other) t closed apart) (rest.kept other (All-tail (IsApart {W = W} other) t closed apart) begun);
    own = All-cons (IsGivenUp {W = W} old.begun new.begun) t closed
        (λ none. one.own (none_still old.begun middle.begun t.parts.want.transfer rest.others t.state none))
        (All-weaker (IsGivenUp {W = W} old.begun middle.begun) (IsGivenUp {W = W} old.begun new.begun) (λ other given none begun. given none (one.others other.parts.want.transfer begun)) closed rest.own);
  }

  -- the last of those that are left was
  pub gives_up_more : (all left next : List (TransferShown W)) (t : TransferShown W) → GivesUpRest old middle all left → left ≡ next ++ (t ∷ []) → GivesUpDial middle new t.parts.want.transfer t.state → GivesUpRest old new all next
  gives_up_more all left next t rest taken one = (t ∷ rest.0, rest.1 ∙ (ap (λ (l : List (TransferShown W)). l ++ rest.0) taken ∙ append_assoc next (t ∷ []) rest.0), one_more_given_up t rest.0 rest.2 one)
