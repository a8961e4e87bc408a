-- Parts of the state that no result changes.
use Rattle.std.proofs.Common.{◌≡◌, List, [], ◌∷◌, length, ap, sym, ◌∙◌, arith, inl, inr}
use Rattle.std.specs.Prelude.{None}
use Rattle.run_loop.specs.Taking.{AllTaken, JobResult}
use Rattle.crawl.specs.Results.{TakesAll}
use Rattle.crawl.specs.Written.{OutputShown, TakesResult, TakesShown, TookAll}
use Rattle.crawl.specs.declared.in_flight.InFlight.{InFlight}

-- no result changes the part, so all together leave it
module _ {X : Type 0} (of : OutputShown → X) (keeps : (result : JobResult) (old new : OutputShown) → TakesResult result old new → of new ≡ of old) where
  kept_all : (came : List JobResult) (old new : OutputShown) → AllTaken TakesShown old new came → of new ≡ of old
  kept_all [] old new same = ap of same
  kept_all (result ∷ earlier) old new taken = keeps result taken.0 new taken.2 ∙ kept_all earlier old taken.0 taken.1

keeps_flags : (result : JobResult) (old new : OutputShown) → TakesResult result old new → new.flags ≡ old.flags
keeps_flags result old new (inl ignores) = ap (λ (o : OutputShown). o.flags) ignores.same
keeps_flags result old new (inr w) = w.writes.flags

keeps_name : (result : JobResult) (old new : OutputShown) → TakesResult result old new → new.name ≡ old.name
keeps_name result old new (inl ignores) = ap (λ (o : OutputShown). o.name) ignores.same
keeps_name result old new (inr w) = w.writes.name

pub flags_all : (came : List JobResult) (old new : OutputShown) → AllTaken TakesShown old new came → new.flags ≡ old.flags
flags_all came old new taken = kept_all (λ (o : OutputShown). o.flags) keeps_flags came old new taken

pub name_all : (came : List JobResult) (old new : OutputShown) → AllTaken TakesShown old new came → new.name ≡ old.name
name_all came old new taken = kept_all (λ (o : OutputShown). o.name) keeps_name came old new taken

-- nothing failed, if nothing has failed since
whole_one : (result : JobResult) (old new : OutputShown) → TakesResult result old new → new.fault ≡ None → old.fault ≡ None
whole_one result old new (inl ignores) whole = sym (ap (λ (o : OutputShown). o.fault) ignores.same) ∙ whole
whole_one result old new (inr w) whole = w.writes.whole

pub whole_all : (came : List JobResult) (old new : OutputShown) → AllTaken TakesShown old new came → new.fault ≡ None → old.fault ≡ None
whole_all [] old new same whole = sym (ap (λ (o : OutputShown). o.fault) same) ∙ whole
whole_all (result ∷ earlier) old new taken whole = whole_all earlier old taken.0 taken.1 (whole_one result taken.0 new taken.2 whole)

-- nothing is in flight, if nothing was
none_one : (result : JobResult) (old new : OutputShown) → TakesResult result old new → old.in_flight ≡ [] → new.in_flight ≡ []
none_one result old new (inl ignores) none = ap (λ (o : OutputShown). o.in_flight) ignores.same ∙ none
none_one result old new (inr w) none = absurd (omega (arith, w.below, ap (λ (fs : List InFlight). length fs) none))

pub none_all : (came : List JobResult) (old new : OutputShown) → AllTaken TakesShown old new came → old.in_flight ≡ [] → new.in_flight ≡ []
none_all [] old new same none = ap (λ (o : OutputShown). o.in_flight) same ∙ none
none_all (result ∷ earlier) old new taken none = none_one result taken.0 new taken.2 (none_all earlier old taken.0 taken.1 none)

-- the same of the states that are shown
module _ {R : Type 0} (shown : R → OutputShown) where
  pub shown_all : (came : List JobResult) (old new : R) → AllTaken (λ (before after : R) number done span. TakesShown (shown before) (shown after) number done span) old new came
      → AllTaken TakesShown (shown old) (shown new) came
  shown_all [] old new same = ap shown same
  shown_all (result ∷ earlier) old new taken = (shown taken.0, shown_all earlier old taken.0 taken.1, taken.2)

  pub took_shown : (Came : List JobResult → Type 0) (old new : R) → TakesAll Came (λ (before after : R) number done span. TakesShown (shown before) (shown after) number done span) old new → TookAll Came (shown old) (shown new)
  took_shown Came old new takes = (takes.0, takes.1, shown_all takes.0 old new takes.2)
