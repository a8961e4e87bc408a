-- A lease that a give back did not spend comes back as it was.
use Rattle.std.proofs.Common.{◌≡◌, ap, ◌∙◌}
use Rattle.bundle.specs.Seats.{Tables}
use Rattle.budget.specs.declared.permits.Try.{Try}
use Rattle.bundle.specs.declared.answers.Back.{Back}
use Rattle.bundle.specs.declared.answers.Back.TheVariants.{Spent, NoKeep, Again, Strange}
use Rattle.host_state.specs.Calls.{Returning, spent, not_kept, keep_again}
use Rattle.bundle.specs.Lease.{HostShown, Leasing, IsMadeAt}
use Rattle.bundle.specs.Replies.{IsBack, IfBack}

module _ {S : Type 0} (old new : HostShown S) (lease : Leasing S) (tables : Tables) (here : lease.tables ≡ tables) where
  by_returning : (returning : Returning) (back : Back S) → IsBack old new lease returning back → IfBack back (IsMadeAt tables)
  by_returning returning (Spent freed) is = tt
  by_returning (spent log) (NoKeep same) is = absurd is
  by_returning not_kept (NoKeep same) is = ap (λ (l : Leasing S). l.tables) is.0 ∙ here
  by_returning keep_again (NoKeep same) is = absurd is
  by_returning (spent log) (Again same) is = absurd is
  by_returning not_kept (Again same) is = absurd is
  by_returning keep_again (Again same) is = ap (λ (l : Leasing S). l.tables) is.0 ∙ here
  by_returning (spent log) (Strange stray) is = absurd is
  by_returning not_kept (Strange stray) is = absurd is
  by_returning keep_again (Strange stray) is = absurd is

  -- so it was made where it was before
  pub back-made : (Told : Try → Type 0) (returned : Try → Returning) (back : Back S) → (told : Try) × Told told × IsBack old new lease (returned told) back → IfBack back (IsMadeAt tables)
  back-made Told returned back gave = by_returning (returned gave.0) back gave.2
