-- The booking of an acquire that is halfway is its host's, and so is its lease.
use Rattle.std.proofs.Common.{◌≡◌, ℕ, Bool, true, false, ◌||◌, List, [], ◌∷◌, ◌++◌, Result, Ok, Err, refl, sym, arith, ◌∙◌}
use Rattle.std.specs.Prelude.{◌==◌}
use Rattle.std.proofs.lemmas.Bool.Decides.{nat_tests}
use Rattle.budget.specs.declared.refusal.Refusal.{Refusal}
use Rattle.budget.specs.declared.permits.Try.{Try}
use Rattle.conn_log.specs.declared.entry.Want.{Want}
use Rattle.conn_log.specs.Connections.{is_among}
use Rattle.bundle.specs.declared.answers.Got.{Got}
use Rattle.bundle.specs.declared.answers.Got.TheVariants.{Lease, Wait, NoRoom, Again}
use Rattle.bundle.specs.Lease.{HostShown, Booked, IsBookedHere, IsMadeAt}
use Rattle.bundle.specs.Replies.{IfGot, GivesBooking, GivesLease}
use Rattle.bundle.specs.Starts.{AnswersAcquire, AcquiresAt}

-- whoever is added last is among them
at_end : (booked : List ℕ) (transfer : ℕ) → is_among transfer (booked ++ transfer ∷ []) ≡ true
at_end [] transfer = grind (arith, nat_tests)
at_end (t ∷ booked) transfer = by_first (t == transfer) (at_end booked transfer)
  where
    by_first : (here : Bool) → is_among transfer (booked ++ transfer ∷ []) ≡ true → (here || is_among transfer (booked ++ transfer ∷ [])) ≡ true
    by_first true there = refl
    by_first false there = there

module _ {S : Type 0} (old new : HostShown S) (want : Want) where
  module _ (now : ℕ) (stays : new.host ≡ old.host) where
    ours : (booking : Booked) → booking ≡ record { site = old.host; want = want } → new.booked ≡ old.booked ++ want.transfer ∷ [] → IsBookedHere new booking
    ours booking is added = rw (is, added) (sym stays, at_end old.booked want.transfer)

    pub booked-here : (Told : Try → Type 0) (Asked : ℕ → ℕ → Type 0) (r : Result (Got S) Refusal) → IfGot r (AnswersAcquire Told Asked false old new want now) → IfGot r (AcquiresAt old new want old.booked (old.booked ++ want.transfer ∷ [])) → IfGot r (λ got. GivesBooking got (IsBookedHere new))
    booked-here Told Asked (Err reason) answer at = tt
    booked-here Told Asked (Ok (Lease lease)) answer at = tt
    booked-here Told Asked (Ok (Wait ticket)) answer at = tt
    booked-here Told Asked (Ok (NoRoom booking)) answer at = ours booking answer.is_for at.books
    booked-here Told Asked (Ok (Again booking)) answer at = ours booking answer.is_for at.books

  module _ (done halfway : List ℕ) (stay : new.tables ≡ old.tables) where
    pub lease-here : (got : Got S) → AcquiresAt old new want done halfway got → GivesLease got (IsMadeAt new.tables)
    lease-here (Lease lease) at = at.made_here ∙ sym stay
    lease-here (Wait ticket) at = tt
    lease-here (NoRoom booking) at = tt
    lease-here (Again booking) at = tt

    pub got-here : (r : Result (Got S) Refusal) → IfGot r (AcquiresAt old new want done halfway) → IfGot r (λ got. GivesLease got (IsMadeAt new.tables))
    got-here (Err reason) at = tt
    got-here (Ok got) at = lease-here got at
