-- Streams stay over one step after another: a connection that is open before and after is open in between.
use Rattle.std.proofs.Common.{◌≡◌, ℕ, Bool, true, false, ◌||◌, List, [], ◌∷◌, ◌++◌, Option, Some, None, is_some, refl, sym, ap, ◌∙◌, arith}
use Rattle.std.specs.Prelude.{◌==◌}
use Rattle.std.specs.Option.{option_map_or}
use Rattle.std.proofs.lemmas.Bool.Decides.{nat_tests}
use Rattle.conn_log.specs.declared.entry.Want.{Want}
use Rattle.conn_log.specs.declared.entry.Entry.{Entry}
use Rattle.conn_log.specs.declared.entry.Event.{Event}
use Rattle.conn_log.specs.declared.entry.Event.TheVariants.{Opened, Leased, Returned, Closed, Waited, Left, Limit}
use Rattle.conn_log.specs.Connections.{is_among, opened, opened_after, closes, is_closed, is_open, holder_want, is_held_by}
use Rattle.conn_log.specs.Legal.{LimitAndFirst}
use Rattle.conn_log.specs.Sound.{IsSound}
use Rattle.conn_log.proofs.Steps.{is_open_is, opened_not_closed}
use Rattle.host_state.specs.Calls.{GrowsBy}
use Rattle.bundle.specs.Lease.{HostShown, Leasing, KeepsItsStream, KeepsStreams, KeepsOthers}
use Rattle.cache.specs.Pools.{StreamsStay, OtherStreamsStay}

module _ (c : ℕ) where
  opened_by : (event : Event) (numbers : List ℕ) → is_among c numbers ≡ true → is_among c (opened_after event numbers) ≡ true
  opened_by (Opened d want) numbers is = grind (arith, nat_tests, is)
  opened_by (Leased d want) numbers is = is
  opened_by (Returned d facts) numbers is = is
  opened_by (Closed d cause) numbers is = is
  opened_by (Waited want) numbers is = is
  opened_by (Left transfer) numbers is = is
  opened_by (Limit n) numbers is = is

  still_opened : (added old : List Entry) → is_among c (opened old) ≡ true → is_among c (opened (added ++ old)) ≡ true
  still_opened [] old is = is
  still_opened (e ∷ added) old is = opened_by e.event (opened (added ++ old)) (still_opened added old is)

  not_yet_closed : (added old : List Entry) → is_closed (added ++ old) c ≡ false → is_closed old c ≡ false
  not_yet_closed [] old is = is
  not_yet_closed (e ∷ added) old is = not_yet_closed added old (neither (closes e.event c) (is_closed (added ++ old) c) is)
    where
      neither : (x y : Bool) → (x || y) ≡ false → y ≡ false
      neither false y e = e
      neither true y e = absurd (cc)

  open_between : (x y z : List Entry) → GrowsBy x y → GrowsBy y z → is_open x c ≡ true → is_open z c ≡ true → is_open y c ≡ true
  open_between x y z first next was is =
      let opened_there : is_among c (opened y) ≡ true = ap (λ (l : List Entry). is_among c (opened l)) first.1 ∙ still_opened first.0 x (opened_not_closed x c was).0 in
      let not_closed : is_closed y c ≡ false = not_yet_closed next.0 y (ap (λ (l : List Entry). is_closed l c) (sym next.1) ∙ (opened_not_closed z c is).1) in
      is_open_is y c ∙ rw opened_there (rw not_closed refl)

-- what a transfer holds is open
pub held_is_open : (settings : LimitAndFirst) (log : List Entry) → IsSound settings log → (transfer c : ℕ) → is_held_by log transfer c ≡ true → is_open log c ≡ true
held_is_open settings log sound transfer c held = sound.orderly.held_open c (by_holder (holder_want log c) refl)
  where
    by_holder : (holder : Option Want) → holder_want log c ≡ holder → is_some (holder_want log c) ≡ true
    by_holder (Some want) is = ap is_some is
    by_holder None is = absurd (nobody (sym held ∙ ap (λ (h : Option Want). option_map_or (λ (w : Want). w.transfer == transfer) h false) is))
      where
        nobody : true ≡ false → ⊥
        nobody e = cc

module _ {S : Type 0} where
  pub streams_on : (x y z : HostShown S) → GrowsBy x.log y.log → GrowsBy y.log z.log → StreamsStay x y → StreamsStay y z → StreamsStay x z
  streams_on x y z grew grows first next c was is =
      let mid = open_between c x.log y.log z.log grew grows was is in
      next c mid is ∙ first c was mid

  -- but for the one connection
  pub others_on : (one : ℕ) (x y z : HostShown S) → GrowsBy x.log y.log → GrowsBy y.log z.log → OtherStreamsStay one x y → OtherStreamsStay one y z → OtherStreamsStay one x z
  others_on one x y z grew grows first next c apart was is =
      let mid = open_between c x.log y.log z.log grew grows was is in
      next c apart mid is ∙ first c apart was mid

  pub but_one : (one : ℕ) (x y : HostShown S) → StreamsStay x y → OtherStreamsStay one x y
  but_one one x y stay c apart was is = stay c was is

  -- whose own stream stays, too
  pub own_on : (x y z : HostShown S) (lease : Leasing S) → GrowsBy x.log y.log → GrowsBy y.log z.log → is_open x.log lease.start.number ≡ true → KeepsItsStream y lease → StreamsStay y z → KeepsItsStream z lease
  own_on x y z lease grew grows was first next is =
      let mid = open_between lease.start.number x.log y.log z.log grew grows was is in
      next lease.start.number mid is ∙ first mid

  -- where every connection that is still open keeps its stream
  pub open_ones_stay : (x y : HostShown S) → KeepsStreams x y → StreamsStay x y
  open_ones_stay x y keeps c was is = keeps c is

  pub open_others_stay : (one : ℕ) (x y : HostShown S) → KeepsOthers one x y → OtherStreamsStay one x y
  open_others_stay one x y keeps c apart was is = keeps c apart is
