-- The hosts of a plan are as the types of their locks say.
use Rattle.std.proofs.Common.{◌≡◌, ℕ, zero, suc, ◌+◌, List, [], ◌∷◌, ◌++◌, length, map, Some, refl, sym, ap, subst, ◌∙◌, arith, rules}
use Rattle.std.specs.Prelude.{slice_get}
use Rattle.std.specs.List.{All}
use Rattle.std.proofs.lemmas.Option.{slice_get-get_or}
use Rattle.atomic_table.specs.Seated.{TableId}
use Rattle.budget.specs.Words.{Shared, held_by as held_at}
use Rattle.budget.specs.declared.words.view.SeatView.{SeatView}
use Rattle.budget.specs.Marks.{Marked}
use Rattle.host_state.specs.Calls.{is_queued}
use Rattle.host_state.specs.Counts.{held_by}
use Rattle.bundle.specs.Lease.{HostShown}
use Rattle.shared_cache.specs.Names.{CacheNames, HasTables, terms_of}
use Rattle.shared_cache.specs.Locked.{HostUnder, IsHostUnder}
use Rattle.shared_cache.specs.Planning.{names_of, IsNewAt, AreNewFrom}

-- what holds of each element that is there holds of all
pub all_from : {X : Type 0} (P : X → Type 0) (xs : List X) → ((k : ℕ) (x : X) → slice_get xs k ≡ Some x → P x) → All P xs
all_from P xs each = λ k d inside. each k _ (slice_get-get_or xs k d inside)

module _ {S : Type 0} where
  module _ (budget : Shared) (link : TableId) where
    -- one host more
    pub one_more_new : (place : ℕ) (hosts : List (HostUnder S)) (under : HostUnder S) → AreNewFrom budget link place hosts → IsNewAt budget link (place + length hosts) under → AreNewFrom budget link place (hosts ++ under ∷ [])
    one_more_new place [] under so_far new = (subst (λ (p : ℕ). IsNewAt budget link p under) (omega arith) new, tt)
    one_more_new place (host ∷ hosts) under so_far new = (so_far.0, one_more_new (suc place) hosts under so_far.1 (subst (λ (p : ℕ). IsNewAt budget link p under) (omega arith) new))

    module _ (names : CacheNames) (limits : names.limits ≡ budget.limits) (words : names.budget ≡ budget.table) (marks : names.link ≡ link) where
      -- one new host, whose tables have names
      new_under : (place : ℕ) (under : HostUnder S) → IsNewAt budget link place under → HasTables names place under.host.tables → IsHostUnder names under
      new_under place under new at = record {
        tables = subst (λ (p : ℕ). HasTables names p under.host.tables) (sym placed) at;
        terms = ap (λ (h : HostShown S). h.settings) new.host ∙ ap terms_of (sym limits);
        budget = new.seat_table ∙ sym words;
        share = ap (λ (v : SeatView). v.share) new.seat;
        permits = ap (λ (v : SeatView). held_at (record { table = under.seat.table; number = under.seat.number; view = v })) new.seat ∙ sym (ap (λ (h : HostShown S). held_by h.log) new.host);
        link = ap (λ (m : Marked). m.table) new.mark ∙ sym marks;
        marked_host = ap (λ (m : Marked). m.host) new.mark ∙ sym placed;
        marked = ap (λ (m : Marked). m.mark) new.mark ∙ sym (ap (λ (h : HostShown S). is_queued h.settings h.log) new.host);
      }
        where
          placed : under.host.host ≡ place
          placed = ap (λ (h : HostShown S). h.host) new.host

      each_under : (place : ℕ) (hosts : List (HostUnder S)) → ((k : ℕ) → slice_get names.hosts (place + k) ≡ slice_get (map (λ (under : HostUnder S). under.host.tables) hosts) k) → AreNewFrom budget link place hosts → (k : ℕ) (under : HostUnder S) → slice_get hosts k ≡ Some under → IsHostUnder names under
      each_under place [] named new zero under at = absurd (search rules)
      each_under place [] named new (suc k) under at = absurd (search rules)
      each_under place (host ∷ hosts) named new zero under at =
          subst (IsHostUnder names) (search rules) (new_under place host new.0 (subst (λ (p : ℕ). slice_get names.hosts p ≡ Some host.host.tables) (omega arith) (named 0)))
      each_under place (host ∷ hosts) named new (suc k) under at =
          each_under (suc place) hosts (λ i. subst (λ (p : ℕ). slice_get names.hosts p ≡ slice_get (map (λ (under : HostUnder S). under.host.tables) hosts) i) (omega arith) (named (suc i))) new.1 k under at

    -- all hosts of a plan
    pub all_under : (hosts : List (HostUnder S)) → AreNewFrom budget link 0 hosts → All (IsHostUnder (names_of budget link hosts)) hosts
    all_under hosts new = all_from (IsHostUnder (names_of budget link hosts)) hosts (each_under (names_of budget link hosts) refl refl refl 0 hosts (λ k. ap (λ (i : ℕ). slice_get (names_of budget link hosts).hosts i) (omega arith)) new)
