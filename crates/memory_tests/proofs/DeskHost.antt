-- What a desk holds and lists, as a call of its host leaves it.
use Rattle.std.proofs.Common.{◌≡◌, ℕ, ◌<◌, List, [], length, replicate, Bool, true, false, refl, sym, ap, subst, ◌∙◌}
use mathlib.Core.Bool.{false≢true}
use Rattle.std.proofs.lemmas.List.{get_or-replicate, length-replicate}
use Rattle.budget.specs.Accounts.{IsEnrolledAt, KeepsSeats}
use Rattle.budget.specs.declared.permits.Held.{Held}
use Rattle.budget.specs.Limits.{Bounds}
use Rattle.budget.specs.Permits.{held}
use Rattle.budget.specs.Plain.{Plain, held_at_host, nothing_held, KeepsOtherHosts}
use Rattle.budget.specs.Lobby.{Queue}
use Rattle.host_state.specs.Calls.{is_queued}
use Rattle.bundle.specs.Lease.{HostShown, IsNewHost, StaysThere}
use Rattle.host_state.specs.Counts.{held_by}
use Rattle.bundle.specs.Seats.{Tables}
use Rattle.host_state.specs.Orders.{Lists, IsMarked}
use Rattle.bundle.specs.Lobbies.{IsServed}
use Rattle.bundle.specs.Passes.{Accounts}
use Rattle.bundle.specs.declared.answers.Served.{Served}
use Rattle.bundle.specs.declared.answers.Served.TheVariants.{Given, Full, Contended}

-- of the budget the host holds what its log tells, the lobby lists it if it is queued, and the pass has a seat there
abbrev pub Tells : {S : Type 0} → HostShown S → Plain → Queue → Accounts → Type 0
Tells bundle budget lobby pass = record {
  here : bundle.host < length budget.hosts;
  part : held_at_host budget.hosts bundle.host ≡ held_by bundle.log;
  lists : Lists bundle.host (is_queued bundle.settings bundle.log) lobby;
  enrolled : IsEnrolledAt pass bundle.host bundle.tables.starts;
}

-- the call's part of the budget is the host's, and what it leaves is as the call says
pub after_call : {S : Type 0} (old new : HostShown S) (before start end : Plain) (entry exit index : ℕ) (was now : Queue) (lent left : Accounts) → Tells old before was lent → index ≡ old.host → start ≡ before → entry ≡ index → exit ≡ entry → KeepsOtherHosts entry start end → held_at_host end.hosts exit ≡ held_by new.log → StaysThere old new → Lists old.host (is_queued new.settings new.log) now → KeepsSeats lent left → Tells new end now left
after_call old new before start end entry exit index was now lent left tells found begins at stays keeps part same lists kept =
    let count : length end.hosts ≡ length before.hosts = keeps.count ∙ ap (λ (b : Plain). length b.hosts) begins in
    record {
      here = rw (count, same.host) tells.here;
      part = subst (λ n. held_at_host end.hosts n ≡ held_by new.log) (stays ∙ at ∙ found ∙ sym same.host) part;
      lists = subst (λ n. Lists n (is_queued new.settings new.log) now) (sym same.host) lists;
      enrolled = subst (λ n. IsEnrolledAt left n new.tables.starts) (sym same.host) (subst (λ (t : Tables). IsEnrolledAt left old.host t.starts) (sym same.tables) (kept old.host old.tables.starts tells.enrolled));
    }

pub after_marked : {S : Type 0} (old new : HostShown S) (before start end : Plain) (entry exit index : ℕ) (was now : Queue) (lent left : Accounts) → Tells old before was lent → index ≡ old.host → start ≡ before → entry ≡ index → exit ≡ entry → KeepsOtherHosts entry start end → held_at_host end.hosts exit ≡ held_by new.log → StaysThere old new → IsMarked old.host (is_queued old.settings old.log) (is_queued new.settings new.log) was now → KeepsSeats lent left → Tells new end now left
after_marked old new before start end entry exit index was now lent left tells found begins at stays keeps part same marked kept =
    after_call old new before start end entry exit index was now lent left tells found begins at stays keeps part same marked.lists kept

pub after_unmarked : {S : Type 0} (old new : HostShown S) (before start end : Plain) (entry exit index : ℕ) (lobby : Queue) (lent left : Accounts) → Tells old before lobby lent → index ≡ old.host → start ≡ before → entry ≡ index → exit ≡ entry → KeepsOtherHosts entry start end → held_at_host end.hosts exit ≡ held_by new.log → StaysThere old new → is_queued new.settings new.log ≡ is_queued old.settings old.log → KeepsSeats lent left → Tells new end lobby left
after_unmarked old new before start end entry exit index lobby lent left tells found begins at stays keeps part same mark kept =
    after_call old new before start end entry exit index lobby lobby lent left tells found begins at stays keeps part same (subst (λ b. Lists old.host b lobby) (sym mark) tells.lists) kept

is_given : Served → Bool
is_given Given = true
is_given (Full short) = false
is_given Contended = false

-- and as a turn leaves it
pub after_turned : {S : Type 0} (result : Served) (old new : HostShown S) (before start end : Plain) (entry exit index : ℕ) (was now : Queue) (pass : Accounts) → Tells old before was pass → index ≡ old.host → start ≡ before → entry ≡ index → exit ≡ entry → KeepsOtherHosts entry start end → held_at_host end.hosts exit ≡ held_by new.log → StaysThere old new → IsServed old.host result (is_queued new.settings new.log) was now → ((result ≡ Given → ⊥) → new ≡ old) → Tells new end now pass
unfolding is_given
after_turned Given old new before start end entry exit index was now pass tells found begins at stays keeps part same turned unchanged =
    after_call old new before start end entry exit index was now pass pass tells found begins at stays keeps part same turned.lists (λ h t seat. seat)
after_turned {S} (Full short) old new before start end entry exit index was now pass tells found begins at stays keeps part same turned unchanged =
    rw turned (after_unmarked old new before start end entry exit index was pass pass tells found begins at stays keeps part same (ap (λ (v : HostShown S). is_queued v.settings v.log) (unchanged (λ e. false≢true (ap is_given e)))) (λ h t seat. seat))
after_turned {S} Contended old new before start end entry exit index was now pass tells found begins at stays keeps part same turned unchanged =
    rw turned (after_unmarked old new before start end entry exit index was pass pass tells found begins at stays keeps part same (ap (λ (v : HostShown S). is_queued v.settings v.log) (unchanged (λ e. false≢true (ap is_given e)))) (λ h t seat. seat))

-- a new host holds nothing of a new budget, and an empty lobby does not list it
part_of_new : {S : Type 0} (new : HostShown S) (hosts index : ℕ) (parts : List Held) → new.log ≡ [] → new.host ≡ index → index < hosts → parts ≡ replicate hosts (held 0 0) → held_at_host parts new.host ≡ held_by new.log
part_of_new new hosts index parts log host there none = rw (log, host, none) (get_or-replicate hosts index (held 0 0) (held 0 0) there)

lists_new : {S : Type 0} (new : HostShown S) (hosts index : ℕ) (lobby : Queue) → new.log ≡ [] → new.host ≡ index → index < hosts → lobby ≡ record { hosts = hosts; order = [] } → Lists new.host (is_queued new.settings new.log) lobby
lists_new new hosts index lobby log host there empty = rw (log, host, empty) (record { there = there; listed = refl })

-- a desk of a new host that was enrolled with its pass
pub new_desk : {S : Type 0} (made bundle : HostShown S) (limit first hosts here : ℕ) (limits : Bounds) (budget : Plain) (lobby : Queue) (pass : Accounts) → IsNewHost limit here first made → bundle ≡ made → here < hosts → budget ≡ nothing_held limits hosts → lobby ≡ record { hosts = hosts; order = [] } → IsEnrolledAt pass bundle.host bundle.tables.starts → Tells bundle budget lobby pass
new_desk {S} made bundle limit first hosts here limits budget lobby pass new_host same here_is none empty seat =
    let is_new = subst (λ (b : HostShown S). IsNewHost limit here first b) (sym same) new_host in
    let parts : budget.hosts ≡ replicate hosts (held 0 0) = ap (λ (b : Plain). b.hosts) none in
    let count : length budget.hosts ≡ hosts = ap (λ (hs : List Held). length hs) parts ∙ length-replicate hosts (held 0 0) in
    let host : bundle.host ≡ here = ap (λ (b : HostShown S). b.host) is_new in
    let log : bundle.log ≡ [] = ap (λ (b : HostShown S). b.log) is_new in
    record {
      here = rw (count, host) here_is;
      part = part_of_new bundle hosts here budget.hosts log host here_is parts;
      lists = lists_new bundle hosts here lobby log host here_is empty;
      enrolled = seat;
    }
