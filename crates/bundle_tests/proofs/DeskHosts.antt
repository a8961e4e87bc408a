-- What a desk of two hosts holds and lists, as a call of one of them leaves it.
use Rattle.std.proofs.Common.{◌≡◌, ◌≢◌, ℕ, ◌<◌, ◌≤◌, List, [], length, replicate, Bool, true, false, ◌==◌, refl, sym, ap, subst, ◌∙◌, arith}
use mathlib.Core.Bool.{false≢true}
use Rattle.std.proofs.lemmas.Bool.Decides.{nat_tests}
use Rattle.std.proofs.lemmas.List.{get_or-replicate, length-replicate}
use Rattle.budget.specs.Accounts.{IsEnrolledAt, KeepsSeats}
use Rattle.budget.specs.declared.permits.Held.{Held}
use Rattle.budget.specs.Limits.{Bounds}
use Rattle.budget.specs.Permits.{held}
use Rattle.budget.specs.Plain.{Plain, held_at_host, nothing_held, KeepsOtherHosts}
use Rattle.budget.specs.Lobby.{Queue}
use Rattle.host_state.specs.Calls.{is_queued}
use Rattle.bundle.specs.Lease.{HostShown, IsNewHost, StaysThere}
use Rattle.host_state.specs.Counts.{held_by}
use Rattle.bundle.specs.Seats.{Tables}
use Rattle.host_state.specs.Orders.{Lists, IsMarked}
use Rattle.bundle.specs.Lobbies.{IsServed}
use Rattle.bundle.specs.Passes.{Accounts}
use Rattle.bundle.specs.declared.answers.Served.{Served}
use Rattle.bundle.specs.declared.answers.Served.TheVariants.{Given, Full, Contended}
use Rattle.host_state.proofs.OtherHosts.{lists_other, lists_other_after_turn}

differ : (host other : ℕ) → host ≢ other → (host == other) ≡ false
differ host other two = grind (arith, nat_tests, two)

-- of the budget each host holds what its log tells, the lobby lists it where it is queued, and the pass has a seat there
abbrev pub Tells : {S : Type 0} → HostShown S → HostShown S → Plain → Queue → Accounts → Type 0
Tells bundle other budget lobby pass = record {
  hosts : 3 ≤ length budget.hosts;
  here : bundle.host < length budget.hosts;
  there : other.host < length budget.hosts;
  two : bundle.host ≢ other.host;
  part : held_at_host budget.hosts bundle.host ≡ held_by bundle.log;
  others : held_at_host budget.hosts other.host ≡ held_by other.log;
  lists : Lists bundle.host (is_queued bundle.settings bundle.log) lobby;
  lists_other : Lists other.host (is_queued other.settings other.log) lobby;
  enrolled : IsEnrolledAt pass bundle.host bundle.tables.starts;
  enrolled_other : IsEnrolledAt pass other.host other.tables.starts;
}

-- a host that stays what it is keeps its pass enrolled, where the pass keeps its seats
pub still_enrolled : {S : Type 0} (old new : HostShown S) (lent left : Accounts) → StaysThere old new → KeepsSeats lent left → IsEnrolledAt lent old.host old.tables.starts → IsEnrolledAt left new.host new.tables.starts
still_enrolled old new lent left same kept enrolled =
    subst (λ n. IsEnrolledAt left n new.tables.starts) (sym same.host) (subst (λ (t : Tables). IsEnrolledAt left old.host t.starts) (sym same.tables) (kept old.host old.tables.starts enrolled))

-- the call's part of the budget is the host's, and what it leaves is as the call says
pub after_call : {S : Type 0} (old new other : HostShown S) (before start end : Plain) (entry exit index : ℕ) (was now : Queue) (lent left : Accounts) → Tells old other before was lent → index ≡ old.host → start ≡ before → entry ≡ index → exit ≡ entry → KeepsOtherHosts entry start end → held_at_host end.hosts exit ≡ held_by new.log → StaysThere old new → Lists old.host (is_queued new.settings new.log) now → Lists other.host (is_queued other.settings other.log) now → KeepsSeats lent left → Tells new other end now left
after_call old new other before start end entry exit index was now lent left tells found begins at stays keeps part same lists apart kept =
    let count : length end.hosts ≡ length before.hosts = keeps.count ∙ ap (λ (b : Plain). length b.hosts) begins in
    record {
      hosts = rw count tells.hosts;
      here = rw (count, same.host) tells.here;
      there = rw count tells.there;
      two = λ e. tells.two (sym same.host ∙ e);
      part = subst (λ n. held_at_host end.hosts n ≡ held_by new.log) (stays ∙ at ∙ found ∙ sym same.host) part;
      others = keeps.others other.host (λ e. tells.two (sym (e ∙ at ∙ found))) ∙ ap (λ (b : Plain). held_at_host b.hosts other.host) begins ∙ tells.others;
      lists = subst (λ n. Lists n (is_queued new.settings new.log) now) (sym same.host) lists;
      lists_other = apart;
      enrolled = still_enrolled old new lent left same kept tells.enrolled;
      enrolled_other = kept other.host other.tables.starts tells.enrolled_other;
    }

pub after_marked : {S : Type 0} (old new other : HostShown S) (before start end : Plain) (entry exit index : ℕ) (was now : Queue) (lent left : Accounts) → Tells old other before was lent → index ≡ old.host → start ≡ before → entry ≡ index → exit ≡ entry → KeepsOtherHosts entry start end → held_at_host end.hosts exit ≡ held_by new.log → StaysThere old new → IsMarked old.host (is_queued old.settings old.log) (is_queued new.settings new.log) was now → KeepsSeats lent left → Tells new other end now left
after_marked old new other before start end entry exit index was now lent left tells found begins at stays keeps part same marked kept =
    after_call old new other before start end entry exit index was now lent left tells found begins at stays keeps part same marked.lists (lists_other old.host other.host _ _ _ was now (differ old.host other.host tells.two) marked tells.lists_other) kept

pub after_unmarked : {S : Type 0} (old new other : HostShown S) (before start end : Plain) (entry exit index : ℕ) (lobby : Queue) (lent left : Accounts) → Tells old other before lobby lent → index ≡ old.host → start ≡ before → entry ≡ index → exit ≡ entry → KeepsOtherHosts entry start end → held_at_host end.hosts exit ≡ held_by new.log → StaysThere old new → is_queued new.settings new.log ≡ is_queued old.settings old.log → KeepsSeats lent left → Tells new other end lobby left
after_unmarked old new other before start end entry exit index lobby lent left tells found begins at stays keeps part same mark kept =
    after_call old new other before start end entry exit index lobby lobby lent left tells found begins at stays keeps part same (subst (λ b. Lists old.host b lobby) (sym mark) tells.lists) tells.lists_other kept

is_given : Served → Bool
is_given Given = true
is_given (Full short) = false
is_given Contended = false

-- and as a turn leaves it
pub after_turned : {S : Type 0} (result : Served) (old new other : HostShown S) (before start end : Plain) (entry exit index : ℕ) (was now : Queue) (pass : Accounts) → Tells old other before was pass → index ≡ old.host → start ≡ before → entry ≡ index → exit ≡ entry → KeepsOtherHosts entry start end → held_at_host end.hosts exit ≡ held_by new.log → StaysThere old new → IsServed old.host result (is_queued new.settings new.log) was now → ((result ≡ Given → ⊥) → new ≡ old) → Tells new other end now pass
unfolding is_given
after_turned Given old new other before start end entry exit index was now pass tells found begins at stays keeps part same turned unchanged =
    after_call old new other before start end entry exit index was now pass pass tells found begins at stays keeps part same turned.lists (lists_other_after_turn old.host other.host _ _ was now (differ old.host other.host tells.two) turned tells.lists_other) (λ h t seat. seat)
after_turned {S} (Full short) old new other before start end entry exit index was now pass tells found begins at stays keeps part same turned unchanged =
    rw turned (after_unmarked old new other before start end entry exit index was pass pass tells found begins at stays keeps part same (ap (λ (v : HostShown S). is_queued v.settings v.log) (unchanged (λ e. false≢true (ap is_given e)))) (λ h t seat. seat))
after_turned {S} Contended old new other before start end entry exit index was now pass tells found begins at stays keeps part same turned unchanged =
    rw turned (after_unmarked old new other before start end entry exit index was pass pass tells found begins at stays keeps part same (ap (λ (v : HostShown S). is_queued v.settings v.log) (unchanged (λ e. false≢true (ap is_given e)))) (λ h t seat. seat))

-- and as the budget is left where it was asked for a third host
pub after_elsewhere : {S : Type 0} (old other : HostShown S) (before start end : Plain) (entry index : ℕ) (lobby : Queue) (pass : Accounts) → Tells old other before lobby pass → start ≡ before → entry ≡ index → (index ≡ old.host → ⊥) → (index ≡ other.host → ⊥) → KeepsOtherHosts entry start end → Tells old other end lobby pass
after_elsewhere old other before start end entry index lobby pass tells begins at not_here not_there keeps =
    let count : length end.hosts ≡ length before.hosts = keeps.count ∙ ap (λ (b : Plain). length b.hosts) begins in
    record {
      hosts = rw count tells.hosts;
      here = rw count tells.here;
      there = rw count tells.there;
      two = tells.two;
      part = keeps.others old.host (λ e. not_here (sym (e ∙ at))) ∙ ap (λ (b : Plain). held_at_host b.hosts old.host) begins ∙ tells.part;
      others = keeps.others other.host (λ e. not_there (sym (e ∙ at))) ∙ ap (λ (b : Plain). held_at_host b.hosts other.host) begins ∙ tells.others;
      lists = tells.lists;
      lists_other = tells.lists_other;
      enrolled = tells.enrolled;
      enrolled_other = tells.enrolled_other;
    }

-- a new host holds nothing of a new budget, and an empty lobby does not list it
part_of_new : {S : Type 0} (new : HostShown S) (hosts index : ℕ) (parts : List Held) → new.log ≡ [] → new.host ≡ index → index < hosts → parts ≡ replicate hosts (held 0 0) → held_at_host parts new.host ≡ held_by new.log
part_of_new new hosts index parts log host there none = rw (log, host, none) (get_or-replicate hosts index (held 0 0) (held 0 0) there)

lists_new : {S : Type 0} (new : HostShown S) (hosts index : ℕ) (lobby : Queue) → new.log ≡ [] → new.host ≡ index → index < hosts → lobby ≡ record { hosts = hosts; order = [] } → Lists new.host (is_queued new.settings new.log) lobby
lists_new new hosts index lobby log host there empty = rw (log, host, empty) (record { there = there; listed = refl })

-- a new host that is as it was is new
pub new_still : {S : Type 0} (limit index first : ℕ) (old new : HostShown S) → new ≡ old → IsNewHost limit index first old → IsNewHost limit index first new
new_still {S} limit index first old new same made = subst (λ (b : HostShown S). IsNewHost limit index first b) (sym same) made

-- a desk of two new hosts, with a pass that was enrolled at one and then at the other
pub new_desk : {S : Type 0} (bundle other : HostShown S) (limit other_limit first hosts here there : ℕ) (limits : Bounds) (budget : Plain) (lobby : Queue) (middle pass : Accounts) → IsNewHost limit here first bundle → IsNewHost other_limit there first other → 3 ≤ hosts → here < hosts → there < hosts → (here ≡ there → ⊥) → budget ≡ nothing_held limits hosts → lobby ≡ record { hosts = hosts; order = [] } → IsEnrolledAt middle bundle.host bundle.tables.starts → IsEnrolledAt pass other.host other.tables.starts → KeepsSeats middle pass → Tells bundle other budget lobby pass
new_desk {S} bundle other limit other_limit first hosts here there limits budget lobby middle pass new_bundle new_other many here_is there_is two none empty first_seat second_seat kept =
    let parts : budget.hosts ≡ replicate hosts (held 0 0) = ap (λ (b : Plain). b.hosts) none in
    let count : length budget.hosts ≡ hosts = ap (λ (hs : List Held). length hs) parts ∙ length-replicate hosts (held 0 0) in
    let host : bundle.host ≡ here = ap (λ (b : HostShown S). b.host) new_bundle in
    let host_there : other.host ≡ there = ap (λ (b : HostShown S). b.host) new_other in
    let log : bundle.log ≡ [] = ap (λ (b : HostShown S). b.log) new_bundle in
    let log_there : other.log ≡ [] = ap (λ (b : HostShown S). b.log) new_other in
    record {
      hosts = rw count many;
      here = rw (count, host) here_is;
      there = rw (count, host_there) there_is;
      two = λ e. two (sym host ∙ e ∙ host_there);
      part = part_of_new bundle hosts here budget.hosts log host here_is parts;
      others = part_of_new other hosts there budget.hosts log_there host_there there_is parts;
      lists = lists_new bundle hosts here lobby log host here_is empty;
      lists_other = lists_new other hosts there lobby log_there host_there there_is empty;
      enrolled = kept bundle.host bundle.tables.starts first_seat;
      enrolled_other = second_seat;
    }
