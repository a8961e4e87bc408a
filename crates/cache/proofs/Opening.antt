-- The turn of a host: one connection is opened for the first transfer that waits there.
use Rattle.std.proofs.Common.{◌≡◌, ◌≢◌, ℕ, ◌+◌, ◌<◌, Bool, true, false, ◌==◌, List, [], ◌∷◌, length, map, slice_set, slice_index_or, Option, refl, sym, ap, subst, ◌∙◌, inl, inr, arith}
use Rattle.std.specs.Prelude.{nat_lt}
use Rattle.std.proofs.lemmas.Bool.Decides.{nat_tests, eqb_tells}
use Rattle.std.proofs.lemmas.List.{length-map}
use Rattle.std.proofs.Math.ListN.{get_or-map}
use Rattle.budget.specs.Limits.{Bounds}
use Rattle.budget.specs.Lobby.{Queue, is_listed}
use Rattle.budget.specs.Plain.{Plain, TellsOfOpen, alive_in, held_at_host}
use Rattle.budget.specs.declared.permits.Held.{Held}
use Rattle.budget.specs.declared.permits.Try.{Try}
use Rattle.budget.specs.declared.permits.Try.TheVariants.{Got, Full, Contended}
use Rattle.budget.proofs.Totals.{alive_moved}
use Rattle.conn_log.specs.declared.stamp.Stamp.{Stamp}
use Rattle.conn_log.specs.declared.entry.Entry.{Entry}
use Rattle.conn_log.specs.Connections.{idle_connections}
use Rattle.conn_log.specs.Fit.{oldest_stamp}
use Rattle.conn_log.specs.Legal.{LimitAndFirst}
use Rattle.bundle.specs.declared.answers.Served.{Served}
use Rattle.bundle.specs.declared.answers.Served.TheVariants.{Given}
use Rattle.host_state.specs.Calls.{after_turn, is_queued}
use Rattle.host_state.specs.Effects.{open_len, idle_len, OpensForHead}
use Rattle.host_state.specs.Laws.{IsSoundAndQuiet}
use Rattle.bundle.specs.Lease.{HostShown}
use Rattle.host_state.specs.Counts.{held_by}
use Rattle.host_state.specs.Orders.{order_after_turn, HadTurn}
use Rattle.bundle.specs.Lobbies.{IsServed}
use Rattle.host_state.proofs.Counts.{turn_opens}
use Rattle.host_state.proofs.OtherHosts.{listed_after_turn}
use Rattle.cache.specs.Oldest.{is_before, stamp_at}
use Rattle.cache.specs.AllHosts.{AllHosts, terms, log_at, has_room, total_waiting, after_turn_of}
use Rattle.cache.specs.Pools.{no_host, logs_of, host_in, all_hosts}
use Rattle.cache.proofs.Calling.{MarksOne, NotesOne}
use Rattle.cache.proofs.OldestOfAll.{none_oldest}
use Rattle.cache.proofs.HostParts.{ChangesPart}
use Rattle.cache.proofs.OneHost.{log_was, logs_changed, read_is}
use Rattle.cache.proofs.HostSums.{total_is, one_waits_less}

nothing_in : (numbers : List ℕ) → length numbers ≡ 0 → numbers ≡ []
nothing_in [] e = refl
nothing_in (c ∷ numbers) e = absurd (omega (arith, e))

-- the queue lists the others as before
pub marks_turn : (host site : ℕ) (is : Bool) (lobby after : Queue) → host ≡ site → HadTurn host is lobby after → MarksOne site is lobby after
marks_turn host site is lobby after place turn = record {
  lobby_hosts = turn.hosts;
  listed = ap (is_listed after.order) (sym place) ∙ turn.lists.listed;
  others_listed = λ other apart. ap (λ (order : List ℕ). is_listed order other) turn.order ∙ listed_after_turn host other is lobby.order (differs other apart);
}
  where
    differs : (other : ℕ) → other ≢ site → (host == other) ≡ false
    differs other apart = elim (eqb_tells host other) [
      | inl same ↦ absurd (apart (sym same.1 ∙ place))
      | inr differ ↦ differ.0
    ]

-- its oldest stays: it has none, before and after
pub notes_none : (site : ℕ) (noted : List (Option Stamp)) (log : List Entry) → idle_len log ≡ 0 → NotesOne site noted noted (oldest_stamp log site)
notes_none site noted log none = record {
  stamps = refl;
  other_stamps = λ other apart. refl;
  not_later = ap (λ (o : Option Stamp). is_before o (stamp_at noted site)) (none_oldest log site (nothing_in (idle_connections log) none));
}

module _ {S : Type 0} (hosts : List (HostShown S)) (site : ℕ) (was new : HostShown S) (budget later : Plain) (there : site < length hosts) (read : was ≡ slice_index_or hosts site was) (parts : budget.hosts ≡ map (λ (h : HostShown S). held_by h.log) hosts) (part : ChangesPart site budget later (held_by new.log)) where
  part_was : held_at_host budget.hosts site ≡ held_by was.log
  part_was =
      let part_of : HostShown S → Held = λ (h : HostShown S). held_by h.log in
      ap (λ (parts_are : List Held). held_at_host parts_are site) parts
      ∙ default_part
      ∙ ap part_of (sym (read_is hosts site was there read))
    where
      default_part : held_at_host (map (λ (h : HostShown S). held_by h.log) hosts) site ≡ held_by (host_in hosts site).log
      default_part = get_or-map (λ (h : HostShown S). held_by h.log) hosts site no_host

  -- where the total has room the budget gives the permit
  pub turn_given : (told : Try) (now : ℕ) → has_room budget.limits (all_hosts (record { limits = budget.limits; hosts = hosts; queue = [] })) ≡ true → TellsOfOpen later told → new.log ≡ after_turn told was.settings was.log now → told ≡ Got
  turn_given Got now room tells log = refl
  turn_given Full now room tells log =
      let all = total_is hosts budget parts in
      let moved = alive_moved site budget later (subst (λ (n : ℕ). site < n) (sym (ap length parts ∙ length-map hosts (λ (h : HostShown S). held_by h.log))) there) part.others in
      let before : (held_at_host budget.hosts site).alive ≡ open_len was.log = ap (λ (h : Held). h.alive) part_was in
      let after : (held_at_host later.hosts site).alive ≡ open_len was.log = ap (λ (h : Held). h.alive) part.own ∙ ap open_len log in
      let limit : later.limits.total ≡ budget.limits.total = ap (λ (l : Bounds). l.total) part.others.limits in
      absurd (no_room (alive_in later.hosts) (alive_in budget.hosts) later.limits.total budget.limits.total tells limit (omega (arith, moved, before, after)) (ap (λ (n : ℕ). nat_lt n budget.limits.total) all ∙ room))
    where
      no_room : (after before limit limit' : ℕ) → after ≡ limit → limit ≡ limit' → after ≡ before → nat_lt before limit' ≡ true → ⊥
      no_room after before limit limit' tells same moved room = grind (arith, nat_tests, tells, same, moved, room)
  turn_given Contended now room tells log = absurd tells

pub served_turn : (host : ℕ) (result : Served) (is : Bool) (lobby after : Queue) → result ≡ Given → IsServed host result is lobby after → HadTurn host is lobby after
served_turn host result is lobby after given served = subst (λ (r : Served). IsServed host r is lobby after) given served

module _ {S : Type 0} (limits : Bounds) (hosts : List (HostShown S)) (site : ℕ) (was new : HostShown S) (order after : List ℕ) (now : ℕ) (there : site < length hosts) (read : was ≡ slice_index_or hosts site was) (terms_are : was.settings ≡ terms limits) (log : new.log ≡ after_turn Got was.settings was.log now) where
  abbrev before : AllHosts
  before = record { logs = logs_of hosts; queue = order }

  log_turned : new.log ≡ after_turn Got (terms limits) (log_at before site) now
  log_turned = log ∙ ap (λ (s : LimitAndFirst). after_turn Got s was.log now) terms_are ∙ ap (λ (l : List Entry). after_turn Got (terms limits) l now) (log_was hosts site was there read)

  pub all_turned : was.host ≡ site → new.settings ≡ was.settings → after ≡ order_after_turn was.host (is_queued new.settings new.log) order
      → all_hosts (record { limits = limits; hosts = slice_set hosts site new; queue = after }) ≡ after_turn_of site limits now before
  all_turned place same order_is =
      let mark : is_queued new.settings new.log ≡ is_queued (terms limits) (after_turn Got (terms limits) (log_at before site) now) =
      ap (λ (s : LimitAndFirst). is_queued s new.log) (same ∙ terms_are) ∙ ap (is_queued (terms limits)) log_turned in
      let queue : after ≡ order_after_turn site (is_queued (terms limits) (after_turn Got (terms limits) (log_at before site) now)) order =
      order_is ∙ ap (λ (h : ℕ). order_after_turn h (is_queued new.settings new.log) order) place ∙ ap (λ (b : Bool). order_after_turn site b order) mark in
      let logs : logs_of (slice_set hosts site new) ≡ slice_set (logs_of hosts) site (after_turn Got (terms limits) (log_at before site) now) =
      logs_changed hosts site new ∙ ap (λ (l : List Entry). slice_set (logs_of hosts) site l) log_turned in
      ap (λ (l : List (List Entry)). both l after) logs ∙ ap (both (slice_set (logs_of hosts) site (after_turn Got (terms limits) (log_at before site) now))) queue
    where
      both : List (List Entry) → List ℕ → AllHosts
      both ls q = record { logs = ls; queue = q }

  pub opened_for_head : IsSoundAndQuiet was.settings was.log → is_queued was.settings was.log ≡ true → OpensForHead was.settings was.log new.log
  opened_for_head settled queued = subst (OpensForHead was.settings was.log) (sym log) (turn_opens was.settings was.log now settled queued)

  -- nothing was idle there, so nothing is
  pub still_none_idle : IsSoundAndQuiet was.settings was.log → is_queued was.settings was.log ≡ true → idle_len new.log ≡ 0
  still_none_idle settled queued =
      let opens = opened_for_head settled queued in
      opens.as_many_idle ∙ ap length (settled.quiet.none_idle ((settled.quiet.queued_for queued).0))

  pub waits_less : IsSoundAndQuiet was.settings was.log → is_queued was.settings was.log ≡ true
      → total_waiting (all_hosts (record { limits = limits; hosts = slice_set hosts site new; queue = after })) + 1 ≡ total_waiting before
  waits_less settled queued =
      let opens : OpensForHead was.settings (log_at before site) new.log = subst (λ (l : List Entry). OpensForHead was.settings l new.log) (log_was hosts site was there read) (opened_for_head settled queued) in
      let long : site < length before.logs = subst (λ (n : ℕ). site < n) (sym (length-map hosts (λ (h : HostShown S). h.log))) there in
      ap (λ (ls : List (List Entry)). total_waiting (record { logs = ls; queue = after }) + 1) (logs_changed hosts site new)
      ∙ one_waits_less site new.log before was.settings long opens
