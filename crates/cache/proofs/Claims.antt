-- Who was granted a connection and has yet to claim it has a ticket.
use Rattle.std.proofs.Common.{◌≡◌, ℕ, ◌<◌, Bool, true, false, ◌||◌, List, [], ◌∷◌, length, slice_set, Option, Some, None, refl, sym, ap, ◌∙◌, inl, inr}
use Rattle.std.specs.Prelude.{if◌then◌else◌}
use Rattle.std.specs.Option.{option_and_then}
use Rattle.std.proofs.lemmas.Bool.Decides.{eqb_tells}
use Rattle.conn_log.specs.Connections.{is_among, holder_want, held_number}
use Rattle.conn_log.specs.Waiting.{waiting}
use Rattle.host_state.specs.Queue.{waiting_want}
use Rattle.conn_log.specs.Sound.{IsSound}
use Rattle.host_state.specs.Calls.{Start}
use Rattle.bundle.specs.Lease.{HostShown, UnclaimedAreStarts, KeepsAll, starters, start_for, is_unclaimed, ticket_want}
use Rattle.host_state.specs.Grants.{granted_want}
use Rattle.host_state.proofs.Soundness.{held_want}
use Rattle.cache.specs.Pools.{PoolShown, host_in, host_at}
use Rattle.cache.specs.Turns.{KeepsSpent}
use Rattle.cache.proofs.OneHost.{host_changed, other_host}

-- a start that the transfer was granted
record IsGranted (starts : List Start) (transfer : ℕ) : Type 0 where
  granted : Start
  found : start_for starts transfer ≡ Some granted
  theirs : granted.want.transfer ≡ transfer

granted_one : (starts : List Start) (transfer : ℕ) → is_among transfer (starters starts) ≡ true → IsGranted starts transfer
granted_one [] transfer among = absurd (cc)
granted_one (s ∷ starts) transfer among = elim (eqb_tells s.want.transfer transfer) [
  | inl same ↦ record { granted = s; found = ap (λ (b : Bool). if b then Some s else start_for starts transfer) same.0; theirs = same.1 }
  | inr other ↦
      let rest = granted_one starts transfer (ap (λ (b : Bool). b || is_among transfer (starters starts)) (sym other.0) ∙ among) in
      record { granted = rest.granted; found = ap (λ (b : Bool). if b then Some s else start_for starts transfer) other.0 ∙ rest.found; theirs = rest.theirs }
]

module _ {S : Type 0} where
  -- so who has no ticket has nothing to claim
  pub nothing_to_claim : (host : HostShown S) (t : ℕ) → IsSound host.settings host.log → UnclaimedAreStarts host → ticket_want host t ≡ None → is_unclaimed host t ≡ false
  nothing_to_claim host t sound starts none = by_claim (is_unclaimed host t) refl none
    where
      by_claim : (unclaimed : Bool) → is_unclaimed host t ≡ unclaimed → (if unclaimed then granted_want host.log t else waiting_want (waiting host.log) t) ≡ None → unclaimed ≡ false
      by_claim true is no_ticket =
          let one = granted_one host.unclaimed t is in
          let holds : held_number host.log t ≡ Some one.granted.number = ap (held_number host.log) (sym one.theirs) ∙ (starts t one.granted one.found).holds in
          let want = held_want host.settings host.log sound t one.granted.number holds in
          let some : granted_want host.log t ≡ Some want.0 = ap (λ (n : Option ℕ). option_and_then (holder_want host.log) n) holds ∙ want.1 in
          let never : None ≡ Some want.0 = sym no_ticket ∙ some in
          absurd (cc)
      by_claim false is no_ticket = refl

  -- nor has who spent what they had, where one host changes
  pub spent_where_one_changes : (before after : PoolShown S) (site : ℕ) (new : HostShown S) → site < length before.hosts → after.hosts ≡ slice_set before.hosts site new
      → IsSound new.settings new.log → UnclaimedAreStarts new → KeepsAll (host_at before site) new → KeepsSpent before after
  spent_where_one_changes before after site new there changed sound starts keeps host lt t none unclaimed = elim (eqb_tells host site) [
    | inl same ↦
        let none_here : ticket_want new t ≡ None = keeps.tickets t ∙ ap (λ (h : ℕ). ticket_want (host_at before h) t) (sym same.1) ∙ none in
        ap (λ (hosts : List (HostShown S)). is_unclaimed (host_in hosts host) t) changed
        ∙ ap (λ (h : ℕ). is_unclaimed (host_in (slice_set before.hosts site new) h) t) same.1
        ∙ ap (λ (h : HostShown S). is_unclaimed h t) (host_changed before.hosts site new there)
        ∙ nothing_to_claim new t sound starts none_here
    | inr other ↦
        ap (λ (hosts : List (HostShown S)). is_unclaimed (host_in hosts host) t) changed
        ∙ ap (λ (h : HostShown S). is_unclaimed h t) (other_host before.hosts site host new other.1)
        ∙ unclaimed
  ]
