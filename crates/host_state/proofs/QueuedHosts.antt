-- When a host is queued, and how a lobby lists it.
use Rattle.std.proofs.Common.{◌≡◌, ℕ, ◌<◌, Bool, true, false, not, ◌&&◌, List, slice_get, Some, refl, sym, ap, subst, ◌∙◌}
use Rattle.budget.specs.Lobby.{Queue, is_listed, without_host, turned}
use Rattle.budget.proofs.Queues.{listed_turned, listed_first}
use Rattle.conn_log.specs.declared.entry.Entry.{Entry}
use Rattle.conn_log.specs.Waiting.{waiting}
use Rattle.conn_log.specs.Legal.{LimitAndFirst, IsAnyone}
use Rattle.host_state.specs.Steps.{is_full}
use Rattle.host_state.specs.Calls.{is_queued}
use Rattle.host_state.specs.Orders.{Lists, IsMarked, HadTurn}
use Rattle.host_state.proofs.Soundness.{anyone_is}

module _ (settings : LimitAndFirst) (log : List Entry) where
  -- where someone waits the host is queued unless it is full
  pub queued_if : (full : Bool) → IsAnyone (waiting log) → full ≡ is_full settings log → not full ≡ is_queued settings log
  queued_if full anyone is = ap not is ∙ sym (ap (λ b. b && not (is_full settings log)) (anyone_is (waiting log) anyone))

-- a lobby that is left as it is
pub host_stayed : (host : ℕ) (queued : Bool) (lobby : Queue) → Lists host queued lobby → IsMarked host queued queued lobby lobby
host_stayed host true lobby lists = record { hosts = refl; order = refl; lists = lists }
host_stayed host false lobby lists = record { hosts = refl; order = refl; lists = lists }

-- the first host goes to the end, or leaves
module _ (host : ℕ) (old new : Queue) (there : host < old.hosts) (same_hosts : new.hosts ≡ old.hosts) where
  pub turn_at_end : slice_get old.order 0 ≡ Some host → new.order ≡ turned old.order → HadTurn host true old new
  turn_at_end first last = record {
    hosts = same_hosts;
    order = last;
    lists = record {
      there = subst (λ n. host < n) (sym same_hosts) there;
      listed = ap (λ order. is_listed order host) last ∙ listed_turned old.order host ∙ listed_first old.order host first;
    };
  }

  pub turn_left : new.order ≡ without_host old.order host → is_listed new.order host ≡ false → HadTurn host false old new
  turn_left out gone = record {
    hosts = same_hosts;
    order = out;
    lists = record { there = subst (λ n. host < n) (sym same_hosts) there; listed = gone };
  }
