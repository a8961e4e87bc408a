-- A host is listed exactly if a transfer waits there beside room.
use Rattle.std.proofs.Common.{◌≡◌, ℕ, ◌<◌, ◌≤◌, Bool, true, false, not, ◌&&◌, ◌==◌, List, length, sym, ap, ◌∙◌, refl, arith}
use Rattle.std.proofs.lemmas.Bool.Decides.{nat_tests}
use Rattle.std.proofs.lemmas.List.Elements.{All-contains}
use Rattle.conn_log.specs.declared.entry.Entry.{Entry}
use Rattle.conn_log.specs.Connections.{open_connections}
use Rattle.conn_log.specs.Waiting.{waiting}
use Rattle.conn_log.specs.Legal.{LimitAndFirst, limit_in_force}
use Rattle.conn_log.proofs.Soundness.{and_left, and_right}
use Rattle.host_state.specs.Steps.{is_full}
use Rattle.host_state.specs.Calls.{is_anyone, is_queued}
use Rattle.host_state.proofs.Soundness.{anyone_is, is_someone}
use Rattle.budget.specs.Lobby.{is_listed}
use Rattle.budget.specs.Marks.{IsAsListed, first_of, hosts_of}
use Rattle.budget.specs.declared.link.Listing.{Listing}
use Rattle.budget.specs.declared.link.Listing.TheVariants.{Mark}
use Rattle.shared_cache.specs.Names.{CacheNames}
use Rattle.shared_cache.specs.Locked.{HostUnder, IsHostUnder, QueueUnder, IsQueueUnder}
use Rattle.shared_cache.specs.Laws.{AreSeatsOfLink, IsListedForRoom}

-- the host's mark is whether the Lobby lists it
listed_is_queued : {S : Type 0} (names : CacheNames) (shown : List Listing) (host : HostUnder S) (queue : QueueUnder) → IsHostUnder names host → IsQueueUnder names queue → AreSeatsOfLink shown host queue
    → is_listed queue.lobby.order host.host.host ≡ is_queued host.host.settings host.host.log
listed_is_queued names shown host queue under beside seats =
    let listed = hosts_of (first_of shown) in
    let marked : is_listed listed host.mark.host ≡ host.mark.mark = All-contains (IsAsListed listed) shown (Mark host.mark.host host.mark.mark) seats.rule.marked seats.mark in
    let order : queue.lobby.order ≡ listed = sym (seats.lobby ∙ beside.order) in
    ap (λ (hosts : List ℕ). is_listed hosts host.host.host) order ∙ ap (λ (place : ℕ). is_listed listed place) (sym under.marked_host) ∙ marked ∙ under.marked

room_left : (count most : ℕ) → not (count == most) ≡ true → count ≤ most → count < most
room_left count most apart within = grind (arith, nat_tests, apart, within)

not_full : (count most : ℕ) → count < most → not (count == most) ≡ true
not_full count most less = grind (arith, nat_tests, less)

both : (a b : Bool) → a ≡ true → b ≡ true → (a && b) ≡ true
both true true p q = refl
both true false p q = q
both false b p q = p

for_room : (listed : Bool) (settings : LimitAndFirst) (log : List Entry) → listed ≡ is_queued settings log → length (open_connections log) ≤ limit_in_force settings log → IsListedForRoom listed settings log
for_room listed settings log is within = record {
  waits = λ yes. is_someone (waiting log) (and_left (is_anyone (waiting log)) (not (is_full settings log)) (sym is ∙ yes));
  has_room = λ yes. room_left (length (open_connections log)) (limit_in_force settings log) (and_right (is_anyone (waiting log)) (not (is_full settings log)) (sym is ∙ yes)) within;
  must_be = λ anyone room. is ∙ both (is_anyone (waiting log)) (not (is_full settings log)) (anyone_is (waiting log) anyone) (not_full (length (open_connections log)) (limit_in_force settings log) room);
}

pub lists_who_waits : {S : Type 0} (names : CacheNames) (shown : List Listing) (host : HostUnder S) (queue : QueueUnder) → IsHostUnder names host → IsQueueUnder names queue → AreSeatsOfLink shown host queue
    → length (open_connections host.host.log) ≤ limit_in_force host.host.settings host.host.log
    → IsListedForRoom (is_listed queue.lobby.order host.host.host) host.host.settings host.host.log
lists_who_waits names shown host queue under beside seats within =
    for_room (is_listed queue.lobby.order host.host.host) host.host.settings host.host.log (listed_is_queued names shown host queue under beside seats) within
