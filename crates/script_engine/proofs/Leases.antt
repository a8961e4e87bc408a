-- The leases and tickets that a host keeps, before and after a call.
use Rattle.std.proofs.Common.{◌≡◌, ℕ, Bool, true, false, cond, ◌||◌, List, [], ◌∷◌, refl, ap, sym, ◌∙◌, arith, Option, Some, None, is_some}
use Rattle.std.specs.Prelude.{◌==◌}
use Rattle.std.specs.Option.{option_map, option_map_or, option_and_then}
use Rattle.std.specs.Ordering.{nat_cmp}
use Rattle.std.specs.BTreeMap.{is_at}
use Rattle.std.specs.List.{list_any}
use Rattle.std.proofs.lemmas.Bool.{eqb-true}
use Rattle.std.proofs.lemmas.Bool.Decides.{nat_tests}
use Rattle.conn_log.specs.declared.entry.Entry.{Entry}
use Rattle.conn_log.specs.declared.entry.Want.{Want}
use Rattle.conn_log.specs.Connections.{is_among, is_held_by, holds, holder_want, held_number}
use Rattle.conn_log.specs.Waiting.{waiting, waits}
use Rattle.conn_log.specs.Sound.{IsSound, has_number}
use Rattle.conn_log.proofs.Soundness.{holds_is}
use Rattle.conn_log.specs.Legal.{LimitAndFirst}
use Rattle.budget.specs.declared.refusal.Refusal.TheVariants as refusals
use Rattle.host_state.specs.Steps.{is_exhausted}
use Rattle.host_state.specs.Calls.{refusal, is_busy}
use Rattle.host_state.specs.Queue.{waiting_want}
use Rattle.bundle.specs.Lease.{HostShown, StaysThere, is_unclaimed, lease_number, ticket_want, is_same_want, is_valid_ticket}
use Rattle.host_state.specs.Grants.{granted_want}
use Rattle.cache.specs.AllHosts.{log_at}
use Rattle.script_engine.specs.Meaning.{AtSite, claimed_number}
use Rattle.bundle.specs.Seats.{Tables}
use Rattle.script_engine.specs.Hosted.{whereabouts, kept_facts, leases_of, TicketFacts, wanted_at, tickets_of, due_others}
use Rattle.script_engine.proofs.Tickets.{at-key}

pub itself : (c : ℕ) → (c == c) ≡ true
itself c = grind (arith, nat_tests)

-- the connection that a transfer holds is held by it
pub held-passes : (settings : LimitAndFirst) (log : List Entry) → IsSound settings log → (t c : ℕ) → held_number log t ≡ Some c → is_held_by log t c ≡ true
held-passes settings log sound t c e = sound.orderly.held_once c t ∙ ap (λ held. has_number held c) e ∙ itself c

-- a transfer that is not refused neither holds nor waits
not-busy : (busy exhausted : Bool) → cond busy (Some refusals.TransferBusy) (cond exhausted (Some refusals.Exhausted) None) ≡ None → busy ≡ false
not-busy true exhausted e = cc
not-busy false exhausted e = refl

neither : (a b : Bool) → (a || b) ≡ false → (a ≡ false) × (b ≡ false)
neither true b e = cc
neither false b e = (refl, e)

none-held : {A : Type 0} (held : Option A) → is_some held ≡ false → held ≡ None
none-held None e = refl
none-held (Some c) e = cc

pub accepted-idle : (settings : LimitAndFirst) (log : List Entry) (want : Want) → refusal settings log [] want ≡ None → is_busy log [] want.transfer ≡ false
accepted-idle settings log want e = not-busy (is_busy log [] want.transfer) (is_exhausted settings log 0) e

pub idle-free : (settings : LimitAndFirst) (log : List Entry) → IsSound settings log → (t : ℕ) → is_busy log [] t ≡ false → (held_number log t ≡ None) × (waits log t ≡ false)
idle-free settings log sound t e =
    let free = neither (holds log t) (waits log t || false) e in
    (none-held (held_number log t) (sym (holds_is settings log sound.orderly t) ∙ free.0), (neither (waits log t) false free.1).0)

pub accepted-free : (settings : LimitAndFirst) (log : List Entry) → IsSound settings log → (want : Want) → refusal settings log [] want ≡ None
    → (held_number log want.transfer ≡ None) × (waits log want.transfer ≡ false)
accepted-free settings log sound want e = idle-free settings log sound want.transfer (accepted-idle settings log want e)

-- who waits, by its want
pub waits-want : (wants : List Want) (t : ℕ) → is_some (waiting_want wants t) ≡ list_any (λ (want : Want). want.transfer == t) wants
waits-want [] t = refl
waits-want (want ∷ others) t = by_first (want.transfer == t) (waits-want others t)
  where
    by_first : (first : Bool) → is_some (waiting_want others t) ≡ list_any (λ (want : Want). want.transfer == t) others → is_some (cond first (Some want) (waiting_want others t)) ≡ (first || list_any (λ (want : Want). want.transfer == t) others)
    by_first true rest = refl
    by_first false rest = rest

own-wait : (wants : List Want) (t : ℕ) (w : Want) → waiting_want wants t ≡ Some w → w.transfer ≡ t
own-wait [] t w e = cc
own-wait (want ∷ others) t w e = by_first (want.transfer == t) refl e (own-wait others t w)
  where
    by_first : (first : Bool) → (want.transfer == t) ≡ first → cond first (Some want) (waiting_want others t) ≡ Some w → (waiting_want others t ≡ Some w → w.transfer ≡ t) → w.transfer ≡ t
    by_first true is e' rest = let same : want ≡ w = cc in ap (λ (x : Want). x.transfer) (sym same) ∙ eqb-true want.transfer t is
    by_first false is e' rest = rest e'

-- what a transfer has a lease of, it holds
pub leased-held : {S : Type 0} (host : HostShown S) (t c : ℕ) → lease_number host t ≡ Some c → held_number host.log t ≡ Some c
leased-held host t c e = by_claim (is_unclaimed host t) e
  where
    by_claim : (unclaimed : Bool) → cond unclaimed None (held_number host.log t) ≡ Some c → held_number host.log t ≡ Some c
    by_claim true e' = cc
    by_claim false e' = e'

module _ {S : Type 0} (host : HostShown S) (sound : IsSound host.settings host.log) (t : ℕ) where
  free-unheld : (w : Want) → waiting_want (waiting host.log) t ≡ Some w → held_number host.log t ≡ None
  free-unheld w e = sound.orderly.waiting_free t (sym (waits-want (waiting host.log) t) ∙ ap is_some e)

  unwanted : (held : ℕ) → held_number host.log t ≡ Some held → waiting_want (waiting host.log) t ≡ None
  unwanted held e = by_want (waiting_want (waiting host.log) t) refl
    where
      by_want : (want : Option Want) → waiting_want (waiting host.log) t ≡ want → want ≡ None
      by_want None is = refl
      by_want (Some w) is = let both : Some held ≡ None = sym e ∙ free-unheld w is in absurd (cc)

  holder-there : (c : ℕ) → held_number host.log t ≡ Some c → (want : Want) × (holder_want host.log c ≡ Some want) × (want.transfer ≡ t)
  holder-there c e = by_want (holder_want host.log c) refl (held-passes host.settings host.log sound t c e)
    where
      by_want : (want : Option Want) → holder_want host.log c ≡ want → option_map_or (λ (w : Want). w.transfer == t) want false ≡ true
          → (w : Want) × (want ≡ Some w) × (w.transfer ≡ t)
      by_want None is held = absurd (cc)
      by_want (Some w) is held = (w, refl, eqb-true w.transfer t held)

  -- a ticket is of its transfer
  pub own-ticket : (w : Want) → ticket_want host t ≡ Some w → w.transfer ≡ t
  own-ticket w e = by_claim (is_unclaimed host t) e
    where
      by_held : (held : Option ℕ) → held_number host.log t ≡ held → option_and_then (holder_want host.log) held ≡ Some w → w.transfer ≡ t
      by_held None is e' = cc
      by_held (Some c) is e' =
          let there = holder-there c is in
          let both : Some there.0 ≡ Some w = sym there.1 ∙ e' in
          let same : there.0 ≡ w = cc in
          ap (λ (x : Want). x.transfer) (sym same) ∙ there.2

      by_claim : (unclaimed : Bool) → cond unclaimed (granted_want host.log t) (waiting_want (waiting host.log) t) ≡ Some w → w.transfer ≡ t
      by_claim true e' = by_held (held_number host.log t) refl e'
      by_claim false e' = own-wait (waiting host.log) t w e'

  -- a transfer with a lease has no ticket, and one with a ticket no lease
  pub leased-no-ticket : (c : ℕ) → lease_number host t ≡ Some c → ticket_want host t ≡ None
  leased-no-ticket c e = by_claim (is_unclaimed host t) e
    where
      by_claim : (unclaimed : Bool) → cond unclaimed None (held_number host.log t) ≡ Some c → cond unclaimed (granted_want host.log t) (waiting_want (waiting host.log) t) ≡ None
      by_claim true e' = cc
      by_claim false e' = unwanted c e'

  pub ticket-no-lease : (w : Want) → ticket_want host t ≡ Some w → lease_number host t ≡ None
  ticket-no-lease w e = by_claim (is_unclaimed host t) e
    where
      by_claim : (unclaimed : Bool) → cond unclaimed (granted_want host.log t) (waiting_want (waiting host.log) t) ≡ Some w → cond unclaimed None (held_number host.log t) ≡ None
      by_claim true e' = refl
      by_claim false e' = free-unheld w e'

  -- who still waits holds nothing
  pub still-unheld : (w : Want) → is_unclaimed host t ≡ false → ticket_want host t ≡ Some w → held_number host.log t ≡ None
  still-unheld w not e = free-unheld w (ap (λ b. cond b (granted_want host.log t) (waiting_want (waiting host.log) t)) (sym not) ∙ e)

  -- who neither holds nor waits has neither a lease nor a ticket
  pub free-none : held_number host.log t ≡ None → waits host.log t ≡ false → (lease_number host t ≡ None) × (ticket_want host t ≡ None)
  free-none unheld waits_not = by_claim (is_unclaimed host t)
    where
      granted : granted_want host.log t ≡ None
      granted = ap (option_and_then (holder_want host.log)) unheld

      by_claim : (unclaimed : Bool) → (cond unclaimed None (held_number host.log t) ≡ None) × (cond unclaimed (granted_want host.log t) (waiting_want (waiting host.log) t) ≡ None)
      by_claim true = (refl, granted)
      by_claim false = (unheld, none-held (waiting_want (waiting host.log) t) (waits-want (waiting host.log) t ∙ waits_not))

  -- what a transfer has a lease of, by the list of those that have a ticket
  pub leased-by-tickets : (site : ℕ) (here : AtSite) → log_at here.all site ≡ host.log → is_among t here.tickets ≡ is_some (ticket_want host t) → claimed_number site here t ≡ lease_number host t
  leased-by-tickets site here log same = ap (λ b. cond b None (held_number (log_at here.all site) t)) same ∙ ap (λ l. cond (is_some (ticket_want host t)) None (held_number l t)) log ∙ by_claim (is_unclaimed host t)
    where
      by_held : (held : Option ℕ) → held_number host.log t ≡ held → cond (is_some (option_and_then (holder_want host.log) held)) None held ≡ None
      by_held None is = refl
      by_held (Some c) is = rw (holder-there c is).1 refl

      by_want : (want : Option Want) → waiting_want (waiting host.log) t ≡ want → cond (is_some want) None (held_number host.log t) ≡ held_number host.log t
      by_want None is = refl
      by_want (Some w) is = sym (free-unheld w is)

      by_claim : (unclaimed : Bool) → cond (is_some (cond unclaimed (granted_want host.log t) (waiting_want (waiting host.log) t))) None (held_number host.log t) ≡ cond unclaimed None (held_number host.log t)
      by_claim true = by_held (held_number host.log t) refl
      by_claim false = by_want (waiting_want (waiting host.log) t) refl

-- a ticket that is kept stands
same-itself : (w : Want) → is_same_want w w ≡ true
same-itself w = by_tests w.fresh w.forbid_reuse
  where
    by_tests : (fresh forbid : Bool) → is_same_want (record w { fresh = fresh; forbid_reuse = forbid }) (record w { fresh = fresh; forbid_reuse = forbid }) ≡ true
    by_tests true true = rw (itself w.transfer, itself w.lane, itself w.max_age, itself w.max_life) refl
    by_tests true false = rw (itself w.transfer, itself w.lane, itself w.max_age, itself w.max_life) refl
    by_tests false true = rw (itself w.transfer, itself w.lane, itself w.max_age, itself w.max_life) refl
    by_tests false false = rw (itself w.transfer, itself w.lane, itself w.max_age, itself w.max_life) refl

pub kept-valid : {S : Type 0} (host : HostShown S) (t : ℕ) (w : Want) → ticket_want host t ≡ Some w → w.transfer ≡ t → is_valid_ticket host w ≡ true
kept-valid host t w e own = ap (λ want. option_map_or (is_same_want w) want false) (ap (ticket_want host) own ∙ e) ∙ same-itself w

-- what is kept, where that is what is due
module _ {A B : Type 0} (facts : A → B) where
  abbrev pub IsKept : (ℕ → Option B) → (ℕ → Option A) → Type 0
  IsKept due kept = (t : ℕ) → option_map facts (kept t) ≡ due t

  pub kept-due : (due other : ℕ → Option B) (kept : ℕ → Option A) → IsKept due kept → ((q : ℕ) → other q ≡ due q) → IsKept other kept
  kept-due due other kept keeps same q = keeps q ∙ sym (same q)

  -- one is taken out
  pub kept-removed : (t : ℕ) (due : ℕ → Option B) (before after : ℕ → Option A) → IsKept due before → ((q : ℕ) → after q ≡ cond (is_at (nat_cmp t) q) None (before q))
      → IsKept (due_others t due) after
  kept-removed t due before after keeps taken q = by_key (t == q) (rw (sym (at-key t q)) (taken q))
    where
      by_key : (at : Bool) → after q ≡ cond at None (before q) → option_map facts (after q) ≡ cond at None (due q)
      by_key true e = ap (option_map facts) e
      by_key false e = ap (option_map facts) e ∙ keeps q

  -- one is put in
  pub kept-inserted : (t : ℕ) (x : A) (due : ℕ → Option B) (before after : ℕ → Option A) → IsKept (due_others t due) before → due t ≡ Some (facts x)
      → ((q : ℕ) → after q ≡ cond (is_at (nat_cmp t) q) (Some x) (before q)) → IsKept due after
  kept-inserted t x due before after keeps own put q = by_key (t == q) refl (rw (sym (at-key t q)) (put q)) (keeps q)
    where
      by_key : (at : Bool) → (t == q) ≡ at → after q ≡ cond at (Some x) (before q) → option_map facts (before q) ≡ cond at None (due q) → option_map facts (after q) ≡ due q
      by_key true is e k = ap (option_map facts) e ∙ sym own ∙ ap due (eqb-true t q is)
      by_key false is e k = ap (option_map facts) e ∙ k

  -- one becomes due of a transfer that had none, and is not kept yet
  pub kept-awaits : (t : ℕ) (own : Option B) (due other : ℕ → Option B) (kept : ℕ → Option A) → IsKept due kept → due t ≡ None → ((q : ℕ) → other q ≡ cond (t == q) own (due q))
      → IsKept (due_others t other) kept
  kept-awaits t own due other kept keeps none started q = by_key (t == q) refl (started q)
    where
      by_key : (at : Bool) → (t == q) ≡ at → other q ≡ cond at own (due q) → option_map facts (kept q) ≡ cond at None (other q)
      by_key true is e = keeps q ∙ ap due (sym (eqb-true t q is)) ∙ none
      by_key false is e = keeps q ∙ sym e

-- what is due of a transfer that had none stays
pub none-stays : {B : Type 0} (t : ℕ) (due other : ℕ → Option B) → due t ≡ None → ((q : ℕ) → other q ≡ cond (t == q) None (due q)) → (q : ℕ) → other q ≡ due q
none-stays t due other none left q = by_key (t == q) refl (left q)
  where
    by_key : (at : Bool) → (t == q) ≡ at → other q ≡ cond at None (due q) → other q ≡ due q
    by_key true is e = e ∙ sym none ∙ ap due (eqb-true t q is)
    by_key false is e = e

-- where leases and tickets are made stays
pub same-whereabouts : {S : Type 0} (old new : HostShown S) → StaysThere old new → whereabouts new ≡ whereabouts old
same-whereabouts old new stays = ap (λ host. (host, new.tables)) stays.host ∙ ap (λ tables. (old.host, tables)) stays.tables

-- the leases and tickets that are due, by the numbers that are leased and by the wants of tickets
module _ {S : Type 0} (old new : HostShown S) (here : whereabouts new ≡ whereabouts old) (t : ℕ) where
  lease_facts-there : (q : ℕ) → leases_of new q ≡ option_map (kept_facts (whereabouts old) q) (lease_number new q)
  lease_facts-there q = ap (λ made. option_map (kept_facts made q) (lease_number new q)) here

  pub leases-left : ((q : ℕ) → lease_number new q ≡ cond (t == q) None (lease_number old q)) → (q : ℕ) → leases_of new q ≡ due_others t (leases_of old) q
  leases-left left q = lease_facts-there q ∙ ap (option_map (kept_facts (whereabouts old) q)) (left q) ∙ by_key (t == q)
    where
      by_key : (at : Bool) → option_map (kept_facts (whereabouts old) q) (cond at None (lease_number old q)) ≡ cond at None (leases_of old q)
      by_key true = refl
      by_key false = refl

  pub leases-started : (c : ℕ) → ((q : ℕ) → lease_number new q ≡ cond (t == q) (Some c) (lease_number old q)) → (q : ℕ) → leases_of new q ≡ cond (t == q) (Some (kept_facts (whereabouts old) t c)) (leases_of old q)
  leases-started c started q = lease_facts-there q ∙ ap (option_map (kept_facts (whereabouts old) q)) (started q) ∙ by_key (t == q) refl
    where
      by_key : (at : Bool) → (t == q) ≡ at → option_map (kept_facts (whereabouts old) q) (cond at (Some c) (lease_number old q)) ≡ cond at (Some (kept_facts (whereabouts old) t c)) (leases_of old q)
      by_key true is = ap (λ k. Some (kept_facts (whereabouts old) k c)) (sym (eqb-true t q is))
      by_key false is = refl

  pub leases-same : ((q : ℕ) → lease_number new q ≡ lease_number old q) → (q : ℕ) → leases_of new q ≡ leases_of old q
  leases-same same q = lease_facts-there q ∙ ap (option_map (kept_facts (whereabouts old) q)) (same q)

  tickets-there : (q : ℕ) → tickets_of new q ≡ option_map (wanted_at (whereabouts old)) (ticket_want new q)
  tickets-there q = ap (λ made. option_map (wanted_at made) (ticket_want new q)) here

  pub tickets-left : ((q : ℕ) → ticket_want new q ≡ cond (t == q) None (ticket_want old q)) → (q : ℕ) → tickets_of new q ≡ due_others t (tickets_of old) q
  tickets-left left q = tickets-there q ∙ ap (option_map (wanted_at (whereabouts old))) (left q) ∙ by_key (t == q)
    where
      by_key : (at : Bool) → option_map (wanted_at (whereabouts old)) (cond at None (ticket_want old q)) ≡ cond at None (tickets_of old q)
      by_key true = refl
      by_key false = refl

  pub tickets-started : (want : Want) → ((q : ℕ) → ticket_want new q ≡ cond (t == q) (Some want) (ticket_want old q)) → (q : ℕ) → tickets_of new q ≡ cond (t == q) (Some (whereabouts old, want)) (tickets_of old q)
  tickets-started want started q = tickets-there q ∙ ap (option_map (wanted_at (whereabouts old))) (started q) ∙ by_key (t == q)
    where
      by_key : (at : Bool) → option_map (wanted_at (whereabouts old)) (cond at (Some want) (ticket_want old q)) ≡ cond at (Some (whereabouts old, want)) (tickets_of old q)
      by_key true = refl
      by_key false = refl

  pub tickets-same : ((q : ℕ) → ticket_want new q ≡ ticket_want old q) → (q : ℕ) → tickets_of new q ≡ tickets_of old q
  tickets-same same q = tickets-there q ∙ ap (option_map (wanted_at (whereabouts old))) (same q)

-- a ticket that is due was made at the host, and is of its transfer's want
pub due-ticket : {S : Type 0} (host : HostShown S) (t : ℕ) (made : ℕ × Tables) (w : Want) → tickets_of host t ≡ Some (made, w) → (ticket_want host t ≡ Some w) × (made ≡ whereabouts host)
due-ticket host t made w e = by_want (ticket_want host t) e
  where
    by_want : (want : Option Want) → option_map (wanted_at (whereabouts host)) want ≡ Some (made, w) → (want ≡ Some w) × (made ≡ whereabouts host)
    by_want None e' = absurd (cc)
    by_want (Some v) e' = let same : wanted_at (whereabouts host) v ≡ wanted_at made w = cc in (ap (λ (p : TicketFacts). Some p.1) same, sym (ap (λ (p : TicketFacts). p.0) same))
