-- The transfers that have a lease or a ticket in one list, and what is left once the first of them has spent it.
use Rattle.std.proofs.Common.{◌≡◌, ◌<◌, ℕ, length, IfNone, Bool, true, false, cond, ◌||◌, List, [], ◌∷◌, Option, Some, None, is_some, refl, ap, sym, ◌∙◌, arith, subst, Less}
use Rattle.std.specs.Prelude.{◌==◌, nat_lt}
use Rattle.std.specs.List.{AllByRecursion}
use Rattle.std.specs.List.Sorted.{IsStrictlySortedBy}
use Rattle.std.specs.Ordering.{nat_cmp}
use Rattle.std.specs.Option.{option_map}
use Rattle.std.specs.Map.{keys_of, lookup}
use Rattle.std.specs.BTreeMap.{is_at}
use Rattle.std.proofs.lemmas.Bool.Decides.{nat_tests}
use Rattle.conn_log.specs.Connections.{is_among, held_number}
use Rattle.conn_log.specs.Sound.{IsSound}
use Rattle.budget.specs.Limits.{Bounds}
use Rattle.bundle.specs.Lease.{HostShown, Leasing, Ticketed, lease_number}
use Rattle.cache.specs.AllHosts.{AllHosts, log_at}
use Rattle.cache.specs.Calls.{after_withdrawing}
use Rattle.script_engine.specs.Meaning.{AtSite, with_ticket, without_ticket}
use Rattle.script_engine.specs.Hosted.{KeepsLeases, KeepsTickets, lease_facts, whereabouts, kept_facts, leases_of, tickets_of, is_ticket_first, merged}
use Rattle.script_engine.specs.Ending.{has_either, after_dropping, after_giving_up, after_all_at}
use Rattle.script_engine.proofs.Tickets.{among-keys}
use Rattle.script_engine.proofs.Spending.{leased-by-keys}
use Rattle.script_engine.proofs.TicketLists.{among-with}

-- each of them is above that one
abbrev IsBelow : ℕ → List ℕ → Type 0
IsBelow t others = AllByRecursion (λ y. nat_cmp t y ≡ Less) others

less-passes : (x y z : ℕ) → nat_cmp x y ≡ Less → nat_cmp y z ≡ Less → nat_cmp x z ≡ Less
less-passes x y z a b = grind (arith, nat_tests)

less-is : (x y : ℕ) → nat_cmp x y ≡ Less → nat_lt x y ≡ true
less-is x y e = grind (arith, nat_tests)

less-from : (x y : ℕ) → nat_lt x y ≡ true → nat_cmp x y ≡ Less
less-from x y e = grind (arith, nat_tests)

less-turned : (x y : ℕ) → nat_lt y x ≡ false → (y == x) ≡ false → nat_cmp x y ≡ Less
less-turned x y a b = grind (arith, nat_tests)

not-less : (x y : ℕ) → nat_cmp x y ≡ Less → nat_lt y x ≡ false
not-less x y e = grind (arith, nat_tests)

not-same : (x y : ℕ) → nat_cmp x y ≡ Less → (y == x) ≡ false
not-same x y e = grind (arith, nat_tests)

below-all : (x y : ℕ) (others : List ℕ) → nat_cmp x y ≡ Less → IsBelow y others → IsBelow x others
below-all x y [] less below = tt
below-all x y (z ∷ others) less below = (less-passes x y z less below.0, below-all x y others less below.1)

-- one that is put in stands where the order has it
below-with : (x t : ℕ) (others : List ℕ) → nat_cmp x t ≡ Less → IsBelow x others → IsBelow x (with_ticket t others)
below-with x t [] less below = (less, tt)
below-with x t (y ∷ others) less below = by_order (nat_lt t y) (t == y) (below-with x t others less below.1)
  where
    by_order : (before same : Bool) → IsBelow x (with_ticket t others) → IsBelow x (cond before (t ∷ y ∷ others) (cond same (y ∷ others) (y ∷ with_ticket t others)))
    by_order true same rest = (less, below)
    by_order false true rest = below
    by_order false false rest = (below.0, rest)

first-with : (t : ℕ) (others : List ℕ) → IsBelow t others → with_ticket t others ≡ t ∷ others
first-with t [] below = refl
first-with t (y ∷ others) below = rw (less-is t y below.0) refl

later-with : (x t : ℕ) (others : List ℕ) → nat_cmp x t ≡ Less → with_ticket t (x ∷ others) ≡ x ∷ with_ticket t others
later-with x t others less = rw (not-less x t less, not-same x t less) refl

sorted-with : (t : ℕ) (others : List ℕ) → IsStrictlySortedBy nat_cmp others → IsStrictlySortedBy nat_cmp (with_ticket t others)
unfolding IsStrictlySortedBy
sorted-with t [] sorted = (tt, tt)
sorted-with t (y ∷ others) sorted = by_order (nat_lt t y) refl (t == y) refl (sorted-with t others sorted.1)
  where
    by_order : (before : Bool) → nat_lt t y ≡ before → (same : Bool) → (t == y) ≡ same → IsStrictlySortedBy nat_cmp (with_ticket t others)
        → IsStrictlySortedBy nat_cmp (cond before (t ∷ y ∷ others) (cond same (y ∷ others) (y ∷ with_ticket t others)))
    by_order true is same it rest = let less = less-from t y is in ((less, below-all t y others less sorted.0), sorted)
    by_order false is true it rest = sorted
    by_order false is false it rest = (below-with y t others (less-turned y t is it) sorted.0, rest)

-- all of two lists in one
below-merged : (x : ℕ) (holders waiters : List ℕ) → IsBelow x holders → IsBelow x waiters → IsBelow x (merged holders waiters)
below-merged x holders [] h w = h
below-merged x holders (t ∷ waiters) h w = below-with x t (merged holders waiters) w.0 (below-merged x holders waiters h w.1)

pub sorted-merged : (holders waiters : List ℕ) → IsStrictlySortedBy nat_cmp holders → IsStrictlySortedBy nat_cmp (merged holders waiters)
sorted-merged holders [] h = h
sorted-merged holders (t ∷ waiters) h = sorted-with t (merged holders waiters) (sorted-merged holders waiters h)

pub among-merged : (u : ℕ) (holders waiters : List ℕ) → is_among u (merged holders waiters) ≡ (is_among u waiters || is_among u holders)
among-merged u holders [] = refl
among-merged u holders (t ∷ waiters) = among-with u t (merged holders waiters) ∙ ap (λ b. (t == u) || b) (among-merged u holders waiters) ∙ joined (t == u) (is_among u waiters) (is_among u holders)
  where
    joined : (a b c : Bool) → (a || (b || c)) ≡ ((a || b) || c)
    joined true b c = refl
    joined false b c = refl

-- the first has a ticket
below-holders : (t : ℕ) (holders waiters : List ℕ) → IsStrictlySortedBy nat_cmp holders → is_ticket_first holders (t ∷ waiters) ≡ true → IsBelow t holders
unfolding IsStrictlySortedBy
below-holders t [] waiters h first = tt
below-holders t (x ∷ holders) waiters h first = let less = less-from t x first in (less, below-all t x holders less h.0)

ticket-first : (t : ℕ) (holders waiters : List ℕ) → IsStrictlySortedBy nat_cmp holders → IsStrictlySortedBy nat_cmp (t ∷ waiters) → is_ticket_first holders (t ∷ waiters) ≡ true
    → merged holders (t ∷ waiters) ≡ t ∷ merged holders waiters
unfolding IsStrictlySortedBy
ticket-first t holders waiters h w first = first-with t (merged holders waiters) (below-merged t holders waiters (below-holders t holders waiters h first) w.0)

pub waiter-first : (t : ℕ) (holders waiters rest : List ℕ) → waiters ≡ t ∷ rest → IsStrictlySortedBy nat_cmp holders → IsStrictlySortedBy nat_cmp waiters → is_ticket_first holders waiters ≡ true
    → merged holders waiters ≡ t ∷ merged holders rest
waiter-first t holders waiters rest is h w first =
    ap (merged holders) is
    ∙ ticket-first t holders rest h (subst (λ keys. IsStrictlySortedBy nat_cmp keys) is w) (ap (is_ticket_first holders) (sym is) ∙ first)

-- the first has a lease
below-waiters : (t : ℕ) (holders waiters : List ℕ) → IsStrictlySortedBy nat_cmp waiters → is_ticket_first (t ∷ holders) waiters ≡ false → is_among t waiters ≡ false → IsBelow t waiters
unfolding IsStrictlySortedBy
below-waiters t holders [] w first apart = tt
below-waiters t holders (x ∷ waiters) w first apart = let less = less-turned t x first (left (x == t) (is_among t waiters) apart) in (less, below-all t x waiters less w.0)
  where
    left : (a b : Bool) → (a || b) ≡ false → a ≡ false
    left true b e = cc
    left false b e = refl

lease-first : (t : ℕ) (holders waiters : List ℕ) → IsBelow t waiters → merged (t ∷ holders) waiters ≡ t ∷ merged holders waiters
lease-first t holders [] below = refl
lease-first t holders (x ∷ waiters) below = ap (with_ticket x) (lease-first t holders waiters below.1) ∙ later-with t x (merged holders waiters) below.0

pub holder-first : (t : ℕ) (holders rest waiters : List ℕ) → holders ≡ t ∷ rest → IsStrictlySortedBy nat_cmp waiters → is_ticket_first holders waiters ≡ false → is_among t waiters ≡ false
    → merged holders waiters ≡ t ∷ merged rest waiters
holder-first t holders rest waiters is w first apart =
    ap (λ keys. merged keys waiters) is
    ∙ lease-first t rest waiters (below-waiters t rest waiters w (ap (λ keys. is_ticket_first keys waiters) (sym is) ∙ first) apart)

module _ {S : Type 0} (host : HostShown S) (sound : IsSound host.settings host.log) (site : ℕ) (all : AllHosts) (log : log_at all site ≡ host.log) (t : ℕ) where
  -- those that are left: who has a ticket, or holds a connection
  pub each-left : (leases : List (ℕ × Leasing S)) (tickets : List (ℕ × Ticketed)) → KeepsLeases (leases_of host) (λ q. lookup (is_at (nat_cmp q)) leases) → KeepsTickets (tickets_of host) (λ q. lookup (is_at (nat_cmp q)) tickets)
      → is_among t (merged (keys_of leases) (keys_of tickets)) ≡ has_either site (record { all = all; tickets = keys_of tickets }) t
  each-left leases tickets keeps_leases keeps_tickets =
      among-merged t (keys_of leases) (keys_of tickets) ∙ ap (λ b. is_among t (keys_of tickets) || b) leased ∙ by_ticket (is_among t (keys_of tickets))
    where
      any-kept : (lease : Option (Leasing S)) (number : Option ℕ) → option_map lease_facts lease ≡ option_map (kept_facts (whereabouts host) t) number → is_some lease ≡ is_some number
      any-kept None None e = refl
      any-kept (Some lease) (Some c) e = refl
      any-kept None (Some c) e = absurd (cc)
      any-kept (Some lease) None e = absurd (cc)

      leased : is_among t (keys_of leases) ≡ is_some (cond (is_among t (keys_of tickets)) None (held_number (log_at all site) t))
      leased =
          among-keys leases t
          ∙ any-kept (lookup (is_at (nat_cmp t)) leases) (lease_number host t) (keeps_leases t)
          ∙ ap is_some (sym (leased-by-keys host sound tickets keeps_tickets site all log t))

      by_ticket : (ticketed : Bool) → (ticketed || is_some (cond ticketed None (held_number (log_at all site) t))) ≡ (ticketed || is_some (held_number (log_at all site) t))
      by_ticket true = refl
      by_ticket false = refl

-- none is left
pub none-left : {A B : Type 0} (limits : Bounds) (site : ℕ) (here : AtSite) (leases : List (ℕ × A)) (tickets : List (ℕ × B)) → leases ≡ [] → tickets ≡ []
    → after_all_at limits site here (merged (keys_of leases) (keys_of tickets)) ≡ here
none-left limits site here [] [] no_lease no_ticket = refl
none-left limits site here (lease ∷ leases) tickets no_lease no_ticket = cc
none-left limits site here [] (ticket ∷ tickets) no_lease no_ticket = cc

-- the first has no ticket, and no lease is there: there is none
none-there : {A : Type 0} (entries : List A) → (0 < length entries → false ≡ true) → entries ≡ []
none-there [] never = refl
none-there (e ∷ others) never = let both : false ≡ true = never (grind (arith)) in absurd (cc)

none-first : {A B : Type 0} (leases : List (ℕ × A)) (tickets : List (ℕ × B)) → is_ticket_first (keys_of leases) (keys_of tickets) ≡ false → leases ≡ [] → (leases ≡ []) × (tickets ≡ [])
none-first [] [] first none = (refl, refl)
none-first [] (ticket ∷ tickets) first none = cc
none-first (lease ∷ leases) tickets first none = cc

pub none-at-all : {A B P : Type 0} (leases : List (ℕ × A)) (tickets : List (ℕ × B)) (first : Option ℕ) → is_ticket_first (keys_of leases) (keys_of tickets) ≡ false → (0 < length leases → false ≡ true) → P
    → IfNone first ((leases ≡ []) × (tickets ≡ []) × P)
none-at-all leases tickets (Some t) first never p = tt
none-at-all leases tickets None first never p = let none = none-first leases tickets first (none-there leases never) in (none.0, none.1, p)

-- a transfer gives up its ticket, or without one what it holds
module _ (limits : Bounds) (site : ℕ) (here : AtSite) (t : ℕ) (all : AllHosts) where
  pub gave-up-ticket : (rest : List ℕ) → is_among t here.tickets ≡ true → rest ≡ without_ticket t here.tickets → all ≡ after_withdrawing limits site t 0 here.all
      → ◌≡◌ {A = AtSite} (record { all = all; tickets = rest }) (after_giving_up limits site here t)
  gave-up-ticket rest among left same = rw (same, among, left) refl

  pub gave-up-lease : is_among t here.tickets ≡ false → all ≡ after_dropping limits site here.all (held_number (log_at here.all site) t) → ◌≡◌ {A = AtSite} (record here { all = all }) (after_giving_up limits site here t)
  gave-up-lease apart same = rw (same, apart) refl

-- the first gives up what it has, and then the others do
pub next-gives-up : (limits : Bounds) (site : ℕ) (here next : AtSite) (t : ℕ) (transfers others : List ℕ) → transfers ≡ t ∷ others → next ≡ after_giving_up limits site here t
    → after_all_at limits site next others ≡ after_all_at limits site here transfers
next-gives-up limits site here next t transfers others is gave = rw (is, gave) refl
