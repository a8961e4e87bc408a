-- A transfer whose acquire is not refused had neither a lease nor a ticket at its site.
use Rattle.std.proofs.Common.{◌≡◌, ℕ, ◌<◌, Bool, true, false, cond, ◌||◌, List, [], ◌∷◌, length, Option, Some, None, is_some, Result, Ok, Err, refl, sym, ap, subst, ◌∙◌}
use Rattle.std.specs.Prelude.{◌==◌, IfSome, IfErr, OnOk, OnErr}
use Rattle.std.specs.Option.{option_and_then}
use Rattle.std.specs.List.{list_any}
use Rattle.std.proofs.lemmas.List.{length-map}
use Rattle.budget.specs.declared.refusal.Refusal.{Refusal}
use Rattle.budget.specs.declared.refusal.Refusal.TheVariants as refusals
use Rattle.conn_log.specs.declared.entry.Entry.{Entry}
use Rattle.conn_log.specs.declared.entry.Want.{Want}
use Rattle.conn_log.specs.Connections.{holds, holder_want, held_number}
use Rattle.conn_log.specs.Legal.{LimitAndFirst, IsLegal}
use Rattle.conn_log.specs.Sound.{IsSound}
use Rattle.conn_log.specs.Waiting.{waiting, waits}
use Rattle.conn_log.proofs.Soundness.{holds_is}
use Rattle.host_state.specs.Queue.{waiting_want}
use Rattle.host_state.specs.Steps.{is_exhausted}
use Rattle.host_state.specs.Calls.{refusal, is_busy}
use Rattle.host_state.specs.Grants.{granted_want}
use Rattle.bundle.specs.Lease.{HostShown, is_unclaimed}
use Rattle.cache.specs.AllHosts.{terms, IsAtRest}
use Rattle.cache.specs.Pools.{PoolShown, host_at, all_hosts, AreInPlace}
use Rattle.cache.specs.PoolCalls.{acquire_refusal, IsRefusalOf}
use Rattle.cache.proofs.OneHost.{log_is}
use Rattle.cache.proofs.Refusals.{site_exists, due_at, owed_in}
use Rattle.held_pool.specs.Due.{HasNothing}

is_none : {A : Type 0} (x : Option A) → is_some x ≡ false → x ≡ None
is_none None e = refl
is_none (Some a) e = cc

-- nobody of that number waits
waits_for : (wants : List Want) (t : ℕ) → is_some (waiting_want wants t) ≡ list_any (λ (want : Want). want.transfer == t) wants
waits_for [] t = refl
waits_for (want ∷ others) t = by_first (want.transfer == t) (waits_for others t)
  where
    by_first : (first : Bool) → is_some (waiting_want others t) ≡ list_any (λ (want : Want). want.transfer == t) others → is_some (cond first (Some want) (waiting_want others t)) ≡ (first || list_any (λ (want : Want). want.transfer == t) others)
    by_first true rest = refl
    by_first false rest = rest

-- where neither is busy, neither holds nor waits
not_busy : (busy exhausted : Bool) → cond busy (Some refusals.TransferBusy) (cond exhausted (Some refusals.Exhausted) None) ≡ None → busy ≡ false
not_busy true exhausted e = cc
not_busy false exhausted e = refl

neither : (a b : Bool) → (a || (b || false)) ≡ false → (a ≡ false) × (b ≡ false)
neither true b e = cc
neither false true e = cc
neither false false e = (refl, refl)

module _ {S : Type 0} (host : HostShown S) (sound : IsSound host.settings host.log) (want : Want) where
  pub has_nothing : refusal host.settings host.log [] want ≡ None → HasNothing host want.transfer
  has_nothing accepted = by_claim (is_unclaimed host want.transfer)
    where
      free : (holds host.log want.transfer ≡ false) × (waits host.log want.transfer ≡ false)
      free = neither (holds host.log want.transfer) (waits host.log want.transfer) (not_busy (is_busy host.log [] want.transfer) (is_exhausted host.settings host.log 0) accepted)

      unheld : held_number host.log want.transfer ≡ None
      unheld = is_none (held_number host.log want.transfer) (sym (holds_is host.settings host.log sound.orderly want.transfer) ∙ free.0)

      unasked : waiting_want (waiting host.log) want.transfer ≡ None
      unasked = is_none (waiting_want (waiting host.log) want.transfer) (waits_for (waiting host.log) want.transfer ∙ free.1)

      ungranted : granted_want host.log want.transfer ≡ None
      ungranted = ap (option_and_then (holder_want host.log)) unheld

      by_claim : (unclaimed : Bool) → (cond unclaimed None (held_number host.log want.transfer) ≡ None) × (cond unclaimed (granted_want host.log want.transfer) (waiting_want (waiting host.log) want.transfer) ≡ None)
      by_claim true = (refl, ungranted)
      by_claim false = (unheld, unasked)

-- no refusal was due where an acquire succeeded
owes_none : {A : Type 0} (due : Option Refusal) (result : Result A Refusal) (a : A) → result ≡ Ok a → IfSome due (λ reason. result ≡ Err reason) → due ≡ None
owes_none None result a is owes = refl
owes_none (Some reason) result a is owes = absurd cc

module _ {S : Type 0} (pool : PoolShown S) (rest : IsAtRest pool.limits (all_hosts pool)) (places : AreInPlace pool) (site : ℕ) (there : site < length pool.hosts) where
  -- the log of a host that is there is sound
  sound_at : IsSound (host_at pool site).settings (host_at pool site).log
  sound_at =
      let logged : site < length (all_hosts pool).logs = subst (λ (n : ℕ). site < n) (sym (length-map pool.hosts (λ (h : HostShown S). h.log))) there in
      let sound : IsSound (terms pool.limits) (host_at pool site).log = subst (λ (log : List Entry). IsSound (terms pool.limits) log) (log_is pool site) (rest.lawful.settled site logged).sound in
      subst (λ (settings : LimitAndFirst). IsSound settings (host_at pool site).log) (sym (places site there).settings) sound

  pub legal_at : IsLegal (host_at pool site).settings (host_at pool site).log
  legal_at = sound_at.legal

  accepted : {A : Type 0} (want : Want) (result : Result A Refusal) (a : A) → result ≡ Ok a → IfSome (refusal (host_at pool site).settings (host_at pool site).log [] want) (λ reason. result ≡ Err reason)
      → HasNothing (host_at pool site) want.transfer
  accepted want result a is owes = has_nothing (host_at pool site) sound_at want (owes_none (refusal (host_at pool site).settings (host_at pool site).log [] want) result a is owes)

-- so a transfer had nothing where its acquire succeeded
pub had_nothing : {A S : Type 0} (pool : PoolShown S) → IsAtRest pool.limits (all_hosts pool) → AreInPlace pool → (site : ℕ) (want : Want) (result : Result A Refusal)
    → IfSome (acquire_refusal pool site want) (λ reason. result ≡ Err reason) → OnOk result (HasNothing (host_at pool site) want.transfer)
had_nothing pool rest places site want (Ok a) owes =
    let there = site_exists pool site want a owes in
    accepted pool rest places site there want (Ok a) a refl (owed_in (acquire_refusal pool site want) _ (λ reason. Ok a ≡ Err reason) (due_at pool site there want) owes)
had_nothing pool rest places site want (Err reason) owes = tt

-- a refused acquire changed nothing
module _ {A S : Type 0} (old new : PoolShown S) (site : ℕ) (want : Want) where
  pub refused_why : (result : Result A Refusal) → IfErr result (λ reason. (new ≡ old) × IsRefusalOf old site want reason) → IfErr result (IsRefusalOf old site want)
  refused_why (Ok a) refused = tt
  refused_why (Err reason) refused = refused.1

  pub refused_same : (result : Result A Refusal) → IfErr result (λ reason. (new ≡ old) × IsRefusalOf old site want reason) → OnErr result (new ≡ old)
  refused_same (Ok a) refused = tt
  refused_same (Err reason) refused = refused.0
