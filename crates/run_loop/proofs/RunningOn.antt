-- A run goes on from one point to the next, whatever was done before.
use Rattle.std.proofs.Common.{◌≡◌, refl, sym, subst, ap, ◌∙◌, ℕ, ◌+◌, ◌<◌, List, [], ◌∷◌, ◌++◌, arith, Option, Some, None, sum_by, false}
use Rattle.std.specs.List.{All}
use Rattle.std.proofs.lemmas.List.Elements.{All-weaker}
use Rattle.std.proofs.lemmas.Option.{same_Some}
use Rattle.bundle.specs.Seats.{Tables}
use Rattle.cache_trait.specs.CacheCalls.{CacheCall}
use Rattle.exchange.specs.Dialling.{DialShown}
use Rattle.exchange.specs.declared.job.Job.{Job}
use Rattle.exchange.specs.declared.job.Prepared.{Prepared}
use Rattle.exchange.specs.declared.done.Fault.TheVariants.{Memory, Dial, Read, Write, BadResponse, Cut, Refused, Cancelled}
use Rattle.exchange.specs.declared.done.Done.{Done}
use Rattle.transfer_slab.specs.declared.ended.Ended.{Ended}
use Rattle.exchange.specs.declared.done.Done.TheVariants.{Good, Bad}
use Rattle.exchange.specs.Transfers.{TransferShown}
use Rattle.exchange.specs.Worlds.{World}
use Rattle.transfer_slab.specs.Slabs.{ClosesOne, ClosesPlace, HasNumberAt, transfers_in, one_if_some}
use Rattle.transfer_slab.specs.Rounds.{PollsInTurn}
use Rattle.run_loop.specs.declared.run_end.RunEnd.{RunEnd}
use Rattle.run_loop.specs.declared.run_end.RunEnd.TheVariants.{Complete, Stopped, TurnFailed, BrokenOff}
use Rattle.run_loop.specs.Endings.{EndsFor}
use Rattle.run_loop.specs.LoopCalls.{calls_for}
use Rattle.run_loop.specs.Running.{IsCarriedOut, IsRunning}
use Rattle.run_loop.specs.Going.{Rules, rules_of, Point, point, IsRunFrom, RunsOn, RunsOnWith, RunsToEnd, rules_at, may_stop_at, is_complete, IfComplete, IfStopped, MayClose}
use Rattle.run_loop.specs.Taking.{JobResult, job_result, AllTaken, TakesSome, ends_of}
use Rattle.run_loop.specs.declared.results.Span.{Span}
use Rattle.run_loop.specs.Steps.{JoinsAs}
use Rattle.run_loop.proofs.Going.{running_join, running_without, running_round, running_round_ends, running_close_last, running_close}

-- a job that ended where it may be stopped has ended so wherever it may be stopped too
ends_wider : {W : Type 0} (world : World W) (P Q : Type 0) → (P → Q) → (job : Job) (done : Done) (calls : List (CacheCall W)) → EndsFor world P job done calls → EndsFor world Q job done calls
ends_wider world P Q wider job (Good answer) calls ends = ends
ends_wider world P Q wider job (Bad Memory) calls ends = ends
ends_wider world P Q wider job (Bad Dial) calls ends = ends
ends_wider world P Q wider job (Bad Read) calls ends = ends
ends_wider world P Q wider job (Bad Write) calls ends = ends
ends_wider world P Q wider job (Bad BadResponse) calls ends = ends
ends_wider world P Q wider job (Bad Cut) calls ends = ends
ends_wider world P Q wider job (Bad (Refused refusal)) calls ends = ends
ends_wider world P Q wider job (Bad Cancelled) calls ends = (wider ends.0, ends.1)

may_wider : (end : RunEnd) (may_stop : ℕ → Type 0) (number : ℕ) → may_stop number → may_stop_at end may_stop number
may_wider Complete may_stop number may = may
may_wider Stopped may_stop number may = may
may_wider TurnFailed may_stop number may = tt
may_wider BrokenOff may_stop number may = tt

-- the jobs of a run's numbers stay the same
pub runs_as : {C W R : Type 0} (does : C → C → CacheCall W → Type 0) (world : World W) (may_stop : ℕ → Type 0) (took : R → R → ℕ → Done → Span → Type 0) (is was : ℕ → Job) → is ≡ was → (before after : Point C W R)
    → RunsOn (rules_of does world may_stop is took) before after → RunsOn (rules_of does world may_stop was took) before after
runs_as does world may_stop took is was same before after runs = subst (λ (job_at : ℕ → Job). RunsOn (rules_of does world may_stop job_at took) before after) same runs

-- unless a run is complete, each may be stopped
pub may_close_now : {W : Type 0} (may_stop : ℕ → Type 0) (slots : List (Option (TransferShown W))) (end : RunEnd) → is_complete end ≡ false → MayClose end may_stop slots → (number : ℕ) → may_stop_at end may_stop number
may_close_now may_stop slots Complete is may number = cc
may_close_now may_stop slots Stopped is may number = may number
may_close_now may_stop slots TurnFailed is may number = may number
may_close_now may_stop slots BrokenOff is may number = may number

-- how a run ended tells that its transfers may be closed
pub may_close_from : {W : Type 0} (may_stop : ℕ → Type 0) (slots : List (Option (TransferShown W))) (end : RunEnd) → IfComplete end (sum_by one_if_some slots ≡ 0) → IfStopped end ((number : ℕ) → may_stop number) → MayClose end may_stop slots
may_close_from may_stop slots Complete empty may = empty
may_close_from may_stop slots Stopped empty may = may
may_close_from may_stop slots TurnFailed empty may = λ number. tt
may_close_from may_stop slots BrokenOff empty may = λ number. tt

-- where a transfer was closed, each may be stopped
module _ {W : Type 0} (may_stop : ℕ → Type 0) (slots left : List (Option (TransferShown W))) (fewer : sum_by one_if_some left + 1 ≡ sum_by one_if_some slots) where
  pub may_close_it : (end : RunEnd) → MayClose end may_stop slots → (number : ℕ) → may_stop_at end may_stop number
  may_close_it Complete none number = absurd (omega (arith, none, fewer))
  may_close_it Stopped may number = may number
  may_close_it TurnFailed may number = may number
  may_close_it BrokenOff may number = may number

  pub may_close_more : (end : RunEnd) → MayClose end may_stop slots → MayClose end may_stop left
  may_close_more Complete none = absurd (omega (arith, none, fewer))
  may_close_more Stopped may = may
  may_close_more TurnFailed may = may
  may_close_more BrokenOff may = may

-- the transfer that was closed at a place bears the number that was told of it
pub may_close_there : {C D W : Type 0} (does : C → C → CacheCall W → Type 0) (world : World W) (home : List Tables) (before after : C) (shown : D → DialShown) (old new : D) (slots left : List (Option (TransferShown W))) (place : ℕ) (closed : Done × Prepared) (may_stop : ℕ → Type 0) (number : ℕ)
    → HasNumberAt slots place number → ClosesPlace does world home before after shown old new slots left place closed → may_stop number → may_stop closed.1.want.transfer
may_close_there {W = W} does world home before after shown old new slots left place closed may_stop number there closes may =
    let same : there.0 ≡ closes.transfer = same_Some there.0 closes.transfer (same_Some (Some there.0) (Some closes.transfer) (sym there.1 ∙ closes.stood)) in
    let bears : number ≡ closed.1.want.transfer = there.2 ∙ ap (λ (t : TransferShown W). t.parts.want.transfer) same ∙ sym (ap (λ (p : Prepared). p.want.transfer) closes.parts) in
    subst may_stop bears may

-- no result was taken, or one, or those of one part of a run and then of the next
module _ {R : Type 0} (took : R → R → ℕ → Done → Span → Type 0) where
  takes_none : (at : R) → TakesSome took at at
  takes_none at = ([], refl)

  takes_one : (old new : R) (number : ℕ) (done : Done) (span : Span) → took old new number done span → TakesSome took old new
  takes_one old new number done span one = (job_result number done span ∷ [], (old, refl, one))

  takes_all : (old middle new : R) (told : List JobResult) → TakesSome took old middle → AllTaken took middle new told → TakesSome took old new
  takes_all old middle new [] once same = subst (λ (r : R). TakesSome took old r) (sym same) once
  takes_all old middle new (result ∷ earlier) once taken =
      let before = takes_all old middle taken.0 earlier once taken.1 in
      (result ∷ before.0, (taken.0, before.1, taken.2))

  takes_more : (old middle new : R) → TakesSome took old middle → TakesSome took middle new → TakesSome took old new
  takes_more old middle new once then = takes_all old middle new then.0 once then.1

module _ {C W R : Type 0} (rules : Rules C W R) where
  pub runs_same : (at : Point C W R) → RunsOn rules at at
  runs_same at = record { takes = takes_none rules.took at.results; goes = λ first begun is. is }

  pub runs_then : (before middle after : Point C W R) → RunsOn rules before middle → RunsOn rules middle after → RunsOn rules before after
  runs_then before middle after once then = record {
    takes = takes_more rules.took before.results middle.results after.results once.takes then.takes;
    goes = λ first begun is. then.goes first begun (once.goes first begun is);
  }

  -- no number was drawn
  pub runs_undrawn : (cache : C) (slots : List (Option (TransferShown W))) (results : R) (drawn next : List ℕ) → next ≡ drawn → RunsOn rules (point cache drawn slots results) (point cache next slots results)
  runs_undrawn cache slots results drawn next same = subst (λ (l : List ℕ). RunsOn rules (point cache drawn slots results) (point cache l slots results)) (sym same) (runs_same (point cache drawn slots results))

  module _ (number : ℕ) (cache : C) (slots : List (Option (TransferShown W))) where
    -- a job that was drawn has a result, and nothing was done for it
    pub begins_without : (old new : R) (done : Done) (span : Span) → EndsFor {W = W} rules.world (rules.may_stop number) (rules.job_at number) done [] → rules.took old new number done span → RunsOnWith rules number cache slots old slots new
    begins_without old new done span ends took drawn above = record {
      takes = takes_one rules.took old new number done span took;
      goes = λ first begun is. (record {
        told = job_result number done span ∷ is.told;
        taken = (old, is.taken, took);
        running = running_without rules.did rules.world rules.may_stop rules.job_at first cache drawn (ends_of is.told) number done (transfers_in slots) above ends is.running;
      });
    }

    -- a transfer of it joins
    pub begins_joined : (more : List (Option (TransferShown W))) (results : R) → JoinsAs (rules.job_at number) number slots more → RunsOnWith rules number cache slots results more results
    begins_joined more results joins drawn above = record {
      takes = takes_none rules.took results;
      goes = λ first begun is. (record {
        told = is.told;
        taken = is.taken;
        running = running_join rules.did rules.world rules.may_stop rules.job_at first cache drawn (ends_of is.told) number joins.parts slots more joins.place above joins.prepared joins.bears joins.joins is.running;
      });
    }

    -- once its number is drawn, the run goes on
    pub runs_with : (more : List (Option (TransferShown W))) (results told : R) (drawn next : List ℕ) → RunsOnWith rules number cache slots results more told → All (λ n. n < number) drawn → next ≡ drawn ++ number ∷ []
        → RunsOn rules (point cache drawn slots results) (point cache next more told)
    runs_with more results told drawn next begins above is =
        subst (λ (l : List ℕ). RunsOn rules (point cache drawn slots results) (point cache l more told)) (sym is) (begins drawn above)

  module _ {D : Type 0} (shown : D → DialShown) (before after : C) (old new : D) (drawn : List ℕ) (slots left : List (Option (TransferShown W))) (results : R) where
    -- a round polls what is due
    pub runs_round : PollsInTurn rules.did rules.world shown before after old new slots left None → RunsOn rules (point before drawn slots results) (point after drawn left results)
    runs_round round = record {
      takes = takes_none rules.took results;
      goes = λ first begun is. (record {
        told = is.told;
        taken = is.taken;
        running = running_round rules.did rules.world rules.may_stop rules.job_at first shown before old drawn (ends_of is.told) slots is.running after new left round;
      });
    }

    -- or up to one that has ended, whose result is taken
    pub runs_round_ends : (ended : Ended) (span : Span) (told : R) → PollsInTurn rules.did rules.world shown before after old new slots left (Some ended) → rules.took results told ended.parts.want.transfer ended.done span
        → RunsOn rules (point before drawn slots results) (point after drawn left told)
    runs_round_ends ended span told round took = record {
      takes = takes_one rules.took results told ended.parts.want.transfer ended.done span took;
      goes = λ first begun is. (record {
        told = job_result ended.parts.want.transfer ended.done span ∷ is.told;
        taken = (results, is.taken, took);
        running = running_round_ends rules.did rules.world rules.may_stop rules.job_at first shown before old drawn (ends_of is.told) slots is.running after new left ended round;
      });
    }

  -- the last transfer is closed, and its result is taken
  pub runs_close : {D : Type 0} (home : List Tables) (before after : C) (shown : D → DialShown) (old new : D) (drawn : List ℕ) (slots left : List (Option (TransferShown W))) (results told : R) (done : Done) (used : Prepared) (span : Span)
      → ClosesOne rules.did rules.world home before after shown old new slots left (done, used) → rules.may_stop used.want.transfer → rules.took results told used.want.transfer done span
      → RunsOn rules (point before drawn slots results) (point after drawn left told)
  runs_close home before after shown old new drawn slots left results told done used span closes may took = record {
    takes = takes_one rules.took results told used.want.transfer done span took;
    goes = λ first begun is. (record {
      told = job_result used.want.transfer done span ∷ is.told;
      taken = (results, is.taken, took);
      running = running_close_last rules.did rules.world rules.may_stop rules.job_at first home before after shown old new drawn (ends_of is.told) slots left (done, used) closes may is.running;
    });
  }

  -- the transfer at a place is closed, and its result is taken
  pub runs_close_at : {D : Type 0} (home : List Tables) (before after : C) (shown : D → DialShown) (old new : D) (drawn : List ℕ) (slots left : List (Option (TransferShown W))) (results told : R) (place : ℕ) (done : Done) (used : Prepared) (span : Span)
      → ClosesPlace rules.did rules.world home before after shown old new slots left place (done, used) → rules.may_stop used.want.transfer → rules.took results told used.want.transfer done span
      → RunsOn rules (point before drawn slots results) (point after drawn left told)
  runs_close_at home before after shown old new drawn slots left results told place done used span closes may took = record {
    takes = takes_one rules.took results told used.want.transfer done span took;
    goes = λ first begun is. (record {
      told = job_result used.want.transfer done span ∷ is.told;
      taken = (results, is.taken, took);
      running = running_close rules.did rules.world rules.may_stop rules.job_at first home before after shown old new drawn (ends_of is.told) slots left place (done, used) closes may is.running;
    });
  }

  -- nothing was closed
  pub runs_unchanged : (before after : C) (drawn : List ℕ) (slots left : List (Option (TransferShown W))) (results : R) → after ≡ before → left ≡ slots → RunsOn rules (point before drawn slots results) (point after drawn left results)
  runs_unchanged before after drawn slots left results same same_slots =
      subst (λ (c : C). RunsOn rules (point before drawn slots results) (point c drawn left results)) (sym same)
      (subst (λ (l : List (Option (TransferShown W))). RunsOn rules (point before drawn slots results) (point before drawn l results)) (sym same_slots) (runs_same (point before drawn slots results)))

  -- nothing is closed if no transfer is left
  pub runs_empty : (before after : C) (drawn : List ℕ) (slots left : List (Option (TransferShown W))) (results : R) → after ≡ before → transfers_in slots ≡ [] → left ≡ [] → RunsOn rules (point before drawn slots results) (point after drawn left results)
  runs_empty before after drawn slots left results same none is_empty =
      let empty : transfers_in left ≡ transfers_in slots = ap transfers_in is_empty ∙ sym none in
      record {
        takes = takes_none rules.took results;
        goes = λ first begun is. (record {
          told = is.told;
          taken = is.taken;
          running = subst (λ (c : C). IsRunning rules.did rules.world rules.may_stop rules.job_at first c drawn (transfers_in left) (ends_of is.told)) (sym same)
              (subst (λ (l : List (TransferShown W)). IsRunning rules.did rules.world rules.may_stop rules.job_at first before drawn l (ends_of is.told)) (sym empty) is.running);
        });
      }

  -- what a run promises before it ends, it promises at its end
  pub runs_at_end : (end : RunEnd) (first : C) (begun : R) (at : Point C W R) → IsRunFrom rules first begun at → IsRunFrom (rules_at end rules) first begun at
  runs_at_end end first begun at is =
      let run = is.running in
      record {
        told = is.told;
        taken = is.taken;
        running = record {
          all = run.all;
          done = run.done;
          under_way = run.under_way;
          carried = All-weaker (λ (r : ℕ × Done). IsCarriedOut rules.world rules.may_stop rules.job_at run.all r.0 r.1) (λ (r : ℕ × Done). IsCarriedOut rules.world (may_stop_at end rules.may_stop) rules.job_at run.all r.0 r.1)
              (λ r. ends_wider rules.world (rules.may_stop r.0) (may_stop_at end rules.may_stop r.0) (may_wider end rules.may_stop r.0) (rules.job_at r.0) r.1 (calls_for r.0 run.all)) (ends_of is.told) run.carried;
          counted = run.counted;
          once = run.once;
          none_else = run.none_else;
        };
      }

  pub runs_to_end : (end : RunEnd) (before middle after : Point C W R) → RunsOn rules before middle → RunsOn (rules_at end rules) middle after → RunsToEnd end rules before after
  runs_to_end end before middle after goes ends = record {
    takes = takes_more rules.took before.results middle.results after.results goes.takes ends.takes;
    ends = λ first begun is. ends.goes first begun (runs_at_end end first begun middle (goes.goes first begun is));
  }

-- one part of a run after another, where the jobs of its numbers stay the same
pub runs_in_turn : {C W R : Type 0} (does : C → C → CacheCall W → Type 0) (world : World W) (may_stop : ℕ → Type 0) (took : R → R → ℕ → Done → Span → Type 0) (was then : ℕ → Job) → then ≡ was → (first second third : Point C W R)
    → RunsOn (rules_of does world may_stop was took) first second → RunsOn (rules_of does world may_stop then took) second third → RunsOn (rules_of does world may_stop was took) first third
runs_in_turn does world may_stop took was then same first second third once more =
    runs_then (rules_of does world may_stop was took) first second third once (runs_as does world may_stop took then was same second third more)

-- and up to its end
pub runs_whole : {C W R : Type 0} (does : C → C → CacheCall W → Type 0) (world : World W) (may_stop : ℕ → Type 0) (took : R → R → ℕ → Done → Span → Type 0) (end : RunEnd) (was then : ℕ → Job) → then ≡ was → (first second last : Point C W R)
    → RunsOn (rules_of does world may_stop was took) first second → RunsOn (rules_at end (rules_of does world may_stop then took)) second last → RunsToEnd end (rules_of does world may_stop was took) first last
runs_whole does world may_stop took end was then same first second last once ends =
    runs_to_end (rules_of does world may_stop was took) end first second last once (runs_as does world (may_stop_at end may_stop) took then was same second last ends)
