use Rattle.std.proofs.Common.{◌≡◌, ◌≤◌, ◌+◌, ◌∷◌, ◌++◌, ℕ, List, [], length, replicate, sym, ap, subst, ◌∙◌, arith}
use Rattle.std.proofs.lemmas.List.{replicate_more, length-append}
use Rattle.script_engine.specs.Hosted.{NothingIsKept}
use Rattle.script_engine.proofs.PooledSites.{nothing-more, new-hosted, new-shown}
use Rattle.script_engine.proofs.hosts.PooledHosts.new.Goals as goal

pub loop-alloc-preserved : goal.loop-alloc-preserved
loop-alloc-preserved c =
    let so_far = c.loop-alloc.invariant in
    let told = c.loop-alloc.told.items in
    let kept = c.loop-alloc.kept.items in
    let here = c.new-in-loop-alloc.result in
    let more : length c.push_reserved.new.self.items ≡ length told + 1 = ap length c.push_reserved.ensures.items ∙ length-append told (0 ∷ []) in
    let more_kept : length c.push_reserved-in-loop-alloc.new.self.items ≡ length kept + 1 = ap length c.push_reserved-in-loop-alloc.ensures.items ∙ length-append kept (here ∷ []) in
    record {
      within = omega (arith, more);
      told = c.push_reserved.ensures.items ∙ ap (λ (l : List ℕ). l ++ 0 ∷ []) so_far.told ∙ replicate_more (length told) 0 ∙ ap (λ (n : ℕ). replicate n 0) (sym more);
      count = more_kept ∙ ap (λ (n : ℕ). n + 1) so_far.count ∙ sym more;
      nothing = subst NothingIsKept (sym c.push_reserved-in-loop-alloc.ensures.items) (nothing-more kept here so_far.nothing c.new-in-loop-alloc.ensures.leases c.new-in-loop-alloc.ensures.tickets);
      room = subst (λ (n : ℕ). c.args.sites ≤ n) (sym c.push_reserved.ensures.capacity) so_far.room;
      room_kept = subst (λ (n : ℕ). c.args.sites ≤ n) (sym c.push_reserved-in-loop-alloc.ensures.capacity) so_far.room_kept;
    }

pub invariant_of-result : goal.invariant_of-result
invariant_of-result c =
    let done = c.loop-alloc.invariant in
    let all : length c.loop-alloc.told.items ≡ c.args.sites = omega arith in
    new-hosted c.args.limits c.args.sites c.in-Ok.pool c.loop-alloc.kept.items c.loop-alloc.told.items c.in-Ok.ensures.new_pool (done.count ∙ all) done.nothing
    (done.told ∙ ap (λ (n : ℕ). replicate n 0) all)

pub returns-clause-ok : goal.returns-clause-ok
returns-clause-ok c =
    let done = c.loop-alloc.invariant in
    let all : length c.loop-alloc.told.items ≡ c.args.sites = omega arith in
    new-shown c.args.limits c.args.sites c.in-Ok.pool c.loop-alloc.kept.items c.loop-alloc.told.items c.in-Ok.ensures.new_pool (done.count ∙ all) done.nothing
