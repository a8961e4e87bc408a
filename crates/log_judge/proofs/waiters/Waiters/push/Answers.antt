use Rattle.std.proofs.Common.{◌≡◌, ◌-◌, ◌≤◌, ◌++◌, false, List, [], ◌∷◌, length, refl, ap, ◌∙◌, arith}
use Rattle.std.specs.Map.{values_of}
use Rattle.conn_log.specs.declared.entry.Want.{Want}
use Rattle.log_judge.specs.Waiters.{is_among_waiters}
use Rattle.log_judge.proofs.WaitersInOrder.{put_first, once_first, reverse_first}
use Rattle.log_judge.proofs.waiters.Waiters.push.Goals as goal

pub invariant_of-self-2 : goal.invariant_of-self-2
invariant_of-self-2 c =
    let cache = c.self.inside.by_transfer in
    let new : is_among_waiters _ c.args.want.transfer ≡ false = ap (λ (wants : List Want). is_among_waiters wants c.args.want.transfer) c.self.view_is ∙ c.requires in
    let fits : length cache.entries ≤ cache.cap - 1 = omega (arith, c.self.invariant.cap, c.len-few.ensures.fits, c.len-few.ensures.len) in
    rw (c.in_ok-put.ensures.entries, put_first cache c.args.want c.self.invariant.keyed new fits) (record {
      keyed = (refl, c.self.invariant.keyed);
      once = once_first c.args.want (values_of cache.entries) c.self.invariant.once new;
      cap = c.self.invariant.cap;
    })

pub returns-clause-ok : goal.returns-clause-ok
returns-clause-ok c =
    let cache = c.self.inside.by_transfer in
    let new : is_among_waiters _ c.args.want.transfer ≡ false = ap (λ (wants : List Want). is_among_waiters wants c.args.want.transfer) c.self.view_is ∙ c.requires in
    let fits : length cache.entries ≤ cache.cap - 1 = omega (arith, c.self.invariant.cap, c.len-few.ensures.fits, c.len-few.ensures.len) in
    rw (c.in_ok-put.ensures.entries, put_first cache c.args.want c.self.invariant.keyed new fits) (reverse_first c.args.want (values_of cache.entries) ∙ ap (λ (wants : List Want). wants ++ c.args.want ∷ []) c.self.view_is)
