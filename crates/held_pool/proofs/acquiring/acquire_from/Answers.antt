-- What the pool's acquire tells, for a transfer that had nothing.
use Rattle.held_pool.proofs.Nothing.{had_nothing, refused_why, refused_same}
use Rattle.held_pool.proofs.acquiring.acquire_from.Goals as goal

pub returns-clause-nothing : goal.returns-clause-nothing
returns-clause-nothing c =
    let rest = c.is_at_rest.ensures in
    had_nothing c.args.pool.now rest.at_rest rest.places c.args.site c.args.want c.acquire.result c.acquire.ensures.due

pub returns-clause-refused : goal.returns-clause-refused
returns-clause-refused c = refused_why c.args.pool.now c.acquire.new.self c.args.site c.args.want c.acquire.result c.acquire.ensures.refused

pub returns-clause-err : goal.returns-clause-err
returns-clause-err c = refused_same c.args.pool.now c.acquire.new.self c.args.site c.args.want c.acquire.result c.acquire.ensures.refused
