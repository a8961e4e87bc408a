-- The cut of a log changes no table.
use Rattle.cache.proofs.Homes.{home_cut}
use Rattle.crawl.proofs.host_cache.cut_if_long.Goals as goal

pub returns : goal.returns
returns g c = home_cut c.cut-entries.result (λ part. part.items) _ c.args.place c.args.pool.now c.cut-entries.new.self c.cut-entries.ensures.done c.cut-entries.ensures.refused
