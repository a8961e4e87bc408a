-- The lines that were written are those of the site's log.
use Rattle.std.proofs.Common.{◌≡◌, inl, refl}
use Rattle.cache.specs.Pools.{host_at}
use Rattle.curlpool_c.proofs.Telling.{writes_of_site}
use Rattle.curlpool_c.proofs.logs.tell_log.Goals as goal

pub returns-in_default-stop : goal.returns-in_default-stop
returns-in_default-stop c =
    let lines = c.write_lines-lines in
    let some = c.in-Some.ensures.some in
    let legal = c.in-Some.ensures.legal some.0 in
    inl (record {
      told = lines.result;
      there = some.0;
      writes = writes_of_site (host_at c.args.held.now.pool c.args.site) c.in-Some.log.now some.1 c.in-Some.ensures.cut legal c.args.site c.args.told.now lines.result c.args.buffer.now lines.new.buffer lines.ensures.lines;
      count = refl;
      ends = rw c.in_default-stop.is c.cut_told.ensures;
    })

pub returns : goal.returns
returns c =
    let lines = c.write_lines-lines in
    let some = c.in-Some.ensures.some in
    let legal = c.in-Some.ensures.legal some.0 in
    inl (record {
      told = lines.result;
      there = some.0;
      writes = writes_of_site (host_at c.args.held.now.pool c.args.site) c.in-Some.log.now some.1 c.in-Some.ensures.cut legal c.args.site c.args.told.now lines.result c.args.buffer.now lines.new.buffer lines.ensures.lines;
      count = refl;
      ends = rw c.in-Some-stop.is (refl, (refl, c.stop_status.ensures));
    })
