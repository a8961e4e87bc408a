use Rattle.std.proofs.Common.{◌+◌, ◌-◌, ◌++◌, length, take, ap, ◌∙◌, arith, rules, length-take-le}
use Rattle.std.specs.List.{slice_range}
use Rattle.std.proofs.lemmas.List.{with_items_is, places}
use Rattle.loopback_server.proofs.Bytes.{after_read}
use Rattle.loopback_server.proofs.received.Received.read_from.Goals as goal
use borrow.Rule.Slice.PartMut.{put_mid}

pub returns-clause-read : goal.returns-clause-read
returns-clause-read g c =
    let count = c.in_ok-count.count in
    let had = c.self.inside.end - c.self.inside.start in
    let moved = c.deref_mut.result.now in
    let read = c.read.new.buf in
    record {
      more = take count read;
      all = length-take-le count read (c.in_ok-count.ensures.bound.0);
      read = c.in_ok-count.ensures.bytes.0;
      added =
          ap (λ items. slice_range items 0 (had + count)) (with_items_is c.copy_within.new.self (put_mid had (length moved - had) moved read) (search (rules, places)))
          ∙ after_read c.self.inside.bytes.items moved read c.self.inside.start c.self.inside.end (length moved - had) count (search rules) (search rules) (search rules) (omega arith) (search rules) (search rules)
          ∙ ap (λ front. front ++ take count read) c.self.view_is;
    }
