use Rattle.std.proofs.Common.{reverse, ap, ◌∙◌}
use Rattle.std.proofs.lemmas.List.{reverse-reverse}
use Rattle.conn_log.specs.Bases.{Summary, summary, past_of, rest_of}
use Rattle.conn_log.specs.Behind.{holder_behind}
use Rattle.conn_log.proofs.Rests.{tells_of}
use Rattle.conn_log.proofs.readers.holder.Goals as goal

pub returns-clause-behind : goal.returns-clause-behind
returns-clause-behind c =
    let turned = ap reverse c.rest.ensures.entries ∙ reverse-reverse (rest_of c.args.log.now) in
    c.held_by.ensures ∙ ap (λ (base : Summary). holder_behind base (reverse c.rest.result.now) c.args.connection) c.base.ensures ∙ ap (λ log. holder_behind (summary (past_of c.args.log.now)) log c.args.connection) turned

pub returns-clause-whole : goal.returns-clause-whole
returns-clause-whole c settings legal = returns-clause-behind c ∙ (tells_of c.args.log.now settings legal).holders c.args.connection
