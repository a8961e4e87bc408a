use Rattle.std.proofs.Common.{drop, ap, ◌∙◌, rules}
use Rattle.loopback_server.proofs.Bytes.{after_drop}
use Rattle.loopback_server.proofs.received.Received.drop_front.Goals as goal

pub returns : goal.returns
returns c =
    after_drop c.self.inside.bytes.items c.self.inside.start c.self.inside.end c.args.count (search rules)
    ∙ ap (drop c.args.count) c.self.view_is
