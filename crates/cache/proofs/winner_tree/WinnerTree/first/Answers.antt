use Rattle.std.proofs.Common.{arith}
use Rattle.cache.proofs.Tournaments.{reads_earliest, reads_own}
use Rattle.cache.proofs.winner_tree.WinnerTree.first.Goals as goal

pub returns : goal.returns
returns c =
    let tree = c.self.inside in
    record {
      earliest = reads_earliest tree.hosts tree.nodes.items c.self.invariant _ c.self.view_is _ c.index.ensures (omega arith);
      own = reads_own tree.hosts tree.nodes.items c.self.invariant _ c.self.view_is _ c.index.ensures (omega arith);
    }
