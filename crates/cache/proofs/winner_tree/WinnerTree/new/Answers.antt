use Rattle.std.proofs.Common.{◌≡◌, ℕ, ◌+◌, ◌-◌, List, [], ◌++◌, take, drop, replicate, Option, None, ap, ◌∙◌, arith}
use Rattle.std.proofs.Math.Seq.{take-nil}
use Rattle.std.proofs.lemmas.List.{drop-replicate}
use Rattle.conn_log.specs.declared.stamp.Stamp.{Stamp}
use Rattle.cache.proofs.winner_tree.WinnerTree.new.Goals as goal

-- of twice as many nodes those past the hosts are as many as the hosts
leaves : (hosts len : ℕ) (nodes old : List (Option Stamp)) → nodes ≡ take (hosts + hosts) old ++ replicate (hosts + hosts - len) None → old ≡ [] → len ≡ 0 → drop hosts nodes ≡ replicate hosts None
leaves hosts len nodes old all empty none =
    let behind : take (hosts + hosts) old ≡ [] = ap (take (hosts + hosts)) empty ∙ take-nil (hosts + hosts) in
    let filled : nodes ≡ replicate (hosts + hosts) None = all ∙ ap (λ (xs : List (Option Stamp)). xs ++ replicate (hosts + hosts - len) None) behind ∙ ap (λ (n : ℕ). replicate n None) (omega arith) in
    ap (drop hosts) filled ∙ drop-replicate hosts (hosts + hosts) None ∙ ap (λ (n : ℕ). replicate n None) (omega arith)

pub returns-clause-ok : goal.returns-clause-ok
returns-clause-ok c = leaves c.args.hosts _ c.resize.new.self.items c.new-nodes.result.items c.in_ok-resize.ensures.items c.new-nodes.ensures.items c.new-nodes.ensures.len
