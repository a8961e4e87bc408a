use Rattle.std.proofs.Common.{◌≡◌, ◌≤◌, length, vec_capacity}
use Rattle.load_run.specs.Logs.{AreLogsFrom}
use Rattle.load_run.proofs.logs.cut_logs.Given as goal

abbrev pub invariant-loop-site : goal.invariant-loop-site
invariant-loop-site g l = record {
  so_far : AreLogsFrom g.row.S.Denot g.N.Names.names 0 l.logs.items;
  count_is : length l.logs.items ≡ l.site;
  room : l.hosts ≤ vec_capacity l.logs;
}
