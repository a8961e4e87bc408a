use Rattle.std.proofs.Common.{◌≡◌, ◌≤◌, length, vec_len, vec_capacity}
use Rattle.load_run.proofs.tools.alarms_of.Given as goal

abbrev pub invariant-loop-own : goal.invariant-loop-own
invariant-loop-own l = record { number : vec_len l.alarms ≡ l.own-index; room : length l.fn.tools ≤ vec_capacity l.alarms }
