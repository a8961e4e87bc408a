use Rattle.std.proofs.Common.{rules, tests, arith, ◌≡◌, ◌<◌, ◌≤◌, ◌++◌, length, take, drop}
use Rattle.std.proofs.lemmas.Grind.{common_steps}
use Rattle.exchange_memory.proofs.Answered.{answers_more}
use Rattle.exchange_memory.proofs.memory_wire.MemoryWireWire.read.Goals as goal

pub returns : goal.returns
returns c =
    let w = c.args.self.now in
    let n = c.min-count.result in
    let copied = c.copy_from_slice.new.self in
    let rest = drop n c.args.buffer.now in
    let some : 0 < n = search (tests, rules) in
    let len : length copied ≡ n = search rules in
    let from : copied ≡ take n (drop w.place w.response.items) = search rules in
    let fits : n ≤ length (copied ++ rest) = grind (arith, common_steps) in
    let answered = answers_more w.response.items copied rest w.place n from len in
    search (rules, some, fits, answered)
