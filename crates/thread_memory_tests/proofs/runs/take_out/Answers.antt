use Rattle.std.proofs.Common.{ℕ, ◌<◌, ◌-◌, List, length, arith}
use Rattle.std.specs.Prelude.{slice_index_or, slice_set}
use Rattle.std.specs.List.{All, swap_remove}
use Rattle.std.proofs.lemmas.List.Elements.{All-take, All-set, All-get_or, All-same}
use Rattle.bundle.specs.Passes.{Accounts}
use Rattle.shared_cache.specs.Passes.{IsPassOf}
use Rattle.thread_memory_tests.proofs.runs.take_out.Goals as goal

-- what is left once one was taken out
all_left : (P : Accounts → Type 0) (passes : List Accounts) (place : ℕ) (d : Accounts) → place < length passes → All P passes → All P (swap_remove passes place d)
all_left P passes place d there all =
    let last = slice_index_or passes (length passes - 1) d in
    let of_last : P last = All-get_or P passes (length passes - 1) d (omega arith) all in
    All-take P (length passes - 1) (slice_set passes place last) (All-set P passes place last of_last all)

pub returns-clause-passes : goal.returns-clause-passes
returns-clause-passes g c =
    let names = g.N.Names.names in
    let passes = c.args.passes.now in
    let there : c.args.place < length passes.items = omega (arith, c.requires.place, passes.ok.0) in
    All-same (IsPassOf names) c.swap_remove.new.self.items _ c.swap_remove.ensures.items
    (all_left (IsPassOf names) passes.items c.args.place _ there c.requires.passes)
