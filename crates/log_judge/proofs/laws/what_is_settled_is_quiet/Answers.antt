use Rattle.std.proofs.Common.{◌≡◌, ℕ, ◌≤◌, false, arith}
use Rattle.std.specs.Prelude.{nat_lt}
use Rattle.std.specs.List.{sum_by}
use Rattle.std.proofs.lemmas.Bool.Decides.{nat_tests}
use Rattle.log_judge.specs.declared.unrest.Unrest.TheVariants.{PastTotal, PastKept}
use Rattle.log_judge.specs.Tables.{open_at, idle_at}
use Rattle.log_judge.specs.AllHosts.{past_total, past_kept, has_room, first_waiting}
use Rattle.log_judge.proofs.SettledHosts.{untold, neither, none_at, quiet}
use Rattle.log_judge.proofs.laws.what_is_settled_is_quiet.Goals as goal
use Rattle.std.specs.Option.{option_or}

at_most : (a b : ℕ) → nat_lt a b ≡ false → b ≤ a
at_most a b not_so = grind (arith, nat_tests, not_so)

pub returns : goal.returns
returns c all none =
    let parts = neither (option_or (past_total all) (past_kept all)) (first_waiting (has_room all) 0 all.hosts) none in
    let limits = neither (past_total all) (past_kept all) parts.0 in
    let total = sum_by open_at all.hosts in
    let kept = sum_by idle_at all.hosts in (
      at_most all.limits.total total (untold (nat_lt all.limits.total total) (PastTotal total all.limits.total) limits.0),
      at_most all.limits.connects kept (untold (nat_lt all.limits.connects kept) (PastKept kept all.limits.connects) limits.1),
      λ site host there is sound.
          let not_so = none_at (has_room all) 0 site host all.hosts parts.1 there is in
          quiet (has_room all) host sound not_so.0 not_so.1,
    )
