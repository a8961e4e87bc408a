use Rattle.std.proofs.Common.{◌≡◌, drop, length, take}
use Rattle.load_run.specs.LoadSites.{AreAllBelow, AreSitesOf}
use Rattle.commands.specs.Numbering.{AreNumbered}
use Rattle.load_run.proofs.load.sites.LoadSites.of.Given as goal

abbrev pub invariant-loop-job : goal.invariant-loop-job
invariant-loop-job l = record {
  are : AreSitesOf l.jobs l.resolved 0 l.sites.items;
  counted : l.count ≡ length l.sites.items;
  below : AreAllBelow l.count (take l.job-index l.jobs);
  numbered : AreNumbered l.count (drop l.job-index l.jobs);
}
