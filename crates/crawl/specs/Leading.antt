-- The targets of URLs.
use Rattle.std.specs.Prelude.{ℕ, List}
use Rattle.conn_key.specs.Target.{GivesTarget}
use Rattle.commands.specs.Urls.{IsBadText}
use Rattle.crawl.specs.declared.route.Route.{Route}
use Rattle.crawl.specs.declared.route.Route.TheVariants.{To, Bad}

-- a URL leads to this target, or it is bad
abbrev pub LeadsAs : List ℕ → Route → Type 0
LeadsAs url (To target host_key) = GivesTarget url target
LeadsAs url Bad = IsBadText url
