use Rattle.std.proofs.Common.{◌≡◌, ◌++◌, string_bytes, take}
use Rattle.load_run.specs.LoadSites.{site_lines}
use Rattle.load_run.proofs.load.sites.LoadSites.add_lines.Given as goal

-- the lines of the sites so far
abbrev pub invariant-loop-site : goal.invariant-loop-site
invariant-loop-site l = string_bytes l.text ≡ string_bytes l.fn.text ++ site_lines (take l.site-index l.self.sites.items)
