use Rattle.std.proofs.Common.{◌≡◌, rules}
use Rattle.conn_key.specs.Site.{site_of}
use Rattle.conn_key.specs.Sites.{index_of}
use Rattle.conn_key.proofs.SitesLemmas.{IfSome-index_of}
use Rattle.conn_key.proofs.sites.Sites.find.Goals as goal

pub returns-clause-stands : goal.returns-clause-stands
returns-clause-stands c =
    let site = site_of c.args.target.now in
    let found : c.copied.result ≡ index_of c.args.self.now site = search rules in
    IfSome-index_of c.copied.result c.args.self.now site found
