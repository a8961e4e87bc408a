use Rattle.std.proofs.Common.{◌≡◌, ◌++◌, ◌∷◌, [], rules}
use Rattle.std.specs.Vec.{vec_capacity}
use Rattle.conn_key.specs.Site.{site_of}
use Rattle.conn_key.proofs.SitesLemmas.{IsSiteList-push, IsIndexed-push}
use Rattle.conn_key.proofs.sites.Sites.add.Goals as goal

pub invariant_of-self-2 : goal.invariant_of-self-2
invariant_of-self-2 c =
    let sites = c.self.inside.list.items in
    let site = site_of c.args.target.now in
    let pushed : c.push_reserved.new.self.items ≡ sites ++ site ∷ [] = search rules in
    rw pushed
    (IsIndexed-push c.self.inside.places c.note.new.places sites site
    (vec_capacity c.push_reserved.new.self)
    (search rules) (search rules) (search rules) (search rules))

pub returns-clause-valid : goal.returns-clause-valid
returns-clause-valid c = search (rules, IsSiteList-push)
