use Rattle.std.proofs.Common.{◌≡◌, List, ℕ, sym, ◌∙◌, subst, inr, refl}
use Rattle.std.specs.Str.{IsUtf8}
use Rattle.conn_key.specs.Target.{GivesTarget, Refuses}
use Rattle.script_text.proofs.Sites.{bytes-name-nothing, names-site, refused-word}
use Rattle.script_text.proofs.site.SiteWord.target.Goals as goal

pub returns-in_default-clause-err : goal.returns-in_default-clause-err
returns-in_default-clause-err g c = inr (refl, rw (sym c.self.view_is) (bytes-name-nothing c.self.inside.bytes.now c.in_default.ensures.cases.0))

pub returns-in-Ok-read_target-clause-ok : goal.returns-in-Ok-read_target-clause-ok
returns-in-Ok-read_target-clause-ok g c =
    let same : c.in-Ok.text.now ≡ c.args.self.now = c.in-Ok.ensures.cases.0 ∙ c.self.view_is in
    names-site c.args.self.now c.in-Ok-read_target.target (subst IsUtf8 c.self.view_is c.in-Ok.ensures.cases.1)
    (subst (λ (text : List ℕ). GivesTarget text c.in-Ok-read_target.target) same c.in-Ok-read_target.ensures.target)

pub returns-in-Err-clause-err : goal.returns-in-Err-clause-err
returns-in-Err-clause-err g c =
    let same : c.in-Ok.text.now ≡ c.args.self.now = c.in-Ok.ensures.cases.0 ∙ c.self.view_is in
    rw (sym c.fault_of.ensures) at (refused-word c.args.self.now c.in-Err.error (subst IsUtf8 c.self.view_is c.in-Ok.ensures.cases.1)
    (subst (λ (text : List ℕ). Refuses text c.in-Err.error) same c.in-Err.ensures.refused))
