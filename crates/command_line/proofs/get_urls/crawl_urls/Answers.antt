-- Each URL is made, in order.
use Rattle.std.proofs.Common.{◌≡◌, List, [], ◌∷◌, ◌++◌, false, ap, sym, ◌∙◌, subst, map, string_bytes, append-nil}
use Rattle.std.specs.Prelude.{reverse}
use Rattle.std.specs.List.{All, Any}
use Rattle.std.proofs.lemmas.List.Elements.{All-push}
use Rattle.clap.specs.Words.{Text}
use Rattle.commands.specs.Given.{url_texts}
use Rattle.commands.specs.Urls.{IsBadUrl}
use Rattle.command_line.specs.GetPlans.{IsGoodUrl}
use Rattle.command_line.specs.Refusals.{IsWhy}
use Rattle.command_line.proofs.Plans.{bad-next, first-url, made-first, made-more, none-left}
use Rattle.command_line.proofs.Refusals.{handed-on, why-else}
use Rattle.command_line.proofs.get_urls.crawl_urls.Goals as goal

pub returns-in_err-url-clause-refused : goal.returns-in_err-url-clause-refused
returns-in_err-url-clause-refused c =
    let made = url_texts c.loop-text.made.items in
    let left = map string_bytes (reverse c.pop.new.self.items) in
    let url = string_bytes c.in-Some.text in
    let urls = map string_bytes c.args.urls.items in
    let refusal = c.in_err-url.field-0.0 in
    let first = first-url c.loop-text.left.items c.pop.new.self.items c.in-Some.text c.in-Some.ensures.items in
    let all : made ++ url ∷ left ≡ urls = ap (λ l. made ++ l) (sym first) ∙ c.loop-text.invariant.texts in
    let Bad = (c.args.skip_bad ≡ false) × Any IsBadUrl urls in
    let why = why-else ((c.args.skip_bad ≡ false) × IsBadUrl url) Bad refusal
    (λ bad. (bad.0, subst (Any IsBadUrl) all (bad-next made left url bad.1))) c.in_err-url.ensures.refused in
    handed-on Bad refusal c.from_residual.result c.from_residual.ensures.1 why

pub loop-text-preserved : goal.loop-text-preserved
loop-text-preserved c =
    let made = url_texts c.loop-text.made.items in
    let left = map string_bytes (reverse c.pop.new.self.items) in
    let url = string_bytes c.in-Some.text in
    let first = first-url c.loop-text.left.items c.pop.new.self.items c.in-Some.text c.in-Some.ensures.items in
    let more : url_texts c.push.new.self.items ≡ made ++ url ∷ [] =
    made-more c.loop-text.made.items c.push.new.self.items c.in_ok-url.url c.in-Ok.ensures.items ∙ ap (λ (text : Text). made ++ text ∷ []) c.in_ok-url.ensures.text in
    record {
      texts = made-first made (url_texts c.push.new.self.items) left url more ∙ ap (λ l. made ++ l) (sym first) ∙ c.loop-text.invariant.texts;
      good = λ kept. subst (All IsGoodUrl) (sym more) (All-push IsGoodUrl made url (c.loop-text.invariant.good kept) (c.in_ok-url.ensures.good kept));
    }

pub returns-clause-good : goal.returns-clause-good
returns-clause-good c = λ kept.
    let made = url_texts c.loop-text.made.items in
    let none = none-left c.loop-text.left.items (sym c.loop-text.left.ok.0 ∙ c.in_default.ensures.cases.0) in
    let all : made ≡ map string_bytes c.args.urls.items = sym (append-nil made) ∙ ap (λ l. made ++ l) (sym none) ∙ c.loop-text.invariant.texts in
    subst (All IsGoodUrl) all (c.loop-text.invariant.good kept)
